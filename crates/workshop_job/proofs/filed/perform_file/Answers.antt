use Rattle.std.proofs.Common.{vec_items, sym, ap, ◌∙◌}
use Rattle.std.specs.Option.{option_map}
use Rattle.std.proofs.lemmas.Result.{IfOk-weaker}
use Rattle.tiles.specs.Opening.{tile_fault}
use Rattle.workshop_job.proofs.Filing.{filed, refused}
use Rattle.workshop_job.proofs.filed.perform_file.Goals as goal

pub returns-in-Some : goal.returns-in-Some
returns-in-Some c = record {
  after_every_call_nothing_differs = IfOk-weaker c.declined.result _ _
      (λ x p. refused c.args.number c.args.kernel (vec_items c.args.bytes) c.args.turns.now c.args.endings.now c.in-Some.fault (vec_items x.text) (option_map vec_items x.file)
      (ap tile_fault (sym c.deref.ensures.value) ∙ sym c.in-Some.ensures.is_the_first_that_holds) p.0 (ap (option_map vec_items) p.1))
      c.declined.ensures.prints_the_fault;
}

pub returns-in_ok-text-in-None : goal.returns-in_ok-text-in-None
returns-in_ok-text-in-None c = record {
  after_every_call_nothing_differs = filed c.args.number c.args.kernel (vec_items c.args.bytes) (vec_items c.open-store.result.bytes) (vec_items c.in_ok-text-in-None.store.bytes) (vec_items c.into_bytes.result)
      c.args.turns.now c.perform.new.turns c.args.endings.now (vec_items c.in_ok-text-in-None.text)
      (ap tile_fault (sym c.deref.ensures.value) ∙ sym c.in-None.ensures.is_the_first_that_holds)
      (ap vec_items c.open-store.ensures.keeps_every_byte) (ap vec_items c.into_bytes.ensures.hands_the_bytes_back) c.in_ok-text-in-None.ensures.after_every_call_nothing_differs;
}
