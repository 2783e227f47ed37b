use Rattle.std.proofs.Common.{◌≡◌, ℕ, List, length, vec_items, sym, ap, ◌∙◌, subst, rules}
use Rattle.std.specs.Vec.{with_items}
use Rattle.std.specs.Option.{option_map}
use Rattle.std.proofs.lemmas.List.{with_items_is}
use Rattle.std.proofs.lemmas.Result.{IfOk-weaker}
use Rattle.tiles.specs.Formatting.{Formatted}
use Rattle.workshop_job.specs.Files.{new_length}
use Rattle.workshop_job.proofs.Filing.{new_of_file, new_refused}
use Rattle.workshop_job.proofs.filed.perform_new_file.Goals as goal

pub returns-in-Err : goal.returns-in-Err
returns-in-Err c =
    let l : length c.deref_mut.result.now ≡ new_length c.args.rows c.args.columns = search rules in
    record {
      after_every_call_nothing_differs = IfOk-weaker c.declined.result _ _
          (λ x p. new_refused c.args.number c.args.kernel c.args.rows c.args.columns (length c.deref_mut.result.now) c.args.turns.now c.args.endings.now c.in-Err.fault (vec_items x.text)
          (option_map vec_items x.file) l c.in-Err.ensures.formats_the_file_or_declines.0 p.0 (ap (option_map vec_items) p.1))
          c.declined.ensures.prints_the_fault;
    }

pub returns-in-Ok : goal.returns-in-Ok
returns-in-Ok c =
    let l : length c.deref_mut.result.now ≡ new_length c.args.rows c.args.columns = search rules in
    let d = c.in-Ok.ensures.formats_the_file_or_declines in
    let v = c.in_ok-bytes.bytes in
    let F : List ℕ → Type 0 = λ z. Formatted c.args.rows c.args.columns c.deref_mut.result.now z in
    let filled : vec_items (with_items v c.format.new.bytes) ≡ c.format.new.bytes = with_items_is v c.format.new.bytes (c.format.auto.bytes ∙ c.deref_mut.ensures.len) in
    record {
      after_every_call_nothing_differs = IfOk-weaker c.perform_file.result _ _
          (λ x p. new_of_file c.args.number c.args.kernel c.args.rows c.args.columns c.deref_mut.result.now (vec_items (with_items v c.format.new.bytes)) c.args.turns.now _ c.args.endings.now
          (vec_items x.text) (option_map vec_items x.file) l d.0 (subst F (sym filled) d.1) p)
          c.perform_file.ensures.after_every_call_nothing_differs;
    }
