use Rattle.std.proofs.Common.{◌≡◌, ◌+◌, ap, ◌∙◌, arith, w32, SFits, to_z, of_z, rules}
use Rattle.std.proofs.lemmas.Int.{to_z-of_z}
use Rattle.sheets.specs.Sheets.{number_bytes}
use Rattle.sheets.proofs.Framing.{bytes_none, bytes_more, bytes_all}
use Rattle.sheets.proofs.frame.fill_frame.Goals as goal

pub loop-i-init : goal.loop-i-init
loop-i-init g c = bytes_none (g.S.Plane.picture c.args.store.now).number c.args.run.row c.args.run.first c.put.new.frame

pub loop-i-preserved : goal.loop-i-preserved
loop-i-preserved g c =
    let f : SFits w32 c.number_at-number.result = search rules in
    let z : to_z w32 (of_z w32 c.number_at-number.result) ≡ (g.S.Plane.picture c.args.store.now).number c.args.run.row (c.args.run.first + c.loop-i.i) =
    to_z-of_z w32 c.number_at-number.result f ∙ c.number_at-number.ensures.is_the_number in
    c.put-in-loop-i.ensures.writes_the_bytes
    ∙ bytes_more (g.S.Plane.picture c.args.store.now).number c.args.run.row c.args.run.first c.put.new.frame c.loop-i.frame c.cell_bytes.result c.loop-i.i
    (omega arith) c.loop-i.invariant (c.cell_bytes.ensures.are_its_bytes ∙ ap number_bytes z)

pub returns : goal.returns
returns g c = record {
  writes_the_frame = bytes_all (g.S.Plane.picture c.args.store.now).number c.args.run c.args.frame.now c.put.new.frame c.loop-i.frame c.run_head.result c.loop-i.i
      (omega arith) (omega arith) c.run_head.ensures.is_the_runs_head c.put.ensures.writes_the_bytes c.loop-i.invariant;
}
