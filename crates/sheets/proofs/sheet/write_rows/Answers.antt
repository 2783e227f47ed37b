use Rattle.std.proofs.Common.{◌≡◌, ◌+◌, length, ap, ◌∙◌, arith}
use Rattle.frames.specs.Frames.{over}
use Rattle.sheets.specs.Runs.{row_runs}
use Rattle.sheets.specs.Sheets.{run_lines, lines_left}
use Rattle.sheets.proofs.Framing.{rows_none, rows_more, rows_all, room_for_the_row}
use Rattle.sheets.proofs.sheet.write_rows.Goals as goal
use Rattle.sheets.proofs.sheet.write_rows.Goals.{After-of}

pub loop-row-init : goal.loop-row-init
loop-row-init g c = let p = g.S.Plane.picture c.args.store.now in rows_none p.number (g.S.Store.bits c.args.store.now) p.width c.args.out.now c.args.start

-- the lines of a row
lines : (g : _) (c : After-of g) → lines_left g.S.Plane g.S.Store c.of.result.store.now c.of.result.row c.of.result.columns c.of.result.column
    ≡ run_lines (g.S.Plane.picture c.args.store.now).number (row_runs (g.S.Store.bits c.args.store.now c.loop-row.row) c.loop-row.row (g.S.Plane.picture c.args.store.now).width (g.S.Plane.picture c.args.store.now).width)
lines g c = λ i. run_lines (g.S.Plane.picture (c.of.ensures.is_of_the_store i)).number (c.of.ensures.are_the_rows_runs i)

pub write_row-at-requires : goal.write_row-at-requires
write_row-at-requires g c =
    let p = g.S.Plane.picture c.args.store.now in
    let room = room_for_the_row p.number (g.S.Store.bits c.args.store.now) p.width c.args.out.now c.args.start c.loop-row.row p.height c.loop-row.at c.loop-row.out (omega arith) c.loop-row.invariant c.requires in
    record { room = omega (arith, room, ap length (lines g (goal.at.write_row-at-requires g c).After-of)) }

pub loop-row-preserved : goal.loop-row-preserved
loop-row-preserved g c =
    let p = g.S.Plane.picture c.args.store.now in
    let e = lines g (goal.at.loop-row-preserved g c).After-of in
    rows_more p.number (g.S.Store.bits c.args.store.now) p.width c.args.out.now c.args.start c.loop-row.row c.loop-row.at c.write_row-at.result c.loop-row.out c.write_row-at.new.out
    (omega (arith, c.requires)) c.loop-row.invariant (c.write_row-at.ensures.writes_their_lines ∙ ap (over c.loop-row.out c.loop-row.at) e)
    (c.write_row-at.ensures.answers_their_end ∙ ap (λ z. c.loop-row.at + length z) e)

pub returns : goal.returns
returns g c =
    let p = g.S.Plane.picture c.args.store.now in
    let all = rows_all p.number (g.S.Store.bits c.args.store.now) p.width c.args.out.now c.args.start p.height c.loop-row.row c.loop-row.at c.loop-row.out (omega arith) c.loop-row.invariant in
    record { writes_the_lines = all.0; answers_their_end = all.1 }
