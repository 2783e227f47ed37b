use Rattle.std.proofs.Common.{◌≡◌, ◌∙◌, arith}
use Rattle.wavelets.proofs.Counts.{count_cells_none, count_cells_more}
use Rattle.cones.specs.Cones.{cone_cells}
use Rattle.cones.proofs.Counting.{rows_total, after_is, is_after, counted}
use Rattle.cones.proofs.cone.Cone.count.Goals as goal

pub loop-row-preserved : goal.loop-row-preserved
loop-row-preserved c =
    let k = c.args.self.now in let C = k.columns.side in
    let before = after_is (rows_total C (cone_cells k)) (count_cells_none C (cone_cells k)) c.loop-row.row c.loop-row.count c.loop-row.invariant.0 in
    let more = c.count_row.ensures.counts_the_row ∙ counted (cone_cells k c.loop-row.row) C in
    (is_after (rows_total C (cone_cells k)) (count_cells_none C (cone_cells k)) _ _ (grind (arith, count_cells_more)), omega arith)

pub returns : goal.returns
returns c =
    let k = c.args.self.now in let C = k.columns.side in
    let all = after_is (rows_total C (cone_cells k)) (count_cells_none C (cone_cells k)) c.loop-row.row c.loop-row.count c.loop-row.invariant.0 in
    let e : c.loop-row.row ≡ k.rows.side = omega arith in
    record { counts_the_cells = rw e at all }
