-- So far the count is that of the rows passed, and no row has more than 2^64 − 1 cells.
use Rattle.std.proofs.Common.{◌-◌, ◌*◌, ◌^◌, ◌≤◌}
use Rattle.cones.specs.Cones.{cone_cells}
use Rattle.cones.proofs.Counting.{After, rows_total}
use Rattle.cones.proofs.cone.Cone.count.Given as goal

abbrev pub invariant-loop-row : goal.invariant-loop-row
invariant-loop-row l = After (rows_total l.self.columns.side (cone_cells l.self)) l.row l.count × (l.count ≤ (2 ^ 64 - 1) * l.row)
