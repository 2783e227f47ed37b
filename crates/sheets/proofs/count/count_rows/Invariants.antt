use Rattle.sheets.proofs.Sizes.{PassedRows}
use Rattle.sheets.proofs.count.count_rows.Given as goal

abbrev pub invariant-loop-row : goal.invariant-loop-row
invariant-loop-row g l = PassedRows (g.S.Plane.picture l.store).number (g.S.Store.bits l.store) (g.S.Plane.picture l.store).width l.row l.counts.runs l.counts.cells
