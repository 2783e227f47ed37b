use Rattle.sheets.proofs.Framing.{WrittenRows}
use Rattle.sheets.proofs.sheet.write_rows.Given as goal

abbrev pub invariant-loop-row : goal.invariant-loop-row
invariant-loop-row g l = WrittenRows (g.S.Plane.picture l.store).number (g.S.Store.bits l.store) (g.S.Plane.picture l.store).width l.row l.initial.out l.out l.start l.at
