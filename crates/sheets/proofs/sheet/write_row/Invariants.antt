-- The runs so far are written.
use Rattle.sheets.specs.Runs.{runs_left}
use Rattle.sheets.proofs.Framing.{Written}
use Rattle.sheets.proofs.sheet.write_row.Given as goal

abbrev pub invariant-loop-run : goal.invariant-loop-run
invariant-loop-run g l =
    Written (g.S.Plane.picture l.initial.runs.store.now).number (runs_left (g.S.Store.bits l.initial.runs.store.now) l.initial.runs.row l.initial.runs.columns l.initial.runs.column) l.yielded
    (runs_left (g.S.Store.bits l.run-iterator.store.now) l.run-iterator.row l.run-iterator.columns l.run-iterator.column) l.initial.out l.out l.start l.at
