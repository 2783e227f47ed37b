-- The runs so far are counted.
use Rattle.sheets.specs.Runs.{runs_left}
use Rattle.sheets.proofs.Sizes.{Counted}
use Rattle.sheets.proofs.count.count_row.Given as goal

abbrev pub invariant-loop-run : goal.invariant-loop-run
invariant-loop-run g l =
    Counted (g.S.Plane.picture l.initial.runs.store.now).number (runs_left (g.S.Store.bits l.initial.runs.store.now) l.initial.runs.row l.initial.runs.columns l.initial.runs.column) l.yielded
    (runs_left (g.S.Store.bits l.run-iterator.store.now) l.run-iterator.row l.run-iterator.columns l.run-iterator.column) l.counts.runs l.counts.cells
