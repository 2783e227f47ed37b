-- No run has ended so far.
use Rattle.std.proofs.Common.{◌-◌, ◌≡◌}
use Rattle.sheets.specs.Runs.{runs_left}
use Rattle.sheets.proofs.runs.RunsIterator.next.Given as goal

abbrev pub invariant-loop-self : goal.invariant-loop-self
invariant-loop-self g l =
    runs_left (g.S.Store.bits l.self.store.now) l.self.row l.self.columns l.self.column
    ≡ runs_left (g.S.Store.bits l.initial.self.store.now) l.initial.self.row l.initial.self.columns l.initial.self.column

abbrev pub decreases-loop-self : goal.decreases-loop-self
decreases-loop-self g l = l.self.columns - l.self.column
