use Rattle.std.proofs.Common.{sym, ◌∙◌}
use Rattle.sheets.proofs.Walking.{left_none}
use Rattle.sheets.proofs.runs.RunsIterator.next.Goals as goal

pub returns-clause-steps : goal.returns-clause-steps
returns-clause-steps g c =
    let s = c.loop-self.self in
    let none = left_none (g.S.Store.bits s.store.now) s.row s.columns s.column c.loop-self-test.false in
    (sym c.loop-self.invariant ∙ none, none)
