-- Copied, undone so far, and taken back.
use Rattle.std.proofs.Common.{sym, subst}
use Rattle.lifting.specs.Passes.{cell_undo, ShowsTheRoundsBelow}
use Rattle.works.specs.Works.{SameSides, Uncovers}
use Rattle.works.proofs.Laid.{worked_sides}
use Rattle.works.proofs.Previewed.{uncovers}
use Rattle.works.proofs.transform.Transform.uncovered.Goals as goal

pub returns : goal.returns
returns g c =
    let P = g.W.Plane.picture in let f = g.A.Plane.picture c.args.from.now in
    let q = P c.copy.result.store in let o = P c.undo.result.store in
    let K = g.K.Kernel.amounts c.args.self.now.kernel.now in let L = c.args.self.now.levels.number in let k = c.args.level.number in
    let copied = c.copy.ensures in let undone = c.undo.ensures in let back = sym c.into_store.ensures.is_the_store in
    let all =
    uncovers K L k f (P c.args.work) q o c.requires.among_the_levels c.requires.same_sides copied.writes_every_cell
    (worked_sides (cell_undo K c.copy.result.numbers.level.number k) q o undone.undoes_the_rounds)
    (subst (λ z. ShowsTheRoundsBelow K z k q o) copied.has_the_level undone.shows_the_rounds_below_within_the_budget) in
    record {
      has_the_same_sides = subst (λ z. SameSides f (P z)) back all.0;
      shows_the_rounds_below = subst (λ z. Uncovers K L k f (P z)) back all.1;
    }
