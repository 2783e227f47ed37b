-- Copied, restored, replaced, lifted again, and taken back.
use Rattle.std.proofs.Common.{length, sym, subst}
use Rattle.lifting.specs.Passes.{cell_forward, cell_undo, ShowsTheRoundsBelow}
use Rattle.overlays.specs.Samples.{samples_at}
use Rattle.works.specs.Works.{SameSides, Settles}
use Rattle.works.proofs.Laid.{worked_sides}
use Rattle.works.proofs.Settled.{reworks}
use Rattle.works.proofs.transform.Transform.reworked.Goals as goal

pub returns : goal.returns
returns g c =
    let P = g.W.Plane.picture in
    let f = g.A.Plane.picture c.args.from.now in let xs = samples_at c.args.samples.now in
    let q = P c.copy.result.store in let o = P c.restore-before.result.store in
    let m = P c.replace.result.store in let w = P c.lift.result.store in
    let copied = c.copy.ensures in let undone = c.restore-before.ensures in let patched = c.replace.ensures in let lifted = c.lift.ensures in
    let back = sym c.into_store.ensures.is_the_store in
    let K = g.K.Kernel.amounts c.args.self.now.kernel.now in let L = c.args.self.now.levels.number in
    let all =
    reworks K L (length c.args.samples.now) c.args.rectangle xs f (P c.args.work) q o m w
    c.requires.the_rectangle_is_inside c.requires.enough_samples c.requires.same_sides copied.writes_every_cell
    (worked_sides (cell_undo K c.copy.result.numbers.level.number 0) q o undone.undoes_every_round)
    (subst (λ z. ShowsTheRoundsBelow K z 0 q o) copied.has_the_level undone.shows_the_samples_within_the_budget)
    patched.writes_the_samples
    (worked_sides (cell_forward K L) m w lifted.does_the_rounds) lifted.shows_the_transform_within_the_budget in
    record {
      has_the_same_sides = subst (λ z. SameSides f (P z)) back all.0;
      shows_the_edited_transform = subst (λ z. Settles K L c.args.rectangle xs f (P z)) back all.1;
    }
