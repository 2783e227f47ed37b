-- Written, lifted, and taken back.
use Rattle.std.proofs.Common.{false, sym, subst}
use Rattle.lifting.specs.Passes.{cell_forward, rounds_put}
use Rattle.overlays.specs.Samples.{samples_at}
use Rattle.works.specs.Works.{Laid}
use Rattle.works.proofs.Laid.{worked_sides, lays}
use Rattle.works.proofs.transform.Transform.laid.Goals as goal

pub returns : goal.returns
returns g c =
    let P = g.S.Plane.picture in let B = g.S.Store.bits in
    let s = c.args.store in let xs = samples_at c.args.samples.now in
    let q = P c.write.result.store in let o = P c.lift.result.store in
    let written = c.write.ensures in let lifted = c.lift.ensures in let back = sym c.into_store.ensures.is_the_store in
    let K = g.K.Kernel.amounts c.args.self.now.kernel.now in let L = c.args.self.now.levels.number in
    let all : Laid K L xs (P s) o (B c.lift.result.store) =
    lays K L xs (P s) q o (B s) (B c.write.result.store) (rounds_put q.height q.width 0 L) (B c.lift.result.store)
    written.writes_every_sample written.sets_every_bit (worked_sides (cell_forward K L) q o lifted.does_the_rounds) lifted.shows_the_transform_within_the_budget lifted.sets_the_bits_of_what_it_puts in
    record {
      lays = subst (λ z. Laid K L xs (P s) (P z) (B z)) back all;
      leaves_what_lies_under = subst (λ z. g.S.Store.frame false s z) back (g.S.Store.onward _ _ _ _ _ written.leaves_what_lies_under lifted.leaves_what_lies_under);
    }
