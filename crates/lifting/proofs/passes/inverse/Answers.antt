use Rattle.std.proofs.Common.{◌≡◌, ℕ, ◌+◌, ◌-◌, ◌<◌, false, ap, ◌∙◌, subst, le_refl, arith}
use Rattle.planes.specs.Planes.{Picture}
use Rattle.lifting.specs.Passes.{cell_unlevel, cell_undo, worked, with_bits, rounds_put}
use Rattle.lifting.specs.Walks.{undo_puts, lattice_puts}
use Rattle.lifting.proofs.Rounds.{down_none, down_more, down_done, puts_none, puts_down, puts_done, undo_round}
use Rattle.lifting.proofs.Exact.{shows_rounds_below}
use Rattle.lifting.proofs.passes.inverse.Goals as goal

pub loop-number-init : goal.loop-number-init
loop-number-init g c =
    let p = g.S.Plane.picture c.args.store in
    let L = c.args.from.number in
    (down_none (cell_unlevel (g.K.Kernel.amounts c.args.kernel.now)) p L L (le_refl L), puts_none p.height p.width _ L L (le_refl L), g.S.Store.still false _, omega arith)

pub loop-number-preserved : goal.loop-number-preserved
loop-number-preserved g c =
    let p = g.S.Plane.picture c.args.store in
    let q = g.S.Plane.picture c.loop-number.store in
    let b = g.S.Store.bits c.args.store in
    let K = g.K.Kernel.amounts c.args.kernel.now in
    let L = c.args.from.number in
    let m = c.loop-number.number - 1 in
    let i = c.loop-number.invariant in
    let did = c.run_round-store.ensures in
    let e : c.loop-number.number ≡ m + 1 = omega arith in
    let l : m < L = omega arith in
    let w : q ≡ worked (cell_undo K L (m + 1)) p = subst (λ (n : ℕ). q ≡ worked (cell_undo K L n) p) e i.0 in
    let v : g.S.Store.bits c.loop-number.store ≡ with_bits (rounds_put p.height p.width (m + 1) L) b = subst (λ (n : ℕ). g.S.Store.bits c.loop-number.store ≡ with_bits (rounds_put p.height p.width n L) b) e i.1 in (
      down_more (cell_unlevel K) p L m q _ l w did.does_the_round,
      did.sets_the_bits_of_what_it_puts ∙ ap (λ (o : Picture). with_bits (lattice_puts undo_puts m o.height o.width) (g.S.Store.bits c.loop-number.store)) i.0
          ∙ ap (with_bits (lattice_puts undo_puts m p.height p.width)) v ∙ puts_down p.height p.width b undo_puts undo_round m L l,
      g.S.Store.onward false false _ _ _ i.2 did.leaves_what_lies_under,
      omega arith,
    )

pub returns : goal.returns
returns g c =
    let p = g.S.Plane.picture c.args.store in
    let K = g.K.Kernel.amounts c.args.kernel.now in
    let L = c.args.from.number in
    let k = c.args.down_to.number in
    let n = c.loop-number.number in
    let i = c.loop-number.invariant in
    let w = down_done (cell_unlevel K) p L k n (g.S.Plane.picture c.loop-number.store) c.loop-number-test.false c.loop-number.auto.number i.3 i.0 in
    record {
      undoes_the_rounds = w;
      shows_the_rounds_below_within_the_budget = shows_rounds_below K (g.met.K.Kernel.lawful c.args.kernel.now) L k p _ w;
      sets_the_bits_of_what_it_puts = puts_done p.height p.width _ _ L k n c.loop-number-test.false c.loop-number.auto.number i.3 i.1;
      leaves_what_lies_under = i.2;
    }
