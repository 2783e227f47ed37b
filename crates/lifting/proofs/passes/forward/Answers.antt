use Rattle.std.proofs.Common.{◌≡◌, false, ap, ◌∙◌, arith}
use Rattle.planes.specs.Planes.{Picture}
use Rattle.lifting.specs.Passes.{cell_level, cell_forward, worked, with_bits}
use Rattle.lifting.specs.Walks.{lift_puts, lattice_puts}
use Rattle.lifting.proofs.Rounds.{up_none, up_more, puts_none, puts_up, lift_round}
use Rattle.lifting.proofs.Exact.{shows_transform}
use Rattle.lifting.proofs.passes.forward.Goals as goal

pub loop-number-init : goal.loop-number-init
loop-number-init g c =
    let p = g.S.Plane.picture c.args.store in
    (up_none (cell_level (g.K.Kernel.amounts c.args.kernel.now)) p, puts_none p.height p.width _ 0 0 (omega arith), g.S.Store.still false _)

pub loop-number-preserved : goal.loop-number-preserved
loop-number-preserved g c =
    let p = g.S.Plane.picture c.args.store in
    let q = g.S.Plane.picture c.loop-number.store in
    let b = g.S.Store.bits c.args.store in
    let m = c.loop-number.number in
    let i = c.loop-number.invariant in
    let did = c.run_round-store.ensures in (
      up_more (cell_level (g.K.Kernel.amounts c.args.kernel.now)) p m q _ i.0 did.does_the_round,
      did.sets_the_bits_of_what_it_puts ∙ ap (λ (o : Picture). with_bits (lattice_puts lift_puts m o.height o.width) (g.S.Store.bits c.loop-number.store)) i.0
          ∙ ap (with_bits (lattice_puts lift_puts m p.height p.width)) i.1 ∙ puts_up p.height p.width b lift_puts lift_round m,
      g.S.Store.onward false false _ _ _ i.2 did.leaves_what_lies_under,
    )

pub returns : goal.returns
returns g c =
    let p = g.S.Plane.picture c.args.store in
    let K = g.K.Kernel.amounts c.args.kernel.now in
    let L = c.args.level.number in
    let i = c.loop-number.invariant in
    let e : c.loop-number.number ≡ L = omega arith in
    let w : g.S.Plane.picture c.loop-number.store ≡ worked (cell_forward K L) p = rw e at i.0 in
    record {
      does_the_rounds = w;
      shows_the_transform_within_the_budget = shows_transform K (g.met.K.Kernel.lawful c.args.kernel.now) L p _ w;
      sets_the_bits_of_what_it_puts = rw e at i.1;
      leaves_what_lies_under = i.2;
    }
