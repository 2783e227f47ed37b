use Rattle.std.proofs.Common.{◌≡◌, false}
use Rattle.lifting.specs.Passes.{worked, cell_forward, with_bits, rounds_put}
use Rattle.lifting.proofs.passes.forward.Given as goal

abbrev pub invariant-loop-number : goal.invariant-loop-number
invariant-loop-number g l =
    let p = g.S.Plane.picture l.initial.store in
    (g.S.Plane.picture l.store ≡ worked (cell_forward (g.K.Kernel.amounts l.kernel) l.number) p)
    × (g.S.Store.bits l.store ≡ with_bits (rounds_put p.height p.width 0 l.number) (g.S.Store.bits l.initial.store))
    × g.S.Store.frame false l.initial.store l.store
