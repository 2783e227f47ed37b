use Rattle.std.proofs.Common.{◌≡◌, ◌≤◌, min, false}
use Rattle.lifting.specs.Passes.{worked, cell_undo, with_bits, rounds_put}
use Rattle.lifting.proofs.passes.inverse.Given as goal

abbrev pub invariant-loop-number : goal.invariant-loop-number
invariant-loop-number g l =
    let p = g.S.Plane.picture l.initial.store in
    (g.S.Plane.picture l.store ≡ worked (cell_undo (g.K.Kernel.amounts l.kernel) l.initial.number l.number) p)
    × (g.S.Store.bits l.store ≡ with_bits (rounds_put p.height p.width l.number l.initial.number) (g.S.Store.bits l.initial.store))
    × g.S.Store.frame false l.initial.store l.store
    × (min l.number-start l.initial.number ≤ l.number)
