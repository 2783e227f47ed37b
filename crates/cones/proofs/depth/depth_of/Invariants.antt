-- The cell is on every lattice that was passed.
use Rattle.std.proofs.Common.{◌≡◌, true}
use Rattle.wavelets.specs.Lifting.{on}
use Rattle.cones.proofs.depth.depth_of.Given as goal

abbrev pub invariant-loop-number : goal.invariant-loop-number
invariant-loop-number l = on l.number l.row l.column ≡ true
