-- The records before the cell are cleared.
use Rattle.planes.specs.Flat.{Clears}
use Rattle.planes.proofs.flat.clear_front.Given as goal

abbrev pub invariant-loop-cell : goal.invariant-loop-cell
invariant-loop-cell l = Clears l.cell-index l.initial.cell-items l.cell-items
