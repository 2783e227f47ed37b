-- The worked cases, computed.
use Rattle.std.proofs.Common.{refl}
use Rattle.wavelets.specs.Lifting.{step, predicted, lift, unupdated, unlift, columns, rows, level, unlevel, lattice, on_lattice, climb, descend}
use Rattle.wavelets.specs.Counts.{total, count_line, count_cells}
use Rattle.wavelets.specs.Cone.{span_at, depth, in_cone}
use Rattle.wavelets.specs.Cases.{line, plane, listed, table, Holds, cases, WorkedCasesHold, TransformingTheEditedRowGives, AddingTheTransformOfTheChangeGives, settled, drifted}

infixr 4 ◌&◌
◌&◌ : {A B : Type 0} → A → B → A × B
a & b = (a, b)

pub worked_cases : WorkedCasesHold
unfolding step predicted lift unupdated unlift columns rows level unlevel lattice on_lattice climb descend total count_line count_cells span_at depth in_cone line plane listed table Holds cases
worked_cases =
    (refl & refl) & (refl & refl) & (refl & refl) & (refl & refl) & (refl & refl) & (refl & refl) & (refl & refl) & (refl & refl) & (refl & refl) & (refl & refl)
    & refl & refl & refl & refl & refl & refl & refl & refl & refl & tt

-- Two tables: the edited row's transform, and the transforms of the row and of the change added.
pub edited_row : TransformingTheEditedRowGives settled
unfolding step predicted lift columns rows level lattice on_lattice climb line plane listed table
edited_row = refl

pub change_added : AddingTheTransformOfTheChangeGives drifted
unfolding step predicted lift columns rows level lattice on_lattice climb line plane listed table
change_added = refl
