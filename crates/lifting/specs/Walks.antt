-- The way of a sweep through a plane: row by row in either direction, over the places that its step changes.
use Rattle.std.specs.Prelude.{ℕ, ◌+◌, ◌-◌, ◌*◌, ◌/◌, ◌^◌, ◌<◌, Bool, cond, ◌&&◌, ◌||◌, ℤ, nat_lt}
use Rattle.planes.specs.Planes.{Cells}
use Rattle.wavelets.specs.Lifting.{Amounts, Plane, left, right, is_changed, size, on}
use Rattle.lifting.specs.Passes.{to_cell, StepRule, Direction, horizontal, vertical}

-- How many places of a line of n a step of parity p changes.
abbrev pub changed_count : ℕ → ℕ → ℕ
changed_count p n = cond (nat_lt 1 n) ((n - 1 - p) / 2 + 1) 0

-- How many rows and columns are walked, and the row and the column of a turn.
abbrev pub walked_rows : Direction → ℕ → ℕ → ℕ
walked_rows horizontal p R = R
walked_rows vertical p R = changed_count p R

abbrev pub walked_columns : Direction → ℕ → ℕ → ℕ
walked_columns horizontal p C = changed_count p C
walked_columns vertical p C = C

abbrev pub row_of : Direction → ℕ → ℕ → ℕ
row_of horizontal p m = m
row_of vertical p m = 2 * m + p

abbrev pub column_of : Direction → ℕ → ℕ → ℕ
column_of horizontal p j = 2 * j + p
column_of vertical p j = j

-- The neighbours of a place along a direction.
abbrev pub left_row : Direction → ℕ → ℕ
left_row horizontal r = r
left_row vertical r = left r

abbrev pub left_column : Direction → ℕ → ℕ
left_column horizontal c = left c
left_column vertical c = c

abbrev pub right_row : Direction → ℕ → ℕ → ℕ
right_row horizontal R r = r
right_row vertical R r = right R r

abbrev pub right_column : Direction → ℕ → ℕ → ℕ
right_column horizontal C c = right C c
right_column vertical C c = c

-- The place (r, c) of an R × C plane has neighbours along a direction.
abbrev pub HasNeighbours : Direction → ℕ → ℕ → ℕ → ℕ → Type 0
HasNeighbours horizontal R C r c = (c < C) × (1 < C)
HasNeighbours vertical R C r c = (r < R) × (1 < R)

-- A step of parity p changes the place (r, c) of an R × C plane.
abbrev pub changes : Direction → ℕ → ℕ → ℕ → Cells Bool
changes horizontal p R C r c = nat_lt r R && is_changed C p c
changes vertical p R C r c = nat_lt c C && is_changed R p r

-- What it makes of it.
abbrev pub changed : Direction → StepRule → Amounts → ℕ → ℕ → Plane → ℕ → ℕ → ℤ
changed d s K R C x r c = to_cell (s.result K (x r c) (x (left_row d r) (left_column d c)) (x (right_row d R r) (right_column d C c)))

-- The places that lifting a level puts, and that undoing it puts, step by step from the last to the first.
abbrev pub lift_puts : ℕ → ℕ → Cells Bool
lift_puts R C r c = (changes horizontal 0 R C r c || changes horizontal 1 R C r c) || (changes vertical 0 R C r c || changes vertical 1 R C r c)

abbrev pub undo_puts : ℕ → ℕ → Cells Bool
undo_puts R C r c = (changes vertical 1 R C r c || changes vertical 0 R C r c) || (changes horizontal 1 R C r c || changes horizontal 0 R C r c)

-- The cells of an R × C plate that a pass over the lattice of level k puts, if over a plane it puts those that p says.
abbrev pub lattice_puts : (ℕ → ℕ → Cells Bool) → ℕ → ℕ → ℕ → Cells Bool
lattice_puts p k R C r c = on k r c && p (size k R) (size k C) (r / 2 ^ k) (c / 2 ^ k)
