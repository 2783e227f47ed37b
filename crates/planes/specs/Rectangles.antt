-- Rectangles of a plane or a lattice.
use Rattle.std.specs.Prelude.{ℕ, ◌+◌, Bool, ◌||◌, ◌==◌, nat_lt}
use Rattle.planes.specs.declared.rectangle.Rectangle.{Rectangle}

-- the rectangle is empty, or ends beyond R rows or C columns
abbrev pub leaves : ℕ → ℕ → Rectangle → Bool
leaves R C a = a.height == 0 || a.width == 0 || nat_lt R (a.first_row + a.height) || nat_lt C (a.first_column + a.width)
