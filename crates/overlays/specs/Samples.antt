-- Samples for a rectangle, row by row, and the pictures that they make.
use Rattle.std.specs.Prelude.{ℕ, ◌+◌, ◌-◌, ◌*◌, Bool, cond, ◌&&◌, List, ℤ, pos, nat_le, nat_lt, slice_index}
use Rattle.planes.specs.Planes.{Cells}
use Rattle.planes.specs.declared.rectangle.Rectangle.{Rectangle}
use Rattle.wavelets.specs.Cone.{in_rectangle}
use Rattle.cones.specs.Rectangles.{rows_of, columns_of}

-- Samples as whole numbers: the one at each index.
abbrev pub samples_at : List ℕ → ℕ → ℤ
samples_at xs i = pos (slice_index xs i)

-- The place (r, c) is in the rectangle a, and the index of its number among the rectangle's, row by row.
abbrev pub covers : Rectangle → Cells Bool
covers a r c =
    nat_le a.first_row r && nat_lt r (a.first_row + a.height)
    && (nat_le a.first_column c && nat_lt c (a.first_column + a.width))

abbrev pub sample_index : Rectangle → ℕ → ℕ → ℕ
sample_index a r c = (r - a.first_row) * a.width + (c - a.first_column)

-- A place of the rectangle has a number among n of them, and what the numbers are at the places.
abbrev pub has_sample : Rectangle → ℕ → Cells Bool
has_sample a n r c = covers a r c && nat_lt (sample_index a r c) n

abbrev pub patch : Rectangle → (ℕ → ℤ) → Cells ℤ
patch a xs r c = xs (sample_index a r c)

-- The picture x with a rectangle replaced, and the picture of W columns that samples make.
abbrev pub replaced : Rectangle → (ℕ → ℤ) → Cells ℤ → Cells ℤ
replaced a xs x r c = cond (in_rectangle (rows_of a) (columns_of a) r c) (patch a xs r c) (x r c)

abbrev pub pictured : ℕ → (ℕ → ℤ) → Cells ℤ
pictured W xs r c = xs (r * W + c)
