-- The lines that show a store.
use Rattle.std.specs.Prelude.{ℕ, Bool, cond, List, ◌++◌, ℤ, codes, decimal, ◌==◌}
use Rattle.std.specs.List.{range_with_len, flat_map}
use Rattle.std.specs.Fmt.{signed_decimal}
use Rattle.planes.specs.Planes.{Cells}

-- A space before a cell, but in the first column; a star after it where its bit is set.
abbrev pub gap_text : ℕ → List ℕ
gap_text c = cond (c == 0) (codes "") (codes " ")

abbrev pub star_text : Bool → List ℕ
star_text b = cond b (codes "*") (codes "")

-- A cell of a column.
abbrev pub cell_text : ℕ → ℤ → Bool → List ℕ
cell_text c x b = (gap_text c ++ signed_decimal x) ++ star_text b

-- A row of some columns: its cells, and the end of the line.
abbrev pub row_line : ℕ → Cells ℤ → Cells Bool → ℕ → List ℕ
row_line width x b r = flat_map (λ c. cell_text c (x r c) (b r c)) (range_with_len 0 width) ++ codes "\n"

-- The sides, and a line for each row.
abbrev pub store_text : ℕ → ℕ → Cells ℤ → Cells Bool → List ℕ
store_text height width x b =
    (codes "store " ++ (decimal height ++ (codes " " ++ (decimal width ++ codes "\n")))) ++ flat_map (row_line width x b) (range_with_len 0 height)
