-- What a list holds at each place of a rectangle that stands in it row by row.
use Rattle.std.specs.Prelude.{ℕ, ◌+◌, ◌*◌, ◌<◌, cond, ◌&&◌, List, length, nat_le, nat_lt, slice_index_or}
use Rattle.planes.specs.Planes.{Cells}

-- n where R × C elements are among L, and otherwise 0
abbrev pub usable : ℕ → ℕ → ℕ → ℕ → ℕ
usable R C L n = cond (nat_le (R * C) L) n 0

-- (i, j) is a place of the R × C rectangle in a list of L
abbrev pub Inside : ℕ → ℕ → ℕ → ℕ → ℕ → Type 0
Inside R C L i j = (i < usable R C L R) × (j < usable R C L C)

-- the element at each place, and d outside
abbrev pub rowwise : {A : Type 0} → A → ℕ → ℕ → List A → Cells A
rowwise d R C xs i j = cond (nat_lt i (usable R C (length xs) R) && nat_lt j (usable R C (length xs) C)) (slice_index_or xs (i * C + j) d) d
