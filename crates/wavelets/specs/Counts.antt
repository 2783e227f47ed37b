-- How many places of a line, and cells of a plate, pass a test; how many differ in two planes.
use Rattle.std.specs.Prelude.{ℕ, zero, suc, ◌+◌, Bool, true, false, cond, not, ℤ, pos, negsuc, ◌==◌}
use Rattle.wavelets.specs.Lifting.{Cells}

-- The sum of f over the places below n.
unfoldable pub total : ℕ → (ℕ → ℕ) → ℕ
total zero f = 0
total (suc n) f = total n f + f n

-- How many of the places below n pass, and how many cells of an R × C plate.
unfoldable pub count_line : ℕ → (ℕ → Bool) → ℕ
count_line n p = total n (λ i. cond (p i) 1 0)

unfoldable pub count_cells : ℕ → ℕ → Cells Bool → ℕ
count_cells R C p = total R (λ r. count_line C (p r))

-- Whether two numbers, and two bits, are the same.
abbrev pub same_number : ℤ → ℤ → Bool
same_number (pos a) (pos b) = a == b
same_number (pos a) (negsuc b) = false
same_number (negsuc a) (pos b) = false
same_number (negsuc a) (negsuc b) = a == b

abbrev pub same_bit : Bool → Bool → Bool
same_bit true b = b
same_bit false b = not b

-- At how many cells of an R × C plate two planes differ.
unfoldable pub differences : {A : Type 0} → (A → A → Bool) → ℕ → ℕ → Cells A → Cells A → ℕ
differences same R C x y = count_cells R C (λ r c. not (same (x r c) (y r c)))
