-- The flat store: what a list of cell records shows, and what making one meets.
use Rattle.std.specs.Prelude.{◌≡◌, ℕ, ◌*◌, ◌<◌, ◌≤◌, Bool, false, cond, ◌||◌, List, [], ◌∷◌, length, get_or, ℤ, pos, is_some, Option, ◌==◌, nat_lt, slice_index_or, refl}
use Rattle.std.proofs.Common.{◌∙◌}
use Rattle.faults.specs.declared.fault.Fault.{Fault}
use Rattle.faults.specs.declared.fault.Fault.TheVariants.{Size, StoreShort}
use Rattle.faults.specs.declared.fault.Layer.TheVariants.{Plane}
use Rattle.planes.specs.declared.cell.Cell.{Cell}
use Rattle.planes.specs.Planes.{Cells, Picture}
use Rattle.faults.specs.Tables.{first_fault}
use Rattle.planes.specs.Rowwise.{usable, rowwise}

-- outside stand the number 0 and no bit
abbrev pub blank : Cell
blank = record { number = pos 0; bit = false }

abbrev pub flat_numbers : ℕ → ℕ → List Cell → Cells ℤ
flat_numbers R C xs i j = (rowwise blank R C xs i j).number

abbrev pub flat_bits : ℕ → ℕ → List Cell → Cells Bool
flat_bits R C xs i j = (rowwise blank R C xs i j).bit

abbrev pub flat_picture : ℕ → ℕ → List Cell → Picture
flat_picture R C xs = record { height = usable R C (length xs) R; width = usable R C (length xs) C; number = flat_numbers R C xs }

-- a side is 0 or over 4,096
abbrev pub bad_side : ℕ → Bool
bad_side n = n == 0 || nat_lt 4096 n

-- what making a store of R × C over a buffer of L records meets, in this order
abbrev pub flat_refusals : ℕ → ℕ → ℕ → List (Bool × Fault)
flat_refusals R C L =
    (bad_side R || bad_side C, Size Plane)
    ∷ (nat_lt L (R * C), StoreShort)
    ∷ []

abbrev pub flat_fault : ℕ → ℕ → ℕ → Option Fault
flat_fault R C L = first_fault (flat_refusals R C L)

-- a side of the store that is made: n where there is no fault, and otherwise 0
abbrev pub made_side : ℕ → ℕ → ℕ → ℕ → ℕ
made_side R C L n = cond (is_some (flat_fault R C L)) 0 n

-- from the records xs to ys the first n bits are unset, and all else stays
pub record Clears (n : ℕ) (xs ys : List Cell) : Type 0 where
  pub size : length ys ≡ length xs
  pub number : (k : ℕ) → (get_or ys k blank).number ≡ (get_or xs k blank).number
  pub front : (k : ℕ) → k < n → (get_or ys k blank).bit ≡ false
  pub beyond : (k : ℕ) → n ≤ k → (d : Cell) → slice_index_or ys k d ≡ slice_index_or xs k d

-- from the records xs to ys the sides and the length stay, and so do the records beyond the rectangle
pub record FlatFrame (R C : ℕ) (xs : List Cell) (R' C' : ℕ) (ys : List Cell) : Type 0 where
  pub rows : R' ≡ R
  pub columns : C' ≡ C
  pub size : length ys ≡ length xs
  pub beyond : (k : ℕ) → usable R C (length xs) (R * C) ≤ k → (d : Cell) → slice_index_or ys k d ≡ slice_index_or xs k d

pub flat_still : (R C : ℕ) (xs : List Cell) → FlatFrame R C xs R C xs
flat_still R C xs = record { rows = refl; columns = refl; size = refl; beyond = λ k h d. refl }

pub flat_onward : (R C : ℕ) (xs : List Cell) (R' C' : ℕ) (ys : List Cell) (R'' C'' : ℕ) (zs : List Cell)
    → FlatFrame R C xs R' C' ys → FlatFrame R' C' ys R'' C'' zs → FlatFrame R C xs R'' C'' zs
flat_onward R C xs R' C' ys R'' C'' zs a b =
    let same : (k : ℕ) → usable R C (length xs) (R * C) ≤ k → usable R' C' (length ys) (R' * C') ≤ k = (λ k h. rw (a.rows, a.columns, a.size) h) in
    record {
      rows = b.rows ∙ a.rows;
      columns = b.columns ∙ a.columns;
      size = b.size ∙ a.size;
      beyond = λ k h d. b.beyond k (same k h) d ∙ a.beyond k h d;
    }
