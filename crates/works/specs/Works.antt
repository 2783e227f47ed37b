-- What laying, settling and previewing make of the cells.
use Rattle.std.specs.Prelude.{◌≡◌, ℕ, ◌*◌, ◌<◌, ◌≤◌, Bool, true, not, ◌&&◌, List, length, ℤ, pos, is_some, nat_le, slice_index_or, unsigned_abs}
use Rattle.planes.specs.Planes.{Cells, Picture}
use Rattle.planes.specs.Rectangles.{leaves}
use Rattle.planes.specs.Flat.{flat_fault}
use Rattle.planes.specs.Copies.{nth_number, copy_fault}
use Rattle.planes.specs.declared.rectangle.Rectangle.{Rectangle}
use Rattle.wavelets.specs.Lifting.{Plane, Amounts, size, forward, resolution, Agree, within_budget}
use Rattle.wavelets.specs.Cone.{in_cone, cone_count}
use Rattle.cones.specs.Rectangles.{rows_of, columns_of}
use Rattle.lifting.specs.Passes.{Budgeted}
use Rattle.overlays.specs.Overlays.{overlaid_bits}
use Rattle.overlays.specs.Samples.{pictured, replaced}

-- Two pictures have the same sides.
abbrev pub SameSides : Picture → Picture → Type 0
SameSides p q = (q.height ≡ p.height) × (q.width ≡ p.width)

-- A laying of the samples xs, from the picture p to q and the bits d: the sides stay; where the samples are within the budget of L
-- levels, the cells are those of the transform of the picture that they make; every bit is set.
pub record Laid (K : Amounts) (L : ℕ) (xs : ℕ → ℤ) (p q : Picture) (d : Cells Bool) : Type 0 where
  pub sides : SameSides p q
  pub cells : (P : ℕ) → ((i : ℕ) → unsigned_abs (xs i) ≤ P) → within_budget P L ≡ true
      → Agree p.height p.width q.number (forward K p.height p.width L (pictured p.width xs))
  pub bits : (r c : ℕ) → r < p.height → c < p.width → d r c ≡ true

-- The cells in the cone of the rectangle a of a plate with the sides of p, at L levels, and how many there are.
abbrev pub cone_of : Picture → Rectangle → ℕ → Cells Bool
cone_of p a L = in_cone p.height p.width (rows_of a) (columns_of a) L

abbrev pub count_in_cone : Picture → Rectangle → ℕ → ℕ
count_in_cone p a L = cone_count p.height p.width (rows_of a) (columns_of a) L

-- Where p shows the transform of a picture x within the budget, q shows that of x with the rectangle a replaced by the samples xs.
abbrev pub Settles : Amounts → ℕ → Rectangle → (ℕ → ℤ) → Picture → Picture → Type 0
Settles K L a xs p q =
    (x : Plane) (P : ℕ) → Budgeted p.height p.width L P x → ((i : ℕ) → unsigned_abs (xs i) ≤ P)
    → Agree p.height p.width p.number (forward K p.height p.width L x)
    → Agree p.height p.width q.number (forward K p.height p.width L (replaced a xs x))

-- A settlement, from the picture p and the bits b to q and d, that answers n: the sides stay, the cells are those of the edited picture,
-- the bits of the cone's cells are set and the others stay, and n is the number of cells in the cone.
pub record Settled (K : Amounts) (L : ℕ) (a : Rectangle) (xs : ℕ → ℤ) (p : Picture) (b : Cells Bool) (q : Picture) (d : Cells Bool) (n : ℕ) : Type 0 where
  pub sides : SameSides p q
  pub cells : Settles K L a xs p q
  pub bits : d ≡ overlaid_bits p (cone_of p a L) b
  pub count : n ≡ count_in_cone p a L

-- A settlement of the rectangle a by n samples can be made on a store of R × C, with m records of scratch.
abbrev pub settles_there : ℕ → ℕ → Rectangle → ℕ → ℕ → Bool
settles_there R C a n m = not (leaves R C a) && nat_le (a.height * a.width) n && not (is_some (flat_fault R C m))

-- Where p shows the transform of a picture x within the budget, q shows its first k rounds.
abbrev pub Uncovers : Amounts → ℕ → ℕ → Picture → Picture → Type 0
Uncovers K L k p q =
    (x : Plane) (P : ℕ) → Budgeted p.height p.width L P x
    → Agree p.height p.width p.number (forward K p.height p.width L x)
    → Agree p.height p.width q.number (forward K p.height p.width k x)

-- A preview of the rectangle a at level k, from the output xs to ys: where p shows the transform of a picture x within the budget, the
-- first numbers are those of resolution k of x in the rectangle, row by row; the rest of the output stays.
pub record Previewed (K : Amounts) (L k : ℕ) (a : Rectangle) (p : Picture) (xs ys : List ℤ) : Type 0 where
  pub numbers : (x : Plane) (P : ℕ) → Budgeted p.height p.width L P x
      → Agree p.height p.width p.number (forward K p.height p.width L x)
      → (m : ℕ) → m < a.height * a.width → slice_index_or ys m (pos 0) ≡ nth_number (resolution K p.height p.width k x) a m
  pub rest : (m : ℕ) → a.height * a.width ≤ m → slice_index_or ys m (pos 0) ≡ slice_index_or xs m (pos 0)
  pub size : length ys ≡ length xs

-- A preview of the rectangle a at level k of L can be made of a store of R × C, into n numbers, with m records of scratch.
abbrev pub previews_there : ℕ → ℕ → ℕ → ℕ → Rectangle → ℕ → ℕ → Bool
previews_there R C L k a n m = nat_le k L && not (is_some (copy_fault (size k R) (size k C) a n)) && not (is_some (flat_fault R C m))
