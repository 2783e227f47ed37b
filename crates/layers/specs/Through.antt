-- Putting where the place is inside.
use Rattle.std.specs.Prelude.{◌≡◌, ℕ, Bool, List, ℤ}
use Rattle.planes.specs.declared.cell.Cell.{Cell}
use Rattle.planes.specs.Flat.{flat_picture, flat_bits, FlatFrame}
use Rattle.planes.specs.Planes.{Cells, Picture, Within, written, marked}

-- from the picture p to q: x is written at (i, j) where that is inside, and otherwise there is no change
pub record PutInside (p : Picture) (i j : ℕ) (x : ℤ) (q : Picture) : Type 0 where
  pub inside : Within p i j → q ≡ written p i j x
  pub outside : (Within p i j → ⊥) → q ≡ p

-- the same of the bits b and d
pub record MarkedInside (p : Picture) (b : Cells Bool) (i j : ℕ) (d : Cells Bool) : Type 0 where
  pub inside : Within p i j → d ≡ marked b i j
  pub outside : (Within p i j → ⊥) → d ≡ b

-- from the records xs to ys of an R × C rectangle: x is put at (i, j) where that is inside, and every other record stays
pub record PutsRecord (R C i j : ℕ) (x : ℤ) (xs ys : List Cell) : Type 0 where
  pub number : PutInside (flat_picture R C xs) i j x (flat_picture R C ys)
  pub bit : MarkedInside (flat_picture R C xs) (flat_bits R C xs) i j (flat_bits R C ys)
  pub frame : FlatFrame R C xs R C ys
