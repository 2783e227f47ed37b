-- Copying a rectangle of a plane out, row by row.
use Rattle.std.specs.Prelude.{◌≡◌, ℕ, ◌+◌, ◌*◌, ◌/◌, ◌%◌, ◌^◌, ◌<◌, ◌≤◌, Bool, cond, ◌&&◌, List, [], ◌∷◌, length, ℤ, pos, Some, None, Ok, Err, Option, Result, nat_le, nat_lt, slice_index_or}
use Rattle.faults.specs.declared.fault.Fault.{Fault}
use Rattle.faults.specs.declared.fault.Fault.TheVariants.{Rectangle, OutputShort}
use Rattle.faults.specs.declared.fault.Layer.TheVariants.{Plane}
use Rattle.planes.specs.declared.rectangle.Rectangle.{Rectangle as Part}
use Rattle.planes.specs.Planes.{Cells, Picture}
use Rattle.faults.specs.Tables.{first_fault}
use Rattle.planes.specs.Rectangles.{leaves}

-- what copying the rectangle a of R × C places into an output of L numbers meets, in this order
abbrev pub copy_refusals : ℕ → ℕ → Part → ℕ → List (Bool × Fault)
copy_refusals R C a L =
    (leaves R C a, Rectangle Plane)
    ∷ (nat_lt L (a.height * a.width), OutputShort Plane)
    ∷ []

abbrev pub copy_fault : ℕ → ℕ → Part → ℕ → Option Fault
copy_fault R C a L = first_fault (copy_refusals R C a L)

-- the m-th number of a rectangle, row by row
abbrev pub nth_number : Cells ℤ → Part → ℕ → ℤ
nth_number n a m = n (a.first_row + m / a.width) (a.first_column + m % a.width)

-- from the numbers xs to ys those from place s to before place t are the rectangle's, and the others stay
pub record Copied (n : Cells ℤ) (a : Part) (s t : ℕ) (xs ys : List ℤ) : Type 0 where
  pub size : length ys ≡ length xs
  pub number : (m : ℕ) → slice_index_or ys m (pos 0) ≡ cond (nat_le s m && nat_lt m t) (nth_number n a m) (slice_index_or xs m (pos 0))

-- the rectangle is in the plane, whose sides can be counted, and an output of L numbers has its rows and columns
pub record Ready (p : Picture) (a : Part) (rows columns L : ℕ) : Type 0 where
  pub tall : a.first_row + a.height ≤ p.height
  pub wide : a.first_column + a.width ≤ p.width
  pub height : p.height < 2 ^ 64
  pub width : p.width < 2 ^ 64
  pub rows_are : rows ≡ a.height
  pub columns_are : columns ≡ a.width
  pub room : a.height * a.width ≤ L

-- the copy fills the front, or there is the fault and no change
abbrev pub Copies : Picture → Part → List ℤ → List ℤ → Result (Unit {0}) Fault → Type 0
Copies p a xs ys (Ok v) = (copy_fault p.height p.width a (length xs) ≡ None) × Copied p.number a 0 (a.height * a.width) xs ys
Copies p a xs ys (Err e) = (copy_fault p.height p.width a (length xs) ≡ Some e) × (ys ≡ xs)
