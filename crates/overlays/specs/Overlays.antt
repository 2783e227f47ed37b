-- Numbers laid over a plane where a test says so.
use Rattle.std.specs.Prelude.{◌≡◌, ℕ, Bool, true, false, cond, ◌&&◌, ℤ, Some, None, Option, ◌==◌, nat_lt}
use Rattle.planes.specs.Planes.{Cells, Picture, written, marked}

-- What a source answers for a place: the number v if it has one, which the test says.
abbrev pub Offers : Bool → ℤ → Option ℤ → Type 0
Offers test v (Some x) = (test ≡ true) × (x ≡ v)
Offers test v None = test ≡ false

-- The place (r, c) is inside a plane of H rows and W columns.
abbrev pub inside : ℕ → ℕ → Cells Bool
inside H W r c = nat_lt r H && nat_lt c W

-- What stands at the places of such a plane, with that of v in its stead where the test holds.
unfoldable pub overlaid : {A : Type 0} → ℕ → ℕ → Cells Bool → Cells A → Cells A → Cells A
overlaid H W test v x r c = cond (inside H W r c && test r c) (v r c) (x r c)

-- The picture p with the numbers v where the test holds, and the bits b of its places set there.
unfoldable pub overlaid_picture : Cells Bool → Cells ℤ → Picture → Picture
overlaid_picture test v p = record { height = p.height; width = p.width; number = overlaid p.height p.width test v p.number }

unfoldable pub overlaid_bits : Picture → Cells Bool → Cells Bool → Cells Bool
overlaid_bits p test b = overlaid p.height p.width test (λ r c. true) b

-- The same for one place (i, j): the number v is put there if the test came out so.
abbrev pub put_at : Bool → ℤ → ℕ → ℕ → Picture → Picture
put_at test v i j p = cond test (written p i j v) p

abbrev pub mark_at : Bool → ℕ → ℕ → Cells Bool → Cells Bool
mark_at test i j b = cond test (marked b i j) b

-- A test in row m alone.
abbrev pub in_row : ℕ → Cells Bool → Cells Bool
in_row m test r c = r == m && test r c
