-- Pictures, bits, and what reading and putting mean.
use Rattle.std.specs.Prelude.{◌≡◌, ℕ, ◌<◌, Bool, true, false, cond, ◌&&◌, ℤ, Ok, Err, Result, ◌==◌}
use Rattle.faults.specs.declared.fault.Fault.{Fault}
use Rattle.faults.specs.declared.fault.Fault.TheVariants.{Outside}

-- what stands at each row and column
abbrev pub Cells : Type 0 → Type 0
Cells A = ℕ → ℕ → A

-- the sides of a plane, and the number at each place
pub record Picture : Type 0 where
  pub height : ℕ
  pub width : ℕ
  pub number : Cells ℤ

-- the place (i, j) is inside
abbrev pub Within : Picture → ℕ → ℕ → Type 0
Within p i j = (i < p.height) × (j < p.width)

-- all as it was, but x at (i, j)
abbrev pub with_at : {A : Type 0} → Cells A → ℕ → ℕ → A → Cells A
with_at p i j x r c = cond (r == i && c == j) x (p r c)

-- the picture with the number x at (i, j)
abbrev pub written : Picture → ℕ → ℕ → ℤ → Picture
written p i j x = record { height = p.height; width = p.width; number = with_at p.number i j x }

-- the bits with that of (i, j) set, and those of which none is set
abbrev pub marked : Cells Bool → ℕ → ℕ → Cells Bool
marked b i j = with_at b i j true

abbrev pub unmarked : Cells Bool
unmarked r c = false

-- what asking for x at (i, j) answers: x inside, and the fault outside
abbrev pub Answers : {A : Type 0} → Picture → ℕ → ℕ → A → Result A Fault → Type 0
Answers p i j x (Ok v) = Within p i j × (v ≡ x)
Answers p i j x (Err e) = (Within p i j → ⊥) × (e ≡ Outside)

-- what putting x at (i, j) makes of the picture p: inside it is written, outside there is the fault and no change
abbrev pub PutsNumber : Picture → ℕ → ℕ → ℤ → Picture → Result (Unit {0}) Fault → Type 0
PutsNumber p i j x q (Ok v) = Within p i j × (q ≡ written p i j x)
PutsNumber p i j x q (Err e) = (Within p i j → ⊥) × (e ≡ Outside) × (q ≡ p)

-- what it makes of the bits b: inside that of the place is set, outside there is no change
abbrev pub PutsBit : Picture → Cells Bool → ℕ → ℕ → Cells Bool → Result (Unit {0}) Fault → Type 0
PutsBit p b i j d (Ok v) = Within p i j × (d ≡ marked b i j)
PutsBit p b i j d (Err e) = (Within p i j → ⊥) × (e ≡ Outside) × (d ≡ b)
