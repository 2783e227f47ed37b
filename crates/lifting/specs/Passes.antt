-- Lifting of 32-bit cells in place: what the passes make of a picture and of its bits, whatever numbers it holds.
use Rattle.std.specs.Prelude.{◌≡◌, ℕ, ◌^◌, ◌<◌, ◌≤◌, min, Bool, true, false, ◌&&◌, ◌||◌, ℤ, pos, negsuc, ◌+ℤ◌, ◌-ℤ◌, nat_lt}
use Rattle.planes.specs.Planes.{Cells, Picture}
use Rattle.wavelets.specs.Lifting.{Amounts, LineWork, Plane, PlaneWork, step, rows, columns, size, on, lattice, climb, descend, forward, Agree, Bounded, within_budget}
use Rattle.wavelets.specs.Theorems.{LiftingWithin}

-- Steps -----------------------------------------------------------------------------------------------------------------------

-- A number taken back to 32 bits: itself where it is from −2^31 to 2^31 − 1, and otherwise the nearer of these two.
-- (negsuc n is −n − 1.)
abbrev pub to_cell : ℤ → ℤ
to_cell (pos n) = pos (min n 2147483647)
to_cell (negsuc n) = negsuc (min n 2147483647)

-- A step of lifting: the parity of the places that it changes, and what it makes of a number, its left and its right neighbour.
pub record StepRule : Type 0 where
  pub parity : ℕ
  pub result : Amounts → ℤ → ℤ → ℤ → ℤ

abbrev pub predicting : StepRule
predicting = record { parity = 1; result = λ K z a b. z -ℤ K.predict a b }

abbrev pub updating : StepRule
updating = record { parity = 0; result = λ K z a b. z +ℤ K.update a b }

abbrev pub undoing_update : StepRule
undoing_update = record { parity = 0; result = λ K z a b. z -ℤ K.update a b }

abbrev pub undoing_predict : StepRule
undoing_predict = record { parity = 1; result = λ K z a b. z +ℤ K.predict a b }

-- The step that changes the odd places, or the even ones, and lowers them, or raises them.
abbrev pub step_rule : Bool → Bool → StepRule
step_rule true true = predicting
step_rule true false = undoing_predict
step_rule false true = undoing_update
step_rule false false = updating

-- The amount by which it does: that of predicting at the odd places, and that of updating at the even ones.
abbrev pub amount_of : Bool → Amounts → ℤ → ℤ → ℤ
amount_of true K = K.predict
amount_of false K = K.update

-- Along the rows, or along the columns.
pub data Direction : Type 0 where
  horizontal : Direction
  vertical : Direction

abbrev pub lines : Direction → LineWork → PlaneWork
lines horizontal = rows
lines vertical = columns

-- A step on every line of a direction, each result taken back to 32 bits.
unfoldable pub swept : Direction → StepRule → Amounts → PlaneWork
swept d s K = lines d (λ n. step n s.parity (λ z a b. to_cell (s.result K z a b)))

-- Levels ----------------------------------------------------------------------------------------------------------------------

-- Every line of a direction is lifted, and undone, by such steps.
abbrev pub lifted_lines : Direction → Amounts → PlaneWork
lifted_lines d K R C x = swept d updating K R C (swept d predicting K R C x)

abbrev pub unlifted_lines : Direction → Amounts → PlaneWork
unlifted_lines d K R C x = swept d undoing_predict K R C (swept d undoing_update K R C x)

-- The columns are lifted and then the rows; undoing goes the other way round.
abbrev pub cell_level : Amounts → PlaneWork
cell_level K R C x = lifted_lines horizontal K R C (lifted_lines vertical K R C x)

abbrev pub cell_unlevel : Amounts → PlaneWork
cell_unlevel K R C x = unlifted_lines vertical K R C (unlifted_lines horizontal K R C x)

-- The rounds 0 to L − 1, and the rounds L − 1 down to k undone (none where L is at most k), by such steps.
abbrev pub cell_forward : Amounts → ℕ → PlaneWork
cell_forward K L R C = climb (cell_level K) R C L

abbrev pub cell_undo : Amounts → ℕ → ℕ → PlaneWork
cell_undo K L k R C = descend (cell_unlevel K) R C L k

-- A picture whose numbers are worked on.
abbrev pub worked : PlaneWork → Picture → Picture
worked g p = record { height = p.height; width = p.width; number = g p.height p.width p.number }

-- Bits ------------------------------------------------------------------------------------------------------------------------

-- The cells of an R × C plate that the round of level k puts: those on its lattice, if that has two or more.
abbrev pub round_puts : ℕ → ℕ → ℕ → Cells Bool
round_puts R C k r c = on k r c && ((nat_lt r R && nat_lt c C) && (nat_lt (2 ^ k) R || nat_lt (2 ^ k) C))

-- Those that the rounds of the levels k to L − 1 put, in either order: none where L is at most k, and otherwise those of level k,
-- among which are those of the levels above it.
abbrev pub rounds_put : ℕ → ℕ → ℕ → ℕ → Cells Bool
rounds_put R C k L r c = nat_lt k L && round_puts R C k r c

-- The bits with those of some places set, and the others as they were.
abbrev pub with_bits : Cells Bool → Cells Bool → Cells Bool
with_bits puts b r c = puts r c || b r c

-- Where all results fit ---------------------------------------------------------------------------------------------------------

-- At every step of the transform of x at L levels, no number is larger in size than 2^31 − 1.
abbrev pub AllResultsFit : Amounts → ℕ → ℕ → ℕ → Plane → Type 0
AllResultsFit K R C L x = (k : ℕ) → k < L → LiftingWithin K (size k R) (size k C) 2147483647 (lattice k (forward K R C k x))

-- There the rounds in 32 bits are those of the transform, and undone they leave its first k.
abbrev pub ForwardIsTheTransform : Type 0
ForwardIsTheTransform = (K : Amounts) (R C L : ℕ) (x : Plane) → AllResultsFit K R C L x → cell_forward K L R C x ≡ forward K R C L x

abbrev pub UndoingLeavesTheRoundsBelow : Type 0
UndoingLeavesTheRoundsBelow =
    (K : Amounts) (R C L k : ℕ) (x : Plane) → AllResultsFit K R C L x → k ≤ L → cell_undo K L k R C (forward K R C L x) ≡ forward K R C k x

-- Samples x of an R × C picture, up to P in size, for which the budget of L levels holds. All results fit for them.
pub record Budgeted (R C L P : ℕ) (x : Plane) : Type 0 where
  pub small : Bounded R C P x
  pub room : within_budget P L ≡ true

-- From the picture p to q: where p shows samples x within the budget, q shows their transform at L levels.
abbrev pub ShowsTheTransform : Amounts → ℕ → Picture → Picture → Type 0
ShowsTheTransform K L p q =
    (x : Plane) (P : ℕ) → Budgeted p.height p.width L P x
    → Agree p.height p.width p.number x
    → Agree p.height p.width q.number (forward K p.height p.width L x)

-- Where p shows the transform at L levels of samples x within the budget, q shows that at the first k levels; where k is larger
-- than L, nothing was undone and q shows all L.
abbrev pub ShowsTheRoundsBelow : Amounts → ℕ → ℕ → Picture → Picture → Type 0
ShowsTheRoundsBelow K L k p q =
    (x : Plane) (P : ℕ) → Budgeted p.height p.width L P x
    → Agree p.height p.width p.number (forward K p.height p.width L x)
    → Agree p.height p.width q.number (forward K p.height p.width (min k L) x)
