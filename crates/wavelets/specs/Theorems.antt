-- The statements of the theorems; src/lib.rt has a function for each, whose contract names it. A number, a kernel or a test
-- that a statement is about is its argument, so that the contract says which.
use Rattle.std.specs.Prelude.{◌≡◌, ℕ, suc, ◌+◌, ◌*◌, ◌^◌, ◌<◌, ◌≤◌, Bool, true, false, cond, ℤ, pos}
use Rattle.wavelets.specs.Lifting.{Line, Cells, Plane, PlaneWork, Amounts, Lawful, step, predicted, lift, unupdated, unlift, columns, rows, level, unlevel, size, lattice, on, forward, undo, resolution, Agree, AgreeOutside, Bounded, within_budget}
use Rattle.wavelets.specs.Counts.{differences}
use Rattle.wavelets.specs.Cone.{within, in_rectangle, member}
use Rattle.wavelets.specs.Extension.{extended, high_pass, low_pass, even_again, odd_again}
use Rattle.wavelets.specs.declared.Span.{Span}

-- Each direction undoes the other -----------------------------------------------------------------------------------------------

-- A transform of R × C planes at L levels, by a kernel; one that leads back to where another began.
abbrev pub Transform : Type 0
Transform = Amounts → ℕ → ℕ → ℕ → Plane → Plane

abbrev pub Undoes : Transform → Transform → Type 0
Undoes back there = (K : Amounts) (R C L : ℕ) (x : Plane) → back K R C L (there K R C L x) ≡ x

-- Undoing down to level k leaves the first k rounds, and so shows resolution k.
abbrev pub UndoingToALevelLeavesItsRounds : Type 0
UndoingToALevelLeavesItsRounds =
    (K : Amounts) (R C L k : ℕ) (x : Plane) → k ≤ L
    → undo K R C L k (forward K R C L x) ≡ forward K R C k x

abbrev pub UndoingToALevelShowsItsResolution : Type 0
UndoingToALevelShowsItsResolution =
    (K : Amounts) (R C L k : ℕ) (x : Plane) → k ≤ L
    → lattice k (undo K R C L k (forward K R C L x)) ≡ resolution K R C k x

-- Undoing a level passes through the planes that lifting it passed through.
abbrev pub UndoingPassesThroughTheStepsOfLifting : Type 0
UndoingPassesThroughTheStepsOfLifting =
    (K : Amounts) (R C : ℕ) (x : Plane)
    → (rows (unupdated K) R C (level K R C x) ≡ rows (predicted K) R C (columns (lift K) R C x))
    × (rows (unlift K) R C (level K R C x) ≡ columns (lift K) R C x)
    × (columns (unupdated K) R C (columns (lift K) R C x) ≡ columns (predicted K) R C x)

-- A step may be done in place and in any order: at a place that is not done yet it gives the same number whichever other
-- places are done.
abbrev pub AStepMayBeDoneInPlace : Type 0
AStepMayBeDoneInPlace =
    (n p : ℕ) (f : ℤ → ℤ → ℤ → ℤ) (x : Line) (done : ℕ → Bool) (i : ℕ) → done i ≡ false
    → step n p f (λ j. cond (done j) (step n p f x j) (x j)) i ≡ step n p f x i

-- Growth and budget -------------------------------------------------------------------------------------------------------------

-- The sizes of the numbers on the way through a level: at its start, after the two steps of the columns, after those of the rows.
pub record LiftingBounded (K : Amounts) (R C start columns_half columns_done rows_half rows_done : ℕ) (x : Plane) : Type 0 where
  pub at_start : Bounded R C start x
  pub columns_predicted : Bounded R C columns_half (columns (predicted K) R C x)
  pub columns_lifted : Bounded R C columns_done (columns (lift K) R C x)
  pub rows_predicted : Bounded R C rows_half (rows (predicted K) R C (columns (lift K) R C x))
  pub rows_lifted : Bounded R C rows_done (level K R C x)

-- None of them exceeds B, forward and on the way back.
abbrev pub LiftingWithin : Amounts → ℕ → ℕ → ℕ → Plane → Type 0
LiftingWithin K R C B = LiftingBounded K R C B B B B B

pub record UndoingWithin (K : Amounts) (R C B : ℕ) (x : Plane) : Type 0 where
  pub at_start : Bounded R C B x
  pub rows_unupdated : Bounded R C B (rows (unupdated K) R C x)
  pub rows_undone : Bounded R C B (rows (unlift K) R C x)
  pub columns_unupdated : Bounded R C B (columns (unupdated K) R C (rows (unlift K) R C x))
  pub columns_undone : Bounded R C B (unlevel K R C x)

-- Numbers up to M grow at most to a, b, c and d times M in the four steps of a level.
abbrev pub StepsGrowAtMost : ℕ → ℕ → ℕ → ℕ → Type 0
StepsGrowAtMost a b c d =
    (K : Amounts) (R C M : ℕ) (x : Plane) → Lawful K → Bounded R C M x
    → LiftingBounded K R C M (a * M) (b * M) (c * M) (d * M) x

-- Numbers up to M are at most q^k times M after k levels.
abbrev pub ALevelGrowsAtMost : ℕ → Type 0
ALevelGrowsAtMost q =
    (K : Amounts) (R C k M : ℕ) (x : Plane) → Lawful K → Bounded R C M x
    → Bounded R C (q ^ k * M) (forward K R C k x)

-- A factor that serves every lawful kernel is at least q.
abbrev pub NoFactorServesBelow : ℕ → Type 0
NoFactorServesBelow q = (p : ℕ) → ALevelGrowsAtMost p → q ≤ p

-- Where the budget holds, no number exceeds B after any round, or at any step of it: forward, and undoing.
abbrev pub ForwardStaysWithin : ℕ → Type 0
ForwardStaysWithin B =
    (K : Amounts) (R C L P : ℕ) (x : Plane) → Lawful K → Bounded R C P x → within_budget P L ≡ true
    → ((k : ℕ) → k ≤ L → Bounded R C B (forward K R C k x))
    × ((k : ℕ) → k < L → LiftingWithin K (size k R) (size k C) B (lattice k (forward K R C k x)))

abbrev pub UndoingStaysWithin : ℕ → Type 0
UndoingStaysWithin B =
    (K : Amounts) (R C L P : ℕ) (x : Plane) → Lawful K → Bounded R C P x → within_budget P L ≡ true
    → ((k : ℕ) → k ≤ L → Bounded R C B (undo K R C L k (forward K R C L x)))
    × ((k : ℕ) → k < L → UndoingWithin K (size k R) (size k C) B (lattice k (undo K R C L (suc k) (forward K R C L x))))

-- Cone --------------------------------------------------------------------------------------------------------------------------

-- A test of the cells of an R × C plate, for an edit of the rows s and the columns t, at L levels.
abbrev pub CellTest : Type 0
CellTest = ℕ → ℕ → Span → Span → ℕ → Cells Bool

-- Where two pictures agree outside a rectangle, their transforms agree outside its cone.
abbrev pub EditsStayIn : CellTest → Type 0
EditsStayIn cone =
    (K : Amounts) (R C L : ℕ) (s t : Span) (x y : Plane)
    → AgreeOutside (in_rectangle s t) R C x y
    → AgreeOutside (cone R C s t L) R C (forward K R C L x) (forward K R C L y)

-- Cells that are a picture's transform, with those of the cone put anew, are the edited picture's transform.
abbrev pub PuttingAnewGivesTheEditedTransform : CellTest → Type 0
PuttingAnewGivesTheEditedTransform cone =
    (K : Amounts) (R C L : ℕ) (s t : Span) (x y cells : Plane)
    → Agree R C cells (forward K R C L x)
    → AgreeOutside (in_rectangle s t) R C x y
    → Agree R C (λ r c. cond (cone R C s t L r c) (forward K R C L y r c) (cells r c)) (forward K R C L y)

-- What g makes of the plate's cells depends on the plate's cells alone.
abbrev pub ReadsNothingOutside : PlaneWork → Type 0
ReadsNothingOutside g = (R C : ℕ) (x y : Plane) → Agree R C x y → Agree R C (g R C x) (g R C y)

abbrev pub ForwardReadsNothingOutside : Type 0
ForwardReadsNothingOutside = (K : Amounts) (L : ℕ) → ReadsNothingOutside (λ R C. forward K R C L)

abbrev pub UndoingReadsNothingOutside : Type 0
UndoingReadsNothingOutside = (K : Amounts) (L k : ℕ) → ReadsNothingOutside (λ R C. undo K R C L k)

-- The places of the next span are the halves of the even members.
abbrev pub HasTheHalvesOfTheEvenMembers : (ℕ → Span → Span) → Type 0
HasTheHalvesOfTheEvenMembers next =
    (n : ℕ) (s : Span) (m : ℕ) → 0 < n → within (next n s) m ≡ member n s (m * 2)

-- k is the largest number up to L that passes a test.
pub record Largest (test : ℕ → Bool) (L k : ℕ) : Type 0 where
  pub at_most : k ≤ L
  pub passes : test k ≡ true
  pub none_larger : (j : ℕ) → j ≤ L → test j ≡ true → j ≤ k

abbrev pub IsTheLargest : (ℕ → ℕ → ℕ → ℕ) → Type 0
IsTheLargest depth = (L r c : ℕ) → Largest (λ k. on k r c) L (depth L r c)

-- Counts ------------------------------------------------------------------------------------------------------------------------

-- Two planes have no differences exactly when they agree.
abbrev pub NoDifferencesMeansAgreement : {A : Type 0} → (A → A → Bool) → Type 0
NoDifferencesMeansAgreement {A} same =
    (R C : ℕ) (x y : Cells A)
    → (differences same R C x y ≡ 0 → Agree R C x y)
    × (Agree R C x y → differences same R C x y ≡ 0)

-- The standard's 5/3 ------------------------------------------------------------------------------------------------------------

-- On a line of two places or more, lifting gives at its even and at its odd places what the standard gives on the extended line.
-- There the odd places before and beyond the line, which the even ones at its ends need, come from the extended line too.
abbrev pub LiftsAsTheStandard : Amounts → Type 0
LiftsAsTheStandard K =
    (n : ℕ) (x : Line) → 2 ≤ n → (m : ℕ)
    → (2 * m < n → lift K n x (2 * m) ≡ low_pass (extended n x) (pos m))
    × (2 * m + 1 < n → lift K n x (2 * m + 1) ≡ high_pass (extended n x) (pos m))

abbrev pub UndoesAsTheStandard : Amounts → Type 0
UndoesAsTheStandard K =
    (n : ℕ) (x : Line) → 2 ≤ n → (m : ℕ)
    → (2 * m < n → unlift K n x (2 * m) ≡ even_again (extended n x) (pos m))
    × (2 * m + 1 < n → unlift K n x (2 * m + 1) ≡ odd_again (extended n x) (pos m))

-- A line of one stays.
abbrev pub ALineOfOneStays : Type 0
ALineOfOneStays = (K : Amounts) (x : Line) → (lift K 1 x ≡ x) × (unlift K 1 x ≡ x)
