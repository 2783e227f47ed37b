-- Lifting and undoing: each direction undoes the other, and neither reads anything outside the plate.
use Rattle.std.proofs.Common.{◌≡◌, ℕ, ap, ◌∙◌, arith}
use lib.IntN.{+ℤ-neg_ℤ_cancel, -ℤ-+ℤ_cancel}
use Rattle.wavelets.specs.Lifting.{Line, Plane, Amounts, step, predicted, lift, unupdated, unlift, columns, rows, level, unlevel, lattice, climb, forward, inverse}
use Rattle.wavelets.specs.Theorems.{Undoes, UndoingToALevelLeavesItsRounds, UndoingToALevelShowsItsResolution, UndoingPassesThroughTheStepsOfLifting, ReadsNothingOutside, ForwardReadsNothingOutside, UndoingReadsNothingOutside}
use Rattle.wavelets.proofs.Steps.{step_undone, ReadsTheLineAlone, step_reads}
use Rattle.wavelets.proofs.Planes.{rows_after, rows_undone, rows_read, columns_after, columns_undone, columns_read}
use Rattle.wavelets.proofs.Rounds.{descend_undoes, climb_undoes, climb_reads, descend_reads}

-- a line
pub unupdated_lift : (K : Amounts) (n : ℕ) (x : Line) → unupdated K n (lift K n x) ≡ predicted K n x
unfolding lift unupdated
unupdated_lift K n x = step_undone n 0 _ _ _ (λ z a b. +ℤ-neg_ℤ_cancel z (K.update a b))

pub unlift_lift : (K : Amounts) (n : ℕ) (x : Line) → unlift K n (lift K n x) ≡ x
unfolding predicted unlift
unlift_lift K n x = ap (step n 1 _) (unupdated_lift K n x) ∙ step_undone n 1 _ _ _ (λ z a b. -ℤ-+ℤ_cancel z (K.predict a b))

pub lift_unlift : (K : Amounts) (n : ℕ) (x : Line) → lift K n (unlift K n x) ≡ x
unfolding predicted lift unupdated unlift
lift_unlift K n x =
    ap (step n 0 _) (step_undone n 1 _ _ _ (λ z a b. +ℤ-neg_ℤ_cancel z (K.predict a b))) ∙ step_undone n 0 _ _ _ (λ z a b. -ℤ-+ℤ_cancel z (K.update a b))

-- a level
pub unlevel_level : (K : Amounts) (R C : ℕ) (x : Plane) → unlevel K R C (level K R C x) ≡ x
unfolding level unlevel
unlevel_level K R C x = ap (columns (unlift K) R C) (rows_undone _ _ R C _ (unlift_lift K)) ∙ columns_undone _ _ R C x (unlift_lift K)

pub level_unlevel : (K : Amounts) (R C : ℕ) (x : Plane) → level K R C (unlevel K R C x) ≡ x
unfolding level unlevel
level_unlevel K R C x = ap (rows (lift K) R C) (columns_undone _ _ R C _ (lift_unlift K)) ∙ rows_undone _ _ R C x (lift_unlift K)

pub same_steps : UndoingPassesThroughTheStepsOfLifting
unfolding level
same_steps K R C x = (
  rows_after (lift K) (unupdated K) (predicted K) R C _ (unupdated_lift K),
  rows_undone _ _ R C _ (unlift_lift K),
  columns_after (lift K) (unupdated K) (predicted K) R C x (unupdated_lift K),
)

-- all levels
pub undo_leaves_rounds : UndoingToALevelLeavesItsRounds
undo_leaves_rounds K R C L k x h = descend_undoes (level K) (unlevel K) R C L k x h (λ j _. unlevel_level K _ _ _)

pub undo_shows_resolution : UndoingToALevelShowsItsResolution
undo_shows_resolution K R C L k x h = ap (lattice k) (undo_leaves_rounds K R C L k x h)

pub inverse_undoes_forward : Undoes inverse forward
unfolding climb
inverse_undoes_forward K R C L x = undo_leaves_rounds K R C L 0 x (omega arith)

pub forward_undoes_inverse : Undoes forward inverse
forward_undoes_inverse K = climb_undoes (level K) (unlevel K) (level_unlevel K)

-- nothing outside is read
lift_reads : (K : Amounts) → ReadsTheLineAlone (lift K)
unfolding lift predicted
lift_reads K n x y same = step_reads 0 _ n _ _ (step_reads 1 _ n x y same)

unlift_reads : (K : Amounts) → ReadsTheLineAlone (unlift K)
unfolding unupdated unlift
unlift_reads K n x y same = step_reads 1 _ n _ _ (step_reads 0 _ n x y same)

pub level_reads : (K : Amounts) → ReadsNothingOutside (level K)
unfolding level
level_reads K R C x y same = rows_read (lift K) (lift_reads K) R C _ _ (columns_read (lift K) (lift_reads K) R C x y same)

pub unlevel_reads : (K : Amounts) → ReadsNothingOutside (unlevel K)
unfolding unlevel
unlevel_reads K R C x y same = columns_read (unlift K) (unlift_reads K) R C _ _ (rows_read (unlift K) (unlift_reads K) R C x y same)

pub forward_reads : ForwardReadsNothingOutside
forward_reads K = climb_reads (level K) (level_reads K)

pub undo_reads : UndoingReadsNothingOutside
undo_reads K = descend_reads (unlevel K) (unlevel_reads K)
