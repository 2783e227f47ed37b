-- Where all results fit, nothing is clamped.
use Rattle.std.proofs.Common.{◌≡◌, ℕ, ◌<◌, ◌≤◌, min, Bool, true, false, ◌⊎◌, ℤ, pos, negsuc, nat_abs, sym, refl, ap, ◌∙◌, inl, inr, arith}
use mathlib.Core.Path.{fun_ext}
use Rattle.std.proofs.lemmas.Bool.{cases_lt}
use Rattle.std.proofs.lemmas.Bool.Decides.{nat_tests}
use Rattle.planes.specs.Planes.{Picture}
use Rattle.wavelets.specs.Lifting.{Amounts, Lawful, Plane, PlaneWork, step, predicted, lift, unupdated, unlift, rows, columns, level, size, forward, Agree, Bounded}
use Rattle.wavelets.specs.Theorems.{LiftingWithin, ReadsNothingOutside}
use Rattle.wavelets.proofs.Steps.{step_reads}
use Rattle.wavelets.proofs.Planes.{rows_after, columns_after, columns_undone, rows_read, columns_read}
use Rattle.wavelets.proofs.Undoing.{same_steps, unlift_lift}
use Rattle.wavelets.proofs.Growth.{forward_within}
use Rattle.wavelets.proofs.Rounds.{climb_same, descend_undoes, climb_reads, descend_reads}
use Rattle.lifting.specs.Passes.{to_cell, StepRule, predicting, updating, undoing_update, undoing_predict, Direction, horizontal, vertical, lines, swept, cell_level, cell_unlevel, cell_forward, cell_undo, worked, AllResultsFit, ForwardIsTheTransform, UndoingLeavesTheRoundsBelow, Budgeted, ShowsTheTransform, ShowsTheRoundsBelow}
use Rattle.lifting.specs.Walks.{changes}
use Rattle.lifting.proofs.Sweeps.{lines_changed, lines_unchanged}
use Rattle.lifting.proofs.Rounds.{descend_none_below}

to_cell_same : (z : ℤ) → nat_abs z ≤ 2147483647 → to_cell z ≡ z
to_cell_same (pos n) h = let e : min n 2147483647 ≡ n = omega arith in rw e
to_cell_same (negsuc n) h = let e : min n 2147483647 ≡ n = omega arith in rw e

-- a sweep without clamping
abbrev exact : Direction → StepRule → Amounts → PlaneWork
exact d s K = lines d (λ n. step n s.parity (s.result K))

changed_inside : (d : Direction) (p R C r c : ℕ) → changes d p R C r c ≡ true → (r < R) × (c < C)
changed_inside horizontal p R C r c h = (grind (arith, nat_tests), grind (arith, nat_tests))
changed_inside vertical p R C r c h = (grind (arith, nat_tests), grind (arith, nat_tests))

swept_exact : (d : Direction) (s : StepRule) (K : Amounts) (R C : ℕ) (x : Plane) → Bounded R C 2147483647 (exact d s K R C x) → swept d s K R C x ≡ exact d s K R C x
unfolding swept
swept_exact d s K R C x small = fun_ext (λ r. fun_ext (λ c. at r c (changes d s.parity R C r c) refl))
  where
    at : (r c : ℕ) (t : Bool) → changes d s.parity R C r c ≡ t → swept d s K R C x r c ≡ exact d s K R C x r c
    at r c false h = lines_unchanged s.parity _ R C x d r c h ∙ sym (lines_unchanged s.parity (s.result K) R C x d r c h)
    at r c true h =
        let q = lines_changed s.parity (s.result K) R C x d r c h in
        let l = changed_inside d s.parity R C r c h in
        lines_changed s.parity (λ z a b. to_cell (s.result K z a b)) R C x d r c h ∙ to_cell_same _ (rw q at (small r c l.0 l.1)) ∙ sym q

-- a sweep whose exact result z is known and small
sweep_is : (d : Direction) (s : StepRule) (K : Amounts) (R C : ℕ) (x y z : Plane) → x ≡ y → exact d s K R C y ≡ z → Bounded R C 2147483647 z → swept d s K R C x ≡ z
sweep_is d s K R C x y z e h small = ap (swept d s K R C) e ∙ swept_exact d s K R C y (rw h small) ∙ h

-- the steps of the transform, as sweeps
module _ (K : Amounts) (R C : ℕ) (x : Plane) where
  predict_rows : exact horizontal predicting K R C x ≡ rows (predicted K) R C x
  unfolding predicted
  predict_rows = refl

  predict_columns : exact vertical predicting K R C x ≡ columns (predicted K) R C x
  unfolding predicted
  predict_columns = refl

  update_rows : exact horizontal updating K R C (rows (predicted K) R C x) ≡ rows (lift K) R C x
  unfolding lift
  update_rows = rows_after (predicted K) _ (lift K) R C x (λ n l. refl)

  update_columns : exact vertical updating K R C (columns (predicted K) R C x) ≡ columns (lift K) R C x
  unfolding lift
  update_columns = columns_after (predicted K) _ (lift K) R C x (λ n l. refl)

  unupdate_rows : exact horizontal undoing_update K R C x ≡ rows (unupdated K) R C x
  unfolding unupdated
  unupdate_rows = refl

  unupdate_columns : exact vertical undoing_update K R C x ≡ columns (unupdated K) R C x
  unfolding unupdated
  unupdate_columns = refl

  unpredict_rows : exact horizontal undoing_predict K R C (rows (unupdated K) R C x) ≡ rows (unlift K) R C x
  unfolding unlift
  unpredict_rows = rows_after (unupdated K) _ (unlift K) R C x (λ n l. refl)

  unpredict_columns : exact vertical undoing_predict K R C (columns (unupdated K) R C x) ≡ columns (unlift K) R C x
  unfolding unlift
  unpredict_columns = columns_after (unupdated K) _ (unlift K) R C x (λ n l. refl)

level_is : (K : Amounts) (R C : ℕ) (x : Plane) → LiftingWithin K R C 2147483647 x → cell_level K R C x ≡ level K R C x
unfolding level
level_is K R C x w =
    let y : Plane = columns (lift K) R C x in
    let a = sweep_is vertical predicting K R C x x (columns (predicted K) R C x) refl (predict_columns K R C x) w.columns_predicted in
    let b = sweep_is vertical updating K R C _ (columns (predicted K) R C x) y a (update_columns K R C x) w.columns_lifted in
    let d = sweep_is horizontal predicting K R C _ y (rows (predicted K) R C y) b (predict_rows K R C y) w.rows_predicted in
    sweep_is horizontal updating K R C _ (rows (predicted K) R C y) (rows (lift K) R C y) d (update_rows K R C y) w.rows_lifted

-- undoing passes through the same numbers
unlevel_is : (K : Amounts) (R C : ℕ) (x : Plane) → LiftingWithin K R C 2147483647 x → cell_unlevel K R C (level K R C x) ≡ x
unlevel_is K R C x w =
    let y : Plane = columns (lift K) R C x in
    let z : Plane = level K R C x in
    let t = same_steps K R C x in
    let a = sweep_is horizontal undoing_update K R C z z (rows (predicted K) R C y) refl (unupdate_rows K R C z ∙ t.0) w.rows_predicted in
    let b = sweep_is horizontal undoing_predict K R C _ (rows (unupdated K) R C z) y (a ∙ sym t.0) (unpredict_rows K R C z ∙ t.1) w.columns_lifted in
    let d = sweep_is vertical undoing_update K R C _ y (columns (predicted K) R C x) b (unupdate_columns K R C y ∙ t.2) w.columns_predicted in
    sweep_is vertical undoing_predict K R C _ (columns (unupdated K) R C y) x (d ∙ sym t.2) (unpredict_columns K R C y ∙ columns_undone (lift K) (unlift K) R C x (unlift_lift K)) w.at_start

pub forward_is : ForwardIsTheTransform
forward_is K R C L x fit = climb_same (cell_level K) (level K) R C L x (λ k h. level_is K (size k R) (size k C) _ (fit k h))

pub undo_is : UndoingLeavesTheRoundsBelow
undo_is K R C L k x fit le = descend_undoes (level K) (cell_unlevel K) R C L k x le (λ j h. unlevel_is K (size j R) (size j C) _ (fit j h))

-- nothing outside the plate is read
swept_reads : (d : Direction) (s : StepRule) (K : Amounts) → ReadsNothingOutside (swept d s K)
unfolding swept
swept_reads horizontal s K = rows_read _ (step_reads s.parity _)
swept_reads vertical s K = columns_read _ (step_reads s.parity _)

level_reads : (K : Amounts) → ReadsNothingOutside (cell_level K)
level_reads K R C x y same =
    swept_reads horizontal updating K R C _ _ (swept_reads horizontal predicting K R C _ _ (swept_reads vertical updating K R C _ _ (swept_reads vertical predicting K R C x y same)))

unlevel_reads : (K : Amounts) → ReadsNothingOutside (cell_unlevel K)
unlevel_reads K R C x y same =
    swept_reads vertical undoing_predict K R C _ _ (swept_reads vertical undoing_update K R C _ _ (swept_reads horizontal undoing_predict K R C _ _ (swept_reads horizontal undoing_update K R C x y same)))

-- within the budget all results fit
module _ (K : Amounts) (lawful : Lawful K) (R C L P : ℕ) (x : Plane) (b : Budgeted R C L P x) where
  fit : AllResultsFit K R C L x
  fit = (forward_within 2147483647 (omega arith) K R C L P x lawful b.small b.room).1

  forward_agrees : (n : Plane) → Agree R C n x → Agree R C (cell_forward K L R C n) (forward K R C L x)
  forward_agrees n same r c lr lc = climb_reads (cell_level K) (level_reads K) L R C n x same r c lr lc ∙ ap (λ (y : Plane). y r c) (forward_is K R C L x fit)

  undo_agrees : (k : ℕ) (n : Plane) → Agree R C n (forward K R C L x) → Agree R C (cell_undo K L k R C n) (forward K R C (min k L) x)
  undo_agrees k n same r c lr lc = at (cases_lt L k)
    where
      at : (L < k) ⊎ (k ≤ L) → cell_undo K L k R C n r c ≡ forward K R C (min k L) x r c
      at (inl h) =
          let e : min k L ≡ L = omega arith in
          rw e (ap (λ (y : Plane). y r c) (descend_none_below (cell_unlevel K) R C L k n (omega arith)) ∙ same r c lr lc)
      at (inr h) =
          let e : min k L ≡ k = omega arith in
          rw e (descend_reads (cell_unlevel K) (unlevel_reads K) L k R C n _ same r c lr lc ∙ ap (λ (y : Plane). y r c) (undo_is K R C L k x fit h))

pub shows_transform : (K : Amounts) → Lawful K → (L : ℕ) (p q : Picture) → q ≡ worked (cell_forward K L) p → ShowsTheTransform K L p q
shows_transform K lawful L p q e x P b same r c lr lc =
    ap (λ (o : Picture). o.number r c) e ∙ forward_agrees K lawful p.height p.width L P x b p.number same r c lr lc

pub shows_rounds_below : (K : Amounts) → Lawful K → (L k : ℕ) (p q : Picture) → q ≡ worked (cell_undo K L k) p → ShowsTheRoundsBelow K L k p q
shows_rounds_below K lawful L k p q e x P b same r c lr lc =
    ap (λ (o : Picture). o.number r c) e ∙ undo_agrees K lawful p.height p.width L P x b k p.number same r c lr lc
