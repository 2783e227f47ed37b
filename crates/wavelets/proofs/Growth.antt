-- How numbers grow: a step at most doubles or trebles them, a level at most makes them ninefold; so the budget holds.
use Rattle.std.proofs.Common.{◌≡◌, ℕ, zero, suc, ◌+◌, ◌*◌, ◌/◌, ◌^◌, ◌<◌, ◌≤◌, max, Bool, true, false, ℤ, pos, negsuc, ◌+ℤ◌, ◌-ℤ◌, neg_ℤ, nat_abs, refl, ap, ◌∙◌, mul-le-mul_right, arith}
use native.Mathlib.Nat.{pow-zero, pow-succ', pow-le-pow_left, pow-le-pow_right}
use lib.Signed.{shr_z}
use borrow.Author.Differences.{up, down}
use Rattle.std.proofs.lemmas.Int.{ints}
use Rattle.std.proofs.lemmas.Bool.Decides.{nat_tests}
use Rattle.std.proofs.lemmas.Bool.{leb-true}
use Rattle.wavelets.specs.Lifting.{Line, Plane, Amounts, Lawful, five_three, s_transform, left, right, is_changed, step, predicted, lift, columns, rows, level, size, lattice, on, on_lattice, round, climb, forward, Bounded}
use Rattle.wavelets.specs.Theorems.{LiftingWithin, UndoingWithin, StepsGrowAtMost, ALevelGrowsAtMost, NoFactorServesBelow, ForwardStaysWithin, UndoingStaysWithin}
use Rattle.wavelets.proofs.Steps.{neighbours_inside, step_changed, step_unchanged}
use Rattle.wavelets.proofs.Planes.{Grows, rows_grow, columns_grow}
use Rattle.wavelets.proofs.Lattices.{place_inside, on_lattice_on, on_lattice_off, lattice_after, lattice_bounded}
use Rattle.wavelets.proofs.Undoing.{unlevel_level, same_steps, undo_leaves_rounds}

-- the kernels' law
floor_half : (z : ℤ) → (2 * up (shr_z z 2) + down z ≤ up z + 2 * down (shr_z z 2)) × (up z + 2 * down (shr_z z 2) < down z + 2 * up (shr_z z 2) + 2)
floor_half (pos n) = omega arith
floor_half (negsuc n) = omega arith

floor_quarter : (z : ℤ) → (4 * up (shr_z z 4) + down z ≤ up z + 4 * down (shr_z z 4)) × (up z + 4 * down (shr_z z 4) < down z + 4 * up (shr_z z 4) + 4)
floor_quarter (pos n) = omega arith
floor_quarter (negsuc n) = omega arith

pub five_three_lawful : Lawful five_three
five_three_lawful a b = (omega (arith, ints, floor_half (a +ℤ b)), omega (arith, ints, floor_quarter (a +ℤ b +ℤ pos 2)))

pub s_transform_lawful : Lawful s_transform
s_transform_lawful a b = (omega arith, omega (arith, ints, floor_half b))

sum_size : (a b : ℤ) → nat_abs (a +ℤ b) ≤ nat_abs a + nat_abs b
sum_size a b = omega (arith, ints)

difference_size : (a b : ℤ) → nat_abs (a -ℤ b) ≤ nat_abs a + nat_abs b
difference_size a b = omega (arith, ints)

-- a step whose numbers to be changed are at most A, and all others at most B
step_grows : (n p : ℕ) (f : ℤ → ℤ → ℤ → ℤ) (A B : ℕ) (x : Line)
    → ((z a b : ℤ) → nat_abs (f z a b) ≤ nat_abs z + max (nat_abs a) (nat_abs b))
    → ((i : ℕ) → i < n → nat_abs (x i) ≤ B) → ((i : ℕ) → i < n → is_changed n p i ≡ true → nat_abs (x i) ≤ A)
    → (i : ℕ) → i < n → nat_abs (step n p f x i) ≤ A + B
step_grows n p f A B x adds others own i lt = at (is_changed n p i) refl
  where
    at : (t : Bool) → is_changed n p i ≡ t → nat_abs (step n p f x i) ≤ A + B
    at true h =
        let s = neighbours_inside n p i h in
        rw (step_changed n p f x i h)
        (omega (arith, adds (x i) (x (left i)) (x (right n i)), own i lt h, others (left i) s.0, others (right n i) s.1))
    at false h = rw (step_unchanged n p f x i h) (omega (arith, others i lt))

module _ (K : Amounts) (lawful : Lawful K) where
  predicted_grows : Grows 2 (predicted K)
  unfolding predicted
  predicted_grows n M x small i lt =
      omega (
        arith,
        step_grows n 1 (λ z a b. z -ℤ K.predict a b) M M x
            (λ z a b. omega (arith, difference_size z (K.predict a b), (lawful a b).0)) small (λ i l _. small i l) i lt,
      )

  lift_grows : Grows 3 (lift K)
  unfolding predicted lift
  lift_grows n M x small i lt =
      omega (
        arith,
        step_grows n 0 (λ z a b. z +ℤ K.update a b) M (2 * M) (predicted K n x)
            (λ z a b. omega (arith, sum_size z (K.update a b), (lawful a b).1)) (predicted_grows n M x small) even i lt,
      )
    where
      even : (i : ℕ) → i < n → is_changed n 0 i ≡ true → nat_abs (predicted K n x i) ≤ M
      even i l h = let o : is_changed n 1 i ≡ false = grind (arith, nat_tests) in rw (step_unchanged n 1 (λ z a b. z -ℤ K.predict a b) x i o) (small i l)

pub steps_grow : StepsGrowAtMost 2 3 6 9
unfolding level
steps_grow K R C M x lawful small =
    let done = columns_grow (lift K) 3 (lift_grows K lawful) R C M x small in
    record {
      at_start = small;
      columns_predicted = columns_grow (predicted K) 2 (predicted_grows K lawful) R C M x small;
      columns_lifted = done;
      rows_predicted = λ r c lr lc. omega (arith, rows_grow (predicted K) 2 (predicted_grows K lawful) R C (3 * M) (columns (lift K) R C x) done r c lr lc);
      rows_lifted = λ r c lr lc. omega (arith, rows_grow (lift K) 3 (lift_grows K lawful) R C (3 * M) (columns (lift K) R C x) done r c lr lc);
    }

round_grows : (K : Amounts) → Lawful K → (R C k M : ℕ) (x : Plane) → Bounded R C M x → Bounded R C (9 * M) (round (level K) R C k x)
round_grows K lawful R C k M x small r c lr lc = at (on k r c) refl
  where
    at : (q : Bool) → on k r c ≡ q → nat_abs (round (level K) R C k x r c) ≤ 9 * M
    at true h =
        rw (on_lattice_on k (level K (size k R) (size k C)) x r c h)
        ((steps_grow K (size k R) (size k C) M (lattice k x) lawful (lattice_bounded R C k M x small)).rows_lifted
        (r / 2 ^ k) (c / 2 ^ k) (place_inside k R r lr) (place_inside k C c lc))
    at false h = rw (on_lattice_off k (level K (size k R) (size k C)) x r c h) (omega (arith, small r c lr lc))

pub levels_grow : ALevelGrowsAtMost 9
unfolding climb
levels_grow K R C zero M x lawful small r c lr lc = omega (arith, small r c lr lc)
levels_grow K R C (suc k) M x lawful small r c lr lc =
    omega (
      arith,
      round_grows K lawful R C k (9 ^ k * M) (forward K R C k x) (levels_grow K R C k M x lawful small) r c lr lc,
      ap (λ (m : ℕ). m * M) (pow-succ' 9 k),
    )

pub nine_serves : (q : ℕ) → 9 ≤ q → ALevelGrowsAtMost q
nine_serves q h K R C k M x lawful small r c lr lc = omega (arith, levels_grow K R C k M x lawful small r c lr lc, mul-le-mul_right M (pow-le-pow_left h k))

-- nine is reached: by the amounts −a and a, on four ones
largest : Amounts
largest = record { predict = λ a b. neg_ℤ a; update = λ a b. a }

largest_lawful : Lawful largest
unfolding largest
largest_lawful a b = (omega (arith, ints), omega arith)

ones : Plane
ones r c = pos 1

nine_reached : forward largest 2 2 1 ones 0 0 ≡ pos 9
unfolding largest ones step predicted lift columns rows level lattice on_lattice climb
nine_reached = refl

ones_bounded : Bounded 2 2 1 ones
unfolding ones
ones_bounded r c _ _ = omega arith

pub nine_needed : (q : ℕ) → q ≤ 9 → NoFactorServesBelow q
nine_needed q h p serves =
    let e : p ^ 1 ≡ p = pow-succ' p 0 ∙ rw (pow-zero p) (omega arith) in
    omega (arith, rw nine_reached at (serves largest 2 2 1 1 ones largest_lawful ones_bounded 0 0 (omega arith) (omega arith)))

-- where 9^L · P is at most B, no number exceeds B at any step
module _ (K : Amounts) (R C L P B : ℕ) (x : Plane) (lawful : Lawful K) (small : Bounded R C P x) (room : P * 9 ^ L ≤ B) where
  power : (k : ℕ) → k ≤ L → 9 ^ k * P ≤ B
  power k h = omega (arith, mul-le-mul_right P (pow-le-pow_right {n = 9} (omega arith) h))

  pub rounds_within : (k : ℕ) → k ≤ L → Bounded R C B (forward K R C k x)
  rounds_within k h r c lr lc = omega (arith, levels_grow K R C k P x lawful small r c lr lc, power k h)

  pub steps_within : (k : ℕ) → k < L → LiftingWithin K (size k R) (size k C) B (lattice k (forward K R C k x))
  steps_within k h =
      let start = lattice_bounded R C k (9 ^ k * P) (forward K R C k x) (levels_grow K R C k P x lawful small) in
      let s = steps_grow K (size k R) (size k C) (9 ^ k * P) (lattice k (forward K R C k x)) lawful start in
      let e : 9 * (9 ^ k * P) ≤ B = omega (arith, power (suc k) h, ap (λ (m : ℕ). m * P) (pow-succ' 9 k)) in
      record {
        at_start = λ r c lr lc. omega (arith, s.at_start r c lr lc);
        columns_predicted = λ r c lr lc. omega (arith, s.columns_predicted r c lr lc);
        columns_lifted = λ r c lr lc. omega (arith, s.columns_lifted r c lr lc);
        rows_predicted = λ r c lr lc. omega (arith, s.rows_predicted r c lr lc);
        rows_lifted = λ r c lr lc. omega (arith, s.rows_lifted r c lr lc);
      }

-- the steps of undoing are those of lifting
pub undoing_steps_within : (K : Amounts) (R C B : ℕ) (x : Plane) → LiftingWithin K R C B x → UndoingWithin K R C B (level K R C x)
undoing_steps_within K R C B x w =
    let s = same_steps K R C x in
    record {
      at_start = w.rows_lifted;
      rows_unupdated = rw s.0 w.rows_predicted;
      rows_undone = rw s.1 w.columns_lifted;
      columns_unupdated = rw (s.1, s.2) w.columns_predicted;
      columns_undone = rw (unlevel_level K R C x) w.at_start;
    }

module _ (B : ℕ) (enough : 2147483647 ≤ B) where
  pub forward_within : ForwardStaysWithin B
  forward_within K R C L P x lawful small fits =
      let room : P * 9 ^ L ≤ B = omega (arith, leb-true (P * 9 ^ L) 2147483647 fits) in
      (rounds_within K R C L P B x lawful small room, steps_within K R C L P B x lawful small room)

  pub undoing_within : UndoingStaysWithin B
  unfolding climb
  undoing_within K R C L P x lawful small fits =
      let lifting = forward_within K R C L P x lawful small fits in (
        (λ k h. rw (undo_leaves_rounds K R C L k x h) (lifting.0 k h)),
        λ k h. rw (undo_leaves_rounds K R C L (suc k) x h, lattice_after k (level K (size k R) (size k C)) (forward K R C k x))
            (undoing_steps_within K (size k R) (size k C) B _ (lifting.1 k h)),
      )
