-- The rule for a missing neighbour is the symmetric extension of the standard.
use Rattle.std.proofs.Common.{◌≡◌, ℕ, zero, suc, ◌+◌, ◌-◌, ◌*◌, ◌<◌, ◌≤◌, min, true, ◌⊎◌, ℤ, pos, negsuc, ◌+ℤ◌, ◌-ℤ◌, sym, refl, ap, ◌∙◌, inl, inr, mod-eq_of_lt, add-one, arith}
use native.Mathlib.Nat.{mod_self}
use lib.IntN.{+ℤ_comm}
use lib.Signed.{shr_z}
use Rattle.std.proofs.lemmas.Int.{ints}
use Rattle.std.proofs.lemmas.Bool.Decides.{nat_tests}
use Rattle.std.proofs.lemmas.Bool.{cases_lt}
use Rattle.wavelets.specs.Lifting.{Line, five_three, left, right, is_changed, step, predicted, lift, unupdated, unlift}
use Rattle.wavelets.specs.Extension.{reflected, extended, high_pass, low_pass, even_again, odd_again}
use Rattle.wavelets.specs.Theorems.{LiftsAsTheStandard, UndoesAsTheStandard, ALineOfOneStays}
use Rattle.wavelets.proofs.Steps.{same_result, step_changed, step_unchanged}

-- one to the left
left_of : (i j : ℕ) → i ≡ j + 1 → left i ≡ j
left_of i j e = rw (e, add-one)

minus_one : (i j : ℕ) → i ≡ j + 1 → pos i -ℤ pos 1 ≡ pos j
minus_one i j e = omega (arith, ints)

module _ (n : ℕ) (x : Line) (two : 2 ≤ n) where
  -- the place that stands for i, one period to the right and to the left
  folded : (i : ℕ) → i ≤ 2 * (n - 1) → reflected n (pos i) ≡ min i (2 * (n - 1) - i)
  folded i h = at (cases_lt i (2 * (n - 1)))
    where
      at : (i < 2 * (n - 1)) ⊎ (2 * (n - 1) ≤ i) → reflected n (pos i) ≡ min i (2 * (n - 1) - i)
      at (inl l) = rw (mod-eq_of_lt l)
      at (inr g) = let e : i ≡ 2 * (n - 1) = omega arith in rw (e, mod_self (2 * (n - 1))) (omega arith)

  folded_before : (i : ℕ) → i < 2 * (n - 1) → reflected n (negsuc i) ≡ min (2 * (n - 1) - 1 - i) (i + 1)
  folded_before i l = rw (mod-eq_of_lt l) (omega arith)

  -- the extended line at a place of the line, and to its right
  here : (i : ℕ) → i < n → extended n x (pos i) ≡ x i
  here i l = ap x (folded i (omega arith) ∙ omega arith)

  to_the_right : (i j : ℕ) → j ≡ i + 1 → i < n → extended n x (pos j) ≡ x (right n i)
  to_the_right i j e l = ap x (folded j (omega arith) ∙ grind (arith, nat_tests))

  -- two places beyond either end
  first_before : extended n x (negsuc 0) ≡ x 1
  first_before = ap x (folded_before 0 (omega arith) ∙ omega arith)

  second_before : extended n x (negsuc 1) ≡ x (right n 1)
  second_before = ap x (folded_before 1 (omega arith) ∙ grind (arith, nat_tests))

  first_beyond : (i j : ℕ) → i + 2 ≡ n → j ≡ n → extended n x (pos j) ≡ x i
  first_beyond i j e h = ap x (folded j (omega arith) ∙ omega arith)

  second_beyond : (i j : ℕ) → i + 2 ≡ n → j ≡ n + 1 → extended n x (pos j) ≡ x (left i)
  second_beyond zero j e h = let e₁ : n ≡ 2 = omega arith in let e₂ : j ≡ 3 = omega arith in rw (e₁, e₂)
  second_beyond (suc i) j e h = ap x (folded j (omega arith) ∙ omega arith)

  -- a step that takes its neighbours alike, worked out on the extended line: at a place of the line, one before it and one beyond it
  module _ (p : ℕ) (f : ℤ → ℤ → ℤ → ℤ) (alike : (z a b : ℤ) → f z a b ≡ f z b a) where
    at_first : is_changed n p 0 ≡ true → f (extended n x (pos 0)) (extended n x (negsuc 0)) (extended n x (pos 1)) ≡ step n p f x 0
    at_first c = same_result f (here 0 (omega arith)) first_before (to_the_right 0 1 refl (omega arith)) ∙ sym (step_changed n p f x 0 c)

    at_later : (i j k : ℕ) → i ≡ j + 1 → k ≡ i + 1 → i < n → is_changed n p i ≡ true
        → f (extended n x (pos i)) (extended n x (pos j)) (extended n x (pos k)) ≡ step n p f x i
    at_later i j k e h l c =
        same_result f (here i l) (here j (omega arith) ∙ ap x (sym (left_of i j e))) (to_the_right i k h l) ∙ sym (step_changed n p f x i c)

    at_before : is_changed n p 1 ≡ true → f (extended n x (negsuc 0)) (extended n x (negsuc 1)) (extended n x (pos 0)) ≡ step n p f x 1
    at_before c = same_result f first_before second_before (here 0 (omega arith)) ∙ alike _ _ _ ∙ sym (step_changed n p f x 1 c)

    at_beyond : (i a b d : ℕ) → i + 2 ≡ n → a ≡ n → b + 1 ≡ n → d ≡ n + 1 → is_changed n p i ≡ true
        → f (extended n x (pos a)) (extended n x (pos b)) (extended n x (pos d)) ≡ step n p f x i
    at_beyond i a b d e ea eb ed c =
        same_result f (first_beyond i a e ea) (to_the_right i b (omega arith) (omega arith)) (second_beyond i d e ed) ∙ alike _ _ _
        ∙ sym (step_changed n p f x i c)

  -- the odd places of the standard, on the line and beside its even places
  lowered : ℤ → ℤ → ℤ → ℤ
  lowered z a b = z -ℤ five_three.predict a b

  lowered_alike : (z a b : ℤ) → lowered z a b ≡ lowered z b a
  unfolding lowered
  lowered_alike z a b = ap (λ (s : ℤ). z -ℤ shr_z s 2) (+ℤ_comm a b)

  high_here : (m : ℕ) → 2 * m + 1 < n → high_pass (extended n x) (pos m) ≡ predicted five_three n x (2 * m + 1)
  unfolding lowered predicted
  high_here m l = at_later 1 lowered lowered_alike (2 * m + 1) (2 * m) (2 * m + 2) refl (omega arith) l (grind (arith, nat_tests))

  high_left : (m : ℕ) → 2 * m < n → high_pass (extended n x) (pos m -ℤ pos 1) ≡ predicted five_three n x (left (2 * m))
  unfolding lowered predicted
  high_left zero l = at_before 1 lowered lowered_alike (grind (arith, nat_tests))
  high_left (suc m) l =
      ap (high_pass (extended n x)) (minus_one (suc m) m (omega arith)) ∙ high_here m (omega arith)
      ∙ ap (predicted five_three n x) (sym (left_of (2 * suc m) (2 * m + 1) (omega arith)))

  high_right : (m : ℕ) → 2 * m < n → high_pass (extended n x) (pos m) ≡ predicted five_three n x (right n (2 * m))
  unfolding lowered predicted
  high_right m l = at (cases_lt (2 * m + 1) n)
    where
      at : (2 * m + 1 < n) ⊎ (n ≤ 2 * m + 1) → high_pass (extended n x) (pos m) ≡ predicted five_three n x (right n (2 * m))
      at (inl h) = let e : right n (2 * m) ≡ 2 * m + 1 = grind (arith, nat_tests) in high_here m h ∙ ap (predicted five_three n x) (sym e)
      at (inr h) =
          let e : right n (2 * m) ≡ 2 * m - 1 = grind (arith, nat_tests) in
          at_beyond 1 lowered lowered_alike (2 * m - 1) (2 * m + 1) (2 * m) (2 * m + 2)
          (omega arith) (omega arith) (omega arith) (omega arith) (grind (arith, nat_tests))
          ∙ ap (predicted five_three n x) (sym e)

  -- the even places of the inverse likewise
  unraised : ℤ → ℤ → ℤ → ℤ
  unraised z a b = z -ℤ five_three.update a b

  unraised_alike : (z a b : ℤ) → unraised z a b ≡ unraised z b a
  unfolding unraised
  unraised_alike z a b = ap (λ (s : ℤ). z -ℤ shr_z (s +ℤ pos 2) 4) (+ℤ_comm a b)

  even_here : (m : ℕ) → 2 * m < n → even_again (extended n x) (pos m) ≡ unupdated five_three n x (2 * m)
  unfolding unraised unupdated
  even_here zero l = at_first 0 unraised unraised_alike (grind (arith, nat_tests))
  even_here (suc m) l =
      same_result unraised refl (ap (extended n x) (minus_one (2 * suc m) (2 * m + 1) (omega arith))) refl
      ∙ at_later 0 unraised unraised_alike (2 * suc m) (2 * m + 1) (2 * suc m + 1) (omega arith) refl l (grind (arith, nat_tests))

  even_right : (m : ℕ) → 2 * m + 1 < n → even_again (extended n x) (pos (m + 1)) ≡ unupdated five_three n x (right n (2 * m + 1))
  unfolding unraised unupdated
  even_right m l = at (cases_lt (2 * m + 2) n)
    where
      at : (2 * m + 2 < n) ⊎ (n ≤ 2 * m + 2) → even_again (extended n x) (pos (m + 1)) ≡ unupdated five_three n x (right n (2 * m + 1))
      at (inl h) = let e : right n (2 * m + 1) ≡ 2 * (m + 1) = grind (arith, nat_tests) in even_here (m + 1) (omega arith) ∙ ap (unupdated five_three n x) (sym e)
      at (inr h) =
          let e : right n (2 * m + 1) ≡ 2 * m = grind (arith, nat_tests) in
          same_result unraised refl (ap (extended n x) (minus_one (2 * (m + 1)) (2 * m + 1) (omega arith))) refl
          ∙ at_beyond 0 unraised unraised_alike (2 * m) (2 * (m + 1)) (2 * m + 1) (2 * (m + 1) + 1)
          (omega arith) (omega arith) (omega arith) (omega arith) (grind (arith, nat_tests))
          ∙ ap (unupdated five_three n x) (sym e)

pub lifts_as_the_standard : LiftsAsTheStandard five_three
unfolding lift predicted
lifts_as_the_standard n x two m = (even, odd)
  where
    even : 2 * m < n → lift five_three n x (2 * m) ≡ low_pass (extended n x) (pos m)
    even l =
        step_changed n 0 _ (predicted five_three n x) (2 * m) (grind (arith, nat_tests))
        ∙ sym (same_result (λ z a b. z +ℤ five_three.update a b)
        (here n x two (2 * m) l ∙ sym (step_unchanged n 1 _ x (2 * m) (grind (arith, nat_tests)))) (high_left n x two m l) (high_right n x two m l))

    odd : 2 * m + 1 < n → lift five_three n x (2 * m + 1) ≡ high_pass (extended n x) (pos m)
    odd l = step_unchanged n 0 _ (predicted five_three n x) (2 * m + 1) (grind (arith, nat_tests)) ∙ sym (high_here n x two m l)

pub undoes_as_the_standard : UndoesAsTheStandard five_three
unfolding unlift unupdated
undoes_as_the_standard n x two m = (even, odd)
  where
    even : 2 * m < n → unlift five_three n x (2 * m) ≡ even_again (extended n x) (pos m)
    even l = step_unchanged n 1 _ (unupdated five_three n x) (2 * m) (grind (arith, nat_tests)) ∙ sym (even_here n x two m l)

    odd : 2 * m + 1 < n → unlift five_three n x (2 * m + 1) ≡ odd_again (extended n x) (pos m)
    odd l =
        step_changed n 1 _ (unupdated five_three n x) (2 * m + 1) (grind (arith, nat_tests))
        ∙ sym (same_result (λ z a b. z +ℤ five_three.predict a b)
        (here n x two (2 * m + 1) l ∙ sym (step_unchanged n 0 _ x (2 * m + 1) (grind (arith, nat_tests))))
        (even_here n x two m (omega arith) ∙ ap (unupdated five_three n x) (sym (left_of (2 * m + 1) (2 * m) refl)))
        (even_right n x two m l))

pub one_stays : ALineOfOneStays
unfolding step predicted lift unupdated unlift
one_stays K x = (refl, refl)
