-- One step on a line: where it changes something, what it reads, and how it is undone.
use Rattle.std.proofs.Common.{◌≡◌, ℕ, zero, suc, ◌%◌, ◌<◌, Bool, true, false, cond, ℤ, sym, refl, ◌∙◌, arith}
use mathlib.Core.Path.{fun_ext}
use Rattle.std.proofs.lemmas.Bool.Decides.{nat_tests}
use Rattle.std.proofs.lemmas.Bool.{cond-false}
use Rattle.wavelets.specs.Lifting.{Line, LineWork, left, right, is_changed, step}
use Rattle.wavelets.specs.Theorems.{AStepMayBeDoneInPlace}

-- a place that is changed has the step's parity, its neighbours lie on the line, and they are not changed
pub changed_parity : (n p i : ℕ) → is_changed n p i ≡ true → i % 2 ≡ p
changed_parity n p i h = grind (arith, nat_tests)

pub neighbours_inside : (n p i : ℕ) → is_changed n p i ≡ true → (left i < n) × (right n i < n)
neighbours_inside n p zero h = grind (arith, nat_tests)
neighbours_inside n p (suc i) h = grind (arith, nat_tests)

pub left_unchanged : (n p i : ℕ) → is_changed n p i ≡ true → is_changed n p (left i) ≡ false
left_unchanged n p zero h = grind (arith, nat_tests)
left_unchanged n p (suc i) h = grind (arith, nat_tests)

pub right_unchanged : (n p i : ℕ) → is_changed n p i ≡ true → is_changed n p (right n i) ≡ false
right_unchanged n p i h = grind (arith, nat_tests)

-- what a step works out from equal numbers
pub same_result : (f : ℤ → ℤ → ℤ → ℤ) {z z' a a' b b' : ℤ} → z ≡ z' → a ≡ a' → b ≡ b' → f z a b ≡ f z' a' b'
same_result f p q r = cc

module _ (n p : ℕ) (f : ℤ → ℤ → ℤ → ℤ) where
  -- a step at a place that is changed, and at one that is not
  pub step_changed : (x : Line) (i : ℕ) → is_changed n p i ≡ true → step n p f x i ≡ f (x i) (x (left i)) (x (right n i))
  unfolding step
  step_changed x i h = rw (h, step)

  pub step_unchanged : (x : Line) (i : ℕ) → is_changed n p i ≡ false → step n p f x i ≡ x i
  unfolding step
  step_unchanged x i h = rw (h, step)

  -- a step on lines that agree at the places P gives lines that agree at the places Q
  pub step_agrees : (x y : Line) (P Q : ℕ → Type 0)
      → ((i : ℕ) → i < n → P i → x i ≡ y i)
      → ((i : ℕ) → Q i → P i)
      → ((i : ℕ) → is_changed n p i ≡ true → Q i → P (left i) × P (right n i))
      → (i : ℕ) → i < n → Q i → step n p f x i ≡ step n p f y i
  step_agrees x y P Q same here beside i lt q = at (is_changed n p i) refl
    where
      at : (t : Bool) → is_changed n p i ≡ t → step n p f x i ≡ step n p f y i
      at false h = step_unchanged x i h ∙ same i lt (here i q) ∙ sym (step_unchanged y i h)
      at true h =
          let s = neighbours_inside n p i h in
          let b = beside i h q in
          step_changed x i h ∙ same_result f (same i lt (here i q)) (same (left i) s.0 b.0) (same (right n i) s.1 b.1) ∙ sym (step_changed y i h)

-- a step and its counterpart
pub step_undone : (n p : ℕ) (f g : ℤ → ℤ → ℤ → ℤ) (x : Line) → ((z a b : ℤ) → g (f z a b) a b ≡ z) → step n p g (step n p f x) ≡ x
step_undone n p f g x back = fun_ext (λ i. at i (is_changed n p i) refl)
  where
    at : (i : ℕ) (t : Bool) → is_changed n p i ≡ t → step n p g (step n p f x) i ≡ x i
    at i true h =
        step_changed n p g (step n p f x) i h
        ∙ same_result g (step_changed n p f x i h) (step_unchanged n p f x (left i) (left_unchanged n p i h)) (step_unchanged n p f x (right n i) (right_unchanged n p i h))
        ∙ back _ _ _
    at i false h = step_unchanged n p g (step n p f x) i h ∙ step_unchanged n p f x i h

-- a work on lines whose result on the line depends on the line alone
abbrev pub ReadsTheLineAlone : LineWork → Type 0
ReadsTheLineAlone g = (n : ℕ) (x y : Line) → ((i : ℕ) → i < n → x i ≡ y i) → (i : ℕ) → i < n → g n x i ≡ g n y i

pub step_reads : (p : ℕ) (f : ℤ → ℤ → ℤ → ℤ) → ReadsTheLineAlone (λ n. step n p f)
step_reads p f n x y same i lt = step_agrees n p f x y (λ i. Unit {0}) (λ i. Unit {0}) (λ i l _. same i l) (λ i _. tt) (λ i _ _. (tt, tt)) i lt tt

-- y where it is done, x elsewhere
abbrev partly : (ℕ → Bool) → Line → Line → Line
partly done y x j = cond (done j) (y j) (x j)

partly_unchanged : (n p : ℕ) (f : ℤ → ℤ → ℤ → ℤ) (x : Line) (done : ℕ → Bool) (j : ℕ) → is_changed n p j ≡ false → partly done (step n p f x) x j ≡ x j
partly_unchanged n p f x done j h = at (done j)
  where
    at : (q : Bool) → cond q (step n p f x j) (x j) ≡ x j
    at true = step_unchanged n p f x j h
    at false = refl

pub in_place : AStepMayBeDoneInPlace
in_place n p f x done i todo = at (is_changed n p i) refl (cond-false (done i) (step n p f x i) (x i) todo)
  where
    at : (t : Bool) → is_changed n p i ≡ t → partly done (step n p f x) x i ≡ x i → step n p f (partly done (step n p f x) x) i ≡ step n p f x i
    at true h here =
        let a = partly_unchanged n p f x done (left i) (left_unchanged n p i h) in
        let b = partly_unchanged n p f x done (right n i) (right_unchanged n p i h) in
        step_changed n p f (partly done (step n p f x) x) i h ∙ same_result f here a b ∙ sym (step_changed n p f x i h)
    at false h here = step_unchanged n p f (partly done (step n p f x) x) i h ∙ here ∙ sym (step_unchanged n p f x i h)
