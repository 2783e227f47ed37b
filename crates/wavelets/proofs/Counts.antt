-- Totals and counts: one more place, and when there is nothing to count.
use Rattle.std.proofs.Common.{◌≡◌, ℕ, zero, suc, ◌+◌, ◌<◌, ◌≤◌, Bool, true, false, cond, not, ◌⊎◌, ℤ, pos, negsuc, refl, ap, inl, inr, add-one, arith}
use Rattle.std.proofs.lemmas.Bool.{eqb-true, eq-eqb, cases_lt, false≢true}
use Rattle.wavelets.specs.Lifting.{Cells, Agree}
use Rattle.wavelets.specs.Counts.{total, count_line, count_cells, same_number, same_bit, differences}
use Rattle.wavelets.specs.Theorems.{NoDifferencesMeansAgreement}

-- one more place, and one more row
pub total_more : (n : ℕ) (f : ℕ → ℕ) → total (n + 1) f ≡ total n f + f n
unfolding total
total_more n f = rw add-one

pub count_line_more : (n : ℕ) (p : ℕ → Bool) → count_line (n + 1) p ≡ count_line n p + cond (p n) 1 0
unfolding count_line
count_line_more n p = total_more n _

pub count_cells_more : (R C : ℕ) (p : Cells Bool) → count_cells (R + 1) C p ≡ count_cells R C p + count_line C (p R)
unfolding count_cells
count_cells_more R C p = total_more R _

-- nothing to count at the start
pub count_line_none : (p : ℕ → Bool) → count_line 0 p ≡ 0
unfolding count_line total
count_line_none p = refl

pub count_cells_none : (C : ℕ) (p : Cells Bool) → count_cells 0 C p ≡ 0
unfolding count_cells total
count_cells_none C p = refl

-- a total is 0 exactly where each part is
pub total_zero : (n : ℕ) (f : ℕ → ℕ) → ((i : ℕ) → i < n → f i ≡ 0) → total n f ≡ 0
unfolding total
total_zero zero f h = refl
total_zero (suc n) f h = rw (h n (omega arith), total_zero n f (λ i l. h i (omega arith)))

pub zero_total : (n : ℕ) (f : ℕ → ℕ) → total n f ≡ 0 → (i : ℕ) → i < n → f i ≡ 0
unfolding total
zero_total zero f e i l = absurd (omega arith)
zero_total (suc n) f e i l = at (zero_total n f (omega arith) i) (cases_lt i n)
  where
    at : (i < n → f i ≡ 0) → (i < n) ⊎ (n ≤ i) → f i ≡ 0
    at below (inl h) = below h
    at below (inr h) = let q : i ≡ n = omega arith in rw q (omega arith)

-- two planes differ nowhere exactly where they agree, by any test of sameness that is right
pub no_differences : {A : Type 0} (same : A → A → Bool) → ((a : A) → same a a ≡ true) → ((a b : A) → same a b ≡ true → a ≡ b) → NoDifferencesMeansAgreement same
unfolding differences count_cells count_line
no_differences {A} same to from R C x y = (agree, none)
  where
    sure : (t : Bool) → cond {A = ℕ} (not t) 1 0 ≡ 0 → t ≡ true
    sure t h = grind arith

    agree : differences same R C x y ≡ 0 → Agree R C x y
    agree e r c lr lc = from (x r c) (y r c) (sure (same (x r c) (y r c)) (zero_total C _ (zero_total R _ e r lr) c lc))

    none : Agree R C x y → differences same R C x y ≡ 0
    none h = total_zero R _ (λ r lr. total_zero C _ (λ c lc. rw (h r c lr lc, to (y r c))))

pub no_number_differs : NoDifferencesMeansAgreement same_number
no_number_differs = no_differences same_number to from
  where
    to : (a : ℤ) → same_number a a ≡ true
    to (pos a) = eq-eqb a a refl
    to (negsuc a) = eq-eqb a a refl

    from : (a b : ℤ) → same_number a b ≡ true → a ≡ b
    from (pos a) (pos b) h = ap pos (eqb-true a b h)
    from (pos a) (negsuc b) h = absurd (false≢true h)
    from (negsuc a) (pos b) h = absurd (false≢true h)
    from (negsuc a) (negsuc b) h = ap negsuc (eqb-true a b h)

pub no_bit_differs : NoDifferencesMeansAgreement same_bit
no_bit_differs = no_differences same_bit to from
  where
    to : (a : Bool) → same_bit a a ≡ true
    to true = refl
    to false = refl

    from : (a b : Bool) → same_bit a b ≡ true → a ≡ b
    from true true h = refl
    from true false h = absurd (false≢true h)
    from false true h = absurd (false≢true h)
    from false false h = refl
