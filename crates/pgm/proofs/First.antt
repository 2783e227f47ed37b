-- The first index at which a test holds, by what a search found.
use Rattle.std.proofs.Common.{◌≡◌, ℕ, ◌<◌, Bool, true, false, sym, ◌∙◌, ⊎_elim, arith}
use Rattle.std.proofs.lemmas.Bool.{cases_lt, false≢true}
use Rattle.faults.specs.Tables.{first_index}
use Rattle.faults.proofs.FirstIndex.{at_most, holds_there, fails_before}

module _ (test : ℕ → Bool) (n : ℕ) where
  -- it holds there, and nowhere before
  pub first_is : (i : ℕ) → i < n → test i ≡ true → ((k : ℕ) → k < i → test k ≡ false) → first_index test n ≡ i
  first_is i l e h =
      ⊎_elim
      (λ b. absurd (false≢true (sym (h (first_index test n) b) ∙ holds_there test n (omega arith))))
      (λ a. ⊎_elim (λ b. absurd (false≢true (sym (fails_before test n i b) ∙ e))) (λ b. omega arith) (cases_lt i (first_index test n)))
      (cases_lt (first_index test n) i)

  -- it holds nowhere
  pub none_is : ((k : ℕ) → k < n → test k ≡ false) → first_index test n ≡ n
  none_is h =
      ⊎_elim
      (λ b. absurd (false≢true (sym (h (first_index test n) b) ∙ holds_there test n b)))
      (λ b. omega (arith, at_most test n))
      (cases_lt (first_index test n) n)
