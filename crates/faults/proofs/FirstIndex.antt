-- The first index at which a test holds: what it is, and how a loop finds it.
use Rattle.std.proofs.Common.{◌≡◌, ℕ, zero, suc, ◌+◌, ◌<◌, ◌≤◌, Bool, true, false, ltb, refl, subst, add-one, arith}
use Rattle.std.proofs.lemmas.Bool.Decides.{nat_tests}
use Rattle.faults.specs.Tables.{first_index}

module _ (test : ℕ → Bool) where
  pub none_before : 0 ≡ first_index test 0
  unfolding first_index
  none_before = refl

  -- the test holds nowhere before i, and not at i
  pub none_yet : (i : ℕ) → i ≡ first_index test i → test i ≡ false → i + 1 ≡ first_index test (i + 1)
  unfolding first_index
  none_yet i e h = let g : suc i ≡ first_index test (suc i) = grind (arith, nat_tests) in rw add-one g

  -- what is found stays the first
  pub found : (i n : ℕ) → i < n → i ≡ first_index test i → test i ≡ true → i ≡ first_index test n
  unfolding first_index
  found i zero l e h = absurd (omega arith)
  found i (suc n) l e h =
      elim (ltb i n) as (λ b. ltb i n ≡ b → i ≡ first_index test (suc n)) [
        | true ↦ λ q. let r : i ≡ first_index test n = found i n (grind (arith, nat_tests)) e h in grind (arith, nat_tests)
        | false ↦ λ q. let r : i ≡ n = grind (arith, nat_tests) in subst (λ m. i ≡ first_index test (suc m)) r (grind (arith, nat_tests))
      ] refl

  -- it is at most n; the test holds at it where it is below n, and nowhere before it
  pub at_most : (n : ℕ) → first_index test n ≤ n
  unfolding first_index
  at_most zero = omega arith
  at_most (suc n) = let h = at_most n in grind (arith, nat_tests)

  pub holds_there : (n : ℕ) → first_index test n < n → test (first_index test n) ≡ true
  unfolding first_index
  holds_there zero h = absurd (omega arith)
  holds_there (suc n) h = let a = at_most n in let b = holds_there n in grind (arith, nat_tests)

  pub fails_before : (n k : ℕ) → k < first_index test n → test k ≡ false
  unfolding first_index
  fails_before zero k h = absurd (omega arith)
  fails_before (suc n) k h = let a = at_most n in let b = fails_before n k in grind (arith, nat_tests)
