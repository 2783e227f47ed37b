-- A plane worked on row by row: y at the places before column j of row m, and x from there on.
use Rattle.std.proofs.Common.{◌≡◌, ℕ, ◌+◌, Bool, true, false, cond, eqb, ltb, sym, refl, ◌∙◌, arith}
use mathlib.Core.Path.{fun_ext}
use Rattle.std.proofs.lemmas.Bool.Decides.{nat_tests}
use Rattle.std.proofs.lemmas.Bool.{cond_both}
use Rattle.planes.specs.Planes.{Cells, with_at}

-- (r, c) comes before (m, j)
abbrev pub passed : ℕ → ℕ → Cells Bool
passed m j r c = cond (eqb r m) (ltb c j) (ltb r m)

unfoldable pub partly : {A : Type 0} → Cells A → Cells A → ℕ → ℕ → Cells A
partly x y m j r c = cond (passed m j r c) (y r c) (x r c)

module _ {A : Type 0} (x y : Cells A) where
  pub partly_here : (m j : ℕ) → partly x y m j m j ≡ x m j
  unfolding partly
  partly_here m j = grind (arith, nat_tests)

  pub partly_same : (m j r c : ℕ) → y r c ≡ x r c → partly x y m j r c ≡ x r c
  unfolding partly
  partly_same m j r c e = cond_both (passed m j r c) _ _ (λ z. z ≡ x r c) (λ _. e) (λ _. refl)

  pub partly_put : (m j : ℕ) (z : A) → z ≡ y m j → with_at (partly x y m j) m j z ≡ partly x y m (j + 1)
  unfolding partly
  partly_put m j z e = rw e (fun_ext (λ r. fun_ext (λ c. grind (arith, nat_tests))))

  -- only the places at which x and y differ matter
  module _ (differ : Cells Bool) (same : (r c : ℕ) → differ r c ≡ false → y r c ≡ x r c) where
    pub partly_none : (m j : ℕ) → ((r c : ℕ) → differ r c ≡ true → passed m j r c ≡ false) → x ≡ partly x y m j
    unfolding partly
    partly_none m j before = fun_ext (λ r. fun_ext (λ c. at r c (differ r c) refl (passed m j r c) refl))
      where
        at : (r c : ℕ) (t : Bool) → differ r c ≡ t → (q : Bool) → passed m j r c ≡ q → x r c ≡ partly x y m j r c
        at r c false h q e = sym (partly_same m j r c (same r c h))
        at r c true h q e = rw (before r c h, partly)

    pub partly_all : (m j : ℕ) → ((r c : ℕ) → differ r c ≡ true → passed m j r c ≡ true) → partly x y m j ≡ y
    unfolding partly
    partly_all m j after = fun_ext (λ r. fun_ext (λ c. at r c (differ r c) refl))
      where
        at : (r c : ℕ) (t : Bool) → differ r c ≡ t → partly x y m j r c ≡ y r c
        at r c false h = partly_same m j r c (same r c h) ∙ sym (same r c h)
        at r c true h = rw (after r c h, partly)

    pub partly_jump : (m j n k : ℕ) → ((r c : ℕ) → differ r c ≡ true → passed m j r c ≡ passed n k r c) → partly x y m j ≡ partly x y n k
    unfolding partly
    partly_jump m j n k alike = fun_ext (λ r. fun_ext (λ c. at r c (differ r c) refl))
      where
        at : (r c : ℕ) (t : Bool) → differ r c ≡ t → partly x y m j r c ≡ partly x y n k r c
        at r c false h = partly_same m j r c (same r c h) ∙ sym (partly_same n k r c (same r c h))
        at r c true h = rw (alike r c h, partly)
