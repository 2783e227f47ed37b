-- Putting through a layer.
use Rattle.std.proofs.Common.{◌≡◌, ℕ, ◌*◌, ◌^◌, Bool, true, false, ◌&&◌, eqb, ℤ, Ok, Err, Result, sym, refl, ap, ◌∙◌, ⊎_elim}
use mathlib.Core.Path.{fun_ext}
use native.Mathlib.Nat.{eq_of_mul-eq-mul_right}
use Rattle.std.proofs.lemmas.Bool.{cases_eq, eq-eqb, ne_eqb, cond_both, eqb-true, and_parts}
use Rattle.std.proofs.lemmas.Nat.{pow_pos}
use Rattle.faults.specs.declared.fault.Fault.{Fault}
use Rattle.planes.specs.Planes.{Cells, with_at, Picture, Within, PutsNumber, PutsBit}
use Rattle.planes.proofs.Pictures.{same_picture}
use Rattle.layers.specs.Layers.{sampled, lattice, LayerFrame, Off}

eqb_scaled : (k i j : ℕ) → eqb (i * 2 ^ k) (j * 2 ^ k) ≡ eqb i j
eqb_scaled k i j = ⊎_elim
    (λ e. eq-eqb _ _ (ap (λ z. z * 2 ^ k) e) ∙ sym (eq-eqb i j e))
    (λ ne. ne_eqb _ _ (λ e. ne (eq_of_mul-eq-mul_right (2 ^ k) (pow_pos k) i j e)) ∙ sym (ne_eqb i j ne))
    (cases_eq i j)

-- what is put below at the place of (i, j) is put on the lattice at (i, j)
sampled_with : {A : Type 0} (k : ℕ) (p : Cells A) (i j : ℕ) (x : A) → sampled k (with_at p (i * 2 ^ k) (j * 2 ^ k) x) ≡ with_at (sampled k p) i j x
sampled_with k p i j x = fun_ext (λ r. fun_ext (λ c. rw (eqb_scaled k r i, eqb_scaled k c j) refl))

-- and leaves what is off the lattice
off_apart : {A : Type 0} (k i j r c : ℕ) (p : Cells A) (x : A) → Off k r c → with_at p (i * 2 ^ k) (j * 2 ^ k) x r c ≡ p r c
off_apart k i j r c p x h = cond_both (eqb r (i * 2 ^ k) && eqb c (j * 2 ^ k)) x (p r c) (λ z. z ≡ p r c)
    (λ t. absurd (h i j (eqb-true r _ (and_parts _ _ t).0) (eqb-true c _ (and_parts _ _ t).1)))
    (λ _. refl)

module _ (k : ℕ) (p q : Picture) (β δ : Cells Bool) (i j : ℕ) where
  pub number_put : (x : ℤ) (r : Result (Unit {0}) Fault) → Within (lattice k p) i j → Within p (i * 2 ^ k) (j * 2 ^ k)
      → PutsNumber p (i * 2 ^ k) (j * 2 ^ k) x q r → PutsNumber (lattice k p) i j x (lattice k q) r
  number_put x (Ok v) n m h = (n, ap (lattice k) h.1 ∙ same_picture _ _ _ _ _ _ refl refl (sampled_with k p.number i j x))
  number_put x (Err v) n m h = absurd (h.0 m)

  pub bit_put : (r : Result (Unit {0}) Fault) → Within (lattice k p) i j → Within p (i * 2 ^ k) (j * 2 ^ k)
      → PutsBit p β (i * 2 ^ k) (j * 2 ^ k) δ r → PutsBit (lattice k p) (sampled k β) i j (sampled k δ) r
  bit_put (Ok v) n m h = (n, ap (sampled k) h.1 ∙ sampled_with k β i j true)
  bit_put (Err v) n m h = absurd (h.0 m)

  pub frame_put : (y : ℤ) (r : Result (Unit {0}) Fault) → PutsNumber p (i * 2 ^ k) (j * 2 ^ k) y q r → PutsBit p β (i * 2 ^ k) (j * 2 ^ k) δ r → LayerFrame false k k p q β δ
  frame_put y (Ok v) h t = record {
    level = refl;
    height = ap (λ (o : Picture). o.height) h.1;
    width = ap (λ (o : Picture). o.width) h.1;
    number = λ r c u. ap (λ (o : Picture). o.number r c) h.1 ∙ off_apart k i j r c p.number y u;
    bit = λ r c u. ap (λ (o : Cells Bool). o r c) t.1 ∙ off_apart k i j r c β true u;
  }
  frame_put y (Err v) h t = record {
    level = refl;
    height = ap (λ (o : Picture). o.height) h.2;
    width = ap (λ (o : Picture). o.width) h.2;
    number = λ r c u. ap (λ (o : Picture). o.number r c) h.2;
    bit = λ r c u. ap (λ (o : Cells Bool). o r c) t.2;
  }
