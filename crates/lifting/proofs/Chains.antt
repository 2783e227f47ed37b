-- One pass after another.
use Rattle.std.proofs.Common.{◌≡◌, ℕ, Bool, true, false, ◌||◌, refl, ap, ◌∙◌}
use mathlib.Core.Path.{fun_ext}
use Rattle.planes.specs.Planes.{Cells, Picture}
use Rattle.wavelets.specs.Lifting.{PlaneWork}
use Rattle.lifting.specs.Passes.{worked, with_bits}

or_assoc : (s t u : Bool) → (s || (t || u)) ≡ ((s || t) || u)
or_assoc true t u = refl
or_assoc false t u = refl

module _ (p q : Picture) (f : PlaneWork) (e : q ≡ worked f p) where
  pub work_then : (g : PlaneWork) (o : Picture) → o ≡ worked g q → o ≡ worked (λ R C x. g R C (f R C x)) p
  work_then g o h = h ∙ ap (worked g) e

  pub bits_then : (s t : ℕ → ℕ → Cells Bool) (b d : Cells Bool) (c : Cells Bool) → d ≡ with_bits (s p.height p.width) b → c ≡ with_bits (t q.height q.width) d
      → c ≡ with_bits (λ i j. t p.height p.width i j || s p.height p.width i j) b
  bits_then s t b d c h k =
      k ∙ ap (λ (o : Picture). with_bits (t o.height o.width) d) e ∙ ap (with_bits (t p.height p.width)) h
      ∙ fun_ext (λ i. fun_ext (λ j. or_assoc (t p.height p.width i j) (s p.height p.width i j) (b i j)))
