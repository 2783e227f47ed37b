-- Laying, joined.
use Rattle.std.proofs.Common.{◌≡◌, ℕ, ◌+◌, ◌*◌, Bool, true, ℤ, refl, ap, ◌∙◌}
use Rattle.std.proofs.lemmas.Bool.{or_right}
use Rattle.planes.specs.Planes.{Cells, Picture}
use Rattle.wavelets.specs.Lifting.{PlaneWork, Amounts, forward, Agree}
use Rattle.lifting.specs.Passes.{Budgeted, ShowsTheTransform, with_bits, worked}
use Rattle.overlays.specs.Overlays.{overlaid_picture, overlaid_bits}
use Rattle.overlays.specs.Samples.{pictured}
use Rattle.overlays.proofs.Laying.{sides, overlaid_in, overlaid_number}
use Rattle.states.specs.States.{everywhere}
use Rattle.works.specs.Works.{SameSides, Laid}

-- a picture that is worked on keeps its sides
pub worked_sides : (g : PlaneWork) (p q : Picture) → q ≡ worked g p → SameSides p q
worked_sides g p q e = (ap (λ (o : Picture). o.height) e, ap (λ (o : Picture). o.width) e)

-- from the picture p and the bits b through q and e, where every sample is written, to o and d, where they are lifted
pub lays : (K : Amounts) (L : ℕ) (xs : ℕ → ℤ) (p q o : Picture) (b e puts d : Cells Bool)
    → q ≡ overlaid_picture everywhere (pictured p.width xs) p → e ≡ overlaid_bits p everywhere b
    → SameSides q o → ShowsTheTransform K L q o → d ≡ with_bits puts e
    → Laid K L xs p o d
unfolding overlaid_bits
lays K L xs p q o b e puts d laid marked same shows lifted =
    let H = p.height in let W = p.width in
    let z = sides _ _ p q laid in
    let shows' : (P : ℕ) → Budgeted H W L P (pictured W xs) → Agree H W q.number (pictured W xs) → Agree H W o.number (forward K H W L (pictured W xs)) = rw (z.0, z.1) at (shows (pictured W xs)) in
    record {
      sides = (same.0 ∙ z.0, same.1 ∙ z.1);
      cells = λ P small budget. shows' P (record { small = λ r c lr lc. small (r * W + c); room = budget })
          (λ r c lr lc. overlaid_number _ _ p q laid r c ∙ overlaid_in H W everywhere (pictured W xs) p.number r c lr lc refl);
      bits = λ r c lr lc. ap (λ (z : Cells Bool). z r c) lifted
          ∙ or_right (puts r c) (e r c) (ap (λ (z : Cells Bool). z r c) marked ∙ overlaid_in H W everywhere (λ r c. true) b r c lr lc refl);
    }
