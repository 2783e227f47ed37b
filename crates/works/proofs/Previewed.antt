-- Previewing, joined from its steps: copying, undoing, copying out.
use Rattle.std.proofs.Common.{◌≡◌, ℕ, ◌+◌, ◌*◌, ◌/◌, ◌%◌, ◌<◌, ◌≤◌, true, false, ◌&&◌, ltb, leb, List, length, ℤ, is_some, Ok, Err, Result, sym, ap, ◌∙◌, mod-lt, arith}
use native.Mathlib.Nat.{min-eq_left}
use Rattle.std.proofs.lemmas.Bool.Decides.{nat_tests}
use Rattle.std.proofs.lemmas.Nat.{div_below}
use Rattle.std.proofs.lemmas.Bool.{cond-true, cond-false, lt-ltb, le-ltb, leb-true, and_parts, and_from, and_right, not-true, both_ways}
use Rattle.faults.specs.declared.fault.Fault.{Fault}
use Rattle.planes.specs.Planes.{Picture}
use Rattle.planes.specs.Rectangles.{leaves}
use Rattle.planes.specs.Copies.{copy_fault, Copied, Copies}
use Rattle.planes.specs.Flat.{flat_fault}
use Rattle.planes.specs.declared.rectangle.Rectangle.{Rectangle}
use Rattle.layers.specs.Layers.{sampled, lattice as layered}
use Rattle.wavelets.specs.Lifting.{Amounts, size, lattice, forward, Agree}
use Rattle.wavelets.proofs.Lattices.{cell_inside}
use Rattle.lifting.specs.Passes.{Budgeted, ShowsTheRoundsBelow}
use Rattle.overlays.specs.Overlays.{overlaid_picture}
use Rattle.states.specs.States.{everywhere, padded}
use Rattle.overlays.proofs.Laying.{sides}
use Rattle.works.specs.Works.{SameSides, Uncovers, Previewed, previews_there}
use Rattle.works.proofs.Settled.{copied, none_means}

-- copying and undoing
pub uncovers : (K : Amounts) (L k : ℕ) (f p q o : Picture) → k ≤ L
    → SameSides f p → q ≡ overlaid_picture everywhere (padded f) p
    → SameSides q o → ShowsTheRoundsBelow K L k q o → SameSides f o × Uncovers K L k f o
uncovers K L k f p q o l s e t undo =
    let H = f.height in let W = f.width in
    let qs = sides _ _ p q e in
    let qh : q.height ≡ H = qs.0 ∙ s.0 in let qw : q.width ≡ W = qs.1 ∙ s.1 in (
      (t.0 ∙ qh, t.1 ∙ qw),
      λ x P budget h.
          let undo' : Budgeted H W L P x → Agree H W q.number (forward K H W L x) → Agree H W o.number (forward K H W k x) = rw (qh, qw, min-eq_left l) at (undo x P) in
          undo' budget (λ r c lr lc. copied f p q s e r c lr lc ∙ h r c lr lc),
    )

-- a rectangle that can be copied out lies inside
fits : (R C : ℕ) (a : Rectangle) → leaves R C a ≡ false → (a.first_row + a.height ≤ R) × (a.first_column + a.width ≤ C) × (0 < a.width)
fits R C a h = (grind (arith, nat_tests), grind (arith, nat_tests), grind (arith, nat_tests))

nth_inside : (R C m : ℕ) (a : Rectangle) → leaves R C a ≡ false → m < a.height * a.width
    → (a.first_row + m / a.width < R) × (a.first_column + m % a.width < C)
nth_inside R C m a h l =
    let z = fits R C a h in
    let i : m / a.width < a.height = div_below m a.width a.height z.2 l in
    let j : m % a.width < a.width = mod-lt m z.2 in
    (omega (arith, z.0, i), omega (arith, z.1, j))

module _ (K : Amounts) (L k : ℕ) (a : Rectangle) (f w : Picture) (xs ys : List ℤ)
    (s : SameSides f w) (none : is_some (copy_fault (size k f.height) (size k f.width) a (length xs)) ≡ false) (un : Uncovers K L k f w) where
  shown : Copied (sampled k w.number) a 0 (a.height * a.width) xs ys → Previewed K L k a f xs ys
  unfolding lattice
  shown c = record {
    numbers = λ x P budget h m l.
        let i = nth_inside (size k f.height) (size k f.width) m a (none_means _ _ _ _ none).0 l in
        c.number m ∙ cond-true (leb 0 m && ltb m (a.height * a.width)) _ _ (and_from _ _ (grind (arith, nat_tests)) (lt-ltb m _ l))
        ∙ un x P budget h _ _ (cell_inside k f.height _ i.0) (cell_inside k f.width _ i.1);
    rest = λ m l. c.number m ∙ cond-false (leb 0 m && ltb m (a.height * a.width)) _ _ (and_right (leb 0 m) _ (le-ltb m _ l));
    size = c.size;
  }

  pub previews : (r : Result (Unit {0}) Fault) → Copies (layered k w) a xs ys r → Previewed K L k a f xs ys
  previews (Ok v) h = shown h.1
  previews (Err e) h =
      let found : is_some (copy_fault (size k f.height) (size k f.width) a (length xs)) ≡ true = rw (s.0, s.1) at (ap is_some h.0) in
      absurd (both_ways _ none found)

pub record CanPreview (R C L k : ℕ) (a : Rectangle) (n m : ℕ) : Type 0 where
  pub level : k ≤ L
  pub output : is_some (copy_fault (size k R) (size k C) a n) ≡ false
  pub scratch : is_some (flat_fault R C m) ≡ false

pub can_preview : (R C L k : ℕ) (a : Rectangle) (n m : ℕ) → true ≡ previews_there R C L k a n m → CanPreview R C L k a n m
can_preview R C L k a n m h =
    let x = and_parts _ _ (sym h) in let y = and_parts _ _ x.0 in
    record { level = leb-true _ _ y.0; output = not-true _ y.1; scratch = not-true _ x.1 }
