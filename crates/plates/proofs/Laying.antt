-- A plate that was laid shows the plain plate that was laid.
use Rattle.std.proofs.Common.{◌≡◌, ℕ, ◌+◌, ◌*◌, ◌<◌, ◌≤◌, Bool, true, false, eqb, ltb, leb, List, length, get_or, nat_abs, Some, None, Option, sym, refl, ◌∙◌, subst, ⊎_elim, le_trans, le_of_eq, arith, MatchOption}
use Rattle.std.proofs.lemmas.Bool.{leb-true, ltb-false, eqb-true, and_parts, cases_lt, le-leb, false≢true}
use Rattle.std.proofs.lemmas.List.{get_or_past}
use Rattle.faults.proofs.FirstIndex.{fails_before}
use Rattle.planes.specs.Planes.{Picture}
use Rattle.wavelets.specs.Lifting.{Cells, Agree, forward, within_budget}
use Rattle.wavelets.proofs.Counts.{no_number_differs, no_bit_differs}
use Rattle.overlays.specs.Samples.{samples_at}
use Rattle.overlays.specs.Samples as samples
use Rattle.planes.specs.declared.rectangle.Rectangle.{Rectangle}
use Rattle.works.specs.Works.{Laid}
use Rattle.model.specs.declared.plan.Plan.{Plan}
use Rattle.model.specs.Calls.{samples_of, laying, done}
use Rattle.model.specs.Plain.{Setting, Plain, why, after, reply, laying_table, first_over, pictured}
use Rattle.plates.specs.Shows.{View, own_fault, Shows}
use Rattle.plates.proofs.Showing.{accepted, own_table}
use Rattle.plates.proofs.Passing.{Passed, passed, not_false}
use Rattle.plates.proofs.Samples.{over}

-- samples that passed are at most the top, and what lies beyond the list is 0
pub all_lawful : (top : ℕ) (xs : List ℕ) → ltb (first_over top (samples_of xs)) (length xs) ≡ false → (i : ℕ) → nat_abs (samples_at xs i) ≤ top
all_lawful top xs h i =
    ⊎_elim
    (λ l. leb-true (get_or xs i 0) top (not_false _ (fails_before (over top xs) (length xs) i (le_trans l (ltb-false (first_over top (samples_of xs)) (length xs) h)))))
    (λ l. subst (λ z. z ≤ top) (sym (get_or_past xs i 0 l)) (omega arith))
    (cases_lt i (length xs))

-- a picture of the view, as the works speak of it
abbrev pub picture_of : View → Picture
picture_of v = record { height = v.height; width = v.width; number = v.cells }

-- the view with another picture, other bits, another plan and another lease
abbrev pub with_picture : View → Picture → Cells Bool → Option Plan → Option Rectangle → View
with_picture v p b q o = record { number = v.number; height = p.height; width = p.width; amounts = v.amounts; cells = p.number; bits = b; plan = q; lease = o; serial = v.serial }

module _ (s : Setting) (p : Plain) (v : View) (q : Plan) (xs : List ℕ) (h : Shows s p v) (own : own_fault v (laying q (samples_of xs)) ≡ None) where
  e : why s p (laying q (samples_of xs)) ≡ None
  e = sym (own_table s p v h (laying q (samples_of xs))) ∙ own

  rows_passed : Passed (laying_table s p q (samples_of xs))
  rows_passed = passed (laying_table s p q (samples_of xs)) e

  sides : (s.height ≡ q.rows) × (s.width ≡ q.columns)
  sides =
      let t = and_parts (eqb s.height q.rows) (eqb s.width q.columns) (not_false _ rows_passed.1.1.1.1.1.0) in
      (eqb-true s.height q.rows t.0, eqb-true s.width q.columns t.1)

  budget : within_budget q.top q.levels ≡ true
  budget = not_false _ rows_passed.1.1.1.1.0

  count : length xs ≡ q.rows * q.columns
  count = eqb-true (length xs) (q.rows * q.columns) (not_false _ rows_passed.1.1.1.1.1.1.0)

  small : (i : ℕ) → nat_abs (samples_at xs i) ≤ q.top
  small = all_lawful q.top xs rows_passed.1.1.1.1.1.1.1.0

  pub laid_shows : (w : Picture) (b : Cells Bool) → Laid v.amounts q.levels (samples_at xs) (picture_of v) w b
      → Shows s (after s p (laying q (samples_of xs))) (with_picture v w b (Some q) v.lease) × (done ≡ reply s p (laying q (samples_of xs)))
  laid_shows w b l =
      let high : v.height ≡ q.rows = h.height ∙ sides.0 in
      let wide : v.width ≡ q.columns = h.width ∙ sides.1 in
      let cells : Agree v.height v.width w.number (forward v.amounts v.height v.width q.levels (samples.pictured v.width (samples_at xs))) = l.cells q.top small budget in
      let moved : Agree s.height s.width w.number (forward s.amounts q.rows q.columns q.levels (pictured q (samples_of xs))) =
      λ r c i j. cells r c (subst (λ n. r < n) (sym h.height) i) (subst (λ n. c < n) (sym h.width) j)
      ∙ (λ k. forward (h.amounts k) (high k) (wide k) q.levels (samples.pictured (wide k) (samples_at xs)) r c) in
      accepted s p (laying q (samples_of xs)) (with_picture v w b (Some q) v.lease) done e
      (record {
        number = h.number;
        height = l.sides.0 ∙ h.height;
        width = l.sides.1 ∙ h.width;
        amounts = h.amounts;
        plan = refl;
        lease = h.lease;
        serial = h.serial;
        fitting = record { height = sides.0; width = sides.1; samples = λ r c i j. small (r * q.columns + c) };
        no_cell_differs = (no_number_differs s.height s.width w.number (forward s.amounts q.rows q.columns q.levels (pictured q (samples_of xs)))).1 moved;
        no_bit_differs = (no_bit_differs s.height s.width b (λ r c. true)).1 (λ r c i j. l.bits r c (subst (λ n. r < n) (sym h.height) i) (subst (λ n. c < n) (sym h.width) j));
      })
      refl

  -- there is a sample for each place, so the laying was done
  pub was_laid : (o : Option (Unit {0})) (w : Picture) (b : Cells Bool)
      → MatchOption o ((leb (v.height * v.width) (length xs) ≡ false) × (w ≡ picture_of v) × (b ≡ v.bits)) (λ _. (leb (v.height * v.width) (length xs) ≡ true) × Laid v.amounts q.levels (samples_at xs) (picture_of v) w b)
      → Laid v.amounts q.levels (samples_at xs) (picture_of v) w b
  was_laid (Some u) w b f = f.1
  was_laid None w b f =
      let high : v.height ≡ q.rows = h.height ∙ sides.0 in
      let wide : v.width ≡ q.columns = h.width ∙ sides.1 in
      let same : v.height * v.width ≡ length xs = (λ k. high k * wide k) ∙ sym count in
      absurd (false≢true (sym f.0 ∙ le-leb (v.height * v.width) (length xs) (le_of_eq same)))
