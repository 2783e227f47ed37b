-- What an accepted preview shows is the plain plate's resolution.
use Rattle.std.proofs.Common.{◌≡◌, ℕ, ◌*◌, ◌<◌, ◌≤◌, Bool, true, false, cond, not, ltb, leb, List, length, get_or, ℤ, pos, negsuc, Some, None, Option, sym, refl, ap, ◌∙◌, subst, le_trans, MatchOption}
use Rattle.std.proofs.lemmas.Bool.{ltb-false, le-leb, eq-eqb, and_parts, false≢true}
use Rattle.planes.specs.Copies.{nth_number}
use Rattle.planes.specs.Rectangles.{leaves}
use Rattle.planes.specs.declared.rectangle.Rectangle.{Rectangle}
use Rattle.wavelets.specs.Lifting.{Cells, Plane, Agree, forward, resolution, size}
use Rattle.wavelets.specs.Counts.{count_line, same_number}
use Rattle.wavelets.proofs.Counts.{no_number_differs, total_zero}
use Rattle.lifting.specs.Passes.{Budgeted}
use Rattle.works.specs.Works.{Previewed, previews_there}
use Rattle.model.specs.declared.card.Card.{Card}
use Rattle.model.specs.declared.plan.Plan.{Plan}
use Rattle.model.specs.Calls.{previewing}
use Rattle.model.specs.Plain.{Setting, Plain, why, preview_table}
use Rattle.plates.specs.Plans.{lawful_plan, lawful_lease, lawful_state}
use Rattle.plates.specs.Shows.{View, own_fault, Shows, preview_differences}
use Rattle.plates.proofs.Showing.{own_table}
use Rattle.plates.proofs.Passing.{Passed, passed}
use Rattle.plates.proofs.Laying.{picture_of}
use Rattle.plates.proofs.Settling.{LawfulPlan, lawful_parts, can_be_made}

-- The plan q is laid.
abbrev laid_plain : Plan → Plane → Cells Bool → Option Rectangle → ℕ → Plain
laid_plain q x bs o n = record { plan = Some q; picture = x; bits = bs; lease = o; serial = n }

-- What the work on the scratch answered, from the output xs to ys.
abbrev pub Worked : View → Rectangle → ℕ → ℕ → ℕ → List ℤ → List ℤ → Type 0 → Option (Unit {0}) → Type 0
Worked v a L k m xs ys A o =
    MatchOption o
    ((previews_there v.height v.width L k a (length xs) m ≡ false) × (ys ≡ xs) × A)
    (λ _. (previews_there v.height v.width L k a (length xs) m ≡ true) × Previewed v.amounts L k a (picture_of v) xs ys)

-- whatever it answered, the rest of the output is as it was
pub rest_stays : (v : View) (a : Rectangle) (L k m : ℕ) (xs ys : List ℤ) (A : Type 0) (o : Option (Unit {0})) → Worked v a L k m xs ys A o
    → (i : ℕ) → a.height * a.width ≤ i → get_or ys i (pos 0) ≡ get_or xs i (pos 0)
rest_stays v a L k m xs ys A None f i h = ap (λ z. get_or z i (pos 0)) f.1
rest_stays v a L k m xs ys A (Some u) f i h = f.1.rest i h

same_itself : (z : ℤ) → same_number z z ≡ true
same_itself (pos a) = eq-eqb a a refl
same_itself (negsuc a) = eq-eqb a a refl

abbrev differs : ℤ → ℤ → ℕ
differs z w = cond (not (same_number z w)) 1 0

equal_numbers : (z w : ℤ) → z ≡ w → differs z w ≡ 0
equal_numbers z w e = let nought : Bool → ℕ = λ b. cond (not b) 1 0 in ap (differs z) (sym e) ∙ ap nought (same_itself z)

module _ (s : Setting) (q : Plan) (x : Plane) (bs : Cells Bool) (l : Option Rectangle) (n : ℕ) (v : View) (card : Card) (a : Rectangle) (m : ℕ) (xs ys : List ℤ)
    (h : Shows s (laid_plain q x bs l n) v) (law : lawful_state (Some q) l ≡ true)
    (e : why s (laid_plain q x bs l n) (previewing card a m (length xs)) ≡ None) where
  lawful : LawfulPlan q
  lawful = lawful_parts q (and_parts (lawful_plan q) (lawful_lease q l) law).0

  rows_passed : Passed (preview_table (laid_plain q x bs l n) card a m (length xs))
  rows_passed = passed (preview_table (laid_plain q x bs l n) card a m (length xs)) e

  level : card.level ≤ q.levels
  level = ltb-false q.levels card.level rows_passed.1.0

  high : v.height ≡ q.rows
  high = h.height ∙ h.fitting.height

  wide : v.width ≡ q.columns
  wide = h.width ∙ h.fitting.width

  there : previews_there v.height v.width q.levels card.level a (length xs) m ≡ true
  there =
      (λ k. previews_there (high k) (wide k) q.levels card.level a (length xs) m)
      ∙ (let c : leb card.level q.levels ≡ true = le-leb card.level q.levels level in
      let d : leaves (size card.level q.rows) (size card.level q.columns) a ≡ false = rows_passed.1.1.0 in
      let f : ltb (length xs) (a.height * a.width) ≡ false = rows_passed.1.1.1.0 in
      let g = can_be_made q m lawful (ltb-false m (q.rows * q.columns) rows_passed.1.1.1.1.0) in
      rw (c, d, f, g))

  budgeted : Budgeted v.height v.width q.levels q.top x
  budgeted = record { small = λ r c i j. h.fitting.samples r c (subst (λ k. r < k) high i) (subst (λ k. c < k) wide j); room = lawful.budget }

  shown : Agree v.height v.width v.cells (forward v.amounts v.height v.width q.levels x)
  shown r c i j =
      (no_number_differs s.height s.width v.cells (forward s.amounts q.rows q.columns q.levels x)).0 h.no_cell_differs r c
      (subst (λ k. r < k) h.height i) (subst (λ k. c < k) h.width j)
      ∙ sym (λ k. forward (h.amounts k) (high k) (wide k) q.levels x r c)

  drawn : Previewed v.amounts q.levels card.level a (picture_of v) xs ys → preview_differences s (laid_plain q x bs l n) card a ys ≡ 0
  unfolding count_line
  drawn f =
      total_zero (a.height * a.width) _
      (λ i b. equal_numbers (get_or ys i (pos 0)) (nth_number (resolution s.amounts q.rows q.columns card.level x) a i)
      (f.numbers x q.top budgeted shown i b ∙ (λ k. nth_number (resolution (h.amounts k) (high k) (wide k) card.level x) a i)))

  worked_drawn : (L k : ℕ) → (q.levels ≤ 5 → L ≡ q.levels) → (card.level ≤ 5 → k ≡ card.level) → (A : Type 0) (o : Option (Unit {0})) → Worked v a L k m xs ys A o
      → preview_differences s (laid_plain q x bs l n) card a ys ≡ 0
  worked_drawn L k f g A o w =
      by_answer o (subst (λ z. Worked v a z card.level m xs ys A o) (f lawful.levels) (subst (λ z. Worked v a L z m xs ys A o) (g (le_trans level lawful.levels)) w))
    where
      by_answer : (b : Option (Unit {0})) → Worked v a q.levels card.level m xs ys A b → preview_differences s (laid_plain q x bs l n) card a ys ≡ 0
      by_answer None w = absurd (false≢true (sym w.0 ∙ there))
      by_answer (Some u) w = drawn w.1

-- a preview that passed its table, of whatever plain plate is shown
pub draws : (s : Setting) (p : Plain) (v : View) (q : Plan) (card : Card) (a : Rectangle) (m : ℕ) (xs ys : List ℤ) → Shows s p v
    → v.plan ≡ Some q → lawful_state v.plan v.lease ≡ true → own_fault v (previewing card a m (length xs)) ≡ None
    → (L k : ℕ) → (q.levels ≤ 5 → L ≡ q.levels) → (card.level ≤ 5 → k ≡ card.level) → (A : Type 0) (o : Option (Unit {0})) → Worked v a L k m xs ys A o
    → preview_differences s p card a ys ≡ 0
draws s p v q card a m xs ys h e law own L k level hand A o worked =
    let call = previewing card a m (length xs) in
    let plan : p.plan ≡ Some q = sym h.plan ∙ e in
    let same : p ≡ laid_plain q p.picture p.bits p.lease p.serial = λ k. record { plan = plan k; picture = p.picture; bits = p.bits; lease = p.lease; serial = p.serial } in
    let lawful : lawful_state (Some q) p.lease ≡ true = (λ k. lawful_state (sym e k) (sym h.lease k)) ∙ law in
    let none : why s (laid_plain q p.picture p.bits p.lease p.serial) call ≡ None = ap (λ z. why s z call) (sym same) ∙ sym (own_table s p v h call) ∙ own in
    subst (λ z. preview_differences s z card a ys ≡ 0) (sym same)
    (worked_drawn s q p.picture p.bits p.lease p.serial v card a m xs ys (subst (λ z. Shows s z v) same h) lawful none L k level hand A o worked)
