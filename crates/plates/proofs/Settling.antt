-- A plate that was settled shows the plain plate that was settled.
use Rattle.std.proofs.Common.{◌≡◌, ℕ, ◌*◌, ◌<◌, ◌≤◌, Bool, true, false, cond, not, ◌&&◌, ◌||◌, ltb, leb, List, length, nat_abs, is_some, Some, None, Option, unwrap_or, sym, refl, ap, ◌∙◌, subst, le_of_eq, arith, MatchOption}
use Rattle.std.proofs.lemmas.Bool.{leb-true, ltb-false, eqb-true, and_parts, le-leb, lt-ltb, false≢true}
use Rattle.std.proofs.lemmas.Bool.Decides.{nat_tests}
use Rattle.planes.specs.Planes.{Picture}
use Rattle.planes.specs.Rectangles.{leaves}
use Rattle.planes.specs.Flat.{flat_fault, bad_side}
use Rattle.planes.specs.declared.rectangle.Rectangle.{Rectangle}
use Rattle.wavelets.specs.Lifting.{Cells, Plane, Agree, Bounded, forward, within_budget}
use Rattle.wavelets.specs.Cone.{in_rectangle, in_cone, cone_count}
use Rattle.wavelets.proofs.Counts.{no_number_differs, no_bit_differs}
use Rattle.cones.specs.Rectangles.{rows_of, columns_of}
use Rattle.lifting.specs.Passes.{Budgeted}
use Rattle.overlays.specs.Overlays.{overlaid, overlaid_bits}
use Rattle.overlays.specs.Samples as samples
use Rattle.overlays.specs.Samples.{samples_at}
use Rattle.works.specs.Works.{Settled, settles_there}
use Rattle.model.specs.declared.plan.Plan.{Plan}
use Rattle.model.specs.Calls.{samples_of, settling, settled}
use Rattle.model.specs.Plain.{Setting, Plain, why, after, reply, settling_table, is_side, is_top}
use Rattle.plates.specs.Plans.{lawful_plan, lawful_lease, lawful_state}
use Rattle.plates.specs.Shows.{View, own_fault, Shows}
use Rattle.plates.proofs.Showing.{accepted, own_table}
use Rattle.plates.proofs.Passing.{Passed, passed, not_false}
use Rattle.plates.proofs.Laying.{all_lawful, picture_of, with_picture}

-- what a laying accepted of a plan
pub record LawfulPlan (q : Plan) : Type 0 where
  pub rows : is_side q.rows ≡ true
  pub columns : is_side q.columns ≡ true
  pub levels : q.levels ≤ 5
  pub budget : within_budget q.top q.levels ≡ true

pub lawful_parts : (q : Plan) → lawful_plan q ≡ true → LawfulPlan q
lawful_parts q e =
    let a = and_parts (is_side q.rows && is_side q.columns) _ e in
    let b = and_parts (is_side q.rows) (is_side q.columns) a.0 in
    let c = and_parts (leb q.levels 5) _ a.1 in
    let d = and_parts (is_top q.top) _ c.1 in
    record { rows = b.0; columns = b.1; levels = leb-true q.levels 5 c.0; budget = d.1 }

good_side : (n : ℕ) → is_side n ≡ true → bad_side n ≡ false
good_side n e = let p = and_parts (leb 1 n) (leb n 4096) e in let a = leb-true 1 n p.0 in let b = leb-true n 4096 p.1 in grind (arith, nat_tests)

not_true : (b : Bool) → not b ≡ true → b ≡ false
not_true false e = refl
not_true true e = sym e

-- a flat store of a lawful plan's sides can be made where there are records enough
pub can_be_made : (q : Plan) (m : ℕ) → LawfulPlan q → q.rows * q.columns ≤ m → is_some (flat_fault q.rows q.columns m) ≡ false
can_be_made q m l h =
    let a = good_side q.rows l.rows in
    let b = good_side q.columns l.columns in
    let c : ltb m (q.rows * q.columns) ≡ false = grind (arith, nat_tests) in
    rw (a, b, c)

or_cond : (a b : Bool) → cond a true b ≡ (b || a)
or_cond true true = refl
or_cond true false = refl
or_cond false true = refl
or_cond false false = refl

bits_inside : (H W : ℕ) (test b : Cells Bool) (r c : ℕ) → r < H → c < W → overlaid H W test (λ i j. true) b r c ≡ (b r c || test r c)
unfolding overlaid
bits_inside H W test b r c i j = let x : ltb r H ≡ true = lt-ltb r H i in let y : ltb c W ≡ true = lt-ltb c W j in rw (x, y) (or_cond (test r c) (b r c))

-- The plan q is laid and the rectangle a is leased.
abbrev leased_plain : Plan → Rectangle → Plane → Cells Bool → ℕ → Plain
leased_plain q a x bs n = record { plan = Some q; picture = x; bits = bs; lease = Some a; serial = n }

-- What the work on the store answered, from the view v to the picture w and the bits d.
abbrev Worked : View → Rectangle → ℕ → List ℕ → ℕ → Picture → Cells Bool → Type 0 → Option ℕ → Type 0
Worked v a L xs m w d A o =
    MatchOption o
    ((settles_there v.height v.width a (length xs) m ≡ false) × (w ≡ picture_of v) × (d ≡ v.bits) × A)
    (λ k. (settles_there v.height v.width a (length xs) m ≡ true) × Settled v.amounts L a (samples_at xs) (picture_of v) v.bits w d k)

module _ (s : Setting) (q : Plan) (a : Rectangle) (x : Plane) (bs : Cells Bool) (n : ℕ) (v : View) (plate serial : ℕ) (xs : List ℕ) (m : ℕ)
    (h : Shows s (leased_plain q a x bs n) v) (law : lawful_state (Some q) (Some a) ≡ true)
    (e : why s (leased_plain q a x bs n) (settling plate serial (samples_of xs) m) ≡ None) where
  lawful : LawfulPlan q
  lawful = lawful_parts q (and_parts (lawful_plan q) (lawful_lease q (Some a)) law).0

  stays : leaves q.rows q.columns a ≡ false
  stays = not_true (leaves q.rows q.columns a) (and_parts (lawful_plan q) (lawful_lease q (Some a)) law).1

  rows_passed : Passed (settling_table s (leased_plain q a x bs n) plate serial (samples_of xs) m)
  rows_passed = passed (settling_table s (leased_plain q a x bs n) plate serial (samples_of xs) m) e

  count : length xs ≡ a.height * a.width
  count = eqb-true (length xs) (a.height * a.width) (not_false _ rows_passed.1.0)

  small : (i : ℕ) → nat_abs (samples_at xs i) ≤ q.top
  small = all_lawful q.top xs rows_passed.1.1.0

  enough : q.rows * q.columns ≤ m
  enough = ltb-false m (q.rows * q.columns) rows_passed.1.1.1.0

  high : v.height ≡ q.rows
  high = h.height ∙ h.fitting.height

  wide : v.width ≡ q.columns
  wide = h.width ∙ h.fitting.width

  there : settles_there v.height v.width a (length xs) m ≡ true
  there = (λ k. settles_there (high k) (wide k) a (length xs) m) ∙ (let c : leb (a.height * a.width) (length xs) ≡ true = le-leb (a.height * a.width) (length xs) (le_of_eq (sym count)) in let f = can_be_made q m lawful enough in rw (stays, c, f))

  -- the edited picture keeps to the top
  keeps : Bounded q.rows q.columns q.top (samples.replaced a (samples_at xs) x)
  keeps r c i j =
      elim (in_rectangle (rows_of a) (columns_of a) r c) as (λ b. nat_abs (cond b (samples_at xs (samples.sample_index a r c)) (x r c)) ≤ q.top)
      [ true ↦ small (samples.sample_index a r c) | false ↦ h.fitting.samples r c i j ]

  shown : Agree v.height v.width v.cells (forward v.amounts v.height v.width q.levels x)
  shown r c i j =
      (no_number_differs s.height s.width v.cells (forward s.amounts q.rows q.columns q.levels x)).0 h.no_cell_differs r c
      (subst (λ k. r < k) h.height i) (subst (λ k. c < k) h.width j)
      ∙ sym (λ k. forward (h.amounts k) (high k) (wide k) q.levels x r c)

  budgeted : Budgeted v.height v.width q.levels q.top x
  budgeted = record { small = λ r c i j. h.fitting.samples r c (subst (λ k. r < k) high i) (subst (λ k. c < k) wide j); room = lawful.budget }

  settled_shows : (w : Picture) (d : Cells Bool) (k : ℕ) → Settled v.amounts q.levels a (samples_at xs) (picture_of v) v.bits w d k
      → Shows s (after s (leased_plain q a x bs n) (settling plate serial (samples_of xs) m)) (with_picture v w d v.plan None)
      × (settled k ≡ reply s (leased_plain q a x bs n) (settling plate serial (samples_of xs) m))
  unfolding overlaid_bits
  settled_shows w d k l =
      let edited = samples.replaced a (samples_at xs) x in
      let cells = l.cells x q.top budgeted small shown in
      let moved : Agree s.height s.width w.number (forward s.amounts q.rows q.columns q.levels edited) =
      λ r c i j. cells r c (subst (λ z. r < z) (sym h.height) i) (subst (λ z. c < z) (sym h.width) j)
      ∙ (λ z. forward (h.amounts z) (high z) (wide z) q.levels edited r c) in
      let marked : Agree s.height s.width d (λ r c. bs r c || in_cone q.rows q.columns (rows_of a) (columns_of a) q.levels r c) =
      λ r c i j.
      ap (λ z. z r c) l.bits
      ∙ bits_inside v.height v.width (in_cone v.height v.width (rows_of a) (columns_of a) q.levels) v.bits r c (subst (λ z. r < z) (sym h.height) i) (subst (λ z. c < z) (sym h.width) j)
      ∙ ap (λ z. z || in_cone v.height v.width (rows_of a) (columns_of a) q.levels r c) ((no_bit_differs s.height s.width v.bits bs).0 h.no_bit_differs r c i j)
      ∙ (λ z. bs r c || in_cone (high z) (wide z) (rows_of a) (columns_of a) q.levels r c) in
      accepted s (leased_plain q a x bs n) (settling plate serial (samples_of xs) m) (with_picture v w d v.plan None) (settled k) e
      (record {
        number = h.number;
        height = l.sides.0 ∙ h.height;
        width = l.sides.1 ∙ h.width;
        amounts = h.amounts;
        plan = h.plan;
        lease = refl;
        serial = h.serial;
        fitting = record { height = h.fitting.height; width = h.fitting.width; samples = keeps };
        no_cell_differs = (no_number_differs s.height s.width w.number (forward s.amounts q.rows q.columns q.levels edited)).1 moved;
        no_bit_differs = (no_bit_differs s.height s.width d (λ r c. bs r c || in_cone q.rows q.columns (rows_of a) (columns_of a) q.levels r c)).1 marked;
      })
      (ap settled (l.count ∙ (λ z. cone_count (high z) (wide z) (rows_of a) (columns_of a) q.levels)))

  pub worked_shows : (L : ℕ) → (q.levels ≤ 5 → L ≡ q.levels) → (w : Picture) (d : Cells Bool) (A : Type 0) (o : Option ℕ) → Worked v a L xs m w d A o
      → Shows s (after s (leased_plain q a x bs n) (settling plate serial (samples_of xs) m)) (with_picture v w d v.plan None)
      × (settled (unwrap_or o 0) ≡ reply s (leased_plain q a x bs n) (settling plate serial (samples_of xs) m))
  worked_shows L f w d A None g = absurd (false≢true (sym g.0 ∙ there))
  worked_shows L f w d A (Some k) g = settled_shows w d k (subst (λ z. Settled v.amounts z a (samples_at xs) (picture_of v) v.bits w d k) (f lawful.levels) g.1)

-- a settlement that passed its table, of whatever plain plate is shown
pub settles : (s : Setting) (p : Plain) (v : View) (q : Plan) (a : Rectangle) (plate serial : ℕ) (xs : List ℕ) (m : ℕ) → Shows s p v
    → v.plan ≡ Some q → v.lease ≡ Some a → lawful_state v.plan v.lease ≡ true → own_fault v (settling plate serial (samples_of xs) m) ≡ None
    → (L : ℕ) → (q.levels ≤ 5 → L ≡ q.levels) → (w : Picture) (d : Cells Bool) (A : Type 0) (o : Option ℕ) → Worked v a L xs m w d A o
    → Shows s (after s p (settling plate serial (samples_of xs) m)) (with_picture v w d v.plan None) × (settled (unwrap_or o 0) ≡ reply s p (settling plate serial (samples_of xs) m))
settles s p v q a plate serial xs m h e f law own L level w d A o worked =
    let call = settling plate serial (samples_of xs) m in
    let plan : p.plan ≡ Some q = sym h.plan ∙ e in
    let lease : p.lease ≡ Some a = sym h.lease ∙ f in
    let same : p ≡ leased_plain q a p.picture p.bits p.serial = λ k. record { plan = plan k; picture = p.picture; bits = p.bits; lease = lease k; serial = p.serial } in
    let lawful : lawful_state (Some q) (Some a) ≡ true = (λ k. lawful_state (sym e k) (sym f k)) ∙ law in
    let none : why s (leased_plain q a p.picture p.bits p.serial) call ≡ None = ap (λ z. why s z call) (sym same) ∙ sym (own_table s p v h call) ∙ own in
    subst (λ z. Shows s (after s z call) (with_picture v w d v.plan None) × (settled (unwrap_or o 0) ≡ reply s z call)) (sym same)
    (worked_shows s q a p.picture p.bits p.serial v plate serial xs m (subst (λ z. Shows s z v) same h) lawful none L level w d A o worked)
