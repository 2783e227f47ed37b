-- A cell that was read is the plain plate's.
use Rattle.std.proofs.Common.{◌≡◌, ℕ, ◌*◌, ◌^◌, ◌<◌, ◌≤◌, Bool, true, false, not, ◌&&◌, ltb, leb, ℤ, is_some, IfSome, Some, None, Option, sym, ◌∙◌, subst, le_trans}
use Rattle.std.proofs.lemmas.Bool.{leb-true, ltb-true, ltb-false, and_parts}
use Rattle.planes.specs.declared.rectangle.Rectangle.{Rectangle}
use Rattle.wavelets.specs.Lifting.{size}
use Rattle.wavelets.proofs.Counts.{no_number_differs, no_bit_differs}
use Rattle.wavelets.proofs.Lattices.{cell_inside}
use Rattle.model.specs.declared.card.Card.{Card}
use Rattle.model.specs.declared.plan.Plan.{Plan}
use Rattle.model.specs.Calls.{reading, cell}
use Rattle.model.specs.Plain.{Setting, Plain, why, cells_of, plan_or_none, reading_table, after, reply}
use Rattle.plates.specs.Plans.{lawful_state}
use Rattle.plates.specs.Shows.{View, Fitting, own_fault, Shows}
use Rattle.plates.proofs.Showing.{accepted, own_table}
use Rattle.plates.proofs.Passing.{passed, not_false, the_some}

few_levels : (q : Plan) (o : Option Rectangle) → lawful_state (Some q) o ≡ true → q.levels ≤ 5
few_levels q o e = leb-true q.levels 5 (and_parts (leb q.levels 5) _ (and_parts _ _ (and_parts _ _ e).0).1).0

-- The plan of a laid plate, what a laying accepted of it, and that it fits the store.
pub record Planned (s : Setting) (p : Plain) (v : View) : Type 0 where
  pub plan : Plan
  pub is : p.plan ≡ Some plan
  pub fits : Fitting s p.picture plan
  pub lawful : lawful_state (Some plan) v.lease ≡ true

pub planned : (s : Setting) (p : Plain) (v : View) → Shows s p v → lawful_state v.plan v.lease ≡ true → is_some p.plan ≡ true → Planned s p v
planned s p v h l e =
    let q = the_some p.plan e in
    record {
      plan = q.0;
      is = q.1;
      fits = subst (λ o. IfSome o (Fitting s p.picture)) q.1 h.fitting;
      lawful = subst (λ o. lawful_state o v.lease ≡ true) (h.plan ∙ q.1) l;
    }

-- a place that passed the table lies on the plate, and under it a cell of the store
module _ (s : Setting) (p : Plain) (v : View) (card : Card) (row column : ℕ) (h : Shows s p v) (lawful : lawful_state v.plan v.lease ≡ true) where
  inside : why s p (reading card row column) ≡ None → (card.level ≤ 5) × (row * 2 ^ card.level < s.height) × (column * 2 ^ card.level < s.width)
  inside e =
      let t = passed (reading_table p card row column) e in
      let l = planned s p v h lawful (not_false _ t.0) in
      let q = l.plan in
      let few : q.levels ≤ 5 = few_levels q v.lease l.lawful in
      let level : card.level ≤ q.levels = ltb-false q.levels card.level (subst (λ o. ltb (plan_or_none o).levels card.level ≡ false) l.is t.1.0) in
      let sides = and_parts _ _ (not_false _ (subst (λ o. not (ltb row (size card.level (plan_or_none o).rows) && ltb column (size card.level (plan_or_none o).columns)) ≡ false) l.is t.1.1.0)) in (
        le_trans level few,
        subst (λ n. row * 2 ^ card.level < n) (sym l.fits.height) (cell_inside card.level q.rows row (ltb-true row (size card.level q.rows) sides.0)),
        subst (λ n. column * 2 ^ card.level < n) (sym l.fits.width) (cell_inside card.level q.columns column (ltb-true column (size card.level q.columns) sides.1)),
      )

  pub reads_the_cell : own_fault v (reading card row column) ≡ None → (x : ℤ) (b : Bool)
      → (card.level ≤ 5 → row * 2 ^ card.level < v.height → column * 2 ^ card.level < v.width
      → (x ≡ v.cells (row * 2 ^ card.level) (column * 2 ^ card.level)) × (b ≡ v.bits (row * 2 ^ card.level) (column * 2 ^ card.level)))
      → Shows s (after s p (reading card row column)) v × (cell x b ≡ reply s p (reading card row column))
  reads_the_cell own x b below =
      let r = row * 2 ^ card.level in
      let c = column * 2 ^ card.level in
      let e : why s p (reading card row column) ≡ None = sym (own_table s p v h (reading card row column)) ∙ own in
      let i = inside e in
      let f = below i.0 (subst (λ n. r < n) (sym h.height) i.1) (subst (λ n. c < n) (sym h.width) i.2) in
      let a = f.0 ∙ (no_number_differs s.height s.width v.cells (cells_of s p)).0 h.no_cell_differs r c i.1 i.2 in
      let d = f.1 ∙ (no_bit_differs s.height s.width v.bits p.bits).0 h.no_bit_differs r c i.1 i.2 in
      accepted s p (reading card row column) v (cell x b) e h (λ k. cell (a k) (d k))
