-- The plan of a plain plate after a history has sides up to 4,096; so no plate needs more than 4,096 × 4,096 records or numbers.
use Rattle.std.proofs.Common.{◌≡◌, ℕ, ◌*◌, ◌≤◌, min, Bool, true, false, cond, not, ◌&&◌, ltb, List, [], ◌∷◌, ◌++◌, length, is_some, Some, None, Option, refl, ap, ◌∙◌, mul-le-mul, arith}
use Rattle.std.proofs.lemmas.Bool.Decides.{nat_tests}
use Rattle.faults.specs.declared.fault.Fault.{Fault}
use Rattle.faults.specs.declared.fault.Fault.TheVariants as fault
use Rattle.faults.specs.declared.fault.Layer.TheVariants.{Plate}
use Rattle.faults.specs.Tables.{first_fault}
use Rattle.planes.specs.declared.rectangle.Rectangle.{Rectangle}
use Rattle.planes.specs.Rectangles.{leaves}
use Rattle.wavelets.specs.Lifting.{size}
use Rattle.wavelets.proofs.Lattices.{size_at_most}
use Rattle.model.specs.declared.plan.Plan.{Plan}
use Rattle.model.specs.declared.card.Card.{Card}
use Rattle.model.specs.Calls.{Numbers, Call, laying, leasing, settling, surrendering, recalling, previewing, reading, clearing}
use Rattle.model.specs.Plain.{Setting, Plain, why, after_by, ended, plan_or_none, rectangle_or_none, is_side, samples_table, is_out, ends_the_lease}
use Rattle.model.specs.Laws.{after_history}
use Rattle.plates.specs.Sheets.{head_of, own_sheet}
use Rattle.sheets.proofs.Sizes.{length_at_most}
use Rattle.workshop_job.specs.Buffers.{enough, LongerBuffersChangeNoVerdict, LongerOutputsChangeNoSheet}

-- the sides of a plan are up to 4,096
abbrev Small : Plan → Type 0
Small q = (q.rows ≤ 4096) × (q.columns ≤ 4096)

-- a table that passes its second row
second : (a b : Bool) (f g : Fault) (rest : Option Fault) → cond a (Some f) (cond b (Some g) rest) ≡ None → b ≡ false
second true b f g rest e = absurd (let z : ◌≡◌ {A = ℕ} 0 1 = cc in omega arith)
second false true f g rest e = absurd (let z : ◌≡◌ {A = ℕ} 0 1 = cc in omega arith)
second false false f g rest e = refl

small_sides : (r c : ℕ) → not (is_side r && is_side c) ≡ false → (r ≤ 4096) × (c ≤ 4096)
small_sides r c e =
    let a : r ≤ 4096 = grind (arith, nat_tests) in
    let b : c ≤ 4096 = grind (arith, nat_tests) in
    (a, b)

laid_small : (s : Setting) (p : Plain) (q : Plan) (xs : Numbers) → why s p (laying q xs) ≡ None → Small q
laid_small s p q xs e = small_sides q.rows q.columns (second (is_some p.lease) _ _ _ _ e)

module _ (s : Setting) (p : Plain) (k : Small (plan_or_none p.plan)) where
  refused_small : (c : Call) (f : Fault) → Small (plan_or_none (after_by s p c (Some f)).plan)
  refused_small (laying q xs) f = k
  refused_small (leasing a) f = k
  refused_small (settling plate serial xs records) f =
      elim (ends_the_lease f) as (λ e. Small (plan_or_none (cond e (ended p) p).plan)) [ true ↦ k | false ↦ k ]
  refused_small (surrendering plate serial) f = k
  refused_small recalling f = k
  refused_small (previewing card a records room) f = k
  refused_small (reading card row column) f = k
  refused_small clearing f = k

  taken_small : (c : Call) → why s p c ≡ None → Small (plan_or_none (after_by s p c None).plan)
  taken_small (laying q xs) e = laid_small s p q xs e
  taken_small (leasing a) e = k
  taken_small (settling plate serial xs records) e = k
  taken_small (surrendering plate serial) e = k
  taken_small recalling e = k
  taken_small (previewing card a records room) e = k
  taken_small (reading card row column) e = k
  taken_small clearing e = k

  small_after : (c : Call) (o : Option Fault) → why s p c ≡ o → Small (plan_or_none (after_by s p c o).plan)
  small_after c None e = taken_small c e
  small_after c (Some f) e = refused_small c f

small_history : (s : Setting) (h : List Call) → Small (plan_or_none (after_history s h).plan)
small_history s [] = (omega arith, omega arith)
small_history s (c ∷ h) = small_after s (after_history s h) (small_history s h) c (why s (after_history s h) c) refl

area : (a b : ℕ) → a ≤ 4096 → b ≤ 4096 → a * b ≤ 16777216
area a b h k = mul-le-mul h k

-- a bound that suffices decides as any larger number
cut_test : (most n m : ℕ) → m ≤ most → ltb (min n most) m ≡ ltb n m
cut_test most n m h = grind (arith, nat_tests)

same_test : (n m : ℕ) → m ≤ 16777216 → ltb (enough n) m ≡ ltb n m
same_test = cut_test 16777216

-- a rectangle that does not leave a lattice is no larger than the lattice
inside : (R C : ℕ) (a : Rectangle) → leaves R C a ≡ false → (a.height ≤ R) × (a.width ≤ C)
inside R C a e =
    let h : a.height ≤ R = grind (arith, nat_tests) in
    let w : a.width ≤ C = grind (arith, nat_tests) in
    (h, w)

-- the last rows of a preview's table: a rectangle that leaves is declined before the output is looked at
ending : (t : Bool) (n m room records : ℕ) (f g : Fault) → (t ≡ false → n ≤ 16777216) → m ≤ 16777216
    → cond t (Some (fault.Rectangle Plate)) (cond (ltb (enough room) n) (Some f) (cond (ltb (enough records) m) (Some g) None))
    ≡ cond t (Some (fault.Rectangle Plate)) (cond (ltb room n) (Some f) (cond (ltb records m) (Some g) None))
ending true n m room records f g h k = refl
ending false n m room records f g h k =
    ap (λ b. cond b (Some f) (cond (ltb (enough records) m) (Some g) None)) (same_test room n (h refl))
    ∙ ap (λ b. cond (ltb room n) (Some f) (cond b (Some g) None)) (same_test records m k)

module _ (s : Setting) (p : Plain) (k : Small (plan_or_none p.plan)) where
  q : Plan
  q = plan_or_none p.plan

  shown_area : (card : Card) (a : Rectangle) → leaves (size card.level q.rows) (size card.level q.columns) a ≡ false → a.height * a.width ≤ 16777216
  unfolding q
  shown_area card a e =
      let i = inside (size card.level q.rows) (size card.level q.columns) a e in
      area a.height a.width (omega (arith, i.0, size_at_most card.level q.rows, k.0)) (omega (arith, i.1, size_at_most card.level q.columns, k.1))

  settled_alike : (plate serial : ℕ) (xs : Numbers) (records : ℕ) → why s p (settling plate serial xs (enough records)) ≡ why s p (settling plate serial xs records)
  settled_alike plate serial xs records =
      let a = rectangle_or_none p.lease in
      let n = plan_or_none p.plan in
      ap (λ b. first_fault ((not (is_out s p plate serial), fault.WrongLease) ∷ (samples_table xs (a.height * a.width) n.top ++ ((b, fault.ScratchShort) ∷ []))))
      (same_test records (n.rows * n.columns) (area n.rows n.columns k.0 k.1))

  previewed_alike : (card : Card) (a : Rectangle) (records room : ℕ) → why s p (previewing card a (enough records) (enough room)) ≡ why s p (previewing card a records room)
  unfolding q
  previewed_alike card a records room =
      ap (λ rest. cond (not (is_some p.plan)) (Some fault.Unlaid) (cond (ltb q.levels card.level) (Some fault.LevelInHand) rest))
      (ending (leaves (size card.level q.rows) (size card.level q.columns) a) (a.height * a.width) (q.rows * q.columns) room records (fault.OutputShort Plate) fault.ScratchShort
      (shown_area card a) (area q.rows q.columns k.0 k.1))

pub longer_buffers : LongerBuffersChangeNoVerdict
longer_buffers s h = record {
  settlements = settled_alike s (after_history s h) (small_history s h);
  previews = previewed_alike s (after_history s h) (small_history s h);
}

pub longer_outputs : LongerOutputsChangeNoSheet
longer_outputs v issue code room h w =
    let text = own_sheet issue code v in
    let a = area v.height v.width h w in
    let long : length text ≤ 385876006 = omega (arith, length_at_most (head_of issue code (plan_or_none v.plan)) v.height v.width v.cells v.bits, a) in
    ap (λ b. cond (not (is_some v.plan)) (Some fault.Unlaid) (cond b (Some (fault.OutputShort Plate)) None)) (cut_test 385876006 room (length text) long)
