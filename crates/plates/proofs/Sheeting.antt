-- The sheet of what a plate holds is that of the plain plate it shows.
use Rattle.std.proofs.Common.{◌≡◌, ℕ, true, false, cond, ltb, List, length, Some, None, Option, Result, sym, ap, ◌∙◌, subst}
use Rattle.std.specs.Option.{ok_or}
use Rattle.std.proofs.lemmas.Bool.{lt-ltb, le-ltb, false≢true}
use Rattle.faults.specs.declared.fault.Fault.{Fault}
use Rattle.faults.specs.declared.fault.Fault.TheVariants.{OutputShort}
use Rattle.faults.specs.declared.fault.Layer.TheVariants.{Plate}
use Rattle.wavelets.proofs.Counts.{no_number_differs, no_bit_differs}
use Rattle.sheets.specs.declared.frame.Head.{Head}
use Rattle.sheets.specs.Sheets.{sheet_text, Writes}
use Rattle.sheets.proofs.Agreeing.{sheets_alike}
use Rattle.model.specs.declared.plan.Plan.{Plan}
use Rattle.model.specs.Plain.{Setting, Plain, plan_or_none, cells_of}
use Rattle.plates.specs.Shows.{View, Shows}
use Rattle.plates.specs.Sheets.{head_of, own_sheet, plain_sheet, Sheeted}

pub sheets_same : (issue code : ℕ) (s : Setting) (p : Plain) (v : View) → Shows s p v → own_sheet issue code v ≡ plain_sheet issue code s p
sheets_same issue code s p v h =
    (λ i. sheet_text (head_of issue code (plan_or_none (h.plan i))) (h.height i) (h.width i) v.cells v.bits)
    ∙ sheets_alike (head_of issue code (plan_or_none p.plan)) s.height s.width v.cells (cells_of s p) v.bits p.bits
    ((no_number_differs s.height s.width v.cells (cells_of s p)).0 h.no_cell_differs)
    ((no_bit_differs s.height s.width v.bits p.bits).0 h.no_bit_differs)

-- a laid plate, by what writing the sheet answered
laid_sheeted : (q : Plan) (text was now : List ℕ) (o : Option ℕ) → Writes text was now o → Sheeted (Some q) text was now (ok_or o (OutputShort Plate))
laid_sheeted q text was now None w =
    let e : ltb (length was) (length text) ≡ true = lt-ltb (length was) (length text) w.0 in
    record { declines_by_the_table = ap (λ b. cond b (Some (OutputShort Plate)) None) (sym e); declined_leaves_the_output = λ _. w.1; writes_the_sheet = tt }
laid_sheeted q text was now (Some n) w =
    let e : ltb (length was) (length text) ≡ false = le-ltb (length was) (length text) w.0 in
    record {
      declines_by_the_table = ap (λ b. cond b (Some (OutputShort Plate)) None) (sym e);
      declined_leaves_the_output = λ z. absurd (false≢true (sym z));
      writes_the_sheet = (w.1, w.2);
    }

pub own_sheeted : (issue code told : ℕ) (v : View) (q : Plan) (head : Head) (was now : List ℕ) (o : Option ℕ) (r : Result ℕ Fault)
    → v.plan ≡ Some q → told ≡ code → head ≡ head_of issue told q → Writes (sheet_text head v.height v.width v.cells v.bits) was now o → r ≡ ok_or o (OutputShort Plate)
    → Sheeted v.plan (own_sheet issue code v) was now r
own_sheeted issue code told v q head was now o r plan codes heads w e =
    let same : head ≡ head_of issue code (plan_or_none v.plan) = heads ∙ (λ i. head_of issue (codes i) (plan_or_none (sym plan i))) in
    subst (λ z. Sheeted v.plan (own_sheet issue code v) was now z) (sym e)
    (subst (λ z. Sheeted z (own_sheet issue code v) was now (ok_or o (OutputShort Plate))) (sym plan)
    (laid_sheeted q (own_sheet issue code v) was now o (subst (λ h. Writes (sheet_text h v.height v.width v.cells v.bits) was now o) same w)))

-- and by each plain plate that it shows
pub plain_sheeted : (issue code : ℕ) (s : Setting) (p : Plain) (v : View) (was now : List ℕ) (r : Result ℕ Fault) → Shows s p v
    → Sheeted v.plan (own_sheet issue code v) was now r → Sheeted p.plan (plain_sheet issue code s p) was now r
plain_sheeted issue code s p v was now r h t =
    subst (λ o. Sheeted o (plain_sheet issue code s p) was now r) h.plan (subst (λ z. Sheeted v.plan z was now r) (sheets_same issue code s p v h) t)
