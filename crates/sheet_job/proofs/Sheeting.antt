-- The sheet of a plate just laid.
use Rattle.std.proofs.Common.{◌≡◌, ℕ, ◌+◌, ◌*◌, ◌≤◌, true, false, cond, ltb, List, length, Some, None, Ok, Err, Result, refl, ap, ◌∙◌, subst, arith}
use Rattle.std.proofs.lemmas.Bool.{le-ltb}
use Rattle.faults.specs.declared.fault.Fault.{Fault}
use Rattle.faults.specs.declared.fault.Fault.TheVariants.{OutputShort}
use Rattle.faults.specs.declared.fault.Layer.TheVariants.{Plate}
use Rattle.sheets.specs.Sheets.{sheet_text}
use Rattle.sheets.proofs.Sizes.{length_at_most}
use Rattle.wavelets.specs.Lifting.{five_three, forward}
use Rattle.overlays.specs.Samples.{samples_at, pictured}
use Rattle.model.specs.declared.plan.Plan.{Plan}
use Rattle.model.specs.Calls.{samples_of, laying}
use Rattle.model.specs.Plain.{Setting, Plain, fresh, why, after, after_by, taken, first_over}
use Rattle.plates.specs.Plans.{lawful_plan}
use Rattle.plates.specs.Shows.{View, Shows, setting_of, plain_of, own_fault}
use Rattle.plates.specs.Sheets.{head_of, plain_sheet, Sheeted}
use Rattle.sheet_job.specs.Reports.{laid_sheet, Wrote}
use Rattle.sheet_job.proofs.Passing.{passes}

-- a laying that passed leaves the laid plate
laid_shows : (s : Setting) (q : Plan) (xs : List ℕ) (w : View) → why s (fresh s) (laying q (samples_of xs)) ≡ None
    → Shows s (after s (fresh s) (laying q (samples_of xs))) w → Shows s (taken s (fresh s) (laying q (samples_of xs))) w
laid_shows s q xs w e h = subst (λ o. Shows s (after_by s (fresh s) (laying q (samples_of xs)) o) w) e h

-- its sheet is that of the samples' transform, with every cell
laid_text : (s : Setting) (q : Plan) (xs : List ℕ) → s.height ≡ q.rows → s.width ≡ q.columns → s.amounts ≡ five_three
    → plain_sheet 1 1 s (taken s (fresh s) (laying q (samples_of xs))) ≡ laid_sheet q xs
laid_text s q xs high wide amounts =
    λ i. sheet_text (head_of 1 1 q) (high i) (wide i) (forward (amounts i) q.rows q.columns q.levels (pictured q.columns (samples_at xs))) (λ r c. true)

-- and has room
wrote : (q : Plan) (text was now : List ℕ) (r : Result ℕ Fault) → length text ≤ length was → Sheeted (Some q) text was now r → Wrote text was now r
wrote q text was now (Ok n) h t = t.writes_the_sheet
wrote q text was now (Err f) h t =
    let e : ltb (length was) (length text) ≡ false = le-ltb (length was) (length text) h in
    let d : Some f ≡ None = t.declines_by_the_table ∙ ap (λ b. cond b (Some (OutputShort Plate)) None) e in
    absurd (let z : ◌≡◌ {A = ℕ} 0 1 = cc in omega arith)

wrote_the_sheet : (s : Setting) (q : Plan) (xs was now : List ℕ) (r : Result ℕ Fault) → s.height ≡ q.rows → s.width ≡ q.columns → s.amounts ≡ five_three
    → 38 + 23 * (q.rows * q.columns) ≤ length was → Sheeted (Some q) (plain_sheet 1 1 s (taken s (fresh s) (laying q (samples_of xs)))) was now r → Wrote (laid_sheet q xs) was now r
wrote_the_sheet s q xs was now r high wide amounts room t =
    wrote q (laid_sheet q xs) was now r
    (omega (arith, room, length_at_most (head_of 1 1 q) q.rows q.columns (forward five_three q.rows q.columns q.levels (pictured q.columns (samples_at xs))) (λ r c. true)))
    (subst (λ z. Sheeted (Some q) z was now r) (laid_text s q xs high wide amounts) t)

-- From a plate just made, v, over a store of the plan's sides, to the plate w that was laid.
module _ {v : View} (shows : Shows (setting_of v) (fresh (setting_of v)) v) (q : Plan) (xs : List ℕ) (lease : v.lease ≡ None) (law : lawful_plan q ≡ true) (high : v.height ≡ q.rows) (wide : v.width ≡ q.columns)
    (count : length xs ≡ q.rows * q.columns) (none : ltb (first_over q.top (samples_of xs)) (length xs) ≡ false) where
  -- the laying was not declined
  pub not_declined : (f : Fault) → Some f ≡ own_fault v (laying q (samples_of xs)) → ⊥
  not_declined f e =
      let d : Some f ≡ None = e ∙ passes (setting_of v) (plain_of v) q xs lease law high wide count none in
      let z : ◌≡◌ {A = ℕ} 0 1 = cc in omega arith

  pub sheet_of_the_laid : {w : View} (was now : List ℕ) (r : Result ℕ Fault) → v.amounts ≡ five_three → 38 + 23 * (q.rows * q.columns) ≤ length was
      → ((s : Setting) (p : Plain) → Shows s p v → Shows s (after s p (laying q (samples_of xs))) w × Unit {0})
      → ((s : Setting) (p : Plain) → Shows s p w → Sheeted p.plan (plain_sheet 1 1 s p) was now r) → Wrote (laid_sheet q xs) was now r
  sheet_of_the_laid {w} was now r amounts room lays sheet =
      let s = setting_of v in
      let passed : why s (fresh s) (laying q (samples_of xs)) ≡ None = passes s (fresh s) q xs refl law high wide count none in
      wrote_the_sheet s q xs was now r high wide amounts room (sheet s (taken s (fresh s) (laying q (samples_of xs))) (laid_shows s q xs w passed (lays s (fresh s) shows).0))
