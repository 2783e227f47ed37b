-- A laying that passes every row of its table.
use Rattle.std.proofs.Common.{◌≡◌, ℕ, ◌*◌, true, false, not, ◌&&◌, eqb, ltb, leb, List, [], ◌∷◌, length, is_some, None}
use Rattle.std.proofs.lemmas.Bool.{and_parts, and_from, eq-eqb, leb-true, le-ltb}
use Rattle.faults.specs.declared.fault.Fault.TheVariants as fault
use Rattle.faults.specs.declared.fault.Layer.TheVariants.{Plate}
use Rattle.faults.specs.Tables.{first_fault}
use Rattle.wavelets.specs.Lifting.{within_budget}
use Rattle.model.specs.declared.plan.Plan.{Plan}
use Rattle.model.specs.Calls.{samples_of, laying}
use Rattle.model.specs.Plain.{Setting, Plain, is_side, is_top, first_over, why}
use Rattle.plates.specs.Plans.{lawful_plan}

pub passes : (s : Setting) (p : Plain) (q : Plan) (xs : List ℕ) → p.lease ≡ None → lawful_plan q ≡ true → s.height ≡ q.rows → s.width ≡ q.columns
    → length xs ≡ q.rows * q.columns → ltb (first_over q.top (samples_of xs)) (length xs) ≡ false → why s p (laying q (samples_of xs)) ≡ None
passes s p q xs lease law high wide count none =
    let sides = and_parts (is_side q.rows && is_side q.columns) _ law in
    let levels = and_parts (leb q.levels 5) _ sides.1 in
    let tops = and_parts (is_top q.top) (within_budget q.top q.levels) levels.1 in
    let few : ltb 5 q.levels ≡ false = le-ltb 5 q.levels (leb-true q.levels 5 levels.0) in
    let same : (eqb s.height q.rows && eqb s.width q.columns) ≡ true =
    and_from (eqb s.height q.rows) (eqb s.width q.columns) (eq-eqb s.height q.rows high) (eq-eqb s.width q.columns wide) in
    let area : eqb (length xs) (q.rows * q.columns) ≡ true = eq-eqb (length xs) (q.rows * q.columns) count in
    λ i. first_fault (
    (is_some (lease i), fault.LeaseOut)
    ∷ (not (sides.0 i), fault.Size Plate)
    ∷ (few i, fault.Levels Plate)
    ∷ (not (tops.0 i), fault.Top Plate)
    ∷ (not (tops.1 i), fault.Budget)
    ∷ (not (same i), fault.StoreDiffers)
    ∷ (not (area i), fault.SampleCount)
    ∷ (none i, fault.Sample Plate (first_over q.top (samples_of xs)))
    ∷ []
    )
