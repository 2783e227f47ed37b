-- Samples over the top.
use Rattle.std.proofs.Common.{◌≡◌, ℕ, ◌*◌, ◌<◌, ◌≤◌, Bool, true, false, cond, not, ◌&&◌, eqb, ltb, leb, List, [], ◌∷◌, ◌++◌, length, get_or, is_some, Some, None, Option, refl, sym, ap, ◌∙◌, subst, arith}
use Rattle.std.specs.List.{position_or_len, position}
use Rattle.std.specs.Option.{option_map}
use Rattle.std.proofs.lemmas.Bool.{eq-eqb, and_from}
use Rattle.std.proofs.lemmas.Bool.Decides.{nat_tests}
use Rattle.std.proofs.lemmas.List.Sums.{position_or_len_is}
use Rattle.faults.specs.declared.fault.Fault.{Fault}
use Rattle.faults.specs.declared.fault.Fault.TheVariants as fault
use Rattle.faults.specs.Tables.{first_fault}
use Rattle.faults.specs.declared.fault.Layer.TheVariants.{Plate}
use Rattle.faults.proofs.FirstFault.{first_in_front}
use Rattle.faults.proofs.FirstIndex.{at_most, holds_there, fails_before}
use Rattle.planes.specs.declared.rectangle.Rectangle.{Rectangle}
use Rattle.model.specs.declared.plan.Plan.{Plan}
use Rattle.model.specs.Calls.{Numbers, samples_of, settling}
use Rattle.model.specs.Plain.{Setting, Plain, is_sample, first_over, samples_table, settling_records, is_out, why, plan_or_none, rectangle_or_none}

abbrev pub over : ℕ → List ℕ → ℕ → Bool
over top xs i = not (is_sample top ((samples_of xs).at i))

-- the search by position finds the first sample over the top
over_is : (top y : ℕ) → ltb top y ≡ not (leb y top)
over_is top y = grind (arith, nat_tests)

first_is : (top : ℕ) (xs : List ℕ) → position_or_len (λ x. ltb top x) xs ≡ first_over top (samples_of xs)
first_is top xs =
    position_or_len_is (λ x. ltb top x) xs (first_over top (samples_of xs)) 0 (at_most (over top xs) (length xs))
    (λ k h. over_is top (get_or xs k 0) ∙ fails_before (over top xs) (length xs) k h)
    (λ h. over_is top (get_or xs (first_over top (samples_of xs)) 0) ∙ holds_there (over top xs) (length xs) h)

-- and the fault of samples as many as they should be names it
of_cond : (b : Bool) (n : ℕ) → option_map (fault.Sample Plate) (cond b (Some n) None) ≡ cond b (Some (fault.Sample Plate n)) None
of_cond true n = refl
of_cond false n = refl

pub by_position : (top area : ℕ) (xs : List ℕ) (o : Option ℕ) → length xs ≡ area → o ≡ position (λ x. ltb top x) xs
    → option_map (fault.Sample Plate) o ≡ first_fault (samples_table (samples_of xs) area top)
by_position top area xs o e h =
    let many : not (eqb (length xs) area) ≡ false = ap not (eq-eqb (length xs) area e) in
    rw (h, many, ← first_is top xs) (of_cond (ltb (position_or_len (λ x. ltb top x) xs) (length xs)) (position_or_len (λ x. ltb top x) xs))

-- a fault of the samples of the lease that is out is the settlement's
pub settling_samples : (s : Setting) (p : Plain) (plate serial : ℕ) (xs : Numbers) (records : ℕ) (f : Fault) (q : Plan) (a : Rectangle)
    → p.plan ≡ Some q → p.lease ≡ Some a → plate ≡ s.number → serial ≡ p.serial
    → Some f ≡ first_fault (samples_table xs (a.height * a.width) q.top) → Some f ≡ why s p (settling plate serial xs records)
settling_samples s p plate serial xs records f q a e o n m h =
    let area = (rectangle_or_none p.lease).height * (rectangle_or_none p.lease).width in
    let rows = samples_table xs area (plan_or_none p.plan).top in
    let row : Bool × Fault = (ltb records (settling_records (plan_or_none p.plan) (rectangle_or_none p.lease)), fault.ScratchShort) in
    let out : is_out s p plate serial ≡ true =
    subst (λ l. (is_some l && (eqb plate s.number && eqb serial p.serial)) ≡ true) (sym o) (and_from (eqb plate s.number) (eqb serial p.serial) (eq-eqb plate s.number n) (eq-eqb serial p.serial m)) in
    let h1 : Some f ≡ first_fault (samples_table xs area q.top) =
    subst (λ l. Some f ≡ first_fault (samples_table xs ((rectangle_or_none l).height * (rectangle_or_none l).width) q.top)) (sym o) h in
    let h2 : Some f ≡ first_fault rows = subst (λ l. Some f ≡ first_fault (samples_table xs area (plan_or_none l).top)) (sym e) h1 in
    sym (ap (λ b. cond (not b) (Some fault.WrongLease) (first_fault (rows ++ (row ∷ [])))) out ∙ first_in_front rows (row ∷ []) f (sym h2))
