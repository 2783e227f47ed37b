-- A picture that was read can be laid.
use Rattle.std.proofs.Common.{◌≡◌, ℕ, ◌*◌, ◌^◌, ◌<◌, ◌≤◌, Bool, true, false, cond, not, ◌&&◌, ltb, leb, List, length, get_or, take, is_some, IfOk, Ok, Result, sym, ap, ◌∙◌, subst, ⊎_elim, arith}
use Rattle.std.proofs.lemmas.List.{length-take-le, get_or-take}
use Rattle.std.proofs.lemmas.Bool.{leb-true, ltb-false, le-leb, le-ltb, and_parts, and_from, cases_lt, false≢true}
use Rattle.faults.specs.declared.fault.Fault.{Fault}
use Rattle.faults.specs.Tables.{first_index}
use Rattle.faults.proofs.FirstIndex.{holds_there, fails_before}
use Rattle.pgm.specs.declared.read.Picture.{Picture}
use Rattle.pgm.specs.Reading.{is_side, is_top, sample, checks, Reads, no_header, declined, taken}
use Rattle.planes.specs.Rowwise.{usable}
use Rattle.planes.specs.Flat.{flat_fault, made_side}
use Rattle.wavelets.specs.Lifting.{within_budget}
use Rattle.model.specs.declared.plan.Plan.{Plan}
use Rattle.model.specs.Calls.{samples_of}
use Rattle.model.specs.Plain.{first_over}
use Rattle.plates.specs.Plans.{lawful_plan}
use Rattle.plates.proofs.Passing.{passed, not_false}
use Rattle.plates.proofs.Samples.{over}
use Rattle.plates.proofs.Settling.{lawful_parts, can_be_made}
use Rattle.sheet_job.specs.Reports.{plan_of}

-- what is known of a picture that was read into room for 2,048 samples
pub record LaidWell (p : Picture) (samples : List ℕ) : Type 0 where
  pub lawful : lawful_plan (plan_of p) ≡ true
  pub few : p.rows * p.columns ≤ 2048
  pub count : length (take (p.rows * p.columns) samples) ≡ p.rows * p.columns
  pub none_over : ltb (first_over p.top (samples_of (take (p.rows * p.columns) samples))) (length (take (p.rows * p.columns) samples)) ≡ false

lawful_picture : (w h p : ℕ) → not (is_side w && is_side h) ≡ false → not (is_top p) ≡ false → lawful_plan (plan_of (record { columns = w; rows = h; top = p })) ≡ true
lawful_picture w h p a b =
    let sides = and_parts (is_side w) (is_side h) (not_false _ a) in
    let top = and_parts (leb 1 p) (leb p 65535) (not_false _ b) in
    let budget : within_budget p 2 ≡ true = le-leb (p * 9 ^ 2) 2147483647 (omega (arith, leb-true p 65535 top.1)) in
    and_from (is_side h && is_side w) _ (and_from (is_side h) (is_side w) sides.1 sides.0) (and_from (is_top p) (within_budget p 2) (not_false _ b) budget)

-- no sample is over the top
is_not_over : (top : ℕ) (xs : List ℕ) (i : ℕ) → get_or xs i 0 ≤ top → over top xs i ≡ false
is_not_over top xs i h = ap not (le-leb (get_or xs i 0) top h)

none_is_over : (p m : ℕ) (samples : List ℕ) → length (take m samples) ≡ m → ((k : ℕ) → k < m → get_or samples k 0 ≤ p)
    → ltb (first_over p (samples_of (take m samples))) (length (take m samples)) ≡ false
none_is_over p m samples l small =
    let test : ℕ → Bool = over p (take m samples) in
    let n = length (take m samples) in
    let k = first_index test n in
    le-ltb k n (⊎_elim
    (λ h. absurd (false≢true (sym (is_not_over p (take m samples) k (subst (λ z. z ≤ p) (sym (get_or-take m samples k 0 (omega (arith, l, h)))) (small k (omega (arith, l, h))))) ∙ holds_there test n h)))
    (λ h. h) (cases_lt k n))

-- a picture that was read
reads_well : (xs was samples : List ℕ) (r : Result Picture Fault) → length was ≡ 2048 → length samples ≡ 2048 → Reads xs was r samples → IfOk r (λ p. LaidWell p samples)
reads_well xs was samples _ a b (no_header i u) = tt
reads_well xs was samples _ a b (declined w h p n f u e) = tt
reads_well xs was samples _ a b (taken w h p n now u e f) =
    let rows = passed (checks xs w h p n (length was)) e in
    let few : h * w ≤ 2048 = omega (arith, a, ltb-false (length was) (h * w) rows.1.1.1.0) in
    let count : length (take (h * w) samples) ≡ h * w = length-take-le (h * w) samples (omega (arith, b, few)) in
    let over_top : ℕ → Bool = λ k. ltb p (sample xs n p k) in
    let all : h * w ≤ first_index over_top (h * w) = ltb-false (first_index over_top (h * w)) (h * w) rows.1.1.1.1.0 in
    record {
      lawful = lawful_picture w h p rows.0 rows.1.0;
      few = few;
      count = count;
      none_over = none_is_over p (h * w) samples count (λ k l. subst (λ z. z ≤ p) (sym (f.samples k l)) (ltb-false p (sample xs n p k) (fails_before over_top (h * w) k (omega (arith, all, l)))));
    }

pub picture_well : (xs was samples : List ℕ) (p : Picture) → length was ≡ 2048 → length samples ≡ 2048 → Reads xs was (Ok p) samples → LaidWell p samples
picture_well xs was samples p a b r = reads_well xs was samples (Ok p) a b r

-- what laying it asks
pub record Ready (q : Plan) (ys : List ℕ) : Type 0 where
  pub lawful : lawful_plan q ≡ true
  pub few : q.rows * q.columns ≤ 2048
  pub count : length ys ≡ q.rows * q.columns
  pub none_over : ltb (first_over q.top (samples_of ys)) (length ys) ≡ false

pub ready : (p : Picture) (samples : List ℕ) → LaidWell p samples → (q : Plan) → q ≡ plan_of p → (ys : List ℕ) → ys ≡ take (p.rows * p.columns) samples → Ready q ys
ready p samples w q e ys f =
    subst (λ z. Ready z ys) (sym e) (subst (Ready (plan_of p)) (sym f) (record { lawful = w.lawful; few = w.few; count = w.count; none_over = w.none_over }))

-- a flat store over enough records has the plan's sides
pub flat_sides : (q : Plan) (rows columns L m : ℕ) → lawful_plan q ≡ true → q.rows * q.columns ≤ L → rows ≡ made_side q.rows q.columns L q.rows → columns ≡ made_side q.rows q.columns L q.columns
    → m ≡ L → (usable rows columns m rows ≡ q.rows) × (usable rows columns m columns ≡ q.columns)
flat_sides q rows columns L m law h a b e =
    let no_fault : is_some (flat_fault q.rows q.columns L) ≡ false = can_be_made q L (lawful_parts q law) h in
    let high : rows ≡ q.rows = a ∙ ap (λ t. cond t 0 q.rows) no_fault in
    let wide : columns ≡ q.columns = b ∙ ap (λ t. cond t 0 q.columns) no_fault in
    let fits : leb (q.rows * q.columns) L ≡ true = le-leb (q.rows * q.columns) L h in (
      (λ i. cond (leb (high i * wide i) (e i)) (high i) 0) ∙ ap (λ t. cond t q.rows 0) fits,
      (λ i. cond (leb (high i * wide i) (e i)) (wide i) 0) ∙ ap (λ t. cond t q.columns 0) fits,
    )
