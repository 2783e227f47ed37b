-- From what reading and writing answered to the text that is reported.
use Rattle.std.proofs.Common.{◌≡◌, ℕ, ◌*◌, ◌≤◌, true, List, length, take, replicate, IfOk, Ok, Err, Result, sym, ap, ◌∙◌, subst, arith, MatchResult}
use Rattle.std.proofs.lemmas.List.{take_at}
use Rattle.faults.specs.declared.fault.Fault.{Fault}
use Rattle.frames.specs.Frames.{frame_line, fault_frame, over}
use Rattle.pgm.specs.declared.read.Picture.{Picture}
use Rattle.pgm.specs.Reading.{Reads}
use Rattle.sheets.proofs.Sizes.{length_at_most}
use Rattle.wavelets.specs.Lifting.{five_three, forward}
use Rattle.overlays.specs.Samples.{samples_at, pictured}
use Rattle.model.specs.declared.plan.Plan.{Plan}
use Rattle.plates.specs.Sheets.{head_of}
use Rattle.sheet_job.specs.Reports.{laid_sheet, plan_of, picture_sheet, Wrote, SheetOrFault, a_fault, a_sheet, Reports, a_faults_line, a_pictures_sheet}

-- the front of a file, read
module _ (xs ys was : List ℕ) (front : ys ≡ take 8192 xs) where
  pub fault_told : (samples : List ℕ) (f : Fault) (r : Result ℕ Fault) → Reads ys (replicate 2048 0) (Err f) samples → r ≡ Err f → SheetOrFault xs was was r
  fault_told samples f r reads e =
      subst (SheetOrFault xs was was) (sym e) (a_fault f samples (subst (λ z. Reads z (replicate 2048 0) (Err f) samples) front reads))

  pub sheet_told : (samples now zs : List ℕ) (p : Picture) (q : Plan) (r : Result ℕ Fault) → Reads ys (replicate 2048 0) (Ok p) samples
      → q ≡ plan_of p → zs ≡ take (p.rows * p.columns) samples → Wrote (laid_sheet q zs) was now r → SheetOrFault xs was now r
  sheet_told samples now zs p q (Ok n) reads e f w =
      let same : laid_sheet q zs ≡ picture_sheet p samples = λ i. laid_sheet (e i) (f i) in
      subst (λ z. SheetOrFault xs was now (Ok z)) (sym (w.0 ∙ ap length same))
      (subst (λ z. SheetOrFault xs was z (Ok (length (picture_sheet p samples)))) (sym (w.1 ∙ ap (over was 0) same))
      (a_sheet p samples (subst (λ z. Reads z (replicate 2048 0) (Ok p) samples) front reads)))
  sheet_told samples now zs p q (Err f) reads e g w = absurd w

-- a sheet of at most 2,048 cells
pub not_longer : (q : Plan) (zs was now : List ℕ) (r : Result ℕ Fault) → q.rows * q.columns ≤ 2048 → Wrote (laid_sheet q zs) was now r → IfOk r (λ n. n ≤ 47142)
not_longer q zs was now (Ok n) h w =
    omega (arith, w.0, length_at_most (head_of 1 1 q) q.rows q.columns (forward five_three q.rows q.columns q.levels (pictured q.columns (samples_at zs))) (λ r c. true))
not_longer q zs was now (Err f) h w = absurd w

-- the text that is reported
front_of : (was text : List ℕ) (n : ℕ) → n ≡ length text → take n (over was 0 text) ≡ text
unfolding over
front_of was text n e = take_at text _ n (sym e)

reported : (xs was out : List ℕ) (r : Result ℕ Fault) → SheetOrFault xs was out r
    → MatchResult r (λ n. (m : ℕ) (text : List ℕ) → m ≡ n → text ≡ take m out → Reports xs text) (λ f. (text : List ℕ) → text ≡ frame_line (fault_frame f) → Reports xs text)
reported xs was _ _ (a_fault f samples reads) = λ text e. subst (Reports xs) (sym e) (a_faults_line f samples reads)
reported xs was _ _ (a_sheet p samples reads) =
    λ m text l e. subst (Reports xs) (sym (e ∙ front_of was (picture_sheet p samples) m l)) (a_pictures_sheet p samples reads)

pub sheet_reported : (xs was out : List ℕ) (n m : ℕ) (text : List ℕ) → SheetOrFault xs was out (Ok n) → m ≡ n → text ≡ take m out → Reports xs text
sheet_reported xs was out n m text h l e = reported xs was out (Ok n) h m text l e

pub fault_reported : (xs was out : List ℕ) (f : Fault) (text : List ℕ) → SheetOrFault xs was out (Err f) → text ≡ frame_line (fault_frame f) → Reports xs text
fault_reported xs was out f text h e = reported xs was out (Err f) h text e
