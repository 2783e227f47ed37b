-- The sheet of a plate, and why it is declined.
use Rattle.std.specs.Prelude.{◌≡◌, ℕ, Bool, false, not, List, [], ◌∷◌, length, is_some, is_ok, IfOk, Option, Result, nat_lt}
use Rattle.faults.specs.declared.fault.Fault.{Fault}
use Rattle.faults.specs.declared.fault.Fault.TheVariants.{Unlaid, OutputShort}
use Rattle.faults.specs.declared.fault.Layer.TheVariants.{Plate}
use Rattle.faults.specs.Tables.{first_fault}
use Rattle.frames.specs.Frames.{over}
use Rattle.sheets.specs.declared.frame.Head.{Head}
use Rattle.sheets.specs.Sheets.{sheet_text}
use Rattle.model.specs.declared.plan.Plan.{Plan}
use Rattle.model.specs.Plain.{Setting, Plain, plan_or_none, cells_of}
use Rattle.plates.specs.Shows.{View, fault_in}

-- What a sheet says of a plate: the issue, the plan and the kernel's code.
abbrev pub head_of : ℕ → ℕ → Plan → Head
head_of issue code q = record { issue = issue; rows = q.rows; columns = q.columns; top = q.top; levels = q.levels; code = code }

-- The sheet of what a plate holds, and that of a plain plate: of a fresh transform of its edited picture, and of its bits.
abbrev pub own_sheet : ℕ → ℕ → View → List ℕ
own_sheet issue code v = sheet_text (head_of issue code (plan_or_none v.plan)) v.height v.width v.cells v.bits

abbrev pub plain_sheet : ℕ → ℕ → Setting → Plain → List ℕ
plain_sheet issue code s p = sheet_text (head_of issue code (plan_or_none p.plan)) s.height s.width (cells_of s p) p.bits

-- Why a sheet is declined: the plate is unlaid, or the output has no room for it.
abbrev pub sheet_table : Option Plan → List ℕ → ℕ → List (Bool × Fault)
sheet_table plan text room =
    (not (is_some plan), Unlaid)
    ∷ (nat_lt room (length text), OutputShort Plate)
    ∷ []

-- A sheet is asked for: declined by the table, and then the output is as it was; otherwise its front is exactly the sheet, whose length is
-- answered, and the rest is as it was.
pub record Sheeted (plan : Option Plan) (text was now : List ℕ) (r : Result ℕ Fault) : Type 0 where
  pub declines_by_the_table : fault_in r ≡ first_fault (sheet_table plan text (length was))
  pub declined_leaves_the_output : is_ok r ≡ false → now ≡ was
  pub writes_the_sheet : IfOk r (λ n. (n ≡ length text) × (now ≡ over was 0 text))
