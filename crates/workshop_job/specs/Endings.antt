-- What is printed after the last call.
use Rattle.std.specs.Prelude.{ℕ, min, List, [], Some, None, Option}
use Rattle.std.specs.List.{flat_map}
use Rattle.faults.specs.declared.fault.Fault.{Fault}
use Rattle.faults.specs.Tables.{first_fault}
use Rattle.plates.specs.Shows.{View}
use Rattle.plates.specs.Sheets.{own_sheet, sheet_table}
use Rattle.answers.specs.Lines.{fault_line}
use Rattle.scripts.specs.declared.script.Ending.{Ending}
use Rattle.scripts.specs.declared.script.Ending.TheVariants.{Sheet, Save}

-- The length of the output for a sheet: no sheet has more than 38 + 23 × 4,096 × 4,096 bytes.
abbrev pub sheet_room : ℕ → ℕ
sheet_room room = min room 385876006

-- A text, or the line of the fault in its place.
abbrev pub or_its_fault : Option Fault → List ℕ → List ℕ
or_its_fault None text = text
or_its_fault (Some f) text = fault_line f

-- The sheet of a plate whose kernel has that code, or why it is declined.
abbrev pub sheet_lines : ℕ → View → ℕ → ℕ → List ℕ
sheet_lines code v issue room = or_its_fault (first_fault (sheet_table v.plan (own_sheet issue code v) (sheet_room room))) (own_sheet issue code v)

-- A saving prints nothing.
abbrev pub ending_lines : ℕ → View → Ending → List ℕ
ending_lines code v (Sheet issue room) = sheet_lines code v issue room
ending_lines code v (Save path) = []

abbrev pub endings_lines : ℕ → View → List Ending → List ℕ
endings_lines code v es = flat_map (ending_lines code v) es
