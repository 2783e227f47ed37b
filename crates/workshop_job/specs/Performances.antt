-- What a list of calls on a plate prints.
use Rattle.std.specs.Prelude.{◌≡◌, ℕ, ◌*◌, Bool, false, cond, ◌&&◌, List, [], ◌++◌, pos, Some, None, nat_le}
use Rattle.faults.specs.declared.fault.Fault.{Fault}
use Rattle.planes.specs.Flat.{flat_fault}
use Rattle.planes.specs.Planes.{Cells, Picture}
use Rattle.kernels.specs.declared.choice.KernelChoice.{KernelChoice}
use Rattle.kernels.specs.Choices.{choice_amounts, choice_code}
use Rattle.plates.specs.declared.calls.Turn.{Turn}
use Rattle.plates.specs.Shows.{View, setting_of}
use Rattle.plates.specs.Runs.{Ran}
use Rattle.answers.specs.Lines.{fault_line, answer_lines}
use Rattle.answers.specs.Stores.{store_text}
use Rattle.scripts.specs.declared.script.Ending.{Ending}
use Rattle.workshop_job.specs.Endings.{endings_lines}

-- From a plate just made, v, whose kernel has that code, a list of calls ran: after every call nothing differed. The text has a line for
-- each answer, the sheets that were asked for, and the store as the last call left it.
pub record Performed (v : View) (code : ℕ) (ts us : List Turn) (es : List Ending) (p : Picture) (b : Cells Bool) (text : List ℕ) : Type 0 where
  pub last : View
  pub ran : Ran (setting_of v) [] v ts us last
  pub store_height : p.height ≡ last.height
  pub store_width : p.width ≡ last.width
  pub store_numbers : p.number ≡ last.cells
  pub store_bits : b ≡ last.bits
  pub prints : text ≡ (answer_lines us ++ endings_lines code last es) ++ store_text last.height last.width last.cells last.bits

-- How many records a store of these sides has; none where a side is too long for any.
abbrev pub records : ℕ → ℕ → ℕ
records R C = cond (nat_le R 4096 && nat_le C 4096) (R * C) 0

-- A plate just made over a store of these sides whose cells are 0 and whose bits are unset.
abbrev pub blank_view : ℕ → KernelChoice → ℕ → ℕ → View
blank_view n k R C = record {
  number = n;
  height = R;
  width = C;
  amounts = choice_amounts k;
  cells = λ r c. pos 0;
  bits = λ r c. false;
  plan = None;
  lease = None;
  serial = 0;
}

-- A list of calls on a plate over such a flat store: where none can be made the fault is printed and no call is executed.
pub data PerformedFlat (n : ℕ) (k : KernelChoice) (R C : ℕ) (ts us : List Turn) (es : List Ending) (text : List ℕ) : Type 0 where
  no_store : (f : Fault) → flat_fault R C (R * C) ≡ Some f → us ≡ ts → text ≡ fault_line f → PerformedFlat n k R C ts us es text
  on_the_store : (p : Picture) (b : Cells Bool) → flat_fault R C (R * C) ≡ None → Performed (blank_view n k R C) (choice_code k) ts us es p b text → PerformedFlat n k R C ts us es text
