-- What a list of calls on a plate over a tile file prints, and leaves in the file.
use Rattle.std.specs.Prelude.{◌≡◌, ℕ, cond, ◌&&◌, List, Some, None, Option, nat_le}
use Rattle.faults.specs.declared.fault.Fault.{Fault}
use Rattle.kernels.specs.declared.choice.KernelChoice.{KernelChoice}
use Rattle.kernels.specs.Choices.{choice_amounts, choice_code}
use Rattle.tile_bytes.specs.Layout.{tile_count, slots_end}
use Rattle.tiles.specs.Opening.{tile_fault}
use Rattle.tiles.specs.Formatting.{format_fault}
use Rattle.tiles.specs.Files.{file_picture, file_bits}
use Rattle.plates.specs.declared.calls.Turn.{Turn}
use Rattle.plates.specs.Shows.{View}
use Rattle.answers.specs.Lines.{fault_line}
use Rattle.scripts.specs.declared.script.Ending.{Ending}
use Rattle.workshop_job.specs.Performances.{Performed, blank_view}

-- A plate just made over the tile file in these bytes.
abbrev pub file_view : ℕ → KernelChoice → List ℕ → View
file_view n k xs = record {
  number = n;
  height = (file_picture xs).height;
  width = (file_picture xs).width;
  amounts = choice_amounts k;
  cells = (file_picture xs).number;
  bits = file_bits xs;
  plan = None;
  lease = None;
  serial = 0;
}

-- A list of calls on it: where the bytes are no tile file the fault is printed and no call is executed; otherwise the bytes ys show the
-- store as the last call left it.
pub data PerformedFile (n : ℕ) (k : KernelChoice) (xs : List ℕ) (ts us : List Turn) (es : List Ending) (text : List ℕ) : Option (List ℕ) → Type 0 where
  no_file : (f : Fault) → tile_fault xs ≡ Some f → us ≡ ts → text ≡ fault_line f → PerformedFile n k xs ts us es text None
  on_the_file : (ys : List ℕ) → tile_fault xs ≡ None → Performed (file_view n k xs) (choice_code k) ts us es (file_picture ys) (file_bits ys) text → PerformedFile n k xs ts us es text (Some ys)

-- How many bytes a file of these sides has; none where a side is too long for any.
abbrev pub new_length : ℕ → ℕ → ℕ
new_length R C = cond (nat_le R 4096 && nat_le C 4096) (slots_end (tile_count R C)) 0

-- The same on a plate over a new tile file of these sides, whose cells are 0 and whose bits are unset.
pub data PerformedNewFile (n : ℕ) (k : KernelChoice) (R C : ℕ) (ts us : List Turn) (es : List Ending) (text : List ℕ) : Option (List ℕ) → Type 0 where
  no_new_file : (f : Fault) → format_fault R C (new_length R C) ≡ Some f → us ≡ ts → text ≡ fault_line f → PerformedNewFile n k R C ts us es text None
  on_the_new_file : (ys : List ℕ) → format_fault R C (new_length R C) ≡ None → Performed (blank_view n k R C) (choice_code k) ts us es (file_picture ys) (file_bits ys) text
      → PerformedNewFile n k R C ts us es text (Some ys)
