-- What the program writes for the bytes of a file.
use Rattle.std.specs.Prelude.{◌≡◌, ℕ, ◌*◌, true, List, length, take, replicate, Ok, Err, Result}
use Rattle.faults.specs.declared.fault.Fault.{Fault}
use Rattle.frames.specs.Frames.{frame_line, fault_frame, over}
use Rattle.pgm.specs.declared.read.Picture.{Picture}
use Rattle.pgm.specs.Reading.{Reads}
use Rattle.sheets.specs.Sheets.{sheet_text}
use Rattle.wavelets.specs.Lifting.{five_three, forward}
use Rattle.overlays.specs.Samples.{samples_at, pictured}
use Rattle.model.specs.declared.plan.Plan.{Plan}
use Rattle.plates.specs.Sheets.{head_of}

-- the sheet of issue 1 of all cells of the 5/3 transform of samples, which stand row by row
abbrev pub laid_sheet : Plan → List ℕ → List ℕ
laid_sheet q samples = sheet_text (head_of 1 1 q) q.rows q.columns (forward five_three q.rows q.columns q.levels (pictured q.columns (samples_at samples))) (λ r c. true)

-- a picture is laid at two levels
abbrev pub plan_of : Picture → Plan
plan_of p = record { rows = p.rows; columns = p.columns; top = p.top; levels = 2 }

-- the sheet of a picture whose samples stand in the front of a buffer
abbrev pub picture_sheet : Picture → List ℕ → List ℕ
picture_sheet p samples = laid_sheet (plan_of p) (take (p.rows * p.columns) samples)

-- a text was written into the front of an output, and nothing was declined
abbrev pub Wrote : List ℕ → List ℕ → List ℕ → Result ℕ Fault → Type 0
Wrote text was now (Ok n) = (n ≡ length text) × (now ≡ over was 0 text)
Wrote text was now (Err f) = ⊥

-- the file's first 8,192 bytes are read into room for 2,048 samples; then reading's own fault is answered, and no other, or the picture's sheet
-- is in the front of the output
pub data SheetOrFault (xs was : List ℕ) : List ℕ → Result ℕ Fault → Type 0 where
  a_fault : (f : Fault) (samples : List ℕ) → Reads (take 8192 xs) (replicate 2048 0) (Err f) samples → SheetOrFault xs was was (Err f)
  a_sheet : (p : Picture) (samples : List ℕ) → Reads (take 8192 xs) (replicate 2048 0) (Ok p) samples
      → SheetOrFault xs was (over was 0 (picture_sheet p samples)) (Ok (length (picture_sheet p samples)))

-- the text: the fault's line, or the sheet
pub data Reports (xs : List ℕ) : List ℕ → Type 0 where
  a_faults_line : (f : Fault) (samples : List ℕ) → Reads (take 8192 xs) (replicate 2048 0) (Err f) samples → Reports xs (frame_line (fault_frame f))
  a_pictures_sheet : (p : Picture) (samples : List ℕ) → Reads (take 8192 xs) (replicate 2048 0) (Ok p) samples → Reports xs (picture_sheet p samples)
