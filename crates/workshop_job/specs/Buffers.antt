-- Buffers longer than any plate needs.
use Rattle.std.specs.Prelude.{◌≡◌, ℕ, ◌≤◌, min, List}
use Rattle.faults.specs.Tables.{first_fault}
use Rattle.planes.specs.declared.rectangle.Rectangle.{Rectangle}
use Rattle.model.specs.declared.card.Card.{Card}
use Rattle.model.specs.Calls.{Numbers, Call, settling, previewing}
use Rattle.model.specs.Plain.{Setting, why}
use Rattle.model.specs.Laws.{after_history}
use Rattle.plates.specs.Shows.{View}
use Rattle.plates.specs.Sheets.{own_sheet, sheet_table}
use Rattle.workshop_job.specs.Endings.{sheet_room}

-- A length that is cut to 4,096 × 4,096, the area of the largest plate.
abbrev pub enough : ℕ → ℕ
enough n = min n 16777216

-- After any list of calls on a plate just made, a settlement or a preview with buffers so cut is accepted or declined as with the whole ones.
pub record DecidesByCutBuffers (s : Setting) (h : List Call) : Type 0 where
  pub settlements : (plate serial : ℕ) (xs : Numbers) (records : ℕ)
      → why s (after_history s h) (settling plate serial xs (enough records)) ≡ why s (after_history s h) (settling plate serial xs records)
  pub previews : (card : Card) (a : Rectangle) (records room : ℕ)
      → why s (after_history s h) (previewing card a (enough records) (enough room)) ≡ why s (after_history s h) (previewing card a records room)

abbrev pub LongerBuffersChangeNoVerdict : Type 0
LongerBuffersChangeNoVerdict = (s : Setting) (h : List Call) → DecidesByCutBuffers s h

-- A plate of sides up to 4,096 writes or declines its sheet with an output so cut as with the whole one.
abbrev pub LongerOutputsChangeNoSheet : Type 0
LongerOutputsChangeNoSheet =
    (v : View) (issue code room : ℕ) → v.height ≤ 4096 → v.width ≤ 4096
    → first_fault (sheet_table v.plan (own_sheet issue code v) (sheet_room room)) ≡ first_fault (sheet_table v.plan (own_sheet issue code v) room)
