-- Formatting a tile file.
use Rattle.std.specs.Prelude.{◌≡◌, ℕ, ◌+◌, ◌*◌, ◌<◌, ◌≤◌, Bool, true, ◌||◌, ◌⊎◌, List, [], ◌∷◌, length, pos, Some, None, Ok, Err, Option, Result, nat_lt}
use Rattle.faults.specs.declared.fault.Fault.{Fault}
use Rattle.faults.specs.declared.fault.Fault.TheVariants.{Size, StoreShort}
use Rattle.faults.specs.declared.fault.Layer.TheVariants.{Plane}
use Rattle.faults.specs.Tables.{first_fault}
use Rattle.planes.specs.Planes.{unmarked}
use Rattle.planes.specs.Flat.{bad_side}
use Rattle.tile_bytes.specs.declared.sides.Sides.{Sides}
use Rattle.tile_bytes.specs.Bytes.{byte}
use Rattle.tile_bytes.specs.Layout.{tile_count, slots_end, slot_of}
use Rattle.tile_bytes.specs.Slots.{in_slots}
use Rattle.tiles.specs.Opening.{rows_said, columns_said}
use Rattle.tiles.specs.Files.{file_picture, file_bits}

-- what formatting L bytes for R × C meets, in this order
abbrev pub formatting_refusals : ℕ → ℕ → ℕ → List (Bool × Fault)
formatting_refusals R C L =
    (bad_side R || bad_side C, Size Plane)
    ∷ (nat_lt L (slots_end (tile_count R C)), StoreShort)
    ∷ []

abbrev pub format_fault : ℕ → ℕ → ℕ → Option Fault
format_fault R C L = first_fault (formatting_refusals R C L)

-- the sides R and C where there is no fault, and otherwise the fault
abbrev pub Judged : ℕ → ℕ → ℕ → Result Sides Fault → Type 0
Judged R C L (Ok s) = (format_fault R C L ≡ None) × (s.rows ≡ R) × (s.columns ≡ C) × (R ≤ 4096) × (C ≤ 4096) × (slots_end (tile_count R C) ≤ L)
Judged R C L (Err e) = format_fault R C L ≡ Some e

-- from the bytes xs to ys the first n tiles get the slots of their own numbers, and the bytes outside these slot numbers stay
pub record Numbered (n : ℕ) (xs ys : List ℕ) : Type 0 where
  pub size : length ys ≡ length xs
  pub slots : (t : ℕ) → t < n → slot_of ys t ≡ t
  pub others : (k : ℕ) → (k < 4) ⊎ (4 + 2 * n ≤ k) → byte ys k ≡ byte xs k

-- from the bytes xs to ys: the sides, for each tile the slot of its number, slots of zeros, and the bytes after the last slot as they were
pub record Formatted (R C : ℕ) (xs ys : List ℕ) : Type 0 where
  pub size : length ys ≡ length xs
  pub rows : rows_said ys ≡ R
  pub columns : columns_said ys ≡ C
  pub slots : (t : ℕ) → t < tile_count R C → slot_of ys t ≡ t
  pub zeros : (k : ℕ) → in_slots (tile_count R C) (tile_count R C) k ≡ true → byte ys k ≡ 0
  pub beyond : (k : ℕ) → slots_end (tile_count R C) ≤ k → byte ys k ≡ byte xs k

-- the bytes are formatted, or there is the fault and no change
abbrev pub Formats : ℕ → ℕ → List ℕ → List ℕ → Result (Unit {0}) Fault → Type 0
Formats R C xs ys (Ok v) = (format_fault R C (length xs) ≡ None) × Formatted R C xs ys
Formats R C xs ys (Err e) = (format_fault R C (length xs) ≡ Some e) × (ys ≡ xs)

-- a formatted file, opened, has these sides, every number 0 and no bit set
abbrev pub AFormattedFileIsBlank : Type 0
AFormattedFileIsBlank =
    (R C : ℕ) (xs ys : List ℕ) → format_fault R C (length xs) ≡ None → Formatted R C xs ys
    → (file_picture ys ≡ record { height = R; width = C; number = λ r c. pos 0 }) × (file_bits ys ≡ unmarked)
