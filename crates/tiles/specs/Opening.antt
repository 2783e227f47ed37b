-- What opening a tile file meets, and the sides that it then has.
use Rattle.std.specs.Prelude.{◌≡◌, ℕ, ◌<◌, ◌≤◌, Bool, cond, ◌||◌, List, [], ◌∷◌, length, is_some, None, Option, nat_eq, nat_le, nat_lt}
use Rattle.faults.specs.declared.fault.Fault.{Fault}
use Rattle.faults.specs.declared.fault.Fault.TheVariants.{Size, StoreShort, Slot}
use Rattle.faults.specs.declared.fault.Layer.TheVariants.{Plane}
use Rattle.faults.specs.Tables.{first_fault, first_index}
use Rattle.planes.specs.Flat.{bad_side}
use Rattle.tile_bytes.specs.Bytes.{word}
use Rattle.tile_bytes.specs.Layout.{tile_count, slots_end, slot_of}

-- the sides and the number of tiles that the head of a file says
abbrev pub rows_said : List ℕ → ℕ
rows_said xs = word xs 0

abbrev pub columns_said : List ℕ → ℕ
columns_said xs = word xs 2

abbrev pub tiles_said : List ℕ → ℕ
tiles_said xs = tile_count (rows_said xs) (columns_said xs)

-- the test holds at an index below n
abbrev pub occurs : (ℕ → Bool) → ℕ → Bool
occurs test n = nat_lt (first_index test n) n

-- slot number i is T or more, or repeats an earlier one
abbrev pub bad_slot : ℕ → List ℕ → ℕ → Bool
bad_slot T xs i = nat_le T (slot_of xs i) || occurs (λ k. nat_eq (slot_of xs k) (slot_of xs i)) i

abbrev pub first_bad_slot : ℕ → List ℕ → ℕ
first_bad_slot T xs = first_index (bad_slot T xs) T

-- what opening a file meets, in this order
abbrev pub opening_refusals : List ℕ → List (Bool × Fault)
opening_refusals xs =
    (nat_lt (length xs) 4, StoreShort)
    ∷ (bad_side (rows_said xs) || bad_side (columns_said xs), Size Plane)
    ∷ (nat_lt (length xs) (slots_end (tiles_said xs)), StoreShort)
    ∷ (nat_lt (first_bad_slot (tiles_said xs) xs) (tiles_said xs), Slot (first_bad_slot (tiles_said xs) xs))
    ∷ []

abbrev pub tile_fault : List ℕ → Option Fault
tile_fault xs = first_fault (opening_refusals xs)

-- the sides of the opened file, none where there is a fault, and its number of tiles
unfoldable pub height : List ℕ → ℕ
height xs = cond (is_some (tile_fault xs)) 0 (rows_said xs)

unfoldable pub width : List ℕ → ℕ
width xs = cond (is_some (tile_fault xs)) 0 (columns_said xs)

abbrev pub file_tiles : List ℕ → ℕ
file_tiles xs = tile_count (height xs) (width xs)

-- a file of R × C, each side from 1 to 4,096: its slots all lie in it, and each tile has a slot of its own
pub record Sound (R C : ℕ) (xs : List ℕ) : Type 0 where
  pub some_rows : 0 < R
  pub some_columns : 0 < C
  pub rows_few : R ≤ 4096
  pub columns_few : C ≤ 4096
  pub room : slots_end (tile_count R C) ≤ length xs
  pub below : (t : ℕ) → t < tile_count R C → slot_of xs t < tile_count R C
  pub apart : (t u : ℕ) → t < tile_count R C → u < tile_count R C → slot_of xs t ≡ slot_of xs u → t ≡ u

-- where opening meets no fault the file is that, of the sides in its head
abbrev pub AnOpenedFileIsSound : Type 0
AnOpenedFileIsSound = (xs : List ℕ) → tile_fault xs ≡ None → (height xs ≡ rows_said xs) × (width xs ≡ columns_said xs) × Sound (rows_said xs) (columns_said xs) xs
