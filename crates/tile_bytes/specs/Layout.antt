-- Where the cells of a plate of R × C lie in a tile file.
use Rattle.std.specs.Prelude.{◌≡◌, ℕ, ◌+◌, ◌*◌, ◌/◌, ◌%◌, ◌<◌, ◌≤◌, Bool, true, false, ◌⊎◌, List, length, ℤ, FitsSigned, ◌≢◌}
use Rattle.std.proofs.Common.{of_z}
use Rattle.std.specs.Int.{w32}
use Rattle.frames.specs.Frames.{four_bytes}
use Rattle.tile_bytes.specs.Bytes.{byte, word, number, with_four}
use Rattle.tile_bytes.specs.Bits.{bit, with_mark, without_mark}

-- tiles of 16 places along a side
abbrev pub tiles_along : ℕ → ℕ
tiles_along n = (n + 15) / 16

abbrev pub tile_count : ℕ → ℕ → ℕ
tile_count R C = tiles_along R * tiles_along C

-- the tile of a place, tiles counted row by row, and the cell of the tile
abbrev pub tile_of : ℕ → ℕ → ℕ → ℕ
tile_of C r c = r / 16 * tiles_along C + c / 16

abbrev pub cell_of : ℕ → ℕ → ℕ
cell_of r c = r % 16 * 16 + c % 16

-- the slot number of tile t
abbrev pub slot_of : List ℕ → ℕ → ℕ
slot_of xs t = word xs (4 + 2 * t)

-- where slot s starts in a file of T tiles, and where the file's last slot ends
abbrev pub slot_start : ℕ → ℕ → ℕ
slot_start T s = 4 + 2 * T + 1056 * s

abbrev pub slots_end : ℕ → ℕ
slots_end T = 4 + 2 * T + 1056 * T

-- the number and the bit of cell m in slot s
abbrev pub slot_number : ℕ → List ℕ → ℕ → ℕ → ℤ
slot_number T xs s m = number xs (slot_start T s + 4 * m)

abbrev pub slot_bit : ℕ → List ℕ → ℕ → ℕ → Bool
slot_bit T xs s m = bit xs (slot_start T s + 1024) m

-- the bytes with the number x at cell m of slot s, and its bit set
abbrev pub with_cell : ℕ → List ℕ → ℕ → ℕ → ℤ → List ℕ
with_cell T xs s m x = with_mark (with_four xs (slot_start T s + 4 * m) (four_bytes (of_z w32 x))) (slot_start T s + 1024) m

-- the bytes with the bit of cell m of slot s unset
abbrev pub without_cell_bit : ℕ → List ℕ → ℕ → ℕ → List ℕ
without_cell_bit T xs s m = without_mark xs (slot_start T s + 1024) m

-- from the bytes xs to ys at most cell m of slot s changes: every other number and bit stays, and so does every byte outside the slot
pub record OneCell (T s m : ℕ) (xs ys : List ℕ) : Type 0 where
  pub size : length ys ≡ length xs
  pub numbers : (i n : ℕ) → n < 256 → (i ≡ s → n ≢ m) → slot_number T ys i n ≡ slot_number T xs i n
  pub bits : (i n : ℕ) → n < 256 → (i ≡ s → n ≢ m) → slot_bit T ys i n ≡ slot_bit T xs i n
  pub around : (k : ℕ) → (k < slot_start T s) ⊎ (slot_start T s + 1056 ≤ k) → byte ys k ≡ byte xs k

-- what putting a number into a cell and unsetting its bit do, where the slot is among the bytes
abbrev pub PutChangesOneCell : Type 0
PutChangesOneCell =
    (T s m : ℕ) (x : ℤ) (xs : List ℕ) → FitsSigned w32 x → m < 256 → slot_start T s + 1056 ≤ length xs
    → (slot_number T (with_cell T xs s m x) s m ≡ x) × (slot_bit T (with_cell T xs s m x) s m ≡ true) × OneCell T s m xs (with_cell T xs s m x)

abbrev pub UnsetChangesOneBit : Type 0
UnsetChangesOneBit =
    (T s m : ℕ) (xs : List ℕ) → m < 256 → slot_start T s + 1056 ≤ length xs
    → (slot_number T (without_cell_bit T xs s m) s m ≡ slot_number T xs s m) × (slot_bit T (without_cell_bit T xs s m) s m ≡ false) × OneCell T s m xs (without_cell_bit T xs s m)
