-- What a tile file shows: the number and the change bit of each place.
use Rattle.std.specs.Prelude.{◌≡◌, ℕ, ◌*◌, ◌<◌, Bool, true, false, cond, ◌&&◌, ◌||◌, List, length, ℤ, pos, Ok, Err, Result, nat_lt, refl}
use Rattle.std.proofs.Common.{◌∙◌, true≢false}
use Rattle.faults.specs.declared.fault.Fault.{Fault}
use Rattle.faults.specs.declared.fault.Fault.TheVariants.{Outside}
use Rattle.planes.specs.Planes.{Cells, Picture}
use Rattle.tile_bytes.specs.Bytes.{byte}
use Rattle.tile_bytes.specs.Slots.{Zeroed, in_slots, holds_bits}
use Rattle.tile_bytes.specs.Layout.{tiles_along, tile_count, tile_of, cell_of, slot_of, slot_number, slot_bit, with_cell}
use Rattle.tiles.specs.Opening.{height, width, file_tiles}

-- what stands at a place of R × C and of its last tiles, up to their edge
abbrev pub number_at : ℕ → ℕ → List ℕ → Cells ℤ
number_at R C xs r c = slot_number (tile_count R C) xs (slot_of xs (tile_of C r c)) (cell_of r c)

abbrev pub bit_at : ℕ → ℕ → List ℕ → Cells Bool
bit_at R C xs r c = slot_bit (tile_count R C) xs (slot_of xs (tile_of C r c)) (cell_of r c)

-- and outside of R × C the number 0 and no bit
abbrev pub numbers_of : ℕ → ℕ → List ℕ → Cells ℤ
numbers_of R C xs r c = cond (nat_lt r R && nat_lt c C) (number_at R C xs r c) (pos 0)

abbrev pub bits_of : ℕ → ℕ → List ℕ → Cells Bool
bits_of R C xs r c = cond (nat_lt r R && nat_lt c C) (bit_at R C xs r c) false

abbrev pub picture_of : ℕ → ℕ → List ℕ → Picture
picture_of R C xs = record { height = R; width = C; number = numbers_of R C xs }

-- what the opened file shows
abbrev pub file_picture : List ℕ → Picture
file_picture xs = picture_of (height xs) (width xs) xs

abbrev pub file_bits : List ℕ → Cells Bool
file_bits xs = bits_of (height xs) (width xs) xs

-- what putting x at (r, c) of R × C makes of the bytes xs: inside its cell is written, outside there is the fault and no change
abbrev pub PutsCell : ℕ → ℕ → List ℕ → ℕ → ℕ → ℤ → List ℕ → Result (Unit {0}) Fault → Type 0
PutsCell R C xs r c x ys (Ok v) = (r < R) × (c < C) × (ys ≡ with_cell (tile_count R C) xs (slot_of xs (tile_of C r c)) (cell_of r c) x)
PutsCell R C xs r c x ys (Err e) = ((r < R) × (c < C) → ⊥) × (e ≡ Outside) × (ys ≡ xs)

-- the same of the opened file
abbrev pub PutsFile : List ℕ → ℕ → ℕ → ℤ → List ℕ → Result (Unit {0}) Fault → Type 0
PutsFile xs r c x ys o = PutsCell (height xs) (width xs) xs r c x ys o

-- from the bytes xs to ys the bytes of bits of every slot become 0, and all others stay
abbrev pub ClearsFile : List ℕ → List ℕ → Type 0
ClearsFile xs ys = Zeroed (holds_bits (file_tiles xs) (file_tiles xs)) xs ys

-- a place beyond the edge of R × C, in one of the last tiles
abbrev pub Beyond : ℕ → ℕ → ℕ → ℕ → Type 0
Beyond R C r c = (r < 16 * tiles_along R) × (c < 16 * tiles_along C) × ((nat_lt r R && nat_lt c C) ≡ false)

-- from the bytes xs to ys stays what lies under the store: the sides and the length, every byte outside the slots, and beyond the edge every
-- number and, where no clearing came between, every bit; with clearings no bit becomes set there
pub record FileFrame (cleared : Bool) (xs ys : List ℕ) : Type 0 where
  pub rows : height ys ≡ height xs
  pub columns : width ys ≡ width xs
  pub size : length ys ≡ length xs
  pub around : (k : ℕ) → in_slots (file_tiles xs) (file_tiles xs) k ≡ false → byte ys k ≡ byte xs k
  pub numbers : (r c : ℕ) → Beyond (height xs) (width xs) r c → number_at (height xs) (width xs) ys r c ≡ number_at (height xs) (width xs) xs r c
  pub bits : cleared ≡ false → (r c : ℕ) → Beyond (height xs) (width xs) r c → bit_at (height xs) (width xs) ys r c ≡ bit_at (height xs) (width xs) xs r c
  pub no_bit_set : (r c : ℕ) → Beyond (height xs) (width xs) r c → bit_at (height xs) (width xs) ys r c ≡ true → bit_at (height xs) (width xs) xs r c ≡ true

pub file_still : (cleared : Bool) (xs : List ℕ) → FileFrame cleared xs xs
file_still cleared xs = record {
  rows = refl;
  columns = refl;
  size = refl;
  around = λ k h. refl;
  numbers = λ r c h. refl;
  bits = λ e r c h. refl;
  no_bit_set = λ r c h t. t;
}

neither : (a b : Bool) → (a || b) ≡ false → (a ≡ false) × (b ≡ false)
neither true b h = absurd (true≢false h)
neither false b h = (refl, h)

-- the frame over the sides of xs, written over equal ones
moved : (late : Bool) (R C : ℕ) (ys zs : List ℕ) → height ys ≡ R → width ys ≡ C → FileFrame late ys zs
    → ((k : ℕ) → in_slots (tile_count R C) (tile_count R C) k ≡ false → byte zs k ≡ byte ys k)
    × ((r c : ℕ) → Beyond R C r c → number_at R C zs r c ≡ number_at R C ys r c)
    × (late ≡ false → (r c : ℕ) → Beyond R C r c → bit_at R C zs r c ≡ bit_at R C ys r c)
    × ((r c : ℕ) → Beyond R C r c → bit_at R C zs r c ≡ true → bit_at R C ys r c ≡ true)
moved late R C ys zs e f b = rw (← e, ← f) (b.around, b.numbers, b.bits, b.no_bit_set)

pub file_onward : (early late : Bool) (xs ys zs : List ℕ) → FileFrame early xs ys → FileFrame late ys zs → FileFrame (early || late) xs zs
file_onward early late xs ys zs a b =
    let m = moved late (height xs) (width xs) ys zs a.rows a.columns b in
    record {
      rows = b.rows ∙ a.rows;
      columns = b.columns ∙ a.columns;
      size = b.size ∙ a.size;
      around = λ k h. m.0 k h ∙ a.around k h;
      numbers = λ r c h. m.1 r c h ∙ a.numbers r c h;
      bits = λ e r c h. m.2 (neither early late e).1 r c h ∙ a.bits (neither early late e).0 r c h;
      no_bit_set = λ r c h t. a.no_bit_set r c h (m.3 r c h t);
    }
