-- Putting into an opened file and clearing it, as every store does.
use Rattle.std.proofs.Common.{◌≡◌, ℕ, ◌*◌, ◌<◌, true, false, List, ℤ, pos, Ok, Err, Result, sym, ap, ◌∙◌, arith, w32, SFits}
use mathlib.Core.Path.{transport, fun_ext}
use Rattle.std.proofs.lemmas.Bool.{both_ways, true≢false}
use Rattle.faults.specs.declared.fault.Fault.{Fault}
use Rattle.planes.specs.Planes.{Cells, unmarked, PutsNumber, PutsBit}
use Rattle.planes.proofs.Pictures.{same_picture}
use Rattle.tile_bytes.specs.Layout.{tiles_along, tile_count, tile_of, cell_of, slot_of, slot_number, slot_bit}
use Rattle.tile_bytes.specs.Slots.{Zeroed, holds_bits}
use Rattle.tile_bytes.proofs.ClearedSlots.{cleared_around, cleared_number, cleared_bit}
use Rattle.tiles.specs.Opening.{height, width, file_tiles}
use Rattle.tiles.specs.Files.{number_at, bit_at, numbers_of, bits_of, file_picture, file_bits, PutsCell, PutsFile, ClearsFile, Beyond, FileFrame, file_still}
use Rattle.tiles.proofs.Opened.{sound_opened}
use Rattle.tiles.proofs.SameHead.{before_slots, same_slot, sides_stay}
use Rattle.tiles.proofs.Putting.{inside, either_way, tile_below, cell_below, within_tiles, put_around, put_size, number_stays, bit_stays, numbers_put, bits_put, edge_apart}

-- pictures of files with the same sides
same_shown : (R C : ℕ) (n : Cells ℤ) (ys : List ℕ) → height ys ≡ R → width ys ≡ C → numbers_of R C ys ≡ n
    → file_picture ys ≡ record { height = R; width = C; number = n }
same_shown R C n ys e f g = same_picture (height ys) R (width ys) C _ n e f ((λ i. numbers_of (e i) (f i) ys) ∙ g)

-- what a put leaves, at each of its results
pub record StorePut (xs : List ℕ) (r c : ℕ) (x : ℤ) (ys : List ℕ) (o : Result (Unit {0}) Fault) : Type 0 where
  pub rows : height ys ≡ height xs
  pub columns : width ys ≡ width xs
  pub number : PutsNumber (file_picture xs) r c x (file_picture ys) o
  pub bit : PutsBit (file_picture xs) (file_bits xs) r c (file_bits ys) o
  pub frame : FileFrame false xs ys
  pub cell : PutsFile xs r c x ys o

store_put : (xs : List ℕ) (r c : ℕ) (x : ℤ) (ys : List ℕ) (o : Result (Unit {0}) Fault) → SFits w32 x → PutsCell (height xs) (width xs) xs r c x ys o → StorePut xs r c x ys o
store_put xs r c x ys (Ok v) f p =
    let R = height xs in let C = width xs in
    let sound = sound_opened xs r p.0 in
    let around = put_around R C xs ys r c x f sound p.0 p.1 p.2 in
    let size = put_size R C xs ys r c x f sound p.0 p.1 p.2 in
    let sides = sides_stay xs ys size around in
    let edge = edge_apart R C xs ys r c x f sound p.0 p.1 p.2 in
    let bits : (i j : ℕ) → Beyond R C i j → bit_at R C ys i j ≡ bit_at R C xs i j = (λ i j h. bit_stays R C xs ys r c x f sound p.0 p.1 p.2 i j h.0 h.1 (edge i j h)) in
    record {
      rows = sides.0;
      columns = sides.1;
      number = ((p.0, p.1), same_shown R C _ ys sides.0 sides.1 (numbers_put R C xs ys r c x f sound p.0 p.1 p.2));
      bit = ((p.0, p.1), (λ i. bits_of (sides.0 i) (sides.1 i) ys) ∙ bits_put R C xs ys r c x f sound p.0 p.1 p.2);
      frame = record {
        rows = sides.0;
        columns = sides.1;
        size = size;
        around = around;
        numbers = λ i j h. number_stays R C xs ys r c x f sound p.0 p.1 p.2 i j h.0 h.1 (edge i j h);
        bits = λ e i j h. bits i j h;
        no_bit_set = λ i j h t. sym (bits i j h) ∙ t;
      };
      cell = p;
    }
store_put xs r c x ys (Err e) f p = record {
  rows = ap height p.2;
  columns = ap width p.2;
  number = (p.0, p.1, ap file_picture p.2);
  bit = (p.0, p.1, ap file_bits p.2);
  frame = rw p.2 (file_still false xs);
  cell = p;
}

-- the same of equal lists, with the sides that the file holds
pub put_through : (xs xs' : List ℕ) (R C r c : ℕ) (x x' : ℤ) (ys zs : List ℕ) (o : Result (Unit {0}) Fault) → R ≡ height xs → C ≡ width xs → xs' ≡ xs → x' ≡ x → zs ≡ ys → SFits w32 x
    → PutsCell R C xs' r c x' ys o → StorePut xs r c x zs o
put_through xs xs' R C r c x x' ys zs o e g d n q f p =
    let p' : PutsCell (height xs) (width xs) xs r c x ys o = transport (λ i. PutsCell (e i) (g i) (d i) r c (n i) ys o) p in
    rw q (store_put xs r c x ys o f p')

-- what a clearing leaves
pub record StoreCleared (xs ys : List ℕ) : Type 0 where
  pub rows : height ys ≡ height xs
  pub columns : width ys ≡ width xs
  pub picture : file_picture ys ≡ file_picture xs
  pub bits : file_bits ys ≡ unmarked
  pub frame : FileFrame true xs ys
  pub zeros : ClearsFile xs ys

module _ (xs ys : List ℕ) (z : Zeroed (holds_bits (file_tiles xs) (file_tiles xs)) xs ys) where
  sides : (height ys ≡ height xs) × (width ys ≡ width xs)
  sides = sides_stay xs ys z.size (cleared_around (file_tiles xs) xs ys z)

  slot_stays : (t : ℕ) → t < file_tiles xs → slot_of ys t ≡ slot_of xs t
  slot_stays = same_slot xs ys z.size (file_tiles xs) (λ k h. cleared_around (file_tiles xs) xs ys z k (before_slots (file_tiles xs) k h))

  number_kept : (i j : ℕ) → i < 16 * tiles_along (height xs) → j < 16 * tiles_along (width xs) → number_at (height xs) (width xs) ys i j ≡ number_at (height xs) (width xs) xs i j
  number_kept i j hi hj =
      ap (λ (s : ℕ). slot_number (file_tiles xs) ys s (cell_of i j)) (slot_stays (tile_of (width xs) i j) (tile_below (height xs) (width xs) i j hi hj))
      ∙ cleared_number (file_tiles xs) xs ys z (slot_of xs (tile_of (width xs) i j)) (cell_of i j) (cell_below i j)

  -- a file with a tile has a row
  some_row : (n i : ℕ) → i < 16 * tiles_along n → 0 < n
  some_row n i h = omega arith

  bit_gone : (i j : ℕ) → i < 16 * tiles_along (height xs) → j < 16 * tiles_along (width xs) → bit_at (height xs) (width xs) ys i j ≡ false
  bit_gone i j hi hj =
      let t = tile_below (height xs) (width xs) i j hi hj in
      let sound = sound_opened xs 0 (some_row (height xs) i hi) in
      ap (λ (s : ℕ). slot_bit (file_tiles xs) ys s (cell_of i j)) (slot_stays (tile_of (width xs) i j) t)
      ∙ cleared_bit (file_tiles xs) xs ys z (slot_of xs (tile_of (width xs) i j)) (cell_of i j) (sound.below _ t) (cell_below i j)

  store_cleared : StoreCleared xs ys
  store_cleared = record {
    rows = sides.0;
    columns = sides.1;
    picture = same_shown (height xs) (width xs) _ ys sides.0 sides.1 (fun_ext (λ i. fun_ext (λ j. inside (height xs) (width xs) _ _ (pos 0) i j
        (λ hi hj. number_kept i j (within_tiles (height xs) i hi) (within_tiles (width xs) j hj)))));
    bits = (λ k. bits_of (sides.0 k) (sides.1 k) ys) ∙ fun_ext (λ i. fun_ext (λ j. inside (height xs) (width xs) _ false false i j
        (λ hi hj. bit_gone i j (within_tiles (height xs) i hi) (within_tiles (width xs) j hj)) ∙ either_way _ false));
    frame = record {
      rows = sides.0;
      columns = sides.1;
      size = z.size;
      around = cleared_around (file_tiles xs) xs ys z;
      numbers = λ i j h. number_kept i j h.0 h.1;
      bits = λ e i j h. absurd (true≢false e);
      no_bit_set = λ i j h t. absurd (both_ways _ (bit_gone i j h.0 h.1) t);
    };
    zeros = z;
  }

pub cleared_through : (xs xs' : List ℕ) (R C : ℕ) (ys zs : List ℕ) → R ≡ height xs → C ≡ width xs → xs' ≡ xs → zs ≡ ys
    → Zeroed (holds_bits (tile_count R C) (tile_count R C)) xs' ys → StoreCleared xs zs
cleared_through xs xs' R C ys zs e g d q z =
    let z' : Zeroed (holds_bits (file_tiles xs) (file_tiles xs)) xs ys =
    transport (λ i. Zeroed (holds_bits (tile_count (e i) (g i)) (tile_count (e i) (g i))) (d i) ys) z in
    rw q (store_cleared xs ys z')
