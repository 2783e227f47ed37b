-- A formatted file, opened.
use Rattle.std.proofs.Common.{◌≡◌, ℕ, ◌+◌, ◌*◌, ◌/◌, ◌<◌, ◌≤◌, Bool, true, false, cond, ◌||◌, eqb, ltb, leb, List, length, pos, is_some, Some, Option, sym, refl, ap, ◌∙◌, ⊎_elim, arith, w32, to_z}
use mathlib.Core.Path.{fun_ext}
use Rattle.std.proofs.lemmas.Bool.{both_ways, cases_Bool, or_from, ltb-true, ltb-false, le-ltb, lt-leb, ne_eqb}
use Rattle.std.proofs.lemmas.Bool.Decides.{nat_tests}
use Rattle.faults.specs.declared.fault.Fault.{Fault}
use Rattle.faults.specs.Tables.{first_index}
use Rattle.faults.proofs.FirstIndex.{holds_there}
use Rattle.planes.specs.Planes.{unmarked}
use Rattle.planes.specs.Flat.{bad_side}
use Rattle.planes.proofs.Pictures.{same_picture}
use Rattle.tile_bytes.specs.Bytes.{byte, number}
use Rattle.tile_bytes.specs.Bits.{has_bit}
use Rattle.tile_bytes.specs.Layout.{tile_count, tile_of, cell_of, slots_end, slot_of, slot_start}
use Rattle.tile_bytes.specs.Slots.{in_slots}
use Rattle.tile_bytes.proofs.ClearedSlots.{no_bit_in_zero}
use Rattle.tiles.specs.Opening.{rows_said, columns_said, tiles_said, occurs, bad_slot, first_bad_slot, tile_fault, height, width}
use Rattle.tiles.specs.Files.{number_at, bit_at, numbers_of, bits_of, file_picture, file_bits}
use Rattle.tiles.specs.Formatting.{format_fault, Formatted, AFormattedFileIsBlank}
use Rattle.tiles.proofs.Opened.{passed, sides_said}
use Rattle.tiles.proofs.Putting.{inside, either_way, tile_below, cell_below, within_tiles}

occurs_nowhere : (test : ℕ → Bool) (n : ℕ) → ((k : ℕ) → k < n → test k ≡ false) → occurs test n ≡ false
occurs_nowhere test n none = ⊎_elim
    (λ h. let l = ltb-true (first_index test n) n h in absurd (both_ways _ (none (first_index test n) l) (holds_there test n l)))
    (λ h. h)
    (cases_Bool (occurs test n))

-- rows of a table that do not hold
falls : (b : Bool) (f : Fault) (o : Option Fault) → b ≡ false → is_some o ≡ false → is_some (cond b (Some f) o) ≡ false
falls true f o h k = absurd (both_ways true h refl)
falls false f o h k = k

module _ (R C : ℕ) (xs ys : List ℕ) (fine : is_some (format_fault R C (length xs)) ≡ false) (d : Formatted R C xs ys) where
  good_sides : (bad_side R || bad_side C) ≡ false
  good_sides = (passed (bad_side R || bad_side C) _ _ fine).0

  room : slots_end (tile_count R C) ≤ length ys
  room =
      let e = d.size in
      let p = passed (bad_side R || bad_side C) _ _ fine in
      let q = passed (ltb (length xs) (slots_end (tile_count R C))) _ _ p.1 in
      let l = ltb-false (length xs) (slots_end (tile_count R C)) q.0 in
      omega arith

  tiles_are : tiles_said ys ≡ tile_count R C
  tiles_are = λ i. tile_count (d.rows i) (d.columns i)

  good_slot : (t : ℕ) → t < tile_count R C → bad_slot (tile_count R C) ys t ≡ false
  good_slot t h =
      let e = d.slots t h in
      let a : leb (tile_count R C) (slot_of ys t) ≡ false = lt-leb (tile_count R C) (slot_of ys t) (rw e h) in
      or_from _ _ a (occurs_nowhere (λ k. eqb (slot_of ys k) (slot_of ys t)) t (λ k l. ne_eqb (slot_of ys k) (slot_of ys t) (λ q.
      let f = d.slots k (omega arith) in let g : k ≡ t = sym f ∙ q ∙ e in omega arith)))

  no_fault : is_some (tile_fault ys) ≡ false
  no_fault =
      let sides : (bad_side (rows_said ys) || bad_side (columns_said ys)) ≡ false = (λ i. bad_side (d.rows i) || bad_side (d.columns i)) ∙ good_sides in
      let long : ltb (length ys) (slots_end (tiles_said ys)) ≡ false = ap (λ (n : ℕ). ltb (length ys) (slots_end n)) tiles_are ∙ le-ltb (length ys) (slots_end (tile_count R C)) room in
      let slots : ltb (first_bad_slot (tiles_said ys) ys) (tiles_said ys) ≡ false =
      ap (λ (n : ℕ). ltb (first_bad_slot n ys) n) tiles_are ∙ occurs_nowhere (bad_slot (tile_count R C) ys) (tile_count R C) good_slot in
      falls _ _ _ (le-ltb (length ys) 4 (omega (arith, room))) (falls _ _ _ sides (falls _ _ _ long (falls _ _ _ slots refl)))

  height_is : height ys ≡ R
  height_is = (sides_said ys no_fault).0 ∙ d.rows

  width_is : width ys ≡ C
  width_is = (sides_said ys no_fault).1 ∙ d.columns

  -- every byte of a slot is 0
  in_some_slot : (T s k : ℕ) → s < T → k < 1056 → in_slots T T (slot_start T s + k) ≡ true
  in_some_slot T s k h l = grind (arith, nat_tests)

  zero_in : (i j k : ℕ) → i < R → j < C → k < 1056 → byte ys (slot_start (tile_count R C) (slot_of ys (tile_of C i j)) + k) ≡ 0
  zero_in i j k hi hj l =
      let t = tile_below R C i j (within_tiles R i hi) (within_tiles C j hj) in
      d.zeros _ (in_some_slot (tile_count R C) (slot_of ys (tile_of C i j)) k (rw (d.slots (tile_of C i j) t) t) l)

  zero_number : (at : ℕ) → byte ys at ≡ 0 → byte ys (at + 1) ≡ 0 → byte ys (at + 2) ≡ 0 → byte ys (at + 3) ≡ 0 → number ys at ≡ pos 0
  zero_number at a b c e = λ i. to_z w32 (a i * 16777216 + b i * 65536 + c i * 256 + e i)

  number_zero : (i j : ℕ) → i < R → j < C → number_at R C ys i j ≡ pos 0
  number_zero i j hi hj =
      let s = slot_start (tile_count R C) (slot_of ys (tile_of C i j)) in
      let m = cell_below i j in
      let at : (k : ℕ) → k < 4 → byte ys (s + 4 * cell_of i j + k) ≡ 0 = (λ k l.
      let e : s + 4 * cell_of i j + k ≡ s + (4 * cell_of i j + k) = omega arith in rw e (zero_in i j (4 * cell_of i j + k) hi hj (omega arith))) in
      zero_number (s + 4 * cell_of i j) (zero_in i j (4 * cell_of i j) hi hj (omega arith)) (at 1 (omega arith)) (at 2 (omega arith)) (at 3 (omega arith))

  bit_unset : (i j : ℕ) → i < R → j < C → bit_at R C ys i j ≡ false
  bit_unset i j hi hj =
      let s = slot_start (tile_count R C) (slot_of ys (tile_of C i j)) in
      let m = cell_below i j in
      let e : s + 1024 + cell_of i j / 8 ≡ s + (1024 + cell_of i j / 8) = omega arith in
      let z : byte ys (s + 1024 + cell_of i j / 8) ≡ 0 = rw e (zero_in i j (1024 + cell_of i j / 8) hi hj (omega arith)) in
      ap (λ (b : ℕ). has_bit b (cell_of i j)) z ∙ no_bit_in_zero (cell_of i j)

  blank : (file_picture ys ≡ record { height = R; width = C; number = λ r c. pos 0 }) × (file_bits ys ≡ unmarked)
  blank = (
    same_picture (height ys) R (width ys) C (numbers_of (height ys) (width ys) ys) (λ r c. pos 0) height_is width_is
        ((λ i. numbers_of (height_is i) (width_is i) ys) ∙ fun_ext (λ i. fun_ext (λ j. inside R C _ (pos 0) (pos 0) i j (number_zero i j) ∙ either_way _ (pos 0)))),
    (λ i. bits_of (height_is i) (width_is i) ys) ∙ fun_ext (λ i. fun_ext (λ j. inside R C _ false false i j (bit_unset i j) ∙ either_way _ false)),
  )

pub a_formatted_file_is_blank : AFormattedFileIsBlank
a_formatted_file_is_blank R C xs ys fine d = blank R C xs ys (ap is_some fine) d
