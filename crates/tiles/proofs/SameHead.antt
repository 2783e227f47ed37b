-- Files with the same length, head and slot numbers open alike.
use Rattle.std.proofs.Common.{◌≡◌, ℕ, zero, suc, ◌+◌, ◌*◌, ◌<◌, Bool, false, cond, ◌||◌, eqb, ltb, leb, List, [], ◌∷◌, length, is_some, Option, sym, refl, ap, ◌∙◌, ⊎_elim, arith}
use Rattle.std.proofs.lemmas.Bool.{cases_Bool}
use Rattle.std.proofs.lemmas.Bool.Decides.{nat_tests}
use Rattle.faults.specs.declared.fault.Fault.{Fault}
use Rattle.faults.specs.declared.fault.Fault.TheVariants.{Size, StoreShort, Slot}
use Rattle.faults.specs.declared.fault.Layer.TheVariants.{Plane}
use Rattle.faults.specs.Tables.{first_fault, first_index}
use Rattle.planes.specs.Flat.{bad_side}
use Rattle.tile_bytes.specs.Bytes.{byte, word}
use Rattle.tile_bytes.specs.Slots.{in_slots}
use Rattle.tile_bytes.specs.Layout.{tile_count, slot_of, slots_end}
use Rattle.tiles.specs.Opening.{rows_said, columns_said, tiles_said, bad_slot, first_bad_slot, tile_fault, height, width, file_tiles}
use Rattle.tiles.proofs.Opened.{sides_said, no_sides}

-- tests that agree below n have one first index there
same_index : (p q : ℕ → Bool) (n : ℕ) → ((k : ℕ) → k < n → p k ≡ q k) → first_index p n ≡ first_index q n
unfolding first_index
same_index p q zero h = refl
same_index p q (suc n) h =
    let e = same_index p q n (λ k l. h k (omega arith)) in
    let f = h n (omega arith) in
    λ i. cond (ltb (e i) n) (e i) (cond (f i) n (suc n))

-- the fault by the length, the sides in the head and the first bad slot number
by_head : ℕ → ℕ → ℕ → ℕ → Option Fault
by_head L R C b = first_fault (
    (ltb L 4, StoreShort)
    ∷ (bad_side R || bad_side C, Size Plane)
    ∷ (ltb L (slots_end (tile_count R C)), StoreShort)
    ∷ (ltb b (tile_count R C), Slot b)
    ∷ []
    )

-- two bytes that stay are a number that stays
pub same_word : (xs ys : List ℕ) (k : ℕ) → byte ys k ≡ byte xs k → byte ys (k + 1) ≡ byte xs (k + 1) → word ys k ≡ word xs k
same_word xs ys k e f = cc

-- the head lies before the slots
pub before_slots : (T k : ℕ) → k < 4 + 2 * T → in_slots T T k ≡ false
before_slots T k h = grind (arith, nat_tests)

no_slots : (k : ℕ) → in_slots 0 0 k ≡ false
no_slots k = grind (arith, nat_tests)

module _ (xs ys : List ℕ) (size : length ys ≡ length xs) where
  -- the first bytes stay, through the slot numbers of T tiles
  module _ (T : ℕ) (same : (k : ℕ) → k < 4 + 2 * T → byte ys k ≡ byte xs k) where
    head_word : (k : ℕ) → k + 1 < 4 + 2 * T → word ys k ≡ word xs k
    head_word k h = same_word xs ys k (same k (omega arith)) (same (k + 1) h)

    pub same_slot : (t : ℕ) → t < T → slot_of ys t ≡ slot_of xs t
    same_slot t h = head_word (4 + 2 * t) (omega arith)

    same_rows : rows_said ys ≡ rows_said xs
    same_rows = head_word 0 (omega arith)

    same_columns : columns_said ys ≡ columns_said xs
    same_columns = head_word 2 (omega arith)

    same_bad : (t : ℕ) → t < T → bad_slot T ys t ≡ bad_slot T xs t
    same_bad t h =
        let e = same_slot t h in
        let o : first_index (λ k. eqb (slot_of ys k) (slot_of ys t)) t ≡ first_index (λ k. eqb (slot_of xs k) (slot_of xs t)) t
        = same_index _ _ t (λ k l. let f = same_slot k (omega arith) in λ i. eqb (f i) (e i)) in
        λ i. leb T (e i) || ltb (o i) t

    same_fault : T ≡ tiles_said xs → tile_fault ys ≡ tile_fault xs
    unfolding by_head
    same_fault e =
        let tiles : tiles_said ys ≡ T = (λ i. tile_count (same_rows i) (same_columns i)) ∙ sym e in
        let bad : first_bad_slot (tiles_said ys) ys ≡ first_bad_slot (tiles_said xs) xs
        = ap (λ (n : ℕ). first_bad_slot n ys) tiles ∙ same_index (bad_slot T ys) (bad_slot T xs) T same_bad ∙ ap (λ (n : ℕ). first_bad_slot n xs) e in
        λ i. by_head (size i) (same_rows i) (same_columns i) (bad i)

    same_sides : T ≡ tiles_said xs → (height ys ≡ height xs) × (width ys ≡ width xs)
    unfolding height width
    same_sides e =
        let f = same_fault e in
        ((λ i. cond (is_some (f i)) 0 (same_rows i)), (λ i. cond (is_some (f i)) 0 (same_columns i)))

  -- what lies around the slots stays, and so do the sides of the opened file
  pub sides_stay : ((k : ℕ) → in_slots (file_tiles xs) (file_tiles xs) k ≡ false → byte ys k ≡ byte xs k)
      → (height ys ≡ height xs) × (width ys ≡ width xs)
  sides_stay around = ⊎_elim
      (λ h. let e = no_sides xs h in
      let all : (k : ℕ) → in_slots (tile_count 0 0) (tile_count 0 0) k ≡ false → byte ys k ≡ byte xs k = rw (e.0, e.1) at around in
      same_sides (tiles_said xs) (λ k l. all k (no_slots k)) refl)
      (λ h. let e = sides_said xs h in
      let head : (k : ℕ) → in_slots (tiles_said xs) (tiles_said xs) k ≡ false → byte ys k ≡ byte xs k = rw (e.0, e.1) at around in
      same_sides (tiles_said xs) (λ k l. head k (before_slots (tiles_said xs) k l)) refl)
      (cases_Bool (is_some (tile_fault xs)))
