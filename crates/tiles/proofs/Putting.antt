-- A number put into an open file.
use Rattle.std.proofs.Common.{◌≡◌, ℕ, ◌+◌, ◌*◌, ◌/◌, ◌%◌, ◌<◌, ◌≤◌, Bool, true, false, cond, ◌&&◌, eqb, ltb, ◌⊎◌, List, length, ℤ, pos, sym, refl, ap, ◌∙◌, inl, inr, ⊎_elim, arith, w32, SFits}
use mathlib.Core.Path.{fun_ext}
use Rattle.std.proofs.lemmas.Nat.{mul-add-lt, div-mul-add, mod-mul-add}
use Rattle.std.proofs.lemmas.Bool.{cases_Bool, cases_lt, both_ways, cond-true, cond-false, and_parts, and_from, ltb-true, eqb-true, eq-eqb}
use Rattle.std.proofs.lemmas.Bool.Decides.{nat_tests}
use Rattle.planes.specs.Planes.{Cells, with_at, marked}
use Rattle.tile_bytes.specs.Bytes.{byte}
use Rattle.tile_bytes.specs.Slots.{in_slots}
use Rattle.tile_bytes.specs.Layout.{tiles_along, tile_count, tile_of, cell_of, slot_of, slot_start, slots_end, slot_number, slot_bit, with_cell, OneCell}
use Rattle.tile_bytes.proofs.OneCell.{put_changes_one_cell}
use Rattle.tiles.specs.Opening.{Sound}
use Rattle.tiles.specs.Files.{number_at, bit_at, numbers_of, bits_of, Beyond}
use Rattle.tiles.proofs.SameHead.{before_slots, same_slot}

-- tiles and cells of places up to the tiles' edge
pub tile_below : (R C r c : ℕ) → r < 16 * tiles_along R → c < 16 * tiles_along C → tile_of C r c < tile_count R C
tile_below R C r c h k = omega (arith, mul-add-lt (r / 16) (tiles_along C) (c / 16) (tiles_along R) (omega arith) (omega arith))

pub cell_below : (r c : ℕ) → cell_of r c < 256
cell_below r c = omega arith

same_place : (C r c i j : ℕ) → c < 16 * tiles_along C → j < 16 * tiles_along C → tile_of C i j ≡ tile_of C r c → cell_of i j ≡ cell_of r c → (i ≡ r) × (j ≡ c)
same_place C r c i j k l e f =
    let hc : c / 16 < tiles_along C = omega arith in
    let hj : j / 16 < tiles_along C = omega arith in
    let a : i / 16 ≡ r / 16 = sym (div-mul-add (i / 16) (tiles_along C) (j / 16) hj) ∙ ap (λ n. n / tiles_along C) e ∙ div-mul-add (r / 16) (tiles_along C) (c / 16) hc in
    let b : j / 16 ≡ c / 16 = sym (mod-mul-add (i / 16) (tiles_along C) (j / 16) hj) ∙ ap (λ n. n % tiles_along C) e ∙ mod-mul-add (r / 16) (tiles_along C) (c / 16) hc in
    (omega arith, omega arith)

-- a place of the plate is one of its tiles'
pub within_tiles : (n r : ℕ) → r < n → r < 16 * tiles_along n
within_tiles n r h = omega arith

slot_room : (T s L : ℕ) → s < T → slots_end T ≤ L → slot_start T s + 1056 ≤ L
slot_room T s L h k = omega arith

in_a_slot : (T s k : ℕ) → s < T → slot_start T s ≤ k → k < slot_start T s + 1056 → in_slots T T k ≡ true
in_a_slot T s k h a b = grind (arith, nat_tests)

outside_slot : (T s k : ℕ) → s < T → in_slots T T k ≡ false → (k < slot_start T s) ⊎ (slot_start T s + 1056 ≤ k)
outside_slot T s k h e = ⊎_elim inl (λ a. ⊎_elim (λ b. absurd (both_ways (in_slots T T k) e (in_a_slot T s k h a b))) inr (cases_lt k (slot_start T s + 1056))) (cases_lt k (slot_start T s))

-- two things that agree inside R × C, with one thing outside
pub inside : (R C : ℕ) {A : Type 0} (a b d : A) (i j : ℕ) → (i < R → j < C → a ≡ b) → cond (ltb i R && ltb j C) a d ≡ cond (ltb i R && ltb j C) b d
inside R C a b d i j same = ⊎_elim
    (λ at. let p = and_parts (ltb i R) (ltb j C) at in cond-true _ a d at ∙ same (ltb-true i R p.0) (ltb-true j C p.1) ∙ sym (cond-true _ b d at))
    (λ at. cond-false _ a d at ∙ sym (cond-false _ b d at))
    (cases_Bool (ltb i R && ltb j C))

pub either_way : {A : Type 0} (b : Bool) (d : A) → cond b d d ≡ d
either_way true d = refl
either_way false d = refl

-- one place of R × C changes, and what stands outside does not
shown : {A : Type 0} (n n' : Cells A) (R C r c : ℕ) (x d : A) → r < R → c < C → n' r c ≡ x
    → ((i j : ℕ) → i < R → j < C → ((i ≡ r) × (j ≡ c) → ⊥) → n' i j ≡ n i j)
    → (i j : ℕ) → cond (ltb i R && ltb j C) (n' i j) d ≡ cond (eqb i r && eqb j c) x (cond (ltb i R && ltb j C) (n i j) d)
shown n n' R C r c x d hr hc e same i j = ⊎_elim
    (λ t.
    let p = and_parts (eqb i r) (eqb j c) t in
    let a = eqb-true i r p.0 in let b = eqb-true j c p.1 in
    let at : (ltb i R && ltb j C) ≡ true = grind (arith, nat_tests) in
    cond-true _ (n' i j) d at ∙ (λ k. n' (a k) (b k)) ∙ e ∙ sym (cond-true (eqb i r && eqb j c) x _ t))
    (λ t.
    inside R C (n' i j) (n i j) d i j (λ hi hj. same i j hi hj (λ q. both_ways (eqb i r && eqb j c) t (and_from _ _ (eq-eqb i r q.0) (eq-eqb j c q.1))))
    ∙ sym (cond-false (eqb i r && eqb j c) x _ t))
    (cases_Bool (eqb i r && eqb j c))

-- the number x put at (r, c) of a sound file
module _ (R C : ℕ) (xs ys : List ℕ) (r c : ℕ) (x : ℤ) (f : SFits w32 x) (sound : Sound R C xs) (hr : r < R) (hc : c < C)
    (e : ys ≡ with_cell (tile_count R C) xs (slot_of xs (tile_of C r c)) (cell_of r c) x) where
  its_tile : tile_of C r c < tile_count R C
  its_tile = tile_below R C r c (within_tiles R r hr) (within_tiles C c hc)

  its_slot : slot_of xs (tile_of C r c) < tile_count R C
  its_slot = sound.below (tile_of C r c) its_tile

  law : (slot_number (tile_count R C) ys (slot_of xs (tile_of C r c)) (cell_of r c) ≡ x) × (slot_bit (tile_count R C) ys (slot_of xs (tile_of C r c)) (cell_of r c) ≡ true)
      × OneCell (tile_count R C) (slot_of xs (tile_of C r c)) (cell_of r c) xs ys
  law = rw e (put_changes_one_cell (tile_count R C) (slot_of xs (tile_of C r c)) (cell_of r c) x xs f (cell_below r c)
      (slot_room (tile_count R C) (slot_of xs (tile_of C r c)) (length xs) its_slot sound.room))

  pub put_around : (k : ℕ) → in_slots (tile_count R C) (tile_count R C) k ≡ false → byte ys k ≡ byte xs k
  put_around k h = law.2.around k (outside_slot (tile_count R C) (slot_of xs (tile_of C r c)) k its_slot h)

  pub put_size : length ys ≡ length xs
  put_size = law.2.size

  slot_stays : (t : ℕ) → t < tile_count R C → slot_of ys t ≡ slot_of xs t
  slot_stays = same_slot xs ys put_size (tile_count R C) (λ k h. put_around k (before_slots (tile_count R C) k h))

  other_cell : (i j : ℕ) → i < 16 * tiles_along R → j < 16 * tiles_along C → ((i ≡ r) × (j ≡ c) → ⊥)
      → slot_of xs (tile_of C i j) ≡ slot_of xs (tile_of C r c) → cell_of i j ≡ cell_of r c → ⊥
  other_cell i j hi hj ne p q =
      ne (same_place C r c i j (within_tiles C c hc) hj (sound.apart (tile_of C i j) (tile_of C r c) (tile_below R C i j hi hj) its_tile p) q)

  pub number_stays : (i j : ℕ) → i < 16 * tiles_along R → j < 16 * tiles_along C → ((i ≡ r) × (j ≡ c) → ⊥) → number_at R C ys i j ≡ number_at R C xs i j
  number_stays i j hi hj ne =
      ap (λ (s : ℕ). slot_number (tile_count R C) ys s (cell_of i j)) (slot_stays (tile_of C i j) (tile_below R C i j hi hj))
      ∙ law.2.numbers (slot_of xs (tile_of C i j)) (cell_of i j) (cell_below i j) (other_cell i j hi hj ne)

  pub bit_stays : (i j : ℕ) → i < 16 * tiles_along R → j < 16 * tiles_along C → ((i ≡ r) × (j ≡ c) → ⊥) → bit_at R C ys i j ≡ bit_at R C xs i j
  bit_stays i j hi hj ne =
      ap (λ (s : ℕ). slot_bit (tile_count R C) ys s (cell_of i j)) (slot_stays (tile_of C i j) (tile_below R C i j hi hj))
      ∙ law.2.bits (slot_of xs (tile_of C i j)) (cell_of i j) (cell_below i j) (other_cell i j hi hj ne)

  number_put : number_at R C ys r c ≡ x
  number_put = ap (λ (s : ℕ). slot_number (tile_count R C) ys s (cell_of r c)) (slot_stays (tile_of C r c) its_tile) ∙ law.0

  bit_put : bit_at R C ys r c ≡ true
  bit_put = ap (λ (s : ℕ). slot_bit (tile_count R C) ys s (cell_of r c)) (slot_stays (tile_of C r c) its_tile) ∙ law.1

  pub numbers_put : numbers_of R C ys ≡ with_at (numbers_of R C xs) r c x
  numbers_put = fun_ext (λ i. fun_ext (λ j. shown (number_at R C xs) (number_at R C ys) R C r c x (pos 0) hr hc number_put
      (λ i j hi hj. number_stays i j (within_tiles R i hi) (within_tiles C j hj)) i j))

  pub bits_put : bits_of R C ys ≡ marked (bits_of R C xs) r c
  bits_put = fun_ext (λ i. fun_ext (λ j. shown (bit_at R C xs) (bit_at R C ys) R C r c true false hr hc bit_put
      (λ i j hi hj. bit_stays i j (within_tiles R i hi) (within_tiles C j hj)) i j))

  -- no place beyond the edge is (r, c)
  pub edge_apart : (i j : ℕ) → Beyond R C i j → (i ≡ r) × (j ≡ c) → ⊥
  edge_apart i j h q = let a = q.0 in let b = q.1 in let t : (ltb i R && ltb j C) ≡ true = grind (arith, nat_tests) in both_ways (ltb i R && ltb j C) h.2 t
