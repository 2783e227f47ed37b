-- One cell is written: what every other cell holds.
use Rattle.std.proofs.Common.{◌≡◌, ℕ, ◌+◌, ◌*◌, ◌/◌, ◌%◌, ◌<◌, ◌≤◌, true, false, ◌⊎◌, List, length, set, ℤ, sym, refl, ap, ◌∙◌, inl, inr, ⊎_elim, arith, length-set, w32, SFits, of_z}
use Rattle.std.proofs.lemmas.List.{get_or-set_other}
use Rattle.std.proofs.lemmas.Bool.{cases_order, cases_eq}
use Rattle.std.proofs.lemmas.Bool.Decides.{nat_tests}
use Rattle.frames.specs.Frames.{four_bytes}
use Rattle.tile_bytes.specs.Bytes.{byte, number, with_four}
use Rattle.tile_bytes.specs.Bits.{has_bit, with_bit, without_bit, bit, with_mark}
use Rattle.tile_bytes.specs.Layout.{slot_start, slot_number, slot_bit, OneCell, PutChangesOneCell, UnsetChangesOneBit}
use Rattle.tile_bytes.proofs.Masks.{one_bit_is_set, one_bit_is_unset}
use Rattle.tile_bytes.proofs.Writes.{length_bytes, other_bytes, number_four, bit_there, bit_elsewhere}

-- the bytes of two cells lie apart
cells_apart : (s m i n : ℕ) → m < 256 → n < 256 → (i ≡ s → n ≡ m → ⊥) → (1056 * i + 4 * n + 4 ≤ 1056 * s + 4 * m) ⊎ (1056 * s + 4 * m + 4 ≤ 1056 * i + 4 * n)
cells_apart s m i n hm hn ne =
    ⊎_elim
    (λ e. ⊎_elim (λ f. absurd (ne e f)) (⊎_elim (λ l. inl (omega arith)) (λ l. inr (omega arith))) (cases_order n m))
    (⊎_elim (λ l. inl (omega arith)) (λ l. inr (omega arith)))
    (cases_order i s)

pub equal_numbers : (xs ys : List ℕ) (at : ℕ) → ((d : ℕ) → d < 4 → byte ys (at + d) ≡ byte xs (at + d)) → number ys at ≡ number xs at
equal_numbers xs ys at h =
    let z : at + 0 ≡ at = omega arith in
    let e0 = rw z at (h 0 (omega arith)) in
    let e1 = h 1 (omega arith) in let e2 = h 2 (omega arith) in let e3 = h 3 (omega arith) in
    cc

-- the numbers of cell m in slot s may change from xs to zs, and its bit from zs to ys
module _ (T s m : ℕ) (hm : m < 256) (xs zs ys : List ℕ) (small : length zs ≡ length xs) (size : length ys ≡ length zs)
    (four : (k : ℕ) → (k < slot_start T s + 4 * m) ⊎ (slot_start T s + 4 * m + 4 ≤ k) → byte zs k ≡ byte xs k)
    (bits : (k : ℕ) → (k ≡ m → ⊥) → bit ys (slot_start T s + 1024) k ≡ bit zs (slot_start T s + 1024) k)
    (mark : (k : ℕ) → (k ≡ slot_start T s + 1024 + m / 8 → ⊥) → byte ys k ≡ byte zs k) where
  kept : (k : ℕ) → (k < slot_start T s + 4 * m) ⊎ (slot_start T s + 4 * m + 4 ≤ k) → (k ≡ slot_start T s + 1024 + m / 8 → ⊥) → byte ys k ≡ byte xs k
  kept k h ne = mark k ne ∙ four k h

  -- no byte of a number holds bits
  no_mark : (i n d : ℕ) → n < 256 → d < 4 → slot_start T i + 4 * n + d ≡ slot_start T s + 1024 + m / 8 → ⊥
  no_mark i n d hn hd e = ⊎_elim (λ f. omega arith) (⊎_elim (λ l. omega arith) (λ l. omega arith)) (cases_order i s)

  number_elsewhere : (i n : ℕ) → n < 256 → (i ≡ s → n ≡ m → ⊥) → slot_number T ys i n ≡ slot_number T xs i n
  number_elsewhere i n hn ne =
      equal_numbers xs ys (slot_start T i + 4 * n) (λ d hd.
      kept (slot_start T i + 4 * n + d)
      (⊎_elim (λ l. inl (omega arith)) (λ l. inr (omega arith)) (cells_apart s m i n hm hn ne))
      (no_mark i n d hn hd))

  pub number_there : slot_number T ys s m ≡ slot_number T zs s m
  number_there = equal_numbers zs ys (slot_start T s + 4 * m) (λ d hd. mark (slot_start T s + 4 * m + d) (no_mark s m d hm hd))

  -- the bytes of bits are as the number left them
  old_bits : (i n : ℕ) → n < 256 → byte zs (slot_start T i + 1024 + n / 8) ≡ byte xs (slot_start T i + 1024 + n / 8)
  old_bits i n hn = four (slot_start T i + 1024 + n / 8)
      (⊎_elim (λ e. inr (omega arith)) (⊎_elim (λ l. inl (omega arith)) (λ l. inr (omega arith))) (cases_order i s))

  bit_elsewhere_too : (i n : ℕ) → n < 256 → (i ≡ s → n ≡ m → ⊥) → slot_bit T ys i n ≡ slot_bit T xs i n
  bit_elsewhere_too i n hn ne =
      let e = ap (λ (b : ℕ). has_bit b n) (old_bits i n hn) in
      ⊎_elim
      (λ f. ap (λ (j : ℕ). slot_bit T ys j n) f ∙ bits n (ne f) ∙ ap (λ (j : ℕ). slot_bit T zs j n) (sym f) ∙ e)
      (λ d. ap (λ (b : ℕ). has_bit b n) (mark (slot_start T i + 1024 + n / 8) (λ q. d (omega arith))) ∙ e)
      (cases_eq i s)

  pub one_cell : OneCell T s m xs ys
  one_cell = record {
    size = size ∙ small;
    numbers = number_elsewhere;
    bits = bit_elsewhere_too;
    around = λ k h. kept k
        (⊎_elim (λ l. inl (omega arith)) (λ l. inr (omega arith)) h)
        (λ e. ⊎_elim (λ l. omega arith) (λ l. omega arith) h);
  }

-- a bit that is set or unset in its byte
set_there : (b m : ℕ) → has_bit (with_bit b m) m ≡ true
set_there b m = let e = one_bit_is_set b m m in grind (arith, nat_tests)

set_elsewhere : (b m k : ℕ) → (k % 8 ≡ m % 8 → ⊥) → has_bit (with_bit b m) k ≡ has_bit b k
set_elsewhere b m k ne = let e = one_bit_is_set b m k in grind (arith, nat_tests)

unset_there : (b m : ℕ) → has_bit (without_bit b m) m ≡ false
unset_there b m = let e = one_bit_is_unset b m m in grind (arith, nat_tests)

unset_elsewhere : (b m k : ℕ) → (k % 8 ≡ m % 8 → ⊥) → has_bit (without_bit b m) k ≡ has_bit b k
unset_elsewhere b m k ne = let e = one_bit_is_unset b m k in grind (arith, nat_tests)

-- a number is put and its bit set
module _ (T s m : ℕ) (x : ℤ) (xs : List ℕ) (f : SFits w32 x) (hm : m < 256) (room : slot_start T s + 1056 ≤ length xs) where
  numbered : List ℕ
  numbered = with_four xs (slot_start T s + 4 * m) (four_bytes (of_z w32 x))

  size_numbered : length numbered ≡ length xs
  unfolding numbered
  size_numbered = length_bytes xs (slot_start T s + 4 * m) (four_bytes (of_z w32 x))

  other_number : (k : ℕ) → (k < slot_start T s + 4 * m) ⊎ (slot_start T s + 4 * m + 4 ≤ k) → byte numbered k ≡ byte xs k
  unfolding numbered
  other_number = other_bytes xs (slot_start T s + 4 * m) (four_bytes (of_z w32 x))

  number_put : slot_number T numbered s m ≡ x
  unfolding numbered
  number_put = number_four xs (slot_start T s + 4 * m) x (omega arith) f

  put_here : (slot_number T (with_mark numbered (slot_start T s + 1024) m) s m ≡ x) × (slot_bit T (with_mark numbered (slot_start T s + 1024) m) s m ≡ true)
      × OneCell T s m xs (with_mark numbered (slot_start T s + 1024) m)
  put_here =
      let at = slot_start T s + 1024 in
      let old = byte numbered (at + m / 8) in
      let v = with_bit old m in
      let l : at + m / 8 < length numbered = omega (arith, size_numbered) in
      let size : length (set numbered (at + m / 8) v) ≡ length numbered = length-set numbered (at + m / 8) v in
      let bits = bit_elsewhere numbered at m v true l (set_there old m) (set_elsewhere old m) in
      let mark : (k : ℕ) → (k ≡ at + m / 8 → ⊥) → byte (set numbered (at + m / 8) v) k ≡ byte numbered k = (λ k ne. get_or-set_other numbered (at + m / 8) k v 0 ne) in (
        number_there T s m hm xs numbered _ size_numbered size other_number bits mark ∙ number_put,
        bit_there numbered at m v true l (set_there old m) (set_elsewhere old m),
        one_cell T s m hm xs numbered _ size_numbered size other_number bits mark,
      )

pub put_changes_one_cell : PutChangesOneCell
unfolding numbered
put_changes_one_cell T s m x xs f hm room = put_here T s m x xs f hm room

-- a bit is unset
pub unset_changes_one_bit : UnsetChangesOneBit
unset_changes_one_bit T s m xs hm room =
    let at = slot_start T s + 1024 in
    let old = byte xs (at + m / 8) in
    let v = without_bit old m in
    let l : at + m / 8 < length xs = omega arith in
    let size : length (set xs (at + m / 8) v) ≡ length xs = length-set xs (at + m / 8) v in
    let bits = bit_elsewhere xs at m v false l (unset_there old m) (unset_elsewhere old m) in
    let mark : (k : ℕ) → (k ≡ at + m / 8 → ⊥) → byte (set xs (at + m / 8) v) k ≡ byte xs k = (λ k ne. get_or-set_other xs (at + m / 8) k v 0 ne) in (
      number_there T s m hm xs xs _ refl size (λ k h. refl) bits mark,
      bit_there xs at m v false l (unset_there old m) (unset_elsewhere old m),
      one_cell T s m hm xs xs _ refl size (λ k h. refl) bits mark,
    )
