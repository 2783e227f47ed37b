-- Bytes written one after the other, and one bit written.
use Rattle.std.proofs.Common.{◌≡◌, ℕ, zero, suc, inl, inr, ◌+◌, ◌*◌, ◌/◌, ◌%◌, ◌^◌, ◌<◌, ◌≤◌, Bool, ◌⊎◌, List, [], ◌∷◌, length, set, ℤ, sym, refl, ap, ◌∙◌, ⊎_elim, arith, length-set, w32, SFits, to_z, of_z}
use Rattle.std.proofs.lemmas.Nat.{shr-shr}
use Rattle.std.proofs.lemmas.List.{get_or-set_same, get_or-set_other}
use Rattle.std.proofs.lemmas.Int.{to_z-of_z, ints}
use Rattle.std.proofs.lemmas.Bool.{cases_eq}
use Rattle.frames.specs.Frames.{two_bytes, four_bytes}
use Rattle.tile_bytes.specs.Bytes.{byte, word, number, with_bytes, with_two, with_four}
use Rattle.tile_bytes.specs.Bits.{has_bit, bit}

-- bytes put from a place on: the length and the others stay, and there they are
pub length_bytes : (xs : List ℕ) (at : ℕ) (b : List ℕ) → length (with_bytes xs at b) ≡ length xs
length_bytes xs at [] = refl
length_bytes xs at (v ∷ b) = length_bytes (set xs at v) (at + 1) b ∙ length-set xs at v

pub other_bytes : (xs : List ℕ) (at : ℕ) (b : List ℕ) (k : ℕ) → (k < at) ⊎ (at + length b ≤ k) → byte (with_bytes xs at b) k ≡ byte xs k
other_bytes xs at [] k h = refl
other_bytes xs at (v ∷ b) k h =
    other_bytes (set xs at v) (at + 1) b k (⊎_elim (λ l. inl (omega arith)) (λ l. inr (omega arith)) h)
    ∙ get_or-set_other xs at k v 0 (λ e. ⊎_elim (λ l. omega arith) (λ l. omega arith) h)

bytes_there : (xs : List ℕ) (at : ℕ) (b : List ℕ) (k : ℕ) → at + length b ≤ length xs → k < length b → byte (with_bytes xs at b) (at + k) ≡ byte b k
bytes_there xs at [] k h l = absurd (omega arith)
bytes_there xs at (v ∷ b) zero h l =
    let z : at + 0 ≡ at = omega arith in
    rw z (other_bytes (set xs at v) (at + 1) b at (inl (omega arith)) ∙ get_or-set_same xs at v 0 (omega arith))
bytes_there xs at (v ∷ b) (suc k) h l =
    let z : at + suc k ≡ at + 1 + k = omega arith in
    rw z (bytes_there (set xs at v) (at + 1) b k (omega (arith, length-set xs at v)) (omega arith))

first_there : (xs : List ℕ) (at : ℕ) (b : List ℕ) → at + length b ≤ length xs → 0 < length b → byte (with_bytes xs at b) at ≡ byte b 0
first_there xs at b h l = let z : at + 0 ≡ at = omega arith in rw z at (bytes_there xs at b 0 h l)

pub word_two : (xs : List ℕ) (at n : ℕ) → at + 2 ≤ length xs → n < 2 ^ 16 → word (with_two xs at (two_bytes n)) at ≡ n
word_two xs at n h l =
    let d0 : byte (with_two xs at (two_bytes n)) at ≡ n / 256 % 256 = first_there xs at (two_bytes n) h (omega arith) in
    let d1 : byte (with_two xs at (two_bytes n)) (at + 1) ≡ n % 256 = bytes_there xs at (two_bytes n) 1 h (omega arith) in
    omega arith

whole : (n : ℕ) → n < 2 ^ 32 → n / 16777216 % 256 * 16777216 + n / 65536 % 256 * 65536 + n / 256 % 256 * 256 + n % 256 ≡ n
whole n h =
    let p = shr-shr n 8 8 in
    let q = shr-shr n 16 8 in
    let b : n / 16777216 < 256 = omega arith in
    let r3 : n / 16777216 % 256 ≡ n / 16777216 = omega arith in
    let r2 : n / 65536 ≡ 256 * (n / 16777216) + n / 65536 % 256 = omega arith in
    let r1 : n / 256 ≡ 256 * (n / 65536) + n / 256 % 256 = omega arith in
    let r0 : n ≡ 256 * (n / 256) + n % 256 = omega arith in
    omega arith

pub number_four : (xs : List ℕ) (at : ℕ) (x : ℤ) → at + 4 ≤ length xs → SFits w32 x → number (with_four xs at (four_bytes (of_z w32 x))) at ≡ x
number_four xs at x h f =
    let n = of_z w32 x in
    let l : n < 2 ^ 32 = search (arith, ints) in
    let d0 : byte (with_four xs at (four_bytes n)) at ≡ n / 16777216 % 256 = first_there xs at (four_bytes n) h (omega arith) in
    let d1 : byte (with_four xs at (four_bytes n)) (at + 1) ≡ n / 65536 % 256 = bytes_there xs at (four_bytes n) 1 h (omega arith) in
    let d2 : byte (with_four xs at (four_bytes n)) (at + 2) ≡ n / 256 % 256 = bytes_there xs at (four_bytes n) 2 h (omega arith) in
    let d3 : byte (with_four xs at (four_bytes n)) (at + 3) ≡ n % 256 = bytes_there xs at (four_bytes n) 3 h (omega arith) in
    (λ i. to_z w32 (d0 i * 16777216 + d1 i * 65536 + d2 i * 256 + d3 i)) ∙ ap (to_z w32) (whole n l) ∙ to_z-of_z w32 x f

-- one byte of bits, in which the bit of cell m becomes t and the others stay
module _ (xs : List ℕ) (at m v : ℕ) (t : Bool) (h : at + m / 8 < length xs) (is : has_bit v m ≡ t)
    (same : (k : ℕ) → (k % 8 ≡ m % 8 → ⊥) → has_bit v k ≡ has_bit (byte xs (at + m / 8)) k) where
  pub bit_there : bit (set xs (at + m / 8) v) at m ≡ t
  bit_there = ap (λ (b : ℕ). has_bit b m) (get_or-set_same xs (at + m / 8) v 0 h) ∙ is

  pub bit_elsewhere : (k : ℕ) → (k ≡ m → ⊥) → bit (set xs (at + m / 8) v) at k ≡ bit xs at k
  bit_elsewhere k ne =
      ⊎_elim
      (λ e.
      let d : k % 8 ≡ m % 8 → ⊥ = λ f. ne (omega arith) in
      ap (λ (q : ℕ). has_bit (byte (set xs (at + m / 8) v) (at + q)) k) e
      ∙ ap (λ (b : ℕ). has_bit b k) (get_or-set_same xs (at + m / 8) v 0 h)
      ∙ same k d
      ∙ ap (λ (q : ℕ). has_bit (byte xs (at + q)) k) (sym e))
      (λ d. ap (λ (b : ℕ). has_bit b k) (get_or-set_other xs (at + m / 8) (at + k / 8) v 0 (λ e. d (omega arith))))
      (cases_eq (k / 8) (m / 8))
