-- All change bits are cleared: what the slots then hold.
use Rattle.std.proofs.Common.{◌≡◌, ℕ, ◌+◌, ◌-◌, ◌*◌, ◌/◌, ◌%◌, ◌^◌, ◌<◌, true, false, eqb, List, ap, ◌∙◌, arith}
use native.Mathlib.Nat.{zero-div}
use Rattle.std.proofs.lemmas.Bool.{cond-true, cond-false}
use Rattle.std.proofs.lemmas.Bool.Decides.{nat_tests}
use Rattle.tile_bytes.specs.Bytes.{byte}
use Rattle.tile_bytes.specs.Bits.{has_bit}
use Rattle.tile_bytes.specs.Layout.{slot_start, slot_number, slot_bit}
use Rattle.tile_bytes.specs.Slots.{Zeroed, in_slots, holds_bits}
use Rattle.tile_bytes.proofs.OneCell.{equal_numbers}

outside : (T k : ℕ) → in_slots T T k ≡ false → holds_bits T T k ≡ false
outside T k h = grind (arith, nat_tests)

in_number : (T s m d : ℕ) → m < 256 → d < 4 → holds_bits T T (slot_start T s + 4 * m + d) ≡ false
in_number T s m d h l =
    let e : (slot_start T s + 4 * m + d - slot_start T 0) % 1056 ≡ 4 * m + d = omega arith in
    grind (arith, nat_tests)

in_bits : (T s m : ℕ) → s < T → m < 256 → holds_bits T T (slot_start T s + 1024 + m / 8) ≡ true
in_bits T s m h l =
    let e : (slot_start T s + 1024 + m / 8 - slot_start T 0) % 1056 ≡ 1024 + m / 8 = omega arith in
    grind (arith, nat_tests)

pub no_bit_in_zero : (m : ℕ) → has_bit 0 m ≡ false
no_bit_in_zero m = ap (λ n. eqb (n % 2) 1) (zero-div (2 ^ (m % 8)))

module _ (T : ℕ) (xs ys : List ℕ) (z : Zeroed (holds_bits T T) xs ys) where
  pub cleared_around : (k : ℕ) → in_slots T T k ≡ false → byte ys k ≡ byte xs k
  cleared_around k h = z.each k ∙ cond-false (holds_bits T T k) 0 (byte xs k) (outside T k h)

  pub cleared_number : (s m : ℕ) → m < 256 → slot_number T ys s m ≡ slot_number T xs s m
  cleared_number s m h = equal_numbers xs ys (slot_start T s + 4 * m) (λ d l. z.each (slot_start T s + 4 * m + d) ∙ cond-false _ 0 _ (in_number T s m d h l))

  pub cleared_bit : (s m : ℕ) → s < T → m < 256 → slot_bit T ys s m ≡ false
  cleared_bit s m l h =
      ap (λ (b : ℕ). has_bit b m) (z.each (slot_start T s + 1024 + m / 8) ∙ cond-true _ 0 _ (in_bits T s m l h)) ∙ no_bit_in_zero m
