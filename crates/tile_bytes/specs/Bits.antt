-- Change bits: the bit of cell m is in byte m div 8, with weight 2^(m mod 8).
use Rattle.std.specs.Prelude.{◌≡◌, ℕ, ◌+◌, ◌-◌, ◌*◌, ◌/◌, ◌%◌, ◌^◌, Bool, not, ◌&&◌, ◌||◌, List, ◌==◌, bit_and, bit_or, slice_set}
use Rattle.tile_bytes.specs.Bytes.{byte}

-- the bit of weight 2^(m mod 8) in a byte is set
abbrev pub has_bit : ℕ → ℕ → Bool
has_bit b m = b / 2 ^ (m % 8) % 2 == 1

-- 1 shifted in a byte to the bit of cell m
abbrev pub mask : ℕ → ℕ
mask m = (1 * 2 ^ (m % 8)) % 256

abbrev pub with_bit : ℕ → ℕ → ℕ
with_bit b m = bit_or b (mask m)

abbrev pub without_bit : ℕ → ℕ → ℕ
without_bit b m = bit_and b (255 - mask m)

-- what these two do to each bit of a byte
abbrev pub OneBitIsSet : Type 0
OneBitIsSet = (b m k : ℕ) → has_bit (with_bit b m) k ≡ (k % 8 == m % 8 || has_bit b k)

abbrev pub OneBitIsUnset : Type 0
OneBitIsUnset = (b m k : ℕ) → has_bit (without_bit b m) k ≡ (not (k % 8 == m % 8) && has_bit b k)

-- the bit of cell m among the bytes from a place on, and the bytes with it set or unset
abbrev pub bit : List ℕ → ℕ → ℕ → Bool
bit xs at m = has_bit (byte xs (at + m / 8)) m

abbrev pub with_mark : List ℕ → ℕ → ℕ → List ℕ
with_mark xs at m = slice_set xs (at + m / 8) (with_bit (byte xs (at + m / 8)) m)

abbrev pub without_mark : List ℕ → ℕ → ℕ → List ℕ
without_mark xs at m = slice_set xs (at + m / 8) (without_bit (byte xs (at + m / 8)) m)
