-- Numbers in a list of bytes, high byte first.
use Rattle.std.specs.Prelude.{ℕ, ◌+◌, ◌*◌, List, [], ◌∷◌, ℤ, slice_index, slice_set}
use Rattle.std.proofs.Common.{to_z}
use Rattle.std.specs.Int.{w32}

-- byte k, and 0 past the end
abbrev pub byte : List ℕ → ℕ → ℕ
byte xs k = slice_index xs k

-- the number of two bytes
abbrev pub word : List ℕ → ℕ → ℕ
word xs at = byte xs at * 256 + byte xs (at + 1)

-- the number of four bytes without a sign, and with one: two's complement of 32 bits
abbrev pub four_byte_number : List ℕ → ℕ → ℕ
four_byte_number xs at = byte xs at * 16777216 + byte xs (at + 1) * 65536 + byte xs (at + 2) * 256 + byte xs (at + 3)

abbrev pub number : List ℕ → ℕ → ℤ
number xs at = to_z w32 (four_byte_number xs at)

-- the bytes b put over those from a place on, one after the other; past the end there is nothing to put them over
abbrev pub with_bytes : List ℕ → ℕ → List ℕ → List ℕ
with_bytes xs at [] = xs
with_bytes xs at (b ∷ bs) = with_bytes (slice_set xs at b) (at + 1) bs

-- the first two or four of the bytes b put so
abbrev pub with_two : List ℕ → ℕ → List ℕ → List ℕ
with_two xs at b = with_bytes xs at (slice_index b 0 ∷ slice_index b 1 ∷ [])

abbrev pub with_four : List ℕ → ℕ → List ℕ → List ℕ
with_four xs at b = with_bytes xs at (slice_index b 0 ∷ slice_index b 1 ∷ slice_index b 2 ∷ slice_index b 3 ∷ [])
