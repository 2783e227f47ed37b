-- Frames of bytes as lines of capital hexadecimal.
use Rattle.std.specs.Prelude.{ℕ, ◌+◌, ◌-◌, ◌/◌, ◌%◌, cond, List, [], ◌∷◌, ◌++◌, length, take, drop, sum, nat_lt}
use Rattle.std.specs.List.{flat_map}
use Rattle.faults.specs.declared.fault.Fault.{Fault}
use Rattle.faults.specs.Faults.{layer_number, fault_number, fault_layer, fault_place}

-- the digit's character: 0 to 9, then A to F
abbrev pub hex_digit : ℕ → ℕ
hex_digit n = cond (nat_lt n 10) (n + 48) (n + 55)

abbrev pub hex_byte : ℕ → List ℕ
hex_byte b = hex_digit (b / 16) ∷ hex_digit (b % 16) ∷ []

-- the byte that makes the sum a multiple of 256
abbrev pub check_byte : List ℕ → ℕ
check_byte frame = (256 - sum frame % 256) % 256

-- the frame's bytes and its check byte, ended by byte 10
unfoldable pub frame_line : List ℕ → List ℕ
frame_line frame = flat_map hex_byte frame ++ (hex_byte (check_byte frame) ++ 10 ∷ [])

-- numbers of two and four bytes, high byte first
abbrev pub two_bytes : ℕ → List ℕ
two_bytes n = (n / 256 % 256) ∷ (n % 256) ∷ []

abbrev pub four_bytes : ℕ → List ℕ
four_bytes n = (n / 16777216 % 256) ∷ (n / 65536 % 256) ∷ (n / 256 % 256) ∷ (n % 256) ∷ []

-- 04, the fault's number, its layer and its place
abbrev pub fault_frame : Fault → List ℕ
fault_frame f = 4 ∷ fault_number f ∷ layer_number (fault_layer f) ∷ four_bytes (fault_place f)

-- a buffer with a text put over it from a place on
unfoldable pub over : List ℕ → ℕ → List ℕ → List ℕ
over out at text = take at out ++ (text ++ drop (at + length text) out)
