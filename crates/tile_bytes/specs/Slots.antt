-- Bytes of all slots set to 0.
use Rattle.std.specs.Prelude.{◌≡◌, ℕ, ◌-◌, ◌%◌, Bool, cond, ◌&&◌, List, length, nat_le, nat_lt}
use Rattle.tile_bytes.specs.Bytes.{byte}
use Rattle.tile_bytes.specs.Layout.{slot_start}

-- from the bytes xs to ys those that pass the test become 0, and the others stay
pub record Zeroed (test : ℕ → Bool) (xs ys : List ℕ) : Type 0 where
  pub size : length ys ≡ length xs
  pub each : (k : ℕ) → byte ys k ≡ cond (test k) 0 (byte xs k)

-- byte k is one from the first place to before the last
abbrev pub between : ℕ → ℕ → ℕ → Bool
between first last k = nat_le first k && nat_lt k last

-- in a file of T tiles byte k is in the first n slots, and holds change bits there
abbrev pub in_slots : ℕ → ℕ → ℕ → Bool
in_slots T n k = between (slot_start T 0) (slot_start T n) k

abbrev pub holds_bits : ℕ → ℕ → ℕ → Bool
holds_bits T n k = in_slots T n k && nat_le 1024 ((k - slot_start T 0) % 1056)
