-- The lattice of level k: every 2^k-th row and column.
use Rattle.std.specs.Prelude.{ℕ, ◌+◌, ◌-◌, ◌/◌, ◌^◌}

-- the side of the lattice in a side of n: n / 2^k, rounded up
abbrev pub lattice_side : ℕ → ℕ → ℕ
lattice_side k n = (n + (2 ^ k - 1)) / 2 ^ k
