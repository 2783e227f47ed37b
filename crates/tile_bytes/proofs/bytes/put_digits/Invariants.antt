-- The digits that are still to come make of the bytes what all digits do.
use Rattle.std.proofs.Common.{◌≡◌, ◌+◌, drop}
use Rattle.tile_bytes.specs.Bytes.{with_bytes}
use Rattle.tile_bytes.proofs.bytes.put_digits.Given as goal

abbrev pub invariant-loop-k : goal.invariant-loop-k
invariant-loop-k l = with_bytes l.bytes (l.offset.at + l.k) (drop l.k l.digits) ≡ with_bytes l.initial.bytes l.offset.at l.digits
