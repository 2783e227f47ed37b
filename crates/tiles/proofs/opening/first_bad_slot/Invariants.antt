-- No slot number so far is bad, and these are the ones that were seen.
use Rattle.std.proofs.Common.{◌≡◌, length}
use Rattle.faults.specs.Tables.{first_index}
use Rattle.tiles.specs.Opening.{bad_slot}
use Rattle.tiles.proofs.Repeats.{Seen}
use Rattle.tiles.proofs.opening.first_bad_slot.Given as goal

abbrev pub invariant-loop-index : goal.invariant-loop-index
invariant-loop-index l = (length l.seen ≡ 65536) × (l.index ≡ first_index (bad_slot l.tiles l.bytes) l.index) × Seen l.bytes l.seen l.index
