-- The bits of the slots before this one are 0.
use Rattle.tile_bytes.specs.Layout.{tile_count}
use Rattle.tile_bytes.specs.Slots.{Zeroed, holds_bits}
use Rattle.tile_bytes.proofs.slots.clear_bits.Given as goal

abbrev pub invariant-loop-slot : goal.invariant-loop-slot
invariant-loop-slot l = Zeroed (holds_bits (tile_count l.sides.rows l.sides.columns) l.slot) l.initial.bytes l.bytes
