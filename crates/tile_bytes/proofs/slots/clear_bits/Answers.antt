-- One slot more.
use Rattle.tile_bytes.specs.Layout.{tile_count}
use Rattle.tile_bytes.proofs.Zeros.{bits_none, bits_next}
use Rattle.tile_bytes.proofs.slots.clear_bits.Goals as goal

pub loop-slot-init : goal.loop-slot-init
loop-slot-init c = bits_none (tile_count c.args.sides.rows c.args.sides.columns) c.args.bytes.now

pub loop-slot-preserved : goal.loop-slot-preserved
loop-slot-preserved c =
    bits_next (tile_count c.args.sides.rows c.args.sides.columns) c.loop-slot.slot c.args.bytes.now c.loop-slot.bytes c.clear_slot.new.bytes c.loop-slot.invariant
    c.clear_slot.ensures.zeroes_the_slots_bits
