-- One tile more.
use Rattle.std.proofs.Common.{arith}
use Rattle.tiles.proofs.Numbering.{numbered_none, numbered_more}
use Rattle.tiles.proofs.formatting.number_slots.Goals as goal

pub loop-tile-init : goal.loop-tile-init
loop-tile-init c = numbered_none c.args.bytes.now

pub loop-tile-preserved : goal.loop-tile-preserved
loop-tile-preserved c =
    numbered_more c.loop-tile.tile c.args.bytes.now c.loop-tile.bytes c.write_slot.new.bytes (omega arith) (omega arith) c.loop-tile.invariant
    c.write_slot.ensures.writes_the_slot_number
