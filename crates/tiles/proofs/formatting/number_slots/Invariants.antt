-- The tiles before this one have their slots.
use Rattle.tiles.specs.Formatting.{Numbered}
use Rattle.tiles.proofs.formatting.number_slots.Given as goal

abbrev pub invariant-loop-tile : goal.invariant-loop-tile
invariant-loop-tile l = Numbered l.tile l.initial.bytes l.bytes
