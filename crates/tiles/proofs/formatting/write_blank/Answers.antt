-- The parts one after the other.
use Rattle.std.proofs.Common.{ℕ, subst, arith}
use Rattle.tiles.specs.Formatting.{Numbered}
use Rattle.tiles.proofs.Numbering.{tiles_few, formatted}
use Rattle.tiles.proofs.formatting.write_blank.Goals as goal

pub number_slots-requires : goal.number_slots-requires
number_slots-requires c =
    let s = c.args.sides in
    let e = c.tiles.ensures.is_the_number_of_tiles in
    let few = tiles_few s.rows s.columns c.requires.few_rows c.requires.few_columns in
    record { few_tiles = omega arith; room = omega arith }

pub returns : goal.returns
returns c =
    let s = c.args.sides in
    record {
      formats_the_file = formatted s.rows s.columns c.args.bytes.now c.write_sides.new.bytes c.number_slots.new.bytes c.zero_slots.new.bytes c.requires.few_rows c.requires.few_columns c.requires.room
          c.write_sides.ensures.writes_rows_then_columns
          (subst (λ (n : ℕ). Numbered n c.write_sides.new.bytes c.number_slots.new.bytes) c.tiles.ensures.is_the_number_of_tiles c.number_slots.ensures.gives_each_tile_its_slot)
          c.zero_slots.ensures.zeroes_every_slot;
    }
