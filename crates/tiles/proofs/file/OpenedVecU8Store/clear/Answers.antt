-- The bytes of bits are cleared.
use Rattle.std.proofs.Common.{◌≡◌, length, sym, ◌∙◌, arith}
use Rattle.std.proofs.lemmas.List.{with_items_is}
use Rattle.std.specs.Vec.{with_items}
use Rattle.tiles.proofs.Stores.{StoreCleared, cleared_through}
use Rattle.tiles.proofs.file.OpenedVecU8Store.clear.Goals as goal
use Rattle.tiles.proofs.file.OpenedVecU8Store.clear.Goals.{After-clear_bits}

done : (c : After-clear_bits) → StoreCleared c.args.self.now.bytes.items (with_items c.args.self.now.bytes c.clear_bits.new.bytes).items
done c =
    let s = c.args.self.now in
    let l : length c.clear_bits.new.bytes ≡ s.bytes.len = omega arith in
    cleared_through s.bytes.items c.deref_mut.result.now s.sides.rows s.sides.columns c.clear_bits.new.bytes _
    s.has_the_rows s.has_the_columns c.deref_mut.ensures.value (with_items_is s.bytes c.clear_bits.new.bytes l) c.clear_bits.ensures.zeroes_the_bits_of_every_slot

pub invariant_of-self : goal.invariant_of-self
invariant_of-self c =
    let s = c.args.self.now in let p = done (goal.at.invariant_of-self c).After-clear_bits in
    record { has_the_rows = s.has_the_rows ∙ sym p.rows; has_the_columns = s.has_the_columns ∙ sym p.columns }

pub returns : goal.returns
returns c =
    let p = done (goal.at.returns c).After-clear_bits in
    record { keeps_the_picture = p.picture; unsets_every_bit = p.bits; leaves_what_lies_under = p.frame; zeroes_every_byte_of_bits = p.zeros }
