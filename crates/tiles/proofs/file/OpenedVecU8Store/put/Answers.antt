-- The cell of the place is written.
use Rattle.std.proofs.Common.{◌≡◌, length, Ok, sym, ◌∙◌, arith, rules, w32, to_z, of_z, to_z-of_z}
use Rattle.std.proofs.lemmas.List.{with_items_is}
use Rattle.std.specs.Vec.{with_items}
use Rattle.tiles.specs.Files.{PutsCell}
use Rattle.tiles.proofs.Stores.{StorePut, put_through}
use Rattle.tiles.proofs.file.OpenedVecU8Store.put.Goals as goal
use Rattle.tiles.proofs.file.OpenedVecU8Store.put.Goals.{After-put_cell}

done : (c : After-put_cell)
    → StorePut c.args.self.now.bytes.items c.args.row c.args.column c.args.number (with_items c.args.self.now.bytes c.put_cell.new.bytes).items (Ok tt)
done c =
    let s = c.args.self.now in
    let l : length c.put_cell.new.bytes ≡ s.bytes.len = omega arith in
    let written : PutsCell s.sides.rows s.sides.columns c.deref_mut.result.now c.args.row c.args.column (to_z w32 (of_z w32 c.args.number)) c.put_cell.new.bytes (Ok tt) = search rules in
    put_through s.bytes.items c.deref_mut.result.now s.sides.rows s.sides.columns c.args.row c.args.column c.args.number _ c.put_cell.new.bytes _ (Ok tt)
    s.has_the_rows s.has_the_columns c.deref_mut.ensures.value (to_z-of_z c.ranges.number) (with_items_is s.bytes c.put_cell.new.bytes l) c.ranges.number written

pub invariant_of-self : goal.invariant_of-self
invariant_of-self c =
    let s = c.args.self.now in let p = done (goal.at.invariant_of-self c).After-put_cell in
    record { has_the_rows = s.has_the_rows ∙ sym p.rows; has_the_columns = s.has_the_columns ∙ sym p.columns }

pub returns : goal.returns
returns c =
    let p = done (goal.at.returns c).After-put_cell in
    record { writes_the_number = p.number; sets_the_bit = p.bit; leaves_what_lies_under = p.frame; writes_one_cell = p.cell }
