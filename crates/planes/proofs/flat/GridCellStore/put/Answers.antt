-- The record at the place is replaced, if the place is inside.
use Rattle.std.proofs.Common.{◌∙◌, to_z-of_z}
use Rattle.planes.proofs.Flats.{puts_number, puts_bit, puts_in_frame}
use Rattle.planes.proofs.flat.GridCellStore.put.Goals as goal

pub returns : goal.returns
returns c =
    let g = c.args.self.now in
    let s = c.set.new.self in
    let did = c.set.ensures in
    let i = c.args.row in let j = c.args.column in
    let cell = c.changed.result in
    record {
      writes_the_number = rw c.ok_or.ensures.value (puts_number g.rows g.columns g.cells.now s.cells.now s.rows s.columns did.keeps_the_rows did.keeps_the_columns i j cell c.args.number (c.changed.ensures.holds_the_number ∙ to_z-of_z c.ranges.number) c.set.result did.replaces_the_element_inside);
      sets_the_bit = rw c.ok_or.ensures.value (puts_bit g.rows g.columns g.cells.now s.cells.now s.rows s.columns did.keeps_the_rows did.keeps_the_columns i j cell c.changed.ensures.has_its_bit_set c.set.result did.replaces_the_element_inside);
      leaves_what_lies_under = (did.keeps_the_buffer, puts_in_frame g.rows g.columns g.cells.now s.cells.now s.rows s.columns did.keeps_the_rows did.keeps_the_columns i j cell c.set.result did.replaces_the_element_inside);
    }
