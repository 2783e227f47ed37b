-- The record that stands at the place.
use Rattle.planes.proofs.Flats.{record_read}
use Rattle.planes.proofs.flat.Grid+Cell.record.Goals as goal

pub returns : goal.returns
returns c =
    let s = c.args.self.now in
    record { holds_the_number_and_the_bit = rw c.ok_or.ensures.value (record_read s.rows s.columns s.cells.now c.args.row c.args.column c.get.result c.get.ensures.is_the_element_inside) }
