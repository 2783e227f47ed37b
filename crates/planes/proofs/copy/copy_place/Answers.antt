-- The number read is set.
use Rattle.std.proofs.Common.{◌∙◌, to_z-of_z, w32, SFits, rules}
use Rattle.planes.proofs.Copying.{copied_set}
use Rattle.planes.proofs.copy.copy_place.Goals as goal

pub returns : goal.returns
returns g c =
    let grid = c.args.output.now in
    let did = c.set.ensures in
    let read = rw c.unwrap-number.ensures at c.read.ensures.answers_the_number in
    let fits : SFits w32 c.unwrap-number.result = search rules in
    record {
      keeps_the_rows = did.keeps_the_rows;
      keeps_the_columns = did.keeps_the_columns;
      keeps_the_buffer = did.keeps_the_buffer;
      copies_the_number = copied_set (g.P.Plane.picture c.args.plane.now).number c.args.rectangle grid.rows grid.columns c.args.row c.args.column grid.cells.now c.set.new.self.cells.now _ c.set.result
          c.requires.ready.rows_are c.requires.ready.columns_are c.requires.ready.room c.requires.a_row c.requires.a_column (to_z-of_z fits ∙ read.1) did.replaces_the_element_inside;
    }
