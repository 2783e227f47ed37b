-- The index of a place is in the buffer.
use Rattle.std.proofs.Common.{length}
use Rattle.planes.proofs.Rowwise.{place_is}
use Rattle.planes.proofs.grid.Grid.index.Goals as goal

pub returns-then-column-width : goal.returns-then-column-width
returns-then-column-width g c = record { is_the_index_inside = place_is c.args.self.now.rows c.args.self.now.columns (length c.args.self.now.cells.now) _ _ _ _ c.height-height.ensures.is_the_rows_or_none c.width-width.ensures.is_the_columns_or_none c.if-row-height.true c.if-column-width.true }
