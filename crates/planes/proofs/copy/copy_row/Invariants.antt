-- The row is copied up to the column.
use Rattle.std.proofs.Common.{◌≡◌, ◌+◌, ◌*◌}
use Rattle.planes.specs.Copies.{Copied}
use Rattle.planes.proofs.copy.copy_row.Given as goal

abbrev pub invariant-loop-column : goal.invariant-loop-column
invariant-loop-column g l =
    (l.output.rows ≡ l.initial.output.rows) × (l.output.columns ≡ l.initial.output.columns)
    × (l.output.cells.ghost_name ≡ l.initial.output.cells.ghost_name)
    × Copied (g.P.Plane.picture l.plane).number l.rectangle (l.row * l.rectangle.width) (l.row * l.rectangle.width + l.column) l.initial.output.cells.now l.output.cells.now
