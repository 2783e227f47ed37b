-- The rows are copied up to the row.
use Rattle.std.proofs.Common.{◌≡◌, ◌*◌}
use Rattle.planes.specs.Copies.{Copied}
use Rattle.planes.proofs.copy.copy_out.Given as goal

abbrev pub invariant-loop-row : goal.invariant-loop-row
invariant-loop-row g l =
    (l.grid.rows ≡ l.initial.grid.rows) × (l.grid.columns ≡ l.initial.grid.columns)
    × (l.grid.cells.ghost_name ≡ l.initial.grid.cells.ghost_name)
    × Copied (g.P.Plane.picture l.plane).number l.rectangle 0 (l.row * l.rectangle.width) l.initial.grid.cells.now l.grid.cells.now
