use Rattle.std.proofs.Common.{◌≡◌}
use Rattle.std.specs.List.{flat_map}
use Rattle.frames.specs.Frames.{over}
use Rattle.sheets.specs.Runs.{cells_from}
use Rattle.sheets.specs.Sheets.{cell_bytes}
use Rattle.sheets.proofs.frame.fill_frame.Given as goal

abbrev pub invariant-loop-i : goal.invariant-loop-i
invariant-loop-i g l = l.frame ≡ over l.initial.frame 6 (flat_map cell_bytes (cells_from (g.S.Plane.picture l.store).number l.run.row l.run.first l.i))
