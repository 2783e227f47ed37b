-- So far the numbers of the columns passed are laid and counted.
use Rattle.std.proofs.Common.{◌≤◌, false}
use Rattle.cones.proofs.Counting.{After, columns_total}
use Rattle.overlays.proofs.Laying.{Laid, in_front}
use Rattle.overlays.proofs.overlay.overlay_row.Given as goal

abbrev pub invariant-loop-column : goal.invariant-loop-column
invariant-loop-column g l =
    let P = g.B.Plane.picture in let B = g.B.Store in
    let t = g.V.Source.test l.source in let v = g.V.Source.value l.source in
    Laid (in_front l.row l.column t) v (P l.initial.to) (B.bits l.initial.to) (P l.to) (B.bits l.to)
    × B.frame false l.initial.to l.to
    × After (columns_total (t l.row)) l.column l.count
    × (l.count ≤ l.column)
