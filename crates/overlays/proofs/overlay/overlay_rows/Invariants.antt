-- So far the numbers of the rows passed are laid and counted, and no row has more than 2^64 − 1 places.
use Rattle.std.proofs.Common.{◌-◌, ◌*◌, ◌^◌, ◌≤◌, false}
use Rattle.cones.proofs.Counting.{After, rows_total}
use Rattle.overlays.proofs.Laying.{Laid, in_rows}
use Rattle.overlays.proofs.overlay.overlay_rows.Given as goal

abbrev pub invariant-loop-row : goal.invariant-loop-row
invariant-loop-row g l =
    let P = g.B.Plane.picture in let B = g.B.Store in
    let t = g.V.Source.test l.source in let v = g.V.Source.value l.source in
    Laid (in_rows l.row t) v (P l.initial.to) (B.bits l.initial.to) (P l.to) (B.bits l.to)
    × B.frame false l.initial.to l.to
    × After (rows_total l.columns t) l.row l.count
    × (l.count ≤ (2 ^ 64 - 1) * l.row)
