use Rattle.std.proofs.Common.{◌≡◌, Bool, false}
use Rattle.planes.specs.Planes.{Cells, Picture}
use Rattle.lifting.proofs.Sweeps.{Turns, partway, bits_partway}
use Rattle.lifting.proofs.sweep.SweepPass.run.Given as goal

-- for every picture and bits that stood at the start of the sweep
abbrev pub invariant-loop-column : goal.invariant-loop-column
invariant-loop-column g l =
    let P = g.S.Plane in
    let B = g.S.Store in
    let d = g.A.Axis.direction in
    let s = g.T.Step.rule in
    ((p : Picture) (b : Cells Bool)
    → P.picture l.initial.store ≡ partway d s (g.K.Kernel.amounts l.kernel) p l.row 0
    → B.bits l.initial.store ≡ bits_partway d s p b l.row 0
    → Turns d s p l.parity l.rows l.columns
    → (P.picture l.store ≡ partway d s (g.K.Kernel.amounts l.kernel) p l.row l.column)
    × (B.bits l.store ≡ bits_partway d s p b l.row l.column))
    × B.frame false l.initial.store l.store

abbrev pub invariant-loop-row : goal.invariant-loop-row
invariant-loop-row g l =
    let P = g.S.Plane in
    let B = g.S.Store in
    let d = g.A.Axis.direction in
    let s = g.T.Step.rule in
    (P.picture l.store ≡ partway d s (g.K.Kernel.amounts l.kernel) (P.picture l.initial.store) l.row 0)
    × (B.bits l.store ≡ bits_partway d s (P.picture l.initial.store) (B.bits l.initial.store) l.row 0)
    × B.frame false l.initial.store l.store
    × Turns d s (P.picture l.initial.store) l.parity l.rows l.columns
