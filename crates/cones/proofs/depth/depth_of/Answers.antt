use Rattle.std.proofs.Common.{◌≡◌, sym, ◌∙◌, arith}
use Rattle.cones.proofs.Depths.{depth_is}
use Rattle.cones.proofs.depth.depth_of.Goals as goal

pub returns-then-not-is_on : goal.returns-then-not-is_on
returns-then-not-is_on c =
    record { is_the_depth = depth_is c.args.levels.number c.loop-number.number c.args.row c.args.column (omega arith) c.loop-number.invariant (λ g. sym c.is_on.ensures.is_on_the_lattice ∙ c.if-not-is_on.true) }

pub returns : goal.returns
returns c =
    let e : c.loop-number.number ≡ c.args.levels.number = omega arith in
    let d = depth_is c.args.levels.number c.args.levels.number c.args.row c.args.column (omega arith) (rw e at c.loop-number.invariant) (λ g. absurd (omega arith)) in
    record { is_the_depth = omega (arith, d) }
