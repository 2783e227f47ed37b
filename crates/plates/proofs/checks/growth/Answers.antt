-- No power is larger than that of five levels.
use Rattle.std.proofs.Common.{ℕ, ◌^◌, ◌≤◌, arith}
use Rattle.std.proofs.Math.Nat.{pow-le-pow_right}
use Rattle.plates.proofs.checks.growth.Goals as goal

at_most : (k : ℕ) → k ≤ 5 → 9 ^ k ≤ 59049
at_most k h = pow-le-pow_right {n = 9} (omega arith) h

pub pow-requires : goal.pow-requires
pow-requires c = omega (arith, at_most c.args.levels.number c.args.levels.at_most_five)

pub returns-clause-is_small : goal.returns-clause-is_small
returns-clause-is_small c = omega (arith, c.pow.ensures, at_most c.args.levels.number c.args.levels.at_most_five)
