-- The two cases of rounding up.
use Rattle.std.proofs.Common.{arith}
use Rattle.planes.proofs.Lattices.{side_some}
use Rattle.planes.proofs.level.divided_up.Goals as goal

pub returns-else-count-eq0 : goal.returns-else-count-eq0
returns-else-count-eq0 c = record { is_the_quotient_rounded_up = side_some _ _ (omega arith) }
