-- A mask of 1 leaves the lowest bit.
use Rattle.std.proofs.Common.{eqb, ap}
use Rattle.tile_bytes.proofs.Masks.{lowest}
use Rattle.tile_bytes.proofs.bits.is_odd.Goals as goal

pub returns : goal.returns
returns c = record { tells_the_lowest_bit = ap (λ n. eqb n 1) (lowest c.args.byte) }
