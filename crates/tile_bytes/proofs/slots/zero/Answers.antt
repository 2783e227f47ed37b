-- The part that there is becomes 0.
use Rattle.std.proofs.Common.{rules}
use Rattle.tile_bytes.proofs.Zeros.{zeroed_part}
use Rattle.tile_bytes.proofs.slots.zero.Goals as goal

pub returns-then-first-end : goal.returns-then-first-end
returns-then-first-end c = record {
  zeroes_the_bytes_between = zeroed_part c.args.first c.args.last c.min-end.result c.args.bytes.now c.fill.new.self c.min-end.ensures c.if-first-end.true (search rules);
}
