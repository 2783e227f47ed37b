use Rattle.std.proofs.Common.{◌≤◌, length}
use Rattle.skyplate.proofs.take.Given as goal

abbrev pub invariant_loop : goal.invariant_loop
invariant_loop l = l.n ≤ length l.bytes
