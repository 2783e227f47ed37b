-- The theorem as proofs/Growth.antt has it.
use Rattle.std.proofs.Common.{arith}
use Rattle.wavelets.proofs.Growth.{forward_within, undoing_within}
use Rattle.wavelets.proofs.the_budget_holds_at_every_step.Goals as goal

pub returns : goal.returns
returns c = record { forward_stays_within_it = forward_within _ (omega arith); undoing_stays_within_it = undoing_within _ (omega arith) }
