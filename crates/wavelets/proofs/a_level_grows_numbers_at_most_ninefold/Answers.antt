-- The theorem as proofs/Growth.antt has it.
use Rattle.std.proofs.Common.{arith}
use Rattle.wavelets.proofs.Growth.{steps_grow, nine_serves, nine_needed}
use Rattle.wavelets.proofs.a_level_grows_numbers_at_most_ninefold.Goals as goal

pub returns : goal.returns
returns c = record { step_by_step = steps_grow; level_by_level = nine_serves _ (omega arith); by_no_smaller_factor = nine_needed _ (omega arith) }
