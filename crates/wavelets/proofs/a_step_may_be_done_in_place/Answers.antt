-- The theorem as proofs/Steps.antt has it.
use Rattle.wavelets.proofs.Steps.{in_place}
use Rattle.wavelets.proofs.a_step_may_be_done_in_place.Goals as goal

pub returns : goal.returns
returns c = record { in_any_order = in_place }
