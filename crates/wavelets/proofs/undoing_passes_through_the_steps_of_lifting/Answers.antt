-- The theorem as proofs/Undoing.antt has it.
use Rattle.wavelets.proofs.Undoing.{same_steps}
use Rattle.wavelets.proofs.undoing_passes_through_the_steps_of_lifting.Goals as goal

pub returns : goal.returns
returns c = record { step_for_step = same_steps }
