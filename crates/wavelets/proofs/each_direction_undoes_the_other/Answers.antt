-- The theorem as proofs/Undoing.antt has it.
use Rattle.wavelets.proofs.Undoing.{inverse_undoes_forward, forward_undoes_inverse}
use Rattle.wavelets.proofs.each_direction_undoes_the_other.Goals as goal

pub returns : goal.returns
returns c = record { the_inverse_undoes_the_transform = inverse_undoes_forward; the_transform_undoes_the_inverse = forward_undoes_inverse }
