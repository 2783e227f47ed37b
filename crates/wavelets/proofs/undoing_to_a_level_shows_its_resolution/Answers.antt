-- The theorem as proofs/Undoing.antt has it.
use Rattle.wavelets.proofs.Undoing.{undo_leaves_rounds, undo_shows_resolution}
use Rattle.wavelets.proofs.undoing_to_a_level_shows_its_resolution.Goals as goal

pub returns : goal.returns
returns c = record { leaves_the_rounds_below = undo_leaves_rounds; shows_the_resolution = undo_shows_resolution }
