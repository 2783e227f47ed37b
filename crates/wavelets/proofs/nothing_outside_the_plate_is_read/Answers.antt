-- The theorem as proofs/Undoing.antt has it.
use Rattle.wavelets.proofs.Undoing.{forward_reads, undo_reads}
use Rattle.wavelets.proofs.nothing_outside_the_plate_is_read.Goals as goal

pub returns : goal.returns
returns c = record { by_forward = forward_reads; by_undoing = undo_reads }
