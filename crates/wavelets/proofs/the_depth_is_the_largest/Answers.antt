-- The theorem as proofs/Spans.antt has it.
use Rattle.wavelets.proofs.Spans.{depth_largest}
use Rattle.wavelets.proofs.the_depth_is_the_largest.Goals as goal

pub returns : goal.returns
returns c = record { of_those_up_to_the_levels = depth_largest }
