-- The theorem as proofs/Growth.antt has it.
use Rattle.wavelets.proofs.Growth.{five_three_lawful, s_transform_lawful}
use Rattle.wavelets.proofs.both_kernels_keep_the_law.Goals as goal

pub returns : goal.returns
returns c = record { five_three_keeps_it = five_three_lawful; s_transform_keeps_it = s_transform_lawful }
