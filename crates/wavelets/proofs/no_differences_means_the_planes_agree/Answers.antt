-- The theorem as proofs/Counts.antt has it.
use Rattle.wavelets.proofs.Counts.{no_number_differs, no_bit_differs}
use Rattle.wavelets.proofs.no_differences_means_the_planes_agree.Goals as goal

pub returns : goal.returns
returns c = record { of_numbers = no_number_differs; of_bits = no_bit_differs }
