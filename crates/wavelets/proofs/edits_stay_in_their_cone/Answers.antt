-- The theorem as proofs/Locality.antt has it.
use Rattle.wavelets.proofs.Locality.{locality}
use Rattle.wavelets.proofs.edits_stay_in_their_cone.Goals as goal

pub returns : goal.returns
returns c = record { transforms_agree_outside_the_cone = locality }
