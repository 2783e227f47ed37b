-- The theorem as proofs/Locality.antt has it.
use Rattle.wavelets.proofs.Locality.{cone_anew}
use Rattle.wavelets.proofs.putting_the_cone_anew_gives_the_edited_transform.Goals as goal

pub returns : goal.returns
returns c = record { cells_are_the_edited_transform = cone_anew }
