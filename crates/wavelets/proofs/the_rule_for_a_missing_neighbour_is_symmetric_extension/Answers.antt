-- The theorem as proofs/Extension.antt has it.
use Rattle.wavelets.proofs.Extension.{lifts_as_the_standard, undoes_as_the_standard, one_stays}
use Rattle.wavelets.proofs.the_rule_for_a_missing_neighbour_is_symmetric_extension.Goals as goal

pub returns : goal.returns
returns c = record { in_lifting = lifts_as_the_standard; in_undoing = undoes_as_the_standard; one_number_stays = one_stays }
