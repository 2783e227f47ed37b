-- The theorem as proofs/Cases.antt has it.
use Rattle.wavelets.proofs.Cases.{worked_cases}
use Rattle.wavelets.proofs.worked_cases_hold.Goals as goal

pub returns : goal.returns
returns c = record { every_case_of_the_list = worked_cases }
