use Rattle.model.proofs.Histories.{what_the_history_says}
use Rattle.model.proofs.laws.the_plain_plate_is_what_its_history_says.Goals as goal

pub returns : goal.returns
returns c = record { after_every_list_of_calls = what_the_history_says }
