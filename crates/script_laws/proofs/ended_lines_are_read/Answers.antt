use Rattle.script_laws.proofs.Splits.{lines_of_ended}
use Rattle.script_laws.proofs.ended_lines_are_read.Goals as goal

pub returns : goal.returns
returns c = record { ended_lines_are_read = lines_of_ended }
