use Rattle.script_laws.proofs.Splits.{words_of_spaced}
use Rattle.script_laws.proofs.spaced_words_are_read.Goals as goal

pub returns : goal.returns
returns c = record { spaced_words_are_read = words_of_spaced }
