use Rattle.script_laws.proofs.Texts.{written_is_read}
use Rattle.script_laws.proofs.what_is_written_is_read.Goals as goal

pub returns : goal.returns
returns c = record { what_is_written_is_read = written_is_read }
