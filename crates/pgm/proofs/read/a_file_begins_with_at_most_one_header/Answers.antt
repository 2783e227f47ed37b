use Rattle.pgm.proofs.Unique.{at_most_one_header}
use Rattle.pgm.proofs.read.a_file_begins_with_at_most_one_header.Goals as goal

pub returns : goal.returns
returns c = record { a_file_begins_with_at_most_one_header = at_most_one_header }
