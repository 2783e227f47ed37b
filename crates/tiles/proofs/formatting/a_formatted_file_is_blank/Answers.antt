-- Place by place.
use Rattle.tiles.proofs.Blank.{a_formatted_file_is_blank}
use Rattle.tiles.proofs.formatting.a_formatted_file_is_blank.Goals as goal

pub returns : goal.returns
returns c = record { a_formatted_file_is_blank = a_formatted_file_is_blank }
