-- Row by row of the table.
use Rattle.tiles.proofs.Opened.{an_opened_file_is_sound}
use Rattle.tiles.proofs.opening.an_opened_file_is_sound.Goals as goal

pub returns : goal.returns
returns c = record { an_opened_file_is_sound = an_opened_file_is_sound }
