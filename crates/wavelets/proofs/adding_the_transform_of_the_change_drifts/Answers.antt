-- The two tables as proofs/Cases.antt has them.
use Rattle.wavelets.proofs.Cases.{edited_row, change_added}
use Rattle.wavelets.proofs.adding_the_transform_of_the_change_drifts.Goals as goal

pub returns : goal.returns
returns c = record { the_edited_row_has_these_cells = edited_row; adding_gives_one_unit_more = change_added }
