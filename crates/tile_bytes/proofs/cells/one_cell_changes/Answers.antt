-- Cell by cell.
use Rattle.tile_bytes.proofs.OneCell.{put_changes_one_cell, unset_changes_one_bit}
use Rattle.tile_bytes.proofs.cells.one_cell_changes.Goals as goal

pub returns : goal.returns
returns c = record { put_changes_one_cell = put_changes_one_cell; unset_changes_one_bit = unset_changes_one_bit }
