use Rattle.sheets.proofs.Sizes.{length_sheet}
use Rattle.sheets.proofs.laws.a_sheet_has_its_bytes.Goals as goal

pub returns : goal.returns
returns c = record { by_its_runs_and_cells = length_sheet }
