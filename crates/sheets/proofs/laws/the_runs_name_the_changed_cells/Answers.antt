use Rattle.sheets.proofs.Naming.{the_runs_name}
use Rattle.sheets.proofs.Only.{only_these}
use Rattle.sheets.proofs.laws.the_runs_name_the_changed_cells.Goals as goal

pub returns : goal.returns
returns c = record { in_runs_of_at_most_sixteen = the_runs_name; as_no_other_runs_do = only_these }
