use Rattle.script_laws.proofs.Splits.{number_of_decimal}
use Rattle.script_laws.proofs.decimal_numbers_are_read.Goals as goal

pub returns : goal.returns
returns c = record { decimal_numbers_are_read = number_of_decimal }
