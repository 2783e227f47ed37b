use Rattle.faults.proofs.FirstIndex.{at_most, holds_there, fails_before}
use Rattle.faults.proofs.tables.the_first_index_is_the_first.Goals as goal

pub returns : goal.returns
returns c = record { the_first_index_is_the_first = λ test n. (at_most test n, holds_there test n, fails_before test n) }
