-- The samples so far are the front of the numbers, and what is left decides.
use Rattle.std.proofs.Common.{◌≡◌, take, drop, vec_items}
use Rattle.script_arguments.specs.Arguments.{all_samples}
use Rattle.script_arguments.proofs.arguments.samples_of.Given as goal

abbrev pub invariant-loop-number : goal.invariant-loop-number
invariant-loop-number l = (vec_items l.samples ≡ take l.number-index l.numbers) × (all_samples (drop l.number-index l.numbers) ≡ all_samples l.numbers)
