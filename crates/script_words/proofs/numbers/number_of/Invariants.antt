-- What is left is read after the digits so far as the whole word is.
use Rattle.std.proofs.Common.{◌≡◌, ◌≤◌, drop}
use Rattle.script_words.specs.Numbers.{number}
use Rattle.script_words.proofs.Digits.{number_after}
use Rattle.script_words.proofs.numbers.number_of.Given as goal

abbrev pub invariant-loop-b : goal.invariant-loop-b
invariant-loop-b l = (number_after l.n (drop l.b-index l.word) ≡ number l.word) × (l.n ≤ 4294967295)
