-- The numbers so far, before those of the words that are left, are those of the line.
use Rattle.std.proofs.Common.{◌≡◌, vec_items}
use Rattle.script_words.specs.Words.{words}
use Rattle.script_arguments.specs.Arguments.{numbers}
use Rattle.script_arguments.proofs.Lists.{after}
use Rattle.script_arguments.proofs.arguments.numbers_of.Given as goal

abbrev pub invariant-loop-word : goal.invariant-loop-word
invariant-loop-word l = after (vec_items l.all) (numbers (words l.word-iterator.0.now)) ≡ numbers (words l.line)
