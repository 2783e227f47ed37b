-- What is left has the words of the line, and is no longer.
use Rattle.std.proofs.Common.{◌≡◌, ◌≤◌, length}
use Rattle.script_words.specs.Words.{words}
use Rattle.script_words.proofs.pieces.next_word.Given as goal

abbrev pub invariant-loop-piece : goal.invariant-loop-piece
invariant-loop-piece l = (words l.rest ≡ words l.line) × (length l.rest ≤ length l.line)

abbrev pub decreases-loop-piece : goal.decreases-loop-piece
decreases-loop-piece l = length l.rest
