-- What is left of the text, after the draft and at its line, states what the whole does.
use Rattle.std.proofs.Common.{◌≡◌, ◌+◌, ◌≤◌, length}
use Rattle.script_words.specs.Words.{lines}
use Rattle.scripts.specs.Scripts.{script_from, script_of}
use Rattle.scripts.specs.Meanings.{draft_meaning}
use Rattle.scripts.proofs.script.read_script.Given as goal

abbrev pub invariant-loop-words : goal.invariant-loop-words
invariant-loop-words l = record {
  same_script : script_from (draft_meaning l.draft) l.line (lines l.words-iterator.0.now) ≡ script_of l.text;
  counted : l.line + length (lines l.words-iterator.0.now) ≤ length l.text + 1;
}
