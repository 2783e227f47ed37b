use Rattle.std.proofs.Common.{◌≡◌, take, string_bytes}
use Rattle.answers.specs.Lines.{answer_lines}
use Rattle.answers.proofs.lines.answer_lines.Given as goal

abbrev pub invariant-loop-turn : goal.invariant-loop-turn
invariant-loop-turn l = string_bytes l.text ≡ answer_lines (take l.turn-index l.turns)
