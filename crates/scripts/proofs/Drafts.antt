-- One more line of a text.
use Rattle.std.proofs.Common.{◌≡◌, ℕ, ◌+◌, List, [], ◌∷◌, Ok, Err, refl}
use Rattle.script_words.proofs.Fronts.{pieces_are_few}
use Rattle.script_arguments.specs.declared.mistake.Mistake.{Mistake}
use Rattle.script_commands.specs.Lines.{command_of}
use Rattle.scripts.specs.Scripts.{Draft, continued, concluded, script_from}

pub line_more : (d : Draft) (n : ℕ) (l : List ℕ) (ls : List (List ℕ)) (e : Draft) → continued d (command_of l) ≡ Ok e
    → script_from d n (l ∷ ls) ≡ script_from e (n + 1) ls
unfolding script_from
line_more d n l ls e told = rw (told, script_from)

pub line_wrong : (d : Draft) (n : ℕ) (l : List ℕ) (ls : List (List ℕ)) (m : Mistake) → continued d (command_of l) ≡ Err m
    → script_from d n (l ∷ ls) ≡ Err (record { line = n; mistake = m })
unfolding script_from
line_wrong d n l ls m told = rw (told, script_from)

pub lines_end : (d : Draft) (n : ℕ) → script_from d n [] ≡ concluded d.start_so_far d.requests_so_far d.finishes_so_far n
unfolding script_from
lines_end d n = refl

pub ruleset texts = (line_more, line_wrong, lines_end, pieces_are_few)
