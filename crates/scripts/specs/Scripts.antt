-- What a text states: a whole script, or its first line in error.
use Rattle.std.specs.Prelude.{ℕ, ◌+◌, cond, not, List, [], ◌∷◌, ◌++◌, length, is_some, Some, None, Ok, Err, Option, Result, ◌==◌}
use Rattle.script_words.specs.Words.{lines}
use Rattle.script_arguments.specs.declared.mistake.Mistake.TheVariants.{OpeningMissing, OpeningRepeated, CallAfterEnding, NoPlate}
use Rattle.scripts.specs.declared.script.Wrong.{Wrong}
use Rattle.scripts.specs.Commands.{Start, Request, Finish, Command, start, request, finish, Commands}
use Rattle.script_arguments.specs.Arguments.{Reading}
use Rattle.script_commands.specs.Lines.{command_of}

-- The commands of the lines so far.
pub record Draft : Type 0 where
  pub start_so_far : Option Start
  pub requests_so_far : List Request
  pub finishes_so_far : List Finish

abbrev pub no_draft : Draft
no_draft = record { start_so_far = None; requests_so_far = []; finishes_so_far = [] }

-- One more command, if it may stand there: plate or open comes first and once, and no call after a sheet or a saving.
abbrev pub added : Draft → Command → Reading Draft
added d (start s) = cond (is_some d.start_so_far) (Err OpeningRepeated) (Ok (record { start_so_far = Some s; requests_so_far = d.requests_so_far; finishes_so_far = d.finishes_so_far }))
added d (request c) =
    cond (not (is_some d.start_so_far)) (Err OpeningMissing)
    (cond (not (length d.finishes_so_far == 0)) (Err CallAfterEnding)
    (Ok (record { start_so_far = d.start_so_far; requests_so_far = d.requests_so_far ++ c ∷ []; finishes_so_far = d.finishes_so_far })))
added d (finish f) =
    cond (not (is_some d.start_so_far)) (Err OpeningMissing)
    (Ok (record { start_so_far = d.start_so_far; requests_so_far = d.requests_so_far; finishes_so_far = d.finishes_so_far ++ f ∷ [] }))

-- One more line, by what it states.
abbrev pub continued : Draft → Reading (Option Command) → Reading Draft
continued d (Ok None) = Ok d
continued d (Ok (Some c)) = added d c
continued d (Err m) = Err m

-- The end of the text: a script without a command has no plate.
abbrev pub concluded : Option Start → List Request → List Finish → ℕ → Result Commands Wrong
concluded None cs fs line = Err (record { line = line; mistake = NoPlate })
concluded (Some s) cs fs line = Ok (record { start_of = s; requests = cs; finishes = fs })

-- The lines that are left, the first of them with its number. The first line in error is the one that counts.
unfoldable pub script_from : Draft → ℕ → List (List ℕ) → Result Commands Wrong
script_from d line [] = concluded d.start_so_far d.requests_so_far d.finishes_so_far line
script_from d line (l ∷ ls) = elim (continued d (command_of l)) [ Ok e ↦ script_from e (line + 1) ls | Err m ↦ Err (record { line = line; mistake = m }) ]

abbrev pub script_of : List ℕ → Result Commands Wrong
script_of text = script_from no_draft 1 (lines text)
