-- The values of the code as scripts, and what the reading of a script promises.
pub use Rattle.script_commands.specs.Meanings.{meaning, start_meaning, finish_meaning, command_meaning}
pub use Rattle.scripts.specs.Pending.{AllPending}
use Rattle.std.specs.Prelude.{◌≡◌, ℕ, map, Ok, Err, vec_items, Result}
use Rattle.std.specs.Option.{option_map}
use Rattle.plates.specs.declared.calls.Turn.{Turn}
use Rattle.script_arguments.specs.declared.flaw.OrMemory.{OrMemory}
use Rattle.script_arguments.specs.declared.flaw.OrMemory.TheVariants as flaw
use Rattle.script_arguments.specs.declared.mistake.Mistake.{Mistake}
use Rattle.scripts.specs.declared.script.Script.{Script}
use Rattle.scripts.specs.declared.script.Wrong.{Wrong}
use Rattle.scripts.specs.declared.state.Draft as drafts
use Rattle.scripts.specs.Commands.{Request, Commands}
use Rattle.scripts.specs.Scripts.{Draft}

abbrev pub turn_meaning : Turn → Request
turn_meaning t = meaning t.call

abbrev pub script_meaning : Script → Commands
script_meaning s = record {
  start_of = start_meaning s.opening;
  requests = map turn_meaning (vec_items s.turns);
  finishes = map finish_meaning (vec_items s.endings);
}

abbrev pub draft_meaning : drafts.Draft → Draft
draft_meaning d = record {
  start_so_far = option_map start_meaning d.opening;
  requests_so_far = map turn_meaning (vec_items d.turns);
  finishes_so_far = map finish_meaning (vec_items d.endings);
}

-- What the reading of a script promises: the commands of the text, or its first line in error; of want of memory nothing is said.
abbrev pub ScriptRead : Result Script (OrMemory Wrong) → Result Commands Wrong → Type 0
ScriptRead (Ok s) told = (told ≡ Ok (script_meaning s)) × AllPending (vec_items s.turns)
ScriptRead (Err (flaw.Error w)) told = told ≡ Err w
ScriptRead (Err flaw.Memory) told = Unit {0}

-- A flaw in a line.
abbrev pub trouble_at : ℕ → OrMemory Mistake → OrMemory Wrong
trouble_at line (flaw.Error m) = flaw.Error (record { line = line; mistake = m })
trouble_at line flaw.Memory = flaw.Memory
