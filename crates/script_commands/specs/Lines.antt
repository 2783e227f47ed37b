-- What a line states: nothing, a command, or a mistake.
use Rattle.std.specs.Prelude.{ℕ, cond, List, [], ◌∷◌, drop, Some, None, Ok, Err, Option, ◌==◌, nat_le, slice_index}
use Rattle.std.specs.Option.{ok_or}
use Rattle.script_words.specs.Words.{words}
use Rattle.model.specs.declared.plan.Plan.{Plan}
use Rattle.script_arguments.specs.declared.names.CallName.{CallName}
use Rattle.script_arguments.specs.declared.names.CallName.TheVariants.{Lay, Lease, Settle, Surrender, Recall, Preview, Read, Clear}
use Rattle.script_arguments.specs.declared.names.Name.{Name}
use Rattle.script_arguments.specs.declared.names.Name.TheVariants.{Plate, Open, Call, Sheet, Save}
use Rattle.script_arguments.specs.declared.mistake.Mistake.TheVariants.{NoSuchCommand, NotANumber, IssueTooLarge}
use Rattle.script_arguments.specs.Names.{name_of}
use Rattle.script_arguments.specs.Arguments.{Reading, and_then, with, first_word, first_number, first_kernel, no_more, numbers, nth, at_least, exactly, samples}
use Rattle.script_commands.specs.Commands.{Start, plate, file, Request, lay, lease, settle, surrender, recall, preview, read, clear, Finish, sheet, save, Command, start, request, finish, blank_records, zeros}

-- plate NUMBER KERNEL ROWS COLUMNS
abbrev pub plate_of : List (List ℕ) → Reading Start
plate_of ws =
    and_then (first_number ws) λ n. and_then (first_kernel n.1) λ k. and_then (first_number k.1) λ r. and_then (first_number r.1) λ c.
    and_then (no_more c.1) λ e. Ok (plate n.0 k.0 r.0 c.0)

-- open PATH NUMBER KERNEL
abbrev pub file_of : List (List ℕ) → Reading Start
file_of ws =
    and_then (first_word ws) λ p. and_then (first_number p.1) λ n. and_then (first_kernel n.1) λ k.
    and_then (no_more k.1) λ e. Ok (file p.0 n.0 k.0)

-- save PATH
abbrev pub save_of : List (List ℕ) → Reading Finish
save_of ws = and_then (first_word ws) λ p. and_then (no_more p.1) λ e. Ok (save p.0)

-- the first four numbers as a plan
abbrev pub plan_in : List ℕ → Plan
plan_in ns = record { rows = nth ns 0; columns = nth ns 1; top = nth ns 2; levels = nth ns 3 }

-- lay ROWS COLUMNS TOP LEVELS SAMPLE..
-- lease ROW COLUMN HEIGHT WIDTH
-- settle PLATE SERIAL RECORDS SAMPLE..
-- surrender PLATE SERIAL
-- recall
-- preview LEVEL ROW COLUMN HEIGHT WIDTH RECORDS ROOM
-- read LEVEL ROW COLUMN
-- clear
abbrev pub call_of : CallName → List ℕ → Reading Request
call_of Lay ns = at_least 4 ns (with (lay (plan_in ns)) (samples (drop 4 ns)))
call_of Lease ns = exactly 4 ns (Ok (lease (nth ns 0) (nth ns 1) (nth ns 2) (nth ns 3)))
call_of Settle ns = at_least 3 ns (with (settle (nth ns 0) (nth ns 1) (blank_records (nth ns 2))) (samples (drop 3 ns)))
call_of Surrender ns = exactly 2 ns (Ok (surrender (nth ns 0) (nth ns 1)))
call_of Recall ns = exactly 0 ns (Ok recall)
call_of Preview ns = exactly 7 ns (Ok (preview (nth ns 0) (nth ns 1) (nth ns 2) (nth ns 3) (nth ns 4) (blank_records (nth ns 5)) (zeros (nth ns 6))))
call_of Read ns = exactly 3 ns (Ok (read (nth ns 0) (nth ns 1) (nth ns 2)))
call_of Clear ns = exactly 0 ns (Ok clear)

-- sheet ISSUE ROOM
abbrev pub sheet_of : List ℕ → Reading Finish
sheet_of ns = exactly 2 ns (cond (nat_le (nth ns 0) 65535) (Ok (sheet (nth ns 0) (nth ns 1))) (Err IssueTooLarge))

-- the command of a name with the words after it
abbrev pub stated : Name → List (List ℕ) → Reading Command
stated Plate ws = with start (plate_of ws)
stated Open ws = with start (file_of ws)
stated (Call name) ws = with request (and_then (ok_or (numbers ws) NotANumber) (call_of name))
stated Sheet ws = with finish (and_then (ok_or (numbers ws) NotANumber) sheet_of)
stated Save ws = with finish (save_of ws)

-- A line without words and one whose first word begins with '#' state nothing.
abbrev pub stated_by : List (List ℕ) → Reading (Option Command)
stated_by [] = Ok None
stated_by (word ∷ others) = cond (slice_index word 0 == 35) (Ok None) (with Some (and_then (ok_or (name_of word) NoSuchCommand) λ name. stated name others))

abbrev pub command_of : List ℕ → Reading (Option Command)
command_of line = stated_by (words line)
