-- The commands of a script, which are those of its lines.
pub use Rattle.script_commands.specs.Commands.{Start, plate, file, Request, lay, lease, settle, surrender, recall, preview, read, clear, Finish, sheet, save, Command, start, request, finish, buffer_length, blank_record, blank_records, zeros}
use Rattle.std.specs.Prelude.{List}

-- A whole script.
pub record Commands : Type 0 where
  pub start_of : Start
  pub requests : List Request
  pub finishes : List Finish
