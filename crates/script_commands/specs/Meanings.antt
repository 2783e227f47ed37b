-- The values of the code as commands.
use Rattle.std.specs.Prelude.{vec_items}
use Rattle.plates.specs.declared.calls.Call.{Call}
use Rattle.plates.specs.declared.calls.Call.TheVariants.{Lay, Lease, Settle, Surrender, Recall, Preview, Read, Clear}
use Rattle.script_commands.specs.declared.values.Opening.{Opening}
use Rattle.script_commands.specs.declared.values.Opening.TheVariants.{Plate, Open}
use Rattle.script_commands.specs.declared.values.Ending.{Ending}
use Rattle.script_commands.specs.declared.values.Ending.TheVariants.{Sheet, Save}
use Rattle.script_commands.specs.declared.values.Command as coded
use Rattle.script_commands.specs.declared.values.Command.TheVariants as variants
use Rattle.script_commands.specs.Commands.{Start, plate, file, Request, lay, lease, settle, surrender, recall, preview, read, clear, Finish, sheet, save, Command, start, request, finish}

abbrev pub meaning : Call → Request
meaning (Lay plan samples) = lay plan (vec_items samples)
meaning (Lease first height width) = lease first.row first.column height width
meaning (Settle number serial samples scratch) = settle number serial (vec_items scratch) (vec_items samples)
meaning (Surrender number serial) = surrender number serial
meaning Recall = recall
meaning (Preview card first height width scratch output) = preview card.level first.row first.column height width (vec_items scratch) (vec_items output)
meaning (Read card at) = read card.level at.row at.column
meaning Clear = clear

abbrev pub start_meaning : Opening → Start
start_meaning (Plate number kernel rows columns) = plate number kernel rows columns
start_meaning (Open path number kernel) = file (vec_items path) number kernel

abbrev pub finish_meaning : Ending → Finish
finish_meaning (Sheet issue room) = sheet issue room
finish_meaning (Save path) = save (vec_items path)

abbrev pub command_meaning : coded.Command → Command
command_meaning (variants.Opening o) = start (start_meaning o)
command_meaning (variants.Call c) = request (meaning c)
command_meaning (variants.Ending e) = finish (finish_meaning e)
