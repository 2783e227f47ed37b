-- The theorems as proofs/Lengths.antt has it.
use Rattle.workshop_job.proofs.Lengths.{longer_buffers, longer_outputs}
use Rattle.workshop_job.proofs.buffers.longer_buffers_change_no_verdict.Goals as goal

pub returns : goal.returns
returns c = record { after_every_list_of_calls = longer_buffers; of_any_sheet = longer_outputs }
