-- The front of an output that a sheet was written to.
use Rattle.std.proofs.Common.{◌≡◌, ℕ, List, length, take, None, Option, sym, ap, ◌∙◌}
use Rattle.std.proofs.lemmas.List.{take_at}
use Rattle.faults.specs.Tables.{first_fault}
use Rattle.frames.specs.Frames.{over}
use Rattle.model.specs.declared.plan.Plan.{Plan}
use Rattle.plates.specs.Sheets.{sheet_table}
use Rattle.workshop_job.specs.Endings.{or_its_fault}

pub front_of_over : (out text : List ℕ) (n : ℕ) → n ≡ length text → take n (over out 0 text) ≡ text
unfolding over
front_of_over out text n e = take_at text _ n (sym e)

-- a sheet that is not declined is printed itself
pub none_declined : (plan : Option Plan) (text : List ℕ) (m room : ℕ) → m ≡ room → first_fault (sheet_table plan text m) ≡ None → text ≡ or_its_fault (first_fault (sheet_table plan text room)) text
none_declined plan text m room e d = ap (λ o. or_its_fault o text) (sym d ∙ ap (λ q. first_fault (sheet_table plan text q)) e)
