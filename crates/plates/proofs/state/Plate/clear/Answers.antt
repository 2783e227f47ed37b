-- The picture is the same, and no bit is set.
use Rattle.std.proofs.Common.{sym, refl, ◌∙◌, rules}
use Rattle.model.specs.Calls.{clearing, done}
use Rattle.plates.proofs.Showing.{accepted, own_table, cleared_shows}
use Rattle.plates.proofs.state.Plate.clear.Goals as goal

pub returns : goal.returns
returns g c = record {
  declines_by_its_own_table = search rules;
  declined_leaves_the_store = search rules;
  keeps_the_kernel = search rules;
  follows_the_plain_plate = λ s p h.
      accepted s p clearing _ done (sym (own_table s p _ h clearing) ∙ (let e = c.in_ok-check_clearing.ensures.declines_by_the_first_row_that_holds in search rules))
      (cleared_shows s p _ _ _ h (search rules) (search rules)) refl;
}
