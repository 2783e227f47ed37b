-- The list of steps, as turns from the plate just made.
use Rattle.std.proofs.Common.{[], ◌∙◌, subst}
use Rattle.model.specs.Plain.{fresh}
use Rattle.plates.specs.Shows.{View, seen, setting_of, Shows}
use Rattle.plates.specs.Runs.{just_made, Steps}
use Rattle.plates.proofs.Running.{turned}
use Rattle.plates.proofs.run.run.Goals as goal

pub returns : goal.returns
returns g c =
    let v = just_made g.S.Plane g.S.Store g.K.Kernel c.args.number c.args.store c.args.kernel in
    let w = seen g.S.Plane g.S.Store g.K.Kernel c.play.new.plate in
    record {
      after_every_call_nothing_differs =
          turned (setting_of v) [] v w c.args.turns.now c.play.new.turns
          (subst (λ (z : View). Shows (setting_of z) (fresh (setting_of z)) z) c.new-plate.ensures.is_just_made c.new-plate.ensures.shows_the_fresh_plain_plate)
          (subst (λ (z : View). Steps z c.args.turns.now c.play.new.turns w) c.new-plate.ensures.is_just_made c.play.ensures.does_each_call);
      has_the_kernel = c.play.ensures.keeps_the_kernel ∙ c.new-plate.ensures.keeps_the_kernel;
    }
