-- The work on the scratch shows the resolution.
use Rattle.std.proofs.Common.{length, sym, refl, ◌∙◌}
use Rattle.std.proofs.lemmas.Bool.{false≢true}
use Rattle.model.specs.Calls.{previewing, done}
use Rattle.plates.specs.Shows.{seen, lattice_rectangle}
use Rattle.plates.proofs.Showing.{accepted, own_table}
use Rattle.plates.proofs.Previewing.{draws, rest_stays}
use Rattle.plates.proofs.state.Plate.preview.Goals as goal

pub returns : goal.returns
returns g c =
    let o = sym c.in_ok-plan.ensures.declines_by_the_first_row_that_holds in
    let v = seen g.S.Plane g.S.Store g.K.Kernel c.args.self.now in
    let a = lattice_rectangle c.args.first c.args.height c.args.width in
    let call = previewing c.args.card.now a (length c.args.scratch.now) (length c.args.output.now) in
    record {
      declines_by_its_own_table = sym o;
      declined_leaves_the_scratch = λ e. absurd (false≢true (sym e));
      declined_leaves_the_output = λ e. absurd (false≢true (sym e));
      leaves_the_rest_of_the_output = rest_stays v a c.in_ok-plan.plan.levels c.in_ok-plan.level.number (length c.args.scratch.now) c.args.output.now c.preview.new.output _ c.preview.result c.preview.ensures.previews_or_changes_nothing;
      follows_the_plain_plate = λ s p h. accepted s p call v done (sym (own_table s p v h call) ∙ o) h refl;
      shows_the_resolution = λ s p h e.
          draws s p v c.in_ok-plan.plan c.args.card.now a (length c.args.scratch.now) c.args.output.now c.preview.new.output h c.in_ok-plan.ensures.answers_the_plan_and_the_level.0 c.args.self.now.lawful o
          c.in_ok-plan.plan.levels c.in_ok-plan.level.number (λ _. refl) (λ _. c.in_ok-plan.ensures.answers_the_plan_and_the_level.1) _ c.preview.result c.preview.ensures.previews_or_changes_nothing;
    }
