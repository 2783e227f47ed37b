use Rattle.std.proofs.Common.{sym, refl}
use Rattle.std.proofs.lemmas.Bool.{false≢true}
use Rattle.plates.specs.Shows.{seen}
use Rattle.plates.proofs.Laying.{laid_shows, was_laid}
use Rattle.plates.proofs.state.Plate.lay.Goals as goal

pub returns : goal.returns
returns g c =
    let o = sym c.in_ok-levels.ensures.declines_by_the_first_row_that_holds in
    let v = seen g.S.Plane g.S.Store g.K.Kernel c.args.self.now in
    let w = g.S.Plane.picture c.lay.new.store in
    let b = g.S.Store.bits c.lay.new.store in
    record {
      declines_by_its_own_table = sym o;
      declined_leaves_the_store = λ e. absurd (false≢true (sym e));
      keeps_the_kernel = refl;
      follows_the_plain_plate = λ s p h. laid_shows s p v c.args.plan c.args.samples.now h o w b (was_laid s p v c.args.plan c.args.samples.now h o c.lay.result w b (rw c.in_ok-levels.ensures.answers_the_levels at c.lay.ensures.lays_or_changes_nothing));
    }
