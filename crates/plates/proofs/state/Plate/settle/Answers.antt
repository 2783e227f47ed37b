-- The work on the store, and then the lease is ended.
use Rattle.std.proofs.Common.{◌≡◌, length, None, sym, refl, ap, ◌∙◌, rules}
use Rattle.std.proofs.lemmas.Bool.{false≢true}
use Rattle.model.specs.Calls.{settled, samples_of, settling}
use Rattle.plates.specs.Shows.{seen, own_fault}
use Rattle.plates.proofs.Settling.{settles}
use Rattle.plates.proofs.state.Plate.settle.Goals as goal

pub returns : goal.returns
returns g c =
    let v = seen g.S.Plane g.S.Store g.K.Kernel c.args.self.now in
    let xs = samples_of c.args.samples.now in
    let n = length c.args.scratch.now in
    let o : own_fault v (settling c.args.lease.plate c.args.lease.serial xs n) ≡ None =
    ap (λ z. own_fault v (settling z c.args.lease.serial xs n)) (sym c.spent-plate.ensures.answers_the_plates_number)
    ∙ ap (λ z. own_fault v (settling c.spent-plate.result.0 z xs n)) (sym c.spent-plate.ensures.answers_the_serial)
    ∙ sym c.in-Ok.ensures.declines_by_the_first_row_that_holds in
    record {
      declines_by_its_own_table = sym o;
      declined_leaves_the_store = λ e. absurd (false≢true (sym e));
      declined_leaves_the_scratch = λ e. absurd (false≢true (sym e));
      keeps_the_kernel = refl;
      follows_the_plain_plate = λ s p h.
          let r = settles s p v c.in-Ok.leased.0 c.in-Ok.leased.1 c.args.lease.plate c.args.lease.serial c.args.samples.now (length c.args.scratch.now) h
          c.in-Ok.ensures.answers_the_plan_and_the_rectangle.0 c.in-Ok.ensures.answers_the_plan_and_the_rectangle.1 c.args.self.now.lawful o c.in-Ok.leased.0.levels (λ _. refl)
          (g.S.Plane.picture c.settle-count.new.store) (g.S.Store.bits c.settle-count.new.store) _ c.settle-count.result c.settle-count.ensures.settles_or_changes_nothing in
          (r.0, ap settled (search rules) ∙ r.1);
    }
