-- The cone's cells are put from the work store, which shows the edited transform.
use Rattle.std.proofs.Common.{◌≡◌, true, length, sym, arith}
use Rattle.overlays.specs.Samples.{samples_at}
use Rattle.cones.specs.Cones.{cone_cells}
use Rattle.works.specs.Works.{settles_there, cone_of}
use Rattle.works.proofs.Settled.{CanSettle, can_settle, settled, few}
use Rattle.works.proofs.transform.Transform.settle.Goals as goal

made : goal.returns-clause-settles_or_changes_nothing
made g c =
    let R = c.rows-rows.result in let C = c.columns-columns.result in
    let tall = c.rows-rows.ensures.is_the_height in let wide = c.columns-columns.ensures.is_the_width in
    let p = g.S.Plane.picture c.args.store.now in
    let L = c.args.self.now.levels.number in
    let cells : cone_cells c.in_ok-cone.cone ≡ cone_of p c.args.rectangle L = rw (tall, wide) at c.in_ok-cone.ensures.has_the_cells_of_the_rectangles_cone.3 in
    let there : settles_there p.height p.width c.args.rectangle (length c.args.samples.now) (length c.args.scratch.now) ≡ true = rw (tall, wide) at (sym c.if-not-can_settle.ensures.is_whether_all_fits) in
    let put = c.overlay-count.ensures in (
      there,
      settled (g.K.Kernel.amounts c.args.self.now.kernel.now) L c.args.rectangle (samples_at c.args.samples.now) p _ (g.S.Store.bits c.args.store.now) _ _ c.overlay-count.result (cone_cells c.in_ok-cone.cone) cells
          c.reworked-work.ensures.has_the_same_sides c.reworked-work.ensures.shows_the_edited_transform put.puts_the_sources_numbers put.sets_their_bits put.counts_the_puts,
    )

pub returns-clause-settles_or_changes_nothing : goal.returns-clause-settles_or_changes_nothing
returns-clause-settles_or_changes_nothing g c = made g c

pub overflow_cast-result : goal.overflow_cast-result
overflow_cast-result g c =
    let R = c.rows-rows.result in let C = c.columns-columns.result in
    let p = g.S.Plane.picture c.args.store.now in
    let can : CanSettle p.height p.width c.args.rectangle (length c.args.samples.now) (length c.args.scratch.now) =
    rw (c.rows-rows.ensures.is_the_height, c.columns-columns.ensures.is_the_width) at (can_settle R C c.args.rectangle (length c.args.samples.now) (length c.args.scratch.now) c.if-not-can_settle.ensures.is_whether_all_fits) in
    omega (arith, (made g c).1.count, few p.height p.width _ (cone_of p c.args.rectangle c.args.self.now.levels.number) can.scratch)
