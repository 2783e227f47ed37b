use Rattle.std.proofs.Common.{◌^◌, ◌<◌, ◌≤◌, false, ◌∙◌}
use Rattle.lifting.specs.Walks.{walked_rows, walked_columns}
use Rattle.lifting.proofs.Sweeps.{turns, turn_counted, turn_changes, turn_done, turn_marked, partway_none, partway_row, partway_all, partway_size, bits_none, bits_row, bits_all}
use Rattle.lifting.proofs.sweep.SweepPass.run.Goals as goal

pub loop-row-init : goal.loop-row-init
loop-row-init g c =
    let t = turns g.A.Axis.direction g.T.Step.rule (g.S.Plane.picture c.args.store) _ _ _ _ _ c.parity-parity.ensures.is_the_parity c.parity-parity.ensures.is_even_or_odd
    c.rows.ensures.is_the_height c.columns.ensures.is_the_width c.rows-rows.ensures.is_the_number_walked c.columns-columns.ensures.is_the_number_walked in
    (partway_none _ _ _ t.few _, bits_none _ _ t.few _ _, g.S.Store.still false _, t)

pub loop-column-init : goal.loop-column-init
loop-column-init g c = (λ p b e f t. (e, f), g.S.Store.still false _)

pub place-requires : goal.place-requires
place-requires g c =
    let p = g.S.Plane.picture c.args.store in
    let h : p.height < 2 ^ 64 = rw (← c.rows.ensures.is_the_height) c.rows.type_inv in
    let w : p.width < 2 ^ 64 = rw (← c.columns.ensures.is_the_width) c.columns.type_inv in
    let e = turn_counted g.A.Axis.direction g.T.Step.rule p c.parity-parity.result c.rows-rows.result c.columns-columns.result c.loop-row.row c.loop-column.column c.loop-row.invariant.3 c.loop-row-test.true c.loop-column-test.true (2 ^ 64) h w in
    record { counts_the_row = e.0; counts_the_column = e.1 }

pub change_place-requires : goal.change_place-requires
change_place-requires g c =
    let p = g.S.Plane.picture c.args.store in
    let o = c.loop-row.invariant in
    let i = c.loop-column.invariant.0 p (g.S.Store.bits c.args.store) o.0 o.1 o.3 in
    let z = partway_size g.A.Axis.direction g.T.Step.rule (g.K.Kernel.amounts c.args.kernel.now) o.3.few p (g.S.Plane.picture c.loop-column.store) c.loop-row.row c.loop-column.column i.0 in
    turn_changes g.A.Axis.direction g.T.Step.rule p c.parity-parity.result c.rows-rows.result c.columns-columns.result c.loop-row.row c.loop-column.column o.3 c.loop-row-test.true c.loop-column-test.true (g.S.Plane.picture c.loop-column.store) _ _ z.0 z.1 c.place.ensures.has_the_row c.place.ensures.has_the_column

pub loop-column-preserved : goal.loop-column-preserved
loop-column-preserved g c =
    let did = c.change_place.ensures in (
      (λ p b e f t.
          let i = c.loop-column.invariant.0 p b e f t in (
            turn_done g.A.Axis.direction g.T.Step.rule p c.parity-parity.result c.rows-rows.result c.columns-columns.result c.loop-row.row c.loop-column.column t c.loop-row-test.true c.loop-column-test.true (g.K.Kernel.amounts c.args.kernel.now) (g.S.Plane.picture c.loop-column.store) (g.S.Plane.picture c.change_place.new.store) _ _ c.place.ensures.has_the_row c.place.ensures.has_the_column i.0 did.writes_the_result,
            turn_marked g.A.Axis.direction g.T.Step.rule p c.parity-parity.result c.rows-rows.result c.columns-columns.result c.loop-row.row c.loop-column.column t c.loop-row-test.true c.loop-column-test.true b (g.S.Store.bits c.loop-column.store) (g.S.Store.bits c.change_place.new.store) _ _ c.place.ensures.has_the_row c.place.ensures.has_the_column i.1 did.sets_the_bit,
          )),
      g.S.Store.onward false false _ _ _ c.loop-column.invariant.1 did.leaves_what_lies_under,
    )

pub loop-row-preserved : goal.loop-row-preserved
loop-row-preserved g c =
    let p = g.S.Plane.picture c.args.store in
    let b = g.S.Store.bits c.args.store in
    let o = c.loop-row.invariant in
    let i = c.loop-column.invariant.0 p b o.0 o.1 o.3 in
    let over : walked_columns g.A.Axis.direction g.T.Step.rule.parity p.width ≤ c.loop-column.column = rw (← o.3.is_columns) c.loop-column-test.false in
    (i.0 ∙ partway_row _ _ _ o.3.few p c.loop-row.row c.loop-column.column over, i.1 ∙ bits_row _ _ o.3.few p b c.loop-row.row c.loop-column.column over, g.S.Store.onward false false _ _ _ o.2 c.loop-column.invariant.1, o.3)

pub returns : goal.returns
returns g c =
    let p = g.S.Plane.picture c.args.store in
    let b = g.S.Store.bits c.args.store in
    let o = c.loop-row.invariant in
    let over : walked_rows g.A.Axis.direction g.T.Step.rule.parity p.height ≤ c.loop-row.row = rw (← o.3.is_rows) c.loop-row-test.false in
    record {
      does_the_work = o.0 ∙ partway_all _ _ _ o.3.few p _ over;
      sets_the_bits_of_what_it_puts = o.1 ∙ bits_all _ _ o.3.few p b _ over;
      leaves_what_lies_under = o.2;
    }
