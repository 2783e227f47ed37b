use Rattle.std.proofs.Common.{length, ap, ◌∙◌, arith}
use Rattle.std.specs.List.{flat_map}
use Rattle.sheets.specs.Runs.{named_by}
use Rattle.sheets.proofs.Naming.{row_names}
use Rattle.sheets.proofs.Sizes.{rows_none, rows_more, rows_all}
use Rattle.sheets.proofs.count.count_rows.Goals as goal

pub loop-row-init : goal.loop-row-init
loop-row-init g c = rows_none (g.S.Plane.picture c.args.store.now).number (g.S.Store.bits c.args.store.now) (g.S.Plane.picture c.args.store.now).width

pub loop-row-preserved : goal.loop-row-preserved
loop-row-preserved g c =
    let p = g.S.Plane.picture c.args.store.now in
    rows_more p.number (g.S.Store.bits c.args.store.now) p.width c.loop-row.row c.loop-row.counts.runs c.loop-row.counts.cells c.count_row-more.result.runs c.count_row-more.result.cells
    c.loop-row.invariant (c.count_row-more.ensures.counts_the_runs ∙ ap length c.of.ensures.are_the_rows_runs)
    (c.count_row-more.ensures.counts_the_cells
    ∙ (λ i. length (flat_map (named_by (g.S.Plane.picture (c.of.ensures.is_of_the_store i)).number) (c.of.ensures.are_the_rows_runs i)))
    ∙ ap length (row_names p.number (g.S.Store.bits c.args.store.now) p.width c.loop-row.row)) c.count_row-more.ensures.has_few_runs c.count_row-more.ensures.has_few_cells

pub returns : goal.returns
returns g c =
    let p = g.S.Plane.picture c.args.store.now in
    let all = rows_all p.number (g.S.Store.bits c.args.store.now) p.width p.height c.loop-row.row c.loop-row.counts.runs c.loop-row.counts.cells (omega arith) c.loop-row.invariant in
    record { counts_the_runs = all.0; counts_the_cells = all.1 }
