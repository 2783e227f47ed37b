use Rattle.std.proofs.Common.{arith}
use Rattle.sheets.specs.Runs.{runs_left}
use Rattle.sheets.proofs.Sizes.{counted_more, counted_few, counted_all}
use Rattle.sheets.proofs.count.count_row.Goals as goal

pub with-counts-requires-clause-runs : goal.with-counts-requires-clause-runs
with-counts-requires-clause-runs g c =
    let s = c.args.runs in
    let few = counted_few (g.S.Plane.picture s.store.now).number (g.S.Store.bits s.store.now) s.columns s.row s.column c.loop-run.yielded _ c.loop-run.counts.runs c.loop-run.counts.cells c.loop-run.invariant s.in_the_row in
    omega (arith, few.0)

pub with-counts-requires-clause-cells : goal.with-counts-requires-clause-cells
with-counts-requires-clause-cells g c =
    let s = c.args.runs in
    let few = counted_few (g.S.Plane.picture s.store.now).number (g.S.Store.bits s.store.now) s.columns s.row s.column c.loop-run.yielded _ c.loop-run.counts.runs c.loop-run.counts.cells c.loop-run.invariant s.in_the_row in
    omega (arith, few.1)

pub loop-run-preserved : goal.loop-run-preserved
loop-run-preserved g c =
    let s = c.args.runs in
    counted_more (g.S.Plane.picture s.store.now).number (runs_left (g.S.Store.bits s.store.now) s.row s.columns s.column) c.loop-run.yielded _ _ c.in-Some.run' c.loop-run.counts.runs c.loop-run.counts.cells
    c.with-counts.result.runs c.with-counts.result.cells c.loop-run.invariant c.in-Some.ensures.steps c.with-counts.ensures.counts_the_run c.with-counts.ensures.counts_its_cells

pub returns : goal.returns
returns g c =
    let s = c.args.runs in
    let x = (g.S.Plane.picture s.store.now).number in
    let few = counted_few x (g.S.Store.bits s.store.now) s.columns s.row s.column c.loop-run.yielded _ c.loop-run.counts.runs c.loop-run.counts.cells c.loop-run.invariant s.in_the_row in
    let all = counted_all x (g.S.Store.bits s.store.now) s.columns s.row s.column c.loop-run.yielded _ c.loop-run.counts.runs c.loop-run.counts.cells c.loop-run.invariant c.in-None.ensures.steps.0 in
    record {
      counts_the_runs = all.0;
      counts_the_cells = all.1;
      has_few_runs = omega (arith, few.0);
      has_few_cells = omega (arith, few.1);
    }
