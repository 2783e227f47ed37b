use Rattle.std.proofs.Common.{ap, ◌∙◌, arith}
use Rattle.sheets.specs.Runs.{row_runs}
use Rattle.sheets.proofs.Walking.{left_all, begun_first}
use Rattle.sheets.proofs.runs.Runs.of.Goals as goal

pub invariant_of-result : goal.invariant_of-result
invariant_of-result g c = record {
  a_row = c.requires;
  all_columns = c.columns.ensures.is_the_width;
  in_the_row = omega arith;
  so_many_begun = begun_first (g.S.Store.bits c.args.store.now c.args.row) c.columns.result;
}

pub returns-clause-are_the_rows_runs : goal.returns-clause-are_the_rows_runs
returns-clause-are_the_rows_runs g c =
    left_all (g.S.Store.bits c.args.store.now) c.args.row c.columns.result ∙ ap (λ n. row_runs (g.S.Store.bits c.args.store.now c.args.row) c.args.row n n) c.columns.ensures.is_the_width
