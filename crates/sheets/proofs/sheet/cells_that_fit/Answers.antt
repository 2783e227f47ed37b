use Rattle.std.proofs.Common.{◌+◌, ◌*◌, ◌<◌, ◌≤◌, sym, ◌∙◌, arith}
use Rattle.std.proofs.lemmas.Bool.{leb-true, leb-false}
use Rattle.sheets.proofs.Sizes.{length_sheet}
use Rattle.sheets.proofs.sheet.cells_that_fit.Goals as goal

pub returns-then-fit : goal.returns-then-fit
returns-then-fit g c =
    let p = g.S.Plane.picture c.args.store.now in
    let short : 38 + 15 * c.count_rows-counts.result.runs + 8 * c.count_rows-counts.result.cells ≤ c.args.room = leb-true _ _ (sym c.fit.ensures.tells_whether_the_sheet_fits ∙ c.if-fit.true) in
    record {
      tells_whether_there_is_room = λ head. omega (
        arith,
        short,
        c.count_rows-counts.ensures.counts_the_runs,
        c.count_rows-counts.ensures.counts_the_cells,
        length_sheet head p.height p.width p.number (g.S.Store.bits c.args.store.now),
      );
      counts_the_changed_cells = c.count_rows-counts.ensures.counts_the_cells;
    }

pub returns-else-fit : goal.returns-else-fit
returns-else-fit g c =
    let p = g.S.Plane.picture c.args.store.now in
    let long : c.args.room < 38 + 15 * c.count_rows-counts.result.runs + 8 * c.count_rows-counts.result.cells = leb-false _ _ (sym c.fit.ensures.tells_whether_the_sheet_fits ∙ c.if-fit.false) in
    record {
      tells_whether_there_is_room = λ head. omega (
        arith,
        long,
        c.count_rows-counts.ensures.counts_the_runs,
        c.count_rows-counts.ensures.counts_the_cells,
        length_sheet head p.height p.width p.number (g.S.Store.bits c.args.store.now),
      );
      counts_the_changed_cells = tt;
    }
