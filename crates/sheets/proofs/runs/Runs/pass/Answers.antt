-- The cell at the column, by its part.
use Rattle.std.proofs.Common.{◌+◌, sym, ap, ◌∙◌, ◌++◌, arith}
use Rattle.std.specs.Option.{option_to_list}
use Rattle.sheets.specs.Runs.{runs_left}
use Rattle.sheets.proofs.Walking.{begun_small, begun_within, begun_next, left_next}
use Rattle.sheets.proofs.runs.Runs.pass.Goals as goal

pub ended-ended-requires-clause-in_the_row : goal.ended-ended-requires-clause-in_the_row
ended-ended-requires-clause-in_the_row g c =
    let s = c.args.self.now in
    omega (arith, s.so_many_begun, begun_within (g.S.Store.bits s.store.now s.row) s.columns s.column)

pub ended-ended-requires-clause-a_few : goal.ended-ended-requires-clause-a_few
ended-ended-requires-clause-a_few g c =
    let s = c.args.self.now in
    omega (arith, s.so_many_begun, begun_small (g.S.Store.bits s.store.now s.row) s.columns s.column)

pub still_begun-self-requires : goal.still_begun-self-requires
still_begun-self-requires g c =
    let s = c.args.self.now in
    omega (arith, s.so_many_begun, begun_small (g.S.Store.bits s.store.now s.row) s.columns s.column)

pub invariant_of-self : goal.invariant_of-self
invariant_of-self g c =
    let s = c.args.self.now in
    record {
      a_row = s.a_row;
      all_columns = s.all_columns;
      in_the_row = omega arith;
      so_many_begun = c.still_begun-self.ensures.is_one_more_inside_a_run
          ∙ begun_next (g.S.Store.bits s.store.now) s.row s.columns s.column s.begun c.part-part.result s.so_many_begun c.part-part.ensures.is_its_part;
    }

pub returns-clause-answers_what_ended : goal.returns-clause-answers_what_ended
returns-clause-answers_what_ended g c =
    let s = c.args.self.now in
    left_next (g.S.Store.bits s.store.now) s.row s.columns s.column s.begun c.part-part.result s.so_many_begun c.part-part.ensures.is_its_part c.requires
    ∙ ap (λ o. option_to_list o ++ runs_left (g.S.Store.bits s.store.now) s.row s.columns (s.column + 1)) (sym c.ended-ended.ensures.is_the_run_that_ends_here)
