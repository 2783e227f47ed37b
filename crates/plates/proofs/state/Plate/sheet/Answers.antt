use Rattle.std.proofs.Common.{ap, ◌∙◌}
use Rattle.std.specs.Result.{result_ok}
use Rattle.plates.specs.Shows.{seen}
use Rattle.plates.proofs.Sheeting.{own_sheeted, plain_sheeted}
use Rattle.plates.proofs.state.Plate.sheet.Goals as goal

pub returns : goal.returns
returns g c =
    let v = seen g.S.Plane g.S.Store g.K.Kernel c.args.self.now in
    let code = g.K.Kernel.code c.args.self.now.kernel in
    let own = own_sheeted c.args.issue code c.code.result v c.in_ok-plan.plan c.head_of-head.result c.args.out.now c.write_sheet.new.out c.write_sheet.result c.ok_or-2.result
    (c.ok_or.ensures.ok_part ∙ ap result_ok c.in_ok-plan.was) c.code.ensures.is_the_code c.head_of-head.ensures.says_the_plan c.write_sheet.ensures.writes_the_sheet_where_it_fits c.ok_or-2.ensures.value in
    record {
      declines_by_its_own_table = own.declines_by_the_table;
      declined_leaves_the_output = own.declined_leaves_the_output;
      writes_the_sheet_of_its_cells = own.writes_the_sheet;
      writes_the_sheet_of_the_plain_plate = λ s p h. plain_sheeted c.args.issue code s p v c.args.out.now c.write_sheet.new.out c.ok_or-2.result h own;
    }
