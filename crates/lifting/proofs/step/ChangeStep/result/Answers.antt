-- The number is lowered, or raised, by the amount.
use Rattle.std.proofs.Common.{rules, ap, sym, ◌∙◌}
use Rattle.lifting.specs.Passes.{to_cell}
use Rattle.lifting.proofs.Amounts.{lowered_is, raised_is}
use Rattle.lifting.proofs.step.ChangeStep.result.Goals as goal

pub returns-then-this-ne0 : goal.returns-then-this-ne0
returns-then-this-ne0 g c =
    let K = g.K.Kernel.amounts c.args.kernel.now in
    let e = lowered_is _ _ K c.args.number c.args.left c.args.right (search rules) in
    record { is_the_result_as_a_cell = search rules ∙ ap to_cell (sym e) }

pub returns-else-this-ne0 : goal.returns-else-this-ne0
returns-else-this-ne0 g c =
    let K = g.K.Kernel.amounts c.args.kernel.now in
    let e = raised_is _ _ K c.args.number c.args.left c.args.right (search rules) in
    record { is_the_result_as_a_cell = search rules ∙ ap to_cell (sym e) }
