-- One row more.
use Rattle.std.proofs.Common.{[], rules}
use Rattle.std.proofs.Output.{has_written_append, has_written_of_eq}
use Rattle.answers.specs.Stores.{row_line}
use Rattle.answers.proofs.Texts.{next_of_count}
use Rattle.answers.proofs.stores.StoreTextDisplay.fmt.Goals as goal

pub loop-row-preserved : goal.loop-row-preserved
loop-row-preserved g c =
    let p = g.S.Plane.picture c.args.self.now.0.now in
    let line = row_line p.width p.number (g.S.Store.bits c.args.self.now.0.now) in
    λ plain. has_written_of_eq _ _ _ _ _ (next_of_count line [] c.loop-row.row) (has_written_append _ _ _ _ _ _ (c.loop-row.invariant plain) (search rules))
