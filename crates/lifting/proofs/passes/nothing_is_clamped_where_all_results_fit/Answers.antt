use Rattle.lifting.proofs.Exact.{forward_is, undo_is}
use Rattle.lifting.proofs.passes.nothing_is_clamped_where_all_results_fit.Goals as goal

pub returns : goal.returns
returns c = record { in_the_transform = forward_is; in_undoing_it = undo_is }
