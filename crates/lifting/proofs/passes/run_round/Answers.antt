use Rattle.std.proofs.Common.{ap, ◌∙◌}
use Rattle.lifting.proofs.Rounds.{round_done, round_marked}
use Rattle.lifting.proofs.passes.run_round.Goals as goal

pub returns : goal.returns
returns g c =
    let P = g.S.Plane in
    let B = g.S.Store in
    let s = c.args.store in
    let t = c.run-layer.result.below in
    let k = c.args.level.number in
    let l = c.run-layer.result.level.number in
    let did = c.run-layer.ensures in
    let out = c.into_below.ensures.is_the_store_below in
    let stays = did.leaves_what_lies_under in
    record {
      does_the_round = ap P.picture out ∙ round_done k l (P.picture s) (P.picture t) (B.bits s) (B.bits t) stays.0 (g.P.Pass.work (g.K.Kernel.amounts c.args.kernel.now)) did.does_the_work;
      sets_the_bits_of_what_it_puts = ap B.bits out ∙ round_marked k l (P.picture s) (P.picture t) (B.bits s) (B.bits t) stays.0 g.P.Pass.puts did.sets_the_bits_of_what_it_puts;
      leaves_what_lies_under = rw out stays.1;
    }
