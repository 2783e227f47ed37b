-- One call more at each round.
use Rattle.std.proofs.Common.{refl, ◌∙◌, arith}
use Rattle.plates.specs.Shows.{seen}
use Rattle.plates.proofs.Playing.{none_done, one_turn_more, all_done}
use Rattle.plates.proofs.run.play.Goals as goal

pub loop-turn-init : goal.loop-turn-init
loop-turn-init g c = (none_done (seen g.S.Plane g.S.Store g.K.Kernel c.args.plate.now) c.args.turns.now, refl)

pub loop-turn-preserved : goal.loop-turn-preserved
loop-turn-preserved g c = (
  one_turn_more (seen g.S.Plane g.S.Store g.K.Kernel c.args.plate.now) (seen g.S.Plane g.S.Store g.K.Kernel c.loop-turn.plate) (seen g.S.Plane g.S.Store g.K.Kernel c.turn_over.new.plate)
      c.args.turns.now c.loop-turn.turn-items c.loop-turn.turn-index _ c.turn_over.new.turn c.loop-turn.invariant.0 (omega arith) c.turn_over.ensures.does_the_call,
  c.turn_over.ensures.keeps_the_kernel ∙ c.loop-turn.invariant.1,
)

pub returns : goal.returns
returns g c = record {
  does_each_call =
      all_done (seen g.S.Plane g.S.Store g.K.Kernel c.args.plate.now) (seen g.S.Plane g.S.Store g.K.Kernel c.loop-turn.plate) c.args.turns.now c.loop-turn.turn-items c.loop-turn.turn-index c.loop-turn.invariant.0 (omega arith);
  keeps_the_kernel = c.loop-turn.invariant.1;
}
