-- The calls before the turn are done, and those from it on wait.
use Rattle.std.proofs.Common.{◌≡◌}
use Rattle.plates.specs.Shows.{seen}
use Rattle.plates.proofs.Playing.{Played}
use Rattle.plates.proofs.run.play.Given as goal

abbrev pub invariant-loop-turn : goal.invariant-loop-turn
invariant-loop-turn g l =
    Played (seen g.S.Plane g.S.Store g.K.Kernel l.initial.plate) l.initial.turn-items l.turn-index l.turn-items (seen g.S.Plane g.S.Store g.K.Kernel l.plate)
    × (l.plate.kernel ≡ l.initial.plate.kernel)
