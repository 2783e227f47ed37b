use Rattle.std.proofs.Common.{◌≡◌, take, vec_items}
use Rattle.plates.specs.Shows.{seen}
use Rattle.workshop_job.specs.Endings.{endings_lines}
use Rattle.workshop_job.proofs.endings.endings_lines.Given as goal

abbrev pub invariant-loop-ending : goal.invariant-loop-ending
invariant-loop-ending g l =
    vec_items l.lines ≡ endings_lines (g.K.Kernel.code l.plate.kernel) (seen g.S.Plane g.S.Store g.K.Kernel l.plate) (take l.ending-index l.endings)
