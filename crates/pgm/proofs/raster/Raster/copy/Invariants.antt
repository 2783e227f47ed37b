-- The samples so far stand in front.
use Rattle.std.proofs.Common.{◌≡◌, ℕ, ◌<◌, get_or}
use Rattle.pgm.specs.Reading.{sample}
use Rattle.pgm.proofs.raster.Raster.copy.Given as goal

abbrev pub invariant-loop-i : goal.invariant-loop-i
invariant-loop-i l = (k : ℕ) → k < l.i → get_or l.front k 0 ≡ sample l.self.bytes.now l.self.from l.self.top k
