use Rattle.std.proofs.Common.{◌≡◌, take}
use Rattle.skyplate_job.specs.Reports.{smallest, largest}
use Rattle.skyplate_job.proofs.summary.Summary.new.Given as goal

abbrev pub invariant-loop-sample : goal.invariant-loop-sample
invariant-loop-sample l = (l.smallest ≡ smallest (take l.sample-index l.samples)) × (l.largest ≡ largest (take l.sample-index l.samples))
