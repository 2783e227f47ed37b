use Rattle.std.proofs.Common.{min, max, ap, ◌∙◌}
use Rattle.std.proofs.lemmas.List.Sums.{fold_more}
use Rattle.std.proofs.lemmas.List.{take_all}
use Rattle.skyplate_job.specs.Reports.{smallest, largest}
use Rattle.skyplate_job.proofs.summary.Summary.new.Goals as goal

pub loop-sample-preserved : goal.loop-sample-preserved
loop-sample-preserved c =
    let a = fold_more min 65535 c.args.samples.now c.loop-sample.sample-index 0 c.loop-sample-test.true in
    let b = fold_more max 0 c.args.samples.now c.loop-sample.sample-index 0 c.loop-sample-test.true in
    (cc, cc)

pub returns : goal.returns
returns c =
    let e = take_all c.loop-sample.sample-index c.args.samples.now c.loop-sample-test.false in
    let a = c.loop-sample.invariant.0 ∙ ap smallest e in
    let b = c.loop-sample.invariant.1 ∙ ap largest e in
    record { has_the_smallest_and_the_largest_sample = λ i. record { picture = c.args.picture; smallest = a i; largest = b i } }
