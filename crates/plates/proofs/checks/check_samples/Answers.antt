-- The row that names the first sample over the top, if there is one.
use Rattle.std.proofs.Common.{Some, None}
use Rattle.plates.proofs.Samples.{by_position}
use Rattle.plates.proofs.checks.check_samples.Goals as goal

pub returns-in-Some : goal.returns-in-Some
returns-in-Some c = record {
  declines_by_the_first_row_that_holds = by_position c.args.top c.args.area c.args.samples.now (Some c.in-Some.index) c.if-samples-area.false c.in-Some.ensures.is_the_first_over;
}

pub returns-in-None : goal.returns-in-None
returns-in-None c = record {
  declines_by_the_first_row_that_holds = by_position c.args.top c.args.area c.args.samples.now None c.if-samples-area.false c.in-None.ensures.is_the_first_over;
}
