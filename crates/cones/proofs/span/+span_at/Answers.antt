-- Level 0 has the span itself, and a level above it the span next to that of the level below.
use Rattle.std.proofs.Common.{sym, arith}
use Rattle.wavelets.proofs.Spans.{span_at_none, span_at_more}
use Rattle.cones.proofs.span.+span_at.Goals as goal

pub returns-then-level-eq0 : goal.returns-then-level-eq0
returns-then-level-eq0 t c = record { is_the_span_at_the_level = sym (span_at_none _ _ _ (omega arith)) }

pub returns-else-level-eq0 : goal.returns-else-level-eq0
returns-else-level-eq0 t c =
    let e = span_at_more c.args.side c.args.span c.args.level (omega arith) in
    record { is_the_span_at_the_level = cc }
