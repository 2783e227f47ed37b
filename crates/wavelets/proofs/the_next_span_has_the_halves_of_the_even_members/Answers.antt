-- The theorem as proofs/Spans.antt has it.
use Rattle.wavelets.proofs.Spans.{next_halves}
use Rattle.wavelets.proofs.the_next_span_has_the_halves_of_the_even_members.Goals as goal

pub returns : goal.returns
returns c = record { exactly_these = next_halves }
