-- The spans of one side.
use Rattle.std.specs.Prelude.{ℕ, List, [], ◌∷◌}
use Rattle.wavelets.specs.declared.Span.{Span}
use Rattle.wavelets.specs.Cone.{span_at}

-- Those of the levels 0 to 5.
abbrev pub spans_of : ℕ → Span → List Span
spans_of n s = span_at n s 0 ∷ span_at n s 1 ∷ span_at n s 2 ∷ span_at n s 3 ∷ span_at n s 4 ∷ span_at n s 5 ∷ []
