-- Rectangles as spans.
use Rattle.std.specs.Prelude.{◌+◌, ◌-◌}
use Rattle.planes.specs.declared.rectangle.Rectangle.{Rectangle}
use Rattle.wavelets.specs.declared.Span.{Span}

-- The rows of a rectangle, from its first to its last, and its columns; of an empty one nothing is asked.
abbrev pub rows_of : Rectangle → Span
rows_of a = record { first = a.first_row; last = a.first_row + a.height - 1 }

abbrev pub columns_of : Rectangle → Span
columns_of a = record { first = a.first_column; last = a.first_column + a.width - 1 }
