-- The cone: which cells of the transform may depend on a rectangle of the picture.
use Rattle.std.specs.Prelude.{ℕ, zero, suc, ◌+◌, ◌-◌, ◌/◌, ◌%◌, ◌^◌, min, Bool, cond, ◌&&◌, ◌==◌, nat_le, nat_lt}
use Rattle.wavelets.specs.Lifting.{Cells, size, on}
use Rattle.wavelets.specs.Counts.{count_cells}
use Rattle.wavelets.specs.declared.Span.{Span}

-- Place i lies in a span: from its first place to its last.
abbrev pub within : Span → ℕ → Bool
within s i = nat_le s.first i && nat_le i s.last

-- The rectangle of the rows s and the columns t.
abbrev pub in_rectangle : Span → Span → Cells Bool
in_rectangle s t r c = within s r && within t c

-- The members of a span on a line of n places: the odd places from one before it to one after it, and the even places from two
-- before to two after, cut to the line.
abbrev pub reach : ℕ → ℕ
reach i = 2 - i % 2

abbrev pub member : ℕ → Span → ℕ → Bool
member n s i = nat_le (s.first - reach i) i && nat_le i (s.last + reach i) && nat_lt i n

-- The span of the next level: even member 2m becomes its place m.
abbrev pub next : ℕ → Span → Span
next n s = record { first = (s.first - 2 + 1) / 2; last = min (s.last + 2) (n - 1) / 2 }

-- The span at level k, of a span s at level 0 on a side of n places.
unfoldable pub span_at : ℕ → Span → ℕ → Span
span_at n s zero = s
span_at n s (suc k) = next (size k n) (span_at n s k)

-- The depth of the cell (r, c): the largest k up to L such that 2^k divides both r and c.
unfoldable pub depth : ℕ → ℕ → ℕ → ℕ
depth zero r c = 0
depth (suc l) r c = cond (on (suc l) r c) (suc l) (depth l r c)

-- The cell (r, c) is in the cone of the rows s and the columns t of an R × C plate at L levels: at depth L its place must lie in
-- both spans of level L, and below L its row and its column place must both be members at its depth.
unfoldable pub in_cone : ℕ → ℕ → Span → Span → ℕ → Cells Bool
in_cone R C s t L r c =
    let k = depth L r c in
    cond (k == L) (within (span_at R s L) (r / 2 ^ L) && within (span_at C t L) (c / 2 ^ L))
    (member (size k R) (span_at R s k) (r / 2 ^ k) && member (size k C) (span_at C t k) (c / 2 ^ k))

-- The number of cells in the cone.
abbrev pub cone_count : ℕ → ℕ → Span → Span → ℕ → ℕ
cone_count R C s t L = count_cells R C (in_cone R C s t L)
