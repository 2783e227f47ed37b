-- Which cells a cone has.
use Rattle.std.specs.Prelude.{ℕ, ◌/◌, ◌^◌, Bool, cond, ◌&&◌, ◌==◌}
use Rattle.wavelets.specs.Lifting.{Cells, size}
use Rattle.wavelets.specs.Cone.{within, member, span_at, in_cone}
use Rattle.cones.specs.declared.cone.Cone.{Cone}

-- The cells of a cone: those in the cone of its rows and its columns, at its levels, on a plate of its two sides.
abbrev pub cone_cells : Cone → Cells Bool
cone_cells c = in_cone c.rows.side c.columns.side c.rows.span c.columns.span c.levels.number

-- What is asked of a cell of depth k: to lie in both spans where k is the number of levels, and otherwise to be a member of both.
abbrev pub in_cone_at_depth : Cone → ℕ → Cells Bool
in_cone_at_depth c k i j =
    let R = c.rows.side in let C = c.columns.side in
    let s = span_at R c.rows.span k in let t = span_at C c.columns.span k in
    cond (k == c.levels.number) (within s (i / 2 ^ k) && within t (j / 2 ^ k))
    (member (size k R) s (i / 2 ^ k) && member (size k C) t (j / 2 ^ k))
