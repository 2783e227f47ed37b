-- What a plate keeps of its plan and its lease: they are lawful, whatever its store holds.
use Rattle.std.specs.Prelude.{Bool, true, false, not, ◌&&◌, Some, None, Option, nat_le}
use Rattle.planes.specs.declared.rectangle.Rectangle.{Rectangle}
use Rattle.planes.specs.Rectangles.{leaves}
use Rattle.wavelets.specs.Lifting.{within_budget}
use Rattle.model.specs.declared.plan.Plan.{Plan}
use Rattle.model.specs.Plain.{is_side, is_top}

-- the sides, the levels, the top and the budget that a laying accepts
abbrev pub lawful_plan : Plan → Bool
lawful_plan q = (is_side q.rows && is_side q.columns) && (nat_le q.levels 5 && (is_top q.top && within_budget q.top q.levels))

-- a lease is out only of a laid plate, and its rectangle lies inside it
abbrev pub lawful_lease : Plan → Option Rectangle → Bool
lawful_lease q None = true
lawful_lease q (Some a) = not (leaves q.rows q.columns a)

abbrev pub lawful_state : Option Plan → Option Rectangle → Bool
lawful_state None None = true
lawful_state None (Some a) = false
lawful_state (Some q) o = lawful_plan q && lawful_lease q o
