-- What writing samples and copying cells make of a plane.
use Rattle.std.specs.Prelude.{Bool, true, cond, ◌&&◌, ℤ, pos, nat_lt}
use Rattle.planes.specs.Planes.{Cells, Picture}

-- Every place.
abbrev pub everywhere : Cells Bool
everywhere r c = true

-- The numbers of a picture, and 0 outside it.
abbrev pub padded : Picture → Cells ℤ
padded p r c = cond (nat_lt r p.height && nat_lt c p.width) (p.number r c) (pos 0)
