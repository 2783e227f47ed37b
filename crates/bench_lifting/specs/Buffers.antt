-- What a buffer of cell records shows.
use Rattle.std.specs.Prelude.{ℕ, List, length}
use Rattle.planes.specs.declared.cell.Cell.{Cell}
use Rattle.planes.specs.Planes.{Picture}
use Rattle.planes.specs.Flat.{flat_picture, made_side}

-- the records xs as a plate of R × C, with no rows and no columns where there can be no such plate
abbrev pub shown : ℕ → ℕ → List Cell → Picture
shown R C xs = flat_picture (made_side R C (length xs) R) (made_side R C (length xs) C) xs
