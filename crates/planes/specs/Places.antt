-- Places of a lattice, counted on the plate.
use Rattle.std.specs.Prelude.{◌≡◌, ℕ, ◌*◌, ◌^◌, ◌<◌, Some, None, Option}
use Rattle.planes.specs.declared.places.PlatePlace.{PlatePlace}

-- the place of the plate on which place (i, j) of level k lies, and none where a count is no 64-bit number
abbrev pub OnPlate : ℕ → ℕ → ℕ → Option PlatePlace → Type 0
OnPlate k i j (Some at) = (at.row ≡ i * 2 ^ k) × (at.column ≡ j * 2 ^ k)
OnPlate k i j None = i * 2 ^ k < 2 ^ 64 → j * 2 ^ k < 2 ^ 64 → ⊥
