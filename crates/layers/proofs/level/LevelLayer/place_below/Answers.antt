-- A place of the lattice, multiplied, is one below.
use Rattle.std.proofs.Common.{◌≡◌, ℕ, ◌*◌, ◌^◌, ◌<◌, true, is_some, Some, None, Option, refl, ⊎_elim, arith}
use Rattle.planes.specs.declared.places.PlatePlace.{PlatePlace}
use Rattle.planes.specs.Places.{OnPlate}
use Rattle.planes.specs.Planes.{Within}
use Rattle.planes.specs.Lattices.{lattice_side}
use Rattle.planes.proofs.Lattices.{side_inside, side_outside}
use Rattle.layers.specs.Layers.{lattice}
use Rattle.layers.proofs.level.LevelLayer.place_below.Goals as goal

present : (k i j : ℕ) (o : Option PlatePlace) → OnPlate k i j o → i * 2 ^ k < 2 ^ 64 → j * 2 ^ k < 2 ^ 64 → is_some o ≡ true
present k i j (Some at) h a b = refl
present k i j None h a b = absurd (h a b)

below : (k n side i : ℕ) → side ≡ lattice_side k n → i < side → i * 2 ^ k < n
below k n side i e h = side_inside k n i (rw e at h)

pub unwrap-requires : goal.unwrap-requires
unwrap-requires g c =
    let k = c.args.self.now.level.number in
    let a = below k _ _ _ c.side-rows.ensures.is_the_lattices_side c.if-at-rows.true in
    let b = below k _ _ _ c.side-columns.ensures.is_the_lattices_side c.if-at-columns.true in
    present k c.args.at.row c.args.at.column c.on_plate.result c.on_plate.ensures.is_multiplied_or_too_large (omega (arith, c.rows-height.type_inv)) (omega (arith, c.columns-width.type_inv))

pub returns-else-at-rows : goal.returns-else-at-rows
returns-else-at-rows g c =
    let k = c.args.self.now.level.number in let p = g.S.Plane.picture c.args.self.now.below in
    let rows : c.side-rows.result ≡ lattice_side k p.height = rw (← c.rows-height.ensures.is_the_height) c.side-rows.ensures.is_the_lattices_side in
    let columns : c.side-columns.result ≡ lattice_side k p.width = rw (← c.columns-width.ensures.is_the_width) c.side-columns.ensures.is_the_lattices_side in
    let off : Within (lattice k p) c.args.at.row c.args.at.column → ⊥ = (λ w. ⊎_elim (λ h. omega (arith, rows, columns)) (λ h. omega (arith, rows, columns)) c.else-at-rows.either) in
    record { is_the_multiplied_place_inside = (off, λ w. off (side_outside k _ _ w.0, side_outside k _ _ w.1), refl) }
