-- Sides and places of a lattice.
use Rattle.std.proofs.Common.{◌≡◌, ℕ, suc, ◌+◌, ◌-◌, ◌*◌, ◌/◌, ◌^◌, ◌<◌, sym, ap, ◌∙◌, le_refl, suc-mul, div-mul-le_self, arith}
use native.Mathlib.Nat.{add-div_right}
use Rattle.std.proofs.lemmas.Nat.{pow_pos, div_below, le-div, mul-le}
use Rattle.planes.specs.Lattices.{lattice_side}

pub side_none : (k : ℕ) → lattice_side k 0 ≡ 0
side_none k = let h : 0 + (2 ^ k - 1) < 1 * 2 ^ k = omega (arith, pow_pos k) in omega (arith, div_below (0 + (2 ^ k - 1)) (2 ^ k) 1 (pow_pos k) h)

pub side_some : (k n : ℕ) → 0 < n → (n - 1) / 2 ^ k + 1 ≡ lattice_side k n
side_some k n h =
    let e : n + (2 ^ k - 1) ≡ (n - 1) + 2 ^ k = omega (arith, pow_pos k) in
    sym (ap (λ z. z / 2 ^ k) e ∙ add-div_right (n - 1) (pow_pos k))

-- a row of the lattice is one of the plate
pub side_inside : (k n i : ℕ) → i < lattice_side k n → i * 2 ^ k < n
side_inside k n i h =
    omega (arith, mul-le (suc i) (2 ^ k) (lattice_side k n) (2 ^ k) h (le_refl (2 ^ k)), suc-mul i (2 ^ k), div-mul-le_self (n + (2 ^ k - 1)) (2 ^ k), pow_pos k)

-- and a row that is not on the lattice is, multiplied, not one of the plate
pub side_outside : (k n i : ℕ) → i * 2 ^ k < n → i < lattice_side k n
side_outside k n i h = le-div (suc i) (n + (2 ^ k - 1)) (2 ^ k) (pow_pos k) (omega (arith, suc-mul i (2 ^ k), pow_pos k))
