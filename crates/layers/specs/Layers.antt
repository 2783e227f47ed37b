-- What stands on the lattice of a level, and what a layer leaves below.
use Rattle.std.specs.Prelude.{◌≡◌, ℕ, ◌*◌, ◌^◌, ◌≤◌, Bool, true, false, ◌||◌, Ok, Err, Result, ◌≢◌, refl}
use Rattle.std.proofs.Common.{◌∙◌}
use Rattle.faults.specs.declared.fault.Fault.{Fault}
use Rattle.faults.specs.declared.fault.Fault.TheVariants.{Levels}
use Rattle.faults.specs.declared.fault.Layer.TheVariants.{Plane}
use Rattle.planes.specs.Planes.{Cells, Picture}
use Rattle.planes.specs.Lattices.{lattice_side}

-- what stands on the lattice of level k
abbrev pub sampled : {A : Type 0} → ℕ → Cells A → Cells A
sampled k p i j = p (i * 2 ^ k) (j * 2 ^ k)

abbrev pub lattice : ℕ → Picture → Picture
lattice k p = record { height = lattice_side k p.height; width = lattice_side k p.width; number = sampled k p.number }

-- (r, c) is off the lattice
abbrev pub Off : ℕ → ℕ → ℕ → Type 0
Off k r c = (i j : ℕ) → r ≡ i * 2 ^ k → c ≢ j * 2 ^ k

-- from the bits b to d: without clearings those off the lattice stay, with clearings none of them becomes set
abbrev pub BitsOff : Bool → ℕ → Cells Bool → Cells Bool → Type 0
BitsOff false k b d = (r c : ℕ) → Off k r c → d r c ≡ b r c
BitsOff true k b d = (r c : ℕ) → Off k r c → b r c ≡ false → d r c ≡ false

-- from the level k, the picture p and the bits b below to m, q and d: the level, the sides and all that is off the lattice stay
pub record LayerFrame (cleared : Bool) (k m : ℕ) (p q : Picture) (b d : Cells Bool) : Type 0 where
  pub level : m ≡ k
  pub height : q.height ≡ p.height
  pub width : q.width ≡ p.width
  pub number : (r c : ℕ) → Off k r c → q.number r c ≡ p.number r c
  pub bit : BitsOff cleared k b d

-- setting the level from old to new: up to 5 it is the level now, over 5 there is the fault and no change
abbrev pub SetsLevel : ℕ → ℕ → ℕ → Result (Unit {0}) Fault → Type 0
SetsLevel old new now (Ok v) = (new ≤ 5) × (now ≡ new)
SetsLevel old new now (Err e) = (new ≤ 5 → ⊥) × (e ≡ Levels Plane) × (now ≡ old)

bits_still : (cleared : Bool) (k : ℕ) (b : Cells Bool) → BitsOff cleared k b b
bits_still false k b = λ r c t. refl
bits_still true k b = λ r c t e. e

bits_onward : (early late : Bool) (k : ℕ) (b d e : Cells Bool) → BitsOff early k b d → BitsOff late k d e → BitsOff (early || late) k b e
bits_onward false false k b d e f h = λ r c t. h r c t ∙ f r c t
bits_onward false true k b d e f h = λ r c t u. h r c t (f r c t ∙ u)
bits_onward true false k b d e f h = λ r c t u. h r c t ∙ f r c t u
bits_onward true true k b d e f h = λ r c t u. h r c t (f r c t u)

pub layer_still : (cleared : Bool) (k : ℕ) (p : Picture) (b : Cells Bool) → LayerFrame cleared k k p p b b
layer_still cleared k p b = record { level = refl; height = refl; width = refl; number = λ r c t. refl; bit = bits_still cleared k b }

pub layer_onward : (early late : Bool) (k l m : ℕ) (p q o : Picture) (b d e : Cells Bool)
    → LayerFrame early k l p q b d → LayerFrame late l m q o d e → LayerFrame (early || late) k m p o b e
layer_onward early late k l m p q o b d e f h =
    let off : (r c : ℕ) → Off k r c → Off l r c = (λ r c t. rw f.level t) in
    let later : BitsOff late k d e = rw f.level at h.bit in
    record {
      level = h.level ∙ f.level;
      height = h.height ∙ f.height;
      width = h.width ∙ f.width;
      number = λ r c t. h.number r c (off r c t) ∙ f.number r c t;
      bit = bits_onward early late k b d e f.bit later;
    }
