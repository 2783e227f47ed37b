-- The depth of a cell, found from level 0 upward.
use Rattle.std.proofs.Common.{◌≡◌, ℕ, zero, suc, ◌+◌, ◌<◌, ◌≤◌, true, false, sym, ◌∙◌, ⊎_elim, add-one, arith}
use native.Mathlib.Nat.{mod-one}
use Rattle.std.proofs.lemmas.Bool.{cases_lt}
use Rattle.wavelets.specs.Lifting.{on}
use Rattle.wavelets.specs.Cone.{depth}
use Rattle.wavelets.proofs.Lattices.{off_above}
use Rattle.wavelets.proofs.Spans.{depth_on, depth_off}

-- every cell is on the lattice of level 0
pub on_none : (r c : ℕ) → on 0 r c ≡ true
on_none r c = rw (mod-one r, mod-one c)

-- a cell that is not on a lattice is on none above it
off_from : (l k r c : ℕ) → k ≤ l → on k r c ≡ false → on l r c ≡ false
off_from zero k r c h o = let e : k ≡ 0 = omega arith in rw e at o
off_from (suc l) k r c h o =
    ⊎_elim (λ g. let e : suc l ≡ k = omega arith in rw e o) (λ g. off_above l r c (off_from l k r c g o)) (cases_lt l k)

-- the last lattice in a row that has the cell
last_is : (l k r c : ℕ) → k ≤ l → on k r c ≡ true → (k < l → on (suc k) r c ≡ false) → k ≡ depth l r c
last_is zero k r c h o n = let e : k ≡ 0 = omega arith in e ∙ sym (depth_on 0 r c (on_none r c))
last_is (suc l) k r c h o n =
    ⊎_elim
    (λ g. let e : suc l ≡ k = omega arith in sym (rw e (depth_on k r c o)))
    (λ g. last_is l k r c g o (λ _. n (omega arith)) ∙ sym (depth_off l r c (off_from (suc l) (suc k) r c (omega arith) (n (omega arith)))))
    (cases_lt l k)

-- a cell on the lattice of level k, and not on the next one where there is such, has the depth k
pub depth_is : (l k r c : ℕ) → k ≤ l → on k r c ≡ true → (k < l → on (k + 1) r c ≡ false) → k ≡ depth l r c
depth_is l k r c h o n = last_is l k r c h o (λ g. rw add-one at (n g))
