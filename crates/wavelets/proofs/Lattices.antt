-- The lattice of a level: its places and cells, and a work done to it in place.
use Rattle.std.proofs.Common.{◌≡◌, ℕ, zero, suc, ◌+◌, ◌-◌, ◌*◌, ◌/◌, ◌%◌, ◌^◌, ◌<◌, ◌≤◌, Bool, true, false, eqb, sym, refl, ap, ◌∙◌, mul-le-mul_right, mod-lt, div-lt_iff_lt-mul, mul-le-mul_left, pow-suc, div-add-mod', div-mul-le_self, mul-div_cancel, arith}
use native.Mathlib.Nat.{mul-mod_left, pow-succ', div-div-eq-div-mul}
use lib.Arith.{mod-mul}
use mathlib.Core.Path.{fun_ext}
use Rattle.std.proofs.lemmas.Bool.{and_parts, eqb-true, both_ways}
use Rattle.std.proofs.lemmas.Nat.{pow_pos}
use Rattle.wavelets.specs.Lifting.{Plane, PlaneWork, size, lattice, on, on_lattice, round, Agree, Bounded}
use Rattle.wavelets.specs.Theorems.{ReadsNothingOutside}

-- the place of a cell of the plate lies on the plate's lattice, and the cell of such a place on the plate
pub place_inside : (k n r : ℕ) → r < n → r / 2 ^ k < size k n
place_inside k n r h = (div-lt_iff_lt-mul (pow_pos k)).1 (omega (arith, pow_pos k, div-add-mod' (n + (2 ^ k - 1)) (2 ^ k), mod-lt (n + (2 ^ k - 1)) (pow_pos k)))

pub cell_inside : (k n i : ℕ) → i < size k n → i * 2 ^ k < n
cell_inside k n i h = omega (arith, pow_pos k, div-mul-le_self (n + (2 ^ k - 1)) (2 ^ k), mul-le-mul_right (2 ^ k) h)

pub size_at_most : (k n : ℕ) → size k n ≤ n
size_at_most k n = at (size k n) (λ i h. cell_inside k n i h)
  where
    at : (m : ℕ) → ((i : ℕ) → i < m → i * 2 ^ k < n) → m ≤ n
    at zero f = omega arith
    at (suc i) f = omega (arith, f i (omega arith), mul-le-mul_left i (pow_pos k))

-- the cell of a place is on the lattice, and a cell on it is the cell of its place
pub place_on : (k i j : ℕ) → on k (i * 2 ^ k) (j * 2 ^ k) ≡ true
place_on k i j = rw (mul-mod_left i (2 ^ k), mul-mod_left j (2 ^ k))

pub on_divides : (k r c : ℕ) → on k r c ≡ true → (r % 2 ^ k ≡ 0) × (c % 2 ^ k ≡ 0)
on_divides k r c h = let e = and_parts (eqb (r % 2 ^ k) 0) (eqb (c % 2 ^ k) 0) h in (eqb-true (r % 2 ^ k) 0 e.0, eqb-true (c % 2 ^ k) 0 e.1)

pub cell_of_place : (k r c : ℕ) → on k r c ≡ true → (r / 2 ^ k * 2 ^ k ≡ r) × (c / 2 ^ k * 2 ^ k ≡ c)
cell_of_place k r c h = let e = on_divides k r c h in omega (arith, div-add-mod' r (2 ^ k), div-add-mod' c (2 ^ k))

-- the lattices of two levels: a cell of the next one is on this one, at an even place
pub next_place : (k r : ℕ) → r / 2 ^ suc k ≡ r / 2 ^ k / 2
next_place k r = ap (λ (m : ℕ). r / m) (pow-suc 2 k) ∙ sym (div-div-eq-div-mul r (2 ^ k) 2)

parts : (k r : ℕ) → r % 2 ^ suc k ≡ (r / 2 ^ k % 2) * 2 ^ k + r % 2 ^ k
parts k r = rw (pow-succ' 2 k) (mod-mul r (omega arith) (pow_pos k))

both_none : (q m n : ℕ) → 0 < m → q * m + n ≡ 0 → (q ≡ 0) × (n ≡ 0)
both_none zero m n h e = omega arith
both_none (suc q) m n h e = omega arith

pub on_below : (k r c : ℕ) → on (suc k) r c ≡ true → (on k r c ≡ true) × (r / 2 ^ k % 2 ≡ 0) × (c / 2 ^ k % 2 ≡ 0)
on_below k r c h =
    let p = on_divides (suc k) r c h in
    let a = both_none (r / 2 ^ k % 2) (2 ^ k) (r % 2 ^ k) (pow_pos k) (sym (parts k r) ∙ p.0) in
    let b = both_none (c / 2 ^ k % 2) (2 ^ k) (c % 2 ^ k) (pow_pos k) (sym (parts k c) ∙ p.1) in
    (rw (a.1, b.1), a.0, b.0)

pub off_above : (k r c : ℕ) → on k r c ≡ false → on (suc k) r c ≡ false
off_above k r c h = at (on (suc k) r c) refl
  where
    at : (q : Bool) → on (suc k) r c ≡ q → on (suc k) r c ≡ false
    at false o = o
    at true o = absurd (both_ways (on k r c) h (on_below k r c o).0)

-- a work done in place: at a cell on the lattice, at one off it, and what the lattice then is
pub on_lattice_on : (k : ℕ) (g : Plane → Plane) (x : Plane) (r c : ℕ) → on k r c ≡ true → on_lattice k g x r c ≡ g (lattice k x) (r / 2 ^ k) (c / 2 ^ k)
unfolding on_lattice
on_lattice_on k g x r c h = rw (h, on_lattice)

pub on_lattice_off : (k : ℕ) (g : Plane → Plane) (x : Plane) (r c : ℕ) → on k r c ≡ false → on_lattice k g x r c ≡ x r c
unfolding on_lattice
on_lattice_off k g x r c h = rw (h, on_lattice)

pub lattice_after : (k : ℕ) (g : Plane → Plane) (x : Plane) → lattice k (on_lattice k g x) ≡ g (lattice k x)
unfolding lattice on_lattice
lattice_after k g x = fun_ext (λ i. fun_ext (λ j. rw (place_on k i j, on_lattice, mul-div_cancel i (pow_pos k), mul-div_cancel j (pow_pos k))))

-- two works that do the same to this lattice, and one that undoes another on it
pub on_lattice_same : (k : ℕ) (f g : Plane → Plane) (x : Plane) → f (lattice k x) ≡ g (lattice k x) → on_lattice k f x ≡ on_lattice k g x
unfolding on_lattice
on_lattice_same k f g x e = rw (on_lattice, e)

pub on_lattice_undone : (k : ℕ) (f g : Plane → Plane) (x : Plane) → g (f (lattice k x)) ≡ lattice k x → on_lattice k g (on_lattice k f x) ≡ x
unfolding lattice
on_lattice_undone k f g x back = fun_ext (λ r. fun_ext (λ c. at r c (on k r c) refl))
  where
    at : (r c : ℕ) (t : Bool) → on k r c ≡ t → on_lattice k g (on_lattice k f x) r c ≡ x r c
    at r c true h =
        on_lattice_on k g _ r c h ∙ ap (λ (y : Plane). y (r / 2 ^ k) (c / 2 ^ k)) (ap g (lattice_after k f x) ∙ back)
        ∙ (let e = cell_of_place k r c h in rw (e.0, e.1))
    at r c false h = on_lattice_off k g _ r c h ∙ on_lattice_off k f x r c h

-- a plane whose lattice was worked on, and whose other cells were left, has had the round
pub round_by_lattice : (g : PlaneWork) (R C k : ℕ) (x z : Plane)
    → Agree (size k R) (size k C) (lattice k z) (g (size k R) (size k C) (lattice k x))
    → ((r c : ℕ) → r < R → c < C → on k r c ≡ false → z r c ≡ x r c)
    → Agree R C z (round g R C k x)
unfolding lattice
round_by_lattice g R C k x z worked kept r c lr lc = at (on k r c) refl
  where
    at : (q : Bool) → on k r c ≡ q → z r c ≡ round g R C k x r c
    at true h =
        (let e = cell_of_place k r c h in rw (e.0, e.1) at (worked (r / 2 ^ k) (c / 2 ^ k) (place_inside k R r lr) (place_inside k C c lc)))
        ∙ sym (on_lattice_on k _ x r c h)
    at false h = kept r c lr lc h ∙ sym (on_lattice_off k _ x r c h)

-- the numbers of a lattice are numbers of the plate
pub lattice_agrees : (R C k : ℕ) (x y : Plane) → Agree R C x y → Agree (size k R) (size k C) (lattice k x) (lattice k y)
unfolding lattice
lattice_agrees R C k x y same i j li lj = same (i * 2 ^ k) (j * 2 ^ k) (cell_inside k R i li) (cell_inside k C j lj)

pub lattice_bounded : (R C k M : ℕ) (x : Plane) → Bounded R C M x → Bounded (size k R) (size k C) M (lattice k x)
unfolding lattice
lattice_bounded R C k M x small i j li lj = small (i * 2 ^ k) (j * 2 ^ k) (cell_inside k R i li) (cell_inside k C j lj)

-- a round reads nothing outside the plate, if its work does not
pub round_reads : (g : PlaneWork) → ReadsNothingOutside g → (k : ℕ) → ReadsNothingOutside (λ R C. round g R C k)
round_reads g reads k R C x y same =
    round_by_lattice g R C k y (round g R C k x)
    (λ i j li lj. ap (λ (z : Plane). z i j) (lattice_after k _ x)
    ∙ reads (size k R) (size k C) (lattice k x) (lattice k y) (lattice_agrees R C k x y same) i j li lj)
    (λ r c lr lc off. on_lattice_off k _ x r c off ∙ same r c lr lc)
