-- The rounds of any work on the lattices, upwards and downwards.
use Rattle.std.proofs.Common.{◌≡◌, ℕ, zero, suc, ◌+◌, ◌<◌, ◌≤◌, Bool, true, false, leb, ◌⊎◌, sym, refl, ap, ◌∙◌, inl, inr, add-one, arith}
use Rattle.std.proofs.lemmas.Bool.{le-leb, lt-leb, cases_lt}
use Rattle.wavelets.specs.Lifting.{Plane, PlaneWork, size, lattice, round, climb, descend, Agree}
use Rattle.wavelets.specs.Theorems.{ReadsNothingOutside}
use Rattle.wavelets.proofs.Lattices.{on_lattice_same, on_lattice_undone, round_reads}

module _ (g : PlaneWork) (R C : ℕ) where
  -- no round, and one more
  pub climb_none : (x : Plane) → climb g R C 0 x ≡ x
  unfolding climb
  climb_none x = refl

  pub climb_more : (k : ℕ) (x : Plane) → climb g R C (k + 1) x ≡ round g R C k (climb g R C k x)
  unfolding climb
  climb_more k x = rw (add-one, climb)

  pub descend_none : (l : ℕ) (x : Plane) → descend g R C l l x ≡ x
  unfolding descend
  descend_none zero x = refl
  descend_none (suc l) x = rw (lt-leb (suc l) l (omega arith), descend)

  -- the first of the rounds downwards
  pub descend_first : (l k : ℕ) (x : Plane) → k ≤ l → descend g R C (suc l) k x ≡ descend g R C l k (round g R C l x)
  unfolding descend
  descend_first l k x h = rw (le-leb k l h, descend)

  -- and one more after them
  pub descend_more : (l k : ℕ) (x : Plane) → k < l → descend g R C l k x ≡ round g R C k (descend g R C l (k + 1) x)
  descend_more zero k x h = absurd (omega arith)
  descend_more (suc l) k x h = at (cases_lt k l) (λ y a. descend_more l k y a)
    where
      at : (k < l) ⊎ (l ≤ k) → ((y : Plane) → k < l → descend g R C l k y ≡ round g R C k (descend g R C l (k + 1) y))
          → descend g R C (suc l) k x ≡ round g R C k (descend g R C (suc l) (k + 1) x)
      at (inl a) ih = descend_first l k x (omega arith) ∙ ih _ a ∙ sym (ap (round g R C k) (descend_first l (k + 1) x (omega arith)))
      at (inr a) ih =
          let e : k ≡ l = omega arith in
          rw (e, add-one) (descend_first l l x (omega arith) ∙ descend_none l _ ∙ sym (ap (round g R C l) (descend_none (suc l) x)))

-- two works that do the same to each lattice as it comes
pub climb_same : (f g : PlaneWork) (R C L : ℕ) (x : Plane)
    → ((k : ℕ) → k < L → f (size k R) (size k C) (lattice k (climb g R C k x)) ≡ g (size k R) (size k C) (lattice k (climb g R C k x)))
    → climb f R C L x ≡ climb g R C L x
unfolding climb
climb_same f g R C zero x same = refl
climb_same f g R C (suc l) x same =
    ap (round f R C l) (climb_same f g R C l x (λ k h. same k (omega arith))) ∙ on_lattice_same l _ _ _ (same l (omega arith))

-- a work h that undoes g on each lattice as it comes: going down to k leaves the first k rounds
pub descend_undoes : (g h : PlaneWork) (R C L k : ℕ) (x : Plane) → k ≤ L
    → ((j : ℕ) → j < L → h (size j R) (size j C) (g (size j R) (size j C) (lattice j (climb g R C j x))) ≡ lattice j (climb g R C j x))
    → descend h R C L k (climb g R C L x) ≡ climb g R C k x
unfolding climb
descend_undoes g h R C zero k x le back = let e : k ≡ 0 = omega arith in rw e (descend_none h R C 0 _)
descend_undoes g h R C (suc l) k x le back = at (cases_lt l k) (λ a. descend_undoes g h R C l k x a (λ j b. back j (omega arith)))
  where
    at : (l < k) ⊎ (k ≤ l) → (k ≤ l → descend h R C l k (climb g R C l x) ≡ climb g R C k x) → descend h R C (suc l) k (climb g R C (suc l) x) ≡ climb g R C k x
    at (inl a) ih = let e : k ≡ suc l = omega arith in rw e (descend_none h R C (suc l) _)
    at (inr a) ih = descend_first h R C l k _ a ∙ ap (descend h R C l k) (on_lattice_undone l _ _ (climb g R C l x) (back l (omega arith))) ∙ ih a

-- and the other way round
pub climb_undoes : (g h : PlaneWork) → ((R C : ℕ) (x : Plane) → g R C (h R C x) ≡ x) → (R C L : ℕ) (x : Plane) → climb g R C L (descend h R C L 0 x) ≡ x
unfolding climb
climb_undoes g h back R C zero x = descend_none h R C 0 x
climb_undoes g h back R C (suc l) x =
    ap (climb g R C (suc l)) (descend_first h R C l 0 x (omega arith)) ∙ ap (round g R C l) (climb_undoes g h back R C l (round h R C l x))
    ∙ on_lattice_undone l _ _ x (back (size l R) (size l C) (lattice l x))

-- nothing outside the plate is read, if the work reads nothing outside
pub climb_reads : (g : PlaneWork) → ReadsNothingOutside g → (L : ℕ) → ReadsNothingOutside (λ R C. climb g R C L)
unfolding climb
climb_reads g reads zero R C x y same = same
climb_reads g reads (suc l) R C x y same = round_reads g reads l R C _ _ (climb_reads g reads l R C x y same)

pub descend_reads : (g : PlaneWork) → ReadsNothingOutside g → (L k : ℕ) → ReadsNothingOutside (λ R C. descend g R C L k)
unfolding descend
descend_reads g reads zero k R C x y same = same
descend_reads g reads (suc l) k R C x y same = at (leb k l) refl (descend_reads g reads l k R C _ _ (round_reads g reads l R C x y same))
  where
    at : (q : Bool) → leb k l ≡ q → Agree R C (descend g R C l k (round g R C l x)) (descend g R C l k (round g R C l y))
        → Agree R C (descend g R C (suc l) k x) (descend g R C (suc l) k y)
    at true h ih = rw (h, descend) ih
    at false h ih = rw (h, descend) same
