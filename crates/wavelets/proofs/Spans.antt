-- Spans and depths.
use Rattle.std.proofs.Common.{◌≡◌, ℕ, zero, suc, ◌-◌, ◌/◌, ◌^◌, ◌<◌, ◌≤◌, Bool, true, false, ◌&&◌, ◌⊎◌, refl, inl, inr, arith}
use native.Mathlib.Nat.{mod-one}
use Rattle.std.proofs.lemmas.Bool.Decides.{nat_tests}
use Rattle.std.proofs.lemmas.Bool.{cases_lt, both_ways, eq-eqb, ne_eqb}
use Rattle.wavelets.specs.Lifting.{size, on}
use Rattle.wavelets.specs.declared.Span.{Span}
use Rattle.wavelets.specs.Cone.{within, member, next, span_at, depth, in_cone}
use Rattle.wavelets.specs.Theorems.{HasTheHalvesOfTheEvenMembers, IsTheLargest}
use Rattle.wavelets.proofs.Lattices.{size_at_most}

pub next_halves : HasTheHalvesOfTheEvenMembers next
next_halves n s m h = grind (arith, nat_tests)

-- the span at level 0, and at a level from the one below
pub span_at_none : (n : ℕ) (s : Span) (k : ℕ) → k ≡ 0 → span_at n s k ≡ s
unfolding span_at
span_at_none n s k e = rw e

pub span_at_more : (n : ℕ) (s : Span) (k : ℕ) → 0 < k → span_at n s k ≡ next (size (k - 1) n) (span_at n s (k - 1))
unfolding span_at
span_at_more n s zero h = absurd (omega arith)
span_at_more n s (suc k) h = let e : suc k - 1 ≡ k = omega arith in rw e

-- a span at a level ends no later than the span itself, or the line
pub span_at_last : (n : ℕ) (s : Span) (k B : ℕ) → s.last ≤ B → n ≤ B → (span_at n s k).last ≤ B
unfolding span_at
span_at_last n s zero B h g = h
span_at_last n s (suc k) B h g = omega (arith, span_at_last n s k B h g, size_at_most k n)

-- the depth of a cell on the lattice of level L, and of one that is not
pub depth_on : (l r c : ℕ) → on l r c ≡ true → depth l r c ≡ l
unfolding depth
depth_on zero r c h = refl
depth_on (suc l) r c h = rw (h, depth)

pub depth_off : (l r c : ℕ) → on (suc l) r c ≡ false → depth (suc l) r c ≡ depth l r c
unfolding depth
depth_off l r c h = rw (h, depth)

pub depth_none : (l r c : ℕ) → l ≡ 0 → depth l r c ≡ 0
unfolding depth
depth_none l r c e = rw e

pub depth_less : (l r c : ℕ) → 0 < l → on l r c ≡ false → depth l r c ≡ depth (l - 1) r c
depth_less zero r c h o = absurd (omega arith)
depth_less (suc l) r c h o = let e : suc l - 1 ≡ l = omega arith in rw e (depth_off l r c o)

pub depth_at_most : (l r c : ℕ) → depth l r c ≤ l
unfolding depth
depth_at_most zero r c = omega arith
depth_at_most (suc l) r c = grind (arith, depth_at_most l r c)

pub depth_below : (l r c : ℕ) → on l r c ≡ false → depth l r c < l
depth_below zero r c h = grind (arith, nat_tests)
depth_below (suc l) r c h = rw (depth_off l r c h) (omega (arith, depth_at_most l r c))

depth_passes : (l r c : ℕ) → on (depth l r c) r c ≡ true
unfolding depth
depth_passes zero r c = rw (mod-one r, mod-one c)
depth_passes (suc l) r c = at (on (suc l) r c) refl (depth_passes l r c)
  where
    at : (q : Bool) → on (suc l) r c ≡ q → on (depth l r c) r c ≡ true → on (depth (suc l) r c) r c ≡ true
    at true h ih = rw (depth_on (suc l) r c h) h
    at false h ih = rw (depth_off l r c h) ih

depth_none_larger : (l r c k : ℕ) → k ≤ l → on k r c ≡ true → k ≤ depth l r c
depth_none_larger zero r c k h o = omega arith
depth_none_larger (suc l) r c k h o = at (on (suc l) r c) refl (cases_lt l k) (λ h. depth_none_larger l r c k h o)
  where
    at : (q : Bool) → on (suc l) r c ≡ q → (l < k) ⊎ (k ≤ l) → (k ≤ l → k ≤ depth l r c) → k ≤ depth (suc l) r c
    at true p s ih = rw (depth_on (suc l) r c p) h
    at false p (inl s) ih = let e : k ≡ suc l = omega arith in absurd (both_ways (on k r c) (rw e p) o)
    at false p (inr s) ih = rw (depth_off l r c p) (ih s)

pub depth_largest : IsTheLargest depth
depth_largest L r c = record { at_most = depth_at_most L r c; passes = depth_passes L r c; none_larger = depth_none_larger L r c }

-- the cone at a cell of depth L, and at one of a smaller depth k
pub cone_last : (R C : ℕ) (s t : Span) (L r c k : ℕ) → k ≡ depth L r c → k ≡ L
    → in_cone R C s t L r c ≡ (within (span_at R s L) (r / 2 ^ L) && within (span_at C t L) (c / 2 ^ L))
unfolding in_cone
cone_last R C s t L r c k e h = rw (← e, h, eq-eqb L L refl, in_cone)

pub cone_under : (R C : ℕ) (s t : Span) (L r c k : ℕ) → k ≡ depth L r c → (k ≡ L → ⊥)
    → in_cone R C s t L r c ≡ (member (size k R) (span_at R s k) (r / 2 ^ k) && member (size k C) (span_at C t k) (c / 2 ^ k))
unfolding in_cone
cone_under R C s t L r c k e h = rw (← e, ne_eqb k L h, in_cone)
