-- A sweep, place by place.
use Rattle.std.proofs.Common.{◌≡◌, ℕ, ◌+◌, ◌<◌, ◌≤◌, Bool, true, false, ltb, ℤ, sym, refl, ap, ◌∙◌, arith}
use Rattle.std.proofs.lemmas.Bool.Decides.{nat_tests}
use Rattle.std.proofs.lemmas.Bool.{and_parts, and_from, both_ways}
use Rattle.planes.specs.Planes.{Cells, Picture, written, marked}
use Rattle.wavelets.specs.Lifting.{Amounts, Plane, left, right, is_changed, step, rows, columns}
use Rattle.wavelets.proofs.Steps.{step_changed, step_unchanged, left_unchanged, right_unchanged}
use Rattle.wavelets.proofs.Planes.{rows_in, rows_out, columns_in, columns_out}
use Rattle.lifting.specs.Passes.{to_cell, StepRule, Direction, horizontal, vertical, lines, swept, worked, with_bits}
use Rattle.lifting.specs.Walks.{walked_rows, walked_columns, row_of, column_of, left_row, left_column, right_row, right_column, changes, changed}
use Rattle.lifting.proofs.Partly.{passed, partly, partly_here, partly_same, partly_put, partly_none, partly_all, partly_jump}

-- The way: its places are those that are changed, in row order ------------------------------------------------------------------

module _ (p R C : ℕ) (few : p ≤ 1) where
  pub walk_inside : (d : Direction) (m j : ℕ) → m < walked_rows d p R → j < walked_columns d p C → changes d p R C (row_of d p m) (column_of d p j) ≡ true
  walk_inside horizontal m j a b = grind (arith, nat_tests)
  walk_inside vertical m j a b = grind (arith, nat_tests)

  pub walk_first : (d : Direction) (r c : ℕ) → changes d p R C r c ≡ true → passed (row_of d p 0) (column_of d p 0) r c ≡ false
  walk_first horizontal r c h = grind (arith, nat_tests)
  walk_first vertical r c h = grind (arith, nat_tests)

  pub walk_next : (d : Direction) (m j r c : ℕ) → changes d p R C r c ≡ true → passed (row_of d p m) (column_of d p j + 1) r c ≡ passed (row_of d p m) (column_of d p (j + 1)) r c
  walk_next horizontal m j r c h = grind (arith, nat_tests)
  walk_next vertical m j r c h = refl

  pub walk_row : (d : Direction) (m j r c : ℕ) → walked_columns d p C ≤ j → changes d p R C r c ≡ true → passed (row_of d p m) (column_of d p j) r c ≡ passed (row_of d p (m + 1)) (column_of d p 0) r c
  walk_row horizontal m j r c a h = grind (arith, nat_tests)
  walk_row vertical m j r c a h = grind (arith, nat_tests)

  pub walk_last : (d : Direction) (m r c : ℕ) → walked_rows d p R ≤ m → changes d p R C r c ≡ true → passed (row_of d p m) (column_of d p 0) r c ≡ true
  walk_last horizontal m r c a h = grind (arith, nat_tests)
  walk_last vertical m r c a h = grind (arith, nat_tests)

-- What a sweep does to each place -----------------------------------------------------------------------------------------------

module _ (p : ℕ) (f : ℤ → ℤ → ℤ → ℤ) (R C : ℕ) (x : Plane) where
  pub lines_changed : (d : Direction) (r c : ℕ) → changes d p R C r c ≡ true
      → lines d (λ n. step n p f) R C x r c ≡ f (x r c) (x (left_row d r) (left_column d c)) (x (right_row d R r) (right_column d C c))
  lines_changed horizontal r c h = let e = and_parts _ _ h in rows_in _ R C x r c e.0 ∙ step_changed C p f (x r) c e.1
  lines_changed vertical r c h = let e = and_parts _ _ h in columns_in _ R C x r c e.0 ∙ step_changed R p f (λ i. x i c) r e.1

  pub lines_unchanged : (d : Direction) (r c : ℕ) → changes d p R C r c ≡ false → lines d (λ n. step n p f) R C x r c ≡ x r c
  lines_unchanged horizontal r c h = at (ltb r R) refl (is_changed C p c) refl
    where
      at : (t : Bool) → ltb r R ≡ t → (u : Bool) → is_changed C p c ≡ u → lines horizontal (λ n. step n p f) R C x r c ≡ x r c
      at false e u g = rows_out _ R C x r c e
      at true e false g = rows_in _ R C x r c e ∙ step_unchanged C p f (x r) c g
      at true e true g = absurd (both_ways (changes horizontal p R C r c) h (and_from _ _ e g))
  lines_unchanged vertical r c h = at (ltb c C) refl (is_changed R p r) refl
    where
      at : (t : Bool) → ltb c C ≡ t → (u : Bool) → is_changed R p r ≡ u → lines vertical (λ n. step n p f) R C x r c ≡ x r c
      at false e u g = columns_out _ R C x r c e
      at true e false g = columns_in _ R C x r c e ∙ step_unchanged R p f (λ i. x i c) r g
      at true e true g = absurd (both_ways (changes vertical p R C r c) h (and_from _ _ e g))

module _ (s : StepRule) (K : Amounts) (R C : ℕ) (x : Plane) where
  pub swept_changed : (d : Direction) (r c : ℕ) → changes d s.parity R C r c ≡ true → swept d s K R C x r c ≡ changed d s K R C x r c
  unfolding swept
  swept_changed d r c h = lines_changed s.parity (λ z a b. to_cell (s.result K z a b)) R C x d r c h

  pub swept_unchanged : (d : Direction) (r c : ℕ) → changes d s.parity R C r c ≡ false → swept d s K R C x r c ≡ x r c
  unfolding swept
  swept_unchanged d r c h = lines_unchanged s.parity (λ z a b. to_cell (s.result K z a b)) R C x d r c h

-- the neighbours of a place that is changed are not
left_stays : (d : Direction) (p R C r c : ℕ) → changes d p R C r c ≡ true → changes d p R C (left_row d r) (left_column d c) ≡ false
left_stays horizontal p R C r c h = let e : is_changed C p (left c) ≡ false = left_unchanged C p c (and_parts (ltb r R) (is_changed C p c) h).1 in grind (arith, nat_tests)
left_stays vertical p R C r c h = let e : is_changed R p (left r) ≡ false = left_unchanged R p r (and_parts (ltb c C) (is_changed R p r) h).1 in grind (arith, nat_tests)

right_stays : (d : Direction) (p R C r c : ℕ) → changes d p R C r c ≡ true → changes d p R C (right_row d R r) (right_column d C c) ≡ false
right_stays horizontal p R C r c h = let e : is_changed C p (right C c) ≡ false = right_unchanged C p c (and_parts (ltb r R) (is_changed C p c) h).1 in grind (arith, nat_tests)
right_stays vertical p R C r c h = let e : is_changed R p (right R r) ≡ false = right_unchanged R p r (and_parts (ltb c C) (is_changed R p r) h).1 in grind (arith, nat_tests)

-- The picture and the bits on the way -------------------------------------------------------------------------------------------

-- with the sweep done at the places before that of turn (m, j)
unfoldable pub partway : Direction → StepRule → Amounts → Picture → ℕ → ℕ → Picture
partway d s K p m j = worked (λ R C x. partly x (swept d s K R C x) (row_of d s.parity m) (column_of d s.parity j)) p

unfoldable pub bits_partway : Direction → StepRule → Picture → Cells Bool → ℕ → ℕ → Cells Bool
bits_partway d s p b m j =
    partly b (with_bits (changes d s.parity p.height p.width) b) (row_of d s.parity m) (column_of d s.parity j)

module _ (d : Direction) (s : StepRule) (K : Amounts) (few : s.parity ≤ 1) (p : Picture) where
  pub partway_size : (q : Picture) (m j : ℕ) → q ≡ partway d s K p m j → (q.height ≡ p.height) × (q.width ≡ p.width)
  unfolding partway
  partway_size q m j e = (ap (λ (o : Picture). o.height) e, ap (λ (o : Picture). o.width) e)

  pub partway_none : p ≡ partway d s K p 0 0
  unfolding partway
  partway_none = ap (λ (n : Plane). worked (λ _ _ _. n) p)
      (partly_none p.number _ (changes d s.parity p.height p.width) (swept_unchanged s K p.height p.width p.number d) _ _ (walk_first s.parity p.height p.width few d))

  pub partway_row : (m j : ℕ) → walked_columns d s.parity p.width ≤ j → partway d s K p m j ≡ partway d s K p (m + 1) 0
  unfolding partway
  partway_row m j h = ap (λ (n : Plane). worked (λ _ _ _. n) p)
      (partly_jump p.number _ (changes d s.parity p.height p.width) (swept_unchanged s K p.height p.width p.number d) _ _ _ _ (λ r c. walk_row s.parity p.height p.width few d m j r c h))

  pub partway_all : (m : ℕ) → walked_rows d s.parity p.height ≤ m → partway d s K p m 0 ≡ worked (swept d s K) p
  unfolding partway
  partway_all m h = ap (λ (n : Plane). worked (λ _ _ _. n) p)
      (partly_all p.number _ (changes d s.parity p.height p.width) (swept_unchanged s K p.height p.width p.number d) _ _ (λ r c. walk_last s.parity p.height p.width few d m r c h))

  -- one more place
  pub partway_more : (m j : ℕ) → m < walked_rows d s.parity p.height → j < walked_columns d s.parity p.width
      → (q : Picture) → q ≡ partway d s K p m j
      → written q (row_of d s.parity m) (column_of d s.parity j) (changed d s K q.height q.width q.number (row_of d s.parity m) (column_of d s.parity j)) ≡ partway d s K p m (j + 1)
  unfolding partway
  partway_more m j a b q e =
      let r = row_of d s.parity m in
      let c = column_of d s.parity j in
      let x = p.number in
      let y : Plane = swept d s K p.height p.width p.number in
      let z : Plane = partly x y r c in
      let ch = changes d s.parity p.height p.width in
      let h = walk_inside s.parity p.height p.width few d m j a b in
      let l : z (left_row d r) (left_column d c) ≡ x (left_row d r) (left_column d c) = partly_same x y r c _ _ (swept_unchanged s K p.height p.width x d _ _ (left_stays d s.parity p.height p.width r c h)) in
      let g : z (right_row d p.height r) (right_column d p.width c) ≡ x (right_row d p.height r) (right_column d p.width c) = partly_same x y r c _ _ (swept_unchanged s K p.height p.width x d _ _ (right_stays d s.parity p.height p.width r c h)) in
      let v : changed d s K p.height p.width z r c ≡ y r c = rw (partly_here x y r c, l, g) (sym (swept_changed s K p.height p.width x d r c h)) in
      ap (λ (o : Picture). written o r c (changed d s K o.height o.width o.number r c)) e
      ∙ ap (λ (n : Plane). worked (λ _ _ _. n) p)
      (partly_put x y r c _ v ∙ partly_jump x y ch (swept_unchanged s K p.height p.width x d) _ _ _ _ (λ i k. walk_next s.parity p.height p.width few d m j i k))

-- and so for the bits
module _ (d : Direction) (s : StepRule) (few : s.parity ≤ 1) (p : Picture) (b : Cells Bool) where
  others : (r c : ℕ) → changes d s.parity p.height p.width r c ≡ false → with_bits (changes d s.parity p.height p.width) b r c ≡ b r c
  others r c h = rw h refl

  pub bits_none : b ≡ bits_partway d s p b 0 0
  unfolding bits_partway
  bits_none = partly_none b _ (changes d s.parity p.height p.width) others _ _ (walk_first s.parity p.height p.width few d)

  pub bits_row : (m j : ℕ) → walked_columns d s.parity p.width ≤ j → bits_partway d s p b m j ≡ bits_partway d s p b (m + 1) 0
  unfolding bits_partway
  bits_row m j h = partly_jump b _ (changes d s.parity p.height p.width) others _ _ _ _ (λ r c. walk_row s.parity p.height p.width few d m j r c h)

  pub bits_all : (m : ℕ) → walked_rows d s.parity p.height ≤ m → bits_partway d s p b m 0 ≡ with_bits (changes d s.parity p.height p.width) b
  unfolding bits_partway
  bits_all m h = partly_all b _ (changes d s.parity p.height p.width) others _ _ (λ r c. walk_last s.parity p.height p.width few d m r c h)

  pub bits_more : (m j : ℕ) → m < walked_rows d s.parity p.height → j < walked_columns d s.parity p.width
      → marked (bits_partway d s p b m j) (row_of d s.parity m) (column_of d s.parity j) ≡ bits_partway d s p b m (j + 1)
  unfolding bits_partway
  bits_more m j a e =
      let h = walk_inside s.parity p.height p.width few d m j a e in
      partly_put b (with_bits (changes d s.parity p.height p.width) b) _ _ true (rw h refl)
      ∙ partly_jump b _ (changes d s.parity p.height p.width) others _ _ _ _ (λ i k. walk_next s.parity p.height p.width few d m j i k)

-- The turns, as the code counts them --------------------------------------------------------------------------------------------

-- the step's parity and the picture's sides, by the names that the code has for them
pub record Turns (d : Direction) (s : StepRule) (p : Picture) (parity rows columns : ℕ) : Type 0 where
  pub few : s.parity ≤ 1
  pub is_parity : parity ≡ s.parity
  pub is_rows : rows ≡ walked_rows d s.parity p.height
  pub is_columns : columns ≡ walked_columns d s.parity p.width

pub turns : (d : Direction) (s : StepRule) (p : Picture) (parity rows columns height width : ℕ)
    → parity ≡ s.parity → parity ≤ 1 → height ≡ p.height → width ≡ p.width
    → rows ≡ walked_rows d parity height → columns ≡ walked_columns d parity width → Turns d s p parity rows columns
turns d s p parity rows columns height width e f h w a b =
    record { few = rw e at f; is_parity = e; is_rows = rw (e, h) at a; is_columns = rw (e, w) at b }

module _ (d : Direction) (s : StepRule) (p : Picture) (parity rows columns m j : ℕ) (t : Turns d s p parity rows columns) (in_rows : m < rows) (in_columns : j < columns) where
  row_taken : m < walked_rows d s.parity p.height
  row_taken = rw (← t.is_rows) in_rows

  column_taken : j < walked_columns d s.parity p.width
  column_taken = rw (← t.is_columns) in_columns

  -- the place of a turn can be counted, since it is one of the plane
  pub turn_counted : (B : ℕ) → p.height < B → p.width < B → (row_of d parity m < B) × (column_of d parity j < B)
  turn_counted B a b = rw t.is_parity (at d row_taken column_taken)
    where
      at : (d : Direction) → m < walked_rows d s.parity p.height → j < walked_columns d s.parity p.width → (row_of d s.parity m < B) × (column_of d s.parity j < B)
      at horizontal e f = let few = t.few in (omega arith, grind (arith, nat_tests))
      at vertical e f = let few = t.few in (grind (arith, nat_tests), omega arith)

  -- it is changed
  pub turn_changes : (q : Picture) (r c : ℕ) → q.height ≡ p.height → q.width ≡ p.width → r ≡ row_of d parity m → c ≡ column_of d parity j → changes d s.parity q.height q.width r c ≡ true
  turn_changes q r c h w e f = rw (h, w, e, f, t.is_parity) (walk_inside s.parity p.height p.width t.few d m j row_taken column_taken)

  -- and then the next turn comes
  pub turn_done : (K : Amounts) (q o : Picture) (r c : ℕ) → r ≡ row_of d parity m → c ≡ column_of d parity j → q ≡ partway d s K p m j
      → o ≡ written q r c (changed d s K q.height q.width q.number r c) → o ≡ partway d s K p m (j + 1)
  turn_done K q o r c e f h w = (rw (e, f, t.is_parity) at w) ∙ partway_more d s K t.few p m j row_taken column_taken q h

  pub turn_marked : (b q o : Cells Bool) (r c : ℕ) → r ≡ row_of d parity m → c ≡ column_of d parity j → q ≡ bits_partway d s p b m j
      → o ≡ marked q r c → o ≡ bits_partway d s p b m (j + 1)
  turn_marked b q o r c e f h w =
      (rw (e, f, t.is_parity) at w) ∙ ap (λ (z : Cells Bool). marked z (row_of d s.parity m) (column_of d s.parity j)) h ∙ bits_more d s t.few p b m j row_taken column_taken
