-- A pass over the lattice of a level, and the rounds of all levels.
use Rattle.std.proofs.Common.{◌≡◌, ℕ, zero, suc, ◌+◌, ◌*◌, ◌/◌, ◌%◌, ◌^◌, ◌<◌, ◌≤◌, min, Bool, true, false, ◌&&◌, ◌||◌, ltb, ◌⊎◌, sym, refl, ap, ◌∙◌, subst, inl, inr, ⊎_elim, pow-suc, add-one, arith}
use mathlib.Core.Path.{fun_ext}
use native.Mathlib.Nat.{mul-mod_left, div_self}
use Rattle.std.proofs.lemmas.Bool.Decides.{nat_tests}
use Rattle.std.proofs.lemmas.Bool.{cases_Bool, both_ways, and_from, and_parts, eq-eqb, lt-ltb, le-ltb, ltb-true, lt-leb, cases_lt}
use Rattle.std.proofs.lemmas.Nat.{pow_pos}
use Rattle.planes.specs.Planes.{Cells, Picture}
use Rattle.planes.proofs.Pictures.{same_picture}
use Rattle.layers.specs.Layers.{sampled, LayerFrame, Off, lattice as lattice_picture}
use Rattle.wavelets.specs.Lifting.{Plane, PlaneWork, size, on, lattice, round, climb, descend}
use Rattle.wavelets.proofs.Lattices.{cell_of_place, on_lattice_on, on_lattice_off, place_inside, cell_inside, on_below}
use Rattle.wavelets.proofs.Rounds.{climb_none, climb_more, descend_more}
use Rattle.lifting.specs.Passes.{worked, with_bits, round_puts, rounds_put}
use Rattle.lifting.specs.Walks.{lift_puts, undo_puts, lattice_puts}

-- Through the layer -------------------------------------------------------------------------------------------------------------

-- a cell lies on the lattice or off it
on_or_off : (k r c : ℕ) → (on k r c ≡ true) ⊎ ((on k r c ≡ false) × Off k r c)
on_or_off k r c = ⊎_elim inl
    (λ t. inr (
      t,
      λ i j e f.
          let a : r % 2 ^ k ≡ 0 = ap (λ z. z % 2 ^ k) e ∙ mul-mod_left i (2 ^ k) in
          let b : c % 2 ^ k ≡ 0 = ap (λ z. z % 2 ^ k) f ∙ mul-mod_left j (2 ^ k) in
          both_ways _ t (and_from _ _ (eq-eqb _ _ a) (eq-eqb _ _ b)),
    ))
    (cases_Bool (on k r c))

at_place : {A : Type 0} (k r c : ℕ) (b : Cells A) → on k r c ≡ true → sampled k b (r / 2 ^ k) (c / 2 ^ k) ≡ b r c
at_place k r c b t = let e = cell_of_place k r c t in ap (λ (z : ℕ). b z (c / 2 ^ k * 2 ^ k)) e.0 ∙ ap (b r) e.1

-- from the level k, the picture p and the bits b below the layer to l, q and d
module _ (k l : ℕ) (p q : Picture) (b d : Cells Bool) (stays : LayerFrame false k l p q b d) where
  pub round_done : (g : PlaneWork) → lattice_picture l q ≡ worked g (lattice_picture k p) → q ≡ worked (λ R C. round g R C k) p
  unfolding lattice
  round_done g e =
      let e' : lattice_picture k q ≡ worked g (lattice_picture k p) = subst (λ (z : ℕ). lattice_picture z q ≡ worked g (lattice_picture k p)) stays.level e in
      same_picture _ _ _ _ _ _ stays.height stays.width (fun_ext (λ r. fun_ext (λ c. ⊎_elim
      (λ t. sym (at_place k r c q.number t) ∙ ap (λ (o : Picture). o.number (r / 2 ^ k) (c / 2 ^ k)) e' ∙ sym (on_lattice_on k _ p.number r c t))
      (λ t. stays.number r c t.1 ∙ sym (on_lattice_off k _ p.number r c t.0))
      (on_or_off k r c))))

  pub round_marked : (s : ℕ → ℕ → Cells Bool) → sampled l d ≡ with_bits (s (size k p.height) (size k p.width)) (sampled k b) → d ≡ with_bits (lattice_puts s k p.height p.width) b
  round_marked s e =
      let e' : sampled k d ≡ with_bits (s (size k p.height) (size k p.width)) (sampled k b) = subst (λ (z : ℕ). sampled z d ≡ with_bits (s (size k p.height) (size k p.width)) (sampled k b)) stays.level e in
      fun_ext (λ r. fun_ext (λ c. ⊎_elim
      (λ t. sym (at_place k r c d t) ∙ ap (λ (o : Cells Bool). o (r / 2 ^ k) (c / 2 ^ k)) e' ∙ rw (t, at_place k r c b t) refl)
      (λ t. stays.bit r c t.1 ∙ rw t.0 refl)
      (on_or_off k r c)))

-- Which cells the rounds put ----------------------------------------------------------------------------------------------------

same_test : (a b c d : ℕ) → (a < b → c < d) → (c < d → a < b) → ltb a b ≡ ltb c d
same_test a b c d f g = ⊎_elim
    (λ h. lt-ltb a b h ∙ sym (lt-ltb c d (f h)))
    (λ h. le-ltb a b h ∙ sym (⊎_elim (λ e. absurd (let k = g e in omega arith)) (le-ltb c d) (cases_lt c d)))
    (cases_lt a b)

-- a row of the lattice is inside, and there are two of them, exactly when the plate's are
row_test : (k n r : ℕ) → r / 2 ^ k * 2 ^ k ≡ r → ltb (r / 2 ^ k) (size k n) ≡ ltb r n
row_test k n r e = same_test (r / 2 ^ k) (size k n) r n (λ h. rw e at (cell_inside k n (r / 2 ^ k) h)) (place_inside k n r)

two_test : (k n : ℕ) → ltb 1 (size k n) ≡ ltb (2 ^ k) n
two_test k n = same_test 1 (size k n) (2 ^ k) n (λ h. omega (arith, cell_inside k n 1 h)) (λ h. rw (div_self (pow_pos k)) at (place_inside k n (2 ^ k) h))

lift_all : (R C r c : ℕ) → lift_puts R C r c ≡ ((ltb r R && ltb c C) && (ltb 1 R || ltb 1 C))
lift_all R C r c = grind (arith, nat_tests)

undo_all : (R C r c : ℕ) → undo_puts R C r c ≡ ((ltb r R && ltb c C) && (ltb 1 R || ltb 1 C))
undo_all R C r c = grind (arith, nat_tests)

-- through the lattice, a pass that puts all places if they are two or more puts those of the round
on_the_lattice : (s : ℕ → ℕ → Cells Bool) → ((R C r c : ℕ) → s R C r c ≡ ((ltb r R && ltb c C) && (ltb 1 R || ltb 1 C))) → (k R C r c : ℕ) → lattice_puts s k R C r c ≡ round_puts R C k r c
on_the_lattice s all k R C r c = ⊎_elim
    (λ t. let e = cell_of_place k r c t in rw (t, all (size k R) (size k C) (r / 2 ^ k) (c / 2 ^ k), row_test k R r e.0, row_test k C c e.1, two_test k R, two_test k C) refl)
    (λ t. rw t refl)
    (cases_Bool (on k r c))

pub lift_round : (k R C r c : ℕ) → lattice_puts lift_puts k R C r c ≡ round_puts R C k r c
lift_round = on_the_lattice lift_puts lift_all

pub undo_round : (k R C r c : ℕ) → lattice_puts undo_puts k R C r c ≡ round_puts R C k r c
undo_round = on_the_lattice undo_puts undo_all

-- what a round puts, the round of the level below puts too
puts_below : (R C k r c : ℕ) → round_puts R C (suc k) r c ≡ true → round_puts R C k r c ≡ true
puts_below R C k r c h =
    let a = and_parts (on (suc k) r c) _ h in
    let o : on k r c ≡ true = (on_below k r c a.0).0 in
    let u : ltb (2 ^ suc k) R ≡ true → ltb (2 ^ k) R ≡ true = (λ t. lt-ltb (2 ^ k) R (omega (arith, ltb-true (2 ^ suc k) R t, pow-suc 2 k))) in
    let v : ltb (2 ^ suc k) C ≡ true → ltb (2 ^ k) C ≡ true = (λ t. lt-ltb (2 ^ k) C (omega (arith, ltb-true (2 ^ suc k) C t, pow-suc 2 k))) in
    let b = and_parts _ _ a.1 in
    and_from _ _ o (and_from _ _ b.0 (or_both (ltb (2 ^ suc k) R) (ltb (2 ^ k) R) (ltb (2 ^ suc k) C) (ltb (2 ^ k) C) u v b.1))
  where
    or_both : (s t s' t' : Bool) → (s ≡ true → t ≡ true) → (s' ≡ true → t' ≡ true) → (s || s') ≡ true → (t || t') ≡ true
    or_both true t s' t' f g e = rw (f refl) refl
    or_both false true s' t' f g e = refl
    or_both false false s' t' f g e = g e

puts_zero : (R C k r c : ℕ) → round_puts R C k r c ≡ true → round_puts R C 0 r c ≡ true
puts_zero R C zero r c h = h
puts_zero R C (suc k) r c h = puts_zero R C k r c (puts_below R C k r c h)

absorbed : (s t b : Bool) → (s ≡ true → t ≡ true) → (s || (t || b)) ≡ (t || b)
absorbed true t b f = rw (f refl) refl
absorbed false t b f = refl

absorbs : (s t b : Bool) → (t ≡ true → s ≡ true) → (s || (t || b)) ≡ (s || b)
absorbs s true b f = rw (f refl) refl
absorbs s false b f = refl

module _ (R C : ℕ) (b : Cells Bool) where
  -- no rounds yet
  pub puts_none : (k L : ℕ) → L ≤ k → b ≡ with_bits (rounds_put R C k L) b
  puts_none k L h = fun_ext (λ r. fun_ext (λ c. rw (le-ltb k L h) refl))

  -- one more, upwards and downwards
  pub puts_up : (s : ℕ → ℕ → Cells Bool) → ((k R C r c : ℕ) → lattice_puts s k R C r c ≡ round_puts R C k r c)
      → (m : ℕ) → with_bits (lattice_puts s m R C) (with_bits (rounds_put R C 0 m) b) ≡ with_bits (rounds_put R C 0 (m + 1)) b
  puts_up s is m = fun_ext (λ r. fun_ext (λ c. rw (is m R C r c, lt-ltb 0 (m + 1) (omega arith)) (at m r c (cases_lt 0 m))))
    where
      at : (m r c : ℕ) → (0 < m) ⊎ (m ≤ 0) → (round_puts R C m r c || (rounds_put R C 0 m r c || b r c)) ≡ (round_puts R C 0 r c || b r c)
      at m r c (inl h) = rw (lt-ltb 0 m h) (absorbed (round_puts R C m r c) (round_puts R C 0 r c) (b r c) (puts_zero R C m r c))
      at m r c (inr h) = let e : m ≡ 0 = omega arith in rw e refl

  pub puts_down : (s : ℕ → ℕ → Cells Bool) → ((k R C r c : ℕ) → lattice_puts s k R C r c ≡ round_puts R C k r c)
      → (m L : ℕ) → m < L → with_bits (lattice_puts s m R C) (with_bits (rounds_put R C (m + 1) L) b) ≡ with_bits (rounds_put R C m L) b
  puts_down s is m L h = fun_ext (λ r. fun_ext (λ c. rw (is m R C r c, lt-ltb m L h, add-one)
      (absorbs (round_puts R C m r c) (rounds_put R C (suc m) L r c) (b r c) (λ e. puts_below R C m r c (and_parts _ _ e).1))))

-- The numbers -------------------------------------------------------------------------------------------------------------------

-- nothing is undone where L is at most k
pub descend_none_below : (g : PlaneWork) (R C L k : ℕ) (x : Plane) → L ≤ k → descend g R C L k x ≡ x
unfolding descend
descend_none_below g R C zero k x h = refl
descend_none_below g R C (suc l) k x h = rw (lt-leb k l (omega arith), descend)

module _ (g : PlaneWork) (p : Picture) where
  pub up_none : p ≡ worked (λ R C. climb g R C 0) p
  up_none = ap (λ (n : Plane). worked (λ _ _ _. n) p) (sym (climb_none g p.height p.width p.number))

  pub up_more : (m : ℕ) (q o : Picture) → q ≡ worked (λ R C. climb g R C m) p → o ≡ worked (λ R C. round g R C m) q → o ≡ worked (λ R C. climb g R C (m + 1)) p
  up_more m q o e h = h ∙ ap (worked (λ R C. round g R C m)) e ∙ ap (λ (n : Plane). worked (λ _ _ _. n) p) (sym (climb_more g p.height p.width m p.number))

  pub down_none : (L k : ℕ) → L ≤ k → p ≡ worked (λ R C. descend g R C L k) p
  down_none L k h = ap (λ (n : Plane). worked (λ _ _ _. n) p) (sym (descend_none_below g p.height p.width L k p.number h))

  pub down_more : (L m : ℕ) (q o : Picture) → m < L → q ≡ worked (λ R C. descend g R C L (m + 1)) p → o ≡ worked (λ R C. round g R C m) q → o ≡ worked (λ R C. descend g R C L m) p
  down_more L m q o l e h = h ∙ ap (worked (λ R C. round g R C m)) e ∙ ap (λ (n : Plane). worked (λ _ _ _. n) p) (sym (descend_more g p.height p.width L m p.number l))

  -- down to the lesser of k and L
  pub down_done : (L k n : ℕ) (q : Picture) → n ≤ k → n ≤ L → min k L ≤ n → q ≡ worked (λ R C. descend g R C L n) p → q ≡ worked (λ R C. descend g R C L k) p
  down_done L k n q a b l e = at (cases_lt k L)
    where
      at : (k < L) ⊎ (L ≤ k) → q ≡ worked (λ R C. descend g R C L k) p
      at (inl h) = let s : n ≡ k = omega arith in rw s at e
      at (inr h) = let s : n ≡ L = omega arith in e ∙ sym (down_none L n (omega arith)) ∙ down_none L k h

pub puts_done : (R C : ℕ) (b d : Cells Bool) (L k n : ℕ) → n ≤ k → n ≤ L → min k L ≤ n → d ≡ with_bits (rounds_put R C n L) b → d ≡ with_bits (rounds_put R C k L) b
puts_done R C b d L k n a s l e = at (cases_lt k L)
  where
    at : (k < L) ⊎ (L ≤ k) → d ≡ with_bits (rounds_put R C k L) b
    at (inl h) = let t : n ≡ k = omega arith in rw t at e
    at (inr h) = let t : n ≡ L = omega arith in e ∙ sym (puts_none R C b n L (omega arith)) ∙ puts_none R C b k L h
