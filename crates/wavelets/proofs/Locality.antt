-- Edits stay in their cone: first on a line, then on a level, then through the levels.
use Rattle.std.proofs.Common.{◌≡◌, ℕ, zero, suc, ◌+◌, ◌-◌, ◌*◌, ◌/◌, ◌%◌, ◌^◌, ◌<◌, ◌≤◌, Bool, true, false, cond, ◌&&◌, leb, sym, refl, ◌∙◌, subst, div-one, mul-div_cancel, arith}
use native.Mathlib.Nat.{mod-one}
use Rattle.std.proofs.lemmas.Bool.Decides.{nat_tests}
use Rattle.std.proofs.lemmas.Bool.{lt-ltb}
use Rattle.std.proofs.lemmas.Nat.{pow_pos}
use Rattle.wavelets.specs.Lifting.{Line, Plane, Amounts, left, right, predicted, lift, columns, level, size, lattice, on, round, climb, forward, AgreeOutside}
use Rattle.wavelets.specs.Theorems.{EditsStayIn, PuttingAnewGivesTheEditedTransform}
use Rattle.wavelets.specs.declared.Span.{Span}
use Rattle.wavelets.specs.Cone.{within, in_rectangle, reach, member, next, span_at, depth, in_cone}
use Rattle.wavelets.proofs.Steps.{changed_parity, step_agrees}
use Rattle.wavelets.proofs.Planes.{rows_in, columns_in}
use Rattle.wavelets.proofs.Lattices.{place_inside, cell_inside, place_on, next_place, on_below, off_above, on_lattice_on, on_lattice_off}
use Rattle.wavelets.proofs.Spans.{depth_on, depth_off, depth_below, cone_last, cone_under}

-- place i is farther than d from the span, or b fails (b says of a line whether anything on it differs)
Far : Bool → ℕ → Span → ℕ → Type 0
Far b d s i = (leb (s.first - d) i && leb i (s.last + d) && b) ≡ false

far_left : (b : Bool) (s : Span) (i d : ℕ) → Far b (d + 1) s i → Far b d s (left i)
unfolding Far
far_left b s zero d h = grind (arith, nat_tests)
far_left b s (suc i) d h = grind (arith, nat_tests)

far_right : (b : Bool) (s : Span) (n i d : ℕ) → Far b (d + 1) s i → Far b d s (right n i)
unfolding Far
far_right b s n i d h = grind (arith, nat_tests)

far_less : (b : Bool) (s : Span) (i d e : ℕ) → e ≤ d → Far b d s i → Far b e s i
unfolding Far
far_less b s i d e le h = grind (arith, nat_tests)

not_within : (b : Bool) (s : Span) (i : ℕ) → Far b 0 s i → (within s i && b) ≡ false
unfolding Far
not_within b s i h = grind (arith, nat_tests)

not_member : (b : Bool) (n : ℕ) (s : Span) (i : ℕ) → i < n → (member n s i && b) ≡ false → Far b (reach i) s i
unfolding Far
not_member b n s i lt h = grind (arith, nat_tests)

lift_agrees : (K : Amounts) (b : Bool) (n : ℕ) (s : Span) (x y : Line)
    → ((i : ℕ) → i < n → (within s i && b) ≡ false → x i ≡ y i)
    → (i : ℕ) → i < n → (member n s i && b) ≡ false → lift K n x i ≡ lift K n y i
unfolding predicted lift
lift_agrees K b n s x y same i lt far =
    step_agrees n 0 _ _ _ (λ i. Far b (i % 2) s i) (λ i. Far b (reach i) s i)
    (step_agrees n 1 _ x y (λ i. Far b 0 s i) (λ i. Far b (i % 2) s i)
    (λ i lt f. same i lt (not_within b s i f))
    (λ i f. far_less b s i (i % 2) 0 (omega arith) f)
    (λ i t f. let g = subst (λ (d : ℕ). Far b d s i) (changed_parity n 1 i t) f in (far_left b s i 0 g, far_right b s n i 0 g)))
    (λ i f. far_less b s i (reach i) (i % 2) (omega arith) f)
    (λ i t f.
    let e : reach i ≡ 2 = omega (arith, changed_parity n 0 i t) in
    let g = subst (λ (d : ℕ). Far b d s i) e f in
    (far_less b s (left i) 1 (left i % 2) (omega arith) (far_left b s i 1 g), far_less b s (right n i) 1 (right n i % 2) (omega arith) (far_right b s n i 1 g)))
    i lt (not_member b n s i lt far)

swap : (a b : Bool) → (a && b) ≡ false → (b && a) ≡ false
swap a b h = grind arith

level_agrees : (K : Amounts) (R C : ℕ) (s t : Span) (x y : Plane)
    → AgreeOutside (in_rectangle s t) R C x y
    → (r c : ℕ) → r < R → c < C → (member R s r && member C t c) ≡ false → level K R C x r c ≡ level K R C y r c
unfolding level
level_agrees K R C s t x y same r c lr lc far =
    rows_in (lift K) R C _ r c (lt-ltb r R lr)
    ∙ lift_agrees K (member R s r) C t _ _ row c lc (swap (member R s r) (member C t c) far)
    ∙ sym (rows_in (lift K) R C _ r c (lt-ltb r R lr))
  where
    column : (j i : ℕ) → j < C → i < R → (member R s i && within t j) ≡ false → columns (lift K) R C x i j ≡ columns (lift K) R C y i j
    column j i lj li f =
        columns_in (lift K) R C x i j (lt-ltb j C lj)
        ∙ lift_agrees K (within t j) R s (λ i. x i j) (λ i. y i j) (λ i li f. same i j li lj f) i li f
        ∙ sym (columns_in (lift K) R C y i j (lt-ltb j C lj))

    row : (j : ℕ) → j < C → (within t j && member R s r) ≡ false → columns (lift K) R C x r j ≡ columns (lift K) R C y r j
    row j lj f = column j r lj lr (swap (within t j) (member R s r) f)

-- the cone at the lattice of its last level
cone_on : (R C : ℕ) (s t : Span) (l r c : ℕ) → on l r c ≡ true → in_cone R C s t l r c ≡ (within (span_at R s l) (r / 2 ^ l) && within (span_at C t l) (c / 2 ^ l))
cone_on R C s t l r c h = cone_last R C s t l r c l (sym (depth_on l r c h)) refl

-- an even member's half is in the next span
next_has : (b : Bool) (n : ℕ) (s : Span) (i : ℕ) → i < n → i % 2 ≡ 0 → (within (next n s) (i / 2) && b) ≡ false → (member n s i && b) ≡ false
next_has b n s i lt e h = grind (arith, nat_tests)

-- a cell of lattice k that is not in the cone of level k + 1 is no member there
cone_members : (R C : ℕ) (s t : Span) (k r c : ℕ) → r < R → c < C → on k r c ≡ true → in_cone R C s t (suc k) r c ≡ false
    → (member (size k R) (span_at R s k) (r / 2 ^ k) && member (size k C) (span_at C t k) (c / 2 ^ k)) ≡ false
unfolding span_at
cone_members R C s t k r c lr lc h f = at (on (suc k) r c) refl
  where
    i : ℕ
    i = r / 2 ^ k

    j : ℕ
    j = c / 2 ^ k

    u : Span
    u = span_at R s k

    v : Span
    v = span_at C t k

    at : (q : Bool) → on (suc k) r c ≡ q → (member (size k R) u i && member (size k C) v j) ≡ false
    at false o = rw (← (cone_under R C s t (suc k) r c k (sym (depth_off k r c o ∙ depth_on k r c h)) (λ e. omega arith))) f
    at true o =
        let e = on_below k r c o in
        let f₁ : (within (next (size k R) u) (i / 2) && within (next (size k C) v) (j / 2)) ≡ false =
        rw (← (next_place k r), ← (next_place k c), ← (cone_on R C s t (suc k) r c o)) f in
        let f₂ = next_has _ (size k R) u i (place_inside k R r lr) e.1 f₁ in
        let f₃ = next_has _ (size k C) v j (place_inside k C c lc) e.2 (swap (member (size k R) u i) (within (next (size k C) v) (j / 2)) f₂) in
        swap (member (size k C) v j) (member (size k R) u i) f₃

-- a cell off lattice k is in the cone of level k + 1 exactly where it is in that of level k
cone_same : (R C : ℕ) (s t : Span) (k r c : ℕ) → on k r c ≡ false → in_cone R C s t k r c ≡ in_cone R C s t (suc k) r c
cone_same R C s t k r c h =
    let l = depth_below k r c h in
    cone_under R C s t k r c (depth k r c) refl (λ e. omega arith)
    ∙ sym (cone_under R C s t (suc k) r c (depth k r c) (sym (depth_off k r c (off_above k r c h))) (λ e. omega arith))

round_agrees : (K : Amounts) (R C : ℕ) (s t : Span) (k : ℕ) (x y : Plane)
    → AgreeOutside (in_cone R C s t k) R C x y
    → AgreeOutside (in_cone R C s t (suc k)) R C (round (level K) R C k x) (round (level K) R C k y)
unfolding lattice
round_agrees K R C s t k x y same r c lr lc far = at (on k r c) refl
  where
    on_the_lattice : AgreeOutside (in_rectangle (span_at R s k) (span_at C t k)) (size k R) (size k C) (lattice k x) (lattice k y)
    on_the_lattice i j li lj f = same (i * 2 ^ k) (j * 2 ^ k) (cell_inside k R i li) (cell_inside k C j lj)
        (rw (cone_on R C s t k (i * 2 ^ k) (j * 2 ^ k) (place_on k i j), mul-div_cancel i (pow_pos k), mul-div_cancel j (pow_pos k)) f)

    at : (q : Bool) → on k r c ≡ q → round (level K) R C k x r c ≡ round (level K) R C k y r c
    at false h = on_lattice_off k _ x r c h ∙ same r c lr lc (rw (cone_same R C s t k r c h) far) ∙ sym (on_lattice_off k _ y r c h)
    at true h =
        on_lattice_on k _ x r c h
        ∙ level_agrees K (size k R) (size k C) (span_at R s k) (span_at C t k) (lattice k x) (lattice k y) on_the_lattice
        (r / 2 ^ k) (c / 2 ^ k) (place_inside k R r lr) (place_inside k C c lc) (cone_members R C s t k r c lr lc h far)
        ∙ sym (on_lattice_on k _ y r c h)

-- at no level the cone is the rectangle
pub cone_none : (R C : ℕ) (s t : Span) (r c : ℕ) → in_cone R C s t 0 r c ≡ in_rectangle s t r c
unfolding span_at
cone_none R C s t r c = cone_on R C s t 0 r c (rw (mod-one r, mod-one c)) ∙ rw (div-one r, div-one c)

pub locality : EditsStayIn in_cone
unfolding climb
locality K R C zero s t x y same r c lr lc f = same r c lr lc (rw (← (cone_none R C s t r c)) f)
locality K R C (suc l) s t x y same r c lr lc f = round_agrees K R C s t l _ _ (locality K R C l s t x y same) r c lr lc f

pub cone_anew : PuttingAnewGivesTheEditedTransform in_cone
cone_anew K R C L s t x y cells now same r c lr lc = at (in_cone R C s t L r c) refl
  where
    at : (q : Bool) → in_cone R C s t L r c ≡ q → cond (in_cone R C s t L r c) (forward K R C L y r c) (cells r c) ≡ forward K R C L y r c
    at true h = rw h
    at false h = rw h (now r c lr lc ∙ locality K R C L s t x y same r c lr lc h)
