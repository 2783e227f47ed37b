-- Settling, joined from its steps: copying, undoing, replacing, lifting again, putting the cone.
use Rattle.std.proofs.Common.{◌≡◌, ℕ, ◌-◌, ◌*◌, ◌<◌, ◌≤◌, Bool, true, false, cond, ◌&&◌, ◌||◌, eqb, ltb, ℤ, pos, nat_abs, is_some, Some, None, sym, refl, ◌∙◌, mul-le-mul, arith}
use native.Mathlib.Nat.{zero-min}
use Rattle.std.proofs.lemmas.Bool.Decides.{nat_tests}
use Rattle.std.proofs.lemmas.Nat.{mul-add-lt}
use Rattle.std.proofs.lemmas.Bool.{cond-true, cond-false, lt-ltb, ltb-false, leb-true, le-leb, and_from, and_left, and_parts, or_parts, not-true, false≢true}
use Rattle.planes.specs.Planes.{Cells, Picture}
use Rattle.faults.specs.declared.fault.Fault.{Fault}
use Rattle.planes.specs.Rectangles.{leaves}
use Rattle.planes.specs.Rowwise.{usable}
use Rattle.planes.specs.Flat.{bad_side, flat_fault, made_side}
use Rattle.planes.specs.declared.rectangle.Rectangle.{Rectangle}
use Rattle.wavelets.specs.Lifting.{Plane, Amounts, climb, forward, Agree}
use Rattle.wavelets.specs.Counts.{count_cells}
use Rattle.wavelets.specs.Cone.{in_rectangle}
use Rattle.wavelets.proofs.Locality.{cone_anew}
use Rattle.lifting.specs.Passes.{Budgeted, ShowsTheTransform, ShowsTheRoundsBelow}
use Rattle.cones.specs.Rectangles.{rows_of, columns_of}
use Rattle.cones.proofs.Counting.{count_cells_alike, count_cells_at_most}
use Rattle.overlays.specs.Overlays.{inside, overlaid, overlaid_picture, overlaid_bits}
use Rattle.overlays.specs.Samples.{covers, sample_index, has_sample, patch, replaced}
use Rattle.overlays.proofs.Laying.{Alike, laid_alike, sides, overlaid_in, overlaid_not, overlaid_number}
use Rattle.states.specs.States.{everywhere, padded}
use Rattle.works.specs.Works.{SameSides, Settles, Settled, settles_there, cone_of}

-- copying: the copy shows what was copied
pub copied : (f p q : Picture) → SameSides f p → q ≡ overlaid_picture everywhere (padded f) p
    → Agree f.height f.width q.number f.number
copied f p q s e r c lr lc =
    overlaid_number _ _ p q e r c
    ∙ overlaid_in p.height p.width everywhere (padded f) p.number r c (rw s.0 lr) (rw s.1 lc) refl
    ∙ cond-true _ (f.number r c) (pos 0) (and_from _ _ (lt-ltb r f.height lr) (lt-ltb c f.width lc))

-- replacing: a rectangle that is inside, and has its samples, is covered by them
module _ (H W : ℕ) (a : Rectangle) (n : ℕ) (fits : leaves H W a ≡ false) (room : a.height * a.width ≤ n) where
  covered : (r c : ℕ) → covers a r c ≡ in_rectangle (rows_of a) (columns_of a) r c
  covered r c = grind (arith, nat_tests)

  inner : (r c : ℕ) → covers a r c ≡ true → (r - a.first_row < a.height) × (c - a.first_column < a.width)
  inner r c h = (grind (arith, nat_tests), grind (arith, nat_tests))

  sampled : (r c : ℕ) → covers a r c ≡ true → has_sample a n r c ≡ true
  sampled r c h =
      let i = inner r c h in
      and_from _ _ h (lt-ltb _ _ (omega (arith, mul-add-lt (r - a.first_row) a.width (c - a.first_column) a.height i.0 i.1)))

  patched : (xs : ℕ → ℤ) (x : Plane) (m : Cells ℤ) → Agree H W m x → Agree H W (overlaid H W (has_sample a n) (patch a xs) m) (replaced a xs x)
  patched xs x m same r c lr lc = at (covers a r c) refl
    where
      at : (z : Bool) → covers a r c ≡ z → overlaid H W (has_sample a n) (patch a xs) m r c ≡ replaced a xs x r c
      at true h =
          overlaid_in H W (has_sample a n) (patch a xs) m r c lr lc (sampled r c h)
          ∙ sym (cond-true _ (patch a xs r c) (x r c) (sym (covered r c) ∙ h))
      at false h =
          overlaid_not H W (has_sample a n) (patch a xs) m r c (and_left _ _ h)
          ∙ same r c lr lc ∙ sym (cond-false _ (patch a xs r c) (x r c) (sym (covered r c) ∙ h))

replaced_budgeted : (H W L P : ℕ) (a : Rectangle) (xs : ℕ → ℤ) (x : Plane) → Budgeted H W L P x → ((i : ℕ) → nat_abs (xs i) ≤ P) → Budgeted H W L P (replaced a xs x)
replaced_budgeted H W L P a xs x b small = record { small = λ r c lr lc. at r c lr lc (in_rectangle (rows_of a) (columns_of a) r c) refl; room = b.room }
  where
    at : (r c : ℕ) → r < H → c < W → (z : Bool) → in_rectangle (rows_of a) (columns_of a) r c ≡ z → nat_abs (replaced a xs x r c) ≤ P
    at r c lr lc true h = rw (cond-true _ (patch a xs r c) (x r c) h) (small (sample_index a r c))
    at r c lr lc false h = rw (cond-false _ (patch a xs r c) (x r c) h) (b.small r c lr lc)

-- the steps up to lifting again, from f through p (the store as it was found), q, o and m to w
pub reworks : (K : Amounts) (L n : ℕ) (a : Rectangle) (xs : ℕ → ℤ) (f p q o m w : Picture)
    → leaves f.height f.width a ≡ false → a.height * a.width ≤ n
    → SameSides f p → q ≡ overlaid_picture everywhere (padded f) p
    → SameSides q o → ShowsTheRoundsBelow K L 0 q o
    → m ≡ overlaid_picture (has_sample a n) (patch a xs) o
    → SameSides m w → ShowsTheTransform K L m w → SameSides f w × Settles K L a xs f w
unfolding climb
reworks K L n a xs f p q o m w fits room s e t undo d u lift =
    let H = f.height in let W = f.width in
    let qs = sides _ _ p q e in let ms = sides _ _ o m d in
    let qh : q.height ≡ H = qs.0 ∙ s.0 in let qw : q.width ≡ W = qs.1 ∙ s.1 in
    let oh : o.height ≡ H = t.0 ∙ qh in let ow : o.width ≡ W = t.1 ∙ qw in (
      (u.0 ∙ ms.0 ∙ oh, u.1 ∙ ms.1 ∙ ow),
      λ x P budget small h.
          let undo' : Budgeted H W L P x → Agree H W q.number (forward K H W L x) → Agree H W o.number x = rw (qh, qw, zero-min L) at (undo x P) in
          let undone : Agree H W o.number x = undo' budget (λ r c lr lc. copied f p q s e r c lr lc ∙ h r c lr lc) in
          let over : (r c : ℕ) → m.number r c ≡ overlaid H W (has_sample a n) (patch a xs) o.number r c = rw (oh, ow) at (overlaid_number _ _ o m d) in
          let y : Plane = replaced a xs x in
          let lift' : Budgeted H W L P y → Agree H W m.number y → Agree H W w.number (forward K H W L y) = rw (ms.0, ms.1, oh, ow) at (lift y P) in
          lift' (replaced_budgeted H W L P a xs x budget small) (λ r c lr lc. over r c ∙ patched H W a n fits room xs x o.number undone r c lr lc),
    )

-- putting the cone: what is outside stays, and is that of the edited transform all the same
settles : (K : Amounts) (L : ℕ) (a : Rectangle) (xs : ℕ → ℤ) (f w e : Picture)
    → Settles K L a xs f w → e ≡ overlaid_picture (cone_of f a L) w.number f → Settles K L a xs f e
settles K L a xs f w e reworked d x P budget small h r c lr lc =
    overlaid_number _ _ f e d r c ∙ at (cone_of f a L r c) refl
  where
    y : Plane
    y = replaced a xs x

    at : (z : Bool) → cone_of f a L r c ≡ z → overlaid f.height f.width (cone_of f a L) w.number f.number r c ≡ forward K f.height f.width L y r c
    at true g = overlaid_in f.height f.width (cone_of f a L) w.number f.number r c lr lc g ∙ reworked x P budget small h r c lr lc
    at false g =
        overlaid_not f.height f.width (cone_of f a L) w.number f.number r c g
        ∙ sym (cond-false _ _ _ g)
        ∙ cone_anew K f.height f.width L (rows_of a) (columns_of a) x y f.number h (λ i j _ _ o. sym (cond-false _ (patch a xs i j) (x i j) o)) r c lr lc

-- inside a plane of the same sides the test of the plane says nothing
only_the_cone : (f p : Picture) (k : Cells Bool) → SameSides p f → Alike p.height p.width (λ r c. inside f.height f.width r c && k r c) k
only_the_cone f p k s r c lr lc = rw (s.0, s.1, lt-ltb r p.height lr, lt-ltb c p.width lc)

cone_counted : (p : Picture) (t k : Cells Bool) (n : ℕ) → Alike p.height p.width t k → n ≡ count_cells p.height p.width t → n ≡ count_cells p.height p.width k
cone_counted p t k n h e = e ∙ count_cells_alike p.height p.width t k h

-- the cone's cells put from w, and counted: the settlement is made
pub settled : (K : Amounts) (L : ℕ) (a : Rectangle) (xs : ℕ → ℤ) (p w : Picture) (b : Cells Bool) (q : Picture) (d : Cells Bool) (n : ℕ) (k : Cells Bool)
    → k ≡ cone_of p a L → SameSides p w → Settles K L a xs p w
    → q ≡ overlaid_picture (λ r c. inside w.height w.width r c && k r c) w.number p
    → d ≡ overlaid_bits p (λ r c. inside w.height w.width r c && k r c) b
    → n ≡ count_cells p.height p.width (λ r c. inside w.height w.width r c && k r c)
    → Settled K L a xs p b q d n
settled K L a xs p w b q d n k e s reworked put marks counted =
    let t : Cells Bool = (λ r c. inside w.height w.width r c && k r c) in
    let alike : Alike p.height p.width t (cone_of p a L) = rw (← e) (only_the_cone w p k s) in
    let laid = laid_alike t w.number p b (cone_of p a L) q d alike (record { picture = put; bits = marks }) in
    record {
      sides = sides (cone_of p a L) w.number p q laid.picture;
      cells = settles K L a xs p w q reworked laid.picture;
      bits = laid.bits;
      count = cone_counted p t (cone_of p a L) n alike counted;
    }

-- what a settlement that can be made is known by
pub none_means : (x y : Bool) (f g : Fault) → is_some (cond x (Some f) (cond y (Some g) None)) ≡ false → (x ≡ false) × (y ≡ false)
none_means true y f g h = absurd (false≢true (sym h))
none_means false true f g h = absurd (false≢true (sym h))
none_means false false f g h = (refl, refl)

-- the sides of a flat store that could be made
pub record Sound (R C m : ℕ) : Type 0 where
  pub tall : R ≤ 4096
  pub wide : C ≤ 4096
  pub room : R * C ≤ m

sound : (R C m : ℕ) → is_some (flat_fault R C m) ≡ false → Sound R C m
sound R C m h =
    let z = none_means (bad_side R || bad_side C) (ltb m (R * C)) _ _ h in
    let s = or_parts (bad_side R) (bad_side C) z.0 in
    record {
      tall = ltb-false 4096 R (or_parts (eqb R 0) (ltb 4096 R) s.0).1;
      wide = ltb-false 4096 C (or_parts (eqb C 0) (ltb 4096 C) s.1).1;
      room = ltb-false m (R * C) z.1;
    }

pub made : (R C m r c l : ℕ) → is_some (flat_fault R C m) ≡ false → r ≡ made_side R C m R → c ≡ made_side R C m C → l ≡ m
    → (usable r c l r ≡ R) × (usable r c l c ≡ C)
made R C m r c l h e f g =
    let e' : r ≡ R = e ∙ cond-false _ _ _ h in let f' : c ≡ C = f ∙ cond-false _ _ _ h in
    rw (e', f', g, le-leb (R * C) m (sound R C m h).room) (refl, refl)

pub record CanSettle (R C : ℕ) (a : Rectangle) (n m : ℕ) : Type 0 where
  pub inner : leaves R C a ≡ false
  pub samples : a.height * a.width ≤ n
  pub scratch : is_some (flat_fault R C m) ≡ false

pub can_settle : (R C : ℕ) (a : Rectangle) (n m : ℕ) → true ≡ settles_there R C a n m → CanSettle R C a n m
can_settle R C a n m h =
    let x = and_parts _ _ (sym h) in let y = and_parts _ _ x.0 in
    record { inner = not-true _ y.0; samples = leb-true _ _ y.1; scratch = not-true _ x.1 }

pub few : (R C m : ℕ) (p : Cells Bool) → is_some (flat_fault R C m) ≡ false → count_cells R C p ≤ 4096 * 4096
few R C m p h = let s = sound R C m h in omega (arith, count_cells_at_most R C p, mul-le-mul s.tall s.wide)
