-- Laying numbers over a plane in parts.
use Rattle.std.proofs.Common.{◌≡◌, ℕ, ◌+◌, ◌<◌, ◌≤◌, Bool, true, false, cond, ◌&&◌, ◌||◌, eqb, ltb, ℤ, refl, ap, ◌∙◌, arith}
use mathlib.Core.Path.{fun_ext}
use Rattle.std.proofs.lemmas.Bool.Decides.{nat_tests}
use Rattle.std.proofs.lemmas.Bool.{lt-ltb, ltb-true, and_parts}
use Rattle.planes.specs.Planes.{Cells, Picture, with_at}
use Rattle.overlays.specs.Overlays.{inside, overlaid, overlaid_picture, overlaid_bits, put_at, mark_at, in_row}

-- a test at the place (i, j) alone, in the first j columns of row m, and in the first m rows
abbrev pub at_place : ℕ → ℕ → Cells Bool → Cells Bool
at_place i j t r c = eqb r i && (eqb c j && t r c)

abbrev pub in_front : ℕ → ℕ → Cells Bool → Cells Bool
in_front m j t r c = eqb r m && (ltb c j && t r c)

abbrev pub in_rows : ℕ → Cells Bool → Cells Bool
in_rows m t r c = ltb r m && t r c

-- the two tests s and t together are u inside an H × W plane
abbrev pub Join : ℕ → ℕ → Cells Bool → Cells Bool → Cells Bool → Type 0
Join H W s t u = (r c : ℕ) → r < H → c < W → (s r c || t r c) ≡ u r c

-- two tests are alike there
abbrev pub Alike : ℕ → ℕ → Cells Bool → Cells Bool → Type 0
Alike H W s t = (r c : ℕ) → r < H → c < W → s r c ≡ t r c

module _ {A : Type 0} (H W : ℕ) (v x : Cells A) where
  both : (a s t u : Bool) (y z : A) → (a ≡ true → (s || t) ≡ u) → cond (a && s) y (cond (a && t) y z) ≡ cond (a && u) y z
  both a s t u y z h = grind arith

  pub overlaid_join : (s t u : Cells Bool) → Join H W s t u → overlaid H W s v (overlaid H W t v x) ≡ overlaid H W u v x
  unfolding overlaid
  overlaid_join s t u h =
      fun_ext (λ r. fun_ext (λ c. both (inside H W r c) (s r c) (t r c) (u r c) (v r c) (x r c) (λ e. let p = and_parts (ltb r H) (ltb c W) e in h r c (ltb-true r H p.0) (ltb-true c W p.1))))

  pub overlaid_none : (t : Cells Bool) → ((r c : ℕ) → t r c ≡ false) → x ≡ overlaid H W t v x
  unfolding overlaid
  overlaid_none t h = fun_ext (λ r. fun_ext (λ c. let e = h r c in grind arith))

  pub overlaid_place : (t : Cells Bool) (i j : ℕ) → i < H → j < W → cond (t i j) (with_at x i j (v i j)) x ≡ overlaid H W (at_place i j t) v x
  unfolding overlaid
  overlaid_place t i j a b = at (t i j) refl
    where
      at : (q : Bool) → t i j ≡ q → cond q (with_at x i j (v i j)) x ≡ overlaid H W (at_place i j t) v x
      at true h = fun_ext (λ r. fun_ext (λ c. grind (arith, nat_tests)))
      at false h = fun_ext (λ r. fun_ext (λ c. grind (arith, nat_tests)))

  same : (a s t : Bool) (y z : A) → (a ≡ true → s ≡ t) → cond (a && s) y z ≡ cond (a && t) y z
  same a s t y z h = grind arith

  pub overlaid_alike : (s t : Cells Bool) → Alike H W s t → overlaid H W s v x ≡ overlaid H W t v x
  unfolding overlaid
  overlaid_alike s t h =
      fun_ext (λ r. fun_ext (λ c. same (inside H W r c) (s r c) (t r c) (v r c) (x r c) (λ e. let p = and_parts (ltb r H) (ltb c W) e in h r c (ltb-true r H p.0) (ltb-true c W p.1))))

-- the places of a row one by one, and the rows one by one
pub front_none : (m : ℕ) (t : Cells Bool) (r c : ℕ) → in_front m 0 t r c ≡ false
front_none m t r c = grind (arith, nat_tests)

pub front_more : (H W m j : ℕ) (t : Cells Bool) → Join H W (at_place m j t) (in_front m j t) (in_front m (j + 1) t)
front_more H W m j t r c a b = grind (arith, nat_tests)

pub front_all : (H W m j : ℕ) (t : Cells Bool) → W ≤ j → Alike H W (in_front m j t) (in_row m t)
front_all H W m j t h r c a b = grind (arith, nat_tests)

pub rows_none : (t : Cells Bool) (r c : ℕ) → in_rows 0 t r c ≡ false
rows_none t r c = grind (arith, nat_tests)

pub rows_more : (H W m : ℕ) (t : Cells Bool) → Join H W (in_row m t) (in_rows m t) (in_rows (m + 1) t)
rows_more H W m t r c a b = grind (arith, nat_tests)

pub rows_all : (H W m : ℕ) (t : Cells Bool) → H ≤ m → Alike H W (in_rows m t) t
rows_all H W m t h r c a b = grind (arith, nat_tests)

-- from the picture p and the bits b to q and d the numbers v were laid where t holds
pub record Laid (t : Cells Bool) (v : Cells ℤ) (p : Picture) (b : Cells Bool) (q : Picture) (d : Cells Bool) : Type 0 where
  pub picture : q ≡ overlaid_picture t v p
  pub bits : d ≡ overlaid_bits p t b

abbrev numbered : Picture → Cells ℤ → Picture
numbered p n = record { height = p.height; width = p.width; number = n }

abbrev everywhere : Cells Bool
everywhere r c = true

pub sides : (t : Cells Bool) (v : Cells ℤ) (p q : Picture) → q ≡ overlaid_picture t v p → (q.height ≡ p.height) × (q.width ≡ p.width)
unfolding overlaid_picture
sides t v p q e = (ap (λ (o : Picture). o.height) e, ap (λ (o : Picture). o.width) e)

module _ (t : Cells Bool) (v : Cells ℤ) (p : Picture) (b : Cells Bool) where
  pub laid_none : ((r c : ℕ) → t r c ≡ false) → Laid t v p b p b
  unfolding overlaid_picture overlaid_bits
  laid_none h = record {
    picture = ap (numbered p) (overlaid_none p.height p.width v p.number t h);
    bits = overlaid_none p.height p.width everywhere b t h;
  }

  pub laid_place : (q : Picture) (d : Cells Bool) (i j : ℕ) → i < p.height → j < p.width
      → q ≡ put_at (t i j) (v i j) i j p → d ≡ mark_at (t i j) i j b → Laid (at_place i j t) v p b q d
  unfolding overlaid_picture overlaid_bits
  laid_place q d i j lr lc e f = record {
    picture = e ∙ number (t i j) ∙ ap (numbered p) (overlaid_place p.height p.width v p.number t i j lr lc);
    bits = f ∙ overlaid_place p.height p.width everywhere b t i j lr lc;
  }
    where
      number : (z : Bool) → put_at z (v i j) i j p ≡ numbered p (cond z (with_at p.number i j (v i j)) p.number)
      number true = refl
      number false = refl

  pub laid_join : (s u : Cells Bool) (q : Picture) (d : Cells Bool) (o : Picture) (e : Cells Bool)
      → Join p.height p.width s t u → Laid t v p b q d → Laid s v q d o e → Laid u v p b o e
  unfolding overlaid_picture overlaid_bits
  laid_join s u q d o e h first then = record {
    picture = then.picture ∙ ap (overlaid_picture s v) first.picture ∙ ap (numbered p) (overlaid_join p.height p.width v p.number s t u h);
    bits =
        let z = sides t v p q first.picture in
        rw (z.0, z.1) at then.bits ∙ ap (overlaid_bits p s) first.bits ∙ overlaid_join p.height p.width everywhere b s t u h;
  }

  pub laid_alike : (s : Cells Bool) (q : Picture) (d : Cells Bool) → Alike p.height p.width t s → Laid t v p b q d → Laid s v p b q d
  unfolding overlaid_picture overlaid_bits
  laid_alike s q d h l = record {
    picture = l.picture ∙ ap (numbered p) (overlaid_alike p.height p.width v p.number t s h);
    bits = l.bits ∙ overlaid_alike p.height p.width everywhere b t s h;
  }

-- what stands at a place afterwards
pub overlaid_in : {A : Type 0} (H W : ℕ) (t : Cells Bool) (v x : Cells A) (r c : ℕ) → r < H → c < W → t r c ≡ true → overlaid H W t v x r c ≡ v r c
unfolding overlaid
overlaid_in H W t v x r c a b e = rw (lt-ltb r H a, lt-ltb c W b, e)

pub overlaid_not : {A : Type 0} (H W : ℕ) (t : Cells Bool) (v x : Cells A) (r c : ℕ) → t r c ≡ false → overlaid H W t v x r c ≡ x r c
unfolding overlaid
overlaid_not H W t v x r c e = grind (arith, nat_tests)

pub overlaid_number : (t : Cells Bool) (v : Cells ℤ) (p q : Picture) → q ≡ overlaid_picture t v p
    → (r c : ℕ) → q.number r c ≡ overlaid p.height p.width t v p.number r c
unfolding overlaid_picture
overlaid_number t v p q e r c = ap (λ (o : Picture). o.number r c) e
