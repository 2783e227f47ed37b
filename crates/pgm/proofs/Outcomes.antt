-- What the reader's answer says of its text.
use Rattle.std.proofs.Common.{◌≡◌, ℕ, ◌+◌, ◌↔◌, List, [], ◌∷◌, ◌++◌, length, Some, None, Option, refl, ap, subst, arith}
use Rattle.pgm.specs.Machine.{next, class, scan, after}
use Rattle.pgm.specs.declared.header.State.{State}
use Rattle.pgm.specs.declared.header.State.TheVariants.{Magic, Version, Gap, Spaced, Comment, Number, Past, Unfit}
use Rattle.pgm.proofs.Rests.{Rest, Live, Turn, Parts, turn, not_empty, completes}

-- the text ys was read as an item that writes n, and the byte b ended it
pub record Passed (K : ℕ → List ℕ → Type 0) (s : State) (xs : List ℕ) (i n j : ℕ) : Type 0 where
  pub ys : List ℕ
  pub b : ℕ
  pub zs : List ℕ
  pub is : xs ≡ ys ++ b ∷ zs
  pub place : j ≡ i + length ys
  pub sound : (ts : List ℕ) → K n ts → Rest K s (ys ++ ts)
  pub complete : (ts : List ℕ) → Rest K s (ys ++ b ∷ ts) → K n (b ∷ ts)
  pub none : (ps qs : List ℕ) → ys ≡ ps ++ qs → Rest K s ps → ⊥

abbrev pub Ends : (List ℕ → Type 0) → List ℕ → List ℕ → Type 0
Ends L ys [] = Unit {0}
Ends L ys (b ∷ zs) = (ts : List ℕ) → L (ys ++ b ∷ ts) → ⊥

-- ys begins a text of L, and no more of xs does
pub record Stuck (L : List ℕ → Type 0) (xs : List ℕ) (i j : ℕ) : Type 0 where
  pub ys : List ℕ
  pub zs : List ℕ
  pub is : xs ≡ ys ++ zs
  pub place : j ≡ i + length ys
  pub begins : (ts : List ℕ) × L (ys ++ ts)
  pub none : (ps qs : List ℕ) → ys ≡ ps ++ qs → L ps → ⊥
  pub ends : Ends L ys zs

abbrev pub Out : (ℕ → List ℕ → Type 0) → State → List ℕ → ℕ → Option ℕ → ℕ → Type 0
Out K s xs i (Some n) j = Passed K s xs i n j
Out K s xs i None j = ((n : ℕ) → (ts : List ℕ) × K n ts) → Stuck (Rest K s) xs i j

-- one byte more in front
module _ (K : ℕ → List ℕ → Type 0) (s t : State) (b i : ℕ) (empty : Rest K s [] → ⊥) (step : (ts : List ℕ) → Rest K s (b ∷ ts) ↔ Rest K t ts) where
  fronts : (ys : List ℕ) → ((ps qs : List ℕ) → ys ≡ ps ++ qs → Rest K t ps → ⊥) → (ps qs : List ℕ) → b ∷ ys ≡ ps ++ qs → Rest K s ps → ⊥
  fronts ys h [] qs e r = empty r
  fronts ys h (p ∷ ps) qs e r =
      let eb : p ≡ b = cc in
      let es : ys ≡ ps ++ qs = cc in
      h ps qs es ((step ps).0 (subst (λ q. Rest K s (q ∷ ps)) eb r))

  ends_more : (ys zs : List ℕ) → Ends (Rest K t) ys zs → Ends (Rest K s) (b ∷ ys) zs
  ends_more ys [] e = tt
  ends_more ys (z ∷ zs) e = λ ts r. e ts ((step (ys ++ z ∷ ts)).0 r)

  more : (xs : List ℕ) (o : Option ℕ) (j : ℕ) → Out K t xs (i + 1) o j → Out K s (b ∷ xs) i o j
  more xs (Some n) j p = record {
    ys = b ∷ p.ys;
    b = p.b;
    zs = p.zs;
    is = ap (λ q. b ∷ q) p.is;
    place = omega (arith, p.place);
    sound = λ ts k. (step (p.ys ++ ts)).1 (p.sound ts k);
    complete = λ ts r. p.complete ts ((step (p.ys ++ p.b ∷ ts)).0 r);
    none = fronts p.ys p.none;
  }
  more xs None j f = λ w.
      let p = f w in
      record {
        ys = b ∷ p.ys;
        zs = p.zs;
        is = ap (λ q. b ∷ q) p.is;
        place = omega (arith, p.place);
        begins = (p.begins.0, (step (p.ys ++ p.begins.0)).1 p.begins.1);
        none = fronts p.ys p.none;
        ends = ends_more p.ys p.zs p.ends;
      }

module _ (K : ℕ → List ℕ → Type 0) (parts : Parts K) where
  only : (s : State) (ps qs : List ℕ) → [] ≡ ps ++ qs → Rest K s ps → ⊥
  only s [] qs e r = not_empty K parts s r
  only s (p ∷ ps) qs e r = let z : ◌≡◌ {A = ℕ} 0 1 = cc in omega arith

  stop : (s t : State) → Live s → (b i : ℕ) (xs : List ℕ) → Turn K s t b → (r : Option ℕ × ℕ)
      → (Live t → Out K t xs (i + 1) r.0 r.1) → Out K s (b ∷ xs) i (after t i r).0 (after t i r).1
  stop s Magic l b i xs t r h = more K s Magic b i (not_empty K parts s) t xs r.0 r.1 (h tt)
  stop s Version l b i xs t r h = more K s Version b i (not_empty K parts s) t xs r.0 r.1 (h tt)
  stop s Gap l b i xs t r h = more K s Gap b i (not_empty K parts s) t xs r.0 r.1 (h tt)
  stop s Spaced l b i xs t r h = more K s Spaced b i (not_empty K parts s) t xs r.0 r.1 (h tt)
  stop s Comment l b i xs t r h = more K s Comment b i (not_empty K parts s) t xs r.0 r.1 (h tt)
  stop s (Number n k) l b i xs t r h = more K s (Number n k) b i (not_empty K parts s) t.1 xs r.0 r.1 (h t.0)
  stop s (Past n) l b i xs t r h = record {
    ys = [];
    b = b;
    zs = xs;
    is = refl;
    place = omega arith;
    sound = t.0;
    complete = t.1;
    none = only s;
  }
  stop s Unfit l b i xs t r h = λ w. record {
    ys = [];
    zs = b ∷ xs;
    is = refl;
    place = omega arith;
    begins = completes K parts w s l;
    none = only s;
    ends = t;
  }

  pub outcome : (s : State) → Live s → (xs : List ℕ) (i : ℕ) → Out K s xs i (scan s i xs).0 (scan s i xs).1
  outcome s l [] i = λ w. record { ys = []; zs = []; is = refl; place = omega arith; begins = completes K parts w s l; none = only s; ends = tt }
  outcome s l (b ∷ xs) i = stop s (next s (class b)) l b i xs (turn K parts s l b) (scan (next s (class b)) (i + 1) xs) (λ m. outcome (next s (class b)) m xs (i + 1))
