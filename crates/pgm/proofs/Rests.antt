-- What may still come at each state of the reader.
use Rattle.std.proofs.Common.{◌≡◌, ℕ, ◌+◌, ◌-◌, ◌*◌, ◌<◌, ◌≤◌, Bool, true, false, ◌&&◌, eqb, ltb, leb, ◌⊎◌, ◌↔◌, List, [], ◌∷◌, sym, refl, subst, inl, inr, ⊎_elim, arith}
use Rattle.std.proofs.lemmas.Bool.{cond_both, eqb-true, eqb-false, ltb-true, ltb-false, leb-true, leb-false, and_parts, and_cases}
use Rattle.pgm.specs.Grammar.{IsBlank, IsDigit}
use Rattle.pgm.specs.Machine.{next, class}
use Rattle.pgm.specs.declared.header.State.{State}
use Rattle.pgm.specs.declared.header.State.TheVariants.{Magic, Version, Gap, Spaced, Comment, Number, Past, Unfit}
use Rattle.pgm.specs.declared.header.Class.{Class}
use Rattle.pgm.specs.declared.header.Class.TheVariants.{LetterP, Hash, Newline, Blank, Digit, Other}

-- blanks and comments, the first of which may have begun, and then K
abbrev pub Skip : Bool → (List ℕ → Type 0) → List ℕ → Type 0
Skip false K [] = K []
Skip false K (b ∷ ys) = K (b ∷ ys) ⊎ ((IsBlank b × Skip false K ys) ⊎ ((b ≡ 35) × Skip true K ys))
Skip true K [] = ⊥
Skip true K (b ∷ ys) = ((b ≡ 10) × Skip false K ys) ⊎ ((b ≡ 10 → ⊥) × Skip true K ys)

-- digits after c others that write n, and then K
abbrev pub Dig : (ℕ → List ℕ → Type 0) → ℕ → ℕ → List ℕ → Type 0
Dig K c n [] = (1 ≤ c) × K n []
Dig K c n (b ∷ ys) = ((1 ≤ c) × K n (b ∷ ys)) ⊎ (IsDigit b × (c < 5) × Dig K (c + 1) (n * 10 + (b - 48)) ys)

abbrev pub GapL : (ℕ → List ℕ → Type 0) → List ℕ → Type 0
GapL K [] = ⊥
GapL K (b ∷ ys) = (IsBlank b × Skip false (Dig K 0 0) ys) ⊎ ((b ≡ 35) × Skip true (Dig K 0 0) ys)

abbrev pub VersionL : (ℕ → List ℕ → Type 0) → List ℕ → Type 0
VersionL K [] = ⊥
VersionL K (b ∷ ys) = (b ≡ 53) × GapL K ys

abbrev pub MagicL : (ℕ → List ℕ → Type 0) → List ℕ → Type 0
MagicL K [] = ⊥
MagicL K (b ∷ ys) = (b ≡ 80) × VersionL K ys

abbrev pub Rest : (ℕ → List ℕ → Type 0) → State → List ℕ → Type 0
Rest K Magic xs = MagicL K xs
Rest K Version xs = VersionL K xs
Rest K Gap xs = GapL K xs
Rest K Spaced xs = Skip false (Dig K 0 0) xs
Rest K Comment xs = Skip true (Dig K 0 0) xs
Rest K (Number n c) xs = Dig K c n xs
Rest K (Past n) xs = ⊥
Rest K Unfit xs = ⊥

abbrev pub Live : State → Type 0
Live Magic = Unit {0}
Live Version = Unit {0}
Live Gap = Unit {0}
Live Spaced = Unit {0}
Live Comment = Unit {0}
Live (Number n c) = 1 ≤ c
Live (Past n) = ⊥
Live Unfit = ⊥

-- what a class says of its byte
abbrev pub Means : Class → ℕ → Type 0
Means LetterP b = b ≡ 80
Means Hash b = b ≡ 35
Means Newline b = b ≡ 10
Means Blank b = IsBlank b × (b ≡ 10 → ⊥) × (9 ≤ b) × (b ≤ 32)
Means (Digit d) b = IsDigit b × (d ≡ b - 48)
Means Other b = (b ≡ 80 → ⊥) × (b ≡ 35 → ⊥) × (IsBlank b → ⊥) × (IsDigit b → ⊥)

pub means : (b : ℕ) → Means (class b) b
means b =
    cond_both (eqb b 80) _ _ (λ c. Means c b) (λ e. eqb-true b 80 e) (λ n0.
    cond_both (eqb b 35) _ _ (λ c. Means c b) (λ e. eqb-true b 35 e) (λ n1.
    cond_both (eqb b 10) _ _ (λ c. Means c b) (λ e. eqb-true b 10 e) (λ n2.
    cond_both (leb 9 b && leb b 13) _ _ (λ c. Means c b)
    (λ e. let l = leb-true 9 b (and_parts (leb 9 b) (leb b 13) e).0 in let m = leb-true b 13 (and_parts (leb 9 b) (leb b 13) e).1 in (inl (l, m), eqb-false b 10 n2, l, omega arith)) (λ n3.
    cond_both (eqb b 32) _ _ (λ c. Means c b) (λ e. let q = eqb-true b 32 e in (inr q, eqb-false b 10 n2, omega arith, omega arith)) (λ n4.
    cond_both (leb 48 b && leb b 57) _ _ (λ c. Means c b)
    (λ e. let l = leb-true 48 b (and_parts (leb 48 b) (leb b 57) e).0 in let m = leb-true b 57 (and_parts (leb 48 b) (leb b 57) e).1 in ((l, m), refl))
    (λ n5. (
      eqb-false b 80 n0,
      eqb-false b 35 n1,
      ⊎_elim (λ p. ⊎_elim (λ f. omega (arith, leb-false 9 b f)) (λ f. omega (arith, leb-false b 13 f)) (and_cases (leb 9 b) (leb b 13) n3)) (eqb-false b 32 n4),
      (λ p. ⊎_elim (λ f. omega (arith, leb-false 48 b f)) (λ f. omega (arith, leb-false b 57 f)) (and_cases (leb 48 b) (leb b 57) n5)),
    )))))))

-- K begins with what is no digit
pub record Parts (K : ℕ → List ℕ → Type 0) : Type 0 where
  pub some : (n : ℕ) → K n [] → ⊥
  pub no_digit : (n b : ℕ) (ts : List ℕ) → K n (b ∷ ts) → IsDigit b → ⊥

-- one byte takes the reader from s to t
abbrev pub Turn : (ℕ → List ℕ → Type 0) → State → State → ℕ → Type 0
Turn K s (Past n) b = ((ts : List ℕ) → K n ts → Rest K s ts) × ((ts : List ℕ) → Rest K s (b ∷ ts) → K n (b ∷ ts))
Turn K s Unfit b = (ts : List ℕ) → Rest K s (b ∷ ts) → ⊥
Turn K s Magic b = (ts : List ℕ) → Rest K s (b ∷ ts) ↔ Rest K Magic ts
Turn K s Version b = (ts : List ℕ) → Rest K s (b ∷ ts) ↔ Rest K Version ts
Turn K s Gap b = (ts : List ℕ) → Rest K s (b ∷ ts) ↔ Rest K Gap ts
Turn K s Spaced b = (ts : List ℕ) → Rest K s (b ∷ ts) ↔ Rest K Spaced ts
Turn K s Comment b = (ts : List ℕ) → Rest K s (b ∷ ts) ↔ Rest K Comment ts
Turn K s (Number n c) b = (1 ≤ c) × ((ts : List ℕ) → Rest K s (b ∷ ts) ↔ Rest K (Number n c) ts)

low : (b : ℕ) → IsBlank b → (9 ≤ b) × (b ≤ 32)
low b = ⊎_elim (λ p. (omega arith, omega arith)) (λ e. (omega arith, omega arith))

module _ (K : ℕ → List ℕ → Type 0) (parts : Parts K) where
  magic : (c : Class) (b : ℕ) → Means c b → Turn K Magic (next Magic c) b
  magic LetterP b m = λ ts. ((λ p. p.1), (λ r. (m, r)))
  magic Hash b m = λ ts p. omega arith
  magic Newline b m = λ ts p. omega arith
  magic Blank b m = λ ts p. omega arith
  magic (Digit d) b m = λ ts p. omega arith
  magic Other b m = λ ts p. m.0 p.0

  version : (c : Class) (b : ℕ) → Means c b → Turn K Version (next Version c) b
  version LetterP b m = λ ts p. omega arith
  version Hash b m = λ ts p. omega arith
  version Newline b m = λ ts p. omega arith
  version Blank b m = λ ts p. omega arith
  version (Digit d) b m =
      cond_both (eqb d 5) _ _ (λ t. Turn K Version t b)
      (λ e ts. ((λ p. p.1), (λ r. (let q = eqb-true d 5 e in omega arith, r))))
      (λ e ts p. eqb-false d 5 e (omega arith))
  version Other b m = λ ts p. m.3 (omega arith, omega arith)

  gap : (c : Class) (b : ℕ) → Means c b → Turn K Gap (next Gap c) b
  gap LetterP b m = λ ts. ⊎_elim (λ p. omega (arith, low b p.0)) (λ p. omega arith)
  gap Hash b m = λ ts. (⊎_elim (λ p. absurd (omega (arith, low b p.0))) (λ p. p.1), (λ r. inr (m, r)))
  gap Newline b m = λ ts. (⊎_elim (λ p. p.1) (λ p. absurd (omega arith)), (λ r. inl (inl (omega arith, omega arith), r)))
  gap Blank b m = λ ts. (⊎_elim (λ p. p.1) (λ p. absurd (omega arith)), (λ r. inl (m.0, r)))
  gap (Digit d) b m = λ ts. ⊎_elim (λ p. omega (arith, low b p.0)) (λ p. omega arith)
  gap Other b m = λ ts. ⊎_elim (λ p. m.2 p.0) (λ p. m.1 p.0)

  -- a number has not begun
  begun : (b : ℕ) (ts : List ℕ) → Dig K 0 0 (b ∷ ts) → IsDigit b × Dig K 1 (b - 48) ts
  begun b ts = ⊎_elim (λ p. absurd (omega arith)) (λ p. (p.0, subst (λ n. Dig K 1 n ts) (omega arith) p.2))

  begin : (b : ℕ) (ts : List ℕ) → IsDigit b → Dig K 1 (b - 48) ts → Dig K 0 0 (b ∷ ts)
  begin b ts d r = inr (d, omega arith, subst (λ n. Dig K 1 n ts) (omega arith) r)

  spaced : (c : Class) (b : ℕ) → Means c b → Turn K Spaced (next Spaced c) b
  spaced LetterP b m = λ ts. ⊎_elim (λ p. omega (arith, (begun b ts p).0)) (⊎_elim (λ p. omega (arith, low b p.0)) (λ p. omega arith))
  spaced Hash b m = λ ts. (⊎_elim (λ p. absurd (omega (arith, (begun b ts p).0))) (⊎_elim (λ p. absurd (omega (arith, low b p.0))) (λ p. p.1)), (λ r. inr (inr (m, r))))
  spaced Newline b m = λ ts. (⊎_elim (λ p. absurd (omega (arith, (begun b ts p).0))) (⊎_elim (λ p. p.1) (λ p. absurd (omega arith))), (λ r. inr (inl (inl (omega arith, omega arith), r))))
  spaced Blank b m = λ ts. (⊎_elim (λ p. absurd (omega (arith, (begun b ts p).0))) (⊎_elim (λ p. p.1) (λ p. absurd (omega arith))), (λ r. inr (inl (m.0, r))))
  spaced (Digit d) b m = (
    omega arith,
    λ ts. (
      ⊎_elim (λ p. subst (λ n. Dig K 1 n ts) (sym m.1) (begun b ts p).1) (⊎_elim (λ p. absurd (omega (arith, low b p.0))) (λ p. absurd (omega arith))),
      (λ r. inl (begin b ts m.0 (subst (λ n. Dig K 1 n ts) m.1 r))),
    ),
  )
  spaced Other b m = λ ts. ⊎_elim (λ p. m.3 (begun b ts p).0) (⊎_elim (λ p. m.2 p.0) (λ p. m.1 p.0))

  inside : (b : ℕ) → (b ≡ 10 → ⊥) → (ts : List ℕ) → Rest K Comment (b ∷ ts) ↔ Rest K Comment ts
  inside b ne ts = (⊎_elim (λ p. absurd (ne p.0)) (λ p. p.1), (λ r. inr (ne, r)))

  comment : (c : Class) (b : ℕ) → Means c b → Turn K Comment (next Comment c) b
  comment LetterP b m = inside b (λ e. omega arith)
  comment Hash b m = inside b (λ e. omega arith)
  comment Newline b m = λ ts. (⊎_elim (λ p. p.1) (λ p. absurd (p.0 m)), (λ r. inl (m, r)))
  comment Blank b m = inside b m.1
  comment (Digit d) b m = inside b (λ e. omega arith)
  comment Other b m = inside b (λ e. m.2 (inl (omega arith, omega arith)))

  ready : (n c : ℕ) → 1 ≤ c → (ts : List ℕ) → K n ts → Dig K c n ts
  ready n c h [] k = (h, k)
  ready n c h (b ∷ ts) k = inl (h, k)

  done : (n c b : ℕ) → 1 ≤ c → (IsDigit b → ⊥) → Turn K (Number n c) (Past n) b
  done n c b h nd = (ready n c h, (λ ts. ⊎_elim (λ p. p.1) (λ p. absurd (nd p.0))))

  digits : (n k : ℕ) → 1 ≤ k → (c : Class) (b : ℕ) → Means c b → Turn K (Number n k) (next (Number n k) c) b
  digits n k h LetterP b m = done n k b h (λ d. omega arith)
  digits n k h Hash b m = done n k b h (λ d. omega arith)
  digits n k h Newline b m = done n k b h (λ d. omega arith)
  digits n k h Blank b m = done n k b h (λ d. omega arith)
  digits n k h (Digit d) b m =
      cond_both (ltb k 5) _ _ (λ t. Turn K (Number n k) t b)
      (λ e. (
        omega arith,
        λ ts. (
          ⊎_elim (λ p. absurd (parts.no_digit n b ts p.1 m.0)) (λ p. subst (λ v. Dig K (k + 1) (n * 10 + v) ts) (sym m.1) p.2),
          (λ r. inr (m.0, ltb-true k 5 e, subst (λ v. Dig K (k + 1) (n * 10 + v) ts) m.1 r)),
        ),
      ))
      (λ e ts. ⊎_elim (λ p. parts.no_digit n b ts p.1 m.0) (λ p. omega (arith, ltb-false k 5 e)))
  digits n k h Other b m = done n k b h m.3

  pub turn : (s : State) → Live s → (b : ℕ) → Turn K s (next s (class b)) b
  turn Magic l b = magic (class b) b (means b)
  turn Version l b = version (class b) b (means b)
  turn Gap l b = gap (class b) b (means b)
  turn Spaced l b = spaced (class b) b (means b)
  turn Comment l b = comment (class b) b (means b)
  turn (Number n k) l b = digits n k l (class b) b (means b)
  turn (Past n) l b = absurd l
  turn Unfit l b = absurd l

  pub not_empty : (s : State) → Rest K s [] → ⊥
  not_empty Magic r = r
  not_empty Version r = r
  not_empty Gap r = r
  not_empty Spaced r = omega arith
  not_empty Comment r = r
  not_empty (Number n k) r = parts.some n r.1
  not_empty (Past n) r = r
  not_empty Unfit r = r

  -- from each state a header can still come
  spaced_done : ((n : ℕ) → (ts : List ℕ) × K n ts) → (ts : List ℕ) × Rest K Spaced ts
  spaced_done w = let z = w 0 in (48 ∷ z.0, inl (begin 48 z.0 (omega arith, omega arith) (ready 0 1 (omega arith) z.0 z.1)))

  pub completes : ((n : ℕ) → (ts : List ℕ) × K n ts) → (s : State) → Live s → (ts : List ℕ) × Rest K s ts
  completes w Magic l = let z = spaced_done w in (80 ∷ 53 ∷ 32 ∷ z.0, (refl, (refl, inl (inr refl, z.1))))
  completes w Version l = let z = spaced_done w in (53 ∷ 32 ∷ z.0, (refl, inl (inr refl, z.1)))
  completes w Gap l = let z = spaced_done w in (32 ∷ z.0, inl (inr refl, z.1))
  completes w Spaced l = spaced_done w
  completes w Comment l = let z = spaced_done w in (10 ∷ z.0, inl (refl, z.1))
  completes w (Number n k) l = let z = w n in (z.0, ready n k l z.0 z.1)
  completes w (Past n) l = absurd l
  completes w Unfit l = absurd l

blank_of : (k : Class) (b : ℕ) → Means k b → (k ≡ Newline) ⊎ (k ≡ Blank) → IsBlank b
blank_of k b m = ⊎_elim (λ e. let n = subst (λ c. Means c b) e m in inl (omega arith, omega arith)) (λ e. (subst (λ c. Means c b) e m).0)

pub class_blank : (b : ℕ) (k : Class) → k ≡ class b → (k ≡ Newline) ⊎ (k ≡ Blank) → IsBlank b
class_blank b k e h = blank_of k b (subst (λ c. Means c b) (sym e) (means b)) h

not_of : (k : Class) (b : ℕ) → Means k b → (k ≡ Newline → ⊥) → (k ≡ Blank → ⊥) → IsBlank b → ⊥
not_of LetterP b m h l i = omega (arith, low b i)
not_of Hash b m h l i = omega (arith, low b i)
not_of Newline b m h l i = h refl
not_of Blank b m h l i = l refl
not_of (Digit d) b m h l i = omega (arith, low b i)
not_of Other b m h l i = m.2 i

pub class_not_blank : (b : ℕ) (k : Class) → k ≡ class b → (k ≡ Newline → ⊥) → (k ≡ Blank → ⊥) → IsBlank b → ⊥
class_not_blank b k e = not_of k b (subst (λ c. Means c b) (sym e) (means b))
