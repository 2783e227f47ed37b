-- The reader's three numbers, and the header's grammar.
use Rattle.std.proofs.Common.{◌≡◌, ℕ, zero, suc, ◌+◌, ◌-◌, ◌<◌, ◌≤◌, ◌⊎◌, List, [], ◌∷◌, ◌++◌, length, take, drop, sym, refl, ap, ◌∙◌, subst, inl, inr, ⊎_elim, append_assoc, append-nil, arith}
use Rattle.std.proofs.lemmas.List.{take_at, length-append, take-append-drop, take-append-le}
use Rattle.std.proofs.lemmas.Bool.{cases_lt}
use Rattle.pgm.specs.Grammar.{IsBlank, IsDigit, Numeral, Numbers, HeaderText, Whole, Unfitting}
use Rattle.pgm.specs.declared.header.State.{State}
use Rattle.pgm.proofs.Rests.{Rest, GapL, MagicL, Parts}
use Rattle.pgm.proofs.Outcomes.{Passed, Stuck, Ends}
use Rattle.pgm.proofs.Splits.{gap_item, item_gap}

abbrev pub Blank1 : List ℕ → Type 0
Blank1 ys = (b : ℕ) × IsBlank b × (ys ≡ b ∷ [])

-- these numbers are to come, or this many
abbrev pub Follow : List ℕ → List ℕ → Type 0
Follow [] ys = Blank1 ys
Follow (v ∷ vs) ys = GapL (λ n zs. (n ≡ v) × Follow vs zs) ys

abbrev pub Any : ℕ → List ℕ → Type 0
Any zero ys = Blank1 ys
Any (suc k) ys = GapL (λ n zs. Any k zs) ys

pub follow_numbers : (vs ys : List ℕ) → Follow vs ys → Numbers vs ys
follow_numbers [] ys r = r
follow_numbers (v ∷ vs) ys r =
    let p = gap_item (λ n zs. (n ≡ v) × Follow vs zs) ys r in
    (p.1, p.2, p.3, p.4, subst (Numeral p.2) p.6.0 p.5, follow_numbers vs p.3 p.6.1, p.7)

any_numbers : (k : ℕ) (ys : List ℕ) → Any k ys → (vs : List ℕ) × (length vs ≡ k) × Numbers vs ys
any_numbers zero ys r = ([], refl, r)
any_numbers (suc k) ys r =
    let p = gap_item (λ n zs. Any k zs) ys r in
    let q = any_numbers k p.3 p.6 in
    (p.0 ∷ q.0, ap suc q.1, (p.1, p.2, p.3, p.4, p.5, q.2, p.7))

pub numbers_any : (vs ys : List ℕ) → Numbers vs ys → Any (length vs) ys
numbers_any [] ys r = r
numbers_any (v ∷ vs) ys r = item_gap (λ n zs. Any (length vs) zs) ys (v, r.0, r.1, r.2, r.3, r.4, numbers_any vs r.2 r.5, r.6)

pub numbers_follow : (vs ys : List ℕ) → Numbers vs ys → Follow vs ys
numbers_follow [] ys r = r
numbers_follow (v ∷ vs) ys r = item_gap (λ n zs. (n ≡ v) × Follow vs zs) ys (v, r.0, r.1, r.2, r.3, r.4, (refl, numbers_follow vs r.2 r.5), r.6)

low : (b : ℕ) → IsBlank b → IsDigit b → ⊥
low b h d = ⊎_elim (λ p. omega arith) (λ e. omega arith) h

pub gap_no_digit : (K : ℕ → List ℕ → Type 0) (b : ℕ) (ts : List ℕ) → GapL K (b ∷ ts) → IsDigit b → ⊥
gap_no_digit K b ts r d = ⊎_elim (λ p. low b p.0 d) (λ p. omega arith) r

blank_no_digit : (b : ℕ) (ts : List ℕ) → Blank1 (b ∷ ts) → IsDigit b → ⊥
blank_no_digit b ts r d = low r.0 r.1 (subst IsDigit (let e : b ≡ r.0 = (let q = r.2 in cc) in e) d)

blank_some : Blank1 [] → ⊥
blank_some r = let q = r.2 in let z : ◌≡◌ {A = ℕ} 0 1 = cc in omega arith

any_some : (k : ℕ) → Any k [] → ⊥
any_some zero r = blank_some r
any_some (suc k) r = r

any_no_digit : (k b : ℕ) (ts : List ℕ) → Any k (b ∷ ts) → IsDigit b → ⊥
any_no_digit zero b ts r d = blank_no_digit b ts r d
any_no_digit (suc k) b ts r d = gap_no_digit (λ n zs. Any k zs) b ts r d

follow_some : (vs : List ℕ) → Follow vs [] → ⊥
follow_some [] r = blank_some r
follow_some (v ∷ vs) r = r

follow_no_digit : (vs : List ℕ) (b : ℕ) (ts : List ℕ) → Follow vs (b ∷ ts) → IsDigit b → ⊥
follow_no_digit [] b ts r d = blank_no_digit b ts r d
follow_no_digit (v ∷ vs) b ts r d = gap_no_digit (λ n zs. (n ≡ v) × Follow vs zs) b ts r d

pub any_parts : (k : ℕ) → Parts (λ n zs. Any k zs)
any_parts k = record { some = λ n r. any_some k r; no_digit = λ n b ts r d. any_no_digit k b ts r d }

pub follow_parts : (v : ℕ) (vs : List ℕ) → Parts (λ n zs. (n ≡ v) × Follow vs zs)
follow_parts v vs = record { some = λ n r. follow_some vs r.1; no_digit = λ n b ts r d. follow_no_digit vs b ts r.1 d }

-- there is a text for any number of numbers
zeros : (k : ℕ) → (ts : List ℕ) × Any k ts
zeros zero = (32 ∷ [], (32, inr refl, refl))
zeros (suc k) =
    let z = zeros k in
    (32 ∷ 48 ∷ z.0, item_gap (λ n zs. Any k zs) (32 ∷ 48 ∷ z.0) (0, 32 ∷ [], 48 ∷ [], z.0, ((32 ∷ []) ∷ [], omega arith, (inl (32, inr refl, refl), tt), refl), (((omega arith, omega arith), tt), omega arith, omega arith, refl), z.1, refl))

pub any_text : (k n : ℕ) → (ts : List ℕ) × Any k ts
any_text k n = zeros k

pub magic_header : (w : ℕ) (vs : List ℕ) (xs : List ℕ) → MagicL (λ n zs. (n ≡ w) × Follow vs zs) xs → HeaderText (w ∷ vs) xs
magic_header w vs [] r = absurd r
magic_header w vs (b ∷ []) r = absurd r.1
magic_header w vs (b ∷ c ∷ ys) r = (ys, follow_numbers (w ∷ vs) ys r.1.1, (λ i. r.0 i ∷ r.1.0 i ∷ ys))

three : (k : ℕ) (vs : List ℕ) → length vs ≡ 3 → (xs ys : List ℕ) → Numbers vs ys → xs ≡ 80 ∷ 53 ∷ ys → Whole xs
three k [] e xs ys n f = absurd (omega arith)
three k (a ∷ []) e xs ys n f = absurd (omega arith)
three k (a ∷ b ∷ []) e xs ys n f = absurd (omega arith)
three k (a ∷ b ∷ c ∷ []) e xs ys n f = (a, b, c, (ys, n, f))
three k (a ∷ b ∷ c ∷ d ∷ vs) e xs ys n f = absurd (omega arith)

pub magic_whole : (xs : List ℕ) → MagicL (λ n zs. Any 2 zs) xs → Whole xs
magic_whole [] r = absurd r
magic_whole (b ∷ []) r = absurd r.1
magic_whole (b ∷ c ∷ ys) r = let q = any_numbers 3 ys r.1.1 in three 0 q.0 q.1 (b ∷ c ∷ ys) ys q.2 (λ i. r.0 i ∷ r.1.0 i ∷ ys)

pub whole_magic : (xs : List ℕ) → Whole xs → MagicL (λ n zs. Any 2 zs) xs
whole_magic xs r = subst (MagicL (λ n zs. Any 2 zs)) (sym r.3.2) (refl, (refl, numbers_any (r.0 ∷ r.1 ∷ r.2 ∷ []) r.3.0 r.3.1))

-- a front of two lists in a row
pub fronts : (a c p q : List ℕ) → a ++ c ≡ p ++ q → ((r : List ℕ) × (a ≡ p ++ r)) ⊎ ((x : ℕ) × (r : List ℕ) × (p ≡ a ++ x ∷ r) × (c ≡ x ∷ (r ++ q)))
fronts [] c [] q e = inl ([], refl)
fronts [] c (x ∷ p) q e = inr (x, p, refl, e)
fronts (y ∷ a) c [] q e = inl (y ∷ a, refl)
fronts (y ∷ a) c (x ∷ p) q e =
    let f : y ≡ x = cc in
    let g : a ++ c ≡ p ++ q = cc in
    ⊎_elim (λ h. inl (h.0, (λ i. f i ∷ h.1 i))) (λ h. inr (h.0, h.1, (let f' = sym f in λ i. f' i ∷ h.2 i), h.3)) (fronts a c p q g)

-- an item passed, and then the reader stuck
module _ (K : ℕ → List ℕ → Type 0) (s : State) (xs : List ℕ) (i n j k : ℕ) (p : Passed K s xs i n j) (rest : List ℕ) (er : rest ≡ p.b ∷ p.zs) (q : Stuck (K n) rest j k) where
  head : (z : ℕ) (zs : List ℕ) → z ∷ zs ≡ q.ys → z ≡ p.b
  head z zs e = let a = q.is in let c : rest ≡ (z ∷ zs) ++ q.zs = a ∙ ap (λ t. t ++ q.zs) (sym e) in cc

  first : (z : ℕ) (zs us : List ℕ) → [] ≡ q.ys → z ∷ us ≡ q.zs → z ≡ p.b
  first z zs us e f = let c : rest ≡ z ∷ us = q.is ∙ (ap (λ t. t ++ q.zs) (sym e) ∙ sym f) in cc

  none : (ps qs : List ℕ) → p.ys ++ q.ys ≡ ps ++ qs → Rest K s ps → ⊥
  none ps qs e r =
      ⊎_elim
      (λ h. p.none ps h.0 h.1 r)
      (λ h.
      let hb : h.0 ≡ p.b = head h.0 (h.1 ++ qs) (sym h.3) in
      let r2 : Rest K s (p.ys ++ p.b ∷ h.1) = subst (λ x. Rest K s (p.ys ++ x ∷ h.1)) hb (subst (Rest K s) h.2 r) in
      q.none (h.0 ∷ h.1) qs h.3 (subst (λ x. K n (x ∷ h.1)) (sym hb) (p.complete h.1 r2)))
      (fronts p.ys q.ys ps qs e)

  ends : (ys zs : List ℕ) → ys ≡ q.ys → zs ≡ q.zs → Ends (K n) ys zs → Ends (Rest K s) (p.ys ++ ys) zs
  ends ys [] e f h = tt
  ends [] (z ∷ zs) e f h = λ ts r.
      let hb : z ≡ p.b = first z [] zs e f in
      h ts (subst (λ x. K n (x ∷ ts)) (sym hb) (p.complete ts (subst (λ x. Rest K s (p.ys ++ x ∷ ts)) hb (subst (λ t. Rest K s (t ++ z ∷ ts)) (append-nil p.ys) r))))
  ends (y ∷ ys) (z ∷ zs) e f h = λ ts r.
      let hb : y ≡ p.b = head y ys e in
      h ts (subst (λ x. K n (x ∷ (ys ++ z ∷ ts))) (sym hb) (p.complete (ys ++ z ∷ ts) (subst (λ x. Rest K s (p.ys ++ x ∷ (ys ++ z ∷ ts))) hb (subst (Rest K s) (append_assoc p.ys (y ∷ ys) (z ∷ ts)) r))))

  pub passed_stuck : Stuck (Rest K s) xs i k
  passed_stuck = record {
    ys = p.ys ++ q.ys;
    zs = q.zs;
    is = p.is ∙ ap (λ t. p.ys ++ t) (sym er ∙ q.is) ∙ sym (append_assoc p.ys q.ys q.zs);
    place = omega (arith, p.place, q.place, length-append p.ys q.ys);
    begins = (q.begins.0, subst (Rest K s) (sym (append_assoc p.ys q.ys q.begins.0)) (p.sound (q.ys ++ q.begins.0) q.begins.1));
    none = none;
    ends = ends q.ys q.zs refl refl q.ends;
  }

-- the byte after the last number is no blank, or there is none
pub blank_stuck : (b : ℕ) (zs : List ℕ) (j : ℕ) → (IsBlank b → ⊥) → Stuck Blank1 (b ∷ zs) j j
blank_stuck b zs j h = record {
  ys = [];
  zs = b ∷ zs;
  is = refl;
  place = omega arith;
  begins = (32 ∷ [], (32, inr refl, refl));
  none = λ ps qs e r. let f = r.2 in let g : [] ≡ r.0 ∷ qs = e ∙ ap (λ t. t ++ qs) f in let z : ◌≡◌ {A = ℕ} 0 1 = cc in omega arith;
  ends = λ ts r. h (subst IsBlank (let f = r.2 in let e : r.0 ≡ b = cc in e) r.1);
}

module _ (xs : List ℕ) (j : ℕ) (q : Stuck (MagicL (λ n zs. Any 2 zs)) xs 0 j) where
  len : length q.ys ≡ j
  len = omega (arith, q.place)

  taken : take j xs ≡ q.ys
  taken = ap (take j) q.is ∙ take_at q.ys q.zs j len

  beyond : (zs : List ℕ) (m : ℕ) → Ends (MagicL (λ n zs. Any 2 zs)) q.ys zs → MagicL (λ n zs. Any 2 zs) (q.ys ++ take m zs) → ⊥
  beyond [] zero h r = q.none q.ys [] (sym (append-nil q.ys)) (subst (MagicL (λ n zs. Any 2 zs)) (append-nil q.ys) r)
  beyond [] (suc m) h r = q.none q.ys [] (sym (append-nil q.ys)) (subst (MagicL (λ n zs. Any 2 zs)) (append-nil q.ys) r)
  beyond (z ∷ zs) zero h r = q.none q.ys [] (sym (append-nil q.ys)) (subst (MagicL (λ n zs. Any 2 zs)) (append-nil q.ys) r)
  beyond (z ∷ zs) (suc m) h r = h (take m zs) r

  take_past : (a c : List ℕ) (m : ℕ) → length a ≤ m → take m (a ++ c) ≡ a ++ take (m - length a) c
  take_past [] c m h = ap (λ n. take n c) (omega arith)
  take_past (x ∷ a) c zero h = absurd (omega arith)
  take_past (x ∷ a) c (suc m) h = ap (λ t. x ∷ t) (take_past a c m (omega arith) ∙ ap (λ n. a ++ take n c) (omega arith))

  fronts_none : (m : ℕ) → Whole (take m xs) → ⊥
  fronts_none m w =
      let r : MagicL (λ n zs. Any 2 zs) (take m (q.ys ++ q.zs)) = subst (λ t. MagicL (λ n zs. Any 2 zs) (take m t)) q.is (whole_magic (take m xs) w) in
      ⊎_elim
      (λ h. q.none (take m q.ys) (drop m q.ys) (sym (take-append-drop m q.ys)) (subst (MagicL (λ n zs. Any 2 zs)) (take-append-le m q.ys q.zs (omega arith)) r))
      (λ h. beyond q.zs (m - length q.ys) q.ends (subst (MagicL (λ n zs. Any 2 zs)) (take_past q.ys q.zs m h) r))
      (cases_lt m (length q.ys))

  over : (zs ts : List ℕ) → xs ≡ q.ys ++ zs → Ends (MagicL (λ n zs. Any 2 zs)) q.ys zs → j < length xs → Whole (take (j + 1) xs ++ ts) → ⊥
  over [] ts e h l w = omega (arith, len, ap length e, length-append q.ys [])
  over (z ∷ zs) ts e h l w =
      let f : take (j + 1) xs ≡ q.ys ++ z ∷ [] = ap (take (j + 1)) e ∙ take_past q.ys (z ∷ zs) (j + 1) (omega (arith, len)) ∙ ap (λ n. q.ys ++ take n (z ∷ zs)) (let g : j + 1 - length q.ys ≡ 1 = omega (arith, len) in g) in
      h ts (subst (MagicL (λ n zs. Any 2 zs)) (append_assoc q.ys (z ∷ []) ts) (subst (λ t. MagicL (λ n zs. Any 2 zs) (t ++ ts)) f (whole_magic (take (j + 1) xs ++ ts) w)))

  pub unfitting : Unfitting xs j
  unfitting = record {
    within = omega (arith, len, ap length q.is, length-append q.ys q.zs);
    none = fronts_none;
    begins = (q.begins.0, magic_whole (take j xs ++ q.begins.0) (subst (λ t. MagicL (λ n zs. Any 2 zs) (t ++ q.begins.0)) (sym taken) q.begins.1));
    ends = λ l ts w. over q.zs ts q.is q.ends l w;
  }
