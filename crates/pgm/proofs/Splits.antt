-- What may come at a state, as blanks, a numeral and the rest.
use Rattle.std.proofs.Common.{◌≡◌, ℕ, ◌+◌, ◌-◌, ◌*◌, ◌≤◌, true, false, List, [], ◌∷◌, ◌++◌, map, length, sym, refl, ap, ◌∙◌, subst, inl, inr, ⊎_elim, append_assoc, arith}
use Rattle.std.specs.List.{flat_map, AllByRecursion}
use Rattle.std.specs.Int.Digits.{number_from_digits_after}
use Rattle.pgm.specs.Grammar.{IsBlank, IsDigit, Filler, Blanks, Numeral}
use Rattle.pgm.proofs.Rests.{Skip, Dig, GapL}

abbrev SomeFillers : List ℕ → Type 0
SomeFillers g = (fs : List (List ℕ)) × AllByRecursion Filler fs × (g ≡ flat_map (λ f. f) fs)

abbrev Split : (List ℕ → Type 0) → List ℕ → Type 0
Split K xs = (g ys : List ℕ) × SomeFillers g × K ys × (xs ≡ g ++ ys)

abbrev SplitC : (List ℕ → Type 0) → List ℕ → Type 0
SplitC K xs = (cs g ys : List ℕ) × AllByRecursion (λ c. c ≡ 10 → ⊥) cs × SomeFillers g × K ys × (xs ≡ cs ++ 10 ∷ (g ++ ys))

module _ (K : List ℕ → Type 0) where
  now : (xs : List ℕ) → K xs → Split K xs
  now xs k = ([], xs, ([], tt, refl), k, refl)

  one : (b : ℕ) (xs : List ℕ) → IsBlank b → Split K xs → Split K (b ∷ xs)
  one b xs h p = (b ∷ p.0, p.1, ((b ∷ []) ∷ p.2.0, (inl (b, h, refl), p.2.1), ap (λ q. b ∷ q) p.2.2), p.3, ap (λ q. b ∷ q) p.4)

  whole : (xs : List ℕ) → SplitC K xs → Split K (35 ∷ xs)
  whole xs p = (
    35 ∷ (p.0 ++ 10 ∷ p.1),
    p.2,
    ((35 ∷ (p.0 ++ 10 ∷ [])) ∷ p.4.0, (inr (p.0, p.3, refl), p.4.1), ap (λ q. 35 ∷ (p.0 ++ 10 ∷ q)) p.4.2 ∙ ap (λ q. 35 ∷ q) (sym (append_assoc p.0 (10 ∷ []) (flat_map (λ f. f) p.4.0)))),
    p.5,
    ap (λ q. 35 ∷ q) (p.6 ∙ sym (append_assoc p.0 (10 ∷ p.1) p.2)),
  )

  mutual
    skip_split : (xs : List ℕ) → Skip false K xs → Split K xs
    skip_split [] k = now [] k
    skip_split (b ∷ xs) r = ⊎_elim (now (b ∷ xs)) (⊎_elim (λ p. one b xs p.0 (skip_split xs p.1)) (λ p. subst (λ q. Split K (q ∷ xs)) (sym p.0) (whole xs (comment_split xs p.1)))) r

    comment_split : (xs : List ℕ) → Skip true K xs → SplitC K xs
    comment_split [] r = absurd r
    comment_split (b ∷ xs) r =
        ⊎_elim
        (λ p. let q = skip_split xs p.1 in ([], q.0, q.1, tt, q.2, q.3, (λ i. p.0 i ∷ q.4 i)))
        (λ p. let q = comment_split xs p.1 in (b ∷ q.0, q.1, q.2, (p.0, q.3), q.4, q.5, ap (λ t. b ∷ t) q.6))
        r

  ready : (ys : List ℕ) → K ys → Skip false K ys
  ready [] k = k
  ready (b ∷ ys) k = inl k

  in_comment : (cs : List ℕ) → AllByRecursion (λ c. c ≡ 10 → ⊥) cs → (ys : List ℕ) → Skip false K ys → Skip true K (cs ++ 10 ∷ ys)
  in_comment [] h ys r = inl (refl, r)
  in_comment (c ∷ cs) h ys r = inr (h.0, in_comment cs h.1 ys r)

  split_skip : (fs : List (List ℕ)) → AllByRecursion Filler fs → (ys : List ℕ) → K ys → Skip false K (flat_map (λ f. f) fs ++ ys)
  split_skip [] h ys k = ready ys k
  split_skip (f ∷ fs) h ys k =
      let r = split_skip fs h.1 ys k in
      ⊎_elim
      (λ p. subst (λ q. Skip false K ((q ++ flat_map (λ f. f) fs) ++ ys)) (sym p.2) (inr (inl (p.1, r))))
      (λ p. subst (λ q. Skip false K ((q ++ flat_map (λ f. f) fs) ++ ys)) (sym p.2)
      (inr (inr (refl, subst (Skip true K) (sym (ap (λ t. t ++ ys) (append_assoc p.0 (10 ∷ []) (flat_map (λ f. f) fs)) ∙ append_assoc p.0 (10 ∷ flat_map (λ f. f) fs) ys)) (in_comment p.0 p.1 _ r)))))
      h.0

abbrev Digits : (ℕ → List ℕ → Type 0) → ℕ → ℕ → List ℕ → Type 0
Digits K c n xs = (ds ys : List ℕ) × AllByRecursion IsDigit ds × (1 ≤ c + length ds) × (c + length ds ≤ 5) × K (number_from_digits_after 10 n (map (λ d. d - 48) ds)) ys × (xs ≡ ds ++ ys)

module _ (K : ℕ → List ℕ → Type 0) where
  dig_split : (xs : List ℕ) (c n : ℕ) → c ≤ 5 → Dig K c n xs → Digits K c n xs
  dig_split [] c n h r = ([], [], tt, omega arith, omega arith, r.1, refl)
  dig_split (b ∷ xs) c n h r =
      ⊎_elim
      (λ p. ([], b ∷ xs, tt, omega arith, omega arith, p.1, refl))
      (λ p. let q = dig_split xs (c + 1) (n * 10 + (b - 48)) (omega arith) p.2 in (b ∷ q.0, q.1, (p.0, q.2), omega (arith, q.3), omega (arith, q.4), q.5, ap (λ t. b ∷ t) q.6))
      r

  split_dig : (ds : List ℕ) (c n : ℕ) (ys : List ℕ) → AllByRecursion IsDigit ds → 1 ≤ c + length ds → c + length ds ≤ 5 → K (number_from_digits_after 10 n (map (λ d. d - 48) ds)) ys → Dig K c n (ds ++ ys)
  split_dig [] c n [] h l m k = (omega arith, k)
  split_dig [] c n (y ∷ ys) h l m k = inl (omega arith, k)
  split_dig (d ∷ ds) c n ys h l m k = inr (h.0, omega arith, split_dig ds (c + 1) (n * 10 + (d - 48)) ys h.1 (omega arith) (omega arith) k)

  -- blanks, a numeral and the rest
  abbrev pub Item : List ℕ → Type 0
  Item xs = (n : ℕ) × (g ds ys : List ℕ) × Blanks g × Numeral ds n × K n ys × (xs ≡ g ++ (ds ++ ys))

  item : (fs : List (List ℕ)) → 1 ≤ length fs → AllByRecursion Filler fs → (g ys : List ℕ) → g ≡ flat_map (λ f. f) fs → Dig K 0 0 ys → (xs : List ℕ) → xs ≡ g ++ ys → Item xs
  item fs l h g ys e r xs f =
      let q = dig_split ys 0 0 (omega arith) r in
      (number_from_digits_after 10 0 (map (λ d. d - 48) q.0), g, q.0, q.1, (fs, l, h, e), (q.2, omega (arith, q.3), omega (arith, q.4), refl), q.5, f ∙ ap (λ t. g ++ t) q.6)

  pub gap_item : (xs : List ℕ) → GapL K xs → Item xs
  gap_item [] r = absurd r
  gap_item (b ∷ xs) r =
      ⊎_elim
      (λ p.
      let q = skip_split (Dig K 0 0) xs p.1 in
      item ((b ∷ []) ∷ q.2.0) (omega arith) (inl (b, p.0, refl), q.2.1) (b ∷ q.0) q.1 (ap (λ t. b ∷ t) q.2.2) q.3 (b ∷ xs) (ap (λ t. b ∷ t) q.4))
      (λ p.
      let q = comment_split (Dig K 0 0) xs p.1 in
      item ((35 ∷ (q.0 ++ 10 ∷ [])) ∷ q.4.0) (omega arith) (inr (q.0, q.3, refl), q.4.1) (35 ∷ (q.0 ++ 10 ∷ q.1)) q.2
      (ap (λ t. 35 ∷ (q.0 ++ 10 ∷ t)) q.4.2 ∙ ap (λ t. 35 ∷ t) (sym (append_assoc q.0 (10 ∷ []) (flat_map (λ f. f) q.4.0))))
      q.5 (b ∷ xs)
      ((λ i. p.0 i ∷ q.6 i) ∙ ap (λ t. 35 ∷ t) (sym (append_assoc q.0 (10 ∷ q.1) q.2))))
      r

  gap_of : (fs : List (List ℕ)) → 1 ≤ length fs → AllByRecursion Filler fs → (ys : List ℕ) → Dig K 0 0 ys → GapL K (flat_map (λ f. f) fs ++ ys)
  gap_of [] l h ys k = absurd (omega arith)
  gap_of (f ∷ fs) l h ys k =
      let r = split_skip (Dig K 0 0) fs h.1 ys k in
      ⊎_elim
      (λ p. subst (λ q. GapL K ((q ++ flat_map (λ f. f) fs) ++ ys)) (sym p.2) (inl (p.1, r)))
      (λ p. subst (λ q. GapL K ((q ++ flat_map (λ f. f) fs) ++ ys)) (sym p.2)
      (inr (refl, subst (Skip true (Dig K 0 0)) (sym (ap (λ t. t ++ ys) (append_assoc p.0 (10 ∷ []) (flat_map (λ f. f) fs)) ∙ append_assoc p.0 (10 ∷ flat_map (λ f. f) fs) ys)) (in_comment (Dig K 0 0) p.0 p.1 _ r))))
      h.0

  pub item_gap : (xs : List ℕ) → Item xs → GapL K xs
  item_gap xs p =
      subst (GapL K) (sym (p.7 ∙ ap (λ t. t ++ (p.2 ++ p.3)) p.4.3))
      (gap_of p.4.0 p.4.1 p.4.2 (p.2 ++ p.3)
      (split_dig p.2 0 0 p.3 p.5.0 (omega (arith, p.5.1)) (omega (arith, p.5.2)) (subst (λ n. K n p.3) p.5.3 p.6)))
