-- A file begins with at most one header: two texts of the grammar in front of one list pass the reader alike.
use Rattle.std.proofs.Common.{◌≡◌, ℕ, List, [], ◌∷◌, ◌++◌, length, drop, Some, None, Option, sym, refl, ap, ◌∙◌, subst, ⊎_elim, arith}
use Rattle.std.proofs.lemmas.List.{take-append-drop, length-take-le}
use Rattle.pgm.specs.Grammar.{Numbers, AtMostOneHeader}
use Rattle.pgm.specs.Machine.{scan}
use Rattle.pgm.specs.declared.header.State.{State}
use Rattle.pgm.specs.declared.header.State.TheVariants.{Gap}
use Rattle.pgm.proofs.Rests.{Rest}
use Rattle.pgm.proofs.Outcomes.{Passed, Stuck, Ends, Out, outcome}
use Rattle.pgm.proofs.Headers.{Follow, Any, any_parts, follow_parts, any_text, fronts, numbers_follow, numbers_any, follow_numbers}

-- a text in front of what the reader passed goes on behind the item
pass : (K : ℕ → List ℕ → Type 0) (s : State) (xs p q : List ℕ) (n j : ℕ) (o : Passed K s xs 0 n j) → xs ≡ p ++ q → Rest K s p
    → (r : List ℕ) × (p ≡ o.ys ++ o.b ∷ r) × (o.zs ≡ r ++ q) × K n (o.b ∷ r)
pass K s xs p q n j o e r =
    ⊎_elim
    (λ h. absurd (o.none p h.0 h.1 r))
    (λ h.
    let eb : h.0 ≡ o.b = (let a = h.3 in cc) in
    let ez : o.zs ≡ h.1 ++ q = (let a = h.3 in cc) in
    let ep : p ≡ o.ys ++ o.b ∷ h.1 = h.2 ∙ ap (λ x. o.ys ++ x ∷ h.1) eb in
    (h.1, ep, ez, o.complete h.1 (subst (Rest K s) ep r)))
    (fronts o.ys (o.b ∷ o.zs) p q (sym o.is ∙ e))

-- where the reader is stuck there is no such text
no_pass : (L : List ℕ → Type 0) (xs p q : List ℕ) (j : ℕ) (o : Stuck L xs 0 j) → xs ≡ p ++ q → L p → ⊥
no_pass L xs p q j o e r =
    ⊎_elim
    (λ h. o.none p h.0 h.1 r)
    (λ h. over o.zs o.ends h.0 h.1 h.2 h.3)
    (fronts o.ys o.zs p q (sym o.is ∙ e))
  where
    over : (zs : List ℕ) → Ends L o.ys zs → (x : ℕ) (t : List ℕ) → p ≡ o.ys ++ x ∷ t → zs ≡ x ∷ (t ++ q) → ⊥
    over [] h x t f g = let z : ◌≡◌ {A = ℕ} 0 1 = cc in omega arith
    over (z ∷ zs) h x t f g = h t (subst L (f ∙ ap (λ y. o.ys ++ y ∷ t) (let a : x ≡ z = cc in a)) r)

-- fronts of one length are the same front
cancel : (a b c d : List ℕ) → length a ≡ length b → a ++ c ≡ b ++ d → (a ≡ b) × (c ≡ d)
cancel [] [] c d l e = (refl, e)
cancel [] (y ∷ b) c d l e = absurd (omega arith)
cancel (x ∷ a) [] c d l e = absurd (omega arith)
cancel (x ∷ a) (y ∷ b) c d l e =
    let h : x ≡ y = cc in
    let r = cancel a b c d (omega arith) (let t : a ++ c ≡ b ++ d = cc in t) in
    ((λ i. h i ∷ r.0 i), r.1)

abbrev Same : List ℕ → List ℕ → List ℕ → List ℕ → Type 0
Same vs ws p p2 = (vs ≡ ws) × (p ≡ p2)

one : (vs ws : List ℕ) → length vs ≡ length ws → (xs p q p2 q2 : List ℕ) → xs ≡ p ++ q → xs ≡ p2 ++ q2 → Numbers vs p → Numbers ws p2 → Same vs ws p p2
one [] [] l xs p q p2 q2 e f a b =
    let h : a.0 ∷ q ≡ b.0 ∷ q2 = ap (λ t. t ++ q) (sym a.2) ∙ sym e ∙ f ∙ ap (λ t. t ++ q2) b.2 in
    let g : a.0 ≡ b.0 = cc in
    (refl, a.2 ∙ ap (λ x. x ∷ []) g ∙ sym b.2)
one [] (w ∷ ws) l xs p q p2 q2 e f a b = absurd (omega arith)
one (v ∷ vs) [] l xs p q p2 q2 e f a b = absurd (omega arith)
one (v ∷ vs) (w ∷ ws) l xs p q p2 q2 e f a b =
    go (one vs ws (omega arith)) (scan Gap 0 xs).0 (scan Gap 0 xs).1 (outcome K (follow_parts v vs) Gap tt xs 0) (outcome K2 (follow_parts w ws) Gap tt xs 0) (outcome (λ n zs. Any (length vs) zs) (any_parts (length vs)) Gap tt xs 0)
  where
    K : ℕ → List ℕ → Type 0
    K n zs = (n ≡ v) × Follow vs zs

    K2 : ℕ → List ℕ → Type 0
    K2 n zs = (n ≡ w) × Follow ws zs

    go : ((ys p q p2 q2 : List ℕ) → ys ≡ p ++ q → ys ≡ p2 ++ q2 → Numbers vs p → Numbers ws p2 → Same vs ws p p2)
        → (o : Option ℕ) (j : ℕ) → Out K Gap xs 0 o j → Out K2 Gap xs 0 o j → Out (λ n zs. Any (length vs) zs) Gap xs 0 o j → Same (v ∷ vs) (w ∷ ws) p p2
    go rest None j o o2 oa = absurd (no_pass (Rest (λ n zs. Any (length vs) zs) Gap) xs p q j (oa (any_text (length vs))) e (numbers_any (v ∷ vs) p a))
    go rest (Some n) j o o2 oa =
        let r = pass K Gap xs p q n j o e (numbers_follow (v ∷ vs) p a) in
        let r2 = pass K2 Gap xs p2 q2 n j o2 f (numbers_follow (w ∷ ws) p2 b) in
        let c = cancel o.ys o2.ys (o.b ∷ o.zs) (o2.b ∷ o2.zs) (omega (arith, o.place, o2.place)) (sym o.is ∙ o2.is) in
        let s = rest (o.b ∷ o.zs) (o.b ∷ r.0) q (o2.b ∷ r2.0) q2 (ap (λ t. o.b ∷ t) r.2) (c.1 ∙ ap (λ t. o2.b ∷ t) r2.2) (follow_numbers vs (o.b ∷ r.0) r.3.1) (follow_numbers ws (o2.b ∷ r2.0) r2.3.1) in
        let h : v ≡ w = sym r.3.0 ∙ r2.3.0 in
        ((λ i. h i ∷ s.0 i), r.1 ∙ (λ i. c.0 i ++ s.1 i) ∙ sym r2.1)

pub at_most_one_header : AtMostOneHeader
at_most_one_header xs w h p n w2 h2 p2 n2 l l2 a b =
    let e : xs ≡ 80 ∷ 53 ∷ (a.0 ++ drop n xs) = sym (take-append-drop n xs) ∙ ap (λ t. t ++ drop n xs) a.2 in
    let f : xs ≡ 80 ∷ 53 ∷ (b.0 ++ drop n2 xs) = sym (take-append-drop n2 xs) ∙ ap (λ t. t ++ drop n2 xs) b.2 in
    let g : a.0 ++ drop n xs ≡ b.0 ++ drop n2 xs = cc in
    let s = one (w ∷ h ∷ p ∷ []) (w2 ∷ h2 ∷ p2 ∷ []) refl (a.0 ++ drop n xs) a.0 (drop n xs) b.0 (drop n2 xs) refl g a.1 b.1 in
    let lists = s.0 in
    let w_is : w ≡ w2 = cc in
    let h_is : h ≡ h2 = cc in
    let p_is : p ≡ p2 = cc in
    (w_is, h_is, p_is, omega (arith, length-take-le n xs l, length-take-le n2 xs l2, ap length a.2, ap length b.2, ap length s.1))
