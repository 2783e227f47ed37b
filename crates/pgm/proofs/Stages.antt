-- The header's reader, number by number.
use Rattle.std.proofs.Common.{◌≡◌, ℕ, suc, ◌+◌, ◌<◌, ◌≤◌, List, [], ◌∷◌, ◌++◌, length, get_or, take, drop, Some, None, Option, sym, refl, ap, ◌∙◌, subst, append_assoc, arith}
use Rattle.std.proofs.lemmas.List.{take_at, drop_at, length-append, take-append-drop, length-drop, drop_more, drop-drop, take_more, length-take-le}
use Rattle.pgm.specs.Grammar.{IsBlank, HeaderText, Unfitting}
use Rattle.pgm.specs.Machine.{scan}
use Rattle.pgm.specs.declared.header.State.{State}
use Rattle.pgm.specs.declared.header.State.TheVariants.{Magic, Gap}
use Rattle.pgm.proofs.Rests.{Live, Parts}
use Rattle.pgm.proofs.Outcomes.{Passed, Stuck, Out, outcome}
use Rattle.pgm.proofs.Headers.{Blank1, Follow, Any, any_parts, follow_parts, any_text, magic_header, passed_stuck, blank_stuck, unfitting}

abbrev pub Read : List ℕ → State → ℕ → Option ℕ → ℕ → Type 0
Read xs s i o j = ◌≡◌ {A = Option ℕ × ℕ} (o, j) (scan s i (drop i xs))

-- the same of equal texts
moved : {xs ys : List ℕ} (s : State) (i : ℕ) (o : Option ℕ) (j : ℕ) → xs ≡ ys → Read xs s i o j → Read ys s i o j
moved s i o j e r = subst (λ z. Read z s i o j) e r

out : (K : ℕ → List ℕ → Type 0) → Parts K → (xs : List ℕ) (s : State) → Live s → (i : ℕ) (o : Option ℕ) (j : ℕ) → Read xs s i o j → Out K s (drop i xs) i o j
out K parts xs s l i o j e = subst (λ r. Out K s (drop i xs) i r.0 r.1) (sym e) (outcome K parts s l (drop i xs) i)

rest : (K : ℕ → List ℕ → Type 0) (xs : List ℕ) (s : State) (i n j : ℕ) (p : Passed K s (drop i xs) i n j) → drop j xs ≡ p.b ∷ p.zs
rest K xs s i n j p = ap (λ m. drop m xs) p.place ∙ sym (drop-drop (length p.ys) i xs) ∙ ap (drop (length p.ys)) p.is ∙ drop_at p.ys (p.b ∷ p.zs) (length p.ys) refl

-- the text read so far grows by the item
front : (K : ℕ → List ℕ → Type 0) (xs : List ℕ) (s : State) (i n j : ℕ) (p : Passed K s (drop i xs) i n j) → i ≤ length xs → take j xs ≡ take i xs ++ p.ys
front K xs s i n j p h =
    ap (λ m. take m xs) p.place
    ∙ ap (take (i + length p.ys)) (sym (take-append-drop i xs))
    ∙ ap (λ q. take (i + length p.ys) (take i xs ++ q)) p.is
    ∙ ap (take (i + length p.ys)) (sym (append_assoc (take i xs) p.ys (p.b ∷ p.zs)))
    ∙ take_at (take i xs ++ p.ys) (p.b ∷ p.zs) (i + length p.ys) (length-append (take i xs) p.ys ∙ ap (λ q. q + length p.ys) (length-take-le i xs h))

module _ (xs : List ℕ) where
  pub fail_1 : (j : ℕ) → Read xs Magic 0 None j → Unfitting xs j
  fail_1 j e = unfitting xs j (out (λ n zs. Any 2 zs) (any_parts 2) xs Magic tt 0 None j e (any_text 2))

  stuck_2 : (w i : ℕ) → Read xs Magic 0 (Some w) i → (j : ℕ) → Stuck (Any 2) (drop i xs) i j → Unfitting xs j
  stuck_2 w i e j q =
      let p = out (λ n zs. Any 2 zs) (any_parts 2) xs Magic tt 0 (Some w) i e in
      unfitting xs j (passed_stuck (λ n zs. Any 2 zs) Magic xs 0 w i j p (drop i xs) (rest (λ n zs. Any 2 zs) xs Magic 0 w i p) q)

  stuck_3 : (k h i : ℕ) (j : ℕ) → Read xs Gap i (Some h) j → (l : ℕ) → Stuck (Any k) (drop j xs) j l → Stuck (Any (suc k)) (drop i xs) i l
  stuck_3 k h i j e l q =
      let p = out (λ n zs. Any k zs) (any_parts k) xs Gap tt i (Some h) j e in
      passed_stuck (λ n zs. Any k zs) Gap (drop i xs) i h j l p (drop j xs) (rest (λ n zs. Any k zs) xs Gap i h j p) q

  -- each number is read from the bytes as the reader holds them then
  module _ (w i : ℕ) (e1 : Read xs Magic 0 (Some w) i) (xs2 : List ℕ) (same2 : xs2 ≡ xs) where
    pub fail_2 : (j : ℕ) → Read xs2 Gap i None j → Unfitting xs j
    fail_2 j e = stuck_2 w i e1 j (out (λ n zs. Any 1 zs) (any_parts 1) xs Gap tt i None j (moved Gap i None j same2 e) (any_text 1))

    module _ (h j : ℕ) (r2 : Read xs2 Gap i (Some h) j) (xs3 : List ℕ) (same3 : xs3 ≡ xs2) where
      e2 : Read xs Gap i (Some h) j
      e2 = moved Gap i (Some h) j same2 r2

      pub fail_3 : (l : ℕ) → Read xs3 Gap j None l → Unfitting xs l
      fail_3 l e = stuck_2 w i e1 l (stuck_3 1 h i j e2 l (out (λ n zs. Any 0 zs) (any_parts 0) xs Gap tt j None l (moved Gap j None l (same3 ∙ same2) e) (any_text 0)))

      module _ (t l : ℕ) (r3 : Read xs3 Gap j (Some t) l) where
        e3 : Read xs Gap j (Some t) l
        e3 = moved Gap j (Some t) l (same3 ∙ same2) r3

        last : Passed (λ n zs. Any 0 zs) Gap (drop j xs) j t l
        last = out (λ n zs. Any 0 zs) (any_parts 0) xs Gap tt j (Some t) l e3

        here : drop l xs ≡ last.b ∷ last.zs
        here = rest (λ n zs. Any 0 zs) xs Gap j t l last

        more : l < length xs
        more = omega (arith, ap length here, length-drop l xs)

        byte : get_or xs l 0 ≡ last.b
        byte = let a = drop_more xs l 0 more in let b = here in cc

        pub fail_4 : (IsBlank (get_or xs l 0) → ⊥) → Unfitting xs l
        fail_4 ne = stuck_2 w i e1 l (stuck_3 1 h i j e2 l (stuck_3 0 t j l e3 l (subst (λ q. Stuck Blank1 q l l) (sym here) (blank_stuck last.b last.zs l (λ b. ne (subst IsBlank (sym byte) b))))))

        pub accepts : IsBlank (get_or xs l 0) → HeaderText (w ∷ h ∷ t ∷ []) (take (l + 1) xs)
        accepts b =
            let K1 : ℕ → List ℕ → Type 0 = λ n zs. (n ≡ w) × Follow (h ∷ t ∷ []) zs in
            let K2 : ℕ → List ℕ → Type 0 = λ n zs. (n ≡ h) × Follow (t ∷ []) zs in
            let K3 : ℕ → List ℕ → Type 0 = λ n zs. (n ≡ t) × Follow [] zs in
            let p1 = out K1 (follow_parts w (h ∷ t ∷ [])) xs Magic tt 0 (Some w) i e1 in
            let p2 = out K2 (follow_parts h (t ∷ [])) xs Gap tt i (Some h) j e2 in
            let p3 = out K3 (follow_parts t []) xs Gap tt j (Some t) l e3 in
            let m = get_or xs l 0 in
            let r = p1.sound (p2.ys ++ (p3.ys ++ m ∷ [])) (refl, p2.sound (p3.ys ++ m ∷ []) (refl, p3.sound (m ∷ []) (refl, (m, b, refl)))) in
            let hj : j ≤ length xs = omega (arith, length-drop j xs, ap length (rest K3 xs Gap j t l p3), p3.place, more, length-append p3.ys (p3.b ∷ p3.zs), ap length p3.is) in
            let hi : i ≤ length xs = omega (arith, p2.place, hj) in
            let f : take (l + 1) xs ≡ p1.ys ++ (p2.ys ++ (p3.ys ++ m ∷ [])) =
            take_more xs l 0 more
            ∙ ap (λ q. q ++ m ∷ []) (front K3 xs Gap j t l p3 hj ∙ ap (λ q. q ++ p3.ys) (front K2 xs Gap i h j p2 hi ∙ ap (λ q. q ++ p2.ys) (front K1 xs Magic 0 w i p1 (omega arith))))
            ∙ append_assoc (p1.ys ++ p2.ys) p3.ys (m ∷ [])
            ∙ append_assoc p1.ys p2.ys (p3.ys ++ m ∷ []) in
            subst (HeaderText (w ∷ h ∷ t ∷ [])) (sym f) (magic_header w (h ∷ t ∷ []) (p1.ys ++ (p2.ys ++ (p3.ys ++ m ∷ []))) r)
