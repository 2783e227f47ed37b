-- Copying place by place.
use Rattle.std.proofs.Common.{◌≡◌, ℕ, ◌+◌, ◌*◌, ◌<◌, ◌≤◌, cond, ◌&&◌, ltb, leb, ◌≢◌, List, length, get_or, set, ℤ, pos, Some, None, Option, refl, ap, ◌∙◌, ⊎_elim, arith, length-set, MatchOption}
use Rattle.std.proofs.lemmas.Bool.Decides.{nat_tests}
use Rattle.std.proofs.lemmas.Bool.{cases_eq}
use Rattle.std.proofs.lemmas.List.{get_or-set_same, get_or-set_other}
use Rattle.std.proofs.lemmas.Nat.{mul-add-lt, div-mul-add, mod-mul-add}
use Rattle.planes.specs.Rowwise.{Inside}
use Rattle.planes.proofs.Rowwise.{inside_from}
use Rattle.planes.specs.declared.rectangle.Rectangle.{Rectangle}
use Rattle.planes.specs.Planes.{Cells}
use Rattle.planes.specs.Copies.{Copied, nth_number}

none : (s m : ℕ) (x y : ℤ) → y ≡ cond (leb s m && ltb m s) x y
none s m x y = grind (arith, nat_tests)

same : (t u m : ℕ) (x y : ℤ) → u ≡ t + 1 → m ≡ t → x ≡ cond (leb t m && ltb m u) x y
same t u m x y f e = grind (arith, nat_tests)

other : (t u m : ℕ) (x y : ℤ) → u ≡ t + 1 → m ≢ t → y ≡ cond (leb t m && ltb m u) x y
other t u m x y f h = grind (arith, nat_tests)

joined : (s t u m : ℕ) (x y z : ℤ) → s ≤ t → t ≤ u → z ≡ cond (leb t m && ltb m u) x (cond (leb s m && ltb m t) x y) → z ≡ cond (leb s m && ltb m u) x y
joined s t u m x y z h k e = grind (arith, nat_tests)

module _ (n : Cells ℤ) (a : Rectangle) where
  pub copied_none : (s : ℕ) (xs : List ℤ) → Copied n a s s xs xs
  copied_none s xs = record { size = refl; number = λ m. none s m (nth_number n a m) (get_or xs m (pos 0)) }

  -- the number of row i and column j
  copied_one : (i j : ℕ) (xs ys : List ℤ) (z : ℤ) → j < a.width → i * a.width + j < length xs
      → z ≡ n (a.first_row + i) (a.first_column + j) → ys ≡ set xs (i * a.width + j) z
      → Copied n a (i * a.width + j) (i * a.width + (j + 1)) xs ys
  copied_one i j xs ys z h l v e =
      let t = i * a.width + j in
      let u = i * a.width + (j + 1) in
      let f : u ≡ t + 1 = omega arith in
      let here : (m : ℕ) → m ≡ t → z ≡ nth_number n a m = (λ m q. rw (q, div-mul-add i a.width j h, mod-mul-add i a.width j h) v) in
      record {
        size = ap length e ∙ length-set xs t z;
        number = λ m. ap (λ (l : List ℤ). get_or l m (pos 0)) e ∙ ⊎_elim
            (λ q. rw q (get_or-set_same xs t z (pos 0) l) ∙ here m q ∙ same t u m (nth_number n a m) (get_or xs m (pos 0)) f q)
            (λ q. get_or-set_other xs t m z (pos 0) q ∙ other t u m (nth_number n a m) (get_or xs m (pos 0)) f q)
            (cases_eq m t);
      }

  -- what a grid over the output answers at a place of the rectangle
  pub copied_set : (R C i j : ℕ) (xs ys : List ℤ) (z : ℤ) (o : Option (Unit {0})) → R ≡ a.height → C ≡ a.width → a.height * a.width ≤ length xs → i < a.height → j < a.width
      → z ≡ n (a.first_row + i) (a.first_column + j)
      → MatchOption o ((Inside R C (length xs) i j → ⊥) × (ys ≡ xs)) (λ _. Inside R C (length xs) i j × (ys ≡ set xs (i * C + j) z))
      → Copied n a (i * a.width + j) (i * a.width + (j + 1)) xs ys
  copied_set R C i j xs ys z (Some v) e f l h k v' did =
      let g : ys ≡ set xs (i * a.width + j) z = rw f at did.1 in
      copied_one i j xs ys z k (omega (arith, mul-add-lt i a.width j a.height h k)) v' g
  copied_set R C i j xs ys z None e f l h k v' did = absurd (did.0 (inside_from R C (length xs) i j (rw (e, f) l) (rw e h) (rw f k)))

  -- and one part after the other
  pub copied_onward : (s t u : ℕ) (xs ys zs : List ℤ) → s ≤ t → t ≤ u → Copied n a s t xs ys → Copied n a t u ys zs → Copied n a s u xs zs
  copied_onward s t u xs ys zs h k c d = record {
    size = d.size ∙ c.size;
    number = λ m. joined s t u m (nth_number n a m) (get_or xs m (pos 0)) _ h k (d.number m ∙ ap (λ (y : ℤ). cond (leb t m && ltb m u) (nth_number n a m) y) (c.number m));
  }
