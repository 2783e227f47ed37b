-- Reads and writes of a list that holds a rectangle row by row.
use Rattle.std.proofs.Common.{◌≡◌, ℕ, ◌+◌, ◌*◌, ◌/◌, ◌%◌, ◌<◌, ◌≤◌, true, false, cond, ◌&&◌, eqb, ltb, ◌≢◌, List, length, get_or, set, sym, refl, ap, ◌∙◌, subst, ⊎_elim, arith, length-set}
use mathlib.Core.Path.{fun_ext}
use Rattle.std.proofs.lemmas.Bool.Decides.{nat_tests}
use Rattle.std.proofs.lemmas.Bool.{cond_both, cond-true, cond-false, and_parts, ltb-true, cases_Bool, eqb-true}
use Rattle.std.proofs.lemmas.List.{get_or_read, get_or-set_same, get_or-set_other}
use Rattle.std.proofs.lemmas.Nat.{mul-add-lt, div-mul-add, mod-mul-add}
use Rattle.planes.specs.Planes.{Cells, with_at}
use Rattle.planes.specs.Rowwise.{rowwise, usable, Inside}

-- the place of (i, j) is in the list
pub in_list : (R C L i j : ℕ) → R * C ≤ L → i < R → j < C → i * C + j < L
in_list R C L i j h a b = omega (arith, mul-add-lt i C j R a b)

usable_is : (R C L n : ℕ) → R * C ≤ L → usable R C L n ≡ n
usable_is R C L n h = grind (arith, nat_tests)

-- a rectangle that has a place is in the list
pub fits_of : (R C L i : ℕ) → i < usable R C L R → R * C ≤ L
fits_of R C L i h = grind (arith, nat_tests)

pub inside_from : (R C L i j : ℕ) → R * C ≤ L → i < R → j < C → Inside R C L i j
inside_from R C L i j h a b = let e = usable_is R C L R h in let f = usable_is R C L C h in (rw e a, rw f b)

row_of : (R C L i : ℕ) → i < usable R C L R → i < R
row_of R C L i h = grind (arith, nat_tests)

col_of : (R C L i : ℕ) → i < usable R C L C → i < C
col_of R C L i h = grind (arith, nat_tests)

-- its index is that of an element of the rectangle, and so in the list
pub index_of : (R C L i j : ℕ) → i < usable R C L R → j < usable R C L C → i * C + j < usable R C L (R * C)
index_of R C L i j a b =
    let e = usable_is R C L (R * C) (fits_of R C L i a) in
    rw e (omega (arith, mul-add-lt i C j R (row_of R C L i a) (col_of R C L j b)))

pub index_in : (R C L i j : ℕ) → i < usable R C L R → j < usable R C L C → i * C + j < L
index_in R C L i j a b = in_list R C L i j (fits_of R C L i a) (row_of R C L i a) (col_of R C L j b)

width_is : (R C L j : ℕ) → j < usable R C L C → usable R C L C ≡ C
width_is R C L j h = grind (arith, nat_tests)

pub place_is : (R C L h w i j : ℕ) → h ≡ usable R C L R → w ≡ usable R C L C → i < h → j < w → Inside R C L i j × (i * w + j ≡ i * C + j) × (i * w + j < L)
place_is R C L h w i j e f a b =
    let a' : i < usable R C L R = subst (λ (z : ℕ). i < z) e a in
    let b' : j < usable R C L C = subst (λ (z : ℕ). j < z) f b in
    let s : i * w + j ≡ i * C + j = ap (λ (z : ℕ). i * z + j) (f ∙ width_is R C L j b') in
    ((a', b'), s, rw s (index_in R C L i j a' b'))

inside : (m n i j : ℕ) → i < m → j < n → (ltb i m && ltb j n) ≡ true
inside m n i j a b = grind (arith, nat_tests)

apart : (m n i j r c : ℕ) → i < m → j < n → (ltb r m && ltb c n) ≡ false → (eqb r i && eqb c j) ≡ false
apart m n i j r c a b t = grind (arith, nat_tests)

same_row : (C i j r c : ℕ) → j < C → c < C → i * C + j ≡ r * C + c → i ≡ r
same_row C i j r c a b e = sym (div-mul-add i C j a) ∙ ap (λ k. k / C) e ∙ div-mul-add r C c b

same_col : (C i j r c : ℕ) → j < C → c < C → i * C + j ≡ r * C + c → j ≡ c
same_col C i j r c a b e = sym (mod-mul-add i C j a) ∙ ap (λ k. k % C) e ∙ mod-mul-add r C c b

-- a function of what stands at each place
pub with_at_map : {A B : Type 0} (f : A → B) (p : Cells A) (i j : ℕ) (x : A) → ◌≡◌ {A = Cells B} (λ r c. f (with_at p i j x r c)) (with_at (λ r c. f (p r c)) i j (f x))
with_at_map f p i j x = fun_ext (λ r. fun_ext (λ c. elim (eqb r i && eqb c j) as (λ t. f (cond t x (p r c)) ≡ cond t (f x) (f (p r c))) [ true ↦ refl | false ↦ refl ]))

module _ {A : Type 0} (d : A) (R C : ℕ) (xs : List A) where
  pub rowwise_read : (i j : ℕ) (x : A) → i < usable R C (length xs) R → j < usable R C (length xs) C → x ≡ get_or xs (i * C + j) x → x ≡ rowwise d R C xs i j
  rowwise_read i j x a b e = get_or_read xs (i * C + j) x (index_in R C (length xs) i j a b) e d ∙ sym (cond-true _ _ _ (inside _ _ i j a b))

  -- at a place inside
  set_inside : (i j : ℕ) (x : A) (r c : ℕ) → i < usable R C (length xs) R → j < usable R C (length xs) C → r < usable R C (length xs) R → c < usable R C (length xs) C → get_or (set xs (i * C + j) x) (r * C + c) d ≡ cond (eqb r i && eqb c j) x (get_or xs (r * C + c) d)
  set_inside i j x r c a b p q =
      cond_both (eqb r i && eqb c j) x (get_or xs (r * C + c) d) (λ (z : A). get_or (set xs (i * C + j) x) (r * C + c) d ≡ z)
      (λ t. let e : r * C + c ≡ i * C + j = (ap (λ (z : ℕ). z * C + c) (eqb-true r i (and_parts _ _ t).0) ∙ ap (λ (z : ℕ). i * C + z) (eqb-true c j (and_parts _ _ t).1)) in
      ap (λ (z : ℕ). get_or (set xs (i * C + j) x) z d) e ∙ get_or-set_same xs (i * C + j) x d (index_in R C (length xs) i j a b))
      (λ t. let ne : r * C + c ≢ i * C + j = (λ e. let u = same_row C r c i j (col_of R C (length xs) c q) (col_of R C (length xs) j b) e in let v = same_col C r c i j (col_of R C (length xs) c q) (col_of R C (length xs) j b) e in let z : ◌≡◌ {A = ℕ} 0 1 = grind (arith, nat_tests) in omega arith) in
      get_or-set_other xs (i * C + j) (r * C + c) x d ne)

  pub rowwise_set : (i j : ℕ) (x : A) → i < usable R C (length xs) R → j < usable R C (length xs) C → rowwise d R C (set xs (i * C + j) x) ≡ with_at (rowwise d R C xs) i j x
  rowwise_set i j x a b = ap {B = Cells A} (λ (L : ℕ) r c. cond (ltb r (usable R C L R) && ltb c (usable R C L C)) (get_or (set xs (i * C + j) x) (r * C + c) d) d) (length-set xs (i * C + j) x) ∙ (fun_ext (λ r. fun_ext (λ c. let h = usable R C (length xs) R in let w = usable R C (length xs) C in ⊎_elim
      (λ t. cond-true _ _ _ t ∙ set_inside i j x r c a b (ltb-true _ _ (and_parts _ _ t).0) (ltb-true _ _ (and_parts _ _ t).1) ∙ ap (λ (z : A). cond (eqb r i && eqb c j) x z) (sym (cond-true (ltb r h && ltb c w) _ d t)))
      (λ t. cond-false _ _ _ t ∙ sym (cond-false _ _ _ (apart h w i j r c a b t) ∙ cond-false (ltb r h && ltb c w) _ d t))
      (cases_Bool (ltb r h && ltb c w)))))

  -- a rectangle of which something stays, and one of which something is the same everywhere
  pub rowwise_same : {B : Type 0} (f : A → B) (ys : List A) → length ys ≡ length xs → ((k : ℕ) → f (get_or ys k d) ≡ f (get_or xs k d)) → ◌≡◌ {A = Cells B} (λ i j. f (rowwise d R C ys i j)) (λ i j. f (rowwise d R C xs i j))
  rowwise_same f ys l e = rw l (fun_ext (λ i. fun_ext (λ j. elim (ltb i (usable R C (length xs) R) && ltb j (usable R C (length xs) C)) as (λ t. f (cond t (get_or ys (i * C + j) d) d) ≡ f (cond t (get_or xs (i * C + j) d) d)) [ true ↦ e (i * C + j) | false ↦ refl ])))

  pub rowwise_all : {B : Type 0} (f : A → B) → ((k : ℕ) → k < usable R C (length xs) (R * C) → f (get_or xs k d) ≡ f d) → ◌≡◌ {A = Cells B} (λ i j. f (rowwise d R C xs i j)) (λ i j. f d)
  rowwise_all f e = fun_ext (λ i. fun_ext (λ j. cond_both (ltb i (usable R C (length xs) R) && ltb j (usable R C (length xs) C)) _ _ (λ (z : A). f z ≡ f d) (λ t. e (i * C + j) (index_of R C (length xs) i j (ltb-true _ _ (and_parts _ _ t).0) (ltb-true _ _ (and_parts _ _ t).1))) (λ _. refl)))
