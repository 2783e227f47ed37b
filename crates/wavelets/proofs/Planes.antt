-- A work on lines, done to all rows or to all columns of a plane. What holds of columns is what holds of the rows of the
-- plane turned over.
use Rattle.std.proofs.Common.{◌≡◌, ℕ, ◌*◌, ◌<◌, ◌≤◌, Bool, true, false, ltb, nat_abs, sym, refl, ap, ◌∙◌}
use mathlib.Core.Path.{fun_ext}
use Rattle.std.proofs.lemmas.Bool.{lt-ltb}
use Rattle.wavelets.specs.Lifting.{Line, LineWork, Cells, Plane, columns, rows, Bounded}
use Rattle.wavelets.specs.Theorems.{ReadsNothingOutside}
use Rattle.wavelets.proofs.Steps.{ReadsTheLineAlone}

-- rows and columns exchanged
abbrev pub turned : {A : Type 0} → Cells A → Cells A
turned x c r = x r c

-- at the rows of the plate, and below them; and so for columns
pub rows_in : (g : LineWork) (R C : ℕ) (x : Plane) (r c : ℕ) → ltb r R ≡ true → rows g R C x r c ≡ g C (x r) c
unfolding rows
rows_in g R C x r c h = rw (h, rows)

pub rows_out : (g : LineWork) (R C : ℕ) (x : Plane) (r c : ℕ) → ltb r R ≡ false → rows g R C x r c ≡ x r c
unfolding rows
rows_out g R C x r c h = rw (h, rows)

pub columns_turned : (g : LineWork) (R C : ℕ) (x : Plane) → columns g R C x ≡ turned (rows g C R (turned x))
unfolding rows columns
columns_turned g R C x = refl

pub columns_in : (g : LineWork) (R C : ℕ) (x : Plane) (r c : ℕ) → ltb c C ≡ true → columns g R C x r c ≡ g R (λ i. x i c) r
unfolding rows columns
columns_in g R C x r c h = rows_in g C R (turned x) c r h

pub columns_out : (g : LineWork) (R C : ℕ) (x : Plane) (r c : ℕ) → ltb c C ≡ false → columns g R C x r c ≡ x r c
unfolding rows columns
columns_out g R C x r c h = rows_out g C R (turned x) c r h

-- one work after another
pub rows_after : (f g h : LineWork) (R C : ℕ) (x : Plane) → ((n : ℕ) (l : Line) → g n (f n l) ≡ h n l) → rows g R C (rows f R C x) ≡ rows h R C x
rows_after f g h R C x e = fun_ext (λ r. fun_ext (λ c. at r c (ltb r R) refl))
  where
    at : (r c : ℕ) (t : Bool) → ltb r R ≡ t → rows g R C (rows f R C x) r c ≡ rows h R C x r c
    at r c true q =
        rows_in g R C _ r c q ∙ ap (λ (l : Line). g C l c) (fun_ext (λ i. rows_in f R C x r i q)) ∙ ap (λ (l : Line). l c) (e C (x r))
        ∙ sym (rows_in h R C x r c q)
    at r c false q = rows_out g R C _ r c q ∙ rows_out f R C x r c q ∙ sym (rows_out h R C x r c q)

pub columns_after : (f g h : LineWork) (R C : ℕ) (x : Plane) → ((n : ℕ) (l : Line) → g n (f n l) ≡ h n l) → columns g R C (columns f R C x) ≡ columns h R C x
unfolding rows columns
columns_after f g h R C x e = ap turned (rows_after f g h C R (turned x) e)

-- a work that is undone
pub rows_undone : (f g : LineWork) (R C : ℕ) (x : Plane) → ((n : ℕ) (l : Line) → g n (f n l) ≡ l) → rows g R C (rows f R C x) ≡ x
rows_undone f g R C x back = rows_after f g (λ _ l. l) R C x back ∙ fun_ext (λ r. fun_ext (λ c. at r c (ltb r R) refl))
  where
    at : (r c : ℕ) (t : Bool) → ltb r R ≡ t → rows (λ _ l. l) R C x r c ≡ x r c
    at r c true h = rows_in (λ _ l. l) R C x r c h
    at r c false h = rows_out (λ _ l. l) R C x r c h

pub columns_undone : (f g : LineWork) (R C : ℕ) (x : Plane) → ((n : ℕ) (l : Line) → g n (f n l) ≡ l) → columns g R C (columns f R C x) ≡ x
unfolding rows columns
columns_undone f g R C x back = ap turned (rows_undone f g C R (turned x) back)

-- nothing outside the plate is read
pub rows_read : (g : LineWork) → ReadsTheLineAlone g → ReadsNothingOutside (rows g)
rows_read g reads R C x y same r c lr lc =
    rows_in g R C x r c (lt-ltb r R lr) ∙ reads C (x r) (y r) (λ j lj. same r j lr lj) c lc ∙ sym (rows_in g R C y r c (lt-ltb r R lr))

pub columns_read : (g : LineWork) → ReadsTheLineAlone g → ReadsNothingOutside (columns g)
unfolding rows columns
columns_read g reads R C x y same r c lr lc = rows_read g reads C R (turned x) (turned y) (λ j i lj li. same i j li lj) c r lc lr

-- a work that lets the numbers of a line grow q-fold
abbrev pub Grows : ℕ → LineWork → Type 0
Grows q g = (n M : ℕ) (x : Line) → ((i : ℕ) → i < n → nat_abs (x i) ≤ M) → (i : ℕ) → i < n → nat_abs (g n x i) ≤ q * M

pub rows_grow : (g : LineWork) (q : ℕ) → Grows q g → (R C M : ℕ) (x : Plane) → Bounded R C M x → Bounded R C (q * M) (rows g R C x)
rows_grow g q grows R C M x small r c lr lc = rw (rows_in g R C x r c (lt-ltb r R lr)) (grows C M (x r) (λ j lj. small r j lr lj) c lc)

pub columns_grow : (g : LineWork) (q : ℕ) → Grows q g → (R C M : ℕ) (x : Plane) → Bounded R C M x → Bounded R C (q * M) (columns g R C x)
unfolding rows columns
columns_grow g q grows R C M x small r c lr lc = rows_grow g q grows C R M (turned x) (λ j i lj li. small i j li lj) c r lc lr
