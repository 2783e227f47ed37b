-- The runs name the changed cells, each run cut as ruled.
use Rattle.std.proofs.Common.{◌≡◌, ℕ, zero, suc, ◌+◌, ◌-◌, ◌<◌, ◌≤◌, Bool, true, false, cond, not, ◌||◌, eqb, ◌⊎◌, List, [], ◌∷◌, ◌++◌, ℤ, sym, refl, ap, ◌∙◌, inl, inr, append_assoc, append-nil, add-one, arith}
use Rattle.std.specs.Option.{option_to_list}
use Rattle.std.specs.List.{flat_map, AllByRecursion}
use Rattle.std.proofs.ByRecursion.{All-append}
use Rattle.std.proofs.lemmas.Grind.{flat_map-append}
use Rattle.std.proofs.lemmas.Bool.{eqb-true}
use Rattle.planes.specs.Planes.{Cells}
use Rattle.sheets.specs.declared.runs.Part.{Part}
use Rattle.sheets.specs.declared.runs.Part.TheVariants.{Out, Inner, Last}
use Rattle.sheets.specs.declared.runs.Run.{Run}
use Rattle.sheets.specs.Runs.{named, changed_in_row, changed_cells, cells_from, named_by, is_cut, part, still_begun, ended, begun_before, row_runs, runs_from, runs_left, runs}
use Rattle.sheets.specs.Laws.{CutAsRuled, TheRunsNameTheChangedCells}
use Rattle.sheets.proofs.Walking.{Way, out, inner, last, way, begun_small, begun_within, begun_none, begun_all}

-- one cell more of a run
pub cells_more : (x : Cells ℤ) (r c n : ℕ) → cells_from x r c (n + 1) ≡ cells_from x r c n ++ (named x r (c + n) ∷ [])
unfolding cells_from
cells_more x r c n = rw add-one

pub cells_none : (x : Cells ℤ) (r c : ℕ) → cells_from x r c 0 ≡ []
unfolding cells_from
cells_none x r c = refl

module _ (x : Cells ℤ) (b : Cells Bool) (C r : ℕ) where
  -- the runs that ended, and then the cells of the one that goes on, are the changed cells so far
  abbrev SoFar : ℕ → ℕ → List Run → Type 0
  SoFar c g rs = flat_map (named_by x) rs ++ cells_from x r (c - g) g ≡ changed_in_row x b r c

  with_the_next : (c g : ℕ) → g ≤ c → cells_from x r (c - g) (g + 1) ≡ cells_from x r (c - g) g ++ (named x r c ∷ [])
  with_the_next c g h = cells_more x r (c - g) g ∙ ap (λ n. cells_from x r (c - g) g ++ (named x r n ∷ [])) (omega arith)

  step : (c g : ℕ) (rs : List Run) (p : Part) → Way g (b r) C c p → g ≤ c → (b r c ≡ false → g ≡ 0) → SoFar c g rs → SoFar (suc c) (still_begun p g) (rs ++ option_to_list (ended p r c g))
  unfolding changed_in_row
  step c g rs Out (out e) h z q =
      let g0 : g ≡ 0 = z e in
      let nothing : cells_from x r (c - g) g ≡ [] = (λ i. cells_from x r (c - g0 i) (g0 i)) ∙ cells_none x r (c - 0) in
      ap (λ z. flat_map (named_by x) z ++ cells_from x r (suc c - 0) 0) (append-nil rs)
      ∙ ap (λ z. flat_map (named_by x) rs ++ z) (cells_none x r (suc c - 0) ∙ sym nothing)
      ∙ q
      ∙ sym (append-nil (changed_in_row x b r c))
      ∙ ap (λ v. changed_in_row x b r c ++ cond v (named x r c ∷ []) []) (sym e)
  step c g rs Inner (inner e f) h z q =
      ap (λ z. flat_map (named_by x) z ++ cells_from x r (suc c - (g + 1)) (g + 1)) (append-nil rs)
      ∙ ap (λ z. flat_map (named_by x) rs ++ z) (ap (λ n. cells_from x r n (g + 1)) (omega arith) ∙ with_the_next c g h)
      ∙ sym (append_assoc (flat_map (named_by x) rs) (cells_from x r (c - g) g) (named x r c ∷ []))
      ∙ ap (λ z. z ++ (named x r c ∷ [])) q
      ∙ ap (λ v. changed_in_row x b r c ++ cond v (named x r c ∷ []) []) (sym e)
  step c g rs Last (last e f) h z q =
      let run : Run = record { row = r; first = c - g; count = g + 1 } in
      ap (λ z. z ++ cells_from x r (suc c - 0) 0) (flat_map-append (named_by x) rs (run ∷ []))
      ∙ ap (λ z. (flat_map (named_by x) rs ++ (named_by x run ++ [])) ++ z) (cells_none x r (suc c - 0))
      ∙ append-nil (flat_map (named_by x) rs ++ (named_by x run ++ []))
      ∙ ap (λ z. flat_map (named_by x) rs ++ z) (append-nil (named_by x run) ∙ with_the_next c g h)
      ∙ sym (append_assoc (flat_map (named_by x) rs) (cells_from x r (c - g) g) (named x r c ∷ []))
      ∙ ap (λ z. z ++ (named x r c ∷ [])) q
      ∙ ap (λ v. changed_in_row x b r c ++ cond v (named x r c ∷ []) []) (sym e)

  pub row_so_far : (c : ℕ) → SoFar c (begun_before (b r) C c) (row_runs (b r) r C c)
  unfolding row_runs begun_before changed_in_row cells_from
  row_so_far zero = refl
  row_so_far (suc c) =
      let g = begun_before (b r) C c in
      step c g (row_runs (b r) r C c) (part g (b r) C c) (way g (b r) C c) (begun_within (b r) C c) (begun_none (b r) C c) (row_so_far c)

  pub row_names : flat_map (named_by x) (row_runs (b r) r C C) ≡ changed_in_row x b r C
  row_names =
      let e : begun_before (b r) C C ≡ 0 = begun_all (b r) C in
      sym (append-nil (flat_map (named_by x) (row_runs (b r) r C C)))
      ∙ ap (λ z. flat_map (named_by x) (row_runs (b r) r C C) ++ z) (sym (cells_none x r (C - 0)))
      ∙ (λ i. flat_map (named_by x) (row_runs (b r) r C C) ++ cells_from x r (C - sym e i) (sym e i))
      ∙ row_so_far C

-- the runs of all rows
pub runs_name : (x : Cells ℤ) (b : Cells Bool) (R C : ℕ) → flat_map (named_by x) (runs b R C) ≡ changed_cells x b R C
unfolding runs changed_cells
runs_name x b zero C = refl
runs_name x b (suc r) C =
    flat_map-append (named_by x) (runs b r C) (row_runs (b r) r C C) ∙ (λ i. runs_name x b r C i ++ row_names x b C r i)

-- what cut a run that ended at column c
ways_to_cut : (b : ℕ → Bool) (C c g : ℕ) → g ≤ c → is_cut g b C c ≡ true → (g + 1 ≡ 16) ⊎ ((c - g + (g + 1) ≡ C) ⊎ (b (c - g + (g + 1)) ≡ false))
ways_to_cut b C c g h e = by (eqb g 15) refl (eqb (c + 1) C) refl (b (c + 1)) refl e
  where
    by : (u : Bool) → eqb g 15 ≡ u → (v : Bool) → eqb (c + 1) C ≡ v → (w : Bool) → b (c + 1) ≡ w → (u || (v || not w)) ≡ true
        → (g + 1 ≡ 16) ⊎ ((c - g + (g + 1) ≡ C) ⊎ (b (c - g + (g + 1)) ≡ false))
    by true p v q w s k = inl (omega (arith, eqb-true g 15 p))
    by false p true q w s k = inr (inl (omega (arith, eqb-true (c + 1) C q)))
    by false p false q false s k = inr (inr (ap b (omega arith) ∙ s))
    by false p false q true s k = absurd (let z : ◌≡◌ {A = ℕ} 0 1 = ap (λ t. cond t 1 0) k in omega arith)

module _ (b : Cells Bool) (R C r : ℕ) (lr : r < R) where
  ended_cut : (c g : ℕ) (p : Part) → Way g (b r) C c p → c < C → g ≤ c → g ≤ 15 → AllByRecursion (CutAsRuled 16 b R C) (option_to_list (ended p r c g))
  ended_cut c g Out w lc h s = tt
  ended_cut c g Inner w lc h s = tt
  ended_cut c g Last (last e f) lc h s = (
    record { in_a_row = lr; in_its_columns = omega arith; not_empty = omega arith; not_longer = omega arith; cut = ways_to_cut (b r) C c g h f },
    tt,
  )

  pub row_cut : (c : ℕ) → c ≤ C → AllByRecursion (CutAsRuled 16 b R C) (row_runs (b r) r C c)
  unfolding row_runs
  row_cut zero h = tt
  row_cut (suc c) h =
      let g = begun_before (b r) C c in
      All-append (CutAsRuled 16 b R C) (row_runs (b r) r C c) (option_to_list (ended (part g (b r) C c) r c g)) (row_cut c (omega arith))
      (ended_cut c g (part g (b r) C c) (way g (b r) C c) (omega arith) (begun_within (b r) C c) (begun_small (b r) C c))

  from_cut : (c n : ℕ) → c + n ≤ C → AllByRecursion (CutAsRuled 16 b R C) (runs_from (b r) r C c n)
  unfolding runs_from
  from_cut c zero h = tt
  from_cut c (suc n) h =
      let g = begun_before (b r) C c in
      All-append (CutAsRuled 16 b R C) (option_to_list (ended (part g (b r) C c) r c g)) (runs_from (b r) r C (c + 1) n)
      (ended_cut c g (part g (b r) C c) (way g (b r) C c) (omega arith) (begun_within (b r) C c) (begun_small (b r) C c))
      (from_cut (c + 1) n (omega arith))

  pub left_cut : (c : ℕ) → c ≤ C → AllByRecursion (CutAsRuled 16 b R C) (runs_left b r C c)
  left_cut c h = from_cut c (C - c) (omega arith)

runs_cut : (b : Cells Bool) (R C r : ℕ) → r ≤ R → AllByRecursion (CutAsRuled 16 b R C) (runs b r C)
unfolding runs
runs_cut b R C zero h = tt
runs_cut b R C (suc r) h =
    All-append (CutAsRuled 16 b R C) (runs b r C) (row_runs (b r) r C C) (runs_cut b R C r (omega arith)) (row_cut b R C r (omega arith) C (omega arith))

pub the_runs_name : TheRunsNameTheChangedCells 16
the_runs_name x b R C = record { names = runs_name x b R C; each = runs_cut b R C R (omega arith) }
