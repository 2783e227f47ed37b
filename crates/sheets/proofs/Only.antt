-- No other runs name the changed cells, cut as ruled.
use Rattle.std.proofs.Common.{◌≡◌, ℕ, zero, suc, ◌+◌, ◌<◌, ◌≤◌, Bool, true, false, cond, List, [], ◌∷◌, ◌++◌, length, get_or, drop, ℤ, sym, refl, ap, ◌∙◌, subst, ⊎_elim, arith}
use Rattle.std.specs.List.{flat_map, AllByRecursion}
use Rattle.std.proofs.lemmas.List.{length-append, get_or_append_left, get_or_at, drop_at}
use Rattle.std.proofs.ByRecursion.{All-append}
use Rattle.std.proofs.lemmas.Bool.{cases_lt, false≢true}
use Rattle.planes.specs.Planes.{Cells}
use Rattle.sheets.specs.declared.runs.Run.{Run}
use Rattle.sheets.specs.Runs.{Named, named, changed_in_row, changed_cells, cells_from, named_by, runs}
use Rattle.sheets.specs.Laws.{CutAsRuled, NoOtherRunsDo}
use Rattle.sheets.proofs.Naming.{the_runs_name}
use Rattle.sheets.proofs.Sizes.{length_cells}

all_left : {X : Type 0} (P : X → Type 0) (xs ys : List X) → AllByRecursion P (xs ++ ys) → AllByRecursion P xs
all_left P [] ys a = tt
all_left P (x ∷ xs) ys (p, a) = (p, all_left P xs ys a)

pub all_right : {X : Type 0} (P : X → Type 0) (xs ys : List X) → AllByRecursion P (xs ++ ys) → AllByRecursion P ys
all_right P [] ys a = a
all_right P (x ∷ xs) ys (p, a) = all_right P xs ys a

-- the bit of a cell is set
abbrev IsSet : Cells Bool → Named → Type 0
IsSet b a = b a.row a.column ≡ true

changed_row_set : (x : Cells ℤ) (b : Cells Bool) (r c : ℕ) → AllByRecursion (IsSet b) (changed_in_row x b r c)
unfolding changed_in_row
changed_row_set x b r zero = tt
changed_row_set x b r (suc c) = All-append (IsSet b) (changed_in_row x b r c) _ (changed_row_set x b r c) (by (b r c) refl)
  where
    by : (v : Bool) → b r c ≡ v → AllByRecursion (IsSet b) (cond v (named x r c ∷ []) [])
    by true e = (e, tt)
    by false e = tt

changed_set : (x : Cells ℤ) (b : Cells Bool) (R C : ℕ) → AllByRecursion (IsSet b) (changed_cells x b R C)
unfolding changed_cells
changed_set x b zero C = tt
changed_set x b (suc r) C = All-append (IsSet b) (changed_cells x b r C) (changed_in_row x b r C) (changed_set x b r C) (changed_row_set x b r C)

-- the cells of a run, one by one
cell_of : (x : Cells ℤ) (r c n i : ℕ) (d : Named) → i < n → get_or (cells_from x r c n) i d ≡ named x r (c + i)
unfolding cells_from
cell_of x r c zero i d h = absurd (omega arith)
cell_of x r c (suc n) i d h =
    ⊎_elim
    (λ l. get_or_append_left (cells_from x r c n) (named x r (c + n) ∷ []) d i (omega (arith, length_cells x r c n)) ∙ cell_of x r c n i d l)
    (λ l.
    let e : n ≡ i = omega arith in
    get_or_at (cells_from x r c n) (named x r (c + n)) [] d i (length_cells x r c n ∙ e) ∙ ap (λ k. named x r (c + k)) e)
    (cases_lt i n)

set_in_run : (x : Cells ℤ) (b : Cells Bool) (r c n i : ℕ) → AllByRecursion (IsSet b) (cells_from x r c n) → i < n → b r (c + i) ≡ true
unfolding cells_from
set_in_run x b r c zero i a h = absurd (omega arith)
set_in_run x b r c (suc n) i a h =
    ⊎_elim (λ l. set_in_run x b r c n i (all_left (IsSet b) (cells_from x r c n) (named x r (c + n) ∷ []) a) l)
    (λ l. let e : n ≡ i = omega arith in subst (λ k. b r (c + k) ≡ true) e (all_right (IsSet b) (cells_from x r c n) (named x r (c + n) ∷ []) a).0)
    (cases_lt i n)

module _ (x : Cells ℤ) (b : Cells Bool) (R C : ℕ) where
  -- a run that begins where another does is not shorter
  not_shorter : (s t : Run) → CutAsRuled 16 b R C s → CutAsRuled 16 b R C t → AllByRecursion (IsSet b) (named_by x t) → s.row ≡ t.row → s.first ≡ t.first → s.count < t.count → ⊥
  not_shorter s t cs ct set same_row same_first h =
      ⊎_elim (λ e. omega (arith, e, ct.not_longer, h))
      (⊎_elim (λ e. omega (arith, e, ct.in_its_columns, same_first, h))
      (λ e. false≢true (sym e ∙ (λ i. b (same_row i) (same_first i + s.count)) ∙ set_in_run x b t.row t.first t.count s.count set h)))
      cs.cut

  -- two lists of runs that name the same cells, all of them set
  same_runs : (ss ts : List Run) → AllByRecursion (CutAsRuled 16 b R C) ss → AllByRecursion (CutAsRuled 16 b R C) ts → AllByRecursion (IsSet b) (flat_map (named_by x) ss) → flat_map (named_by x) ss ≡ flat_map (named_by x) ts → ss ≡ ts
  same_runs [] [] cs ct set e = refl
  same_runs [] (t ∷ ts) cs (ct, cts) set e =
      absurd (omega (arith, ap length e, length-append (named_by x t) (flat_map (named_by x) ts), length_cells x t.row t.first t.count, ct.not_empty))
  same_runs (s ∷ ss) [] (cs, css) ct set e =
      absurd (omega (arith, ap length e, length-append (named_by x s) (flat_map (named_by x) ss), length_cells x s.row s.first s.count, cs.not_empty))
  same_runs (s ∷ ss) (t ∷ ts) (cs, css) (ct, cts) set e =
      let d : Named = named x 0 0 in
      let others = flat_map (named_by x) ss in
      let rest = flat_map (named_by x) ts in
      let first_of : (u : Run) (us : List Named) → 1 ≤ u.count → get_or (named_by x u ++ us) 0 d ≡ named x u.row (u.first + 0) =
      (λ u us h. get_or_append_left (named_by x u) us d 0 (omega (arith, length_cells x u.row u.first u.count, h)) ∙ cell_of x u.row u.first u.count 0 d h) in
      let heads : named x s.row (s.first + 0) ≡ named x t.row (t.first + 0) =
      sym (first_of s others cs.not_empty) ∙ ap (λ l. get_or l 0 d) e ∙ first_of t rest ct.not_empty in
      let same_row : s.row ≡ t.row = ap (λ (a : Named). a.row) heads in
      let same_first : s.first ≡ t.first = omega (arith, ap (λ (a : Named). a.column) heads) in
      let set_t : AllByRecursion (IsSet b) (named_by x t) = all_left (IsSet b) (named_by x t) rest (subst (AllByRecursion (IsSet b)) e set) in
      let same_count : s.count ≡ t.count =
      ⊎_elim (λ h. absurd (not_shorter s t cs ct set_t same_row same_first h))
      (λ h. ⊎_elim (λ k. absurd (not_shorter t s ct cs (all_left (IsSet b) (named_by x s) others set) (sym same_row) (sym same_first) k)) (λ k. omega (arith, h, k)) (cases_lt t.count s.count))
      (cases_lt s.count t.count) in
      let rests : others ≡ rest =
      sym (drop_at (named_by x s) others s.count (length_cells x s.row s.first s.count))
      ∙ ap (drop s.count) e
      ∙ drop_at (named_by x t) rest s.count (length_cells x t.row t.first t.count ∙ sym same_count) in
      λ i. record { row = same_row i; first = same_first i; count = same_count i } ∷ same_runs ss ts css cts (all_right (IsSet b) (named_by x s) others set) rests i

pub only_these : NoOtherRunsDo 16
only_these x b R C rs n =
    let m = the_runs_name x b R C in
    same_runs x b R C rs (runs b R C) n.each m.each (subst (AllByRecursion (IsSet b)) (sym n.names) (changed_set x b R C)) (n.names ∙ sym m.names)
