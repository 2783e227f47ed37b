-- How many runs and cells there are, and how long their lines are.
use Rattle.std.proofs.Common.{◌≡◌, ℕ, zero, suc, ◌+◌, ◌-◌, ◌*◌, ◌^◌, ◌<◌, ◌≤◌, Bool, true, false, cond, List, [], ◌∷◌, ◌++◌, length, ℤ, sym, refl, ap, ◌∙◌, append_assoc, append-nil, suc-mul, add-one, arith}
use Rattle.std.specs.List.{flat_map, AllByRecursion}
use Rattle.std.proofs.lemmas.List.{length-append}
use Rattle.std.proofs.lemmas.Grind.{flat_map-append}
use Rattle.planes.specs.Planes.{Cells}
use Rattle.frames.specs.Frames.{frame_line}
use Rattle.frames.proofs.Over.{length_line}
use Rattle.sheets.specs.declared.frame.Head.{Head}
use Rattle.sheets.specs.declared.runs.Run.{Run}
use Rattle.sheets.specs.Runs.{Named, named, changed_in_row, changed_cells, cells_from, named_by, part, still_begun, ended, begun_before, row_runs, runs_left, runs}
use Rattle.sheets.specs.Sheets.{head_frame, cell_bytes, run_head, run_frame, run_line, end_frame, run_lines, sheet_text}
use Rattle.sheets.specs.Laws.{CutAsRuled, ASheetHas}
use Rattle.sheets.proofs.Walking.{runs_more, with_the_left}
use Rattle.sheets.proofs.Naming.{row_names, runs_name, left_cut, the_runs_name}

pub length_cells : (x : Cells ℤ) (r c n : ℕ) → length (cells_from x r c n) ≡ n
unfolding cells_from
length_cells x r c zero = refl
length_cells x r c (suc n) = length-append (cells_from x r c n) (named x r (c + n) ∷ []) ∙ omega (arith, length_cells x r c n)

pub length_bytes : (ns : List Named) → length (flat_map cell_bytes ns) ≡ 4 * length ns
length_bytes [] = refl
length_bytes (a ∷ ns) = let e = length_bytes ns in omega arith

pub length_run_frame : (x : Cells ℤ) (run : Run) → length (run_frame x run) ≡ 6 + 4 * run.count
unfolding run_frame
length_run_frame x run =
    length-append (run_head run) (flat_map cell_bytes (named_by x run)) ∙ omega (arith, length_bytes (named_by x run), length_cells x run.row run.first run.count)

pub length_run_line : (x : Cells ℤ) (run : Run) → length (run_line x run) ≡ 15 + 8 * run.count
length_run_line x run = length_line (run_frame x run) ∙ omega (arith, length_run_frame x run)

-- the lines of runs have 15 bytes for each run and 8 for each cell
pub length_run_lines : (x : Cells ℤ) (rs : List Run) → length (run_lines x rs) ≡ 15 * length rs + 8 * length (flat_map (named_by x) rs)
unfolding run_lines
length_run_lines x [] = refl
length_run_lines x (run ∷ rs) =
    length-append (run_line x run) (flat_map (run_line x) rs)
    ∙ omega (arith, length_run_line x run, length_run_lines x rs, length_cells x run.row run.first run.count, length-append (named_by x run) (flat_map (named_by x) rs))

-- no more cells than places, and no more runs than cells
changed_at_most : (x : Cells ℤ) (b : Cells Bool) (r c : ℕ) → length (changed_in_row x b r c) ≤ c
unfolding changed_in_row
changed_at_most x b r zero = omega arith
changed_at_most x b r (suc c) = omega (arith, length-append (changed_in_row x b r c) (cond (b r c) (named x r c ∷ []) []), changed_at_most x b r c, one (b r c))
  where
    one : (v : Bool) → length (cond v (named x r c ∷ []) []) ≤ 1
    one true = omega arith
    one false = omega arith

pub cells_at_most : (x : Cells ℤ) (b : Cells Bool) (R C : ℕ) → length (changed_cells x b R C) ≤ R * C
unfolding changed_cells
cells_at_most x b zero C = omega arith
cells_at_most x b (suc r) C = rw (suc-mul r C) (omega (arith, length-append (changed_cells x b r C) (changed_in_row x b r C), cells_at_most x b r C, changed_at_most x b r C))

pub changed_more : (x : Cells ℤ) (b : Cells Bool) (C r : ℕ) → changed_cells x b (r + 1) C ≡ changed_cells x b r C ++ changed_in_row x b r C
unfolding changed_cells
changed_more x b C r = ap (λ n. changed_cells x b n C) (add-one r)

few_runs : (x : Cells ℤ) (b : Cells Bool) (R C : ℕ) (rs : List Run) → AllByRecursion (CutAsRuled 16 b R C) rs → length rs ≤ length (flat_map (named_by x) rs)
few_runs x b R C [] a = omega arith
few_runs x b R C (run ∷ rs) (h, a) =
    omega (arith, h.not_empty, few_runs x b R C rs a, length_cells x run.row run.first run.count, length-append (named_by x run) (flat_map (named_by x) rs))

pub runs_at_most : (x : Cells ℤ) (b : Cells Bool) (R C : ℕ) → length (runs b R C) ≤ length (changed_cells x b R C)
runs_at_most x b R C = omega (arith, few_runs x b R C (runs b R C) (the_runs_name x b R C).each, ap length (runs_name x b R C))

-- how long the lines of all runs are, and a sheet
pub length_all_lines : (x : Cells ℤ) (b : Cells Bool) (R C : ℕ) → length (run_lines x (runs b R C)) ≡ 15 * length (runs b R C) + 8 * length (changed_cells x b R C)
length_all_lines x b R C = length_run_lines x (runs b R C) ∙ omega (arith, ap length (runs_name x b R C))

pub length_parts : (h : Head) (R C : ℕ) (x : Cells ℤ) (b : Cells Bool) → length (sheet_text h R C x b) ≡ 25 + length (run_lines x (runs b R C)) + 13
unfolding sheet_text
length_parts h R C x b =
    let lines = run_lines x (runs b R C) in
    let end = frame_line (end_frame (length (changed_cells x b R C))) in
    length-append (frame_line (head_frame h)) (lines ++ end)
    ∙ omega (arith, length_line (head_frame h), length-append lines end, length_line (end_frame (length (changed_cells x b R C))))

pub length_sheet : ASheetHas 38 15 8
length_sheet h R C x b = length_parts h R C x b ∙ omega (arith, length_all_lines x b R C)

-- a sheet of R × C places has at most 38 + 23 × R × C bytes
pub length_at_most : (h : Head) (R C : ℕ) (x : Cells ℤ) (b : Cells Bool) → length (sheet_text h R C x b) ≤ 38 + 23 * (R * C)
length_at_most h R C x b = omega (arith, length_sheet h R C x b, runs_at_most x b R C, cells_at_most x b R C)

-- a loop over runs, of which some are done and some are left
pub one_more : (all done left left' : List Run) (run : Run) → done ++ left ≡ all → left ≡ run ∷ left' → (done ++ run ∷ []) ++ left' ≡ all
one_more all done left left' run s e = append_assoc done (run ∷ []) left' ∙ ap (λ z. done ++ z) (sym e) ∙ s

pub all_done : (all done left : List Run) → done ++ left ≡ all → left ≡ [] → done ≡ all
all_done all done left s e = sym (append-nil done) ∙ ap (λ z. done ++ z) (sym e) ∙ s

-- A loop has counted all runs but those that are left.
pub record Counted (x : Cells ℤ) (all done left : List Run) (runs cells : ℕ) : Type 0 where
  pub split : done ++ left ≡ all
  pub runs_are : runs ≡ length done
  pub cells_are : cells ≡ length (flat_map (named_by x) done)

module _ (x : Cells ℤ) (all : List Run) where
  -- one run more
  pub counted_more : (done left left' : List Run) (run : Run) (runs cells runs' cells' : ℕ) → Counted x all done left runs cells → left ≡ run ∷ left'
      → runs' ≡ runs + 1 → cells' ≡ cells + run.count → Counted x all (done ++ run ∷ []) left' runs' cells'
  counted_more done left left' run runs cells runs' cells' p e f k = record {
    split = one_more all done left left' run p.split e;
    runs_are = omega (arith, f, p.runs_are, length-append done (run ∷ []));
    cells_are = omega (
      arith,
      k,
      p.cells_are,
      ap length (flat_map-append (named_by x) done (run ∷ [])),
      length-append (flat_map (named_by x) done) (named_by x run ++ []),
      length-append (named_by x run) [],
      length_cells x run.row run.first run.count,
    );
  }

-- and those that are left of a row are few
module _ (x : Cells ℤ) (b : Cells Bool) (C r c : ℕ) (done left : List Run) (runs cells : ℕ) (p : Counted x (runs_left b r C c) done left runs cells) where
  pub counted_few : c ≤ C → (runs ≤ C) × (cells ≤ C)
  counted_few h =
      let all = runs_left b r C c in
      let ended = row_runs (b r) r C c in
      let runs_few : length all ≤ length (flat_map (named_by x) all) = few_runs x b (suc r) C all (left_cut b (suc r) C r (omega arith) c h) in
      let row : length (flat_map (named_by x) ended) + length (flat_map (named_by x) all) ≡ length (changed_in_row x b r C) =
      sym (ap length (flat_map-append (named_by x) ended all) ∙ length-append (flat_map (named_by x) ended) (flat_map (named_by x) all))
      ∙ ap (λ z. length (flat_map (named_by x) z)) (with_the_left b r C c h) ∙ ap length (row_names x b C r) in
      let cells_few : length (flat_map (named_by x) all) ≤ C = omega (arith, row, changed_at_most x b r C) in
      let runs_all : length all ≡ length done + length left = ap length (sym p.split) ∙ length-append done left in
      let cells_all : length (flat_map (named_by x) all) ≡ length (flat_map (named_by x) done) + length (flat_map (named_by x) left) =
      ap (λ z. length (flat_map (named_by x) z)) (sym p.split) ∙ ap length (flat_map-append (named_by x) done left) ∙ length-append (flat_map (named_by x) done) (flat_map (named_by x) left) in
      (omega (arith, p.runs_are), omega (arith, p.cells_are))

  pub counted_all : left ≡ [] → (runs ≡ length (runs_left b r C c)) × (cells ≡ length (flat_map (named_by x) (runs_left b r C c)))
  counted_all e =
      let all : done ≡ runs_left b r C c = all_done (runs_left b r C c) done left p.split e in
      (p.runs_are ∙ ap length all, p.cells_are ∙ ap (λ z. length (flat_map (named_by x) z)) all)

-- So many rows are passed, none of more than 2^64 − 1 runs or cells.
pub record PassedRows (x : Cells ℤ) (b : Cells Bool) (C r runs cells : ℕ) : Type 0 where
  pub runs_are : runs ≡ length (Rattle.sheets.specs.Runs.runs b r C)
  pub cells_are : cells ≡ length (changed_cells x b r C)
  pub runs_few : runs ≤ (2 ^ 64 - 1) * r
  pub cells_few : cells ≤ (2 ^ 64 - 1) * r

module _ (x : Cells ℤ) (b : Cells Bool) (C : ℕ) where
  pub rows_none : PassedRows x b C 0 0 0
  unfolding runs changed_cells
  rows_none = record { runs_are = refl; cells_are = refl; runs_few = omega arith; cells_few = omega arith }

  pub rows_more : (r k l m n : ℕ) → PassedRows x b C r k l → m ≡ length (row_runs (b r) r C C) → n ≡ length (changed_in_row x b r C) → m < 2 ^ 64 → n < 2 ^ 64 → PassedRows x b C (r + 1) (k + m) (l + n)
  rows_more r k l m n p e f few_runs few_cells = record {
    runs_are = omega (arith, p.runs_are, ap length (runs_more b C r), length-append (runs b r C) (row_runs (b r) r C C));
    cells_are = omega (arith, p.cells_are, ap length (changed_more x b C r), length-append (changed_cells x b r C) (changed_in_row x b r C));
    runs_few = omega (arith, p.runs_few, few_runs);
    cells_few = omega (arith, p.cells_few, few_cells);
  }

  pub rows_all : (R r k l : ℕ) → r ≡ R → PassedRows x b C r k l → (k ≡ length (runs b R C)) × (l ≡ length (changed_cells x b R C))
  rows_all R r k l e p = (p.runs_are ∙ ap (λ n. length (runs b n C)) e, p.cells_are ∙ ap (λ n. length (changed_cells x b n C)) e)
