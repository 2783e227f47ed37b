-- Planes that agree inside have the same sheet.
use Rattle.std.proofs.Common.{◌≡◌, ℕ, zero, suc, ◌+◌, ◌-◌, ◌<◌, ◌≤◌, Bool, true, false, cond, not, ◌||◌, eqb, [], ◌∷◌, ◌++◌, length, ℤ, sym, refl, ap, ◌∙◌, arith}
use Rattle.std.specs.Option.{option_to_list}
use Rattle.std.specs.List.{flat_map}
use Rattle.std.proofs.lemmas.Bool.{eqb-false}
use Rattle.planes.specs.Planes.{Cells}
use Rattle.frames.specs.Frames.{frame_line}
use Rattle.sheets.specs.declared.frame.Head.{Head}
use Rattle.sheets.specs.declared.runs.Part.{Part}
use Rattle.sheets.specs.declared.runs.Part.TheVariants.{Out, Inner, Last}
use Rattle.sheets.specs.declared.runs.Run.{Run}
use Rattle.sheets.specs.Runs.{changed_in_row, changed_cells, cells_from, is_cut, part, still_begun, ended, begun_before, row_runs, runs}
use Rattle.sheets.specs.Sheets.{head_frame, cell_bytes, run_head, run_frame, end_frame, run_lines, sheet_text}
use Rattle.sheets.proofs.Walking.{begun_within}
use Rattle.sheets.proofs.Framing.{lines_append}

-- bits that agree on a row of C columns
module _ (C : ℕ) (b d : ℕ → Bool) (same : (c : ℕ) → c < C → b c ≡ d c) where
  cut_alike : (g c : ℕ) → c < C → is_cut g b C c ≡ is_cut g d C c
  cut_alike g c h = ap (λ v. eqb g 15 || v) (by (eqb (c + 1) C) refl)
    where
      by : (u : Bool) → eqb (c + 1) C ≡ u → (u || not (b (c + 1))) ≡ (u || not (d (c + 1)))
      by true e = refl
      by false e = let l : c + 1 < C = omega (arith, eqb-false (c + 1) C e) in ap not (same (c + 1) l)

  part_alike : (g c : ℕ) → c < C → part g b C c ≡ part g d C c
  part_alike g c h = λ i. cond (same c h i) (cond (cut_alike g c h i) Last Inner) Out

  begun_alike : (c : ℕ) → c ≤ C → begun_before b C c ≡ begun_before d C c
  unfolding begun_before
  begun_alike zero h = refl
  begun_alike (suc c) h =
      ap (λ p. still_begun p (begun_before b C c)) (part_alike (begun_before b C c) c (omega arith))
      ∙ ap (λ g. still_begun (part g d C c) g) (begun_alike c (omega arith))

  row_runs_alike : (r c : ℕ) → c ≤ C → row_runs b r C c ≡ row_runs d r C c
  unfolding row_runs
  row_runs_alike r zero h = refl
  row_runs_alike r (suc c) h =
      ap (λ rs. rs ++ option_to_list (ended (part (begun_before b C c) b C c) r c (begun_before b C c))) (row_runs_alike r c (omega arith))
      ∙ ap (λ p. row_runs d r C c ++ option_to_list (ended p r c (begun_before b C c))) (part_alike (begun_before b C c) c (omega arith))
      ∙ ap (λ g. row_runs d r C c ++ option_to_list (ended (part g d C c) r c g)) (begun_alike c (omega arith))

no_runs_alike : (x y : Cells ℤ) → run_lines x [] ≡ run_lines y []
unfolding run_lines
no_runs_alike x y = refl

-- numbers that agree on row r of C columns
module _ (C r : ℕ) (x y : Cells ℤ) (same : (c : ℕ) → c < C → x r c ≡ y r c) where
  cells_alike : (c n : ℕ) → c + n ≤ C → cells_from x r c n ≡ cells_from y r c n
  unfolding cells_from
  cells_alike c zero h = refl
  cells_alike c (suc n) h =
      let l : c + n < C = omega arith in
      λ i. cells_alike c n (omega arith) i ++ (record { row = r; column = c + n; number = same (c + n) l i } ∷ [])

  ended_alike : (c g : ℕ) (p : Part) → c < C → g ≤ c → run_lines x (option_to_list (ended p r c g)) ≡ run_lines y (option_to_list (ended p r c g))
  unfolding run_lines run_frame
  ended_alike c g Out h k = refl
  ended_alike c g Inner h k = refl
  ended_alike c g Last h k =
      let run : Run = record { row = r; first = c - g; count = g + 1 } in
      ap (λ ns. frame_line (run_head run ++ flat_map cell_bytes ns) ++ []) (cells_alike (c - g) (g + 1) (omega arith))

  row_lines_alike : (b : ℕ → Bool) (c : ℕ) → c ≤ C → run_lines x (row_runs b r C c) ≡ run_lines y (row_runs b r C c)
  unfolding row_runs
  row_lines_alike b zero h = no_runs_alike x y
  row_lines_alike b (suc c) h =
      let g = begun_before b C c in
      let last = option_to_list (ended (part g b C c) r c g) in
      lines_append x (row_runs b r C c) last
      ∙ (λ i. row_lines_alike b c (omega arith) i ++ ended_alike c g (part g b C c) (omega arith) (begun_within b C c) i)
      ∙ sym (lines_append y (row_runs b r C c) last)

module _ (C : ℕ) (x y : Cells ℤ) (b d : Cells Bool) where
  lines_alike : (R : ℕ) → ((r c : ℕ) → r < R → c < C → x r c ≡ y r c) → ((r c : ℕ) → r < R → c < C → b r c ≡ d r c)
      → run_lines x (runs b R C) ≡ run_lines y (runs d R C)
  unfolding runs
  lines_alike zero numbers bits = no_runs_alike x y
  lines_alike (suc r) numbers bits =
      lines_append x (runs b r C) (row_runs (b r) r C C)
      ∙ ap (λ z. z ++ run_lines x (row_runs (b r) r C C)) (lines_alike r (λ i j h k. numbers i j (omega arith) k) (λ i j h k. bits i j (omega arith) k))
      ∙ ap (λ z. run_lines y (runs d r C) ++ z) (row_lines_alike C r x y (λ j k. numbers r j (omega arith) k) (b r) C (omega arith))
      ∙ ap (λ z. run_lines y (runs d r C) ++ run_lines y z) (row_runs_alike C (b r) (d r) (λ j k. bits r j (omega arith) k) r C (omega arith))
      ∙ sym (lines_append y (runs d r C) (row_runs (d r) r C C))

  changed_row_alike : (r c : ℕ) → c ≤ C → ((j : ℕ) → j < C → x r j ≡ y r j) → ((j : ℕ) → j < C → b r j ≡ d r j) → changed_in_row x b r c ≡ changed_in_row y d r c
  unfolding changed_in_row
  changed_row_alike r zero h numbers bits = refl
  changed_row_alike r (suc c) h numbers bits =
      λ i. changed_row_alike r c (omega arith) numbers bits i ++ cond (bits c (omega arith) i) (record { row = r; column = c; number = numbers c (omega arith) i } ∷ []) []

  changed_alike : (R : ℕ) → ((r c : ℕ) → r < R → c < C → x r c ≡ y r c) → ((r c : ℕ) → r < R → c < C → b r c ≡ d r c) → changed_cells x b R C ≡ changed_cells y d R C
  unfolding changed_cells
  changed_alike zero numbers bits = refl
  changed_alike (suc r) numbers bits =
      λ i. changed_alike r (λ m j h k. numbers m j (omega arith) k) (λ m j h k. bits m j (omega arith) k) i
      ++ changed_row_alike r C (omega arith) (λ j k. numbers r j (omega arith) k) (λ j k. bits r j (omega arith) k) i

pub sheets_alike : (h : Head) (R C : ℕ) (x y : Cells ℤ) (b d : Cells Bool) → ((r c : ℕ) → r < R → c < C → x r c ≡ y r c) → ((r c : ℕ) → r < R → c < C → b r c ≡ d r c)
    → sheet_text h R C x b ≡ sheet_text h R C y d
unfolding sheet_text
sheets_alike h R C x y b d numbers bits =
    λ i. frame_line (head_frame h) ++ (lines_alike C x y b d R numbers bits i ++ frame_line (end_frame (length (changed_alike C x y b d R numbers bits i))))
