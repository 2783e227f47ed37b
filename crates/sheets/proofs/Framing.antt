-- Frames and lines that are written part by part.
use Rattle.std.proofs.Common.{◌≡◌, ℕ, zero, suc, ◌+◌, ◌-◌, ◌*◌, ◌<◌, ◌≤◌, Bool, List, [], ◌∷◌, ◌++◌, length, take, ℤ, sym, refl, ap, ◌∙◌, subst, append_assoc, append-nil, add-zero, add_assoc, add-one, arith}
use Rattle.std.specs.List.{flat_map, AllByRecursion}
use Rattle.std.proofs.lemmas.List.{length-append, take_at}
use Rattle.std.proofs.lemmas.Grind.{flat_map-append}
use Rattle.planes.specs.Planes.{Cells}
use Rattle.frames.specs.Frames.{frame_line, over}
use Rattle.frames.proofs.Over.{over_none, over_next}
use Rattle.sheets.specs.declared.frame.Head.{Head}
use Rattle.sheets.specs.declared.runs.Run.{Run}
use Rattle.sheets.specs.Runs.{Inside, named, changed_cells, cells_from, named_by, row_runs, runs}
use Rattle.sheets.specs.Sheets.{head_frame, number_bytes, cell_bytes, run_head, run_frame, run_line, end_frame, run_lines, sheet_text}
use Rattle.sheets.proofs.Walking.{runs_more}
use Rattle.sheets.proofs.Naming.{cells_more, cells_none}
use Rattle.sheets.specs.Laws.{CutAsRuled}
use Rattle.sheets.proofs.Only.{all_right}
use Rattle.sheets.proofs.Sizes.{length_bytes, length_cells, length_run_frame, length_run_line, one_more, all_done}

-- a frame with the head of a run, and then the numbers of its first n cells
module _ (x : Cells ℤ) (r c : ℕ) where
  pub bytes_none : (frame : List ℕ) → frame ≡ over frame 6 (flat_map cell_bytes (cells_from x r c 0))
  bytes_none frame = over_none frame 6 ∙ ap (λ z. over frame 6 (flat_map cell_bytes z)) (sym (cells_none x r c))

  pub bytes_more : (was frame bytes : List ℕ) (n : ℕ) → 6 ≤ length was → frame ≡ over was 6 (flat_map cell_bytes (cells_from x r c n)) → bytes ≡ number_bytes (x r (c + n))
      → over frame (6 + 4 * n) bytes ≡ over was 6 (flat_map cell_bytes (cells_from x r c (n + 1)))
  bytes_more was frame bytes n h e f =
      let so_far = flat_map cell_bytes (cells_from x r c n) in
      (λ i. over (e i) (6 + 4 * n) (f i))
      ∙ over_next was 6 (6 + 4 * n) so_far (number_bytes (x r (c + n))) h (omega (arith, length_bytes (cells_from x r c n), length_cells x r c n))
      ∙ ap (over was 6) (sym (ap (flat_map cell_bytes) (cells_more x r c n) ∙ flat_map-append cell_bytes (cells_from x r c n) (named x r (c + n) ∷ [])))

pub bytes_all : (x : Cells ℤ) (run : Run) (was head frame bytes : List ℕ) (n : ℕ) → n ≡ run.count → 0 ≤ length was → bytes ≡ run_head run → head ≡ over was 0 bytes
    → frame ≡ over head 6 (flat_map cell_bytes (cells_from x run.row run.first n)) → frame ≡ over was 0 (run_frame x run)
unfolding run_frame
bytes_all x run was head frame bytes n e h f a b =
    b
    ∙ (λ i. over (a i) 6 (flat_map cell_bytes (cells_from x run.row run.first (e i))))
    ∙ ap (λ z. over (over was 0 z) 6 (flat_map cell_bytes (named_by x run))) f
    ∙ over_next was 0 6 (run_head run) (flat_map cell_bytes (named_by x run)) h refl

-- the front of a buffer that the frame of a run was put over
pub front_run : (x : Cells ℤ) (run : Run) (was frame : List ℕ) (n : ℕ) → n ≡ 6 + 4 * run.count → frame ≡ over was 0 (run_frame x run) → take n frame ≡ run_frame x run
unfolding over
front_run x run was frame n e f = ap (take n) f ∙ take_at (run_frame x run) _ n (length_run_frame x run ∙ sym e)

-- the lines of one run
one_line : (x : Cells ℤ) (run : Run) → run_lines x (run ∷ []) ≡ run_line x run
unfolding run_lines
one_line x run = append-nil (run_line x run)

pub lines_append : (x : Cells ℤ) (rs ss : List Run) → run_lines x (rs ++ ss) ≡ run_lines x rs ++ run_lines x ss
unfolding run_lines
lines_append x rs ss = flat_map-append (run_line x) rs ss

-- numbers that never fall
rising : (f : ℕ → ℕ) → ((n : ℕ) → f n ≤ f (n + 1)) → (n k : ℕ) → f n ≤ f (n + k)
rising f h n zero = omega (arith, ap f (add-zero n))
rising f h n (suc k) = omega (arith, rising f h n k, h (n + k), ap f (add_assoc n k 1), ap (λ z. f (n + z)) (add-one k))

-- A loop has written the lines of all runs but those that are left.
pub record Written (x : Cells ℤ) (all done left : List Run) (was out : List ℕ) (start at : ℕ) : Type 0 where
  pub split : done ++ left ≡ all
  pub out_is : out ≡ over was start (run_lines x done)
  pub at_is : at ≡ start + length (run_lines x done)

module _ (x : Cells ℤ) (all : List Run) (was : List ℕ) (start : ℕ) where
  pub written_none : (left : List Run) → left ≡ all → Written x all [] left was was start start
  unfolding run_lines
  written_none left e = record { split = e; out_is = over_none was start; at_is = omega arith }

  -- one run more
  module _ (done left left' : List Run) (run : Run) (at : ℕ) (out : List ℕ) (w : Written x all done left was out start at) (e : left ≡ run ∷ left') where
    longer : run_lines x (done ++ run ∷ []) ≡ run_lines x done ++ run_line x run
    longer = lines_append x done (run ∷ []) ∙ ap (λ z. run_lines x done ++ z) (one_line x run)

    length_longer : length (run_lines x (done ++ run ∷ [])) ≡ length (run_lines x done) + (15 + 8 * run.count)
    length_longer = ap length longer ∙ length-append (run_lines x done) (run_line x run) ∙ ap (λ n. length (run_lines x done) + n) (length_run_line x run)

    pub written_more : start ≤ length was → (out' : List ℕ) (at' : ℕ) → out' ≡ over out at (run_line x run) → at' ≡ at + (15 + 8 * run.count) → Written x all (done ++ run ∷ []) left' was out' start at'
    written_more h out' at' f k = record {
      split = one_more all done left left' run w.split e;
      out_is = f ∙ ap (λ z. over z at (run_line x run)) w.out_is ∙ over_next was start at (run_lines x done) (run_line x run) h w.at_is ∙ ap (over was start) (sym longer);
      at_is = omega (arith, k, w.at_is, length_longer);
    }

    pub room_for_the_run : start + length (run_lines x all) ≤ length was → at + (15 + 8 * run.count) ≤ length was
    room_for_the_run h =
        omega (
          arith,
          w.at_is,
          length_longer,
          ap (λ z. length (run_lines x z)) (one_more all done left left' run w.split e),
          ap length (lines_append x (done ++ run ∷ []) left'),
          length-append (run_lines x (done ++ run ∷ [])) (run_lines x left'),
        )

    pub is_one_of_them : (P : Run → Type 0) → AllByRecursion P all → P run
    is_one_of_them P a = (all_right P done (run ∷ left') (subst (AllByRecursion P) (sym (ap (λ z. done ++ z) (sym e) ∙ w.split)) a)).0

  pub written_all : (done left : List Run) (at : ℕ) (out : List ℕ) → Written x all done left was out start at → left ≡ [] → (out ≡ over was start (run_lines x all)) × (at ≡ start + length (run_lines x all))
  written_all done left at out w e =
      let d = all_done all done left w.split e in
      (w.out_is ∙ ap (λ z. over was start (run_lines x z)) d, w.at_is ∙ ap (λ z. start + length (run_lines x z)) d)

-- a run of a row lies inside
pub inside : (b : Cells Bool) (R C : ℕ) (run : Run) → CutAsRuled 16 b R C run → Inside R C run
inside b R C run h = record { in_a_row = h.in_a_row; in_its_columns = h.in_its_columns; at_most_sixteen = h.not_longer }

-- A loop has written the lines of the first r rows.
pub record WrittenRows (x : Cells ℤ) (b : Cells Bool) (C r : ℕ) (was out : List ℕ) (start at : ℕ) : Type 0 where
  pub out_is : out ≡ over was start (run_lines x (runs b r C))
  pub at_is : at ≡ start + length (run_lines x (runs b r C))

module _ (x : Cells ℤ) (b : Cells Bool) (C : ℕ) (was : List ℕ) (start : ℕ) where
  pub rows_none : WrittenRows x b C 0 was was start start
  unfolding runs run_lines
  rows_none = record { out_is = over_none was start; at_is = omega arith }

  row_longer : (r : ℕ) → run_lines x (runs b (r + 1) C) ≡ run_lines x (runs b r C) ++ run_lines x (row_runs (b r) r C C)
  row_longer r = ap (run_lines x) (runs_more b C r) ∙ lines_append x (runs b r C) (row_runs (b r) r C C)

  length_row_longer : (r : ℕ) → length (run_lines x (runs b (r + 1) C)) ≡ length (run_lines x (runs b r C)) + length (run_lines x (row_runs (b r) r C C))
  length_row_longer r = ap length (row_longer r) ∙ length-append (run_lines x (runs b r C)) (run_lines x (row_runs (b r) r C C))

  pub room_for_the_row : (r R at : ℕ) (out : List ℕ) → r < R → WrittenRows x b C r was out start at → start + length (run_lines x (runs b R C)) ≤ length was
      → at + length (run_lines x (row_runs (b r) r C C)) ≤ length was
  room_for_the_row r R at out h w k =
      let end : r + 1 + (R - (r + 1)) ≡ R = omega arith in
      omega (arith, w.at_is, length_row_longer r, rising (λ n. length (run_lines x (runs b n C))) grows (r + 1) (R - (r + 1)), ap (λ n. length (run_lines x (runs b n C))) end)
    where
      grows : (n : ℕ) → length (run_lines x (runs b n C)) ≤ length (run_lines x (runs b (n + 1) C))
      grows n = omega (arith, length_row_longer n)

  pub rows_more : (r at at' : ℕ) (out out' : List ℕ) → start ≤ length was → WrittenRows x b C r was out start at → out' ≡ over out at (run_lines x (row_runs (b r) r C C))
      → at' ≡ at + length (run_lines x (row_runs (b r) r C C)) → WrittenRows x b C (r + 1) was out' start at'
  rows_more r at at' out out' h w f k = record {
    out_is = f
        ∙ ap (λ z. over z at (run_lines x (row_runs (b r) r C C))) w.out_is
        ∙ over_next was start at (run_lines x (runs b r C)) (run_lines x (row_runs (b r) r C C)) h w.at_is
        ∙ ap (over was start) (sym (row_longer r));
    at_is = omega (arith, k, w.at_is, length_row_longer r);
  }

  pub rows_all : (R r at : ℕ) (out : List ℕ) → r ≡ R → WrittenRows x b C r was out start at
      → (out ≡ over was start (run_lines x (runs b R C))) × (at ≡ start + length (run_lines x (runs b R C)))
  rows_all R r at out e w = (w.out_is ∙ ap (λ n. over was start (run_lines x (runs b n C))) e, w.at_is ∙ ap (λ n. start + length (run_lines x (runs b n C))) e)

-- A whole sheet: the head's line, the lines of the runs and the end's line, one behind the other.
pub sheet_written : (h : Head) (R C : ℕ) (x : Cells ℤ) (b : Cells Bool) (was one two three head end : List ℕ) (at next cells : ℕ)
    → head ≡ head_frame h → end ≡ end_frame cells → cells ≡ length (changed_cells x b R C)
    → one ≡ over was 0 (frame_line head) → at ≡ length (frame_line head)
    → two ≡ over one at (run_lines x (runs b R C)) → next ≡ at + length (run_lines x (runs b R C))
    → three ≡ over two next (frame_line end) → three ≡ over was 0 (sheet_text h R C x b)
unfolding sheet_text
sheet_written h R C x b was one two three head end at next cells he ee ce e a f n g =
    let lines = run_lines x (runs b R C) in
    g
    ∙ ap (λ z. over z next (frame_line end)) (f ∙ ap (λ z. over z at lines) e ∙ over_next was 0 at (frame_line head) lines (omega arith) (omega (arith, a)))
    ∙ over_next was 0 next (frame_line head ++ lines) (frame_line end) (omega arith) (omega (arith, n, a, length-append (frame_line head) lines))
    ∙ ap (over was 0) (append_assoc (frame_line head) lines (frame_line end))
    ∙ (λ i. over was 0 (frame_line (he i) ++ (lines ++ frame_line ((ee ∙ ap end_frame ce) i))))
