-- A sheet: a head, a frame for each run of changed cells, and an end, each as a line.
use Rattle.std.specs.Prelude.{◌≡◌, ℕ, suc, ◌-◌, ◌^◌, ◌<◌, ◌≤◌, Bool, List, [], ◌∷◌, ◌++◌, length, ℤ, pos, negsuc, Some, None, Option}
use Rattle.std.specs.List.{flat_map}
use Rattle.frames.specs.Frames.{frame_line, two_bytes, four_bytes, over}
use Rattle.planes.specs.declared.plane.Plane as plane
use Rattle.planes.specs.declared.plane.Store as store
use Rattle.planes.specs.Planes.{Cells}
use Rattle.sheets.specs.declared.frame.Head.{Head}
use Rattle.sheets.specs.declared.runs.Run.{Run}
use Rattle.sheets.specs.Runs.{Named, named_by, changed_cells, runs_left, runs}

-- 01, issue, rows, columns, top, levels and the kernel's code
abbrev pub head_frame : Head → List ℕ
head_frame h = 1 ∷ (two_bytes h.issue ++ (two_bytes h.rows ++ (two_bytes h.columns ++ (two_bytes h.top ++ (h.levels ∷ h.code ∷ [])))))

-- a number of 32 bits in two's complement, high byte first
abbrev pub twos_complement : ℤ → ℕ
twos_complement (pos n) = n
twos_complement (negsuc n) = 2 ^ 32 - suc n

abbrev pub number_bytes : ℤ → List ℕ
number_bytes z = four_bytes (twos_complement z)

abbrev pub cell_bytes : Named → List ℕ
cell_bytes a = number_bytes a.number

-- 02, row, first column, count
abbrev pub run_head : Run → List ℕ
run_head run = 2 ∷ (two_bytes run.row ++ (two_bytes run.first ++ (run.count ∷ [])))

-- and the numbers of the cells that the run names
unfoldable pub run_frame : Cells ℤ → Run → List ℕ
run_frame x run = run_head run ++ flat_map cell_bytes (named_by x run)

abbrev pub run_line : Cells ℤ → Run → List ℕ
run_line x run = frame_line (run_frame x run)

-- 03, the number of cells
abbrev pub end_frame : ℕ → List ℕ
end_frame n = 3 ∷ four_bytes n

-- the lines of runs
unfoldable pub run_lines : Cells ℤ → List Run → List ℕ
run_lines x rs = flat_map (run_line x) rs

-- the sheet of R rows of C columns with the numbers x and the change bits b
unfoldable pub sheet_text : Head → ℕ → ℕ → Cells ℤ → Cells Bool → List ℕ
sheet_text h R C x b = frame_line (head_frame h) ++ (run_lines x (runs b R C) ++ frame_line (end_frame (length (changed_cells x b R C))))

-- of what a store holds: its changed cells, the lines of the runs that are left from column c of a row of C and of all rows, and its sheet
abbrev pub changed_of : {S : Type 0} → plane.Ghosts S → store.Ghosts S → S → List Named
changed_of a b s = changed_cells (a.picture s).number (b.bits s) (a.picture s).height (a.picture s).width

abbrev pub lines_left : {S : Type 0} → plane.Ghosts S → store.Ghosts S → S → ℕ → ℕ → ℕ → List ℕ
lines_left a b s r C c = run_lines (a.picture s).number (runs_left (b.bits s) r C c)

abbrev pub all_lines : {S : Type 0} → plane.Ghosts S → store.Ghosts S → S → List ℕ
all_lines a b s = run_lines (a.picture s).number (runs (b.bits s) (a.picture s).height (a.picture s).width)

abbrev pub sheet_of : {S : Type 0} → plane.Ghosts S → store.Ghosts S → S → Head → List ℕ
sheet_of a b s h = sheet_text h (a.picture s).height (a.picture s).width (a.picture s).number (b.bits s)

-- whether a text has room
abbrev pub HasRoom : List ℕ → ℕ → Option ℕ → Type 0
HasRoom text room None = room < length text
HasRoom text room (Some n) = length text ≤ room

-- a text is written into the front of a buffer, and its length answered; none is written where it is longer than the buffer
abbrev pub Writes : List ℕ → List ℕ → List ℕ → Option ℕ → Type 0
Writes text was now None = (length was < length text) × (now ≡ was)
Writes text was now (Some n) = (length text ≤ length was) × (n ≡ length text) × (now ≡ over was 0 text)
