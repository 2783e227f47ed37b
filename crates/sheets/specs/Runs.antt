-- The cells whose change bits are set, row by row, and the runs that name them.
use Rattle.std.specs.Prelude.{ℕ, zero, suc, ◌+◌, ◌-◌, ◌<◌, ◌≤◌, Bool, cond, not, ◌||◌, List, [], ◌∷◌, ◌++◌, ℤ, Some, None, Option, ◌==◌}
use Rattle.std.specs.Option.{option_to_list}
use Rattle.planes.specs.Planes.{Cells}
use Rattle.sheets.specs.declared.runs.Part.{Part}
use Rattle.sheets.specs.declared.runs.Part.TheVariants.{Out, Inner, Last}
use Rattle.sheets.specs.declared.runs.Run.{Run}

-- A cell with its place and its number.
pub record Named : Type 0 where
  pub row : ℕ
  pub column : ℕ
  pub number : ℤ

abbrev pub named : Cells ℤ → ℕ → ℕ → Named
named x r c = record { row = r; column = c; number = x r c }

-- The cells of the first columns of a row whose bits are set.
unfoldable pub changed_in_row : Cells ℤ → Cells Bool → ℕ → ℕ → List Named
changed_in_row x b r zero = []
changed_in_row x b r (suc c) = changed_in_row x b r c ++ cond (b r c) (named x r c ∷ []) []

-- Those of the first rows, of C columns each: row by row, from left to right.
unfoldable pub changed_cells : Cells ℤ → Cells Bool → ℕ → ℕ → List Named
changed_cells x b zero C = []
changed_cells x b (suc r) C = changed_cells x b r C ++ changed_in_row x b r C

-- n cells of a row from a column on, and those that a run names.
unfoldable pub cells_from : Cells ℤ → ℕ → ℕ → ℕ → List Named
cells_from x r c zero = []
cells_from x r c (suc n) = cells_from x r c n ++ (named x r (c + n) ∷ [])

abbrev pub named_by : Cells ℤ → Run → List Named
named_by x run = cells_from x run.row run.first run.count

-- A run inside a plane of the height H and the width W, of at most 16 cells.
pub record Inside (H W : ℕ) (run : Run) : Type 0 where
  pub in_a_row : run.row < H
  pub in_its_columns : run.first + run.count ≤ W
  pub at_most_sixteen : run.count ≤ 16

-- A run of which `begun` cells lie before column c is cut behind that column: after 16 cells, at the row's end, and at an unset bit.
abbrev pub is_cut : ℕ → (ℕ → Bool) → ℕ → ℕ → Bool
is_cut begun b C c = begun == 15 || (c + 1 == C || not (b (c + 1)))

-- What the cell at column c is to the runs of its row.
abbrev pub part : ℕ → (ℕ → Bool) → ℕ → ℕ → Part
part begun b C c = cond (b c) (cond (is_cut begun b C c) Last Inner) Out

-- How many cells of a run lie before the next column, and the run that ends at this one, if one does.
abbrev pub still_begun : Part → ℕ → ℕ
still_begun Out begun = 0
still_begun Inner begun = begun + 1
still_begun Last begun = 0

abbrev pub ended : Part → ℕ → ℕ → ℕ → Option Run
ended Out r c begun = None
ended Inner r c begun = None
ended Last r c begun = Some (record { row = r; first = c - begun; count = begun + 1 })

-- How many cells of a run that goes on lie before column c of a row of C columns.
unfoldable pub begun_before : (ℕ → Bool) → ℕ → ℕ → ℕ
begun_before b C zero = 0
begun_before b C (suc c) = still_begun (part (begun_before b C c) b C c) (begun_before b C c)

-- The runs of a row that end before column c.
unfoldable pub row_runs : (ℕ → Bool) → ℕ → ℕ → ℕ → List Run
row_runs b r C zero = []
row_runs b r C (suc c) = row_runs b r C c ++ option_to_list (ended (part (begun_before b C c) b C c) r c (begun_before b C c))

-- Those that end at column c or at one of the n - 1 behind it, and those that end at c or at any behind it.
unfoldable pub runs_from : (ℕ → Bool) → ℕ → ℕ → ℕ → ℕ → List Run
runs_from b r C c zero = []
runs_from b r C c (suc n) = option_to_list (ended (part (begun_before b C c) b C c) r c (begun_before b C c)) ++ runs_from b r C (c + 1) n

abbrev pub runs_left : Cells Bool → ℕ → ℕ → ℕ → List Run
runs_left b r C c = runs_from (b r) r C c (C - c)

-- The runs of the first rows, of C columns each.
unfoldable pub runs : Cells Bool → ℕ → ℕ → List Run
runs b zero C = []
runs b (suc r) C = runs b r C ++ row_runs (b r) r C C
