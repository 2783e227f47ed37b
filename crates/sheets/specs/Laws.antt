-- What the runs of a sheet are, in their own words, and how long a sheet is.
use Rattle.std.specs.Prelude.{◌≡◌, ℕ, ◌+◌, ◌*◌, ◌<◌, ◌≤◌, Bool, false, ◌⊎◌, List, length, ℤ}
use Rattle.std.specs.List.{flat_map, AllByRecursion}
use Rattle.planes.specs.Planes.{Cells}
use Rattle.sheets.specs.declared.frame.Head.{Head}
use Rattle.sheets.specs.declared.runs.Run.{Run}
use Rattle.sheets.specs.Runs.{named_by, changed_cells, runs}
use Rattle.sheets.specs.Sheets.{sheet_text}

-- A run lies in a row and has 1 to `most` cells; it has `most`, or ends where its row ends or where the next bit is unset.
pub record CutAsRuled (most : ℕ) (b : Cells Bool) (R C : ℕ) (run : Run) : Type 0 where
  pub in_a_row : run.row < R
  pub in_its_columns : run.first + run.count ≤ C
  pub not_empty : 1 ≤ run.count
  pub not_longer : run.count ≤ most
  pub cut : (run.count ≡ most) ⊎ ((run.first + run.count ≡ C) ⊎ (b run.row (run.first + run.count) ≡ false))

-- A list of runs names exactly the cells whose bits are set, each once and with its number, row by row from left to right; and each run is
-- cut as ruled.
pub record NamesTheChangedCells (most : ℕ) (x : Cells ℤ) (b : Cells Bool) (R C : ℕ) (rs : List Run) : Type 0 where
  pub names : flat_map (named_by x) rs ≡ changed_cells x b R C
  pub each : AllByRecursion (CutAsRuled most b R C) rs

abbrev pub TheRunsNameTheChangedCells : ℕ → Type 0
TheRunsNameTheChangedCells most = (x : Cells ℤ) (b : Cells Bool) (R C : ℕ) → NamesTheChangedCells most x b R C (runs b R C)

-- And no other list of runs does.
abbrev pub NoOtherRunsDo : ℕ → Type 0
NoOtherRunsDo most = (x : Cells ℤ) (b : Cells Bool) (R C : ℕ) (rs : List Run) → NamesTheChangedCells most x b R C rs → rs ≡ runs b R C

-- A sheet has so many bytes, and more for each run and for each cell.
abbrev pub ASheetHas : ℕ → ℕ → ℕ → Type 0
ASheetHas bytes by_run by_cell =
    (h : Head) (R C : ℕ) (x : Cells ℤ) (b : Cells Bool)
    → length (sheet_text h R C x b) ≡ bytes + by_run * length (runs b R C) + by_cell * length (changed_cells x b R C)
