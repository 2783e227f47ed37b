-- The plain plate above its steps: what its picture and its bits are, by a whole list of calls and their verdicts.
use Rattle.std.specs.Prelude.{◌≡◌, ℕ, Bool, true, false, cond, not, ◌||◌, List, [], ◌∷◌, pos, is_some, Some, None, Option}
use Rattle.planes.specs.declared.rectangle.Rectangle.{Rectangle}
use Rattle.wavelets.specs.Lifting.{Amounts, Cells, Plane}
use Rattle.model.specs.declared.plan.Plan.{Plan}
use Rattle.model.specs.Calls.{Numbers, Call, laying, leasing, settling, surrendering, recalling, previewing, reading, clearing}
use Rattle.model.specs.Plain.{Setting, Plain, fresh, why, after, pictured, replaced, cone, plan_or_none, rectangle_or_none}

-- A history is a list of calls, the newest first. The plain plate after it:
abbrev pub after_history : Setting → List Call → Plain
after_history s [] = fresh s
after_history s (c ∷ h) = after s (after_history s h) c

-- Its calls with their verdicts: whether each was accepted.
abbrev pub verdicts : Setting → List Call → List (Call × Bool)
verdicts s [] = []
verdicts s (c ∷ h) = (c, not (is_some (why s (after_history s h) c))) ∷ verdicts s h

-- The rectangle of the newest accepted leasing.
abbrev pub leased_by : Call → Bool → Rectangle → Rectangle
leased_by (laying q xs) ok a = a
leased_by (leasing b) ok a = cond ok b a
leased_by (settling plate serial xs records) ok a = a
leased_by (surrendering plate serial) ok a = a
leased_by recalling ok a = a
leased_by (previewing card b records room) ok a = a
leased_by (reading card row column) ok a = a
leased_by clearing ok a = a

abbrev pub last_leased : List (Call × Bool) → Rectangle
last_leased [] = rectangle_or_none None
last_leased (v ∷ h) = leased_by v.0 v.1 (last_leased h)

-- What an accepted call does to the picture and the bits.
pub data Deed : Type 0 where
  laid : Plan → Numbers → Deed
  edited : Rectangle → Numbers → Deed
  cleared : Deed
  nothing : Deed

-- A settlement edits the rectangle that was last leased before it.
abbrev pub deed : Call → Bool → Rectangle → Deed
deed (laying q xs) ok a = cond ok (laid q xs) nothing
deed (leasing b) ok a = nothing
deed (settling plate serial xs records) ok a = cond ok (edited a xs) nothing
deed (surrendering plate serial) ok a = nothing
deed recalling ok a = nothing
deed (previewing card b records room) ok a = nothing
deed (reading card row column) ok a = nothing
deed clearing ok a = cond ok cleared nothing

abbrev pub deeds : List (Call × Bool) → List Deed
deeds [] = []
deeds (v ∷ h) = deed v.0 v.1 (last_leased h) ∷ deeds h

abbrev pub is_laying : Deed → Bool
is_laying (laid q xs) = true
is_laying (edited a xs) = false
is_laying cleared = false
is_laying nothing = false

abbrev pub is_clearing : Deed → Bool
is_clearing (laid q xs) = false
is_clearing (edited a xs) = false
is_clearing cleared = true
is_clearing nothing = false

-- The deeds that are newer than the newest which passes a test.
abbrev pub since : (Deed → Bool) → List Deed → List Deed
since test [] = []
since test (d ∷ ds) = cond (test d) [] (d ∷ since test ds)

-- Whether one passes.
abbrev pub some : (Deed → Bool) → List Deed → Bool
some test [] = false
some test (d ∷ ds) = test d || some test ds

-- The plan and the picture last laid.
abbrev pub last_plan : List Deed → Option Plan
last_plan [] = None
last_plan (laid q xs ∷ ds) = Some q
last_plan (edited a xs ∷ ds) = last_plan ds
last_plan (cleared ∷ ds) = last_plan ds
last_plan (nothing ∷ ds) = last_plan ds

abbrev pub last_picture : List Deed → Plane
last_picture [] = λ r c. pos 0
last_picture (laid q xs ∷ ds) = pictured q xs
last_picture (edited a xs ∷ ds) = last_picture ds
last_picture (cleared ∷ ds) = last_picture ds
last_picture (nothing ∷ ds) = last_picture ds

-- A picture with the rectangle of each edit replaced in turn, the oldest first.
abbrev pub with_edits : List Deed → Plane → Plane
with_edits [] x = x
with_edits (laid q xs ∷ ds) x = with_edits ds x
with_edits (edited a xs ∷ ds) x = replaced a xs (with_edits ds x)
with_edits (cleared ∷ ds) x = with_edits ds x
with_edits (nothing ∷ ds) x = with_edits ds x

-- The edited picture: the one last laid, with the rectangle of each settlement accepted since replaced in turn.
abbrev pub edited_picture : List Deed → Plane
edited_picture ds = with_edits (since is_laying ds) (last_picture ds)

-- The cell (r, c) lies in the cone of an edit.
abbrev pub in_its_cone : Amounts → Plan → ℕ → ℕ → Deed → Bool
in_its_cone K q r c (laid p xs) = false
in_its_cone K q r c (edited a xs) = cone K q a r c
in_its_cone K q r c cleared = false
in_its_cone K q r c nothing = false

-- The marked cells: those in the cone of a settlement accepted since the last accepted clearing; and all, where no clearing was accepted
-- since the last accepted laying.
abbrev pub marked_cells : Setting → List Deed → Cells Bool
marked_cells s ds r c =
    not (some is_clearing (since is_laying ds))
    || some (in_its_cone s.amounts (plan_or_none (last_plan ds)) r c) (since is_clearing ds)

-- After every history the plan is the one last laid; and once a plate is laid, its picture is the edited picture, and a bit is set
-- exactly where a cell is marked.
pub record IsWhatTheHistorySays (s : Setting) (h : List Call) : Type 0 where
  pub plan_last_laid : (after_history s h).plan ≡ last_plan (deeds (verdicts s h))
  pub edited_picture_since : is_some (after_history s h).plan ≡ true → (r c : ℕ) → (after_history s h).picture r c ≡ edited_picture (deeds (verdicts s h)) r c
  pub marked_cells_since : is_some (after_history s h).plan ≡ true → (r c : ℕ) → (after_history s h).bits r c ≡ marked_cells s (deeds (verdicts s h)) r c

abbrev pub ThePlainPlateIsWhatItsHistorySays : Type 0
ThePlainPlateIsWhatItsHistorySays = (s : Setting) (h : List Call) → IsWhatTheHistorySays s h
