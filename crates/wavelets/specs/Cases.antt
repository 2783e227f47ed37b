-- The worked cases, as one list with one statement.
use Rattle.std.specs.Prelude.{◌≡◌, ℕ, Bool, true, false, List, [], ◌∷◌, map, length, ℤ, pos, negsuc, ◌+ℤ◌, slice_index_or}
use Rattle.std.specs.List.{range_with_len, AllByRecursion}
use Rattle.wavelets.specs.Lifting.{Line, Cells, Plane, Amounts, size, lift, unlift, forward, inverse, resolution, five_three, s_transform, within_budget}
use Rattle.wavelets.specs.declared.Span.{Span}
use Rattle.wavelets.specs.Cone.{in_cone, cone_count}
use Rattle.wavelets.specs.Extension.{reflected}

-- A row of numbers from 0 up, written out.
abbrev pub row : List ℕ → List ℤ
row = map pos

-- The line, and the plane, that is written out; and back.
unfoldable pub line : List ℤ → Line
line xs i = slice_index_or xs i (pos 0)

unfoldable pub plane : List (List ℤ) → Plane
plane xs r c = slice_index_or (slice_index_or xs r []) c (pos 0)

unfoldable pub listed : {A : Type 0} → ℕ → (ℕ → A) → List A
listed n f = map f (range_with_len 0 n)

unfoldable pub table : {A : Type 0} → ℕ → ℕ → Cells A → List (List A)
table R C x = listed R (λ r. listed C (x r))

-- The span of one place.
abbrev pub only : ℕ → Span
only i = record { first = i; last = i }

-- What a case says.
pub data Case : Type 0 where
  -- a line is lifted to another, which is undone to it
  line_case : Amounts → List ℤ → List ℤ → Case
  -- an R × C picture has a transform at L levels, whose inverse it is
  plate_case : Amounts → (R C L : ℕ) → List (List ℤ) → List (List ℤ) → Case
  -- an R × C picture has this resolution k
  resolution_case : Amounts → (R C k : ℕ) → List (List ℤ) → List (List ℤ) → Case
  -- the cone of the rows s and the columns t of an R × C plate at L levels has these cells, and this many
  cone_case : (R C L : ℕ) → Span → Span → List (List Bool) → Case
  count_case : (R C L : ℕ) → Span → Span → ℕ → Case
  -- these places stand for these whole numbers on a line of n that is reflected at its ends
  reflection_case : (n : ℕ) → List ℤ → List ℕ → Case
  -- samples up to P are within the budget of L levels, or not
  budget_case : (P L : ℕ) → Bool → Case

unfoldable pub Holds : Case → Type 0
Holds (line_case K xs ys) =
    (listed (length xs) (lift K (length xs) (line xs)) ≡ ys)
    × (listed (length ys) (unlift K (length ys) (line ys)) ≡ xs)
Holds (plate_case K R C L xs ys) =
    (table R C (forward K R C L (plane xs)) ≡ ys)
    × (table R C (inverse K R C L (plane ys)) ≡ xs)
Holds (resolution_case K R C k xs ys) = table (size k R) (size k C) (resolution K R C k (plane xs)) ≡ ys
Holds (cone_case R C L s t bs) = table R C (in_cone R C s t L) ≡ bs
Holds (count_case R C L s t n) = cone_count R C s t L ≡ n
Holds (reflection_case n is js) = map (reflected n) is ≡ js
Holds (budget_case P L b) = within_budget P L ≡ b

-- One row, and the same with its place 3 replaced.
abbrev pub before : List (List ℤ)
before = row (10 ∷ 20 ∷ 30 ∷ 40 ∷ []) ∷ []

abbrev pub after : List (List ℤ)
after = row (10 ∷ 20 ∷ 30 ∷ 44 ∷ []) ∷ []

unfoldable pub cases : List Case
cases =
    line_case five_three (row (10 ∷ 20 ∷ 30 ∷ 40 ∷ [])) (row (10 ∷ 0 ∷ 33 ∷ 10 ∷ []))
    ∷ line_case five_three (row (5 ∷ 9 ∷ 4 ∷ [])) (row (8 ∷ 5 ∷ 7 ∷ []))
    ∷ line_case five_three (row (2 ∷ 0 ∷ [])) (pos 1 ∷ negsuc 1 ∷ [])
    ∷ line_case five_three (row (7 ∷ [])) (row (7 ∷ []))
    ∷ line_case s_transform (row (10 ∷ 20 ∷ 30 ∷ 40 ∷ [])) (row (15 ∷ 10 ∷ 35 ∷ 10 ∷ []))
    ∷ line_case s_transform (row (5 ∷ 9 ∷ 4 ∷ [])) (row (7 ∷ 4 ∷ 6 ∷ []))
    ∷ line_case s_transform (row (10 ∷ 20 ∷ 30 ∷ 44 ∷ [])) (row (15 ∷ 10 ∷ 37 ∷ 14 ∷ []))
    ∷ plate_case five_three 2 2 1 (row (1 ∷ 1 ∷ []) ∷ row (0 ∷ 2 ∷ []) ∷ []) (row (2 ∷ 1 ∷ []) ∷ row (0 ∷ 2 ∷ []) ∷ [])
    ∷ plate_case five_three 1 4 2 before (row (22 ∷ 0 ∷ 23 ∷ 10 ∷ []) ∷ [])
    ∷ plate_case five_three 1 4 2 after (row (22 ∷ 0 ∷ 24 ∷ 14 ∷ []) ∷ [])
    ∷ cone_case 1 4 2 (only 0) (only 3) ((true ∷ false ∷ true ∷ true ∷ []) ∷ [])
    ∷ count_case 1 4 2 (only 0) (only 3) 3
    ∷ resolution_case five_three 1 4 1 after (row (10 ∷ 34 ∷ []) ∷ [])
    ∷ count_case 4 4 1 (only 3) (only 3) 4
    ∷ count_case 1 1 5 (only 0) (only 0) 1
    ∷ reflection_case 4 (negsuc 2 ∷ negsuc 1 ∷ negsuc 0 ∷ row (0 ∷ 1 ∷ 2 ∷ 3 ∷ 4 ∷ 5 ∷ 6 ∷ [])) (3 ∷ 2 ∷ 1 ∷ 0 ∷ 1 ∷ 2 ∷ 3 ∷ 2 ∷ 1 ∷ 0 ∷ [])
    ∷ reflection_case 2 (negsuc 1 ∷ negsuc 0 ∷ row (0 ∷ 1 ∷ 2 ∷ 3 ∷ [])) (0 ∷ 1 ∷ 0 ∷ 1 ∷ 0 ∷ 1 ∷ [])
    ∷ budget_case 36367 5 true
    ∷ budget_case 36368 5 false
    ∷ []

abbrev pub WorkedCasesHold : Type 0
WorkedCasesHold = AllByRecursion Holds cases

-- The change from one row to the other, the cells after it, and those that a short cut would leave.
abbrev pub change : List (List ℤ)
change = row (0 ∷ 0 ∷ 0 ∷ 4 ∷ []) ∷ []

abbrev pub settled : List (List ℤ)
settled = row (22 ∷ 0 ∷ 24 ∷ 14 ∷ []) ∷ []

abbrev pub drifted : List (List ℤ)
drifted = row (23 ∷ 0 ∷ 24 ∷ 14 ∷ []) ∷ []

-- The transform of the edited row, and the short cut: to each cell that of the transform of the change is added.
abbrev pub TransformingTheEditedRowGives : List (List ℤ) → Type 0
TransformingTheEditedRowGives cells = table 1 4 (forward five_three 1 4 2 (plane after)) ≡ cells

abbrev pub AddingTheTransformOfTheChangeGives : List (List ℤ) → Type 0
AddingTheTransformOfTheChangeGives cells = table 1 4 (λ r c. forward five_three 1 4 2 (plane before) r c +ℤ forward five_three 1 4 2 (plane change) r c) ≡ cells
