-- The transform: lifting on a line, on a plane and on the lattices of its levels, for any two amounts.
use Rattle.std.specs.Prelude.{◌≡◌, ℕ, zero, suc, ◌+◌, ◌-◌, ◌*◌, ◌/◌, ◌%◌, ◌^◌, ◌<◌, ◌≤◌, max, Bool, false, cond, ◌&&◌, ℤ, pos, ◌+ℤ◌, ◌-ℤ◌, ◌==◌, nat_le, nat_lt, unsigned_abs}
use Rattle.std.specs.Int.Signed.{shr_z}

-- A line has a number at each place, and a plane one at each row and column; cells have anything there, as bits. All three go
-- on without end: a size is an argument of what is done to them.
abbrev pub Line : Type 0
Line = ℕ → ℤ

abbrev pub Cells : Type 0 → Type 0
Cells A = ℕ → ℕ → A

abbrev pub Plane : Type 0
Plane = Cells ℤ

-- What is done to a line of n numbers, and to a plane of R rows and C columns.
abbrev pub LineWork : Type 0
LineWork = ℕ → Line → Line

abbrev pub PlaneWork : Type 0
PlaneWork = ℕ → ℕ → Plane → Plane

-- Kernels ---------------------------------------------------------------------------------------------------------------------

-- A kernel's two amounts, each of a left and a right neighbour.
pub record Amounts : Type 0 where
  pub predict : ℤ → ℤ → ℤ
  pub update : ℤ → ℤ → ℤ

-- 5/3: floor((a + b) / 2) and floor((a + b + 2) / 4). `shr_z z m` is z / m, rounded toward minus infinity.
abbrev pub five_three : Amounts
five_three = record { predict = λ a b. shr_z (a +ℤ b) 2; update = λ a b. shr_z (a +ℤ b +ℤ pos 2) 4 }

-- The S-transform: a and floor(b / 2).
abbrev pub s_transform : Amounts
s_transform = record { predict = λ a b. a; update = λ a b. shr_z b 2 }

-- The law of a kernel: an amount is never larger in size than the larger of its two neighbours.
abbrev pub Lawful : Amounts → Type 0
Lawful K =
    (a b : ℤ)
    → (unsigned_abs (K.predict a b) ≤ max (unsigned_abs a) (unsigned_abs b))
    × (unsigned_abs (K.update a b) ≤ max (unsigned_abs a) (unsigned_abs b))

-- One line --------------------------------------------------------------------------------------------------------------------

-- The neighbours of place i on a line of n; a missing one is replaced by the other.
abbrev pub left : ℕ → ℕ
left zero = 1
left (suc i) = i

abbrev pub right : ℕ → ℕ → ℕ
right n i = cond (nat_lt (i + 1) n) (i + 1) (i - 1)

-- A step changes the places of one parity (0 even, 1 odd), on a line of two places or more.
abbrev pub is_changed : ℕ → ℕ → ℕ → Bool
is_changed n parity i = nat_lt 1 n && nat_lt i n && i % 2 == parity

-- One step: f of the old number, the left and the right neighbour, at the places that are changed.
unfoldable pub step : ℕ → ℕ → (ℤ → ℤ → ℤ → ℤ) → Line → Line
step n parity f x i = cond (is_changed n parity i) (f (x i) (x (left i)) (x (right n i))) (x i)

-- Lifting a line of n: the odd places are lowered by the predict amount, then the even ones raised by the update amount.
unfoldable pub predicted : Amounts → LineWork
predicted K n x = step n 1 (λ z a b. z -ℤ K.predict a b) x

unfoldable pub lift : Amounts → LineWork
lift K n x = step n 0 (λ z a b. z +ℤ K.update a b) (predicted K n x)

-- Undoing it: the even places are lowered by the update amount, then the odd ones raised by the predict amount.
unfoldable pub unupdated : Amounts → LineWork
unupdated K n x = step n 0 (λ z a b. z -ℤ K.update a b) x

unfoldable pub unlift : Amounts → LineWork
unlift K n x = step n 1 (λ z a b. z +ℤ K.predict a b) (unupdated K n x)

-- One level -------------------------------------------------------------------------------------------------------------------

-- A work on lines, done to every column of a plane of R rows and C columns, and to every row.
unfoldable pub columns : LineWork → PlaneWork
columns g R C x r c = cond (nat_lt c C) (g R (λ i. x i c) r) (x r c)

unfoldable pub rows : LineWork → PlaneWork
rows g R C x r c = cond (nat_lt r R) (g C (x r) c) (x r c)

-- Every column is lifted, then every row; undoing goes the other way round.
unfoldable pub level : Amounts → PlaneWork
level K R C x = rows (lift K) R C (columns (lift K) R C x)

unfoldable pub unlevel : Amounts → PlaneWork
unlevel K R C x = columns (unlift K) R C (rows (unlift K) R C x)

-- Lattices --------------------------------------------------------------------------------------------------------------------

-- The lattice of level k has ceil(n / 2^k) places along a side of n.
abbrev pub size : ℕ → ℕ → ℕ
size k n = (n + (2 ^ k - 1)) / 2 ^ k

-- Its place (i, j) is the cell (i · 2^k, j · 2^k).
unfoldable pub lattice : ℕ → Plane → Plane
lattice k x i j = x (i * 2 ^ k) (j * 2 ^ k)

-- The cell (r, c) is on it.
abbrev pub on : ℕ → ℕ → ℕ → Bool
on k r c = r % 2 ^ k == 0 && c % 2 ^ k == 0

-- What g does to a plane, done to the lattice of level k in place: the cells off the lattice stay.
unfoldable pub on_lattice : ℕ → (Plane → Plane) → Plane → Plane
on_lattice k g x r c = cond (on k r c) (g (lattice k x) (r / 2 ^ k) (c / 2 ^ k)) (x r c)

-- Levels ----------------------------------------------------------------------------------------------------------------------

-- Round k of any work on planes: it is done to the lattice of level k.
abbrev pub round : PlaneWork → ℕ → ℕ → ℕ → Plane → Plane
round g R C k = on_lattice k (g (size k R) (size k C))

-- The rounds 0 to L − 1, in this order.
unfoldable pub climb : PlaneWork → ℕ → ℕ → ℕ → Plane → Plane
climb g R C zero x = x
climb g R C (suc k) x = round g R C k (climb g R C k x)

-- The rounds L − 1 down to k, in this order; none where L is at most k.
unfoldable pub descend : PlaneWork → ℕ → ℕ → ℕ → ℕ → Plane → Plane
descend g R C zero k x = x
descend g R C (suc l) k x = cond (nat_le k l) (descend g R C l k (round g R C l x)) x

-- The transform of an R × C picture at L levels.
abbrev pub forward : Amounts → ℕ → ℕ → ℕ → Plane → Plane
forward K = climb (level K)

-- The rounds L − 1 down to k undone, and all of them.
abbrev pub undo : Amounts → ℕ → ℕ → ℕ → ℕ → Plane → Plane
undo K = descend (unlevel K)

abbrev pub inverse : Amounts → ℕ → ℕ → ℕ → Plane → Plane
inverse K R C L = undo K R C L 0

-- Resolution k of a picture: what stands on the lattice of level k after the first k rounds.
abbrev pub resolution : Amounts → ℕ → ℕ → ℕ → Plane → Plane
resolution K R C k x = lattice k (forward K R C k x)

-- What is said of planes ------------------------------------------------------------------------------------------------------

-- Two planes agree at the cells of an R × C plate, and at those of them where a test fails.
abbrev pub Agree : {A : Type 0} → ℕ → ℕ → Cells A → Cells A → Type 0
Agree R C x y = (r c : ℕ) → r < R → c < C → x r c ≡ y r c

abbrev pub AgreeOutside : Cells Bool → ℕ → ℕ → Plane → Plane → Type 0
AgreeOutside p R C x y = (r c : ℕ) → r < R → c < C → p r c ≡ false → x r c ≡ y r c

-- No number of an R × C plate is larger in size than M.
abbrev pub Bounded : ℕ → ℕ → ℕ → Plane → Type 0
Bounded R C M x = (r c : ℕ) → r < R → c < C → unsigned_abs (x r c) ≤ M

-- The budget of samples up to P at L levels.
abbrev pub within_budget : ℕ → ℕ → Bool
within_budget P L = nat_le (P * 9 ^ L) 2147483647
