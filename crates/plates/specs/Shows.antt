-- A plate shows a plain plate: the same plan, lease and serial, and no cell and no change bit that differs.
use Rattle.std.specs.Prelude.{◌≡◌, ℕ, ◌*◌, ◌^◌, ◌<◌, ◌≤◌, Bool, not, List, ℤ, pos, IfSome, Some, None, Ok, Err, Option, Result, slice_index_or}
use Rattle.faults.specs.declared.fault.Fault.{Fault}
use Rattle.planes.specs.declared.plane.Plane as plane
use Rattle.planes.specs.declared.plane.Store as store
use Rattle.planes.specs.declared.cell.Cell.{Cell}
use Rattle.planes.specs.declared.places.LatticePlace.{LatticePlace}
use Rattle.planes.specs.declared.places.PlatePlace.{PlatePlace}
use Rattle.planes.specs.Copies.{nth_number}
use Rattle.planes.specs.declared.rectangle.Rectangle.{Rectangle}
use Rattle.kernels.specs.declared.kernel.Kernel as kernel
use Rattle.wavelets.specs.Lifting.{Amounts, Cells, Plane, Bounded}
use Rattle.wavelets.specs.Counts.{count_line, differences, same_number, same_bit}
use Rattle.model.specs.declared.card.Card.{Card}
use Rattle.model.specs.declared.plan.Plan.{Plan}
use Rattle.model.specs.Calls.{Call, Reply, declined, leased, cell}
use Rattle.model.specs.Plain.{Setting, Plain, why, after, reply, cells_of, resolution_of}
use Rattle.plates.specs.declared.lease.Lease.{Lease}
use Rattle.plates.specs.declared.state.Plate.{Plate}

-- What a plate holds, as the meanings of its store and its kernel tell it.
pub record View : Type 0 where
  pub number : ℕ
  pub height : ℕ
  pub width : ℕ
  pub amounts : Amounts
  pub cells : Plane
  pub bits : Cells Bool
  pub plan : Option Plan
  pub lease : Option Rectangle
  pub serial : ℕ

abbrev pub seen : {S K : Type 0} → (a : plane.Ghosts S) (b : store.Ghosts S) (k : kernel.Ghosts K) → Plate S K b a k → View
seen a b k p = record {
  number = p.number;
  height = (a.picture p.store).height;
  width = (a.picture p.store).width;
  amounts = k.amounts p.kernel;
  cells = (a.picture p.store).number;
  bits = b.bits p.store;
  plan = p.plan;
  lease = p.lease;
  serial = p.serial;
}

-- What is fixed of a plate at its making, and a plain plate with the plate's own plan, lease and serial: by these the tables decide.
abbrev pub setting_of : View → Setting
setting_of v = record { number = v.number; height = v.height; width = v.width; amounts = v.amounts; found = v.cells; found_bits = v.bits }

abbrev pub plain_of : View → Plain
plain_of v = record { plan = v.plan; picture = λ r c. pos 0; bits = v.bits; lease = v.lease; serial = v.serial }

-- Why a plate declines a call, by its own plan, lease and serial and its store's sides.
abbrev pub own_fault : View → Call → Option Fault
own_fault v c = why (setting_of v) (plain_of v) c

-- The plan fits the store, and the picture's samples are within the plan's top.
pub record Fitting (s : Setting) (x : Plane) (q : Plan) : Type 0 where
  pub height : s.height ≡ q.rows
  pub width : s.width ≡ q.columns
  pub samples : Bounded q.rows q.columns q.top x

-- The plate v shows the plain plate p. By counts: of the cells that differ from a fresh transform of the edited picture (before a laying,
-- from what was found), and of the bits that differ.
pub record Shows (s : Setting) (p : Plain) (v : View) : Type 0 where
  pub number : v.number ≡ s.number
  pub height : v.height ≡ s.height
  pub width : v.width ≡ s.width
  pub amounts : v.amounts ≡ s.amounts
  pub plan : v.plan ≡ p.plan
  pub lease : v.lease ≡ p.lease
  pub serial : v.serial ≡ p.serial
  pub fitting : IfSome p.plan (Fitting s p.picture)
  pub no_cell_differs : differences same_number s.height s.width v.cells (cells_of s p) ≡ 0
  pub no_bit_differs : differences same_bit s.height s.width v.bits p.bits ≡ 0

-- The promise of every call c from v to w that answered r: whatever plain plate v shows, w shows that plain plate after c, and the answer is
-- the plain plate's.
abbrev pub Follows : Call → View → View → Reply → Type 0
Follows c v w r = (s : Setting) (p : Plain) → Shows s p v → Shows s (after s p c) w × (r ≡ reply s p c)

-- The fault of an answer, if it is one.
abbrev pub fault_in : {X : Type 0} → Result X Fault → Option Fault
fault_in (Ok x) = None
fault_in (Err f) = Some f

-- An answer as a reply.
abbrev pub answered : {X : Type 0} → (X → Reply) → Result X Fault → Reply
answered f (Ok x) = f x
answered f (Err e) = declined e

abbrev pub leased_as : Lease → Reply
leased_as l = leased l.plate l.serial

-- The rectangle from a place on.
abbrev pub rectangle_at : PlatePlace → ℕ → ℕ → Rectangle
rectangle_at first h w = record { first_row = first.row; first_column = first.column; height = h; width = w }

-- A cell's number and bit as a reply.
abbrev pub cell_as : Cell → Reply
cell_as x = cell x.number x.bit

-- The number x and the bit b are those of the cell that lies under a place of a level, where that is a cell of the store.
abbrev pub CellBelow : {S : Type 0} → plane.Ghosts S → store.Ghosts S → S → ℕ → ℕ → ℕ → ℤ → Bool → Type 0
CellBelow g h s k row column x b =
    k ≤ 5 → row * 2 ^ k < (g.picture s).height → column * 2 ^ k < (g.picture s).width
    → (x ≡ (g.picture s).number (row * 2 ^ k) (column * 2 ^ k)) × (b ≡ h.bits s (row * 2 ^ k) (column * 2 ^ k))

-- The rectangle of a lattice from a place on.
abbrev pub lattice_rectangle : LatticePlace → ℕ → ℕ → Rectangle
lattice_rectangle first h w = record { first_row = first.row; first_column = first.column; height = h; width = w }

-- How many of the first height × width numbers of an output differ from the edited picture's resolution at the card's level.
abbrev pub preview_differences : Setting → Plain → Card → Rectangle → List ℤ → ℕ
preview_differences s p card a out = count_line (a.height * a.width) (λ m. not (same_number (slice_index_or out m (pos 0)) (nth_number (resolution_of s p card.level) a m)))
