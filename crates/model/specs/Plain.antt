-- The plain plate: what it keeps, why it declines a call, what a call makes of it and what it answers.
use Rattle.std.specs.Prelude.{ℕ, ◌+◌, ◌*◌, ◌^◌, Bool, true, false, cond, not, ◌&&◌, ◌||◌, List, [], ◌∷◌, ◌++◌, ℤ, pos, negsuc, is_some, Some, None, Option, ◌==◌, nat_le, nat_lt}
use Rattle.faults.specs.declared.fault.Fault.{Fault}
use Rattle.faults.specs.declared.fault.Fault.TheVariants as fault
use Rattle.faults.specs.declared.fault.Layer.TheVariants.{Plate}
use Rattle.faults.specs.Faults.{fault_number}
use Rattle.faults.specs.Tables.{first_fault, first_index}
use Rattle.planes.specs.declared.rectangle.Rectangle.{Rectangle}
use Rattle.planes.specs.Rectangles.{leaves}
use Rattle.wavelets.specs.Lifting.{Amounts, Cells, Plane, forward, resolution, size, within_budget}
use Rattle.wavelets.specs.Cone.{in_cone, cone_count}
use Rattle.cones.specs.Rectangles.{rows_of, columns_of}
use Rattle.overlays.specs.Samples as samples
use Rattle.model.specs.declared.card.Card.{Card}
use Rattle.model.specs.declared.plan.Plan.{Plan}
use Rattle.model.specs.Calls.{Numbers, Call, laying, leasing, settling, surrendering, recalling, previewing, reading, clearing, Reply, declined, done, leased, settled, recalled, cell}

-- What is fixed when a plate is made: its number, its store's sides, its kernel's amounts, and what the store was found to hold.
pub record Setting : Type 0 where
  pub number : ℕ
  pub height : ℕ
  pub width : ℕ
  pub amounts : Amounts
  pub found : Plane
  pub found_bits : Cells Bool

-- The plain plate: the plan (none before an accepted laying), the edited picture, the change bits, the rectangle of the lease that is
-- out, and the last serial given.
pub record Plain : Type 0 where
  pub plan : Option Plan
  pub picture : Plane
  pub bits : Cells Bool
  pub lease : Option Rectangle
  pub serial : ℕ

-- The plain plate just made.
abbrev pub fresh : Setting → Plain
fresh s = record { plan = None; picture = λ r c. pos 0; bits = s.found_bits; lease = None; serial = 0 }

-- The plan of an unlaid plate, and the rectangle where no lease is out: nothing is asked of them.
abbrev pub plan_or_none : Option Plan → Plan
plan_or_none None = record { rows = 0; columns = 0; top = 0; levels = 0 }
plan_or_none (Some q) = q

abbrev pub rectangle_or_none : Option Rectangle → Rectangle
rectangle_or_none None = record { first_row = 0; first_column = 0; height = 0; width = 0 }
rectangle_or_none (Some a) = a

-- Pictures ----------------------------------------------------------------------------------------------------------------------

-- The picture of samples, row by row.
abbrev pub pictured : Plan → Numbers → Plane
pictured q xs = samples.pictured q.columns xs.at

-- A picture with a rectangle replaced by samples, row by row.
abbrev pub replaced : Rectangle → Numbers → Plane → Plane
replaced a xs x = samples.replaced a xs.at x

-- The cone of a rectangle on a plate of this plan, and how many cells it has.
abbrev pub cone : Amounts → Plan → Rectangle → Cells Bool
cone K q a = in_cone q.rows q.columns (rows_of a) (columns_of a) q.levels

abbrev pub cone_size : Amounts → Plan → Rectangle → ℕ
cone_size K q a = cone_count q.rows q.columns (rows_of a) (columns_of a) q.levels

-- The cells that the plate is to hold: a fresh transform of the edited picture; before a laying, what was found.
abbrev pub cells_by : Setting → Option Plan → Plane → Plane
cells_by s None x = s.found
cells_by s (Some q) x = forward s.amounts q.rows q.columns q.levels x

abbrev pub cells_of : Setting → Plain → Plane
cells_of s p = cells_by s p.plan p.picture

-- The resolution of the edited picture at a level.
abbrev pub resolution_of : Setting → Plain → ℕ → Plane
resolution_of s p k = resolution s.amounts (plan_or_none p.plan).rows (plan_or_none p.plan).columns k p.picture

-- Refusals ----------------------------------------------------------------------------------------------------------------------

abbrev pub is_side : ℕ → Bool
is_side n = nat_le 1 n && nat_le n 4096

abbrev pub is_top : ℕ → Bool
is_top p = nat_le 1 p && nat_le p 65535

-- A sample is from 0 to the top.
abbrev pub is_sample : ℕ → ℤ → Bool
is_sample top (pos n) = nat_le n top
is_sample top (negsuc n) = false

-- The index of the first sample over the top, or their count.
abbrev pub first_over : ℕ → Numbers → ℕ
first_over top xs = first_index (λ i. not (is_sample top (xs.at i))) xs.count

-- How many records of scratch a settlement and a preview need.
abbrev pub settling_records : Plan → Rectangle → ℕ
settling_records q a = q.rows * q.columns

abbrev pub preview_records : Plan → ℕ
preview_records q = q.rows * q.columns

-- The lease of these two numbers is the one that is out on this plate.
abbrev pub is_out : Setting → Plain → ℕ → ℕ → Bool
is_out s p plate serial = is_some p.lease && (plate == s.number && serial == p.serial)

-- A table of refusals: rows of a test and a fault, in their order.
abbrev pub Table : Type 0
Table = List (Bool × Fault)

abbrev pub unlaid : Plain → Bool × Fault
unlaid p = (not (is_some p.plan), fault.Unlaid)

-- Samples are declined where their count is not the area, or where one exceeds the top.
abbrev pub samples_table : Numbers → ℕ → ℕ → Table
samples_table xs area top =
    (not (xs.count == area), fault.SampleCount)
    ∷ (nat_lt (first_over top xs) xs.count, fault.Sample Plate (first_over top xs))
    ∷ []

abbrev pub laying_table : Setting → Plain → Plan → Numbers → Table
laying_table s p q xs =
    (is_some p.lease, fault.LeaseOut)
    ∷ (not (is_side q.rows && is_side q.columns), fault.Size Plate)
    ∷ (nat_lt 5 q.levels, fault.Levels Plate)
    ∷ (not (is_top q.top), fault.Top Plate)
    ∷ (not (within_budget q.top q.levels), fault.Budget)
    ∷ (not (s.height == q.rows && s.width == q.columns), fault.StoreDiffers)
    ∷ samples_table xs (q.rows * q.columns) q.top

abbrev pub leasing_table : Plain → Rectangle → Table
leasing_table p a =
    unlaid p
    ∷ (leaves (plan_or_none p.plan).rows (plan_or_none p.plan).columns a, fault.Rectangle Plate)
    ∷ (is_some p.lease, fault.LeaseOut)
    ∷ (nat_le 65535 p.serial, fault.SerialsSpent)
    ∷ []

abbrev pub settling_table : Setting → Plain → ℕ → ℕ → Numbers → ℕ → Table
settling_table s p plate serial xs records =
    let q = plan_or_none p.plan in
    let a = rectangle_or_none p.lease in
    (not (is_out s p plate serial), fault.WrongLease)
    ∷ (samples_table xs (a.height * a.width) q.top ++ ((nat_lt records (settling_records q a), fault.ScratchShort) ∷ []))

abbrev pub surrender_table : Setting → Plain → ℕ → ℕ → Table
surrender_table s p plate serial = (not (is_out s p plate serial), fault.WrongLease) ∷ []

abbrev pub preview_table : Plain → Card → Rectangle → ℕ → ℕ → Table
preview_table p card a records room =
    let q = plan_or_none p.plan in
    unlaid p
    ∷ (nat_lt q.levels card.level, fault.LevelInHand)
    ∷ (leaves (size card.level q.rows) (size card.level q.columns) a, fault.Rectangle Plate)
    ∷ (nat_lt room (a.height * a.width), fault.OutputShort Plate)
    ∷ (nat_lt records (preview_records q), fault.ScratchShort)
    ∷ []

abbrev pub reading_table : Plain → Card → ℕ → ℕ → Table
reading_table p card row column =
    let q = plan_or_none p.plan in
    unlaid p
    ∷ (nat_lt q.levels card.level, fault.LevelInHand)
    ∷ (not (nat_lt row (size card.level q.rows) && nat_lt column (size card.level q.columns)), fault.Outside)
    ∷ []

abbrev pub clearing_table : Plain → Table
clearing_table p = unlaid p ∷ []

-- Why a call is declined, if it is.
abbrev pub why : Setting → Plain → Call → Option Fault
why s p (laying q xs) = first_fault (laying_table s p q xs)
why s p (leasing a) = first_fault (leasing_table p a)
why s p (settling plate serial xs records) = first_fault (settling_table s p plate serial xs records)
why s p (surrendering plate serial) = first_fault (surrender_table s p plate serial)
why s p recalling = None
why s p (previewing card a records room) = first_fault (preview_table p card a records room)
why s p (reading card row column) = first_fault (reading_table p card row column)
why s p clearing = first_fault (clearing_table p)

-- Effects -----------------------------------------------------------------------------------------------------------------------

-- The lease is ended.
abbrev pub ended : Plain → Plain
ended p = record { plan = p.plan; picture = p.picture; bits = p.bits; lease = None; serial = p.serial }

-- What an accepted call makes of the plain plate.
abbrev pub taken : Setting → Plain → Call → Plain
taken s p (laying q xs) = record { plan = Some q; picture = pictured q xs; bits = λ r c. true; lease = p.lease; serial = p.serial }
taken s p (leasing a) = record { plan = p.plan; picture = p.picture; bits = p.bits; lease = Some a; serial = p.serial + 1 }
taken s p (settling plate serial xs records) =
    let a = rectangle_or_none p.lease in
    record { plan = p.plan; picture = replaced a xs p.picture; bits = λ r c. p.bits r c || cone s.amounts (plan_or_none p.plan) a r c; lease = None; serial = p.serial }
taken s p (surrendering plate serial) = ended p
taken s p recalling = ended p
taken s p (previewing card a records room) = p
taken s p (reading card row column) = p
taken s p clearing = record { plan = p.plan; picture = p.picture; bits = λ r c. false; lease = p.lease; serial = p.serial }

-- A declined settlement of the lease that is out ends it: with the faults 7, 8 and 9, and not with 13.
abbrev pub ends_the_lease : Fault → Bool
ends_the_lease f = nat_le 7 (fault_number f) && nat_le (fault_number f) 9

-- What a declined call makes of it: nothing, but for such a settlement.
abbrev pub refused : Plain → Call → Fault → Plain
refused p (laying q xs) f = p
refused p (leasing a) f = p
refused p (settling plate serial xs records) f = cond (ends_the_lease f) (ended p) p
refused p (surrendering plate serial) f = p
refused p recalling f = p
refused p (previewing card a records room) f = p
refused p (reading card row column) f = p
refused p clearing f = p

-- The serial of the lease that is out, or that none is.
abbrev pub serial_out : Option Rectangle → ℕ → Option ℕ
serial_out None n = None
serial_out (Some a) n = Some n

-- What an accepted call answers.
abbrev pub given : Setting → Plain → Call → Reply
given s p (laying q xs) = done
given s p (leasing a) = leased s.number (p.serial + 1)
given s p (settling plate serial xs records) = settled (cone_size s.amounts (plan_or_none p.plan) (rectangle_or_none p.lease))
given s p (surrendering plate serial) = done
given s p recalling = recalled (serial_out p.lease p.serial)
given s p (previewing card a records room) = done
given s p (reading card row column) = cell (cells_of s p (row * 2 ^ card.level) (column * 2 ^ card.level)) (p.bits (row * 2 ^ card.level) (column * 2 ^ card.level))
given s p clearing = done

abbrev pub after_by : Setting → Plain → Call → Option Fault → Plain
after_by s p c None = taken s p c
after_by s p c (Some f) = refused p c f

abbrev pub reply_by : Setting → Plain → Call → Option Fault → Reply
reply_by s p c None = given s p c
reply_by s p c (Some f) = declined f

-- The plain plate after a call, and its answer.
abbrev pub after : Setting → Plain → Call → Plain
after s p c = after_by s p c (why s p c)

abbrev pub reply : Setting → Plain → Call → Reply
reply s p c = reply_by s p c (why s p c)

-- The plain plate after a list of calls.
abbrev pub through : Setting → Plain → List Call → Plain
through s p [] = p
through s p (c ∷ cs) = through s (after s p c) cs
