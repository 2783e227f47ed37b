-- The eight calls with their arguments, and what they answer.
use Rattle.std.specs.Prelude.{ℕ, Bool, List, length, ℤ, pos, Option, slice_index}
use Rattle.faults.specs.declared.fault.Fault.{Fault}
use Rattle.planes.specs.declared.rectangle.Rectangle.{Rectangle}
use Rattle.model.specs.declared.card.Card.{Card}
use Rattle.model.specs.declared.plan.Plan.{Plan}

-- Numbers in a row: how many, and the one at each index.
pub record Numbers : Type 0 where
  pub count : ℕ
  pub at : ℕ → ℤ

-- Samples as whole numbers.
abbrev pub samples_of : List ℕ → Numbers
samples_of xs = record { count = length xs; at = λ i. pos (slice_index xs i) }

-- A call with its arguments; of scratch and outputs these are the lengths, in records and in numbers.
pub data Call : Type 0 where
  laying : Plan → Numbers → Call
  leasing : Rectangle → Call
  settling : (plate serial : ℕ) (samples : Numbers) (records : ℕ) → Call
  surrendering : (plate serial : ℕ) → Call
  recalling : Call
  previewing : Card → Rectangle → (records room : ℕ) → Call
  reading : Card → (row column : ℕ) → Call
  clearing : Call

-- What a call answers.
pub data Reply : Type 0 where
  declined : Fault → Reply
  done : Reply
  leased : (plate serial : ℕ) → Reply
  settled : (count : ℕ) → Reply
  recalled : Option ℕ → Reply
  cell : ℤ → Bool → Reply
