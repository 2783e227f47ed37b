-- The commands of a script with their arguments, paths, samples and buffers as lists.
use Rattle.std.specs.Prelude.{ℕ, min, false, List, replicate, ℤ, pos}
use Rattle.kernels.specs.declared.choice.KernelChoice.{KernelChoice}
use Rattle.planes.specs.declared.cell.Cell.{Cell}
use Rattle.model.specs.declared.plan.Plan.{Plan}

-- The first command: a new plate, or the plate of a file.
pub data Start : Type 0 where
  plate : (number : ℕ) (kernel : KernelChoice) (rows columns : ℕ) → Start
  file : (path : List ℕ) (number : ℕ) (kernel : KernelChoice) → Start

-- A call. Scratch and output are as they are handed over.
pub data Request : Type 0 where
  lay : (plan : Plan) (samples : List ℕ) → Request
  lease : (row column height width : ℕ) → Request
  settle : (number serial : ℕ) (scratch : List Cell) (samples : List ℕ) → Request
  surrender : (number serial : ℕ) → Request
  recall : Request
  preview : (level row column height width : ℕ) (scratch : List Cell) (output : List ℤ) → Request
  read : (level row column : ℕ) → Request
  clear : Request

-- What is done after the last call.
pub data Finish : Type 0 where
  sheet : (issue room : ℕ) → Finish
  save : (path : List ℕ) → Finish

pub data Command : Type 0 where
  start : Start → Command
  request : Request → Command
  finish : Finish → Command

-- The length of a buffer for which a number is written: no plate needs more than 4,096 × 4,096 records or numbers.
abbrev pub buffer_length : ℕ → ℕ
buffer_length n = min n 16777216

-- Scratch is that many records of number 0 and bit unset, an output that many zeros.
abbrev pub blank_record : Cell
blank_record = record { number = pos 0; bit = false }

abbrev pub blank_records : ℕ → List Cell
blank_records n = replicate (buffer_length n) blank_record

abbrev pub zeros : ℕ → List ℤ
zeros n = replicate (buffer_length n) (pos 0)
