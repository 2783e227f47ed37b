-- What reading a PGM file answers: by its header, a table of refusals and its raster.
use Rattle.std.specs.Prelude.{◌≡◌, ℕ, ◌+◌, ◌*◌, ◌<◌, ◌≤◌, Bool, cond, not, ◌&&◌, ltb, List, [], ◌∷◌, ◌++◌, length, take, Some, None, Ok, Err, Result, nat_le, nat_lt, slice_index}
use Rattle.faults.specs.declared.fault.Layer.TheVariants.{Pgm}
use Rattle.faults.specs.declared.fault.Fault.{Fault}
use Rattle.faults.specs.declared.fault.Fault.TheVariants.{Size, Top, Sample, OutputShort, PgmHeader, PgmRaster}
use Rattle.faults.specs.Tables.{first_fault, first_index}
use Rattle.pgm.specs.declared.read.Picture.{Picture}
use Rattle.pgm.specs.Grammar.{HeaderText, Unfitting}

-- a number of rows or columns that a plate can have, and a top
abbrev pub is_side : ℕ → Bool
is_side n = nat_le 1 n && nat_le n 4096

abbrev pub is_top : ℕ → Bool
is_top p = nat_le 1 p && nat_le p 65535

-- a sample has one byte where the top is below 256, and else two
abbrev pub sample_size : ℕ → ℕ
sample_size top = cond (nat_lt top 256) 1 2

-- sample i of the raster that begins at byte `from`, high byte first
abbrev pub sample : List ℕ → ℕ → ℕ → ℕ → ℕ
sample xs from top i = cond (nat_lt top 256) (slice_index xs (from + i)) (slice_index xs (from + 2 * i) * 256 + slice_index xs (from + 2 * i + 1))

-- a header with width w, height h and top p, which takes the first n bytes
abbrev pub Headed : List ℕ → ℕ → ℕ → ℕ → ℕ → Type 0
Headed xs w h p n = (n ≤ length xs) × HeaderText (w ∷ h ∷ p ∷ []) (take n xs)

-- the checks of a header that takes n bytes of a file of `size`, for a buffer with room for `room` samples
abbrev pub size_checks : ℕ → ℕ → ℕ → ℕ → ℕ → ℕ → List (Bool × Fault)
size_checks w h p n size room =
    (not (is_side w && is_side h), Size Pgm)
    ∷ (not (is_top p), Top Pgm)
    ∷ (nat_lt size (n + sample_size p * (h * w)), PgmRaster size)
    ∷ (nat_lt room (h * w), OutputShort Pgm)
    ∷ []

-- and then that of the samples: the first one that exceeds the top
abbrev pub sample_check : List ℕ → ℕ → ℕ → ℕ → Bool × Fault
sample_check xs from p count = let i = first_index (λ k. ltb p (sample xs from p k)) count in (nat_lt i count, Sample Pgm i)

abbrev pub checks : List ℕ → ℕ → ℕ → ℕ → ℕ → ℕ → List (Bool × Fault)
checks xs w h p n room = size_checks w h p n (length xs) room ++ (sample_check xs n p (h * w) ∷ [])

-- the file's samples stand in front, and the rest is as it was
pub record Filled (xs : List ℕ) (from p count : ℕ) (was now : List ℕ) : Type 0 where
  pub samples : (k : ℕ) → k < count → slice_index now k ≡ sample xs from p k
  pub others : (k : ℕ) → count ≤ k → slice_index now k ≡ slice_index was k

-- reading the file xs into a buffer that held `was` answers this, and the buffer then holds this
pub data Reads (xs was : List ℕ) : Result Picture Fault → List ℕ → Type 0 where
  no_header : (i : ℕ) → Unfitting xs i → Reads xs was (Err (PgmHeader i)) was
  declined : (w h p n : ℕ) (f : Fault) → Headed xs w h p n → first_fault (checks xs w h p n (length was)) ≡ Some f → Reads xs was (Err f) was
  taken : (w h p n : ℕ) (now : List ℕ) → Headed xs w h p n → first_fault (checks xs w h p n (length was)) ≡ None
      → Filled xs n p (h * w) was now → Reads xs was (Ok (record { columns = w; rows = h; top = p })) now
