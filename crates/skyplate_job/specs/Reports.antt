-- What the program writes for the bytes of a file.
use Rattle.std.specs.Prelude.{ℕ, ◌*◌, min, max, List, ◌++◌, take, replicate, Ok, Err, codes, decimal, fold}
use Rattle.faults.specs.declared.fault.Fault.{Fault}
use Rattle.frames.specs.Frames.{frame_line, fault_frame}
use Rattle.pgm.specs.declared.read.Picture.{Picture}
use Rattle.pgm.specs.Reading.{Reads}
use Rattle.skyplate_job.specs.declared.summary.Summary.{Summary}

abbrev pub smallest : List ℕ → ℕ
smallest xs = fold min 65535 xs

abbrev pub largest : List ℕ → ℕ
largest xs = fold max 0 xs

-- the picture's size and top, with its smallest and its largest sample
abbrev pub summary_of : Picture → List ℕ → Summary
summary_of p xs = record { picture = p; smallest = smallest xs; largest = largest xs }

abbrev pub summary_line : Summary → List ℕ
summary_line s =
    decimal s.picture.rows ++ (codes " rows, " ++ (decimal s.picture.columns ++ (codes " columns, top " ++ (decimal s.picture.top
    ++ (codes ", samples from " ++ (decimal s.smallest ++ (codes " to " ++ (decimal s.largest ++ codes "\n"))))))))

-- the file's first 8,192 bytes are read into room for 2,048 samples; then a fault's line is written, or the picture's
pub data Reports (xs : List ℕ) : List ℕ → Type 0 where
  a_fault : (f : Fault) (samples : List ℕ) → Reads (take 8192 xs) (replicate 2048 0) (Err f) samples → Reports xs (frame_line (fault_frame f))
  a_picture : (p : Picture) (samples : List ℕ) → Reads (take 8192 xs) (replicate 2048 0) (Ok p) samples
      → Reports xs (summary_line (summary_of p (take (p.rows * p.columns) samples)))
