-- 5/3 as the JPEG 2000 standard writes it: by whole-sample symmetric extension of the line.
use Rattle.std.specs.Prelude.{ℕ, ◌-◌, ◌*◌, ◌%◌, min, ℤ, pos, negsuc, ◌+ℤ◌, ◌-ℤ◌, ◌*ℤ◌}
use Rattle.std.specs.Int.Signed.{shr_z}
use Rattle.wavelets.specs.Lifting.{Line}

-- A number at every whole number, also before 0.
abbrev pub Signal : Type 0
Signal = ℤ → ℤ

-- i mod m, from 0 to m − 1.
abbrev pub modulo : ℤ → ℕ → ℕ
modulo (pos i) m = i % m
modulo (negsuc i) m = m - 1 - i % m

-- The place that stands for i on a line of n ≥ 2 places: i is reflected about 0 and about n − 1, with the period 2(n − 1), so that
-- .. 2 1 0 1 2 .. n−2 n−1 n−2 ..
abbrev pub reflected : ℕ → ℤ → ℕ
reflected n i = let period = 2 * (n - 1) in min (modulo i period) (period - modulo i period)

-- The line extended to all whole numbers.
abbrev pub extended : ℕ → Line → Signal
extended n x i = x (reflected n i)

-- The standard's reversible 5/3 of a signal X, for every whole number m:
--     Y(2m + 1) = X(2m + 1) − floor((X(2m) + X(2m + 2)) / 2)
--     Y(2m) = X(2m) + floor((Y(2m − 1) + Y(2m + 1) + 2) / 4)
abbrev pub high_pass : Signal → ℤ → ℤ
high_pass X m = X (pos 2 *ℤ m +ℤ pos 1) -ℤ shr_z (X (pos 2 *ℤ m) +ℤ X (pos 2 *ℤ m +ℤ pos 2)) 2

abbrev pub low_pass : Signal → ℤ → ℤ
low_pass X m = X (pos 2 *ℤ m) +ℤ shr_z (high_pass X (m -ℤ pos 1) +ℤ high_pass X m +ℤ pos 2) 4

-- and its inverse, of a signal Y:
--     X(2m) = Y(2m) − floor((Y(2m − 1) + Y(2m + 1) + 2) / 4)
--     X(2m + 1) = Y(2m + 1) + floor((X(2m) + X(2m + 2)) / 2)
abbrev pub even_again : Signal → ℤ → ℤ
even_again Y m = Y (pos 2 *ℤ m) -ℤ shr_z (Y (pos 2 *ℤ m -ℤ pos 1) +ℤ Y (pos 2 *ℤ m +ℤ pos 1) +ℤ pos 2) 4

abbrev pub odd_again : Signal → ℤ → ℤ
odd_again Y m = Y (pos 2 *ℤ m +ℤ pos 1) +ℤ shr_z (even_again Y m +ℤ even_again Y (m +ℤ pos 1)) 2
