-- The steps of the header's reader, for its private functions; what a header is, Grammar.antt says.
use Rattle.std.specs.Prelude.{ℕ, ◌+◌, ◌-◌, ◌*◌, ◌^◌, ◌<◌, ◌≤◌, cond, ◌&&◌, List, [], ◌∷◌, Some, None, Option, ◌==◌, nat_le, nat_lt}
use Rattle.pgm.specs.declared.header.State.{State}
use Rattle.pgm.specs.declared.header.State.TheVariants.{Magic, Version, Gap, Spaced, Comment, Number, Past, Unfit}
use Rattle.pgm.specs.declared.header.Class.{Class}
use Rattle.pgm.specs.declared.header.Class.TheVariants.{LetterP, Hash, Newline, Blank, Digit, Other}

-- what a byte is to the reader
abbrev pub class : ℕ → Class
class b =
    cond (b == 80) LetterP
    (cond (b == 35) Hash
    (cond (b == 10) Newline
    (cond (nat_le 9 b && nat_le b 13) Blank
    (cond (b == 32) Blank
    (cond (nat_le 48 b && nat_le b 57) (Digit (b - 48)) Other)))))

-- a digit's value is below ten
abbrev pub Decimal : Class → Type 0
Decimal LetterP = Unit {0}
Decimal Hash = Unit {0}
Decimal Newline = Unit {0}
Decimal Blank = Unit {0}
Decimal (Digit d) = d < 10
Decimal Other = Unit {0}

-- a number that is being read has one to five digits, and is as small as these make it
abbrev pub Counted : State → Type 0
Counted Magic = Unit {0}
Counted Version = Unit {0}
Counted Gap = Unit {0}
Counted Spaced = Unit {0}
Counted Comment = Unit {0}
Counted (Number n k) = (n < 10 ^ k) × (1 ≤ k) × (k ≤ 5)
Counted (Past n) = Unit {0}
Counted Unfit = Unit {0}

abbrev gap_next : Class → State → State
gap_next LetterP s = Unfit
gap_next Hash s = Comment
gap_next Newline s = Spaced
gap_next Blank s = Spaced
gap_next (Digit d) s = s
gap_next Other s = Unfit

-- the state after a byte of a class
abbrev pub next : State → Class → State
next Magic LetterP = Version
next Magic Hash = Unfit
next Magic Newline = Unfit
next Magic Blank = Unfit
next Magic (Digit d) = Unfit
next Magic Other = Unfit
next Version LetterP = Unfit
next Version Hash = Unfit
next Version Newline = Unfit
next Version Blank = Unfit
next Version (Digit d) = cond (d == 5) Gap Unfit
next Version Other = Unfit
next Gap c = gap_next c Unfit
next Spaced LetterP = Unfit
next Spaced Hash = Comment
next Spaced Newline = Spaced
next Spaced Blank = Spaced
next Spaced (Digit d) = Number d 1
next Spaced Other = Unfit
next Comment LetterP = Comment
next Comment Hash = Comment
next Comment Newline = Spaced
next Comment Blank = Comment
next Comment (Digit d) = Comment
next Comment Other = Comment
next (Number n k) LetterP = Past n
next (Number n k) Hash = Past n
next (Number n k) Newline = Past n
next (Number n k) Blank = Past n
next (Number n k) (Digit d) = cond (nat_lt k 5) (Number (n * 10 + d) (k + 1)) Unfit
next (Number n k) Other = Past n
next (Past n) c = Unfit
next Unfit c = Unfit

-- a number, or none, and the place of the byte that ended the reading
abbrev pub after : State → ℕ → Option ℕ × ℕ → Option ℕ × ℕ
after Magic i r = r
after Version i r = r
after Gap i r = r
after Spaced i r = r
after Comment i r = r
after (Number n k) i r = r
after (Past n) i r = (Some n, i)
after Unfit i r = (None, i)

-- reads from a state on, at place i of a file whose rest is the list
abbrev pub scan : State → ℕ → List ℕ → Option ℕ × ℕ
scan s i [] = (None, i)
scan s i (b ∷ bs) = after (next s (class b)) i (scan (next s (class b)) (i + 1) bs)
