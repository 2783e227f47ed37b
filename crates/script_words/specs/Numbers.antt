-- The number that a word writes.
use Rattle.std.specs.Prelude.{ℕ, ◌+◌, ◌-◌, ◌*◌, Bool, true, cond, not, ◌&&◌, List, [], ◌∷◌, length, Some, None, Option, ◌==◌, nat_le}

-- the characters 0 to 9
abbrev pub is_digit : ℕ → Bool
is_digit b = nat_le 48 b && nat_le b 57

unfoldable pub all_digits : List ℕ → Bool
all_digits [] = true
all_digits (b ∷ bs) = is_digit b && all_digits bs

-- what digits are worth after digits that are worth n
unfoldable pub worth_after : ℕ → List ℕ → ℕ
worth_after n [] = n
worth_after n (b ∷ bs) = worth_after (n * 10 + (b - 48)) bs

-- The decimal number of a word: one digit or more, worth 4,294,967,295 at most.
abbrev pub number : List ℕ → Option ℕ
number word = cond (not (length word == 0) && (all_digits word && nat_le (worth_after 0 word) 4294967295)) (Some (worth_after 0 word)) None
