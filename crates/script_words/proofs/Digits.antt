-- What is left of a word after some of its digits.
use Rattle.std.proofs.Common.{◌≡◌, ℕ, ◌+◌, ◌-◌, ◌*◌, ◌<◌, ◌≤◌, cond, ◌&&◌, eqb, leb, false, List, [], ◌∷◌, length, get_or, drop, Some, None, Option, arith}
use Rattle.std.proofs.lemmas.Bool.Decides.{nat_tests}
use Rattle.std.proofs.lemmas.Grind.{common_steps}
use Rattle.std.proofs.lemmas.List.{at_drop_more, at_drop_all}
use Rattle.script_words.specs.Numbers.{is_digit, all_digits, worth_after, number}

-- the number of the digits that are left, after digits that are worth n
unfoldable pub number_after : ℕ → List ℕ → Option ℕ
number_after n bs = cond (all_digits bs && leb (worth_after n bs) 4294967295) (Some (worth_after n bs)) None

worth_grows : (n : ℕ) (bs : List ℕ) → n ≤ worth_after n bs
unfolding worth_after
worth_grows n [] = omega arith
worth_grows n (b ∷ bs) = omega (arith, worth_grows (n * 10 + (b - 48)) bs)

-- after digits that are worth too much there is none
pub number_large : (n : ℕ) (bs : List ℕ) → 4294967295 < n → number_after n bs ≡ None
unfolding number_after
number_large n bs h = let k = worth_grows n bs in grind (arith, nat_tests)

-- one digit on, where the next byte is one
pub number_more : (n i : ℕ) (word : List ℕ) → i < length word → number_after n (drop i word)
    ≡ cond (is_digit (get_or word i 0)) (number_after (n * 10 + (get_or word i 0 - 48)) (drop (i + 1) word)) None
unfolding number_after all_digits worth_after
number_more n i word h = let e = at_drop_more (number_after n) word i 0 h in grind (arith, nat_tests)

pub number_end : (n i : ℕ) (word : List ℕ) → length word ≤ i → n ≤ 4294967295 → number_after n (drop i word) ≡ Some n
unfolding number_after all_digits worth_after
number_end n i word h small = let e = at_drop_all (number_after n) word i h in grind (arith, nat_tests)

-- a word that is not empty
pub number_start : (word : List ℕ) → false ≡ eqb (length word) 0 → number_after 0 word ≡ number word
unfolding number_after
number_start word some = grind (arith, common_steps)

pub ruleset digits = (number_large, number_more, number_end, number_start)
