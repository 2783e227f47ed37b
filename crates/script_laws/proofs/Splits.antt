-- Words, lines and numbers, taken apart again.
use Rattle.std.proofs.Common.{◌≡◌, ℕ, ◌^◌, ◌<◌, true, not, eqb, leb, List, [], ◌∷◌, ◌++◌, map, length, Some, decimal, refl, ap, ◌∙◌, append_assoc, arith, rules}
use Rattle.std.specs.List.{AllByRecursion}
use Rattle.std.proofs.lemmas.List.{append-nil}
use Rattle.std.proofs.lemmas.Bool.{and_parts, and_from, not-true, not_from_false, eq-eqb, ne_eqb, le-leb, leb-true, cond-true, cond-false}
use Rattle.std.proofs.lemmas.Str.Parse.{IsNumeralModel, numerals_by_fold}
use Rattle.std.proofs.lemmas.Fmt.{digits_decimal, digits_value-decimal, decimal_nonempty}
use Rattle.script_words.specs.Words.{onto_first, pieces, filled, lines, words}
use Rattle.script_words.specs.Numbers.{is_digit, all_digits, worth_after, number}
use Rattle.script_arguments.specs.Arguments.{before, numbers}
use Rattle.script_laws.specs.Writing.{spaced, ended, without, is_word, Small}

-- a piece with its end, and a last piece without
pub ended_piece : (end : ℕ) (p rest : List ℕ) → without end p ≡ true → pieces end (p ++ end ∷ rest) ≡ p ∷ pieces end rest
unfolding pieces without
ended_piece end [] rest free = cond-true (eqb end end) _ _ (eq-eqb end end refl)
ended_piece end (b ∷ p) rest free =
    let parts = and_parts (not (eqb b end)) (without end p) free in
    cond-false (eqb b end) _ _ (not-true (eqb b end) parts.0) ∙ ap (onto_first b) (ended_piece end p rest parts.1)

pub last_piece : (end b : ℕ) (p : List ℕ) → without end (b ∷ p) ≡ true → pieces end (b ∷ p) ≡ (b ∷ p) ∷ []
unfolding pieces without
last_piece end b [] free = cond-false (eqb b end) _ _ (not-true (eqb b end) (and_parts (not (eqb b end)) true free).0)
last_piece end b (d ∷ p) free =
    let parts = and_parts (not (eqb b end)) (without end (d ∷ p)) free in
    cond-false (eqb b end) _ _ (not-true (eqb b end) parts.0) ∙ ap (onto_first b) (last_piece end d p parts.1)

pub without_append : (end : ℕ) (p q : List ℕ) → without end p ≡ true → without end q ≡ true → without end (p ++ q) ≡ true
unfolding without
without_append end [] q h k = k
without_append end (b ∷ p) q h k =
    let parts = and_parts (not (eqb b end)) (without end p) h in
    and_from (not (eqb b end)) _ parts.0 (without_append end p q parts.1 k)

-- the parts of a word
free_of_spaces : (w : List ℕ) → is_word w ≡ true → without 32 w ≡ true
free_of_spaces w h = (and_parts (without 32 w) (without 10 w) (and_parts (not (eqb (length w) 0)) _ h).1).0

free_of_ends : (w : List ℕ) → is_word w ≡ true → without 10 w ≡ true
free_of_ends w h = (and_parts (without 32 w) (without 10 w) (and_parts (not (eqb (length w) 0)) _ h).1).1

-- the first word of a line stays in front
front_word : (w : List ℕ) (ps : List (List ℕ)) → is_word w ≡ true → filled (w ∷ ps) ≡ w ∷ filled ps
unfolding filled
front_word [] ps h = absurd (search rules)
front_word (b ∷ w) ps h = refl

pub words_of_spaced : (ws : List (List ℕ)) → AllByRecursion (λ w. is_word w ≡ true) ws → words (spaced ws) ≡ ws
unfolding pieces filled
words_of_spaced [] all = refl
words_of_spaced ([] ∷ ws) all = absurd (search rules)
words_of_spaced ((b ∷ w) ∷ []) all =
    ap words (append-nil (b ∷ w)) ∙ ap filled (last_piece 32 b w (free_of_spaces (b ∷ w) all.0))
words_of_spaced ((b ∷ w) ∷ v ∷ ws) all =
    ap filled (ended_piece 32 (b ∷ w) (spaced (v ∷ ws)) (free_of_spaces (b ∷ w) all.0))
    ∙ ap (λ l. (b ∷ w) ∷ l) (words_of_spaced (v ∷ ws) all.1)

-- a line of words has no end inside
pub spaced_has_no_end : (ws : List (List ℕ)) → AllByRecursion (λ w. is_word w ≡ true) ws → without 10 (spaced ws) ≡ true
unfolding without
spaced_has_no_end [] all = refl
spaced_has_no_end (w ∷ []) all = without_append 10 w [] (free_of_ends w all.0) refl
spaced_has_no_end (w ∷ v ∷ ws) all = without_append 10 w (32 ∷ spaced (v ∷ ws)) (free_of_ends w all.0) (spaced_has_no_end (v ∷ ws) all.1)

pub lines_of_ended : (ls : List (List ℕ)) → AllByRecursion (λ l. without 10 l ≡ true) ls → lines (ended ls) ≡ ls
unfolding pieces
lines_of_ended [] all = refl
lines_of_ended (l ∷ ls) all =
    ap lines (append_assoc l (10 ∷ []) (ended ls)) ∙ ended_piece 10 l (ended ls) all.0 ∙ ap (λ m. l ∷ m) (lines_of_ended ls all.1)

-- decimal numbers
own : IsNumeralModel (λ ds. all_digits ds ≡ true) (worth_after 0)
unfolding all_digits worth_after
own = numerals_by_fold _ (search rules) worth_after (search rules)

pub number_of_decimal : (n : ℕ) → Small n → number (decimal n) ≡ Some n
number_of_decimal n small =
    let h : n < 2 ^ 64 = omega arith in
    let worth = digits_value-decimal own n h in
    cond-true _ _ _ (and_from _ _ (not_from_false _ (ne_eqb (length (decimal n)) 0 (λ e. omega (arith, decimal_nonempty n h))))
    (and_from _ _ (digits_decimal own n h) (le-leb _ 4294967295 (omega (arith, worth))))) ∙ ap Some worth

-- a decimal number is a word
digits_are_free : (end : ℕ) (ds : List ℕ) → end < 48 → all_digits ds ≡ true → without end ds ≡ true
unfolding all_digits without
digits_are_free end [] h all = refl
digits_are_free end (b ∷ ds) h all =
    let parts = and_parts (is_digit b) (all_digits ds) all in
    let low = (and_parts (leb 48 b) (leb b 57) parts.0).0 in
    and_from _ _ (not_from_false _ (ne_eqb b end (λ e. omega (arith, leb-true 48 b low)))) (digits_are_free end ds h parts.1)

pub decimal_is_a_word : (n : ℕ) → Small n → is_word (decimal n) ≡ true
decimal_is_a_word n small =
    let h : n < 2 ^ 64 = omega arith in
    let digits = digits_decimal own n h in
    and_from _ _ (not_from_false _ (ne_eqb (length (decimal n)) 0 (λ e. omega (arith, decimal_nonempty n h))))
    (and_from _ _ (digits_are_free 32 (decimal n) (omega arith) digits) (digits_are_free 10 (decimal n) (omega arith) digits))

pub decimals_are_words : (ns : List ℕ) → AllByRecursion Small ns → AllByRecursion (λ w. is_word w ≡ true) (map decimal ns)
decimals_are_words [] all = tt
decimals_are_words (n ∷ ns) all = (decimal_is_a_word n all.0, decimals_are_words ns all.1)

pub numbers_of_decimals : (ns : List ℕ) → AllByRecursion Small ns → numbers (map decimal ns) ≡ Some ns
unfolding numbers
numbers_of_decimals [] all = refl
numbers_of_decimals (n ∷ ns) all = ap (λ o. before o (numbers (map decimal ns))) (number_of_decimal n all.0) ∙ ap (before (Some n)) (numbers_of_decimals ns all.1)
