-- Numbers and samples, one after the other.
use Rattle.std.proofs.Common.{◌≡◌, ℕ, ◌+◌, ◌<◌, ◌≤◌, true, ◌&&◌, leb, List, [], ◌∷◌, ◌++◌, length, get_or, drop, Some, None, Option, refl, ap, append_assoc}
use Rattle.std.proofs.lemmas.List.{at_drop_more, at_drop_all, append-nil, take_more, take_all}
use Rattle.script_words.specs.Numbers.{number}
use Rattle.script_arguments.specs.Arguments.{before, numbers, all_samples}

-- some numbers before those of the other words
unfoldable pub after : List ℕ → Option (List ℕ) → Option (List ℕ)
after ns None = None
after ns (Some ms) = Some (ns ++ ms)

pub numbers_start : (o : Option (List ℕ)) → after [] o ≡ o
unfolding after
numbers_start None = refl
numbers_start (Some ms) = refl

-- one number on
pub numbers_more : (ns : List ℕ) (word : List ℕ) (others : List (List ℕ)) (n : ℕ) → number word ≡ Some n
    → after ns (numbers (word ∷ others)) ≡ after (ns ++ n ∷ []) (numbers others)
unfolding after numbers
numbers_more ns word others n e = rw e (more (numbers others)) where
  more : (o : Option (List ℕ)) → after ns (before (Some n) o) ≡ after (ns ++ n ∷ []) o
  more None = refl
  more (Some ms) = rw append_assoc

-- a word that is no number
pub numbers_none : (ns : List ℕ) (word : List ℕ) (others : List (List ℕ)) → number word ≡ None → after ns (numbers (word ∷ others)) ≡ None
unfolding after numbers
numbers_none ns word others e = rw e

pub numbers_end : (ns : List ℕ) → after ns (numbers []) ≡ Some ns
unfolding after numbers
numbers_end ns = ap Some (append-nil ns)

-- what is left are samples if the next is one and the others are
pub samples_more : (ns : List ℕ) (i : ℕ) → i < length ns → all_samples (drop i ns) ≡ (leb (get_or ns i 0) 65535 && all_samples (drop (i + 1) ns))
unfolding all_samples
samples_more ns i h = at_drop_more all_samples ns i 0 h

pub samples_end : (ns : List ℕ) (i : ℕ) → length ns ≤ i → all_samples (drop i ns) ≡ true
unfolding all_samples
samples_end ns i h = at_drop_all all_samples ns i h

pub ruleset words_as_numbers = (numbers_start, numbers_more, numbers_none, numbers_end)

pub ruleset numbers_as_samples = (samples_more, samples_end, take_more, take_all)
