-- The words after a command's name, taken one by one or as numbers.
use Rattle.std.specs.Prelude.{ℕ, Bool, true, cond, ◌&&◌, List, [], ◌∷◌, length, Some, None, Ok, Err, Option, Result, nat_le, nat_lt, slice_index}
use Rattle.std.specs.Option.{ok_or}
use Rattle.script_words.specs.Numbers.{number}
use Rattle.kernels.specs.declared.choice.KernelChoice.{KernelChoice}
use Rattle.script_arguments.specs.declared.mistake.Mistake.{Mistake}
use Rattle.script_arguments.specs.declared.mistake.Mistake.TheVariants.{MissingWord, TooManyWords, NotANumber, SampleTooLarge, NoSuchKernel}
use Rattle.script_arguments.specs.Names.{kernel_of}

-- a value, or the mistake in its place
abbrev pub Reading : Type 0 → Type 0
Reading X = Result X Mistake

-- what follows from a value; a mistake stays
abbrev pub and_then : {X Y : Type 0} → Reading X → (X → Reading Y) → Reading Y
and_then (Ok x) f = f x
and_then (Err m) f = Err m

-- a value as another; a mistake stays
abbrev pub with : {X Y : Type 0} → (X → Y) → Reading X → Reading Y
with f (Ok x) = Ok (f x)
with f (Err m) = Err m

-- Words taken from the front, one by one. A missing word is a mistake, and so is one too many.

-- the first word, and the others
abbrev pub first_word : List (List ℕ) → Reading (List ℕ × List (List ℕ))
first_word [] = Err MissingWord
first_word (word ∷ others) = Ok (word, others)

-- a value, and the words after it
abbrev pub beside : {X : Type 0} → List (List ℕ) → X → X × List (List ℕ)
beside others x = (x, others)

-- the first word as a number up to 4,294,967,295, and as a kernel
abbrev pub first_number : List (List ℕ) → Reading (ℕ × List (List ℕ))
first_number [] = Err MissingWord
first_number (word ∷ others) = with (beside others) (ok_or (number word) NotANumber)

abbrev pub first_kernel : List (List ℕ) → Reading (KernelChoice × List (List ℕ))
first_kernel [] = Err MissingWord
first_kernel (word ∷ others) = with (beside others) (ok_or (kernel_of word) NoSuchKernel)

-- the line's end
abbrev pub no_more : List (List ℕ) → Reading (Unit {0})
no_more [] = Ok tt
no_more (word ∷ others) = Err TooManyWords

-- Numbers alone: first each word must write one, then there must be as many as the command has.

-- a number before those of the other words
abbrev pub before : Option ℕ → Option (List ℕ) → Option (List ℕ)
before None others = None
before (Some n) None = None
before (Some n) (Some ns) = Some (n ∷ ns)

-- the numbers of all words, if each writes one
unfoldable pub numbers : List (List ℕ) → Option (List ℕ)
numbers [] = Some []
numbers (word ∷ others) = before (number word) (numbers others)

-- the number at an index
abbrev pub nth : List ℕ → ℕ → ℕ
nth ns i = slice_index ns i

-- at least n numbers, and exactly n: a missing one is the first mistake
abbrev pub at_least : {X : Type 0} → ℕ → List ℕ → Reading X → Reading X
at_least n ns then = cond (nat_lt (length ns) n) (Err MissingWord) then

abbrev pub exactly : {X : Type 0} → ℕ → List ℕ → Reading X → Reading X
exactly n ns then = at_least n ns (cond (nat_lt n (length ns)) (Err TooManyWords) then)

-- numbers up to 65,535
unfoldable pub all_samples : List ℕ → Bool
all_samples [] = true
all_samples (n ∷ ns) = nat_le n 65535 && all_samples ns

-- numbers that are all samples
abbrev pub samples : List ℕ → Reading (List ℕ)
samples ns = cond (all_samples ns) (Ok ns) (Err SampleTooLarge)
