-- How a script is written: a line for each command, one space between two words, numbers in decimal.
use Rattle.std.specs.Prelude.{◌≡◌, ℕ, ◌≤◌, Bool, true, not, ◌&&◌, List, [], ◌∷◌, ◌++◌, map, length, replicate, pos, codes, decimal, ◌==◌}
use Rattle.std.specs.List.{flat_map, AllByRecursion}
use Rattle.kernels.specs.declared.choice.KernelChoice.{KernelChoice}
use Rattle.kernels.specs.declared.choice.KernelChoice.TheVariants.{FiveThree, STransform}
use Rattle.scripts.specs.Commands.{Start, plate, file, Request, lay, lease, settle, surrender, recall, preview, read, clear, Finish, sheet, save, Commands, blank_record}

-- the words of a line, with one space between each two
abbrev pub spaced : List (List ℕ) → List ℕ
spaced [] = []
spaced (word ∷ others) = word ++ flat_map (λ w. 32 ∷ w) others

-- the lines of a text, each with its end
abbrev pub ended : List (List ℕ) → List ℕ
ended ls = flat_map (λ l. l ++ 10 ∷ []) ls

-- The words of each command.
abbrev pub kernel_word : KernelChoice → List ℕ
kernel_word FiveThree = codes "5/3"
kernel_word STransform = codes "S"

abbrev pub start_words : Start → List (List ℕ)
start_words (plate n k rows columns) = codes "plate" ∷ decimal n ∷ kernel_word k ∷ decimal rows ∷ decimal columns ∷ []
start_words (file path n k) = codes "open" ∷ path ∷ decimal n ∷ kernel_word k ∷ []

abbrev pub request_name : Request → List ℕ
request_name (lay plan xs) = codes "lay"
request_name (lease row column height width) = codes "lease"
request_name (settle n serial scratch xs) = codes "settle"
request_name (surrender n serial) = codes "surrender"
request_name recall = codes "recall"
request_name (preview level row column height width scratch output) = codes "preview"
request_name (read level row column) = codes "read"
request_name clear = codes "clear"

-- of scratch and output the lengths are written
abbrev pub request_numbers : Request → List ℕ
request_numbers (lay plan xs) = plan.rows ∷ plan.columns ∷ plan.top ∷ plan.levels ∷ xs
request_numbers (lease row column height width) = row ∷ column ∷ height ∷ width ∷ []
request_numbers (settle n serial scratch xs) = n ∷ serial ∷ length scratch ∷ xs
request_numbers (surrender n serial) = n ∷ serial ∷ []
request_numbers recall = []
request_numbers (preview level row column height width scratch output) = level ∷ row ∷ column ∷ height ∷ width ∷ length scratch ∷ length output ∷ []
request_numbers (read level row column) = level ∷ row ∷ column ∷ []
request_numbers clear = []

abbrev pub request_words : Request → List (List ℕ)
request_words r = request_name r ∷ map decimal (request_numbers r)

abbrev pub finish_words : Finish → List (List ℕ)
finish_words (sheet issue room) = codes "sheet" ∷ map decimal (issue ∷ room ∷ [])
finish_words (save path) = codes "save" ∷ path ∷ []

abbrev pub written : Commands → List ℕ
written cs = ended (map spaced (start_words cs.start_of ∷ (map request_words cs.requests ++ map finish_words cs.finishes)))

-- What can be written.

-- a text without a byte
unfoldable pub without : ℕ → List ℕ → Bool
without end [] = true
without end (b ∷ bs) = not (b == end) && without end bs

-- a word: one byte or more, no space and no end of a line
abbrev pub is_word : List ℕ → Bool
is_word w = not (length w == 0) && (without 32 w && without 10 w)

abbrev pub Small : ℕ → Type 0
Small n = n ≤ 4294967295

abbrev pub WritableStart : Start → Type 0
WritableStart (plate n k rows columns) = Small n × Small rows × Small columns
WritableStart (file path n k) = (is_word path ≡ true) × Small n

-- samples up to 65,535, and buffers as blank and as short as they can be asked for
abbrev pub Samples : List ℕ → Type 0
Samples xs = AllByRecursion (λ x. x ≤ 65535) xs

abbrev pub FilledWith : {X : Type 0} → X → List X → Type 0
FilledWith x xs = (length xs ≤ 16777216) × (xs ≡ replicate (length xs) x)

abbrev pub Within : Request → Type 0
Within (lay plan xs) = Samples xs
Within (lease row column height width) = Unit {0}
Within (settle n serial scratch xs) = FilledWith blank_record scratch × Samples xs
Within (surrender n serial) = Unit {0}
Within recall = Unit {0}
Within (preview level row column height width scratch output) = FilledWith blank_record scratch × FilledWith (pos 0) output
Within (read level row column) = Unit {0}
Within clear = Unit {0}

abbrev pub WritableRequest : Request → Type 0
WritableRequest r = AllByRecursion Small (request_numbers r) × Within r

abbrev pub WritableFinish : Finish → Type 0
WritableFinish (sheet issue room) = (issue ≤ 65535) × Small room
WritableFinish (save path) = is_word path ≡ true

pub record Writable (cs : Commands) : Type 0 where
  pub start_fits : WritableStart cs.start_of
  pub requests_fit : AllByRecursion WritableRequest cs.requests
  pub finishes_fit : AllByRecursion WritableFinish cs.finishes
