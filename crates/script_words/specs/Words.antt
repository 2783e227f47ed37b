-- A text in lines, and a line in words.
use Rattle.std.specs.Prelude.{ℕ, cond, List, [], ◌∷◌, ◌==◌}

-- a byte before the first of some pieces, or as a piece of its own where there is none
abbrev pub onto_first : ℕ → List (List ℕ) → List (List ℕ)
onto_first b [] = (b ∷ []) ∷ []
onto_first b (piece ∷ more) = (b ∷ piece) ∷ more

-- The pieces of a text, each ended by the byte, which is part of none. The last may lack it.
unfoldable pub pieces : ℕ → List ℕ → List (List ℕ)
pieces end [] = []
pieces end (b ∷ bs) = cond (b == end) ([] ∷ pieces end bs) (onto_first b (pieces end bs))

-- the pieces that hold a byte
unfoldable pub filled : List (List ℕ) → List (List ℕ)
filled [] = []
filled ([] ∷ more) = filled more
filled ((b ∷ bs) ∷ more) = (b ∷ bs) ∷ filled more

-- A line ends at byte 10.
abbrev pub lines : List ℕ → List (List ℕ)
lines text = pieces 10 text

-- The words of a line are its longest runs of bytes other than 32.
abbrev pub words : List ℕ → List (List ℕ)
words line = filled (pieces 32 line)
