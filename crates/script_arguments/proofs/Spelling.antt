-- A word that is compared byte by byte.
use Rattle.std.proofs.Common.{◌≡◌, ℕ, ◌+◌, ◌<◌, Bool, false, ◌&&◌, eqb, List, [], ◌∷◌, length, get_or, refl, arith}
use Rattle.std.proofs.lemmas.Grind.{common_steps}
use Rattle.std.specs.Str.{bytes_eq}

-- whether the bytes of a word from an index on are these, and no more
abbrev pub reads : List ℕ → ℕ → List ℕ → Bool
reads word i [] = eqb (length word) i
reads word i (b ∷ bs) = eqb (get_or word i 0) b && reads word (i + 1) bs

reads_past : (word : List ℕ) (i : ℕ) (bs : List ℕ) → length word < i → reads word i bs ≡ false
reads_past word i [] h = grind (arith, common_steps)
reads_past word i (b ∷ bs) h = let more = reads_past word (i + 1) bs (omega arith) in grind (arith, common_steps)

reads_on : (c : ℕ) (word : List ℕ) (i : ℕ) (bs : List ℕ) → reads (c ∷ word) (i + 1) bs ≡ reads word i bs
reads_on c word i [] = grind (arith, common_steps)
reads_on c word i (b ∷ bs) = let more = reads_on c word (i + 1) bs in grind (arith, common_steps)

pub bytes_are_read : (word bs : List ℕ) → bytes_eq word bs ≡ reads word 0 bs
bytes_are_read [] [] = refl
bytes_are_read [] (b ∷ bs) = let none = reads_past [] 1 bs (omega arith) in grind (arith, common_steps)
bytes_are_read (c ∷ word) [] = grind (arith, common_steps)
bytes_are_read (c ∷ word) (b ∷ bs) = let on = reads_on c word 0 bs in let more = bytes_are_read word bs in grind (arith, common_steps)
