-- The header of a PGM file, by its grammar.
use Rattle.std.specs.Prelude.{◌≡◌, ℕ, ◌+◌, ◌-◌, ◌<◌, ◌≤◌, ◌⊎◌, List, [], ◌∷◌, ◌++◌, map, length, take, ◌≢◌}
use Rattle.std.specs.List.{flat_map, AllByRecursion}
use Rattle.std.specs.Int.Digits.{number_from_digits}

-- the bytes 9 to 13 and 32
abbrev pub IsBlank : ℕ → Type 0
IsBlank b = ((9 ≤ b) × (b ≤ 13)) ⊎ (b ≡ 32)

abbrev pub IsDigit : ℕ → Type 0
IsDigit b = (48 ≤ b) × (b ≤ 57)

-- a blank byte, or a comment from '#' to byte 10
abbrev pub Filler : List ℕ → Type 0
Filler xs = ((b : ℕ) × IsBlank b × (xs ≡ b ∷ [])) ⊎ ((cs : List ℕ) × AllByRecursion (λ c. c ≢ 10) cs × (xs ≡ 35 ∷ (cs ++ 10 ∷ [])))

-- one or more of these
abbrev pub Blanks : List ℕ → Type 0
Blanks xs = (fs : List (List ℕ)) × (1 ≤ length fs) × AllByRecursion Filler fs × (xs ≡ flat_map (λ f. f) fs)

-- one to five decimal digits that write n
abbrev pub Numeral : List ℕ → ℕ → Type 0
Numeral ds n = AllByRecursion IsDigit ds × (1 ≤ length ds) × (length ds ≤ 5) × (n ≡ number_from_digits 10 (map (λ d. d - 48) ds))

-- these numbers, each after blanks, and then one blank byte
abbrev pub Numbers : List ℕ → List ℕ → Type 0
Numbers [] xs = (b : ℕ) × IsBlank b × (xs ≡ b ∷ [])
Numbers (n ∷ ns) xs = (g ds ys : List ℕ) × Blanks g × Numeral ds n × Numbers ns ys × (xs ≡ g ++ (ds ++ ys))

abbrev pub HeaderText : List ℕ → List ℕ → Type 0
HeaderText ns xs = (ys : List ℕ) × Numbers ns ys × (xs ≡ 80 ∷ 53 ∷ ys)

-- a whole header, whatever its three numbers
abbrev pub Whole : List ℕ → Type 0
Whole xs = (w h p : ℕ) × HeaderText (w ∷ h ∷ p ∷ []) xs

-- No front of xs is a header. The first i bytes begin one, and no more than these do.
pub record Unfitting (xs : List ℕ) (i : ℕ) : Type 0 where
  pub within : i ≤ length xs
  pub none : (j : ℕ) → Whole (take j xs) → ⊥
  pub begins : (ts : List ℕ) × Whole (take i xs ++ ts)
  pub ends : i < length xs → (ts : List ℕ) → Whole (take (i + 1) xs ++ ts) → ⊥

-- a file begins with at most one header
abbrev pub AtMostOneHeader : Type 0
AtMostOneHeader =
    (xs : List ℕ) (w h p n w2 h2 p2 n2 : ℕ) → n ≤ length xs → n2 ≤ length xs
    → HeaderText (w ∷ h ∷ p ∷ []) (take n xs) → HeaderText (w2 ∷ h2 ∷ p2 ∷ []) (take n2 xs)
    → (w ≡ w2) × (h ≡ h2) × (p ≡ p2) × (n ≡ n2)
