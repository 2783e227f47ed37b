-- Texts that grow piece by piece.
use Rattle.std.proofs.Common.{◌≡◌, ℕ, ◌+◌, List, [], ◌∷◌, ◌++◌, Ok, Err, Result, sym, ap, ◌∙◌, zero-add}
use Rattle.std.specs.List.{range_with_len, flat_map}
use Rattle.faults.specs.declared.fault.Fault.{Fault}
use Rattle.planes.specs.Planes.{Picture, Answers}
use Rattle.std.proofs.lemmas.List.{flat_map_more, map-id}
use Rattle.std.proofs.lemmas.List.FromFn.{map-range_with_len_more}

-- one more number of a count
counting_more : (n : ℕ) → range_with_len 0 (n + 1) ≡ range_with_len 0 n ++ n ∷ []
counting_more n = simp map-id at (map-range_with_len_more (λ (x : ℕ). x) 0 n n (zero-add n))

-- a text that grew by another
pub grown : (s t u a b : List ℕ) → t ≡ s ++ u → s ≡ a → u ≡ b → t ≡ a ++ b
grown s t u a b p e f = p ∙ ap (λ q. q ++ u) e ∙ ap (λ q. a ++ q) f

-- an answer that is given is what was asked for
pub answered : {A : Type 0} (p : Picture) (i j : ℕ) (x v : A) (r : Result A Fault) → Answers p i j x r → r ≡ Ok v → v ≡ x
answered p i j x v (Ok w) a e = let f = a.1 in cc
answered p i j x v (Err w) a e = cc

-- one piece more, by the number of a count
pub next_of_count : (f : ℕ → List ℕ) (front : List ℕ) (i : ℕ) → (front ++ flat_map f (range_with_len 0 i)) ++ f i ≡ front ++ flat_map f (range_with_len 0 (i + 1))
next_of_count f front i = flat_map_more f front (range_with_len 0 i) i ∙ ap (λ q. front ++ flat_map f q) (sym (counting_more i))
