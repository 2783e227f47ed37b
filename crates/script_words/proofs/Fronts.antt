-- One step of taking a text apart.
use Rattle.std.proofs.Common.{◌≡◌, ℕ, zero, suc, ◌+◌, ◌<◌, ◌≤◌, false, true, eqb, List, [], ◌∷◌, length, get_or, take, drop, refl, ap, ◌∙◌, add-one, arith, length-drop, true-eqb, false-eqb}
use Rattle.std.proofs.lemmas.Grind.{common_steps}
use Rattle.std.proofs.lemmas.List.{drop-drop}
use Rattle.std.proofs.lemmas.Bool.{eq-eqb, ne_eqb, cond-true, cond-false}
use Rattle.script_words.specs.Words.{onto_first, pieces}

-- the front of a text, with no end in it and an end or nothing behind it, is its first piece
pub first_piece : (end : ℕ) (text : List ℕ) (n : ℕ) → 0 < length text → n ≤ length text
    → ((k : ℕ) → k < n → get_or text k 0 ≡ end → ⊥) → (n < length text → get_or text n 0 ≡ end)
    → pieces end text ≡ take n text ∷ pieces end (drop (suc n) text)
unfolding pieces
first_piece end [] n some within before there = absurd (omega arith)
first_piece end (b ∷ bs) zero some within before there = cond-true (eqb b end) _ _ (eq-eqb b end (there (omega arith)))
first_piece end (b ∷ []) (suc zero) some within before there = cond-false (eqb b end) _ _ (ne_eqb b end (before 0 (omega arith)))
first_piece end (b ∷ []) (suc (suc n)) some within before there = absurd (omega arith)
first_piece end (b ∷ d ∷ bs) (suc n) some within before there =
    cond-false (eqb b end) _ _ (ne_eqb b end (before 0 (omega arith)))
    ∙ ap (onto_first b) (first_piece end (d ∷ bs) n (omega arith) (omega arith) (λ k h. before (suc k) (omega arith)) (λ h. there (omega arith)))

pub no_pieces : (end : ℕ) (text : List ℕ) → length text ≡ 0 → pieces end text ≡ []
unfolding pieces
no_pieces end [] e = refl
no_pieces end (b ∷ bs) e = absurd (omega arith)

-- The same of a text that was cut at the place n: its first piece, and fewer bytes after it.
pub cut_piece : (end : ℕ) (text piece rest after : List ℕ) (n : ℕ) → false ≡ eqb (length text) 0 → n ≤ length text
    → ((k : ℕ) → k < n → get_or text k 0 ≡ end → ⊥) → (n < length text → get_or text n 0 ≡ end)
    → piece ≡ take n text → rest ≡ drop n text → after ≡ drop 1 rest
    → (pieces end text ≡ piece ∷ pieces end after) × (length after < length text)
cut_piece end text piece rest after n some within before there p r a =
    let full : 0 < length text = omega (arith, false-eqb (length text) 0 some) in
    let e : after ≡ drop (suc n) text = a ∙ ap (drop 1) r ∙ drop-drop 1 n text ∙ ap (λ k. drop k text) (add-one n) in (
      first_piece end text n full within before there ∙ cc,
      omega (arith, ap length e, length-drop (suc n) text),
    )

-- an empty rest goes on with nothing
pub nothing_after : (rest : List ℕ) → true ≡ eqb (length rest) 0 → rest ≡ drop 1 rest
nothing_after [] e = refl
nothing_after (b ∷ bs) e = absurd (omega (arith, true-eqb (suc (length bs)) 0 e))

onto_first_is_longer : (b : ℕ) (ps : List (List ℕ)) → length (onto_first b ps) ≤ length ps + 1
onto_first_is_longer b [] = omega arith
onto_first_is_longer b (p ∷ ps) = omega arith

-- there are no more pieces than bytes
pub pieces_are_few : (end : ℕ) (text : List ℕ) → length (pieces end text) ≤ length text
unfolding pieces
pieces_are_few end [] = omega arith
pieces_are_few end (b ∷ bs) = let few = pieces_are_few end bs in grind (arith, common_steps, onto_first_is_longer b (pieces end bs))
