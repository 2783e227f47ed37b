-- A sum that wraps at 256 is the sum's remainder.
use Rattle.std.proofs.Common.{◌≡◌, ℕ, ◌+◌, ◌%◌, List, [], ◌∷◌, sum, fold, ap, ◌∙◌, arith, rules}
use Rattle.std.proofs.lemmas.List.Sums.{sum_by_from}
use Rattle.frames.proofs.check_byte.Goals as goal

wrapped : (a : ℕ) (xs : List ℕ) → fold (λ s x. (s + x) % 256) (a % 256) xs ≡ (a + sum xs) % 256
wrapped a [] = omega arith
wrapped a (x ∷ xs) =
    let e : (a % 256 + x) % 256 ≡ (a + x) % 256 = omega arith in
    ap (λ b. fold (λ s y. (s + y) % 256) b xs) e ∙ wrapped (a + x) xs ∙ omega (arith, sum_by_from (λ y. y) (0 + x) xs)

pub returns : goal.returns
returns c =
    let e : c.fold-sum.result ≡ fold (λ s x. (s + x) % 256) 0 c.args.frame.now = search rules in
    record { is_the_check_byte = omega (arith, e, wrapped 0 c.args.frame.now) }
