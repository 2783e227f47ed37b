-- The first so many of a slice, or all of it where it has fewer.
use Rattle.std.proofs.Common.{◌≡◌, ℕ, ◌<◌, ◌≤◌, ◌⊎◌, List, length, take, slice_range, Some, None, Option, sym, ap, ◌∙◌, ⊎_elim, arith}
use Rattle.std.specs.Option.{unwrap_or, MatchOption}
use Rattle.std.proofs.lemmas.List.{take_all}
use Rattle.std.proofs.lemmas.Slice.{between_from_start}
use denote.Bor.{Bor}

-- by what getting them and taking the slice in their place say
pub front_or_all : (n : ℕ) (s r : Bor (List ℕ)) (o : Option (Bor (List ℕ))) (P : Bor (List ℕ) → Type 0)
    → MatchOption o ((n < 0) ⊎ (length s.now < n)) (λ x. (0 ≤ n) × (n ≤ length s.now) × (x.now ≡ slice_range s.now 0 n) × P x)
    → r ≡ unwrap_or o s → r.now ≡ take n s.now
front_or_all n s r None P h e = ap (λ x. x.now) e ∙ sym (take_all n s.now (⊎_elim (λ a. omega arith) (λ a. omega arith) h))
front_or_all n s r (Some x) P h e = ap (λ y. y.now) e ∙ h.2 ∙ between_from_start s.now n
