-- What is known of a result whose error was mapped.
use Rattle.std.proofs.Common.{◌≡◌, Ok, Err, Result, MatchResult, sym, subst}
use Rattle.std.specs.Result.{IsErrAnd}
use Rattle.std.proofs.lemmas.Result.{err_from_is_err_and}

pub mapped : {T E D : Type 0} (g : E → D) (P : T → Type 0) (Q : E → Type 0) (r : Result T E) (s : Result T D) → MatchResult r P Q
    → MatchResult r (λ x. s ≡ Ok x) (λ e. IsErrAnd s (λ d. d ≡ g e)) → MatchResult s P (λ d. (e : E) × Q e × (d ≡ g e))
mapped {T} {E} {D} g P Q (Ok x) s h m = subst (λ (t : Result T D). MatchResult t P (λ d. (e : E) × Q e × (d ≡ g e))) (sym m) h
mapped {T} {E} {D} g P Q (Err e) s h m =
    let p = err_from_is_err_and s m in
    subst (λ (t : Result T D). MatchResult t P (λ d. (e : E) × Q e × (d ≡ g e))) (sym p.1) (e, h, p.2)
