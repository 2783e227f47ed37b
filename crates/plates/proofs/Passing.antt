-- What a call knows that passed its table.
use Rattle.std.proofs.Common.{◌≡◌, ℕ, Bool, true, false, cond, not, List, [], ◌∷◌, is_some, Some, None, Option, sym, refl, ap, arith}
use Rattle.faults.specs.declared.fault.Fault.{Fault}
use Rattle.faults.specs.Tables.{first_fault}

-- no test of a table holds
abbrev pub Passed : List (Bool × Fault) → Type 0
Passed [] = Unit {0}
Passed (row ∷ rows) = (row.0 ≡ false) × Passed rows

pub passed : (rows : List (Bool × Fault)) → first_fault rows ≡ None → Passed rows
passed [] e = tt
passed (row ∷ rows) e =
    elim row.0 as (λ b. row.0 ≡ b → cond b (Some row.1) (first_fault rows) ≡ None → (row.0 ≡ false) × Passed rows)
    [ false ↦ λ q h. (q, passed rows h) | true ↦ λ q h. absurd (let z : ◌≡◌ {A = ℕ} 0 1 = cc in omega arith) ] refl e

pub not_false : (b : Bool) → not b ≡ false → b ≡ true
not_false true e = refl
not_false false e = sym e

pub the_some : {X : Type 0} (o : Option X) → is_some o ≡ true → (x : X) × (o ≡ Some x)
the_some (Some x) e = (x, refl)
the_some None e = absurd (let z : ◌≡◌ {A = ℕ} 0 1 = ap (λ b. cond b 1 0) e in omega arith)
