-- The first fault of two tables in a row.
use Rattle.std.proofs.Common.{◌≡◌, ℕ, Bool, true, false, cond, List, [], ◌∷◌, ◌++◌, Some, None, sym, refl, arith}
use Rattle.faults.specs.declared.fault.Fault.{Fault}
use Rattle.faults.specs.Tables.{first_fault}

unequal : (f : Fault) → Some f ≡ None → ⊥
unequal f e = let z : ◌≡◌ {A = ℕ} 0 1 = cc in omega arith

-- a fault of the first table is the fault of both
pub first_in_front : (rows more : List (Bool × Fault)) (f : Fault) → first_fault rows ≡ Some f → first_fault (rows ++ more) ≡ Some f
first_in_front [] more f e = absurd (unequal f (sym e))
first_in_front (row ∷ rows) more f e =
    elim row.0 as (λ b. cond b (Some row.1) (first_fault rows) ≡ Some f → cond b (Some row.1) (first_fault (rows ++ more)) ≡ Some f)
    [ true ↦ λ h. h | false ↦ λ h. first_in_front rows more f h ] e

-- where the first table has none, the fault is that of the second
pub first_behind : (rows more : List (Bool × Fault)) → first_fault rows ≡ None → first_fault (rows ++ more) ≡ first_fault more
first_behind [] more e = refl
first_behind (row ∷ rows) more e =
    elim row.0 as (λ b. cond b (Some row.1) (first_fault rows) ≡ None → cond b (Some row.1) (first_fault (rows ++ more)) ≡ first_fault more)
    [ true ↦ λ h. absurd (unequal row.1 h) | false ↦ λ h. first_behind rows more h ] e
