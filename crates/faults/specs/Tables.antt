-- A table of refusals: rows of a test and a fault, in the order in which a call checks them.
use Rattle.std.specs.Prelude.{◌≡◌, ℕ, zero, suc, ◌<◌, ◌≤◌, Bool, true, false, cond, List, [], ◌∷◌, Some, None, Option, nat_lt}
use Rattle.faults.specs.declared.fault.Fault.{Fault}

-- the fault of the first row whose test holds, if one does
abbrev pub first_fault : List (Bool × Fault) → Option Fault
first_fault [] = None
first_fault (row ∷ rows) = cond row.0 (Some row.1) (first_fault rows)

-- the first index below n at which the test holds, or n where there is none
unfoldable pub first_index : (ℕ → Bool) → ℕ → ℕ
first_index test zero = 0
first_index test (suc n) = cond (nat_lt (first_index test n) n) (first_index test n) (cond (test n) n (suc n))

-- that it is: at most n; the test holds at it where it is below n, and nowhere before it
abbrev pub TheFirstIndexIsTheFirst : Type 0
TheFirstIndexIsTheFirst =
    (test : ℕ → Bool) (n : ℕ)
    → (first_index test n ≤ n) × (first_index test n < n → test (first_index test n) ≡ true) × ((k : ℕ) → k < first_index test n → test k ≡ false)
