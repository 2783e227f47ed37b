-- Steps by their amounts.
use Rattle.std.proofs.Common.{◌≡◌, Bool, true, false, ℤ, ◌+ℤ◌, ◌-ℤ◌, refl, sym}
use Rattle.std.proofs.lemmas.Bool.{false≢true}
use Rattle.wavelets.specs.Lifting.{Amounts}
use Rattle.lifting.specs.Passes.{step_rule, amount_of}

-- what a step makes of a number
pub lowered_is : (odd l : Bool) (K : Amounts) (z a b : ℤ) → l ≡ true → (step_rule odd l).result K z a b ≡ z -ℤ amount_of odd K a b
lowered_is true true K z a b e = refl
lowered_is false true K z a b e = refl
lowered_is true false K z a b e = absurd (false≢true e)
lowered_is false false K z a b e = absurd (false≢true e)

pub raised_is : (odd l : Bool) (K : Amounts) (z a b : ℤ) → l ≡ false → (step_rule odd l).result K z a b ≡ z +ℤ amount_of odd K a b
raised_is true false K z a b e = refl
raised_is false false K z a b e = refl
raised_is true true K z a b e = absurd (false≢true (sym e))
raised_is false true K z a b e = absurd (false≢true (sym e))
