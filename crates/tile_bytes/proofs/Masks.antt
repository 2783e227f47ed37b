-- One bit of a byte, by shift and mask.
use Rattle.std.proofs.Common.{◌≡◌, ℕ, zero, suc, ◌-◌, ◌/◌, ◌%◌, ◌^◌, ◌<◌, Bool, true, false, cond, not, ◌&&◌, ◌||◌, eqb, refl, ap, ◌∙◌, arith}
use lib.Bits.{bit_and, bit_or}
use Rattle.std.proofs.lemmas.Nat.{mod_below, or_shr, or_mod, and_shr, and_mod, and_mask, one_shl}
use Rattle.std.proofs.lemmas.Bool.{eqb-true}
use Rattle.std.proofs.lemmas.Bool.Decides.{Decides-below_and}
use Rattle.tile_bytes.specs.Bits.{mask, OneBitIsSet, OneBitIsUnset}

pub lowest : (b : ℕ) → bit_and b 1 ≡ b % 2
lowest b = and_mask b 1

-- a test that holds at each of the numbers below n
abbrev every : (ℕ → Bool) → ℕ → Bool
every p zero = true
every p (suc n) = p n && every p n

each : (p : ℕ → Bool) (n : ℕ) → every p n ≡ true → (k : ℕ) → k < n → p k ≡ true
each p n h k l = (Decides-below_and p (λ i. p i ≡ true) (every p) (λ i. ((λ e. e), (λ e. e))) refl (λ _. refl) n).0 h k l

-- digit i of 2^j, and of 255 - 2^j
abbrev one_digit : ℕ → ℕ → Bool
one_digit j i = eqb (2 ^ j / 2 ^ i % 2) (cond (eqb i j) 1 0)

abbrev no_digit : ℕ → ℕ → Bool
no_digit j i = eqb ((255 - 2 ^ j) / 2 ^ i % 2) (cond (eqb i j) 0 1)

digit_of : (j i : ℕ) → j < 8 → i < 8 → 2 ^ j / 2 ^ i % 2 ≡ cond (eqb i j) 1 0
digit_of j i a b = eqb-true _ _ (each (one_digit j) 8 (each (λ q. every (one_digit q) 8) 8 refl j a) i b)

digit_left : (j i : ℕ) → j < 8 → i < 8 → (255 - 2 ^ j) / 2 ^ i % 2 ≡ cond (eqb i j) 0 1
digit_left j i a b = eqb-true _ _ (each (no_digit j) 8 (each (λ q. every (no_digit q) 8) 8 refl j a) i b)

-- a digit of b or 1, and of b and 1
or_digit : (d : ℕ) (t : Bool) → d < 2 → eqb (bit_or d (cond t 1 0)) 1 ≡ (t || eqb d 1)
or_digit zero true h = refl
or_digit zero false h = refl
or_digit (suc zero) true h = refl
or_digit (suc zero) false h = refl
or_digit (suc (suc d)) t h = absurd (omega arith)

and_digit : (d : ℕ) (t : Bool) → d < 2 → eqb (bit_and d (cond t 0 1)) 1 ≡ (not t && eqb d 1)
and_digit zero true h = refl
and_digit zero false h = refl
and_digit (suc zero) true h = refl
and_digit (suc zero) false h = refl
and_digit (suc (suc d)) t h = absurd (omega arith)

mask_is : (m : ℕ) → mask m ≡ 2 ^ (m % 8)
mask_is m = one_shl (m % 8) 8 (mod_below m 8 (omega arith))

pub one_bit_is_set : OneBitIsSet
one_bit_is_set b m k =
    let i = k % 8 in let j = m % 8 in
    let e : bit_or b (mask m) / 2 ^ i % 2 ≡ bit_or (b / 2 ^ i % 2) (cond (eqb i j) 1 0) =
    ap (λ n. n % 2) (or_shr b (mask m) i) ∙ or_mod (b / 2 ^ i) (mask m / 2 ^ i) 1
    ∙ ap (λ n. bit_or (b / 2 ^ i % 2) (n / 2 ^ i % 2)) (mask_is m)
    ∙ ap (bit_or (b / 2 ^ i % 2)) (digit_of j i (mod_below m 8 (omega arith)) (mod_below k 8 (omega arith))) in
    ap (λ n. eqb n 1) e ∙ or_digit (b / 2 ^ i % 2) (eqb i j) (mod_below (b / 2 ^ i) 2 (omega arith))

pub one_bit_is_unset : OneBitIsUnset
one_bit_is_unset b m k =
    let i = k % 8 in let j = m % 8 in
    let e : bit_and b (255 - mask m) / 2 ^ i % 2 ≡ bit_and (b / 2 ^ i % 2) (cond (eqb i j) 0 1) =
    ap (λ n. n % 2) (and_shr b (255 - mask m) i) ∙ and_mod (b / 2 ^ i) ((255 - mask m) / 2 ^ i) 1
    ∙ ap (λ n. bit_and (b / 2 ^ i % 2) ((255 - n) / 2 ^ i % 2)) (mask_is m)
    ∙ ap (bit_and (b / 2 ^ i % 2)) (digit_left j i (mod_below m 8 (omega arith)) (mod_below k 8 (omega arith))) in
    ap (λ n. eqb n 1) e ∙ and_digit (b / 2 ^ i % 2) (eqb i j) (mod_below (b / 2 ^ i) 2 (omega arith))
