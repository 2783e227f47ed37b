-- Bytes set to 0, part after part.
use Rattle.std.proofs.Common.{◌≡◌, ℕ, ◌+◌, ◌*◌, ◌≤◌, min, Bool, false, cond, ◌||◌, ◌-◌, ◌<◌, List, length, replicate, refl, ◌∙◌, ⊎_elim, arith, rules}
use borrow.Rule.Slice.PartMut.{put_mid}
use Rattle.std.proofs.lemmas.Grind.{common_steps}
use Rattle.std.proofs.lemmas.List.{places, get_or_past}
use Rattle.std.proofs.lemmas.Bool.{cases_lt}
use Rattle.std.proofs.lemmas.Bool.Decides.{nat_tests}
use Rattle.tile_bytes.specs.Bytes.{byte}
use Rattle.tile_bytes.specs.Slots.{Zeroed, between, holds_bits}

zeroed_none : (test : ℕ → Bool) (xs : List ℕ) → ((k : ℕ) → test k ≡ false) → Zeroed test xs xs
zeroed_none test xs none = record { size = refl; each = λ k. let e = none k in grind (arith, nat_tests) }

zeroed_more : (p q r : ℕ → Bool) (xs ys zs : List ℕ) → ((k : ℕ) → r k ≡ (p k || q k)) → Zeroed p xs ys → Zeroed q ys zs → Zeroed r xs zs
zeroed_more p q r xs ys zs is a b = record {
  size = b.size ∙ a.size;
  each = λ k. let e = is k in let f = a.each k in let g = b.each k in grind (arith, nat_tests);
}

-- the bytes from a to before b, as far as there are any, are replaced by zeros
module _ (a b e : ℕ) (xs : List ℕ) (last : e ≡ min b (length xs)) (h : a < e) where
  filled : List ℕ
  filled = put_mid a (e - a) xs (replicate (e - a) 0)

  size_filled : length filled ≡ length xs
  unfolding filled
  size_filled = grind (arith, common_steps)

  before : (k : ℕ) → k < a → byte filled k ≡ byte xs k
  unfolding filled
  before k l = search (rules, places)

  within : (k : ℕ) → a ≤ k → k < e → byte filled k ≡ 0
  unfolding filled
  within k l m = search (rules, places)

  after : (k : ℕ) → e ≤ k → byte filled k ≡ byte xs k
  unfolding filled
  after k l = search (rules, places)

  each_filled : (k : ℕ) → byte filled k ≡ cond (between a b k) 0 (byte xs k)
  each_filled k = ⊎_elim
      (λ l. let f = before k l in grind (arith, nat_tests))
      (λ l. ⊎_elim
      (λ m. let f = within k l m in grind (arith, nat_tests))
      (λ m. let f = after k m in let g = get_or_past xs k 0 in grind (arith, nat_tests))
      (cases_lt k e))
      (cases_lt k a)

pub zeroed_part : (a b e : ℕ) (xs ys : List ℕ) → e ≡ min b (length xs) → a < e → ys ≡ replicate (e - a) 0 → Zeroed (between a b) xs (put_mid a (e - a) xs ys)
unfolding filled
zeroed_part a b e xs ys last h is = rw is (record { size = size_filled a b e xs last h; each = each_filled a b e xs last h })

-- the change bits of one slot more
bits_more : (T n k : ℕ) → holds_bits T (n + 1) k ≡ (holds_bits T n k || between (4 + 2 * T + 1056 * n + 1024) (4 + 2 * T + 1056 * n + 1056) k)
bits_more T n k = grind (arith, nat_tests)

pub bits_none : (T : ℕ) (xs : List ℕ) → Zeroed (holds_bits T 0) xs xs
bits_none T xs = zeroed_none (holds_bits T 0) xs (λ k. grind (arith, nat_tests))

pub bits_next : (T n : ℕ) (xs ys zs : List ℕ) → Zeroed (holds_bits T n) xs ys → Zeroed (between (4 + 2 * T + 1056 * n + 1024) (4 + 2 * T + 1056 * n + 1056)) ys zs → Zeroed (holds_bits T (n + 1)) xs zs
bits_next T n xs ys zs a b = zeroed_more (holds_bits T n) _ (holds_bits T (n + 1)) xs ys zs (bits_more T n) a b
