-- The head of a file that is being formatted.
use Rattle.std.proofs.Common.{◌≡◌, ℕ, ◌+◌, ◌*◌, ◌<◌, ◌≤◌, false, ◌⊎◌, List, length, refl, ap, ◌∙◌, inl, inr, ⊎_elim, arith}
use Rattle.std.proofs.lemmas.Nat.{mul-le}
use Rattle.std.proofs.lemmas.Bool.{cases_eq, cond-true, cond-false}
use Rattle.std.proofs.lemmas.Bool.Decides.{nat_tests}
use Rattle.frames.specs.Frames.{two_bytes}
use Rattle.tile_bytes.specs.Bytes.{byte, word, with_two}
use Rattle.tile_bytes.specs.Layout.{tiles_along, tile_count, slots_end, slot_of}
use Rattle.tile_bytes.specs.Slots.{Zeroed, in_slots}
use Rattle.tile_bytes.proofs.Writes.{length_bytes, other_bytes, word_two}
use Rattle.tiles.specs.Formatting.{Numbered, Formatted}
use Rattle.tiles.proofs.SameHead.{same_word, before_slots}

pub tiles_few : (R C : ℕ) → R ≤ 4096 → C ≤ 4096 → tile_count R C ≤ 65536
tiles_few R C a b = mul-le (tiles_along R) (tiles_along C) 256 256 (omega arith) (omega arith)

pub numbered_none : (xs : List ℕ) → Numbered 0 xs xs
numbered_none xs = record { size = refl; slots = λ t h. absurd (omega arith); others = λ k h. refl }

pub numbered_more : (n : ℕ) (xs ys zs : List ℕ) → n < 65536 → 4 + 2 * (n + 1) ≤ length xs → Numbered n xs ys → zs ≡ with_two ys (4 + 2 * n) (two_bytes n) → Numbered (n + 1) xs zs
numbered_more n xs ys zs small room d e =
    let l = d.size in
    let there : slot_of zs n ≡ n = ap (λ (z : List ℕ). slot_of z n) e ∙ word_two ys (4 + 2 * n) n (omega arith) (omega arith) in
    let other : (k : ℕ) → (k < 4 + 2 * n) ⊎ (4 + 2 * n + 2 ≤ k) → byte zs k ≡ byte ys k = (λ k h. ap (λ (z : List ℕ). byte z k) e ∙ other_bytes ys (4 + 2 * n) (two_bytes n) k h) in
    record {
      size = ap length e ∙ length_bytes ys (4 + 2 * n) (two_bytes n) ∙ d.size;
      slots = λ t h. ⊎_elim
          (λ q. let p : slot_of zs n ≡ n = there in rw q p)
          (λ q. same_word ys zs (4 + 2 * t) (other (4 + 2 * t) (inl (omega arith))) (other (4 + 2 * t + 1) (inl (omega arith))) ∙ d.slots t (omega arith))
          (cases_eq t n);
      others = λ k h. ⊎_elim
          (λ a. other k (inl (omega arith)) ∙ d.others k (inl a))
          (λ a. other k (inr (omega arith)) ∙ d.others k (inr (omega arith)))
          h;
    }

-- after the last slot no byte is in one
after_slots : (T k : ℕ) → slots_end T ≤ k → in_slots T T k ≡ false
after_slots T k h = grind (arith, nat_tests)

-- the sides written, the slots numbered, and all slots zeroed
pub formatted : (R C : ℕ) (xs ss bs ys : List ℕ) → R ≤ 4096 → C ≤ 4096 → slots_end (tile_count R C) ≤ length xs
    → ss ≡ with_two (with_two xs 0 (two_bytes R)) 2 (two_bytes C) → Numbered (tile_count R C) ss bs → Zeroed (in_slots (tile_count R C) (tile_count R C)) bs ys → Formatted R C xs ys
formatted R C xs ss bs ys a b room e n z =
    let T = tile_count R C in
    let first = with_two xs 0 (two_bytes R) in
    let l1 = length_bytes xs 0 (two_bytes R) in
    let l2 = length_bytes first 2 (two_bytes C) in
    let size : length ss ≡ length xs = ap length e ∙ l2 ∙ l1 in
    let kept : (k : ℕ) → in_slots T T k ≡ false → byte ys k ≡ byte bs k = (λ k h. z.each k ∙ cond-false (in_slots T T k) 0 (byte bs k) h) in
    let head : (k : ℕ) → k < 4 → byte ys k ≡ byte ss k = (λ k h. kept k (before_slots T k (omega arith)) ∙ n.others k (inl h)) in
    record {
      size = z.size ∙ n.size ∙ size;
      rows = same_word ss ys 0 (head 0 (omega arith)) (head 1 (omega arith)) ∙ ap (λ (l : List ℕ). word l 0) e
          ∙ same_word first (with_two first 2 (two_bytes C)) 0 (other_bytes first 2 (two_bytes C) 0 (inl (omega arith))) (other_bytes first 2 (two_bytes C) 1 (inl (omega arith)))
          ∙ word_two xs 0 R (omega arith) (omega arith);
      columns = same_word ss ys 2 (head 2 (omega arith)) (head 3 (omega arith)) ∙ ap (λ (l : List ℕ). word l 2) e ∙ word_two first 2 C (omega arith) (omega arith);
      slots = λ t h. same_word bs ys (4 + 2 * t) (kept (4 + 2 * t) (before_slots T (4 + 2 * t) (omega arith))) (kept (4 + 2 * t + 1) (before_slots T (4 + 2 * t + 1) (omega arith))) ∙ n.slots t h;
      zeros = λ k h. z.each k ∙ cond-true (in_slots T T k) 0 (byte bs k) h;
      beyond = λ k h. kept k (after_slots T k h) ∙ n.others k (inr (omega arith)) ∙ ap (λ (l : List ℕ). byte l k) e
          ∙ other_bytes first 2 (two_bytes C) k (inr (omega arith)) ∙ other_bytes xs 0 (two_bytes R) k (inr (omega arith));
    }
