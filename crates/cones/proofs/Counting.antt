-- A count on the way, stated so that a count of nothing is plainly 0.
use Rattle.std.proofs.Common.{◌≡◌, ℕ, zero, suc, ◌+◌, ◌*◌, ◌<◌, ◌≤◌, Bool, true, false, cond, ap, sym, refl, ◌∙◌, suc-mul, mul-one, add-one, arith}
use Rattle.std.specs.List.{count_by, range_with_len}
use Rattle.std.proofs.lemmas.List.{map-id}
use Rattle.std.proofs.lemmas.List.FromFn.{sum_by-map-range_with_len_more}
use Rattle.wavelets.proofs.Counts.{count_line_more}
use Rattle.wavelets.specs.Lifting.{Cells}
use Rattle.wavelets.specs.Counts.{total, count_line, count_cells}

-- n is the count after m steps, of which t gives the total
abbrev pub After : (ℕ → ℕ) → ℕ → ℕ → Type 0
After t zero n = n ≡ 0
After t (suc m) n = n ≡ t (suc m)

pub after_is : (t : ℕ → ℕ) → t 0 ≡ 0 → (m n : ℕ) → After t m n → n ≡ t m
after_is t none zero n h = h ∙ sym none
after_is t none (suc m) n h = h

pub is_after : (t : ℕ → ℕ) → t 0 ≡ 0 → (m n : ℕ) → n ≡ t m → After t m n
is_after t none zero n h = h ∙ none
is_after t none (suc m) n h = h

-- the totals of the places of a line that pass, and of the cells of C columns
abbrev pub columns_total : (ℕ → Bool) → ℕ → ℕ
columns_total p m = count_line m p

abbrev pub rows_total : ℕ → Cells Bool → ℕ → ℕ
rows_total C p m = count_cells m C p

-- tests that are alike inside count alike, and no more pass than there are cells
total_alike : (n : ℕ) (f g : ℕ → ℕ) → ((i : ℕ) → i < n → f i ≡ g i) → total n f ≡ total n g
unfolding total
total_alike zero f g h = refl
total_alike (suc n) f g h = rw (h n (omega arith), total_alike n f g (λ i l. h i (omega arith)))

pub count_cells_alike : (R C : ℕ) (p q : Cells Bool) → ((r c : ℕ) → r < R → c < C → p r c ≡ q r c) → count_cells R C p ≡ count_cells R C q
unfolding count_cells count_line
count_cells_alike R C p q h = total_alike R _ _ (λ r a. total_alike C _ _ (λ c b. rw (h r c a b)))

total_at_most : (n m : ℕ) (f : ℕ → ℕ) → ((i : ℕ) → f i ≤ m) → total n f ≤ n * m
unfolding total
total_at_most zero m f h = omega arith
total_at_most (suc n) m f h = rw (suc-mul n m) (omega (arith, h n, total_at_most n m f h))

count_line_at_most : (n : ℕ) (p : ℕ → Bool) → count_line n p ≤ n
unfolding count_line
count_line_at_most n p = rw (mul-one n) at (total_at_most n 1 _ (λ i. one_at_most (p i)))
  where
    one_at_most : (b : Bool) → cond {A = ℕ} b 1 0 ≤ 1
    one_at_most true = omega arith
    one_at_most false = omega arith

pub count_cells_at_most : (R C : ℕ) (p : Cells Bool) → count_cells R C p ≤ R * C
unfolding count_cells
count_cells_at_most R C p = total_at_most R C _ (λ r. count_line_at_most C (p r))

-- the places of a line that pass, counted in their order
pub counted : (p : ℕ → Bool) (n : ℕ) → count_by p (range_with_len 0 n) ≡ count_line n p
unfolding count_line total
counted p zero = refl
counted p (suc n) =
    let more : count_by p (range_with_len 0 (n + 1)) ≡ count_by p (range_with_len 0 n) + cond (p n) 1 0
    = rw (map-id (range_with_len 0 (n + 1)), map-id (range_with_len 0 n)) at (sum_by-map-range_with_len_more (λ i. cond {A = ℕ} (p i) 1 0) (λ x. x) 0 n n (omega arith)) in
    rw (add-one n) at (more ∙ ap (λ z. z + cond (p n) 1 0) (counted p n) ∙ sym (count_line_more n p))
