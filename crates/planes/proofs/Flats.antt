-- Reads, writes and clearings of a flat store's records.
use Rattle.std.proofs.Common.{◌≡◌, ℕ, ◌+◌, ◌*◌, ◌≤◌, Bool, true, ◌≢◌, List, length, get_or, set, ℤ, Some, None, Option, ap, refl, ◌∙◌, arith, length-set, MatchOption, MatchResult}
use Rattle.std.proofs.lemmas.List.{get_or-set_other}
use Rattle.std.specs.Option.{ok_or}
use Rattle.faults.specs.declared.fault.Fault.TheVariants.{Outside}
use Rattle.planes.specs.declared.cell.Cell.{Cell}
use Rattle.planes.specs.Planes.{Cells, with_at, written, marked, unmarked, PutsNumber, PutsBit}
use Rattle.planes.specs.Rowwise.{rowwise, usable, Inside}
use Rattle.planes.specs.Flat.{flat_picture, flat_numbers, flat_bits, blank, Clears, FlatFrame, flat_still}
use Rattle.planes.proofs.Pictures.{same_picture}
use Rattle.planes.proofs.Rowwise.{rowwise_read, rowwise_set, rowwise_same, rowwise_all, with_at_map, index_of}

-- the element of a place is its record
pub record_read : (R C : ℕ) (xs : List Cell) (i j : ℕ) (o : Option Cell)
    → MatchOption o (Inside R C (length xs) i j → ⊥) (λ x. Inside R C (length xs) i j × (x ≡ get_or xs (i * C + j) x))
    → MatchResult (ok_or o Outside) (λ x. Inside R C (length xs) i j × (x.number ≡ flat_numbers R C xs i j) × (x.bit ≡ flat_bits R C xs i j)) (λ f. (Inside R C (length xs) i j → ⊥) × (f ≡ Outside))
record_read R C xs i j (Some x) h =
    let e = rowwise_read blank R C xs i j x h.0.0 h.0.1 h.1 in
    (h.0, ap (λ (c : Cell). c.number) e, ap (λ (c : Cell). c.bit) e)
record_read R C xs i j None h = (h, refl)

module _ (R C : ℕ) (xs ys : List Cell) where
  -- a record replaced
  module _ (i j : ℕ) (x : Cell) (at : Inside R C (length xs) i j) (e : ys ≡ set xs (i * C + j) x) where
    size_put : length ys ≡ length xs
    size_put = ap length e ∙ length-set xs (i * C + j) x

    records_put : rowwise blank R C ys ≡ with_at (rowwise blank R C xs) i j x
    records_put = rw e (rowwise_set blank R C xs i j x at.0 at.1)

    pub picture_put : (z : ℤ) → x.number ≡ z → flat_picture R C ys ≡ written (flat_picture R C xs) i j z
    picture_put z n =
        same_picture _ _ _ _ _ _ (ap (λ (k : ℕ). usable R C k R) size_put) (ap (λ (k : ℕ). usable R C k C) size_put)
        (ap {B = Cells ℤ} (λ (p : Cells Cell) i j. (p i j).number) records_put ∙ with_at_map (λ (c : Cell). c.number) (rowwise blank R C xs) i j x ∙ ap (with_at (flat_numbers R C xs) i j) n)

    pub bits_put : x.bit ≡ true → flat_bits R C ys ≡ marked (flat_bits R C xs) i j
    bits_put t =
        ap {B = Cells Bool} (λ (p : Cells Cell) i j. (p i j).bit) records_put ∙ with_at_map (λ (c : Cell). c.bit) (rowwise blank R C xs) i j x ∙ ap (with_at (flat_bits R C xs) i j) t

    pub frame_put : (R' C' : ℕ) → R' ≡ R → C' ≡ C → FlatFrame R C xs R' C' ys
    frame_put R' C' a b =
        let other : (k : ℕ) → usable R C (length xs) (R * C) ≤ k → k ≢ i * C + j = (λ k h. omega (arith, index_of R C (length xs) i j at.0 at.1)) in
        record { rows = a; columns = b; size = size_put; beyond = λ k h d. rw e (get_or-set_other xs (i * C + j) k x d (other k h)) }

  -- the bits cleared
  module _ (h : Clears (usable R C (length xs) (R * C)) xs ys) where
    pub picture_cleared : flat_picture R C ys ≡ flat_picture R C xs
    picture_cleared =
        same_picture _ _ _ _ _ _ (ap (λ (k : ℕ). usable R C k R) h.size) (ap (λ (k : ℕ). usable R C k C) h.size)
        (rowwise_same blank R C xs (λ (x : Cell). x.number) ys h.size h.number)

    pub bits_cleared : flat_bits R C ys ≡ unmarked
    bits_cleared = rowwise_all blank R C ys (λ (x : Cell). x.bit) (λ k t. h.front k (rw h.size at t))

    pub frame_cleared : (R' C' : ℕ) → R' ≡ R → C' ≡ C → FlatFrame R C xs R' C' ys
    frame_cleared R' C' a b = record { rows = a; columns = b; size = h.size; beyond = h.beyond }

-- a record set where the place is inside, and its answer
module _ (R C : ℕ) (xs ys : List Cell) (R' C' : ℕ) (a : R' ≡ R) (b : C' ≡ C) (i j : ℕ) (x : Cell) where
  pub puts_number : (z : ℤ) → x.number ≡ z → (o : Option (Unit {0}))
      → MatchOption o ((Inside R C (length xs) i j → ⊥) × (ys ≡ xs)) (λ _. Inside R C (length xs) i j × (ys ≡ set xs (i * C + j) x))
      → PutsNumber (flat_picture R C xs) i j z (flat_picture R' C' ys) (ok_or o Outside)
  puts_number z n (Some v) h = (h.0, rw (a, b) (picture_put R C xs ys i j x h.0 h.1 z n))
  puts_number z n None h = (h.0, refl, rw (a, b, h.1) refl)

  pub puts_bit : x.bit ≡ true → (o : Option (Unit {0}))
      → MatchOption o ((Inside R C (length xs) i j → ⊥) × (ys ≡ xs)) (λ _. Inside R C (length xs) i j × (ys ≡ set xs (i * C + j) x))
      → PutsBit (flat_picture R C xs) (flat_bits R C xs) i j (flat_bits R' C' ys) (ok_or o Outside)
  puts_bit t (Some v) h = (h.0, rw (a, b) (bits_put R C xs ys i j x h.0 h.1 t))
  puts_bit t None h = (h.0, refl, rw (a, b, h.1) refl)

  pub puts_in_frame : (o : Option (Unit {0}))
      → MatchOption o ((Inside R C (length xs) i j → ⊥) × (ys ≡ xs)) (λ _. Inside R C (length xs) i j × (ys ≡ set xs (i * C + j) x))
      → FlatFrame R C xs R' C' ys
  puts_in_frame (Some v) h = frame_put R C xs ys i j x h.0 h.1 R' C' a b
  puts_in_frame None h = rw (a, b, h.1) (flat_still R C xs)
