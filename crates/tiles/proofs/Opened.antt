-- What an opened file is known to be.
use Rattle.std.proofs.Common.{◌≡◌, ℕ, ◌<◌, ◌≤◌, Bool, true, false, cond, eqb, ltb, leb, List, length, is_some, Some, Option, sym, refl, ap, ⊎_elim, arith}
use Rattle.std.proofs.lemmas.Bool.{true≢false, ltb-false, leb-false, eq-eqb, or_parts, cond-true, cond-false, cases_Bool, cases_order, both_ways}
use Rattle.std.proofs.lemmas.Bool.Decides.{nat_tests}
use Rattle.faults.specs.declared.fault.Fault.{Fault}
use Rattle.faults.specs.Tables.{first_index}
use Rattle.faults.proofs.FirstIndex.{fails_before}
use Rattle.planes.specs.Flat.{bad_side}
use Rattle.tile_bytes.specs.Layout.{slot_of, slots_end}
use Rattle.tiles.specs.Opening.{rows_said, columns_said, tiles_said, occurs, bad_slot, first_bad_slot, tile_fault, height, width, Sound, AnOpenedFileIsSound}

-- the sides are those in the head where there is no fault, and otherwise 0
pub sides_said : (xs : List ℕ) → is_some (tile_fault xs) ≡ false → (height xs ≡ rows_said xs) × (width xs ≡ columns_said xs)
unfolding height width
sides_said xs h = (cond-false (is_some (tile_fault xs)) 0 (rows_said xs) h, cond-false (is_some (tile_fault xs)) 0 (columns_said xs) h)

pub no_sides : (xs : List ℕ) → is_some (tile_fault xs) ≡ true → (height xs ≡ 0) × (width xs ≡ 0)
unfolding height width
no_sides xs h = (cond-true (is_some (tile_fault xs)) 0 (rows_said xs) h, cond-true (is_some (tile_fault xs)) 0 (columns_said xs) h)

-- a row of a table that does not hold
pub passed : (b : Bool) (f : Fault) (o : Option Fault) → is_some (cond b (Some f) o) ≡ false → (b ≡ false) × (is_some o ≡ false)
passed true f o h = absurd (true≢false h)
passed false f o h = (refl, h)

some : (n : ℕ) → bad_side n ≡ false → 0 < n
some n h = grind (arith, nat_tests)

few : (n : ℕ) → bad_side n ≡ false → n ≤ 4096
few n h = grind (arith, nat_tests)

-- what occurs nowhere below n holds at no index there
nowhere : (test : ℕ → Bool) (n k : ℕ) → occurs test n ≡ false → k < n → test k ≡ false
nowhere test n k h l = fails_before test n k (omega (arith, ltb-false (first_index test n) n h))

module _ (xs : List ℕ) (T : ℕ) (good : ltb (first_bad_slot T xs) T ≡ false) where
  not_bad : (t : ℕ) → t < T → (leb T (slot_of xs t) ≡ false) × (occurs (λ k. eqb (slot_of xs k) (slot_of xs t)) t ≡ false)
  not_bad t h = or_parts (leb T (slot_of xs t)) (occurs (λ k. eqb (slot_of xs k) (slot_of xs t)) t) (nowhere (bad_slot T xs) T t good h)

  slots_below : (t : ℕ) → t < T → slot_of xs t < T
  slots_below t h = leb-false T (slot_of xs t) (not_bad t h).0

  not_twice : (t u : ℕ) → t < u → u < T → slot_of xs t ≡ slot_of xs u → ⊥
  not_twice t u l h e = both_ways (eqb (slot_of xs t) (slot_of xs u)) (nowhere (λ k. eqb (slot_of xs k) (slot_of xs u)) u t (not_bad u h).1 l) (eq-eqb (slot_of xs t) (slot_of xs u) e)

  slots_apart : (t u : ℕ) → t < T → u < T → slot_of xs t ≡ slot_of xs u → t ≡ u
  slots_apart t u h k e = ⊎_elim (λ q. q) (⊎_elim (λ l. absurd (not_twice t u l k e)) (λ l. absurd (not_twice u t l h (sym e)))) (cases_order t u)

sound_said : (xs : List ℕ) → is_some (tile_fault xs) ≡ false → Sound (rows_said xs) (columns_said xs) xs
sound_said xs h =
    let a = passed _ _ _ h in
    let b = passed _ _ _ a.1 in
    let c = passed _ _ _ b.1 in
    let d = passed _ _ _ c.1 in
    let s = or_parts (bad_side (rows_said xs)) (bad_side (columns_said xs)) b.0 in
    record {
      some_rows = some (rows_said xs) s.0;
      some_columns = some (columns_said xs) s.1;
      rows_few = few (rows_said xs) s.0;
      columns_few = few (columns_said xs) s.1;
      room = ltb-false (length xs) (slots_end (tiles_said xs)) c.0;
      below = slots_below xs (tiles_said xs) d.0;
      apart = slots_apart xs (tiles_said xs) d.0;
    }

pub an_opened_file_is_sound : AnOpenedFileIsSound
an_opened_file_is_sound xs e = let h : is_some (tile_fault xs) ≡ false = ap is_some e in let s = sides_said xs h in (s.0, s.1, sound_said xs h)

-- a file that has a row is sound
pub sound_opened : (xs : List ℕ) (r : ℕ) → r < height xs → Sound (height xs) (width xs) xs
sound_opened xs r l = ⊎_elim
    (λ h. let e = no_sides xs h in absurd (omega arith))
    (λ h. let e = sides_said xs h in rw (e.0, e.1) (sound_said xs h))
    (cases_Bool (is_some (tile_fault xs)))
