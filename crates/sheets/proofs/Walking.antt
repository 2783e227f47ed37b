-- Along a row: what a cell is to the runs, and how many cells of a run lie before it.
use Rattle.std.proofs.Common.{◌≡◌, ℕ, zero, suc, ◌+◌, ◌-◌, ◌<◌, ◌≤◌, Bool, true, false, cond, [], ◌++◌, sym, refl, ap, ◌∙◌, append_assoc, append-nil, add-zero, zero-add, add-one, arith}
use Rattle.std.specs.Option.{option_to_list}
use Rattle.std.proofs.lemmas.Bool.Decides.{nat_tests}
use Rattle.planes.specs.Planes.{Cells}
use Rattle.sheets.specs.declared.runs.Part.{Part}
use Rattle.sheets.specs.declared.runs.Part.TheVariants.{Out, Inner, Last}
use Rattle.sheets.specs.Runs.{is_cut, part, still_begun, ended, begun_before, row_runs, runs_from, runs_left, runs}

-- how a cell came to its part
pub data Way (g : ℕ) (b : ℕ → Bool) (C c : ℕ) : Part → Type 0 where
  out : b c ≡ false → Way g b C c Out
  inner : b c ≡ true → is_cut g b C c ≡ false → Way g b C c Inner
  last : b c ≡ true → is_cut g b C c ≡ true → Way g b C c Last

pub way : (g : ℕ) (b : ℕ → Bool) (C c : ℕ) → Way g b C c (part g b C c)
way g b C c = by (b c) refl (is_cut g b C c) refl
  where
    by : (u : Bool) → b c ≡ u → (v : Bool) → is_cut g b C c ≡ v → Way g b C c (cond u (cond v Last Inner) Out)
    by false e v f = out e
    by true e true f = last e f
    by true e false f = inner e f

-- one column more
pub begun_more : (b : ℕ → Bool) (C c : ℕ) → begun_before b C (c + 1) ≡ still_begun (part (begun_before b C c) b C c) (begun_before b C c)
unfolding begun_before
begun_more b C c = ap (begun_before b C) (add-one c)

pub begun_first : (b : ℕ → Bool) (C : ℕ) → 0 ≡ begun_before b C 0
unfolding begun_before
begun_first b C = refl

pub row_runs_more : (b : ℕ → Bool) (r C c : ℕ) → row_runs b r C (c + 1) ≡ row_runs b r C c ++ option_to_list (ended (part (begun_before b C c) b C c) r c (begun_before b C c))
unfolding row_runs
row_runs_more b r C c = ap (row_runs b r C) (add-one c)

pub runs_more : (b : Cells Bool) (C r : ℕ) → runs b (r + 1) C ≡ runs b r C ++ row_runs (b r) r C C
unfolding runs
runs_more b C r = ap (λ n. runs b n C) (add-one r)

-- a run that goes on has at most 15 cells so far, all of them in the row
pub begun_small : (b : ℕ → Bool) (C c : ℕ) → begun_before b C c ≤ 15
unfolding begun_before
begun_small b C zero = omega arith
begun_small b C (suc c) = small (begun_before b C c) _ (way (begun_before b C c) b C c) (begun_small b C c)
  where
    small : (g : ℕ) (p : Part) → Way g b C c p → g ≤ 15 → still_begun p g ≤ 15
    small g Out w h = omega arith
    small g Last w h = omega arith
    small g Inner (inner e f) h = grind (arith, nat_tests)

pub begun_within : (b : ℕ → Bool) (C c : ℕ) → begun_before b C c ≤ c
unfolding begun_before
begun_within b C zero = omega arith
begun_within b C (suc c) = within (begun_before b C c) (part (begun_before b C c) b C c) (begun_within b C c)
  where
    within : (g : ℕ) (p : Part) → g ≤ c → still_begun p g ≤ suc c
    within g Out h = omega arith
    within g Last h = omega arith
    within g Inner h = omega arith

-- no run goes on before an unset bit, nor behind the last column
pub begun_none : (b : ℕ → Bool) (C c : ℕ) → b c ≡ false → begun_before b C c ≡ 0
unfolding begun_before
begun_none b C zero e = refl
begun_none b C (suc c) e = none (begun_before b C c) _ (way (begun_before b C c) b C c)
  where
    none : (g : ℕ) (p : Part) → Way g b C c p → still_begun p g ≡ 0
    none g Out w = refl
    none g Last w = refl
    none g Inner (inner d f) = let h : b (c + 1) ≡ false = ap b (add-one c) ∙ e in grind (arith, nat_tests)

pub begun_all : (b : ℕ → Bool) (C : ℕ) → begun_before b C C ≡ 0
unfolding begun_before
begun_all b zero = refl
begun_all b (suc c) = none (begun_before b (suc c) c) _ (way (begun_before b (suc c) c) b (suc c) c)
  where
    none : (g : ℕ) (p : Part) → Way g b (suc c) c p → still_begun p g ≡ 0
    none g Out w = refl
    none g Last w = refl
    none g Inner (inner d f) = let h : c + 1 ≡ suc c = add-one c in grind (arith, nat_tests)

-- the runs behind those that ended before column c
pub left_more : (b : Cells Bool) (r C c : ℕ) → c < C → runs_left b r C c ≡ option_to_list (ended (part (begun_before (b r) C c) (b r) C c) r c (begun_before (b r) C c)) ++ runs_left b r C (c + 1)
unfolding runs_from
left_more b r C c h = let e : C - c ≡ suc (C - (c + 1)) = omega (arith, add-one (C - (c + 1))) in ap (runs_from (b r) r C c) e

pub left_none : (b : Cells Bool) (r C c : ℕ) → C ≤ c → runs_left b r C c ≡ []
unfolding runs_from
left_none b r C c h = let e : C - c ≡ 0 = omega arith in ap (runs_from (b r) r C c) e

ahead : (b : ℕ → Bool) (r C c n : ℕ) → row_runs b r C c ++ runs_from b r C c n ≡ row_runs b r C (c + n)
unfolding runs_from
ahead b r C c zero = append-nil (row_runs b r C c) ∙ ap (row_runs b r C) (sym (add-zero c))
ahead b r C c (suc n) =
    sym (append_assoc (row_runs b r C c) (option_to_list (ended (part (begun_before b C c) b C c) r c (begun_before b C c))) (runs_from b r C (c + 1) n))
    ∙ ap (λ z. z ++ runs_from b r C (c + 1) n) (sym (row_runs_more b r C c))
    ∙ ahead b r C (c + 1) n
    ∙ ap (row_runs b r C) (omega arith)

-- before the first column all runs of the row are left
pub left_all : (b : Cells Bool) (r C : ℕ) → runs_left b r C 0 ≡ row_runs (b r) r C C
unfolding row_runs
left_all b r C = ap (runs_from (b r) r C 0) (omega arith) ∙ ahead (b r) r C 0 C ∙ ap (row_runs (b r) r C) (zero-add C)

-- and those that ended before a column, with those that are left, are all runs of the row
pub with_the_left : (b : Cells Bool) (r C c : ℕ) → c ≤ C → row_runs (b r) r C c ++ runs_left b r C c ≡ row_runs (b r) r C C
with_the_left b r C c h = let e : c + (C - c) ≡ C = omega arith in ahead (b r) r C c (C - c) ∙ ap (row_runs (b r) r C) e

-- one column more, from what a cell is to the runs
module _ (b : Cells Bool) (r C c g : ℕ) (p : Part) (e : g ≡ begun_before (b r) C c) (f : p ≡ part g (b r) C c) where
  p_is : p ≡ part (begun_before (b r) C c) (b r) C c
  p_is = f ∙ ap (λ n. part n (b r) C c) e

  pub begun_next : still_begun p g ≡ begun_before (b r) C (c + 1)
  begun_next = (λ i. still_begun (p_is i) (e i)) ∙ sym (begun_more (b r) C c)

  pub left_next : c < C → runs_left b r C c ≡ option_to_list (ended p r c g) ++ runs_left b r C (c + 1)
  left_next h = left_more b r C c h ∙ ap (λ o. option_to_list o ++ runs_left b r C (c + 1)) (sym (λ i. ended (p_is i) r c (e i)))
