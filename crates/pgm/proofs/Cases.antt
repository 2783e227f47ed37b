-- The cases of reading a file, by what its header, its sizes and its samples say.
use Rattle.std.proofs.Common.{◌≡◌, ℕ, ◌*◌, ◌≤◌, [], ◌∷◌, List, length, Some, None, Err, Result, sym, ap, ◌∙◌, subst}
use Rattle.faults.specs.declared.fault.Fault.{Fault}
use Rattle.faults.specs.declared.fault.Fault.TheVariants.{PgmHeader}
use Rattle.faults.specs.Tables.{first_fault}
use Rattle.faults.proofs.FirstFault.{first_in_front, first_behind}
use Rattle.pgm.specs.declared.read.Picture.{Picture}
use Rattle.pgm.specs.Grammar.{Unfitting}
use Rattle.pgm.specs.Reading.{Headed, size_checks, sample_check, checks, Filled, Reads, no_header, declined}

module _ {xs was : List ℕ} {r : Result Picture Fault} {f g : Fault} (e : r ≡ Err f) (d : f ≡ g) where
  pub without_header : (i : ℕ) × Unfitting xs i × (g ≡ PgmHeader i) → Reads xs was r was
  without_header u = subst (λ (t : Result Picture Fault). Reads xs was t was) (sym (e ∙ ap Err (d ∙ u.2))) (no_header u.0 u.1)

  pub by_the_table : (w h p n : ℕ) → Headed xs w h p n → Some g ≡ first_fault (checks xs w h p n (length was)) → Reads xs was r was
  by_the_table w h p n k t = subst (λ (q : Result Picture Fault). Reads xs was q was) (sym e) (declined w h p n f k (sym t ∙ ap Some (sym d)))

-- the fault of the sizes is that of the table
pub by_its_sizes : (xs : List ℕ) (w h p n room : ℕ) (f : Fault) → Some f ≡ first_fault (size_checks w h p n (length xs) room) → Some f ≡ first_fault (checks xs w h p n room)
by_its_sizes xs w h p n room f e = sym (first_in_front (size_checks w h p n (length xs) room) (sample_check xs n p (h * w) ∷ []) f (sym e))

-- A raster with these samples, of lawful sizes.
module _ (xs : List ℕ) (w h p n room : ℕ) (sizes : None ≡ first_fault (size_checks w h p n (length xs) room))
    (bytes : List ℕ) (from top count : ℕ) (same : (bytes ≡ xs) × (from ≡ n) × (top ≡ p) × (count ≡ h * w) × (count ≤ room)) where
  -- its check is the last of the table
  pub by_its_samples : first_fault (sample_check bytes from top count ∷ []) ≡ first_fault (checks xs w h p n room)
  by_its_samples =
      (λ i. first_fault (sample_check (same.0 i) (same.1 i) (same.2 i) (same.3 i) ∷ []))
      ∙ sym (first_behind (size_checks w h p n (length xs) room) (sample_check xs n p (h * w) ∷ []) (sym sizes))

  -- and what it fills is filled with the picture's samples
  pub filled : (was now : List ℕ) → Filled bytes from top count was now → Filled xs n p (h * w) was now
  filled was now = subst (λ (z : Type 0). z) (λ i. Filled (same.0 i) (same.1 i) (same.2 i) (same.3 i) was now)
