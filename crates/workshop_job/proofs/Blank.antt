-- A flat store of blank records.
use Rattle.std.proofs.Common.{◌≡◌, ℕ, zero, suc, ◌+◌, ◌*◌, Bool, true, false, cond, ◌&&◌, ltb, List, length, get_or, replicate, is_some, Some, None, sym, refl, ap, ◌∙◌, subst, arith}
use Rattle.std.proofs.lemmas.Bool.Decides.{nat_tests}
use lib.ListN.{length-replicate}
use Rattle.faults.specs.declared.fault.Fault.{Fault}
use Rattle.planes.specs.declared.cell.Cell.{Cell}
use Rattle.planes.specs.Flat.{blank, flat_fault, flat_picture, flat_bits, made_side}
use Rattle.planes.specs.Planes.{Cells, Picture}
use Rattle.planes.specs.Rowwise.{usable, rowwise}
use Rattle.kernels.specs.declared.choice.KernelChoice.{KernelChoice}
use Rattle.kernels.specs.Choices.{choice_amounts, choice_code}
use Rattle.plates.specs.Shows.{View}
use Rattle.plates.specs.declared.calls.Turn.{Turn}
use Rattle.answers.specs.Lines.{fault_line}
use Rattle.scripts.specs.declared.script.Ending.{Ending}
use Rattle.workshop_job.specs.Performances.{records, blank_view, Performed, PerformedFlat, no_store, on_the_store}

-- the memory of a store's own area is never too short
same_fault : (R C L : ℕ) → L ≡ records R C → flat_fault R C L ≡ flat_fault R C (R * C)
same_fault R C L e = grind (arith, nat_tests)

made_sides : (R C L n : ℕ) → flat_fault R C L ≡ None → made_side R C L n ≡ n
made_sides R C L n e = ap (λ q. cond (is_some q) 0 n) e

all_records : (R C L : ℕ) → flat_fault R C L ≡ None → records R C ≡ R * C
all_records R C L e = grind (arith, nat_tests)

get_or_blank : (n i : ℕ) → get_or (replicate n blank) i blank ≡ blank
get_or_blank zero i = refl
get_or_blank (suc n) zero = refl
get_or_blank (suc n) (suc i) = get_or_blank n i

cond_same : (t : Bool) (x : Cell) → cond t x x ≡ x
cond_same true x = refl
cond_same false x = refl

rowwise_blank : (R C n i j : ℕ) → rowwise blank R C (replicate n blank) i j ≡ blank
rowwise_blank R C n i j =
    let t = ltb i (usable R C (length (replicate n blank)) R) && ltb j (usable R C (length (replicate n blank)) C) in
    ap (λ q. cond t q blank) (get_or_blank n (i * C + j)) ∙ cond_same t blank

-- a plate just made over a flat store
abbrev pub flat_view : ℕ → KernelChoice → ℕ → ℕ → List Cell → View
flat_view n k R C xs = record {
  number = n;
  height = (flat_picture R C xs).height;
  width = (flat_picture R C xs).width;
  amounts = choice_amounts k;
  cells = (flat_picture R C xs).number;
  bits = flat_bits R C xs;
  plan = None;
  lease = None;
  serial = 0;
}

all_usable : (R C L n : ℕ) → L ≡ R * C → usable R C L n ≡ n
all_usable R C L n e = grind (arith, nat_tests)

view_of_blank : (n : ℕ) (k : KernelChoice) (R C : ℕ) → flat_view n k R C (replicate (R * C) blank) ≡ blank_view n k R C
view_of_blank n k R C =
    let h = all_usable R C (length (replicate (R * C) blank)) R (length-replicate (R * C) blank) in
    let w = all_usable R C (length (replicate (R * C) blank)) C (length-replicate (R * C) blank) in
    let b = rowwise_blank R C (R * C) in
    λ i. record {
      number = n;
      height = h i;
      width = w i;
      amounts = choice_amounts k;
      cells = λ r c. (b r c i).number;
      bits = λ r c. (b r c i).bit;
      plan = None;
      lease = None;
      serial = 0;
    }

-- where there can be no store, its fault is printed
pub faulted : (n : ℕ) (k : KernelChoice) (R C L : ℕ) (ts : List Turn) (es : List Ending) (f : Fault) (text : List ℕ)
    → L ≡ records R C → Some f ≡ flat_fault R C L → text ≡ fault_line f → PerformedFlat n k R C ts ts es text
faulted n k R C L ts es f text l e m = no_store f (sym (same_fault R C L l) ∙ sym e) refl m

-- and otherwise the calls ran on a plate over blank records
pub performed : (n : ℕ) (k : KernelChoice) (R C L : ℕ) (rows columns : ℕ) (xs : List Cell) (ts us : List Turn) (es : List Ending) (p : Picture) (b : Cells Bool) (text : List ℕ)
    → L ≡ records R C → None ≡ flat_fault R C L → xs ≡ replicate (records R C) blank → rows ≡ made_side R C L R → columns ≡ made_side R C L C
    → Performed (flat_view n k rows columns xs) (choice_code k) ts us es p b text → PerformedFlat n k R C ts us es text
performed n k R C L rows columns xs ts us es p b text l e x h w d =
    let P : View → Type 0 = λ v. Performed v (choice_code k) ts us es p b text in
    let area = all_records R C L (sym e) in
    let same : flat_view n k rows columns xs ≡ blank_view n k R C =
    ap (λ q. flat_view n k q columns xs) (h ∙ made_sides R C L R (sym e))
    ∙ ap (λ q. flat_view n k R q xs) (w ∙ made_sides R C L C (sym e))
    ∙ ap (flat_view n k R C) (x ∙ ap (λ q. replicate q blank) area)
    ∙ view_of_blank n k R C in
    on_the_store p b (sym (same_fault R C L l) ∙ sym e) (subst P same d)
