-- Plates over tile files, as they are and as they are made.
use Rattle.std.proofs.Common.{◌≡◌, ℕ, ◌≤◌, cond, List, length, is_some, Some, None, Option, sym, refl, ap, ◌∙◌, subst, arith}
use Rattle.std.proofs.lemmas.Bool.Decides.{nat_tests}
use Rattle.faults.specs.declared.fault.Fault.{Fault}
use Rattle.kernels.specs.declared.choice.KernelChoice.{KernelChoice}
use Rattle.kernels.specs.Choices.{choice_amounts, choice_code}
use Rattle.planes.specs.Planes.{Picture}
use Rattle.tiles.specs.Opening.{tile_fault, height, rows_said}
use Rattle.tiles.specs.Formatting.{format_fault, Formatted}
use Rattle.tiles.specs.Files.{file_picture, file_bits}
use Rattle.tiles.proofs.Blank.{a_formatted_file_is_blank}
use Rattle.plates.specs.declared.calls.Turn.{Turn}
use Rattle.plates.specs.Shows.{View}
use Rattle.answers.specs.Lines.{fault_line}
use Rattle.scripts.specs.declared.script.Ending.{Ending}
use Rattle.workshop_job.specs.Performances.{Performed, blank_view}
use Rattle.workshop_job.specs.Files.{file_view, new_length, PerformedFile, no_file, on_the_file, PerformedNewFile, no_new_file, on_the_new_file}

-- the bytes that were opened are those that were handed in, and those handed back are the store's
pub filed : (n : ℕ) (k : KernelChoice) (xs zs ys ws : List ℕ) (ts us : List Turn) (es : List Ending) (text : List ℕ)
    → tile_fault xs ≡ None → zs ≡ xs → ws ≡ ys → Performed (file_view n k zs) (choice_code k) ts us es (file_picture ys) (file_bits ys) text
    → PerformedFile n k xs ts us es text (Some ws)
filed n k xs zs ys ws ts us es text e z w p =
    let P : List ℕ → Type 0 = λ q. Performed (file_view n k q) (choice_code k) ts us es (file_picture ys) (file_bits ys) text in
    let Q : List ℕ → Type 0 = λ q. Performed (file_view n k xs) (choice_code k) ts us es (file_picture q) (file_bits q) text in
    on_the_file ws e (subst Q (sym w) (subst P z p))

-- a file with a fault has no rows
no_rows : (xs : List ℕ) (f : Fault) → tile_fault xs ≡ Some f → height xs ≡ 0
unfolding height
no_rows xs f e = ap (λ o. cond (is_some o) 0 (rows_said xs)) e

some_rows : (R C L : ℕ) → format_fault R C L ≡ None → 1 ≤ R
some_rows R C L e = grind (arith, nat_tests)

-- a plate over a file that was just formatted
blank_file : (n : ℕ) (k : KernelChoice) (R C : ℕ) (xs ys : List ℕ) → format_fault R C (length xs) ≡ None → Formatted R C xs ys → file_view n k ys ≡ blank_view n k R C
blank_file n k R C xs ys e d =
    let b = a_formatted_file_is_blank R C xs ys e d in
    let V : Picture → View = λ p. record { number = n; height = p.height; width = p.width; amounts = choice_amounts k; cells = p.number; bits = file_bits ys; plan = None; lease = None; serial = 0 } in
    ap V b.0 ∙ ap (λ z. record { number = n; height = R; width = C; amounts = choice_amounts k; cells = (blank_view n k R C).cells; bits = z; plan = None; lease = None; serial = 0 }) b.1

pub new_of_file : (n : ℕ) (k : KernelChoice) (R C : ℕ) (xs ys : List ℕ) (ts us : List Turn) (es : List Ending) (text : List ℕ) (o : Option (List ℕ))
    → length xs ≡ new_length R C → format_fault R C (length xs) ≡ None → Formatted R C xs ys
    → PerformedFile n k ys ts us es text o → PerformedNewFile n k R C ts us es text o
new_of_file n k R C xs ys ts us es text _ l e d (no_file f g s t) =
    let b = a_formatted_file_is_blank R C xs ys e d in
    let r = ap (λ (p : Picture). p.height) b.0 in
    absurd (omega (arith, no_rows ys f g, r, some_rows R C (length xs) e))
new_of_file n k R C xs ys ts us es text _ l e d (on_the_file zs g p) =
    let P : View → Type 0 = λ v. Performed v (choice_code k) ts us es (file_picture zs) (file_bits zs) text in
    on_the_new_file zs (ap (format_fault R C) (sym l) ∙ e) (subst P (blank_file n k R C xs ys e d) p)

-- where there is no file, its fault is printed
pub refused : (n : ℕ) (k : KernelChoice) (xs : List ℕ) (ts : List Turn) (es : List Ending) (f : Fault) (text : List ℕ) (o : Option (List ℕ))
    → tile_fault xs ≡ Some f → text ≡ fault_line f → o ≡ None → PerformedFile n k xs ts ts es text o
refused n k xs ts es f text o e t q = rw q (no_file f e refl t)

pub new_refused : (n : ℕ) (k : KernelChoice) (R C L : ℕ) (ts : List Turn) (es : List Ending) (f : Fault) (text : List ℕ) (o : Option (List ℕ))
    → L ≡ new_length R C → format_fault R C L ≡ Some f → text ≡ fault_line f → o ≡ None → PerformedNewFile n k R C ts ts es text o
new_refused n k R C L ts es f text o l e t q = rw q (no_new_file f (ap (format_fault R C) (sym l) ∙ e) refl t)
