-- The line of each command is read as that command.
use Rattle.std.proofs.Common.{◌≡◌, ℕ, min, true, List, [], ◌∷◌, map, length, replicate, pos, Some, Ok, decimal, sym, refl, ap, ◌∙◌, arith}
use Rattle.std.specs.Option.{ok_or}
use Rattle.std.specs.List.{AllByRecursion}
use Rattle.std.proofs.lemmas.Bool.{and_from, le-leb, le-ltb, cond-true, cond-false}
use Rattle.kernels.specs.declared.choice.KernelChoice.{KernelChoice}
use Rattle.kernels.specs.declared.choice.KernelChoice.TheVariants.{FiveThree, STransform}
use Rattle.script_arguments.specs.declared.names.CallName.{CallName}
use Rattle.script_arguments.specs.declared.names.CallName.TheVariants.{Lay, Lease, Settle, Surrender, Recall, Preview, Read, Clear}
use Rattle.script_arguments.specs.declared.names.Name.TheVariants.{Call}
use Rattle.script_arguments.specs.declared.mistake.Mistake.TheVariants.{NotANumber}
use Rattle.script_arguments.specs.Arguments.{and_then, with, beside, first_number, samples, all_samples}
use Rattle.script_commands.specs.Lines.{stated, stated_by, call_of, command_of}
use Rattle.scripts.specs.Commands.{Start, plate, file, Request, lay, lease, settle, surrender, recall, preview, read, clear, Finish, sheet, save, Command, start, request, finish, blank_record, blank_records, zeros}
use Rattle.script_laws.specs.Writing.{spaced, kernel_word, start_words, request_name, request_numbers, request_words, finish_words, without, is_word, Small, Samples, FilledWith, WritableStart, WritableRequest, WritableFinish}
use Rattle.script_laws.proofs.Splits.{words_of_spaced, number_of_decimal, decimal_is_a_word, decimals_are_words, numbers_of_decimals}

-- a line of words is read by its words
pub line_is_read : (ws : List (List ℕ)) (c : Command) → AllByRecursion (λ w. is_word w ≡ true) ws → stated_by ws ≡ Ok (Some c) → command_of (spaced ws) ≡ Ok (Some c)
line_is_read ws c all e = ap stated_by (words_of_spaced ws all) ∙ e

first_decimal : (n : ℕ) (others : List (List ℕ)) → Small n → first_number (decimal n ∷ others) ≡ Ok (n, others)
first_decimal n others small = ap (λ o. with (beside others) (ok_or o NotANumber)) (number_of_decimal n small)

-- plate and open
pub start_is_stated : (s : Start) → WritableStart s → stated_by (start_words s) ≡ Ok (Some (start s))
start_is_stated (plate n FiveThree rows columns) fits = rw (first_decimal n _ fits.0, first_decimal rows _ fits.1, first_decimal columns _ fits.2)
start_is_stated (plate n STransform rows columns) fits = rw (first_decimal n _ fits.0, first_decimal rows _ fits.1, first_decimal columns _ fits.2)
start_is_stated (file path n FiveThree) fits = rw (first_decimal n _ fits.1)
start_is_stated (file path n STransform) fits = rw (first_decimal n _ fits.1)

kernel_is_a_word : (k : KernelChoice) → is_word (kernel_word k) ≡ true
unfolding without
kernel_is_a_word FiveThree = refl
kernel_is_a_word STransform = refl

pub start_has_words : (s : Start) → WritableStart s → AllByRecursion (λ w. is_word w ≡ true) (start_words s)
unfolding without
start_has_words (plate n k rows columns) fits = (refl, (decimal_is_a_word n fits.0, (kernel_is_a_word k, (decimal_is_a_word rows fits.1, (decimal_is_a_word columns fits.2, tt)))))
start_has_words (file path n k) fits = (refl, (fits.0, (decimal_is_a_word n fits.1, (kernel_is_a_word k, tt))))

-- the calls
all_are_samples : (xs : List ℕ) → Samples xs → all_samples xs ≡ true
unfolding all_samples
all_are_samples [] all = refl
all_are_samples (x ∷ xs) all = and_from _ _ (le-leb x 65535 all.0) (all_are_samples xs all.1)

are_samples : (xs : List ℕ) → Samples xs → samples xs ≡ Ok xs
are_samples xs all = cond-true (all_samples xs) _ _ (all_are_samples xs all)

refilled : {X : Type 0} (x : X) (xs : List X) → FilledWith x xs → replicate (min (length xs) 16777216) x ≡ xs
refilled x xs h =
    let e : min (length xs) 16777216 ≡ length xs = omega (arith, h.0) in
    ap (λ n. replicate n x) e ∙ sym h.1

called : (name : CallName) (ns : List ℕ) → AllByRecursion Small ns → with Some (stated (Call name) (map decimal ns)) ≡ with Some (with request (call_of name ns))
called name ns all = ap (λ o. with Some (with request (and_then (ok_or o NotANumber) (call_of name)))) (numbers_of_decimals ns all)

is_call : (name : CallName) (ns : List ℕ) (r : Request) → AllByRecursion Small ns → call_of name ns ≡ Ok r
    → with Some (stated (Call name) (map decimal ns)) ≡ Ok (Some (request r))
is_call name ns r all e = called name ns all ∙ ap (λ o. with Some (with request o)) e

pub request_is_stated : (r : Request) → WritableRequest r → stated_by (request_words r) ≡ Ok (Some (request r))
request_is_stated (lay plan xs) fits =
    is_call Lay (request_numbers (lay plan xs)) (lay plan xs) fits.0
    (cond-false _ _ _ (le-ltb (length (request_numbers (lay plan xs))) 4 (omega arith)) ∙ ap (with (lay plan)) (are_samples xs fits.1))
request_is_stated (lease row column height width) fits = is_call Lease (row ∷ column ∷ height ∷ width ∷ []) (lease row column height width) fits.0 refl
request_is_stated (settle n serial scratch xs) fits =
    is_call Settle (request_numbers (settle n serial scratch xs)) (settle n serial scratch xs) fits.0
    (cond-false _ _ _ (le-ltb (length (request_numbers (settle n serial scratch xs))) 3 (omega arith)) ∙ ap (with (settle n serial (blank_records (length scratch)))) (are_samples xs fits.1.1)
    ∙ ap (λ s. Ok (settle n serial s xs)) (refilled blank_record scratch fits.1.0))
request_is_stated (surrender n serial) fits = is_call Surrender (n ∷ serial ∷ []) (surrender n serial) fits.0 refl
request_is_stated recall fits = is_call Recall [] recall fits.0 refl
request_is_stated (preview level row column height width scratch output) fits =
    is_call Preview (request_numbers (preview level row column height width scratch output)) (preview level row column height width scratch output) fits.0
    (ap (λ s. Ok (preview level row column height width s (zeros (length output)))) (refilled blank_record scratch fits.1.0)
    ∙ ap (λ o. Ok (preview level row column height width scratch o)) (refilled (pos 0) output fits.1.1))
request_is_stated (read level row column) fits = is_call Read (level ∷ row ∷ column ∷ []) (read level row column) fits.0 refl
request_is_stated clear fits = is_call Clear [] clear fits.0 refl

name_is_a_word : (r : Request) → is_word (request_name r) ≡ true
unfolding without
name_is_a_word (lay plan xs) = refl
name_is_a_word (lease row column height width) = refl
name_is_a_word (settle n serial scratch xs) = refl
name_is_a_word (surrender n serial) = refl
name_is_a_word recall = refl
name_is_a_word (preview level row column height width scratch output) = refl
name_is_a_word (read level row column) = refl
name_is_a_word clear = refl

pub request_has_words : (r : Request) → WritableRequest r → AllByRecursion (λ w. is_word w ≡ true) (request_words r)
request_has_words r fits = (name_is_a_word r, decimals_are_words (request_numbers r) fits.0)

-- sheet and save
pub finish_is_stated : (f : Finish) → WritableFinish f → stated_by (finish_words f) ≡ Ok (Some (finish f))
finish_is_stated (sheet issue room) fits =
    rw (numbers_of_decimals (issue ∷ room ∷ []) (omega (arith, fits.0), (fits.1, tt)), le-leb issue 65535 fits.0)
finish_is_stated (save path) fits = refl

pub finish_has_words : (f : Finish) → WritableFinish f → AllByRecursion (λ w. is_word w ≡ true) (finish_words f)
unfolding without
finish_has_words (sheet issue room) fits = (refl, decimals_are_words (issue ∷ room ∷ []) (omega (arith, fits.0), (fits.1, tt)))
finish_has_words (save path) fits = (refl, (fits, tt))
