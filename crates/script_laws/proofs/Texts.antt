-- The whole text, line by line.
use Rattle.std.proofs.Common.{◌≡◌, ℕ, ◌+◌, true, List, [], ◌∷◌, ◌++◌, map, length, Some, Ok, sym, ap, ◌∙◌, append_assoc, add-zero, arith}
use Rattle.std.specs.List.{AllByRecursion}
use Rattle.std.proofs.lemmas.List.{append-nil, map-append}
use Rattle.std.proofs.ByRecursion.{All-append}
use Rattle.scripts.specs.Commands.{Start, Request, Finish, start, request, finish, Commands}
use Rattle.scripts.specs.Scripts.{Draft, no_draft, continued, script_from, script_of}
use Rattle.scripts.proofs.Drafts.{line_more, lines_end}
use Rattle.script_laws.specs.Writing.{spaced, start_words, request_words, finish_words, without, is_word, written, WritableRequest, WritableFinish, Writable}
use Rattle.script_laws.proofs.Splits.{spaced_has_no_end, lines_of_ended}
use Rattle.script_laws.proofs.Rows.{line_is_read, start_is_stated, start_has_words, request_is_stated, request_has_words, finish_is_stated, finish_has_words}

-- no line has an end inside
no_ends : (rows : List (List (List ℕ))) → AllByRecursion (λ ws. AllByRecursion (λ w. is_word w ≡ true) ws) rows → AllByRecursion (λ l. without 10 l ≡ true) (map spaced rows)
no_ends [] all = tt
no_ends (ws ∷ rows) all = (spaced_has_no_end ws all.0, no_ends rows all.1)

requests_have_words : (rs : List Request) → AllByRecursion WritableRequest rs → AllByRecursion (λ ws. AllByRecursion (λ w. is_word w ≡ true) ws) (map request_words rs)
requests_have_words [] all = tt
requests_have_words (r ∷ rs) all = (request_has_words r all.0, requests_have_words rs all.1)

finishes_have_words : (fs : List Finish) → AllByRecursion WritableFinish fs → AllByRecursion (λ ws. AllByRecursion (λ w. is_word w ≡ true) ws) (map finish_words fs)
finishes_have_words [] all = tt
finishes_have_words (f ∷ fs) all = (finish_has_words f all.0, finishes_have_words fs all.1)

abbrev drafted : Start → List Request → List Finish → Draft
drafted s rs fs = record { start_so_far = Some s; requests_so_far = rs; finishes_so_far = fs }

read_requests : (s : Start) (done rs : List Request) (n : ℕ) (rest : List (List ℕ)) → AllByRecursion WritableRequest rs
    → script_from (drafted s done []) n (map spaced (map request_words rs) ++ rest) ≡ script_from (drafted s (done ++ rs) []) (n + length rs) rest
read_requests s done [] n rest all = ap (λ d. script_from (drafted s d []) n rest) (sym (append-nil done)) ∙ ap (λ m. script_from (drafted s (done ++ []) []) m rest) (sym (add-zero n))
read_requests s done (r ∷ rs) n rest all =
    let told = ap (continued (drafted s done [])) (line_is_read (request_words r) (request r) (request_has_words r all.0) (request_is_stated r all.0)) in
    let count : n + 1 + length rs ≡ n + length (r ∷ rs) = omega arith in
    line_more (drafted s done []) n (spaced (request_words r)) (map spaced (map request_words rs) ++ rest) (drafted s (done ++ r ∷ []) []) told
    ∙ read_requests s (done ++ r ∷ []) rs (n + 1) rest all.1
    ∙ ap (λ d. script_from (drafted s d []) (n + 1 + length rs) rest) (append_assoc done (r ∷ []) rs)
    ∙ ap (λ m. script_from (drafted s (done ++ r ∷ rs) []) m rest) count

read_finishes : (s : Start) (rs : List Request) (done fs : List Finish) (n : ℕ) → AllByRecursion WritableFinish fs
    → script_from (drafted s rs done) n (map spaced (map finish_words fs)) ≡ Ok (record { start_of = s; requests = rs; finishes = done ++ fs })
read_finishes s rs done [] n all = lines_end (drafted s rs done) n ∙ ap (λ d. Ok (record { start_of = s; requests = rs; finishes = d })) (sym (append-nil done))
read_finishes s rs done (f ∷ fs) n all =
    let told = ap (continued (drafted s rs done)) (line_is_read (finish_words f) (finish f) (finish_has_words f all.0) (finish_is_stated f all.0)) in
    line_more (drafted s rs done) n (spaced (finish_words f)) (map spaced (map finish_words fs)) (drafted s rs (done ++ f ∷ [])) told
    ∙ read_finishes s rs (done ++ f ∷ []) fs (n + 1) all.1
    ∙ ap (λ d. Ok (record { start_of = s; requests = rs; finishes = d })) (append_assoc done (f ∷ []) fs)

pub written_is_read : (cs : Commands) → Writable cs → script_of (written cs) ≡ Ok cs
written_is_read cs fits =
    let s = cs.start_of in
    let rs = cs.requests in
    let fs = cs.finishes in
    let told = ap (continued no_draft) (line_is_read (start_words s) (start s) (start_has_words s fits.start_fits) (start_is_stated s fits.start_fits)) in
    let rows = map request_words rs ++ map finish_words fs in
    ap (script_from no_draft 1) (lines_of_ended (map spaced (start_words s ∷ rows))
    (no_ends (start_words s ∷ rows) (start_has_words s fits.start_fits, All-append _ _ _ (requests_have_words rs fits.requests_fit) (finishes_have_words fs fits.finishes_fit))))
    ∙ line_more no_draft 1 (spaced (start_words s)) (map spaced rows) (drafted s [] []) told
    ∙ ap (script_from (drafted s [] []) 2) (map-append spaced (map request_words rs) (map finish_words fs))
    ∙ read_requests s [] rs 2 (map spaced (map finish_words fs)) fits.requests_fit
    ∙ read_finishes s rs [] fs (2 + length rs) fits.finishes_fit
