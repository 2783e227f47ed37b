-- Slot numbers one after the other: which have been seen, and the first bad one.
use Rattle.std.proofs.Common.{◌≡◌, ℕ, suc, ◌+◌, ◌<◌, Bool, true, false, ◌||◌, eqb, leb, List, length, get_or, set, sym, refl, ap, ◌∙◌, ⊎_elim, add-one, arith}
use Rattle.std.proofs.lemmas.List.{get_or-set_same, get_or-set_other}
use Rattle.std.proofs.lemmas.Bool.{cases_eq, eq-eqb, ne_eqb, or_right}
use Rattle.std.proofs.lemmas.Bool.Decides.{nat_tests}
use Rattle.faults.specs.Tables.{first_index}
use Rattle.faults.proofs.FirstIndex.{at_most}
use Rattle.tile_bytes.specs.Layout.{slot_of}
use Rattle.tiles.specs.Opening.{occurs, bad_slot}

occurs_none : (test : ℕ → Bool) → occurs test 0 ≡ false
unfolding first_index
occurs_none test = refl

pub occurs_more : (test : ℕ → Bool) (n : ℕ) → occurs test (n + 1) ≡ (occurs test n || test n)
unfolding first_index
occurs_more test n =
    let a = at_most test n in
    let g : occurs test (suc n) ≡ (occurs test n || test n) = grind (arith, nat_tests) in
    rw add-one g

or_none : (b : Bool) → (b || false) ≡ b
or_none true = refl
or_none false = refl

-- number s is among the first n slot numbers
abbrev pub Seen : List ℕ → List Bool → ℕ → Type 0
Seen xs seen n = (s : ℕ) → s < 65536 → get_or seen s false ≡ occurs (λ k. eqb (slot_of xs k) s) n

pub seen_none : (xs : List ℕ) (seen : List Bool) → ((s : ℕ) → s < 65536 → get_or seen s false ≡ false) → Seen xs seen 0
seen_none xs seen h = λ s l. h s l ∙ sym (occurs_none (λ k. eqb (slot_of xs k) s))

pub seen_more : (xs : List ℕ) (seen : List Bool) (n t : ℕ) → length seen ≡ 65536 → t ≡ slot_of xs n → t < 65536 → Seen xs seen n → Seen xs (set seen t true) (n + 1)
seen_more xs seen n t size e l old s b =
    let m = occurs_more (λ k. eqb (slot_of xs k) s) n in
    ⊎_elim
    (λ q. ap (λ (i : ℕ). get_or (set seen t true) i false) q ∙ get_or-set_same seen t true false (omega arith)
    ∙ sym (m ∙ or_right _ _ (eq-eqb (slot_of xs n) s (sym e ∙ sym q))))
    (λ q. let f : eqb (slot_of xs n) s ≡ false = ne_eqb (slot_of xs n) s (λ z. q (sym z ∙ sym e)) in
    get_or-set_other seen t s true false q ∙ old s b ∙ sym (m ∙ (rw f (or_none (occurs (λ k. eqb (slot_of xs k) s) n)))))
    (cases_eq s t)

-- a slot number is bad where it is too large or was seen
pub bad_as_seen : (T : ℕ) (xs : List ℕ) (seen : List Bool) (n t : ℕ) → t ≡ slot_of xs n → t < 65536 → Seen xs seen n → (leb T t || get_or seen t false) ≡ bad_slot T xs n
bad_as_seen T xs seen n t e l old = ap (λ (b : Bool). leb T t || b) (old t l) ∙ ap (λ (s : ℕ). leb T s || occurs (λ k. eqb (slot_of xs k) s) n) e
