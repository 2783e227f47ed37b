-- One call of a list, by the call's own promise.
use Rattle.std.proofs.Common.{◌≡◌, ℕ, ◌*◌, ◌≤◌, true, false, List, length, get_or, ℤ, pos, is_ok, Ok, Err, vec_items, Option, Result, Vec, sym, refl, ap, ◌∙◌, subst}
use Rattle.std.specs.declared.alloc.Global.{Global}
use Rattle.std.specs.declared.option.Option.TheVariants as option
use Rattle.faults.specs.declared.fault.Fault.{Fault}
use Rattle.planes.specs.declared.cell.Cell.{Cell}
use Rattle.planes.specs.declared.places.LatticePlace.{LatticePlace}
use Rattle.planes.specs.declared.rectangle.Rectangle.{Rectangle}
use Rattle.model.specs.declared.card.Card.{Card}
use Rattle.model.specs.Calls as plain
use Rattle.model.specs.Plain.{Setting, Plain, why}
use Rattle.plates.specs.declared.calls.Call.{Call}
use Rattle.plates.specs.declared.calls.Call.TheVariants.{Lay, Lease, Settle, Surrender, Recall, Preview, Read, Clear}
use Rattle.plates.specs.declared.calls.Answer.{Answer}
use Rattle.plates.specs.Shows.{View, Shows, Follows, own_fault, fault_in, answered, lattice_rectangle, preview_differences}
use Rattle.std.specs.Result.{MatchResult, IsOkAnd}
use Rattle.plates.specs.Runs.{said, reply_of, meant, BuffersLeft, Stepped}
use Rattle.plates.proofs.Showing.{own_table}

pub stepped : (c k d : Call) (a : Option (Result Answer Fault)) (r : plain.Reply) (v w : View) → c ≡ k → meant a ≡ option.Some r → Follows (said k) v w r
    → ((s : Setting) (p : Plain) → Shows s p v → BuffersLeft (preview_differences s p) (why s p (said k)) k d) → Stepped c d a v w
stepped c k d a r v w e m f b =
    subst (λ z. Stepped z d a v w) (sym e) (record { reply_of_the_call = r; answer_is = m; follows = f; buffers = b })

-- an answer made of a call's result, by what is made of each value
pub mapped : {X : Type 0} (r : Result X Fault) (a : Result Answer Fault) (f : X → plain.Reply) (made : X → Answer → Type 0)
    → ((x : X) (y : Answer) → made x y → reply_of y ≡ f x)
    → MatchResult r (λ x. IsOkAnd a (made x)) (λ e. a ≡ Err e)
    → meant (option.Some a) ≡ option.Some (answered f r)
mapped (Ok x) (Ok y) f made h m = ap option.Some (h x y m)
mapped (Ok x) (Err e) f made h m = absurd m
mapped (Err e) a f made h m = rw m

-- a call without scratch and output is left as it was
abbrev pub Unlent : Call → Type 0
Unlent (Settle plate serial xs scratch) = ⊥
Unlent (Preview card first i j scratch out) = ⊥
Unlent k = Unit {0}

same : (s : Setting) (p : Plain) (o : Option Fault) (k : Call) → Unlent k → BuffersLeft (preview_differences s p) o k k
same s p option.None (Lay q xs) u = refl
same s p option.None (Lease first i j) u = refl
same s p option.None (Surrender plate serial) u = refl
same s p option.None Recall u = refl
same s p option.None (Read card at) u = refl
same s p option.None Clear u = refl
same s p option.None (Settle plate serial xs scratch) u = absurd u
same s p option.None (Preview card first i j scratch out) u = absurd u
same s p (option.Some f) (Lay q xs) u = refl
same s p (option.Some f) (Lease first i j) u = refl
same s p (option.Some f) (Surrender plate serial) u = refl
same s p (option.Some f) Recall u = refl
same s p (option.Some f) (Read card at) u = refl
same s p (option.Some f) Clear u = refl
same s p (option.Some f) (Settle plate serial xs scratch) u = absurd u
same s p (option.Some f) (Preview card first i j scratch out) u = absurd u

pub kept : (s : Setting) (p : Plain) (o : Option Fault) (k d : Call) → d ≡ k → Unlent k → BuffersLeft (preview_differences s p) o k d
kept s p o k d e u = subst (λ z. BuffersLeft (preview_differences s p) o k z) (sym e) (same s p o k u)

-- what a verdict says of the buffers
pub by_verdict : (s : Setting) (p : Plain) (v : View) (k d : Call) (o : Option Fault) → Shows s p v → o ≡ own_fault v (said k) → BuffersLeft (preview_differences s p) o k d → BuffersLeft (preview_differences s p) (why s p (said k)) k d
by_verdict s p v k d o h e b = subst (λ z. BuffersLeft (preview_differences s p) z k d) (e ∙ own_table s p v h (said k)) b

-- what holds of a settlement's call holds of the same call with its buffers read again
pub settling_of : (plate serial : ℕ) (P : plain.Call → Type 0) (a b : List ℕ) (x y : List Cell) → a ≡ b → x ≡ y
    → P (plain.settling plate serial (plain.samples_of a) (length x)) → P (plain.settling plate serial (plain.samples_of b) (length y))
settling_of plate serial P a b x y e f z =
    subst (λ q. P (plain.settling plate serial (plain.samples_of q) (length y))) e (subst (λ q. P (plain.settling plate serial (plain.samples_of a) (length q))) f z)

-- the settlement's answer, whichever it was
pub settle_left : (s : Setting) (p : Plain) (v : View) (plate serial : ℕ) (xs : Vec ℕ Global) (scratch used : Vec Cell Global) (r : Result ℕ Fault)
    → Shows s p v → fault_in r ≡ own_fault v (said (Settle plate serial xs scratch))
    → (is_ok r ≡ false → vec_items used ≡ vec_items scratch) → length (vec_items used) ≡ length (vec_items scratch)
    → BuffersLeft (preview_differences s p) (why s p (said (Settle plate serial xs scratch))) (Settle plate serial xs scratch) (Settle plate serial xs used)
settle_left s p v plate serial xs scratch used (Ok n) h e a l =
    by_verdict s p v (Settle plate serial xs scratch) (Settle plate serial xs used) option.None h e (used, refl, l)
settle_left s p v plate serial xs scratch used (Err f) h e a l =
    by_verdict s p v (Settle plate serial xs scratch) (Settle plate serial xs used) (option.Some f) h e (used, refl, a refl)

-- what holds of a preview's call holds of the same call with its buffers read again
pub previewing_of : (card : Card) (a : Rectangle) (P : plain.Call → Type 0) (x y : List Cell) (o t : List ℤ) → x ≡ y → o ≡ t
    → P (plain.previewing card a (length x) (length o)) → P (plain.previewing card a (length y) (length t))
previewing_of card a P x y o t e f z =
    subst (λ q. P (plain.previewing card a (length y) (length q))) f (subst (λ q. P (plain.previewing card a (length q) (length o))) e z)

-- the preview's answer, whichever it was
pub preview_left : (s : Setting) (p : Plain) (v : View) (card : Card) (first : LatticePlace) (i j : ℕ) (scratch used : Vec Cell Global) (out drawn : Vec ℤ Global) (r : Result (Unit {0}) Fault)
    → Shows s p v → fault_in r ≡ own_fault v (said (Preview card first i j scratch out))
    → (is_ok r ≡ false → vec_items used ≡ vec_items scratch) → (is_ok r ≡ false → vec_items drawn ≡ vec_items out)
    → length (vec_items used) ≡ length (vec_items scratch) → length (vec_items drawn) ≡ length (vec_items out)
    → (is_ok r ≡ true → preview_differences s p card (lattice_rectangle first i j) (vec_items drawn) ≡ 0)
    → ((m : ℕ) → i * j ≤ m → get_or (vec_items drawn) m (pos 0) ≡ get_or (vec_items out) m (pos 0))
    → BuffersLeft (preview_differences s p) (why s p (said (Preview card first i j scratch out))) (Preview card first i j scratch out) (Preview card first i j used drawn)
preview_left s p v card first i j scratch used out drawn (Ok u) h e a b l m n rest =
    by_verdict s p v (Preview card first i j scratch out) (Preview card first i j used drawn) option.None h e (used, drawn, refl, l, m, n refl, rest)
preview_left s p v card first i j scratch used out drawn (Err f) h e a b l m n rest =
    by_verdict s p v (Preview card first i j scratch out) (Preview card first i j used drawn) (option.Some f) h e (used, drawn, refl, a refl, b refl)

-- what is said of a lease's two numbers is said of equal ones
pub rename_lease : (P : ℕ → ℕ → Type 0) (a b c d : ℕ) → a ≡ b → c ≡ d → P a c → P b d
rename_lease P a b c d e f h = subst (λ z. P b z) f (subst (λ z. P z c) e h)
