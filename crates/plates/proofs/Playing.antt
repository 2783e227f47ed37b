-- A list of calls, partly done.
use Rattle.std.proofs.Common.{◌≡◌, ℕ, ◌+◌, ◌<◌, ◌≤◌, List, [], ◌∷◌, ◌++◌, length, get_or, set, sym, refl, ap, ◌∙◌, subst, append_assoc, append-nil, arith}
use Rattle.std.proofs.lemmas.List.{length-append, set_at, get_or_at}
use Rattle.plates.specs.declared.calls.Turn.{Turn}
use Rattle.plates.specs.Shows.{View}
use Rattle.plates.specs.Runs.{Stepped, Steps}

-- of the turns ts, the first i are done
pub record Played (v : View) (ts : List Turn) (i : ℕ) (us : List Turn) (w : View) : Type 0 where
  pub asked : List Turn
  pub done : List Turn
  pub waiting : List Turn
  pub so_many : length done ≡ i
  pub before : ts ≡ asked ++ waiting
  pub after : us ≡ done ++ waiting
  pub steps : Steps v asked done w

pub none_done : (v : View) (ts : List Turn) → Played v ts 0 ts v
none_done v ts = record { asked = []; done = []; waiting = ts; so_many = refl; before = refl; after = refl; steps = refl }

-- one step after a list of them
pub one_step_more : (v m w : View) (ts us : List Turn) (t u : Turn) → Steps v ts us m → Stepped t.call u.call u.answer m w → Steps v (ts ++ t ∷ []) (us ++ u ∷ []) w
one_step_more v m w [] [] t u e s = (w, subst (λ z. Stepped t.call u.call u.answer z w) (sym e) s, refl)
one_step_more v m w [] (x ∷ us) t u e s = absurd e
one_step_more v m w (x ∷ ts) [] t u e s = absurd e
one_step_more v m w (x ∷ ts) (y ∷ us) t u (n, first, rest) s = (n, first, one_step_more n m w ts us t u rest s)

from_parts : (v m w : View) (ts us asked done waiting : List Turn) (i : ℕ) (d u : Turn) → length done ≡ i → ts ≡ asked ++ waiting → us ≡ done ++ waiting → Steps v asked done m
    → i < length us → Stepped (get_or us i d).call u.call u.answer m w → Played v ts (i + 1) (set us i u) w
from_parts v m w ts us asked done [] i d u n b a s h step =
    let l = ap length a ∙ length-append done [] in
    absurd (omega arith)
from_parts v m w ts us asked done (t ∷ rest) i d u n b a s h step =
    record {
      asked = asked ++ t ∷ [];
      done = done ++ u ∷ [];
      waiting = rest;
      so_many = length-append done (u ∷ []) ∙ ap (λ z. z + 1) n;
      before = b ∙ sym (append_assoc asked (t ∷ []) rest);
      after = ap (λ z. set z i u) a ∙ set_at done t rest u i n ∙ sym (append_assoc done (u ∷ []) rest);
      steps = one_step_more v m w asked done t u s (subst (λ (z : Turn). Stepped z.call u.call u.answer m w) (ap (λ z. get_or z i d) a ∙ get_or_at done t rest d i n) step);
    }

pub one_turn_more : (v m w : View) (ts us : List Turn) (i : ℕ) (d u : Turn) → Played v ts i us m → i < length us → Stepped (get_or us i d).call u.call u.answer m w → Played v ts (i + 1) (set us i u) w
one_turn_more v m w ts us i d u p h step =
    from_parts v m w ts us p.asked p.done p.waiting i d u p.so_many p.before p.after p.steps h step

all_parts : (v w : View) (ts us asked done waiting : List Turn) (i : ℕ) → length done ≡ i → ts ≡ asked ++ waiting → us ≡ done ++ waiting → Steps v asked done w → length us ≤ i → Steps v ts us w
all_parts v w ts us asked done [] i n b a s h =
    subst (λ z. Steps v z us w) (sym (b ∙ append-nil asked)) (subst (λ z. Steps v asked z w) (sym (a ∙ append-nil done)) s)
all_parts v w ts us asked done (t ∷ rest) i n b a s h =
    let l = ap length a ∙ length-append done (t ∷ rest) in
    absurd (omega arith)

pub all_done : (v w : View) (ts us : List Turn) (i : ℕ) → Played v ts i us w → length us ≤ i → Steps v ts us w
all_done v w ts us i p h = all_parts v w ts us p.asked p.done p.waiting i p.so_many p.before p.after p.steps h
