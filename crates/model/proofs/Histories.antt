-- The plain plate after a history, call by call.
use Rattle.std.proofs.Common.{◌≡◌, ℕ, Bool, true, false, cond, not, ◌&&◌, ◌||◌, List, [], ◌∷◌, is_some, Some, None, Option, refl, ap, ◌∙◌, arith}
use Rattle.faults.specs.declared.fault.Fault.{Fault}
use Rattle.planes.specs.declared.rectangle.Rectangle.{Rectangle}
use Rattle.model.specs.Calls.{Call, laying, leasing, settling, surrendering, recalling, previewing, reading, clearing}
use Rattle.model.specs.Plain.{Setting, Plain, why, after_by, replaced, cone, plan_or_none, rectangle_or_none, is_out, ends_the_lease}
use Rattle.model.specs.Laws.{after_history, verdicts, last_leased, leased_by, Deed, nothing, deed, deeds, is_laying, is_clearing, since, some, last_plan, edited_picture, in_its_cone, marked_cells, ThePlainPlateIsWhatItsHistorySays}

-- What is kept of a plain plate p, by the rectangle that was last leased and the deeds so far.
record Kept (s : Setting) (p : Plain) (a : Rectangle) (ds : List Deed) : Type 0 where
  plan : p.plan ≡ last_plan ds
  lease : is_some p.lease ≡ true → rectangle_or_none p.lease ≡ a
  picture : is_some p.plan ≡ true → (r c : ℕ) → p.picture r c ≡ edited_picture ds r c
  bits : is_some p.plan ≡ true → (r c : ℕ) → p.bits r c ≡ marked_cells s ds r c

false_true : ◌≡◌ {A = Bool} false true → ⊥
false_true e = let z : ◌≡◌ {A = ℕ} 0 1 = ap (λ b. cond b 1 0) e in omega arith

-- a call that does nothing to the picture and the bits
still : (s : Setting) (p : Plain) (a : Rectangle) (ds : List Deed) → Kept s p a ds → Kept s p a (nothing ∷ ds)
still s p a ds k = record { plan = k.plan; lease = k.lease; picture = k.picture; bits = k.bits }

ended_still : (s : Setting) (p : Plain) (a : Rectangle) (ds : List Deed) → Kept s p a ds → Kept s (record { plan = p.plan; picture = p.picture; bits = p.bits; lease = None; serial = p.serial }) a (nothing ∷ ds)
ended_still s p a ds k = record { plan = k.plan; lease = λ e. absurd (false_true e); picture = k.picture; bits = k.bits }

swap : (a b c : Bool) → ((a || b) || c) ≡ (a || (c || b))
swap true b c = refl
swap false true true = refl
swap false true false = refl
swap false false true = refl
swap false false false = refl

-- a table that declines nothing passes its first row
passes : (b : Bool) (f : Fault) (rest : Option Fault) → cond (not b) (Some f) rest ≡ None → b ≡ true
passes true f rest e = refl
passes false f rest e = absurd (let z : ◌≡◌ {A = ℕ} 0 1 = cc in omega arith)

and_left : (a b : Bool) → (a && b) ≡ true → a ≡ true
and_left true b e = refl
and_left false b e = e

module _ (s : Setting) (p : Plain) (a : Rectangle) (ds : List Deed) (k : Kept s p a ds) where
  refuses : (c : Call) (f : Fault) → Kept s (after_by s p c (Some f)) (leased_by c false a) (deed c false a ∷ ds)
  refuses (laying q xs) f = still s p a ds k
  refuses (leasing b) f = still s p a ds k
  refuses (settling plate serial xs records) f =
      elim (ends_the_lease f) as (λ e. Kept s (cond e (record { plan = p.plan; picture = p.picture; bits = p.bits; lease = None; serial = p.serial }) p) a (nothing ∷ ds))
      [ true ↦ ended_still s p a ds k | false ↦ still s p a ds k ]
  refuses (surrendering plate serial) f = still s p a ds k
  refuses recalling f = still s p a ds k
  refuses (previewing card b records room) f = still s p a ds k
  refuses (reading card row column) f = still s p a ds k
  refuses clearing f = still s p a ds k

  takes : (c : Call) → why s p c ≡ None → Kept s (after_by s p c None) (leased_by c true a) (deed c true a ∷ ds)
  takes (laying q xs) e = record { plan = refl; lease = k.lease; picture = λ h r c. refl; bits = λ h r c. refl }
  takes (leasing b) e = record { plan = k.plan; lease = λ h. refl; picture = k.picture; bits = k.bits }
  takes (settling plate serial xs records) e =
      let out : is_some p.lease ≡ true = and_left (is_some p.lease) _ (passes (is_out s p plate serial) _ _ e) in
      let there : rectangle_or_none p.lease ≡ a = k.lease out in
      record {
        plan = k.plan;
        lease = λ h. absurd (false_true h);
        picture = λ h r c. ap (λ b. replaced b xs p.picture r c) there ∙ ap (λ z. replaced a xs (λ i j. z) r c) (k.picture h r c);
        bits = λ h r c.
            ap (λ b. p.bits r c || cone s.amounts (plan_or_none p.plan) b r c) there
            ∙ ap (λ q. p.bits r c || cone s.amounts (plan_or_none q) a r c) k.plan
            ∙ ap (λ b. b || cone s.amounts (plan_or_none (last_plan ds)) a r c) (k.bits h r c)
            ∙ swap (not (some is_clearing (since is_laying ds))) (some (in_its_cone s.amounts (plan_or_none (last_plan ds)) r c) (since is_clearing ds)) (cone s.amounts (plan_or_none (last_plan ds)) a r c);
      }
  takes (surrendering plate serial) e = ended_still s p a ds k
  takes recalling e = ended_still s p a ds k
  takes (previewing card b records room) e = still s p a ds k
  takes (reading card row column) e = still s p a ds k
  takes clearing e = record { plan = k.plan; lease = k.lease; picture = k.picture; bits = λ h r c. refl }

  goes_on : (c : Call) (v : Option Fault) → why s p c ≡ v → Kept s (after_by s p c v) (leased_by c (not (is_some v)) a) (deed c (not (is_some v)) a ∷ ds)
  goes_on c None e = takes c e
  goes_on c (Some f) e = refuses c f

kept : (s : Setting) (h : List Call) → Kept s (after_history s h) (last_leased (verdicts s h)) (deeds (verdicts s h))
kept s [] = record { plan = refl; lease = λ e. absurd (false_true e); picture = λ e. absurd (false_true e); bits = λ e. absurd (false_true e) }
kept s (c ∷ h) = goes_on s (after_history s h) (last_leased (verdicts s h)) (deeds (verdicts s h)) (kept s h) c (why s (after_history s h) c) refl

pub what_the_history_says : ThePlainPlateIsWhatItsHistorySays
what_the_history_says s h = let k = kept s h in record { plan_last_laid = k.plan; edited_picture_since = k.picture; marked_cells_since = k.bits }
