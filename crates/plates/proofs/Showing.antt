-- How a plate comes to show a plain plate, and goes on showing it.
use Rattle.std.proofs.Common.{◌≡◌, Bool, false, Some, None, sym, refl, ap, ◌∙◌, subst}
use Rattle.faults.specs.declared.fault.Fault.{Fault}
use Rattle.wavelets.specs.Lifting.{Cells}
use Rattle.wavelets.specs.Counts.{differences, same_number}
use Rattle.wavelets.proofs.Counts.{no_number_differs, no_bit_differs}
use Rattle.model.specs.Calls.{Call, laying, leasing, settling, surrendering, recalling, previewing, reading, clearing, Reply, declined}
use Rattle.planes.specs.Planes.{Picture}
use Rattle.model.specs.Plain.{Setting, Plain, fresh, why, taken, refused, given, after, reply, after_by, reply_by, cells_of}
use Rattle.plates.specs.Shows.{View, setting_of, plain_of, own_fault, Shows}

-- a plate just made shows the fresh plain plate
pub shows_fresh : (v : View) → v.plan ≡ None → v.lease ≡ None → v.serial ≡ 0 → Shows (setting_of v) (fresh (setting_of v)) v
shows_fresh v plan lease serial = record {
  number = refl;
  height = refl;
  width = refl;
  amounts = refl;
  plan = plan;
  lease = lease;
  serial = serial;
  fitting = tt;
  no_cell_differs = (no_number_differs v.height v.width v.cells v.cells).1 (λ r c a b. refl);
  no_bit_differs = (no_bit_differs v.height v.width v.bits v.bits).1 (λ r c a b. refl);
}

-- an accepted call and a declined one
module _ (s : Setting) (p : Plain) (c : Call) (w : View) (r : Reply) where
  pub accepted : why s p c ≡ None → Shows s (taken s p c) w → r ≡ given s p c → Shows s (after s p c) w × (r ≡ reply s p c)
  accepted e a b = subst (λ o. Shows s (after_by s p c o) w × (r ≡ reply_by s p c o)) (sym e) (a, b)

  pub refusing : (f : Fault) → why s p c ≡ Some f → Shows s (refused p c f) w → r ≡ declined f → Shows s (after s p c) w × (r ≡ reply s p c)
  refusing f e a b = subst (λ o. Shows s (after_by s p c o) w × (r ≡ reply_by s p c o)) (sym e) (a, b)

-- the tables decide by number, sides, plan, lease and serial alone
pub decides_alike : (s t : Setting) (p q : Plain) → s.number ≡ t.number → s.height ≡ t.height → s.width ≡ t.width
    → p.plan ≡ q.plan → p.lease ≡ q.lease → p.serial ≡ q.serial → (c : Call) → why s p c ≡ why t q c
decides_alike s t p q n h w l o e (laying a xs) = rw (h, w, o)
decides_alike s t p q n h w l o e (leasing a) = rw (l, o, e)
decides_alike s t p q n h w l o e (settling a b xs r) = rw (n, l, o, e)
decides_alike s t p q n h w l o e (surrendering a b) = rw (n, o, e)
decides_alike s t p q n h w l o e recalling = refl
decides_alike s t p q n h w l o e (previewing a b r m) = rw l
decides_alike s t p q n h w l o e (reading a i j) = rw l
decides_alike s t p q n h w l o e clearing = rw l

pub own_table : (s : Setting) (p : Plain) (v : View) → Shows s p v → (c : Call) → own_fault v c ≡ why s p c
own_table s p v h c = decides_alike (setting_of v) s (plain_of v) p h.number h.height h.width h.plan h.lease h.serial c

-- a plate whose store was cleared
pub cleared_shows : (s : Setting) (p : Plain) (v : View) (q : Picture) (b : Cells Bool) → Shows s p v
    → q ≡ record { height = v.height; width = v.width; number = v.cells } → b ≡ (λ i j. false)
    → Shows s (taken s p clearing) (record { number = v.number; height = q.height; width = q.width; amounts = v.amounts; cells = q.number; bits = b; plan = v.plan; lease = v.lease; serial = v.serial })
cleared_shows s p v q b h e f = record {
  number = h.number;
  height = ap (λ z. z.height) e ∙ h.height;
  width = ap (λ z. z.width) e ∙ h.width;
  amounts = h.amounts;
  plan = h.plan;
  lease = h.lease;
  serial = h.serial;
  fitting = h.fitting;
  no_cell_differs = ap (λ z. differences same_number s.height s.width z.number (cells_of s p)) e ∙ h.no_cell_differs;
  no_bit_differs = (no_bit_differs s.height s.width b (λ i j. false)).1 (λ i j k l. ap (λ z. z i j) f);
}
