-- What a list of calls comes to on a plate: the states it goes through, and what is counted after each call.
use Rattle.std.specs.Prelude.{◌≡◌, ℕ, ◌*◌, ◌≤◌, not, List, [], ◌∷◌, length, ℤ, pos, vec_items, Ok, Err, Option, Result, Vec, slice_index_or}
use Rattle.std.specs.declared.alloc.Global.{Global}
use Rattle.std.specs.declared.option.Option.TheVariants as option
use Rattle.faults.specs.declared.fault.Fault.{Fault}
use Rattle.planes.specs.declared.cell.Cell.{Cell}
use Rattle.planes.specs.declared.rectangle.Rectangle.{Rectangle}
use Rattle.planes.specs.Copies.{nth_number}
use Rattle.wavelets.specs.Lifting.{forward, resolution}
use Rattle.wavelets.specs.Counts.{count_line, differences, same_number, same_bit}
use Rattle.model.specs.declared.card.Card.{Card}
use Rattle.model.specs.declared.plan.Plan.{Plan}
use Rattle.model.specs.Calls as plain
use Rattle.model.specs.Plain.{Setting, Plain, why, reply, plan_or_none}
use Rattle.model.specs.Laws.{after_history, verdicts, deeds, last_plan, edited_picture, marked_cells}
use Rattle.plates.specs.declared.calls.Call.{Call}
use Rattle.plates.specs.declared.calls.Call.TheVariants.{Lay, Lease, Settle, Surrender, Recall, Preview, Read, Clear}
use Rattle.plates.specs.declared.calls.Answer.{Answer}
use Rattle.plates.specs.declared.calls.Answer.TheVariants.{Done, Leased, Settled, Recalled, CellRead}
use Rattle.plates.specs.declared.calls.Turn.{Turn}
use Rattle.planes.specs.declared.plane.Plane as plane
use Rattle.planes.specs.declared.plane.Store as store
use Rattle.kernels.specs.declared.kernel.Kernel as kernel
use Rattle.plates.specs.Shows.{View, Shows, Follows, rectangle_at, lattice_rectangle, preview_differences}

-- A call's value, as the plain plate is told it: of scratch and outputs it is told the lengths.
abbrev pub said : Call → plain.Call
said (Lay q xs) = plain.laying q (plain.samples_of (vec_items xs))
said (Lease first h w) = plain.leasing (rectangle_at first h w)
said (Settle plate serial xs scratch) = plain.settling plate serial (plain.samples_of (vec_items xs)) (length (vec_items scratch))
said (Surrender plate serial) = plain.surrendering plate serial
said Recall = plain.recalling
said (Preview card first h w scratch out) = plain.previewing card (lattice_rectangle first h w) (length (vec_items scratch)) (length (vec_items out))
said (Read card at) = plain.reading card at.row at.column
said Clear = plain.clearing

-- The value of an accepted call's answer, as a reply.
abbrev pub reply_of : Answer → plain.Reply
reply_of Done = plain.done
reply_of (Leased plate serial) = plain.leased plate serial
reply_of (Settled n) = plain.settled n
reply_of (Recalled o) = plain.recalled o
reply_of (CellRead c) = plain.cell c.number c.bit

-- The value of what stands beside a call, as a reply; none while the call waits.
abbrev pub meant : Option (Result Answer Fault) → Option plain.Reply
meant option.None = option.None
meant (option.Some (Ok a)) = option.Some (reply_of a)
meant (option.Some (Err f)) = option.Some (plain.declined f)

-- How many of the first numbers of an output differ from a resolution of the edited picture after a history.
abbrev pub output_differences : Setting → List plain.Call → Card → Rectangle → List ℤ → ℕ
output_differences s h card a out =
    let ds = deeds (verdicts s h) in
    let q = plan_or_none (last_plan ds) in
    count_line (a.height * a.width) (λ m. not (same_number (slice_index_or out m (pos 0)) (nth_number (resolution s.amounts q.rows q.columns card.level (edited_picture ds)) a m)))

-- A call whose buffers hold what they held.
abbrev pub Untouched : Call → Call → Type 0
Untouched (Lay q xs) d = d ≡ Lay q xs
Untouched (Lease first i j) d = d ≡ Lease first i j
Untouched (Settle plate serial xs scratch) d = (kept : Vec Cell Global) × (d ≡ Settle plate serial xs kept) × (vec_items kept ≡ vec_items scratch)
Untouched (Surrender plate serial) d = d ≡ Surrender plate serial
Untouched Recall d = d ≡ Recall
Untouched (Preview card first i j scratch out) d =
    (kept : Vec Cell Global) × (same : Vec ℤ Global) × (d ≡ Preview card first i j kept same) × (vec_items kept ≡ vec_items scratch) × (vec_items same ≡ vec_items out)
Untouched (Read card at) d = d ≡ Read card at
Untouched Clear d = d ≡ Clear

-- Buffers after a call that was declined with a fault, or accepted: a declined call changes none. An accepted settlement or preview leaves
-- its scratch open but for its length; an accepted preview has none of its first numbers wrong, by a given count of the wrong ones, and leaves
-- the rest of its output.
abbrev pub BuffersLeft : (Card → Rectangle → List ℤ → ℕ) → Option Fault → Call → Call → Type 0
BuffersLeft wrong (option.Some f) c d = Untouched c d
BuffersLeft wrong option.None (Lay q xs) d = d ≡ Lay q xs
BuffersLeft wrong option.None (Lease first i j) d = d ≡ Lease first i j
BuffersLeft wrong option.None (Settle plate serial xs scratch) d =
    (used : Vec Cell Global) × (d ≡ Settle plate serial xs used) × (length (vec_items used) ≡ length (vec_items scratch))
BuffersLeft wrong option.None (Surrender plate serial) d = d ≡ Surrender plate serial
BuffersLeft wrong option.None Recall d = d ≡ Recall
BuffersLeft wrong option.None (Preview card first i j scratch out) d =
    (used : Vec Cell Global) × (drawn : Vec ℤ Global) × (d ≡ Preview card first i j used drawn)
    × (length (vec_items used) ≡ length (vec_items scratch)) × (length (vec_items drawn) ≡ length (vec_items out))
    × (wrong card (lattice_rectangle first i j) (vec_items drawn) ≡ 0)
    × ((m : ℕ) → i * j ≤ m → slice_index_or (vec_items drawn) m (pos 0) ≡ slice_index_or (vec_items out) m (pos 0))
BuffersLeft wrong option.None (Read card at) d = d ≡ Read card at
BuffersLeft wrong option.None Clear d = d ≡ Clear

-- After a history: no cell differs from a fresh transform of the edited picture, and no change bit from the marked cells. Before an accepted
-- laying nothing is counted.
pub record Counted (s : Setting) (h : List plain.Call) (v : View) : Type 0 where
  pub no_cell_differs : (q : Plan) → last_plan (deeds (verdicts s h)) ≡ option.Some q
      → differences same_number q.rows q.columns v.cells (forward s.amounts q.rows q.columns q.levels (edited_picture (deeds (verdicts s h)))) ≡ 0
  pub no_bit_differs : (q : Plan) → last_plan (deeds (verdicts s h)) ≡ option.Some q
      → differences same_bit q.rows q.columns v.bits (marked_cells s (deeds (verdicts s h))) ≡ 0

-- One turn after the history h, from the state v to w: the call follows its own promise, its answer is the plain plate's, its buffers are left
-- as said above, and the counts are 0 after it.
pub record Turned (s : Setting) (h : List plain.Call) (t u : Turn) (v w : View) : Type 0 where
  pub reply_of_the_turn : plain.Reply
  pub follows : Follows (said t.call) v w reply_of_the_turn
  pub answer_is : meant u.answer ≡ option.Some reply_of_the_turn
  pub plain_plate_answers : reply_of_the_turn ≡ reply s (after_history s h) (said t.call)
  pub buffers : BuffersLeft (output_differences s h) (why s (after_history s h) (said t.call)) t.call u.call
  pub counted : Counted s (said t.call ∷ h) w

-- A plate just made over a store and a kernel.
abbrev pub just_made : {S K : Type 0} → plane.Ghosts S → store.Ghosts S → kernel.Ghosts K → ℕ → S → K → View
just_made a b k n s x = record {
  number = n;
  height = (a.picture s).height;
  width = (a.picture s).width;
  amounts = k.amounts x;
  cells = (a.picture s).number;
  bits = b.bits s;
  plan = option.None;
  lease = option.None;
  serial = 0;
}

-- A list of turns after the history h, from the state v to w: there is a state after each.
abbrev pub Ran : Setting → List plain.Call → View → List Turn → List Turn → View → Type 0
Ran s h v [] [] w = v ≡ w
Ran s h v [] (u ∷ us) w = ⊥
Ran s h v (t ∷ ts) [] w = ⊥
Ran s h v (t ∷ ts) (u ∷ us) w = (m : View) × Turned s h t u v m × Ran s (said t.call ∷ h) m ts us w

-- One call with the buffers c, from the state v to w, which left the buffers d and answered a: it follows its own promise, and whatever plain
-- plate v shows, its buffers are left as that plain plate says.
pub record Stepped (c d : Call) (a : Option (Result Answer Fault)) (v w : View) : Type 0 where
  pub reply_of_the_call : plain.Reply
  pub answer_is : meant a ≡ option.Some reply_of_the_call
  pub follows : Follows (said c) v w reply_of_the_call
  pub buffers : (s : Setting) (p : Plain) → Shows s p v → BuffersLeft (preview_differences s p) (why s p (said c)) c d

-- A list of turns from the state v to w: there is a state after each.
abbrev pub Steps : View → List Turn → List Turn → View → Type 0
Steps v [] [] w = v ≡ w
Steps v [] (u ∷ us) w = ⊥
Steps v (t ∷ ts) [] w = ⊥
Steps v (t ∷ ts) (u ∷ us) w = (m : View) × Stepped t.call u.call u.answer v m × Steps m ts us w
