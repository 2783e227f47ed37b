-- From steps to turns: what a plain plate says of a call, its history says.
use Rattle.std.proofs.Common.{◌≡◌, ℕ, ◌*◌, Bool, true, not, List, [], ◌∷◌, length, get_or, ℤ, pos, is_some, IfSome, vec_items, Option, sym, refl, ap, ◌∙◌, subst}
use mathlib.Core.Path.{fun_ext}
use Rattle.std.specs.declared.option.Option.TheVariants as option
use Rattle.faults.specs.declared.fault.Fault.{Fault}
use Rattle.planes.specs.declared.rectangle.Rectangle.{Rectangle}
use Rattle.planes.specs.Copies.{nth_number}
use Rattle.wavelets.specs.Lifting.{Cells, Plane, forward, resolution}
use Rattle.wavelets.specs.Counts.{count_line, differences, same_number, same_bit}
use Rattle.model.specs.declared.card.Card.{Card}
use Rattle.model.specs.declared.plan.Plan.{Plan}
use Rattle.model.specs.Calls as plain
use Rattle.model.specs.Plain.{Setting, Plain, why, cells_by, plan_or_none, preview_table}
use Rattle.model.specs.Laws.{after_history, verdicts, deeds, last_plan, edited_picture, marked_cells}
use Rattle.model.proofs.Histories.{what_the_history_says}
use Rattle.plates.specs.declared.calls.Call.{Call}
use Rattle.plates.specs.declared.calls.Call.TheVariants.{Lay, Lease, Settle, Surrender, Recall, Preview, Read, Clear}
use Rattle.plates.specs.declared.calls.Turn.{Turn}
use Rattle.plates.specs.Shows.{View, Fitting, Shows, lattice_rectangle, preview_differences}
use Rattle.plates.specs.Runs.{said, BuffersLeft, output_differences, Counted, Steps, Ran}
use Rattle.plates.proofs.Passing.{passed, not_false}

-- two pictures, or two planes of bits, that are equal at each place
same_everywhere : {X : Type 0} (f g : Cells X) → ((r c : ℕ) → f r c ≡ g r c) → f ≡ g
same_everywhere f g e = fun_ext (λ r. fun_ext (λ c. e r c))

module _ (s : Setting) (p : Plain) (v : View) (q : Plan) (shows : Shows s p v) (planned : p.plan ≡ option.Some q) where
  fits : Fitting s p.picture q
  fits = subst (λ z. IfSome z (Fitting s p.picture)) planned shows.fitting

  pub no_cell : (x : Plane) → p.picture ≡ x → differences same_number q.rows q.columns v.cells (forward s.amounts q.rows q.columns q.levels x) ≡ 0
  no_cell x e =
      subst (λ z. differences same_number q.rows q.columns v.cells (forward s.amounts q.rows q.columns q.levels z) ≡ 0) e
      (subst (λ n. differences same_number q.rows n v.cells (cells_by s (option.Some q) p.picture) ≡ 0) fits.width
      (subst (λ n. differences same_number n s.width v.cells (cells_by s (option.Some q) p.picture) ≡ 0) fits.height
      (subst (λ z. differences same_number s.height s.width v.cells (cells_by s z p.picture) ≡ 0) planned shows.no_cell_differs)))

  pub no_bit : (b : Cells Bool) → p.bits ≡ b → differences same_bit q.rows q.columns v.bits b ≡ 0
  no_bit b e =
      subst (λ z. differences same_bit q.rows q.columns v.bits z ≡ 0) e
      (subst (λ n. differences same_bit q.rows n v.bits p.bits ≡ 0) fits.width
      (subst (λ n. differences same_bit n s.width v.bits p.bits ≡ 0) fits.height shows.no_bit_differs))

module _ (s : Setting) (h : List plain.Call) where
  picture_is : is_some (after_history s h).plan ≡ true → (after_history s h).picture ≡ edited_picture (deeds (verdicts s h))
  picture_is laid = same_everywhere (after_history s h).picture (edited_picture (deeds (verdicts s h))) ((what_the_history_says s h).edited_picture_since laid)

  bits_are : is_some (after_history s h).plan ≡ true → (after_history s h).bits ≡ marked_cells s (deeds (verdicts s h))
  bits_are laid = same_everywhere (after_history s h).bits (marked_cells s (deeds (verdicts s h))) ((what_the_history_says s h).marked_cells_since laid)

  -- a plate that shows the plain plate after a history has the counts 0
  pub counted : (v : View) → Shows s (after_history s h) v → Counted s h v
  counted v shows =
      let plan_is : (q : Plan) → last_plan (deeds (verdicts s h)) ≡ option.Some q → (after_history s h).plan ≡ option.Some q = λ q e. (what_the_history_says s h).plan_last_laid ∙ e in
      record {
        no_cell_differs = λ q e. no_cell s (after_history s h) v q shows (plan_is q e) (edited_picture (deeds (verdicts s h))) (picture_is (ap is_some (plan_is q e)));
        no_bit_differs = λ q e. no_bit s (after_history s h) v q shows (plan_is q e) (marked_cells s (deeds (verdicts s h))) (bits_are (ap is_some (plan_is q e)));
      }

  abbrev wrong : Card → Rectangle → List ℤ → Option Plan → Plane → ℕ
  wrong card a out o x = count_line (a.height * a.width) (λ m. not (same_number (get_or out m (pos 0)) (nth_number (resolution s.amounts (plan_or_none o).rows (plan_or_none o).columns card.level x) a m)))

  same_count : (card : Card) (a : Rectangle) (out : List ℤ) → is_some (after_history s h).plan ≡ true → preview_differences s (after_history s h) card a out ≡ output_differences s h card a out
  same_count card a out laid =
      ap (λ z. wrong card a out z (after_history s h).picture) (what_the_history_says s h).plan_last_laid
      ∙ ap (λ z. wrong card a out (last_plan (deeds (verdicts s h))) z) (picture_is laid)

  laid_before : (card : Card) (a : Rectangle) (records room : ℕ) → why s (after_history s h) (plain.previewing card a records room) ≡ option.None → is_some (after_history s h).plan ≡ true
  laid_before card a records room e = not_false (is_some (after_history s h).plan) (passed (preview_table (after_history s h) card a records room) e).0

  -- the count of wrong numbers is taken against the edited picture of the history
  pub buffers_by_history : (o : Option Fault) (c d : Call) → why s (after_history s h) (said c) ≡ o → BuffersLeft (preview_differences s (after_history s h)) o c d → BuffersLeft (output_differences s h) o c d
  buffers_by_history (option.Some f) c d e b = b
  buffers_by_history option.None (Lay q xs) d e b = b
  buffers_by_history option.None (Lease first i j) d e b = b
  buffers_by_history option.None (Settle plate serial xs scratch) d e b = b
  buffers_by_history option.None (Surrender plate serial) d e b = b
  buffers_by_history option.None Recall d e b = b
  buffers_by_history option.None (Preview card first i j scratch out) d e (used, drawn, is, l, m, none, rest) =
      let a = lattice_rectangle first i j in
      let laid = laid_before card a (length (vec_items scratch)) (length (vec_items out)) e in
      (used, drawn, is, l, m, sym (same_count card a (vec_items drawn) laid) ∙ none, rest)
  buffers_by_history option.None (Read card at) d e b = b
  buffers_by_history option.None Clear d e b = b

-- a list of steps is a list of turns, from any plate that shows the plain plate after a history
pub turned : (s : Setting) (h : List plain.Call) (v w : View) (ts us : List Turn) → Shows s (after_history s h) v → Steps v ts us w → Ran s h v ts us w
turned s h v w [] [] shows e = e
turned s h v w [] (u ∷ us) shows e = e
turned s h v w (t ∷ ts) [] shows e = e
turned s h v w (t ∷ ts) (u ∷ us) shows (m, step, rest) =
    let next = step.follows s (after_history s h) shows in (
      m,
      record {
        reply_of_the_turn = step.reply_of_the_call;
        follows = step.follows;
        answer_is = step.answer_is;
        plain_plate_answers = next.1;
        buffers = buffers_by_history s h (why s (after_history s h) (said t.call)) t.call u.call refl (step.buffers s (after_history s h) shows);
        counted = counted s (said t.call ∷ h) m next.0;
      },
      turned s (said t.call ∷ h) m w ts us next.0 rest,
    )
