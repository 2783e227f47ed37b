use Rattle.std.proofs.Common.{length, vec_items, sym, ap, ◌∙◌}
use lib.ListN.{length-replicate}
use Rattle.planes.specs.Flat.{blank, flat_fault}
use Rattle.workshop_job.specs.Performances.{records}
use Rattle.workshop_job.proofs.Blank.{faulted, performed}
use Rattle.workshop_job.proofs.flat.perform_flat.Goals as goal

pub returns-in-Some : goal.returns-in-Some
returns-in-Some c =
    let n = records c.args.rows c.args.columns in
    let items = c.deref.ensures.value ∙ c.in_ok-cells.ensures.are_blank in
    record {
      after_every_call_nothing_differs = faulted c.args.number c.args.kernel c.args.rows c.args.columns (length c.deref.result.now) c.args.turns.now c.args.endings.now c.in-Some.fault _
          (ap length items ∙ length-replicate n blank) c.in-Some.ensures.is_the_first_that_holds (ap vec_items c.into_bytes.ensures.value ∙ c.in_ok-fault_line-in-Some.ensures.is_the_line_of_the_fault);
    }

pub returns : goal.returns
returns c =
    let n = records c.args.rows c.args.columns in
    let items = c.deref_mut.ensures.value ∙ c.in_ok-cells.ensures.are_blank in
    record {
      after_every_call_nothing_differs = performed c.args.number c.args.kernel c.args.rows c.args.columns (length c.deref_mut.result.now) c.new-store.result.rows c.new-store.result.columns
          c.new-store.result.cells.now c.args.turns.now c.perform.new.turns c.args.endings.now _ _ (vec_items c.in_ok-text-in-None.text)
          (ap length items ∙ length-replicate n blank) (c.in-None.ensures.is_the_first_that_holds ∙ ap (λ q. flat_fault c.args.rows c.args.columns (length q)) (c.deref.ensures.value ∙ sym c.deref_mut.ensures.value)) (c.new-store.ensures.keeps_every_record ∙ items) c.new-store.ensures.has_the_rows_or_none c.new-store.ensures.has_the_columns_or_none
          c.in_ok-text-in-None.ensures.after_every_call_nothing_differs;
    }
