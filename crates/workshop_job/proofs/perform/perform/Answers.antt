-- The run on the plate, and the text piece by piece.
use Rattle.std.proofs.Common.{vec_items, ap, ◌∙◌}
use Rattle.plates.specs.Shows.{seen}
use Rattle.answers.specs.Stores.{store_text}
use Rattle.answers.proofs.Texts.{grown}
use Rattle.workshop_job.specs.Endings.{endings_lines}
use Rattle.workshop_job.proofs.perform.perform.Goals as goal

pub returns : goal.returns
returns g c =
    let picture = g.S.Plane.picture in
    let bits = g.S.Store.bits in
    let w = seen g.S.Plane g.S.Store g.K.Kernel c.run-plate.result in
    let back = c.into_store-store.ensures.hands_the_store_back_as_it_is in
    let answers = ap vec_items c.into_bytes-text.ensures.value ∙ c.in_ok-answer_lines.ensures.name_every_answer in
    let sheets = c.deref.ensures.value ∙ c.in_ok-endings_lines.ensures.are_those_of_the_sheets
    ∙ ap (λ k. endings_lines (g.K.Kernel.code k) w c.args.endings.now) c.run-plate.ensures.has_the_kernel in
    let store = c.as_bytes.ensures.value ∙ c.in_ok-store_text.ensures.names_every_cell
    ∙ ap (λ s. store_text (picture s).height (picture s).width (picture s).number (bits s)) back in
    record {
      after_every_call_nothing_differs = record {
        last = w;
        ran = c.run-plate.ensures.after_every_call_nothing_differs;
        store_height = ap (λ s. (picture s).height) back;
        store_width = ap (λ s. (picture s).width) back;
        store_numbers = ap (λ s. (picture s).number) back;
        store_bits = ap bits back;
        prints = grown _ _ _ _ _ c.in_ok-extend_from_slice-2.ensures.items (grown _ _ _ _ _ c.in_ok-extend_from_slice.ensures.items answers sheets) store;
      };
    }
