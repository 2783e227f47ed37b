use Rattle.std.proofs.Common.{◌≡◌, length, take, vec_items, sym, ap, ◌∙◌, rules}
use Rattle.std.specs.Vec.{with_items}
use Rattle.std.proofs.lemmas.List.{with_items_is}
use Rattle.plates.specs.Shows.{seen}
use Rattle.plates.specs.Sheets.{own_sheet}
use Rattle.workshop_job.specs.Endings.{sheet_room}
use Rattle.workshop_job.proofs.Sheets.{front_of_over, none_declined}
use Rattle.workshop_job.proofs.endings.sheet_lines.Goals as goal

pub returns-in-Ok : goal.returns-in-Ok
returns-in-Ok g c =
    let v = seen g.S.Plane g.S.Store g.K.Kernel c.args.plate.now in
    let text = own_sheet c.args.issue (g.K.Kernel.code c.args.plate.now.kernel) v in
    let done = c.in-Ok.ensures.writes_the_sheet_of_its_cells in
    let filled : vec_items (with_items c.in_ok-lines.lines c.sheet.new.out) ≡ c.sheet.new.out
    = with_items_is c.in_ok-lines.lines c.sheet.new.out (c.sheet.auto.out ∙ c.deref_mut.ensures.len) in
    let room : length c.deref_mut.result.now ≡ sheet_room c.args.room = search rules in
    record {
      are_the_sheet_or_its_fault = c.truncate.ensures.items ∙ ap (take c.in-Ok.length) (filled ∙ done.1) ∙ front_of_over c.deref_mut.result.now text c.in-Ok.length done.0
          ∙ none_declined v.plan text (length c.deref_mut.result.now) (sheet_room c.args.room) room (sym c.in-Ok.ensures.declines_by_its_own_table);
    }
