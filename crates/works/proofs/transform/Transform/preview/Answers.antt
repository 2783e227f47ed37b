use Rattle.std.proofs.Common.{◌≡◌, true, length, sym}
use Rattle.works.specs.Works.{previews_there}
use Rattle.works.proofs.Previewed.{CanPreview, can_preview, previews}
use Rattle.works.proofs.transform.Transform.preview.Goals as goal

pub returns : goal.returns
returns g c =
    let L = c.args.self.now.levels.number in let k = c.args.level.number in let a = c.args.rectangle in
    let n = length c.args.output.now in let m = length c.args.scratch.now in
    let p = g.S.Plane.picture c.args.store.now in
    let there : previews_there p.height p.width L k a n m ≡ true = rw (c.rows-rows.ensures.is_the_height, c.columns-columns.ensures.is_the_width) at (sym c.if-not-can_preview.ensures.is_whether_all_fits) in
    let can : CanPreview p.height p.width L k a n m = can_preview p.height p.width L k a n m (sym there) in
    let did = c.uncovered-work.ensures in
    record {
      previews_or_changes_nothing = (
        there,
        previews (g.K.Kernel.amounts c.args.self.now.kernel.now) L k a p _ c.args.output.now c.copy_level.new.output
            did.has_the_same_sides can.output did.shows_the_rounds_below c.copy_level.result c.copy_level.ensures.copies_the_rectangle_or_declines,
      );
    }
