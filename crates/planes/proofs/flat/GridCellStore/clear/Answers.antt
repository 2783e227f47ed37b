-- The bits of the rectangle's records are cleared.
use Rattle.std.proofs.Common.{refl}
use Rattle.planes.proofs.Flats.{picture_cleared, bits_cleared, frame_cleared}
use Rattle.planes.proofs.flat.GridCellStore.clear.Goals as goal

pub returns : goal.returns
returns c =
    let s = c.args.self.now in
    let xs = s.cells.now in let ys = c.clear_front.new.cells in
    let h = rw c.area-area.ensures.is_the_area_or_none at c.clear_front.ensures.clears_the_front in
    record {
      keeps_the_picture = picture_cleared s.rows s.columns xs ys h;
      unsets_every_bit = bits_cleared s.rows s.columns xs ys h;
      leaves_what_lies_under = (refl, frame_cleared s.rows s.columns xs ys h _ _ refl refl);
    }
