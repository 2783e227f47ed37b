-- The put goes to the cell below.
use Rattle.std.proofs.Common.{◌*◌, ◌^◌, to_z-of_z}
use Rattle.planes.specs.Planes.{PutsNumber}
use Rattle.layers.proofs.Layers.{number_put, bit_put, frame_put}
use Rattle.layers.proofs.level.LevelLayerStore.put.Goals as goal

pub returns : goal.returns
returns g c =
    let at = c.in_ok-at.ensures.is_the_multiplied_place_inside in
    let k = c.args.self.now.level.number in
    let p = g.S.Plane.picture c.args.self.now.below in
    let q = g.S.Plane.picture c.put_at.new.plate in
    let b = g.S.Store.bits c.args.self.now.below in
    let d = g.S.Store.bits c.put_at.new.plate in
    let i = c.args.row in let j = c.args.column in
    let within = rw (at.2, at.3) at at.1 in
    let number : PutsNumber p (i * 2 ^ k) (j * 2 ^ k) c.args.number q c.put_at.result = rw (← at.2, ← at.3, ← to_z-of_z c.ranges.number) c.put_at.ensures.writes_the_number in
    let bit = rw (at.2, at.3) at c.put_at.ensures.sets_the_bit in
    record {
      writes_the_number = number_put k p q b d i j c.args.number c.put_at.result at.0 within number;
      sets_the_bit = bit_put k p q b d i j c.put_at.result at.0 within bit;
      leaves_what_lies_under = (frame_put k p q b d i j c.args.number c.put_at.result number bit, c.put_at.ensures.leaves_what_lies_under);
      writes_the_number_below = number;
      sets_the_bit_below = bit;
    }
