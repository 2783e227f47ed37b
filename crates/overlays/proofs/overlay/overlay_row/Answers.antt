use Rattle.std.proofs.Common.{◌≡◌, ◌≤◌, arith}
use Rattle.wavelets.proofs.Counts.{count_line_none, count_line_more}
use Rattle.cones.proofs.Counting.{columns_total, after_is, is_after}
use Rattle.overlays.proofs.Laying.{front_none, front_more, front_all, sides, laid_none, laid_place, laid_join, laid_alike}
use Rattle.overlays.proofs.overlay.overlay_row.Goals as goal

pub loop-column-init : goal.loop-column-init
loop-column-init g c = (laid_none _ _ _ _ (front_none _ _), g.B.Store.still _ _, omega arith, omega arith)

pub overlay_place-count-requires : goal.overlay_place-count-requires
overlay_place-count-requires g c =
    let z = sides _ _ _ _ c.loop-column.invariant.0.picture in
    record { inside = (rw z.0 c.requires.a_row, rw (z.1, ← c.requires.every_column) c.loop-column-test.true) }

pub loop-column-preserved : goal.loop-column-preserved
loop-column-preserved g c =
    let P = g.B.Plane.picture in let B = g.B.Store.bits in
    let t = g.V.Source.test c.args.source.now in let v = g.V.Source.value c.args.source.now in
    let p = P c.args.to.now in
    let m = c.args.row in let j = c.loop-column.column in
    let did = c.overlay_place-count.ensures in
    let inv = c.loop-column.invariant in
    let z = sides _ _ _ _ inv.0.picture in
    let put = laid_place t v (P c.loop-column.to) (B c.loop-column.to) _ _ m j (rw z.0 c.requires.a_row) (rw (z.1, ← c.requires.every_column) c.loop-column-test.true) did.puts_the_number did.sets_the_bit in
    let before = after_is (columns_total (t m)) (count_line_none (t m)) j c.loop-column.count inv.2 in (
      laid_join _ v p _ _ _ _ _ _ _ (front_more p.height p.width m j t) inv.0 put,
      g.B.Store.onward _ _ _ _ _ inv.1 did.leaves_what_lies_under,
      is_after (columns_total (t m)) (count_line_none (t m)) _ _ (omega (arith, before, did.counts_the_put, count_line_more j (t m))),
      grind (arith, did.counts_the_put),
    )

pub returns : goal.returns
returns g c =
    let t = g.V.Source.test c.args.source.now in
    let p = g.B.Plane.picture c.args.to.now in
    let m = c.args.row in let j = c.loop-column.column in
    let inv = c.loop-column.invariant in
    let over : p.width ≤ j = rw (← c.requires.every_column) c.loop-column-test.false in
    let laid = laid_alike _ _ p _ _ _ _ (front_all p.height p.width m j t over) inv.0 in
    let all = after_is (columns_total (t m)) (count_line_none (t m)) j c.loop-column.count inv.2 in
    let e : j ≡ c.args.columns = omega arith in
    record { puts_the_rows_numbers = laid.picture; sets_their_bits = laid.bits; leaves_what_lies_under = inv.1; counts_the_puts = rw e at all }
