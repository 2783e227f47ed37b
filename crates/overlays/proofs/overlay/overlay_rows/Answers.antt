use Rattle.std.proofs.Common.{◌≡◌, ◌+◌, ◌≤◌, sym, ◌∙◌, arith}
use Rattle.wavelets.proofs.Counts.{count_cells_none, count_cells_more}
use Rattle.cones.proofs.Counting.{rows_total, after_is, is_after}
use Rattle.overlays.specs.Overlays.{in_row}
use Rattle.overlays.proofs.Laying.{in_rows, rows_none, rows_more, rows_all, sides, laid_none, laid_join, laid_alike}
use Rattle.overlays.proofs.overlay.overlay_rows.Goals as goal

pub loop-row-init : goal.loop-row-init
loop-row-init g c = (laid_none _ _ _ _ (rows_none _), g.B.Store.still _ _, omega arith, omega arith)

pub overlay_row-requires : goal.overlay_row-requires
overlay_row-requires g c =
    let z = sides _ _ _ _ c.loop-row.invariant.0.picture in
    record { a_row = rw (z.0, ← c.requires.every_row) c.loop-row-test.true; every_column = c.requires.every_column ∙ sym z.1 }

pub loop-row-preserved : goal.loop-row-preserved
loop-row-preserved g c =
    let t = g.V.Source.test c.args.source.now in let v = g.V.Source.value c.args.source.now in
    let p = g.B.Plane.picture c.args.to.now in let B = g.B.Store.bits in
    let C = c.args.columns in let m = c.loop-row.row in
    let did = c.overlay_row.ensures in
    let inv = c.loop-row.invariant in
    let before = after_is (rows_total C t) (count_cells_none C t) m c.loop-row.count inv.2 in (
      laid_join (in_rows m t) v p (B c.args.to.now) (in_row m t) (in_rows (m + 1) t) _ _ _ _ (rows_more p.height p.width m t) inv.0 (record { picture = did.puts_the_rows_numbers; bits = did.sets_their_bits }),
      g.B.Store.onward _ _ _ _ _ inv.1 did.leaves_what_lies_under,
      is_after (rows_total C t) (count_cells_none C t) _ _ (omega (arith, before, did.counts_the_puts, count_cells_more m C t)),
      omega (arith, inv.3, c.overlay_row.type_inv),
    )

pub returns : goal.returns
returns g c =
    let t = g.V.Source.test c.args.source.now in
    let p = g.B.Plane.picture c.args.to.now in
    let C = c.args.columns in let m = c.loop-row.row in
    let inv = c.loop-row.invariant in
    let over : p.height ≤ m = rw (← c.requires.every_row) c.loop-row-test.false in
    let laid = laid_alike _ _ p _ _ _ _ (rows_all p.height p.width m t over) inv.0 in
    let all = after_is (rows_total C t) (count_cells_none C t) m c.loop-row.count inv.2 in
    let e : m ≡ c.args.rows = omega arith in
    record { puts_the_sources_numbers = laid.picture; sets_their_bits = laid.bits; leaves_what_lies_under = inv.1; counts_the_puts = rw e at all }
