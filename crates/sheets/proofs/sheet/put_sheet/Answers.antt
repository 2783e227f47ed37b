use Rattle.std.proofs.Common.{length, ap, arith}
use Rattle.frames.proofs.Over.{length_line}
use Rattle.sheets.proofs.Sizes.{length_parts}
use Rattle.sheets.proofs.Framing.{sheet_written}
use Rattle.sheets.proofs.sheet.put_sheet.Goals as goal

pub put_line-at-requires : goal.put_line-at-requires
put_line-at-requires g c =
    let p = g.S.Plane.picture c.args.store.now in
    omega (
      arith,
      c.requires.room,
      length_parts c.args.head p.height p.width p.number (g.S.Store.bits c.args.store.now),
      ap length c.frame.ensures.is_the_heads_frame,
    )

pub write_rows-at-requires : goal.write_rows-at-requires
write_rows-at-requires g c =
    let p = g.S.Plane.picture c.args.store.now in
    omega (
      arith,
      c.requires.room,
      length_parts c.args.head p.height p.width p.number (g.S.Store.bits c.args.store.now),
      ap length c.frame.ensures.is_the_heads_frame,
      c.put_line-at.ensures.answers_its_end,
    )

pub put_line-requires : goal.put_line-requires
put_line-requires g c =
    let p = g.S.Plane.picture c.args.store.now in
    omega (
      arith,
      c.requires.room,
      length_parts c.args.head p.height p.width p.number (g.S.Store.bits c.args.store.now),
      ap length c.frame.ensures.is_the_heads_frame,
      c.put_line-at.ensures.answers_its_end,
      c.write_rows-at.ensures.answers_their_end,
      ap length c.end_frame.ensures.is_the_ends_frame,
    )

pub returns : goal.returns
returns g c =
    let p = g.S.Plane.picture c.args.store.now in
    record {
      writes_the_sheet = sheet_written c.args.head p.height p.width p.number (g.S.Store.bits c.args.store.now) c.args.out.now c.put_line-at.new.out c.write_rows-at.new.out c.put_line.new.out
          c.frame.result c.end_frame.result c.put_line-at.result c.write_rows-at.result c.args.cells
          c.frame.ensures.is_the_heads_frame c.end_frame.ensures.is_the_ends_frame c.requires.its_cells
          c.put_line-at.ensures.writes_the_line (omega (arith, c.put_line-at.ensures.answers_its_end, length_line c.frame.result))
          c.write_rows-at.ensures.writes_the_lines c.write_rows-at.ensures.answers_their_end c.put_line.ensures.writes_the_line;
      answers_its_length = omega (
        arith,
        length_parts c.args.head p.height p.width p.number (g.S.Store.bits c.args.store.now),
        ap length c.frame.ensures.is_the_heads_frame,
        c.put_line-at.ensures.answers_its_end,
        c.write_rows-at.ensures.answers_their_end,
        ap length c.end_frame.ensures.is_the_ends_frame,
        c.put_line.ensures.answers_its_end,
      );
    }
