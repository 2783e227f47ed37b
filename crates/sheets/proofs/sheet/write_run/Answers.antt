use Rattle.std.proofs.Common.{◌+◌, ◌-◌, ◌*◌, length, replicate, ap, ◌∙◌, arith}
use Rattle.frames.specs.Frames.{frame_line, over}
use Rattle.sheets.proofs.Sizes.{length_run_frame}
use Rattle.sheets.proofs.Framing.{front_run}
use Rattle.sheets.proofs.sheet.write_run.Goals as goal

pub returns : goal.returns
returns g c =
    let front = front_run (g.S.Plane.picture c.args.store.now).number c.args.run (replicate 70 0) c.fill_frame.new.frame (6 + 4 * c.args.run.count - 0) (omega arith) c.fill_frame.ensures.writes_the_frame in
    record {
      writes_the_line = c.put_line.ensures.writes_the_line ∙ ap (λ z. over c.args.out.now c.args.at (frame_line z)) front;
      answers_its_end = omega (arith, c.put_line.ensures.answers_its_end, ap length front, length_run_frame (g.S.Plane.picture c.args.store.now).number c.args.run);
    }
