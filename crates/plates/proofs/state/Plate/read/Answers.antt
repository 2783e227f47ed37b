use Rattle.std.proofs.Common.{sym}
use Rattle.plates.specs.Shows.{seen}
use Rattle.plates.proofs.Reading.{reads_the_cell}
use Rattle.plates.proofs.state.Plate.read.Goals as goal

pub returns : goal.returns
returns g c =
    let e = c.in_ok-level.ensures.declines_by_the_first_row_that_holds in
    record {
      declines_by_its_own_table = e;
      follows_the_plain_plate = λ s p h.
          reads_the_cell s p (seen g.S.Plane g.S.Store g.K.Kernel c.args.self.now) c.args.card.now c.args.at.row c.args.at.column h c.args.self.now.lawful (sym e)
          c.cell_at.result.number c.cell_at.result.bit (rw c.in_ok-level.ensures.answers_the_level at c.cell_at.ensures.is_the_cell_below);
    }
