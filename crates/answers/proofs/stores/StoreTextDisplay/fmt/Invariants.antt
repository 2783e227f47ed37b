use Rattle.std.specs.Fmt.{HasWritten, IsPlainFormatter}
use Rattle.std.specs.List.{range_with_len, flat_map}
use Rattle.answers.specs.Stores.{row_line}
use Rattle.answers.proofs.stores.StoreTextDisplay.fmt.Given as goal

abbrev pub invariant-loop-row : goal.invariant-loop-row
invariant-loop-row g l =
    IsPlainFormatter l.initial.f
    → HasWritten g.W.Write.write_str_gives l.initial.f
    (flat_map (row_line (g.S.Plane.picture l.self.0.now).width (g.S.Plane.picture l.self.0.now).number (g.S.Store.bits l.self.0.now)) (range_with_len 0 l.row)) l.f
