use Rattle.std.specs.Fmt.{HasWritten, IsPlainFormatter}
use Rattle.std.specs.List.{range_with_len, flat_map}
use Rattle.answers.specs.Stores.{cell_text}
use Rattle.answers.proofs.stores.RowLineDisplay.fmt.Given as goal

abbrev pub invariant-loop-column : goal.invariant-loop-column
invariant-loop-column g l =
    IsPlainFormatter l.initial.f
    → HasWritten g.W.Write.write_str_gives l.initial.f
    (flat_map (λ c. cell_text c ((g.S.Plane.picture l.self.store.now).number l.self.row c) (g.S.Store.bits l.self.store.now l.self.row c)) (range_with_len 0 l.column)) l.f
