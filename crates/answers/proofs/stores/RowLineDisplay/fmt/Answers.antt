-- One cell more.
use Rattle.std.proofs.Common.{ℕ, [], rules}
use Rattle.std.proofs.Output.{has_written_append, has_written_of_eq}
use Rattle.answers.specs.Stores.{cell_text}
use Rattle.answers.proofs.Texts.{answered, next_of_count}
use Rattle.answers.proofs.stores.RowLineDisplay.fmt.Goals as goal

pub loop-column-preserved : goal.loop-column-preserved
loop-column-preserved g c =
    let s = c.args.self.now.store.now in
    let p = g.S.Plane.picture s in
    let i = c.args.self.now.row in
    let k = c.loop-column.column in
    let number = answered p i k (p.number i k) _ _ c.read.ensures.answers_the_number c.unwrap-number.ensures in
    let bit = answered p i k (g.S.Store.bits s i k) _ _ c.bit.ensures.answers_the_bit c.unwrap-bit.ensures in
    let cell = λ (j : ℕ). cell_text j (p.number i j) (g.S.Store.bits s i j) in
    λ plain. has_written_of_eq _ _ _ _ _ (next_of_count cell [] k) (has_written_append _ _ _ _ _ _ (c.loop-column.invariant plain) (rw (← number, ← bit) (search rules)))
