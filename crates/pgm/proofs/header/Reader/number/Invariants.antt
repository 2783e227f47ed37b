-- The rest is read as the whole would be.
use Rattle.std.proofs.Common.{◌≡◌, ◌-◌, ◌≤◌, length, drop}
use Rattle.pgm.specs.Machine.{scan, Counted}
use Rattle.pgm.proofs.header.Reader.number.Given as goal

abbrev pub invariant-loop-self : goal.invariant-loop-self
invariant-loop-self l =
    Counted l.state
    × (l.self.at ≤ length l.self.bytes.now)
    × (l.self.bytes.now ≡ l.initial.self.bytes.now)
    × (scan l.state l.self.at (drop l.self.at l.self.bytes.now) ≡ scan l.initial.state l.initial.self.at (drop l.initial.self.at l.initial.self.bytes.now))

abbrev pub decreases-loop-self : goal.decreases-loop-self
decreases-loop-self l = length l.self.bytes.now - l.self.at
