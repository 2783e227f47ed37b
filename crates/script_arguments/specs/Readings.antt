-- What the reading of a part of a line promises.
use Rattle.std.specs.Prelude.{◌≡◌, ℕ, List, Ok, Err, Result}
use Rattle.std.specs.Borrow.{Bor}
use Rattle.script_words.specs.Words.{words}
use Rattle.script_arguments.specs.declared.flaw.OrMemory.{OrMemory}
use Rattle.script_arguments.specs.declared.flaw.OrMemory.TheVariants as flaw
use Rattle.script_arguments.specs.declared.mistake.Mistake.{Mistake}
use Rattle.script_arguments.specs.Arguments.{Reading}

-- The value's meaning is what the part of the line states, or the mistake is the line's.
abbrev pub Reads : {X Y E : Type 0} → (X → Y) → Result X (OrMemory E) → Result Y E → Type 0
Reads means (Ok x) told = told ≡ Ok (means x)
Reads means (Err (flaw.Error e)) told = told ≡ Err e
Reads means (Err flaw.Memory) told = Unit {0}

-- The same of a part from the front, with the words after it.
abbrev pub Takes : {X Y : Type 0} → (X → Y) → Result (X × Bor (List ℕ)) Mistake → Reading (Y × List (List ℕ)) → Type 0
Takes means (Ok p) told = told ≡ Ok (means p.0, words p.1.now)
Takes means (Err m) told = told ≡ Err m
