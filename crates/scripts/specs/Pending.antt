-- Calls that wait for their answers.
use Rattle.std.specs.Prelude.{◌≡◌, List}
use Rattle.std.specs.List.{AllByRecursion}
use Rattle.std.specs.declared.option.Option.TheVariants as option
use Rattle.plates.specs.declared.calls.Turn.{Turn}

-- every answer is still to come
abbrev pub AllPending : List Turn → Type 0
AllPending ts = AllByRecursion (λ t. t.answer ≡ option.None) ts
