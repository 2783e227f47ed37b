-- What is written is read.
use Rattle.std.specs.Prelude.{◌≡◌, ℕ, true, List, Some, Ok, decimal}
use Rattle.std.specs.List.{AllByRecursion}
use Rattle.script_words.specs.Words.{lines, words}
use Rattle.script_words.specs.Numbers.{number}
use Rattle.scripts.specs.Commands.{Commands}
use Rattle.scripts.specs.Scripts.{script_of}
use Rattle.script_laws.specs.Writing.{spaced, ended, written, without, is_word, Small, Writable}

abbrev pub DecimalNumbersAreRead : Type 0
DecimalNumbersAreRead = (n : ℕ) → Small n → number (decimal n) ≡ Some n

abbrev pub SpacedWordsAreRead : Type 0
SpacedWordsAreRead = (ws : List (List ℕ)) → AllByRecursion (λ w. is_word w ≡ true) ws → words (spaced ws) ≡ ws

abbrev pub EndedLinesAreRead : Type 0
EndedLinesAreRead = (ls : List (List ℕ)) → AllByRecursion (λ l. without 10 l ≡ true) ls → lines (ended ls) ≡ ls

-- of every script that can be written, the text states exactly its commands
abbrev pub WhatIsWrittenIsRead : Type 0
WhatIsWrittenIsRead = (cs : Commands) → Writable cs → script_of (written cs) ≡ Ok cs
