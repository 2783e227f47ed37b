-- A line in error in words, as bytes of text.
use Rattle.std.specs.Prelude.{ℕ, List, ◌++◌, codes, decimal}
use Rattle.script_arguments.specs.Mistakes.{mistake_words}
use Rattle.scripts.specs.declared.script.Wrong.{Wrong}

-- the number of the line, and what is wrong with it
abbrev pub wrong_words : Wrong → List ℕ
wrong_words w = codes "line " ++ (decimal w.line ++ (codes ": " ++ mistake_words w.mistake))
