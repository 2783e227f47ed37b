-- A mistake and want of memory in words, as bytes of text.
use Rattle.std.specs.Prelude.{ℕ, List, Some, codes, Option}
use Rattle.script_arguments.specs.declared.flaw.OrMemory.{OrMemory}
use Rattle.script_arguments.specs.declared.flaw.OrMemory.TheVariants.{Error, Memory}
use Rattle.script_arguments.specs.declared.mistake.Mistake.{Mistake}
use Rattle.script_arguments.specs.declared.mistake.Mistake.TheVariants.{NoSuchCommand, MissingWord, TooManyWords, NotANumber, SampleTooLarge, IssueTooLarge, NoSuchKernel, OpeningMissing, OpeningRepeated, CallAfterEnding, NoPlate}

abbrev pub mistake_words : Mistake → List ℕ
mistake_words NoSuchCommand = codes "there is no such command"
mistake_words MissingWord = codes "a word is missing"
mistake_words TooManyWords = codes "there are too many words"
mistake_words NotANumber = codes "a word is not a number up to 4294967295"
mistake_words SampleTooLarge = codes "a sample is over 65535"
mistake_words IssueTooLarge = codes "the issue is over 65535"
mistake_words NoSuchKernel = codes "the kernel is neither 5/3 nor S"
mistake_words OpeningMissing = codes "the first command must be plate or open"
mistake_words OpeningRepeated = codes "plate or open comes once"
mistake_words CallAfterEnding = codes "no call may follow sheet or save"
mistake_words NoPlate = codes "the script has no plate"

-- an error's words, if it has any, or those of want of memory
abbrev pub error_words : {E : Type 0} → (E → Option (List ℕ)) → OrMemory E → Option (List ℕ)
error_words words (Error e) = words e
error_words words Memory = Some (codes "there is not enough memory")
