-- The words that commands begin with, and those of the kernels.
use Rattle.std.specs.Prelude.{ℕ, cond, List, [], ◌∷◌, Some, None, codes, Option}
use Rattle.std.specs.Str.{bytes_eq}
use Rattle.kernels.specs.declared.choice.KernelChoice.{KernelChoice}
use Rattle.kernels.specs.declared.choice.KernelChoice.TheVariants.{FiveThree, STransform}
use Rattle.script_arguments.specs.declared.names.CallName.{CallName}
use Rattle.script_arguments.specs.declared.names.CallName.TheVariants.{Lay, Lease, Settle, Surrender, Recall, Preview, Read, Clear}
use Rattle.script_arguments.specs.declared.names.Name.{Name}
use Rattle.script_arguments.specs.declared.names.Name.TheVariants.{Plate, Open, Call, Sheet, Save}

-- what stands beside a word in a table, if the word stands there
abbrev pub found_in : {X : Type 0} → List (List ℕ × X) → List ℕ → Option X
found_in [] word = None
found_in (row ∷ rows) word = cond (bytes_eq word row.0) (Some row.1) (found_in rows word)

abbrev pub call_table : List (List ℕ × CallName)
call_table =
    (codes "lay", Lay) ∷ (codes "lease", Lease) ∷ (codes "settle", Settle) ∷ (codes "surrender", Surrender) ∷ (codes "recall", Recall)
    ∷ (codes "preview", Preview) ∷ (codes "read", Read) ∷ (codes "clear", Clear) ∷ []

abbrev pub kernel_table : List (List ℕ × KernelChoice)
kernel_table = (codes "5/3", FiveThree) ∷ (codes "S", STransform) ∷ []

abbrev pub other_table : List (List ℕ × Name)
other_table = (codes "plate", Plate) ∷ (codes "open", Open) ∷ (codes "sheet", Sheet) ∷ (codes "save", Save) ∷ []

-- the name of a call, or else one of the others
abbrev pub or_other : Option CallName → Option Name → Option Name
or_other None other = other
or_other (Some name) other = Some (Call name)

abbrev pub name_of : List ℕ → Option Name
name_of word = or_other (found_in call_table word) (found_in other_table word)

abbrev pub kernel_of : List ℕ → Option KernelChoice
kernel_of word = found_in kernel_table word
