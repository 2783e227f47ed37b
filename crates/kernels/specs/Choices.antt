-- The two kernels that can be chosen: the code and the amounts of each.
use Rattle.std.specs.Prelude.{ℕ}
use Rattle.wavelets.specs.Lifting.{Amounts, five_three, s_transform}
use Rattle.kernels.specs.declared.choice.KernelChoice.{KernelChoice}
use Rattle.kernels.specs.declared.choice.KernelChoice.TheVariants.{FiveThree, STransform}

abbrev pub choice_amounts : KernelChoice → Amounts
choice_amounts FiveThree = five_three
choice_amounts STransform = s_transform

abbrev pub choice_code : KernelChoice → ℕ
choice_code FiveThree = 1
choice_code STransform = 2
