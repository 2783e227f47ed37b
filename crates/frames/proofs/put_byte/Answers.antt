use Rattle.frames.proofs.Over.{over_two}
use Rattle.frames.proofs.put_byte.Goals as goal

pub returns : goal.returns
returns c = record { writes_two_digits = let e = over_two c.args.out.now c.args.at c.hex_digit.result c.hex_digit-2.result c.requires in cc }
