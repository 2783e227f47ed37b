use Rattle.std.proofs.Common.{◌+◌, ◌*◌, length, set, ap, ◌∙◌, arith}
use Rattle.frames.proofs.Over.{over_none, byte_more, line_all}
use Rattle.frames.proofs.put_line.Goals as goal

pub loop-i-init : goal.loop-i-init
loop-i-init c = over_none c.args.out.now c.args.at

pub loop-i-preserved : goal.loop-i-preserved
loop-i-preserved c = c.put_byte.ensures.writes_two_digits ∙ byte_more c.args.out.now c.args.at c.args.frame.now c.requires c.loop-i.i c.loop-i.out c.loop-i.invariant c.loop-i-test.true

pub returns : goal.returns
returns c = record {
  writes_the_line = ap (λ q. set q (c.args.at + 2 * length c.args.frame.now + 2) 10) c.put_byte-2.ensures.writes_two_digits
      ∙ line_all c.args.out.now c.args.at c.args.frame.now c.requires c.loop-i.i c.loop-i.out c.loop-i.invariant c.loop-i-test.false c.check_byte.result c.check_byte.ensures.is_the_check_byte;
  answers_its_end = omega arith;
}
