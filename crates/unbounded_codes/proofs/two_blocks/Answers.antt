use Rattle.unbounded_codes.specs.Codes.{five}
use Rattle.unbounded_codes.proofs.two_blocks.Goals as goal

pub returns : goal.returns
unfolding five
returns c = λ i. record {
  code = c.args.code;
  first = (c.number.ensures i);
  second = (c.number-2.ensures i);
  third = c.args.c;
  fourth = c.args.d;
}
