use Rattle.unbounded_codes.specs.Codes.{five}
use Rattle.unbounded_codes.proofs.next_last.Goals as goal

pub returns : goal.returns
unfolding five
returns c = λ i. record {
  code = c.args.code;
  first = c.args.a;
  second = (c.number.ensures i);
  third = c.args.c;
  fourth = (c.number-2.ensures i);
}
