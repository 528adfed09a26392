use Rattle.unbounded_codes.specs.Codes.{five}
use Rattle.unbounded_codes.proofs.aside.Goals as goal

pub returns : goal.returns
unfolding five
returns c = λ i. record {
  code = c.args.code;
  first = (c.number.ensures i);
  second = c.args.b;
  third = (c.number-2.ensures i);
  fourth = c.args.d;
}
