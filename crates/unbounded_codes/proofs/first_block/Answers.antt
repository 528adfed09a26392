use Rattle.unbounded_codes.specs.Codes.{five}
use Rattle.unbounded_codes.proofs.first_block.Goals as goal

pub returns : goal.returns
unfolding five
returns c = λ i. record { code = c.args.code; first = (c.number.ensures i); second = c.args.b; third = c.args.c; fourth = c.args.d }
