use Rattle.bounded_lent_by_value.proofs.Most.{the_lesser}
use Rattle.bounded_lent_by_value.proofs.at_most.Goals as goal

pub returns : goal.returns
returns c = the_lesser c.args.count c.min.result c.min.ensures
