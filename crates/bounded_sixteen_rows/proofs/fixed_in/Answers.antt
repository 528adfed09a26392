use Rattle.bounded_sixteen_rows.proofs.Lists.{fixed_read}
use Rattle.bounded_sixteen_rows.proofs.fixed_in.Goals as goal

pub returns : goal.returns
returns c = fixed_read c.args.head.now _ _ _ _
    c.wide.ensures.same c.wide-2.ensures.same
    c.wide-3.ensures.same c.wide-4.ensures.same
