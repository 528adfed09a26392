use Rattle.bounded_sixteen_rows.proofs.Lists.{ends_read}
use Rattle.bounded_sixteen_rows.proofs.ends_in.Goals as goal

pub returns : goal.returns
returns c = record { same = ends_read c.args.head.now _ _ c.wide.ensures.same c.wide-2.ensures.same; head = c.wide.ensures.short; tail = c.wide-2.ensures.short }
