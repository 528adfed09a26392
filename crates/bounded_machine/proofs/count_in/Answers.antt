use borrow.Author.Rules.{rules}
use Rattle.bounded_machine.proofs.Items.{within_at, counted_at}
use Rattle.bounded_machine.proofs.count_in.Goals as goal

pub count-requires : goal.count-requires
count-requires c = rw c.fixed.ensures (search (rules, within_at))

pub returns : goal.returns
returns c = let h = rw c.fixed.ensures at c.count.ensures in search (rules, counted_at)
