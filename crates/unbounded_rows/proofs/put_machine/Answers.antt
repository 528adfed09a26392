use Rattle.unbounded_rows.proofs.Standing.{pool_put}
use borrow.Author.Rules.{rules}
use Rattle.unbounded_rows.proofs.put_machine.Goals as goal

pub returns-clause-pool_after : goal.returns-clause-pool_after
returns-clause-pool_after c = search (rules, pool_put)
