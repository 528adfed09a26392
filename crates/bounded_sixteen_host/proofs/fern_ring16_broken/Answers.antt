use Rattle.bounded_sixteen_host.proofs.Running.{six, not_six}
use borrow.Author.Rules.{rules}
use Rattle.bounded_sixteen_host.proofs.fern_ring16_broken.Goals as goal

pub returns-then-broken : goal.returns-then-broken
returns-then-broken c = search (rules, six)

pub returns-else-broken : goal.returns-else-broken
returns-else-broken c = search (rules, not_six)
