use Rattle.bounded_host.proofs.Answering.{capacity_six, second_there, capacity_told_lem}
use borrow.Author.Rules.{rules}
use Rattle.bounded_host.proofs.fern_ring_capacity.Goals as goal

pub returns-then-broken : goal.returns-then-broken
returns-then-broken c = search (rules, capacity_six)

pub bounds-head-2 : goal.bounds-head-2
bounds-head-2 c = search (rules, second_there)

pub returns : goal.returns
returns c = search (rules, capacity_told_lem)
