use Rattle.bounded_sixteen_host.proofs.Listing.{seven}
use Rattle.bounded_sixteen_host.proofs.Running.{capacity_six, capacity_told_lem}
use borrow.Author.Rules.{rules}
use Rattle.bounded_sixteen_host.proofs.fern_ring16_capacity.Goals as goal

pub returns-then-broken : goal.returns-then-broken
returns-then-broken c = search (rules, capacity_six)

pub fixed_in-f-requires : goal.fixed_in-f-requires
fixed_in-f-requires c = search (rules, seven)

pub returns : goal.returns
returns c = search (rules, capacity_told_lem)
