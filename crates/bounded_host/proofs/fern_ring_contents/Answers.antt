use Rattle.bounded_host.proofs.Answering.{contents_six, eight, sixth_there, fair_so, fives, all_slots, contents_listed}
use borrow.Author.Rules.{rules}
use Rattle.bounded_host.proofs.fern_ring_contents.Goals as goal

pub returns-then-broken : goal.returns-then-broken
returns-then-broken c = search (rules, contents_six)

pub fixed_in-f-requires : goal.fixed_in-f-requires
fixed_in-f-requires c = search (rules, eight)

pub ends_in-e-requires : goal.ends_in-e-requires
ends_in-e-requires c = search (rules, eight)

pub bounds-head-6 : goal.bounds-head-6
bounds-head-6 c = search (rules, sixth_there)

pub records_fit-idle-requires : goal.records_fit-idle-requires
records_fit-idle-requires c = search (rules, fair_so, fives)

pub slots_in-all-requires : goal.slots_in-all-requires
slots_in-all-requires c = search (rules, all_slots)

pub returns : goal.returns
returns c = search (rules, contents_listed)
