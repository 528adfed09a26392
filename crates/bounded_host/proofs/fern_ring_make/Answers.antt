use Rattle.bounded_host.proofs.Answering.{make_six, make_refused, made_eight, made_slots, make_done}
use borrow.Author.Rules.{rules}
use Rattle.bounded_host.proofs.fern_ring_make.Goals as goal

pub returns-then-not-shaped : goal.returns-then-not-shaped
returns-then-not-shaped c = search (rules, make_six)

pub returns-then-made-ne0 : goal.returns-then-made-ne0
returns-then-made-ne0 c = search (rules, make_refused)

pub put_ring-requires : goal.put_ring-requires
put_ring-requires c = search (rules, made_eight)

pub put_slots-requires : goal.put_slots-requires
put_slots-requires c = search (rules, made_slots)

pub returns : goal.returns
returns c = search (rules, make_done)
