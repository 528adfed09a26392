use Rattle.bounded_sixteen_host.proofs.Listing.{fair_of, index_small, low_item, high_stamp, high_value, high_item}
use borrow.Author.Rules.{rules}
use Rattle.bounded_sixteen_host.proofs.item_at.Goals as goal

pub index-requires : goal.index-requires
index-requires c = search (rules, fair_of)

pub overflow_add-at : goal.overflow_add-at
overflow_add-at c = search (rules, index_small)

pub returns-then-at-f : goal.returns-then-at-f
returns-then-at-f c = search (rules, low_item)

pub slot_at-requires-2 : goal.slot_at-requires-2
slot_at-requires-2 c = search (rules, high_stamp, high_value)

pub returns : goal.returns
returns c = search (rules, high_item)
