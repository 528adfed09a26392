use Rattle.tapes_host.proofs.Recording.{too_few_bytes, no_items, items_count}
use borrow.Author.Rules.{rules}
use Rattle.tapes_host.proofs.entries_can.Goals as goal

pub returns-then-bytes-count : goal.returns-then-bytes-count
returns-then-bytes-count c = search (rules, too_few_bytes)

pub returns-then-items-eq0 : goal.returns-then-items-eq0
returns-then-items-eq0 c = search (rules, items_count)

pub returns-else-items-eq0 : goal.returns-else-items-eq0
returns-else-items-eq0 c = search (rules, no_items)
