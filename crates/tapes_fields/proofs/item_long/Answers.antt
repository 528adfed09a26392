use borrow.Author.Rules.{rules}
use Rattle.queue_entries.proofs.Pick.{picks}
use Rattle.tapes_fields.specs.Fields.{item_long}
use Rattle.tapes_fields.proofs.item_long.Goals as goal

pub returns-then-code-lt2 : goal.returns-then-code-lt2
unfolding item_long
returns-then-code-lt2 c = search (rules, picks)

pub returns-else-code-lt2 : goal.returns-else-code-lt2
unfolding item_long
returns-else-code-lt2 c = search (rules, picks)
