use borrow.Author.Rules.{rules}
use Rattle.queue_entries.proofs.Pick.{picks}
use Rattle.tapes_fields.specs.Fields.{tag_for}
use Rattle.tapes_fields.proofs.tag_for.Goals as goal

pub returns-then-code-lt2 : goal.returns-then-code-lt2
unfolding tag_for
returns-then-code-lt2 c = search (rules, picks)

pub returns-else-code-lt2 : goal.returns-else-code-lt2
unfolding tag_for
returns-else-code-lt2 c = search (rules, picks)
