use borrow.Author.Rules.{rules}
use Rattle.queue_entries.proofs.Pick.{picks}
use Rattle.tapes_fields.specs.Judged.{head_by}
use Rattle.tapes_fields.proofs.head_by.Goals as goal

pub returns-then-bytes-lt7 : goal.returns-then-bytes-lt7
unfolding head_by
returns-then-bytes-lt7 c = search (rules, picks)

pub returns : goal.returns
unfolding head_by
returns c = search (rules, picks)
