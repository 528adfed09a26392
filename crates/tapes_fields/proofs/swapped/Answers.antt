use borrow.Author.Rules.{rules}
use Rattle.queue_entries.proofs.Pick.{picks}
use Rattle.tapes_fields.specs.Fields.{swapped}
use Rattle.tapes_fields.proofs.swapped.Goals as goal

pub returns : goal.returns
unfolding swapped
returns c = search (rules, picks)
