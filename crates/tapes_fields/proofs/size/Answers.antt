use borrow.Author.Rules.{rules}
use Rattle.queue_entries.proofs.Pick.{picks}
use Rattle.tapes_fields.specs.Fields.{size_of}
use Rattle.tapes_fields.proofs.size.Goals as goal

pub returns : goal.returns
unfolding size_of
returns c = search (rules, picks)
