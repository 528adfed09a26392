use borrow.Author.Rules.{rules}
use Rattle.tapes_fields.proofs.Reading.{other_tag, same_tag}
use Rattle.tapes_fields.proofs.opens.Goals as goal

pub returns-then-bytes-tag : goal.returns-then-bytes-tag
returns-then-bytes-tag c = search (rules, same_tag)

pub returns-else-bytes-tag : goal.returns-else-bytes-tag
returns-else-bytes-tag c = search (rules, other_tag)
