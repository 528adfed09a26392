use borrow.Author.Rules.{rules}
use Rattle.unbounded_codes.proofs.Standing.{by_words}
use Rattle.unbounded_codes.proofs.stands.Goals as goal

pub returns : goal.returns
returns c = search (rules, by_words)
