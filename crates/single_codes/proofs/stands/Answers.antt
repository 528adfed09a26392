use borrow.Author.Rules.{rules}
use Rattle.single_codes.proofs.Standing.{by_words}
use Rattle.single_codes.proofs.stands.Goals as goal

pub returns : goal.returns
returns c = search (rules, by_words)
