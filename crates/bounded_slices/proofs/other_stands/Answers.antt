use Rattle.bounded_slices.proofs.Judging.{no_second_word, no_first_word, by_code}
use borrow.Author.Rules.{rules}
use Rattle.bounded_slices.proofs.other_stands.Goals as goal

pub returns-then-second-ne0 : goal.returns-then-second-ne0
returns-then-second-ne0 c = search (rules, no_second_word)

pub returns-then-not-may_be : goal.returns-then-not-may_be
returns-then-not-may_be c = search (rules, no_first_word)

pub returns : goal.returns
returns c = search (rules, by_code)
