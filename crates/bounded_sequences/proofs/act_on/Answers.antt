use Rattle.bounded_sequences.proofs.Acting.{acted_so}
use borrow.Author.Rules.{rules}
use Rattle.bounded_sequences.proofs.act_on.Goals as goal

pub returns : goal.returns
returns c = search (rules, acted_so)
