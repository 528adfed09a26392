use Rattle.tapes_host.proofs.Recording.{three_set}
use borrow.Author.Rules.{rules}
use Rattle.tapes_host.proofs.put_three.Goals as goal

pub returns : goal.returns
returns c = search (rules, three_set)
