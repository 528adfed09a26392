use Rattle.tapes_host.proofs.Recording.{about_put}
use borrow.Author.Rules.{rules}
use Rattle.tapes_host.proofs.put_about.Goals as goal

pub returns : goal.returns
returns c = search (rules, about_put)
