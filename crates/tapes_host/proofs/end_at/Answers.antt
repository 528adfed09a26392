use Rattle.tapes_host.proofs.Recording.{ended_at}
use borrow.Author.Rules.{rules}
use Rattle.tapes_host.proofs.end_at.Goals as goal

pub returns : goal.returns
returns c = search (rules, ended_at)
