use Rattle.tapes_host.proofs.Recording.{end_fits, end_broken, end_told}
use borrow.Author.Rules.{rules}
use Rattle.tapes_host.proofs.fern_recorder_end.Goals as goal

pub end_at-requires : goal.end_at-requires
end_at-requires c = search (rules, end_fits)

pub returns-in-Broken : goal.returns-in-Broken
returns-in-Broken c = search (rules, end_broken)

pub returns-in-At : goal.returns-in-At
returns-in-At c = search (rules, end_told)
