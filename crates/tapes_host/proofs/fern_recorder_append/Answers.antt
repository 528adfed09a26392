use Rattle.tapes_host.proofs.Recording.{three_words, end_fits, few_entries, append_broken, append_told}
use borrow.Author.Rules.{rules}
use Rattle.tapes_host.proofs.fern_recorder_append.Goals as goal

pub append_at-requires : goal.append_at-requires
append_at-requires c = (search (rules, three_words), search (rules, end_fits), search (rules, few_entries))

pub returns-in-Broken : goal.returns-in-Broken
returns-in-Broken c = search (rules, append_broken)

pub returns-in-At : goal.returns-in-At
returns-in-At c = search (rules, append_told)
