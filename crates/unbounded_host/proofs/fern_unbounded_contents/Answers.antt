use Rattle.unbounded_host.proofs.Answering.{contents_six, head_words, pool_words, record_words, contents_listed}
use borrow.Author.Rules.{rules}
use Rattle.unbounded_host.proofs.fern_unbounded_contents.Goals as goal

pub returns-then-not-stands : goal.returns-then-not-stands
returns-then-not-stands c = search (rules, contents_six)

pub machine_in-requires : goal.machine_in-requires
machine_in-requires c = record { head_len = search (rules, head_words); pool_len = search (rules, pool_words); records_len = search (rules, record_words) }

pub returns : goal.returns
returns c = search (rules, contents_listed)
