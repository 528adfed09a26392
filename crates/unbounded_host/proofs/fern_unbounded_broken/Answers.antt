use Rattle.unbounded_host.proofs.Answering.{broken_six, head_words, pool_words, record_words, fifth_word, parts_broken, parts_sound}
use borrow.Author.Rules.{rules}
use Rattle.unbounded_host.proofs.fern_unbounded_broken.Goals as goal

pub returns-then-not-stands : goal.returns-then-not-stands
returns-then-not-stands c = search (rules, broken_six)

pub ends_in-ends-requires : goal.ends_in-ends-requires
ends_in-ends-requires c = search (rules, head_words)

pub blocks_in-blocks-requires : goal.blocks_in-blocks-requires
blocks_in-blocks-requires c = search (rules, pool_words)

pub records_in-workers-requires : goal.records_in-workers-requires
records_in-workers-requires c = search (rules, record_words)

pub bounds-head-4 : goal.bounds-head-4
bounds-head-4 c = search (rules, fifth_word)

pub returns-then-broken_in : goal.returns-then-broken_in
returns-then-broken_in c = search (rules, parts_broken)

pub returns-else-broken_in : goal.returns-else-broken_in
returns-else-broken_in c = search (rules, parts_sound)
