use Rattle.single_host.proofs.Answering.{broken_six, five_words, all_words, is_broken, is_sound}
use borrow.Author.Rules.{rules}
use Rattle.single_host.proofs.fern_slot_broken.Goals as goal

pub returns-then-not-stands : goal.returns-then-not-stands
returns-then-not-stands c = search (rules, broken_six)

pub machine_in-requires : goal.machine_in-requires
machine_in-requires c = search (rules, five_words, all_words)

pub returns-then-broken : goal.returns-then-broken
returns-then-broken c = search (rules, is_broken)

pub returns-else-broken : goal.returns-else-broken
returns-else-broken c = search (rules, is_sound)
