use Rattle.single_host.proofs.Answering.{contents_six, five_words, all_words, contents_listed}
use borrow.Author.Rules.{rules}
use Rattle.single_host.proofs.fern_slot_contents.Goals as goal

pub returns-then-not-stands : goal.returns-then-not-stands
returns-then-not-stands c = search (rules, contents_six)

pub machine_in-requires : goal.machine_in-requires
machine_in-requires c = search (rules, five_words, all_words)

pub returns : goal.returns
returns c = search (rules, contents_listed)
