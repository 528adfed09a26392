use Rattle.single_host.proofs.Answering.{step_six, five_words, all_words, stepped}
use borrow.Author.Rules.{rules}
use Rattle.single_host.proofs.fern_slot_step.Goals as goal

pub returns-then-not-stands : goal.returns-then-not-stands
returns-then-not-stands c = search (rules, step_six)

pub machine_in-requires : goal.machine_in-requires
machine_in-requires c = search (rules, five_words, all_words)

pub put_machine-requires : goal.put_machine-requires
put_machine-requires c = search (rules, five_words, all_words)

pub returns : goal.returns
returns c = search (rules, stepped)
