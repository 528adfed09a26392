use Rattle.single_host.proofs.Answering.{run_six, five_words, all_words, went}
use borrow.Author.Rules.{rules}
use Rattle.single_host.proofs.fern_slot_run.Goals as goal

pub returns-then-not-stands : goal.returns-then-not-stands
returns-then-not-stands c = search (rules, run_six)

pub machine_in-requires : goal.machine_in-requires
machine_in-requires c = search (rules, five_words, all_words)

pub put_machine-requires : goal.put_machine-requires
put_machine-requires c = record { head_len = search (rules, five_words); records_len = search (rules, all_words) }

pub returns : goal.returns
returns c = search (rules, went)
