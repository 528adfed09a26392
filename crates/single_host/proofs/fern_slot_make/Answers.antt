use Rattle.single_host.proofs.Answering.{make_six, five_long, all_long, not_made, made}
use borrow.Author.Rules.{rules}
use Rattle.single_host.proofs.fern_slot_make.Goals as goal

pub returns-then-not-shaped : goal.returns-then-not-shaped
returns-then-not-shaped c = search (rules, make_six)

pub returns-then-made-ne0 : goal.returns-then-made-ne0
returns-then-made-ne0 c = search (rules, not_made)

pub put_machine-requires : goal.put_machine-requires
put_machine-requires c = search (rules, five_long, all_long)

pub returns : goal.returns
returns c = search (rules, made)
