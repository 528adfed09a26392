use Rattle.unbounded_host.proofs.Answering.{make_six, head_long, pool_long, records_long, not_made, made}
use borrow.Author.Rules.{rules}
use Rattle.unbounded_host.proofs.fern_unbounded_make.Goals as goal

pub returns-then-not-shaped : goal.returns-then-not-shaped
returns-then-not-shaped c = search (rules, make_six)

pub returns-then-made-ne0 : goal.returns-then-made-ne0
returns-then-made-ne0 c = search (rules, not_made)

pub put_machine-requires : goal.put_machine-requires
put_machine-requires c = record { head_len = search (rules, head_long); pool_len = search (rules, pool_long); records_len = search (rules, records_long) }

pub returns : goal.returns
returns c = search (rules, made)
