use Rattle.unbounded_host.proofs.Answering.{long_head, long_pool, long_records, went_on}
use borrow.Author.Rules.{rules}
use Rattle.unbounded_host.proofs.run_on.Goals as goal

pub machine_in-requires : goal.machine_in-requires
machine_in-requires c = record { head_len = search (rules, long_head); pool_len = search (rules, long_pool); records_len = search (rules, long_records) }

pub put_machine-requires : goal.put_machine-requires
put_machine-requires c = record { head_len = search (rules, long_head); pool_len = search (rules, long_pool); records_len = search (rules, long_records) }

pub returns : goal.returns
returns c = search (rules, went_on)
