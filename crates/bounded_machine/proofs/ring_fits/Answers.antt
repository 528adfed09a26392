use borrow.Author.Rules.{rules}
use Rattle.queue_entries.proofs.Limits.{limit_most}
use Rattle.bounded_machine.proofs.Laws.{fair_of}
use Rattle.bounded_machine.proofs.ring_fits.Goals as goal

pub by_rule-requires : goal.by_rule-requires
by_rule-requires c = search (rules, limit_most)

pub ends_fit-requires : goal.ends_fit-requires
ends_fit-requires c = search (rules, fair_of)
