use Rattle.bounded_sequences.proofs.Acting.{byte_9, byte_8}
use borrow.Author.Rules.{rules}
use Rattle.bounded_sequences.proofs.act_byte.Goals as goal

pub returns-then-lose : goal.returns-then-lose
returns-then-lose c = search (rules, byte_9)

pub returns-else-lose : goal.returns-else-lose
returns-else-lose c = search (rules, byte_8)
