use Rattle.bounded_sixteen_bits.proofs.Slots.{narrowed_is}
use borrow.Author.Rules.{rules}
use Rattle.bounded_sixteen_bits.proofs.narrow.Goals as goal

pub returns : goal.returns
returns c = search (rules, narrowed_is)
