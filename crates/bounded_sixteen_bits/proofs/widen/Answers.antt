use Rattle.bounded_sixteen_bits.proofs.Slots.{widened_is, short_is}
use borrow.Author.Rules.{rules}
use Rattle.bounded_sixteen_bits.proofs.widen.Goals as goal

pub returns : goal.returns
returns c = record { same = search (rules, widened_is); short = short_is _ (search rules) (search rules) (search rules) }
