use Rattle.bounded_sixteen_bits.proofs.Slots.{ran_is}
use borrow.Author.Rules.{rules}
use Rattle.bounded_sixteen_bits.proofs.narrow_ran.Goals as goal

pub returns : goal.returns
returns c = search (rules, ran_is)
