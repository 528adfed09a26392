use Rattle.bounded_sixteen_bits.proofs.Slots.{did_is}
use borrow.Author.Rules.{rules}
use Rattle.bounded_sixteen_bits.proofs.narrow_did.Goals as goal

pub returns : goal.returns
returns c = search (rules, did_is)
