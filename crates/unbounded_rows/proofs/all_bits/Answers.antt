use borrow.Author.Rules.{rules}
use Rattle.unbounded_rows.proofs.Going.{bits_begin, bits_end, bit_in, no_bit, bits_more}
use Rattle.unbounded_rows.proofs.all_bits.Goals as goal

pub loop-k-init : goal.loop-k-init
loop-k-init c = search (rules, bits_begin)

pub bounds-pool-k : goal.bounds-pool-k
bounds-pool-k c = search (rules, bit_in)

pub loop-k-preserved : goal.loop-k-preserved
loop-k-preserved c = search (rules, bits_more)

pub returns-then-pool-k-ge2 : goal.returns-then-pool-k-ge2
returns-then-pool-k-ge2 c = search (rules, no_bit)

pub returns : goal.returns
returns c = search (rules, bits_end)
