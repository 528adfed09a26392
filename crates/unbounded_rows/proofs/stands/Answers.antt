use Rattle.unbounded_rows.proofs.Standing.{no_shape, head_long, pool_long, records_long, not_laid, no_bits, by_places}
use borrow.Author.Rules.{rules}
use Rattle.unbounded_rows.proofs.stands.Goals as goal

pub returns-then-not-shaped : goal.returns-then-not-shaped
returns-then-not-shaped c = search (rules, no_shape)

pub laid_out-requires : goal.laid_out-requires
laid_out-requires c = search (rules, head_long)

pub returns-then-not-laid_out : goal.returns-then-not-laid_out
returns-then-not-laid_out c = search (rules, not_laid)

pub all_bits-requires : goal.all_bits-requires
all_bits-requires c = search (rules, pool_long)

pub returns-else-all_bits : goal.returns-else-all_bits
returns-else-all_bits c = search (rules, no_bits)

pub all_placed-requires : goal.all_placed-requires
all_placed-requires c = search (rules, records_long)

pub returns-then-all_bits : goal.returns-then-all_bits
returns-then-all_bits c = search (rules, by_places)
