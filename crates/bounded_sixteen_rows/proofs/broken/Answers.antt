use Rattle.bounded_sixteen_rows.proofs.Fitting.{not_seven, no_shape, fives, no_layout, fair_so, not_ring, by_records}
use borrow.Author.Rules.{rules}
use Rattle.bounded_sixteen_rows.proofs.broken.Goals as goal

pub returns-then-head-ne-HEAD : goal.returns-then-head-ne-HEAD
returns-then-head-ne-HEAD c = search (rules, not_seven)

pub returns-then-not-shaped_for : goal.returns-then-not-shaped_for
returns-then-not-shaped_for c = search (rules, no_shape)

pub returns-then-head-ne-LAYOUT : goal.returns-then-head-ne-LAYOUT
returns-then-head-ne-LAYOUT c = search (rules, no_layout)

pub returns-then-not-ring_fits : goal.returns-then-not-ring_fits
returns-then-not-ring_fits c = search (rules, not_ring)

pub records_fit-requires : goal.records_fit-requires
records_fit-requires c = search (rules, fair_so, fives)

pub returns : goal.returns
returns c = search (rules, by_records)
