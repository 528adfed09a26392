use Rattle.bounded_slices.proofs.Fitting.{no_shape, eight, sixth, seventh, fives, no_layout, fair_so, not_ring, by_records}
use borrow.Author.Rules.{rules}
use Rattle.bounded_slices.proofs.broken.Goals as goal

pub returns-then-not-shaped : goal.returns-then-not-shaped
returns-then-not-shaped c = search (rules, no_shape)

pub bounds-head-7 : goal.bounds-head-7
bounds-head-7 c = search (rules, seventh)

pub returns-then-head-ne-LAYOUT : goal.returns-then-head-ne-LAYOUT
returns-then-head-ne-LAYOUT c = search (rules, no_layout)

pub fixed_in-f-requires : goal.fixed_in-f-requires
fixed_in-f-requires c = search (rules, eight)

pub ends_in-e-requires : goal.ends_in-e-requires
ends_in-e-requires c = search (rules, eight)

pub returns-then-not-ring_fits : goal.returns-then-not-ring_fits
returns-then-not-ring_fits c = search (rules, not_ring)

pub bounds-head-6 : goal.bounds-head-6
bounds-head-6 c = search (rules, sixth)

pub records_fit-requires : goal.records_fit-requires
records_fit-requires c = search (rules, fair_so, fives)

pub returns : goal.returns
returns c = search (rules, by_records)
