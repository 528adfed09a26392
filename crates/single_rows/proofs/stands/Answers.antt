use Rattle.single_rows.proofs.Standing.{no_shape, fourth, no_layout, all_words, by_places}
use borrow.Author.Rules.{rules}
use Rattle.single_rows.proofs.stands.Goals as goal

pub returns-then-not-shaped : goal.returns-then-not-shaped
returns-then-not-shaped c = search (rules, no_shape)

pub bounds-head-4 : goal.bounds-head-4
bounds-head-4 c = search (rules, fourth)

pub returns-else-head-eq-LAYOUT : goal.returns-else-head-eq-LAYOUT
returns-else-head-eq-LAYOUT c = search (rules, no_layout)

pub all_placed-requires : goal.all_placed-requires
all_placed-requires c = search (rules, all_words)

pub returns-then-head-eq-LAYOUT : goal.returns-then-head-eq-LAYOUT
returns-then-head-eq-LAYOUT c = search (rules, by_places)
