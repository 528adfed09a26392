use mathlib.Core.Path.{sym, ◌∙◌}
use Rattle.bounded_slices.proofs.Fitting.{many_differed, many_failed, past_count, by_end, by_other}
use borrow.Author.Rules.{rules}
use Rattle.bounded_slices.proofs.fits_at.Goals as goal

pub returns-then-meter-records : goal.returns-then-meter-records
returns-then-meter-records c = search (rules, many_differed)

pub returns-then-meter-records-2 : goal.returns-then-meter-records-2
returns-then-meter-records-2 c = search (rules, many_failed)

pub returns-then-not-allowed : goal.returns-then-not-allowed
returns-then-not-allowed c = search (rules, past_count)

pub end_fits-requires : goal.end_fits-requires
end_fits-requires c = record { fair = search rules; code_value = sym c.within.ensures ∙ c.if-within.true }

pub returns-then-within : goal.returns-then-within
returns-then-within c = search (rules, by_end)

pub other_stands-requires : goal.other_stands-requires
other_stands-requires c = sym c.within.ensures ∙ c.if-within.false

pub returns : goal.returns
returns c = search (rules, by_other)
