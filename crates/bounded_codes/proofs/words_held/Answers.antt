use borrow.Author.Rules.{rules}
use Rattle.bounded_codes.proofs.Ranges.{held_low, held_tail, held_both, held_end, held_high}
use Rattle.bounded_codes.proofs.words_held.Goals as goal

pub returns-then-code-lt15 : goal.returns-then-code-lt15
returns-then-code-lt15 c = search (rules, held_low)

pub returns-then-code-eq20 : goal.returns-then-code-eq20
returns-then-code-eq20 c = search (rules, held_tail)

pub returns-then-code-eq21 : goal.returns-then-code-eq21
returns-then-code-eq21 c = search (rules, held_both)

pub returns-then-code-lt33 : goal.returns-then-code-lt33
returns-then-code-lt33 c = search (rules, held_end)

pub returns : goal.returns
returns c = search (rules, held_high)
