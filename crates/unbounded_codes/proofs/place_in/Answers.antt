use Rattle.unbounded_codes.proofs.Along.{idle_in, looks_in, pushes_in, pops_in}
use borrow.Author.Rules.{rules}
use Rattle.unbounded_codes.proofs.place_in.Goals as goal

pub returns-then-code-lt11 : goal.returns-then-code-lt11
returns-then-code-lt11 c = search (rules, idle_in)

pub returns-then-code-ge41 : goal.returns-then-code-ge41
returns-then-code-ge41 c = search (rules, looks_in)

pub returns-then-code-lt26 : goal.returns-then-code-lt26
returns-then-code-lt26 c = search (rules, pushes_in)

pub returns-else-code-lt26 : goal.returns-else-code-lt26
returns-else-code-lt26 c = search (rules, pops_in)
