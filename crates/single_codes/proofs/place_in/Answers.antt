use Rattle.single_codes.proofs.Along.{idle_in, busy_in}
use borrow.Author.Rules.{rules}
use Rattle.single_codes.proofs.place_in.Goals as goal

pub returns-then-code-lt11 : goal.returns-then-code-lt11
returns-then-code-lt11 c = search (rules, idle_in)

pub returns-else-code-lt11 : goal.returns-else-code-lt11
returns-else-code-lt11 c = search (rules, busy_in)
