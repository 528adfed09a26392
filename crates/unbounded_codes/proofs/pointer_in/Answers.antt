use Rattle.unbounded_codes.proofs.Along.{no_block, a_block}
use borrow.Author.Rules.{rules}
use Rattle.unbounded_codes.proofs.pointer_in.Goals as goal

pub returns-then-word : goal.returns-then-word
returns-then-word c = search (rules, no_block)

pub returns-else-word : goal.returns-else-word
returns-else-word c = search (rules, a_block)
