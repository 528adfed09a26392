use Rattle.unbounded_acts.specs.Acts.{back_to_words}
use borrow.Author.Rules.{rules}
use Rattle.unbounded_acts.proofs.back_to.Goals as goal

pub returns : goal.returns
unfolding back_to_words
returns c = search rules
