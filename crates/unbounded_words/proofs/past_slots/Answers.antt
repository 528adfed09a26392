use Rattle.unbounded_words.proofs.Laws.{past_is}
use Rattle.std.proofs.Common.{rules}
use Rattle.unbounded_words.proofs.past_slots.Goals as goal

pub returns : goal.returns
returns c = search (rules, past_is)
