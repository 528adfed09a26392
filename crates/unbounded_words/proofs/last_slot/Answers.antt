use Rattle.unbounded_words.proofs.Laws.{last_is}
use Rattle.std.proofs.Common.{rules}
use Rattle.unbounded_words.proofs.last_slot.Goals as goal

pub returns : goal.returns
returns c = search (rules, last_is)
