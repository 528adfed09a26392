use Rattle.unbounded_entries.proofs.Laws.{ask_6, ask_9, ask_3, ask_all}
use Rattle.std.proofs.Common.{rules}
use Rattle.unbounded_entries.proofs.ask_of.Goals as goal

pub returns-then-not-sound : goal.returns-then-not-sound
returns-then-not-sound c = search (rules, ask_6, ask_9, ask_3, ask_all)

pub returns-in_default : goal.returns-in_default
returns-in_default c = search (rules, ask_6, ask_9, ask_3, ask_all)

pub returns-then-count-worker : goal.returns-then-count-worker
returns-then-count-worker c = search (rules, ask_6, ask_9, ask_3, ask_all)

pub returns : goal.returns
returns c = search (rules, ask_6, ask_9, ask_3, ask_all)
