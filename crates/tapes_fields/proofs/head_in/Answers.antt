use borrow.Author.Rules.{rules}
use Rattle.queue_entries.proofs.Pick.{picks}
use Rattle.tapes_fields.specs.Judged.{head_in}
use Rattle.tapes_fields.proofs.head_in.Goals as goal

pub returns-then-tape-lt3 : goal.returns-then-tape-lt3
unfolding head_in
returns-then-tape-lt3 c = search (rules, picks)

pub returns-then-opens : goal.returns-then-opens
unfolding head_in
returns-then-opens c = search (rules, picks)

pub returns-then-opens-2 : goal.returns-then-opens-2
unfolding head_in
returns-then-opens-2 c = search (rules, picks)

pub returns : goal.returns
unfolding head_in
returns c = search (rules, picks)
