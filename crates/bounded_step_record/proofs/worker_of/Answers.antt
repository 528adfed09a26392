use borrow.Author.Tests.{lt-ltb, le-ltb}
use Rattle.bounded_step_record.specs.Entries.{worker_of}
use Rattle.bounded_step_record.proofs.worker_of.Goals as goal

pub returns-then-w-count : goal.returns-then-w-count
unfolding worker_of
returns-then-w-count c = simp (lt-ltb _ _ c.if-w-count.true)

pub returns-else-w-count : goal.returns-else-w-count
unfolding worker_of
returns-else-w-count c = simp (le-ltb _ _ c.if-w-count.false)
