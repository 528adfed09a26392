use Rattle.queue_entries.proofs.Pick.{picks}
use Rattle.std.proofs.lemmas.Bool.{not-true, not-false}
use Rattle.unbounded_entries.specs.Aims.{aim_at}
use Rattle.std.proofs.Common.{rules}
use Rattle.unbounded_entries.proofs.aim_of.Goals as goal

pub returns-then-not-way : goal.returns-then-not-way
unfolding aim_at
returns-then-not-way c = let h = not-true _ c.if-not-way.true in search (rules, picks)

pub returns-then-k : goal.returns-then-k
unfolding aim_at
returns-then-k c = let h = not-false _ c.if-not-way.false in search (rules, picks)

pub returns-else-k : goal.returns-else-k
unfolding aim_at
returns-else-k c = let h = not-false _ c.if-not-way.false in search (rules, picks)
