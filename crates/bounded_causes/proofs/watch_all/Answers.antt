use mathlib.Core.Path.{refl}
use native.Mathlib.Omega.{arith}
use borrow.Author.Rules.{rules}
use Rattle.bounded_causes.specs.Causes.{watched_to}
use Rattle.bounded_causes.proofs.Kept.{watched_more, watched_all}
use Rattle.bounded_causes.proofs.watch_all.Goals as goal

pub loop-i-init : goal.loop-i-init
unfolding watched_to
loop-i-init c = refl

pub loop-i-preserved : goal.loop-i-preserved
loop-i-preserved c = search (rules, watched_more)

pub returns : goal.returns
returns c = watched_all _ _ _ _ _ _ (omega arith) (omega arith) c.others_hold-others.ensures c.loop-i.invariant
