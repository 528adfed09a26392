use Rattle.std.proofs.Common.{refl, arith, rules}
use Rattle.bounded_moments.proofs.Kept.{mapped_to, heard_more, heard_all}
use Rattle.bounded_moments.proofs.heard_by_all.Goals as goal

pub loop-i-init : goal.loop-i-init
unfolding mapped_to
loop-i-init c = refl

pub loop-i-preserved : goal.loop-i-preserved
loop-i-preserved c = search (rules, heard_more)

pub returns : goal.returns
returns c = heard_all _ _ _ _ _ (omega (arith, c.well_formed)) c.loop-i.invariant
