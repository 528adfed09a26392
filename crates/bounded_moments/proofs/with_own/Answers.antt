use Rattle.std.proofs.Common.{arith}
use Rattle.bounded_moments.proofs.Kept.{set_over}
use Rattle.bounded_moments.proofs.with_own.Goals as goal

pub returns-else-w : goal.returns-else-w
returns-else-w c = set_over _ _ _ (omega (arith, c.well_formed))
