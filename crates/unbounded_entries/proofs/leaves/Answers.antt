use Rattle.std.proofs.Common.{rules}
use Rattle.unbounded_entries.specs.Aims.{leaves}
use Rattle.unbounded_entries.proofs.leaves.Goals as goal

pub returns : goal.returns
unfolding leaves
returns c = search rules
