use Rattle.bounded_sixteen_host.proofs.Making.{Stamped}
use Rattle.bounded_sixteen_host.proofs.put_stamps.Given as goal

abbrev pub invariant-loop-i : goal.invariant-loop-i
invariant-loop-i l = Stamped l.initial.stamps l.n l.i l.stamps
