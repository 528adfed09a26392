use Rattle.std.proofs.Common.{◌≤◌, length}
use Rattle.tapes_shows_cases.proofs.all.Given as goal

abbrev pub invariant-loop : goal.invariant-loop
invariant-loop l = length l.rest ≤ length l.list
