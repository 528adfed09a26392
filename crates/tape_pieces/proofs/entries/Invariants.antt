use Rattle.std.proofs.Common.{◌≡◌, ◌+◌, ◌-◌, ◌*◌, ◌/◌, ◌≤◌, length, take, drop}
use Rattle.tapes.specs.Heard.{hear_from}
use Rattle.tape_pieces.specs.Stretches.{passed}
use Rattle.tape_pieces.proofs.entries.Given as goal

abbrev pub invariant-loop-n : goal.invariant-loop-n
invariant-loop-n l = record {
  inside : l.n ≤ length l.words;
  behind : l.from + 2 * l.n ≤ l.at;
  heard : passed (take l.n l.words) (hear_from (length l.bytes - l.n / 2) l.v l.at (drop l.at l.bytes)) ≡ hear_from (length l.bytes) l.v l.from (drop l.from l.bytes);
}

abbrev pub decreases-loop-n : goal.decreases-loop-n
decreases-loop-n l = length l.words - l.n
