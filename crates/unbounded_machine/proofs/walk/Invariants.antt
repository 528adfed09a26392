use Prim.Native.Nat.{◌-◌}
use mathlib.Core.Path.{◌≡◌}
use Prim.Native.Nat.{◌≤◌}
use Rattle.unbounded_words.specs.Words.{sizes}
use Rattle.unbounded_machine.specs.Drop.{walk_from}
use Rattle.unbounded_machine.proofs.walk.Given as goal

abbrev pub invariant-loop : goal.invariant-loop
invariant-loop l = (l.met ≤ l.counter) × (walk_from sizes (2080 - l.counter) l.blocks l.b l.h l.t l.met ≡ walk_from sizes 2080 l.initial.blocks l.initial.b l.initial.h l.t 0)
