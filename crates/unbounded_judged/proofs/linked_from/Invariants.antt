use Prim.Native.Nat.{◌-◌}
use mathlib.Core.Path.{◌≡◌}
use Rattle.unbounded_words.specs.Words.{sizes}
use Rattle.unbounded_judged.specs.Judged.{linked_from}
use Rattle.unbounded_judged.proofs.linked_from.Given as goal

abbrev pub invariant-loop : goal.invariant-loop
invariant-loop l = linked_from sizes (l.laps - l.counter) l.blocks l.k ≡ linked_from sizes l.laps l.blocks l.front
