use mathlib.Core.Path.{◌≡◌}
use Prim.Native.Nat.{◌-◌}
use Rattle.unbounded_words.specs.Words.{sizes}
use Rattle.unbounded_machine.specs.Turn.{lowest_from, lowest_free}
use Rattle.unbounded_machine.proofs.lowest_free.Given as goal

abbrev pub invariant-loop-k : goal.invariant-loop-k
invariant-loop-k l = lowest_from (64 - l.k) l.k l.fn.blocks ≡ lowest_free sizes l.fn.blocks
