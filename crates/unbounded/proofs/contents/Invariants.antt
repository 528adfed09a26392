use Prim.Native.Nat.{◌-◌, ◌≤◌}
use mathlib.Core.Path.{◌≡◌}
use mathlib.Core.List.{◌++◌}
use lib.ListN.{length, take, drop}
use Rattle.unbounded_words.specs.Words.{sizes}
use Rattle.unbounded_machine.specs.Drop.{items_from}
use Rattle.unbounded.proofs.Items.{Walking}
use Rattle.unbounded.proofs.contents.Given as goal

abbrev pub invariant-loop : goal.invariant-loop
invariant-loop l = Walking
    (items_from sizes l.slots 2080 l.initial.blocks l.initial.b l.initial.h l.t) l.n l.slots (2080 - l.counter) l.blocks l.b l.h l.t l.met × (length l.buffer ≡ length l.initial.buffer) × (l.n ≤ length l.initial.buffer)
    × (l.buffer ≡ take l.met (items_from sizes l.slots 2080 l.initial.blocks l.initial.b l.initial.h l.t) ++ drop l.met l.initial.buffer) × (l.met ≤ length (items_from sizes l.slots 2080 l.initial.blocks l.initial.b l.initial.h l.t))
