use Prim.Native.Nat.{ℕ, ◌-◌}
use Rattle.unbounded_words.specs.Words.{sizes}
use Rattle.queue_entries.specs.Limits.{workers_most, all}
use Rattle.unbounded_machine.specs.Machine.{place_of}
use mathlib.Core.Path.{◌≡◌}
use lib.Dec.{ltb}
use Rattle.unbounded_machine.specs.Broken.{record_fits, records_fit}
use Rattle.unbounded_machine.proofs.records_fit.Given as goal

abbrev pub invariant-loop-i : goal.invariant-loop-i
invariant-loop-i l = all (workers_most - l.i) l.i (λ (k : ℕ). record_fits sizes l.fn.blocks (place_of l.fn.workers k) (ltb k l.fn.count)) ≡ records_fit sizes l.fn.blocks l.fn.count l.fn.workers
