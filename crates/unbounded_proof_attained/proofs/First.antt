-- The first entry of a schedule from a fresh machine, which asks for `Drop`'s walk, since all are idle: it is taken by the theorem that a fresh machine is not broken, and the walk is left shut.
use Prim.Native.Nat.{ℕ}
use mathlib.Core.Path.{◌≡◌, refl, sym, ap}
use mathlib.Core.Bool.{false, cond}
use mathlib.Core.List.{List, [], ◌∷◌}
use native.Mathlib.Omega.{arith}
use lib.Dec.{eqb}
use Rattle.queue_entries.specs.Schedules.{run_by, history_by}
use Rattle.queue_entries.specs.Entries.{stray_of, order_of, entry_of, entry_but}
use Rattle.queue_entries.proofs.Pick as pick
use Rattle.unbounded_words.specs.declared.Pointer.TheVariants.{None}
use Rattle.unbounded_words.specs.Words.{sizes}
use Rattle.unbounded_places.specs.declared.Place.TheVariants.{Full1, U1}
use Rattle.unbounded_machine.specs.declared.Machine.{Machine}
use Rattle.unbounded_machine.specs.declared.Did.{Did}
use Rattle.unbounded_machine.specs.Machine.{idlers, fresh_of, refused, accepted}
use Rattle.unbounded_machine.specs.Broken.{broken_of}
use Rattle.unbounded_machine.specs.Turn.{Table, begun, turn_with}
use Rattle.unbounded_machine.specs.Run.{ran, run_with}
use Rattle.unbounded_machine.specs.History.{history_with}
use Rattle.unbounded_demands.specs.Notions.{Allowed}
use Rattle.unbounded_proof_demand2.proofs.Demand2.{unbroken, fresh_reached}

-- of three workers the third has begun is_full
abbrev pub start : Machine
start = begun (fresh_of sizes 3) 2 Full1

pub three : Allowed 3
three = record { worker_some = omega arith; worker_most = omega arith }

module _ (table : Table) (s : List ℕ) where
  pub turn_first : turn_with sizes table (fresh_of sizes 3) 37 0 ≡ accepted start
  unfolding turn_with entry_but stray_of order_of entry_of fresh_of idlers begun
  turn_first =
      sym (pick.no (broken_of sizes (fresh_of sizes 3)) false (accepted start) (refused 6 (fresh_of sizes 3)) _ (sym (unbroken 3 three (fresh_of sizes 3) [] (fresh_reached 3))) refl refl)

  pub run_first : run_with (turn_with sizes table) (fresh_of sizes 3) 0 (37 ∷ 0 ∷ s) ≡ run_with (turn_with sizes table) start 1 s
  unfolding run_by accepted
  run_first =
      ap (λ (d : Did). cond (eqb d.refusal 0) (run_with (turn_with sizes table) d.machine 1 s) (ran d.refusal 0 (fresh_of sizes 3))) turn_first

  pub past_first : history_with (turn_with sizes table) (fresh_of sizes 3) (37 ∷ 0 ∷ s) ≡ history_with (turn_with sizes table) start s
  unfolding history_by accepted stray_of order_of entry_of
  past_first = ap (λ (d : Did). cond (eqb d.refusal 0) (history_with (turn_with sizes table) d.machine s) []) turn_first

-- one worker, which begins to push 5
pub one : Allowed 1
one = record { worker_some = omega arith; worker_most = omega arith }

abbrev pub begins : Machine
begins = begun (fresh_of sizes 1) 0 (U1 None 5)

module _ (table : Table) (s : List ℕ) where
  turn_push : turn_with sizes table (fresh_of sizes 1) 0 5 ≡ accepted begins
  unfolding turn_with entry_but stray_of order_of entry_of fresh_of idlers begun
  turn_push =
      sym (pick.no (broken_of sizes (fresh_of sizes 1)) false (accepted begins) (refused 6 (fresh_of sizes 1)) _ (sym (unbroken 1 one (fresh_of sizes 1) [] (fresh_reached 1))) refl refl)

  pub run_push : run_with (turn_with sizes table) (fresh_of sizes 1) 0 (0 ∷ 5 ∷ s) ≡ run_with (turn_with sizes table) begins 1 s
  unfolding run_by accepted
  run_push =
      ap (λ (d : Did). cond (eqb d.refusal 0) (run_with (turn_with sizes table) d.machine 1 s) (ran d.refusal 0 (fresh_of sizes 1))) turn_push
