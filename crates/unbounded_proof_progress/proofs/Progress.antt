-- What is said of progress under every schedule.
use Prim.Native.Nat.{ℕ, ◌<◌}
use mathlib.Core.Path.{◌≡◌, sym, ◌∙◌}
use mathlib.Core.Bool.{true, true≢false}
use native.Mathlib.Omega.{arith}
use native.Mathlib.Decide.{dec_lt}
use Rattle.unbounded_words.specs.Words.{sizes}
use Rattle.unbounded_places.specs.Places.{view_of}
use Rattle.unbounded_acts.specs.Acts.{act_of}
use Rattle.unbounded_machine.specs.declared.Machine.{Machine}
use Rattle.unbounded_demands.specs.Notions.{definition, machine_after, acts_of}
use Rattle.unbounded_demands.specs.Demands.{ProgressUnderEverySchedule}
use Rattle.unbounded_proof_demand2.proofs.Turns.{stood}
use Rattle.unbounded_proof_demand2.proofs.Reached.{Reached}
use Rattle.unbounded_proof_demand2.proofs.Demand2.{reached, demand2}
use Rattle.unbounded_proof_progress.proofs.Refused.{met}
use Rattle.unbounded_proof_progress.proofs.Holders.{holders}

pub progress : ProgressUnderEverySchedule (definition sizes act_of)
progress workers a s =
    record {
      refused_by = λ w busy. met m w (demand2 workers a s).unbroken (counted w busy (dec_lt w workers)) busy;
      holders = holders workers m (acts_of (definition sizes act_of) workers s) r;
    }
  where
    m : Machine
    m = machine_after (definition sizes act_of) workers s

    r : Reached workers (machine_after (definition sizes act_of) workers s) (acts_of (definition sizes act_of) workers s)
    r = reached workers a s

    counted : (w : ℕ) → (view_of sizes (stood m w)).busy ≡ true → Dec (w < workers) → w < m.count
    counted w busy (yes l) = omega (arith, r.team)
    counted w busy (no l) = absurd (true≢false (sym busy ∙ r.past w (omega arith)))
