-- Demand 2, proved.
use Prim.Native.Nat.{ℕ}
use mathlib.Core.Path.{◌≡◌, ap, ◌∙◌}
use mathlib.Core.Bool.{false}
use mathlib.Core.List.{List, []}
use native.Mathlib.Omega.{arith}
use Rattle.queue_schedules.proofs.Schedules.{schedule_odd, schedule_read}
use Rattle.queue_schedules.proofs.Histories.{one_more}
use Rattle.single_machine.specs.declared.Machine.{Machine}
use Rattle.single_machine.specs.declared.Ran.{Ran}
use Rattle.single_machine.specs.declared.Event.{Event}
use Rattle.single_machine.specs.Machine.{fresh_of}
use Rattle.single_machine.specs.Broken.{broken_of}
use Rattle.single_machine.specs.History.{events_of}
use Rattle.single_machine.proofs.Kept.{of_unbroken}
use Rattle.single_machine.proofs.Turns.{single_queue, ran_machine}
use Rattle.single_demands.specs.Notions.{source, Allowed, machine_after, acts_of}
use Rattle.single_demands.specs.Demands.{Demand2, UnderEverySchedule, ActByAct, WholeSchedules}
use Rattle.single_proof_demand2.proofs.Log.{once_from}
use Rattle.single_proof_demand2.proofs.Reached.{Reached, entries, fresh_reached}
use Rattle.single_proof_demand2.proofs.Hands.{reads_written, one_hand, locked, pushed, closed_holds, contents_wait}
use Rattle.single_proof_demand2.proofs.Answers.{answers_true, decides, means, lookers}

-- every schedule
pub reached : (workers : ℕ) → Allowed workers → (s : List ℕ) → Reached workers (machine_after source workers s) (acts_of source workers s)
reached workers a s = entries workers s (fresh_of workers) [] 0 (fresh_reached workers a)

-- what a reached machine has behind it is the demand
demanded : (workers : ℕ) (m : Machine) (h : List Event) → Reached workers m h → Demand2 source workers m h
demanded workers m h r =
    record {
      team = r.team;
      meter = r.metered;
      unbroken = of_unbroken m r.unbroken;
      goes_out = r.goes;
      once_out = once_from h r.reads;
      reads_latest = r.reads;
      reads_written = reads_written workers m h r;
      one_hand = one_hand workers m h r;
      locked = locked workers m h r;
      pushed = pushed workers m h r;
      closed = closed_holds workers m h r;
      plain = r.plain;
      takes_out = r.takes;
      contents = contents_wait workers m h r;
      answers = answers_true workers m h r;
      decides = decides workers m h r;
      means = means workers m h r;
      lookers = lookers workers m h r;
    }

pub demand2 : UnderEverySchedule source
demand2 workers a s = demanded workers (machine_after source workers s) (acts_of source workers s) (reached workers a s)

pub act_by_act : ActByAct source
act_by_act m s first second even e taken = one_more single_queue events_of s m first second even e taken

pub whole_schedules : WholeSchedules source
whole_schedules workers a s =
    let u : broken_of (fresh_of workers) ≡ false = of_unbroken (fresh_of workers) (fresh_reached workers a).unbroken in (
      λ even read. schedule_read single_queue broken_of (fresh_of workers) s u (λ o. omega arith) read,
      λ odd. ap (λ (x : Ran). x.machine) (schedule_odd single_queue broken_of (fresh_of workers) s u odd) ∙ ran_machine 11 0 (fresh_of workers),
    )
