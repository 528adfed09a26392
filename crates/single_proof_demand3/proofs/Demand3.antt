-- Demand 3, proved.
use Prim.Native.Nat.{ℕ, ◌+◌, ◌*◌, ◌<◌, ◌≤◌}
use mathlib.Core.Path.{◌≡◌, refl, sym, ap, ◌∙◌, subst}
use mathlib.Core.Bool.{Bool, true, false, true≢false}
use mathlib.Core.List.{List, []}
use native.Mathlib.Omega.{arith}
use Rattle.queue_entries.specs.Limits.{meter_most}
use Rattle.queue_schedules.proofs.Alone.{act_entry, Stepped, Ends, idle_stays, passed_as_run}
use Rattle.single_places.specs.declared.Answer.{Answer}
use Rattle.single_places.specs.declared.Place.{Place}
use Rattle.single_places.specs.declared.Place.TheVariants.{Idle}
use Rattle.single_places.specs.Places.{view_of}
use Rattle.single_machine.specs.declared.Machine.{Machine}
use Rattle.single_machine.specs.declared.Did.{Did}
use Rattle.single_machine.specs.declared.Event.{Event}
use Rattle.single_machine.specs.Machine.{accepted}
use Rattle.single_machine.specs.Turn.{acted}
use Rattle.single_machine.specs.History.{event, events_of}
use Rattle.single_machine.proofs.Turns.{single_queue}
use Rattle.single_demands.specs.Notions.{source, machine_after, acts_of, Acts, OtherHand, HandsOut, Came, Truth, most_of}
use Rattle.single_demands.specs.Foretold.{foretold, foretold_of}
use Rattle.single_demands.specs.Demands.{Demand3, ScheduledAlone, EndsAlone, InTheWay}
use Rattle.single_demands.proofs.Attained.{at_most}
use Rattle.single_proof_demand2.proofs.Turns.{stood}
use Rattle.single_proof_demand2.proofs.Reached.{Reached, acted_reached}
use Rattle.single_proof_demand2.proofs.Answers.{answers_true}
use Rattle.single_proof_demand2.proofs.Demand2.{reached}
use Rattle.single_proof_demand3.proofs.Solo.{team, act_turn, other_hand, queue_is, idle_is, idle_refused, Under, busy, rank, after, turn_is, stepped, ended}
use Rattle.single_proof_demand3.proofs.Hand.{lets_go}

module _ (workers : ℕ) (m : Machine) (h : List Event) (r : Reached workers m h) where
  -- four acts left are enough
  enough : (w : ℕ) → m.meter + 4 ≤ meter_most → m.meter + most_of (stood m w) ≤ meter_most
  enough w left = omega (arith, (at_most (stood m w)).0)

  -- the call of w, with the slot in no other hand
  module _ (w : ℕ) (b : (view_of (stood m w)).busy ≡ true) (left : m.meter + 4 ≤ meter_most) (none_other : OtherHand m w → ⊥) where
    abbrev a : Answer
    a = foretold m w

    abbrev ends : Ends single_queue events_of w (busy workers w a) (rank workers w a) (Under workers w a) m h 0 (most_of (stood m w))
    ends = ended workers m h r w b (enough w left) none_other

    abbrev last : Machine
    last = ends.last

    step : Stepped single_queue events_of w (busy workers w a) (rank workers w a) (Under workers w a) ends.left last ends.log
    step = stepped workers w a ends.left last ends.log ends.holds ends.busy_yet

    -- the last act answers as foretold
    gives : stood (after workers w a last) w ≡ Idle a
    gives =
        let i = idle_is (stood (after workers w a last) w) ends.idle_then in
        i.1 ∙ ap Idle (sym (ap (foretold_of (after workers w a last).single) i.1) ∙ step.holds.told)

    early : last.meter < meter_most
    early = omega (arith, ends.holds.left)

    acting : Acts source last w (after workers w a last)
    unfolding accepted
    acting =
        let t = act_turn workers last ends.log ends.holds.reached w ends.busy_yet early in
        record { first = 16 * w + 8; second = 0; lose = false; asks = act_entry w; done = t ∙ ap accepted (sym (ap (λ (d : Did). d.machine) t)) }

    -- and what it hands out had come
    came : (v : ℕ) → HandsOut (Idle a) v → (k : ℕ) × Came ends.log w v k
    came v out =
        let reached_next = acted_reached workers last ends.log ends.holds.reached w (team workers last ends.log ends.holds.reached w ends.busy_yet) ends.busy_yet in
        let there : stood (acted last w (stood last w)) w ≡ Idle a =
        ap (λ (x : Machine). stood x w) (sym (turn_is workers w a ends.left last ends.log ends.holds ends.busy_yet)) ∙ gives in
        reached_next.goes ends.log [] (event w (stood last w) (stood (acted last w (stood last w)) w)) refl v (subst (λ (q : Place). HandsOut q v) (sym there) out)

    ends_alone : EndsAlone source m h w (most_of (stood m w))
    ends_alone =
        record {
          before = ends.before;
          within = ends.within;
          accepted = ends.accepted_all;
          busy = ap (λ (x : Machine). (view_of (stood x w)).busy) ends.last_is ∙ ends.busy_yet;
          answer = a;
          ends = ap (λ (x : Machine). stood x w) ends.ends_at ∙ gives;
          as_foretold = refl;
          true_then =
              subst (λ (x : Machine). Truth x.single.state a) (sym ends.last_is)
              (answers_true workers last ends.log ends.holds.reached w (after workers w a last) a acting gives);
          goes_out = λ v out. subst (λ (l : List Event). (k : ℕ) × Came l w v k) (sym ends.log_is) (came v out);
          queue = queue_is workers m h r w none_other;
        }

  -- a call still under way was under way, and if no other hand were on the slot it would have ended
  way : InTheWay source m
  way w left late = go (view_of (stood m w)).busy refl (other_hand workers m h r w)
    where
      go : (b : Bool) → (view_of (stood m w)).busy ≡ b → Dec (OtherHand m w) → OtherHand m w
      go b e (yes o) = o
      go true e (no none_other) = absurd (true≢false (sym late ∙ (ended workers m h r w e (enough w left) none_other).idle_by))
      go false e (no none_other) =
          absurd (true≢false (sym late
          ∙ ap (λ (x : Machine). (view_of (stood x w)).busy)
          (idle_stays single_queue events_of w (busy workers w (foretold m w)) (rank workers w (foretold m w)) (Under workers w (foretold m w)) (idle_refused w) m 0 (most_of (stood m w)) e)
          ∙ e))

  demanded : Demand3 source m h
  unfolding accepted
  demanded =
      record {
        accepted = λ w b early. ap (λ (d : Did). d.refusal) (act_turn workers m h r w b early);
        alone = ends_alone;
        in_the_way = way;
        lets_go = λ w entries hand own. lets_go workers w entries m h r hand own;
        as_run = λ entries e. passed_as_run single_queue entries m 0 e;
      }

pub demand3 : ScheduledAlone source
demand3 workers a s = demanded workers (machine_after source workers s) (acts_of source workers s) (reached workers a s)
