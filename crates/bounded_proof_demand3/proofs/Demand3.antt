-- Demand 3, proved.
use mathlib.Core.Path.{◌≡◌, refl, sym, ap, ◌∙◌}
use mathlib.Core.Bool.{Bool, true, false, true≢false}
use mathlib.Core.List.{List, []}
use Prim.Native.Nat.{ℕ, ◌+◌, ◌≤◌}
use native.Mathlib.Omega.{arith}
use Rattle.queue_entries.specs.Limits.{meter_most}
use Rattle.bounded_words.specs.declared.Width.{Width}
use Rattle.bounded_words.specs.declared.Width.TheVariants.{SixtyFour}
use Rattle.bounded_places.specs.Places.{view_of}
use Rattle.bounded_machine.specs.declared.Machine.{Machine}
use Rattle.bounded_machine.specs.declared.Did.{Did}
use Rattle.bounded_machine.specs.declared.Event.{Event}
use Rattle.bounded_machine.specs.Machine.{fresh_with, place_of, accepted, fixed_on, ends_on}
use Rattle.bounded_machine.specs.Run.{run_at}
use Rattle.bounded_demands.specs.Notions.{with_records, AllowedWith, acts, machine_after, acts_of, InWidestWindow, KeepsWidestWindow, most_of, OtherHand}
use Rattle.bounded_demands.specs.Foretold.{foretold}
use Rattle.bounded_demands.specs.Demands.{Demand3, ScheduledAlone, Within, WithinTheWindow}
use Rattle.bounded_proof_demand2.proofs.Turns.{stood}
use Rattle.bounded_proof_demand2.proofs.Pictured.{Base}
use Rattle.bounded_proof_demand2.proofs.Reached.{Reached, laps_of, base_of, recent_in, at_end}
use Rattle.bounded_proof_demand2.proofs.Always.{always, widens}
use Rattle.bounded_proof_demand2.proofs.Demand2.{reached, demand2_in}
use Rattle.bounded_proof_demand2.proofs.Lens.{len_in}
use Rattle.bounded_proof_demand2.proofs.Stock.{stock_in}
use Rattle.bounded_proof_demand2.proofs.Losses.{losses}
use Rattle.bounded_proof_demand2.proofs.Closing.{none_in, yes_in, closed_in}
use Rattle.bounded_proof_demand3.proofs.Falls.{most, seven}
use Rattle.bounded_proof_demand3.proofs.Solo.{act_turn, Ended, idle_stays, ends_by}
use Rattle.bounded_proof_demand3.proofs.Hand.{lets_go, as_run}
use Rattle.bounded_proof_demand3.proofs.Queue.{queue_is}
use Rattle.bounded_proof_demand3.proofs.Way.{other_hand}

module _ (bits : Width) (c n workers : ℕ) (base : Base bits c n workers) (m : Machine) (h : List Event) (r : Reached c n workers m h) (window : InWidestWindow bits m h) where
  ended : (w : ℕ) → (view_of (stood m w)).busy ≡ true → m.meter + 7 ≤ meter_most → (OtherHand m w → ⊥) → Ended bits m h 0 w (most_of (stood m w)) (foretold bits m w)
  ended w busy left free =
      ends_by bits c n workers base w (most_of (stood m w)) m h 0 r busy (omega (arith, seven (stood m w))) free (recent_in bits c n workers base m h r window w)
      (most bits (fixed_on m.ring) (ends_on m.ring) (stood m w))

  -- a call still under way was under way, and if no other hand were on a slot it would have ended
  way : (w : ℕ) → m.meter + 7 ≤ meter_most → (view_of (place_of (run_at bits m 0 (acts w (most_of (stood m w)))).machine.workers w)).busy ≡ true → OtherHand m w
  way w left late = go (view_of (stood m w)).busy refl (other_hand bits c n workers base r.ring m r.pictured w)
    where
      go : (b : Bool) → (view_of (stood m w)).busy ≡ b → Dec (OtherHand m w) → OtherHand m w
      go b e (yes o) = o
      go true e (no free) = absurd (true≢false (sym late ∙ (ended w e left free).idle_by))
      go false e (no free) =
          absurd (true≢false (sym late ∙ ap (λ (z : Machine). (view_of (stood z w)).busy) (idle_stays bits m 0 w (most_of (stood m w)) e) ∙ e))

  demanded : (records : ℕ) → Demand3 (with_records records bits) m h
  unfolding accepted
  demanded records =
      record {
        accepted = λ w busy early. ap (λ (d : Did). d.refusal) (act_turn bits c n workers base r.ring m r.pictured w busy early);
        alone =
            λ w busy left free.
            let d = ended w busy left free in
            record {
              before = d.before;
              within = d.within;
              accepted = d.accepted_all;
              busy = d.busy_yet;
              answer = foretold bits m w;
              ends = d.ends;
              foretold_answer = refl;
              true_then = d.true_then;
              claim_rule = d.claimed;
              queue = λ k e. queue_is bits c n workers base m h r w k e busy free;
            };
        in_the_way = way;
        lets_go = λ w t l hand enough. lets_go bits w l m (record { records = r.pictured.records; unbroken = r.pictured.unbroken; seats = r.pictured.workers_long }) t hand enough;
        as_run = as_run records bits m 0;
      }

module _ (bits : Width) (records capacity workers edition : ℕ) (a : AllowedWith records capacity workers edition) (s : List ℕ)
    (keeps : KeepsWidestWindow (with_records records bits) (fresh_with records capacity workers edition) [] s) where
  pub demand3_in : Demand3 (with_records records bits) (machine_after (with_records records bits) capacity workers edition s) (acts_of (with_records records bits) capacity workers edition s)
  demand3_in =
      demanded bits capacity (laps_of bits capacity) workers (base_of bits records capacity workers edition a) (machine_after (with_records records bits) capacity workers edition s)
      (acts_of (with_records records bits) capacity workers edition s) (reached bits records capacity workers edition a s keeps)
      (at_end bits (fresh_with records capacity workers edition) [] s keeps) records

-- all of a schedule that keeps the widest window
pub within_in : (bits : Width) (records capacity workers edition : ℕ) → AllowedWith records capacity workers edition → (s : List ℕ)
    → KeepsWidestWindow (with_records records bits) (fresh_with records capacity workers edition) [] s → Within (with_records records bits) capacity workers edition s
within_in bits records capacity workers edition a s keeps =
    record {
      demand2 = demand2_in bits records capacity workers edition a s keeps;
      demand3 = demand3_in bits records capacity workers edition a s keeps;
      len = len_in bits records capacity workers edition a s keeps;
      stocked = stock_in bits records capacity workers edition a s keeps;
      losses = losses bits records capacity workers edition a s;
      once_closed = closed_in bits records capacity workers edition a s keeps;
      yes_once = yes_in bits records capacity workers edition a s keeps;
      none_after = none_in bits records capacity workers edition a s keeps;
    }

pub within_the_window : (bits : Width) (records : ℕ) → WithinTheWindow (with_records records bits)
within_the_window bits records capacity workers edition a s keeps =
    within_in bits records capacity workers edition a s (widens (with_records records bits) (fresh_with records capacity workers edition) [] s keeps)

-- of 64 bits every schedule
pub demand3 : (records : ℕ) → ScheduledAlone (with_records records SixtyFour)
demand3 records capacity workers edition a s = demand3_in SixtyFour records capacity workers edition a s (always records capacity workers edition a s)
