-- Demand 2, proved.
use mathlib.Core.Path.{◌≡◌, refl, sym, ap, subst, ◌∙◌}
use mathlib.Core.Bool.{true, false}
use mathlib.Core.List.{List, [], ◌∷◌, append-nil}
use Prim.Native.Nat.{ℕ}
use native.Mathlib.Omega.{arith}
use lib.Dec.{eqb}
use borrow.Author.Tests.{eq-eqb}
use lib.ListN.{length}
use Rattle.queue_entries.specs.Limits.{workers_most}
use Rattle.queue_entries.specs.Schedules.{run_by, history_by}
use Rattle.queue_entries.specs.Entries.{entry_of}
use Rattle.queue_schedules.proofs.Schedules.{schedule_odd, schedule_read}
use Rattle.bounded_words.specs.Words.{fixed_of}
use Rattle.bounded_words.specs.declared.Width.{Width}
use Rattle.bounded_words.specs.declared.Width.TheVariants.{SixtyFour}
use Rattle.bounded_machine.specs.declared.Machine.{Machine}
use Rattle.bounded_machine.specs.declared.Ran.{Ran}
use Rattle.bounded_machine.specs.declared.Event.{Event}
use Rattle.bounded_machine.specs.Machine.{fresh_with, fresh_of, fixed_on}
use Rattle.bounded_machine.specs.Broken.{broken_with, broken_of}
use Rattle.bounded_machine.specs.Turn.{turn_at}
use Rattle.bounded_machine.specs.Run.{ran, run_at}
use Rattle.bounded_machine.specs.History.{events_of}
use Rattle.bounded_machine.proofs.Kept.{of_unbroken}
use Rattle.bounded_demands.specs.Notions.{with_records, of_width, AllowedWith, Allowed, machine_after, acts_of, InWidestWindow, KeepsWidestWindow}
use Rattle.bounded_demands.specs.Demands.{Demand2, UnderEverySchedule, NothingWraps, ActByAct, WholeSchedules}
use Rattle.bounded_demands.proofs.Refusals.{ring_queue, ran_machine}
use Rattle.bounded_proof_demand2.proofs.Turns.{turned_fixed, turned_seats}
use Rattle.bounded_proof_demand2.proofs.Reached.{Reached, laps_of, base_of, ring0, fresh_pictured, fresh_records, fresh_logged, fresh_metered, fresh_dated, along_any, recent_in, entries, at_end}
use Rattle.bounded_proof_demand2.proofs.Always.{always, metered_in}
use Rattle.bounded_proof_demand2.proofs.Pictured.{Base}
use Rattle.bounded_proof_demand2.proofs.Counts.{tally_tail, tally_head}
use Rattle.bounded_proof_demand2.proofs.Hands.{one_hand, reads_written}
use Rattle.bounded_proof_demand2.proofs.Answers.{true_answers, true_empty, true_full}
use Rattle.bounded_proof_demand2.proofs.Runs.{onward}
use Rattle.bounded_proof_demand2.proofs.Contents.{count_in_lem, untaken_is, contents_are}
use Rattle.bounded_proof_demand2.proofs.Plain.{worded, plainly}

-- every schedule that keeps the window, with any number of records
pub fresh_reached : (bits : Width) (records capacity workers edition : ℕ) → AllowedWith records capacity workers edition
    → Reached capacity (laps_of bits capacity) workers (fresh_with records capacity workers edition) []
fresh_reached bits records capacity workers edition a =
    record {
      ring = ring0;
      pictured =
          fresh_pictured bits capacity (laps_of bits capacity) workers edition (base_of bits records capacity workers edition a) records a.worker_most
          a.worker_some a.edition_some a.edition_most;
      logged = fresh_logged capacity;
      metered = fresh_metered records capacity workers edition;
      dated =
          fresh_dated bits capacity (laps_of bits capacity) workers edition (base_of bits records capacity workers edition a) records a.worker_most
          a.worker_some a.edition_some a.edition_most;
    }

pub reached : (bits : Width) (records capacity workers edition : ℕ) → AllowedWith records capacity workers edition → (s : List ℕ)
    → KeepsWidestWindow (with_records records bits) (fresh_with records capacity workers edition) [] s
    → Reached capacity (laps_of bits capacity) workers (machine_after (with_records records bits) capacity workers edition s) (acts_of (with_records records bits) capacity workers edition s)
reached bits records capacity workers edition a s keeps =
    entries bits capacity (laps_of bits capacity) workers (base_of bits records capacity workers edition a) s (fresh_with records capacity workers edition) [] 0 keeps
    (fresh_reached bits records capacity workers edition a)

-- the constants are those of its making
pub same_fixed : (bits : Width) (m : Machine) (s : List ℕ) → fixed_on (run_at bits m 0 s).machine.ring ≡ fixed_on m.ring
same_fixed bits m s =
    along_any bits (λ (z : Machine) (h : List Event). fixed_on z.ring ≡ fixed_on m.ring) (λ z h en next acts e t. turned_fixed bits z en next acts t ∙ e) s m [] 0 refl

-- and so is the number of records
same_records : (bits : Width) (m : Machine) (s : List ℕ) → length (run_at bits m 0 s).machine.workers ≡ length m.workers
same_records bits m s =
    along_any bits (λ (z : Machine) (h : List Event). length z.workers ≡ length m.workers) (λ z h en next acts e t. turned_seats bits z en next acts t ∙ e) s m [] 0 refl

-- what a reached machine in the window has behind it is the demand
module _ (bits : Width) (c n workers : ℕ) (base : Base bits c n workers) (m : Machine) (h : List Event) (r : Reached c n workers m h) (window : InWidestWindow bits m h) where
  demanded : (records edition : ℕ) → length m.workers ≡ records → fixed_on m.ring ≡ fixed_of c edition → Demand2 (with_records records bits) c workers edition m h
  demanded records edition seats made =
      record {
        made = made;
        team = r.pictured.count;
        records = seats;
        meter = r.metered;
        unbroken = subst (λ (k : ℕ). broken_with k m ≡ false) (sym r.pictured.workers_long ∙ seats) (of_unbroken m r.pictured.unbroken);
        words = worded bits c n workers base m h r;
        tails = r.logged.lists.items_are.long ∙ sym r.logged.lists.tailers_are.long ∙ sym (tally_tail h);
        heads = sym (tally_head h);
        claim_rule = r.logged.rule;
        once_out = r.logged.once;
        one_hand = one_hand bits c n workers base m h r;
        reads = reads_written bits c n workers base m h r;
        answers = λ w. true_answers bits c n workers base m h r w (recent_in bits c n workers base m h r window w);
        untaken = untaken_is bits c n workers base m h r ∙ sym (count_in_lem bits c n workers base m h r);
        contents = contents_are bits c n workers base m h r;
        fifo = r.logged.fifo;
        empty = true_empty bits c n workers base m h r window;
        full = true_full bits c n workers base m h r window;
      }

made_of : (records capacity workers edition : ℕ) → fixed_on (fresh_with records capacity workers edition).ring ≡ fixed_of capacity edition
unfolding fresh_with
made_of records capacity workers edition = refl

pub demand2_in : (bits : Width) (records capacity workers edition : ℕ) → AllowedWith records capacity workers edition → (s : List ℕ)
    → KeepsWidestWindow (with_records records bits) (fresh_with records capacity workers edition) [] s
    → Demand2 (with_records records bits) capacity workers edition (machine_after (with_records records bits) capacity workers edition s) (acts_of (with_records records bits) capacity workers edition s)
demand2_in bits records capacity workers edition a s keeps =
    demanded bits capacity (laps_of bits capacity) workers (base_of bits records capacity workers edition a) (machine_after (with_records records bits) capacity workers edition s)
    (acts_of (with_records records bits) capacity workers edition s) (reached bits records capacity workers edition a s keeps)
    (at_end bits (fresh_with records capacity workers edition) [] s keeps) records edition
    (same_records bits (fresh_with records capacity workers edition) s ∙ fresh_records records capacity workers edition)
    (same_fixed bits (fresh_with records capacity workers edition) s ∙ made_of records capacity workers edition)

-- of 64 bits every schedule
pub demand2 : (records : ℕ) → UnderEverySchedule (with_records records SixtyFour)
demand2 records capacity workers edition a s = demand2_in SixtyFour records capacity workers edition a s (always records capacity workers edition a s)

pub nothing_wraps : (records : ℕ) → NothingWraps (with_records records SixtyFour)
nothing_wraps records capacity workers edition a s =
    plainly records capacity workers edition a _ _ (metered_in SixtyFour records capacity workers edition s) (demand2 records capacity workers edition a s).words

pub act_by_act : (bits : Width) → ActByAct (of_width bits)
unfolding run_by history_by ran
act_by_act bits m s first second even e taken =
    let o = onward bits s (first ∷ second ∷ []) m 0 even e in
    let t : eqb (turn_at bits (run_at bits m 0 s).machine first second).refusal 0 ≡ true = eq-eqb _ 0 taken in (
      ap (λ (z : Ran). z.machine) o.run ∙ rw t,
      o.acts ∙ rw (t, append-nil (events_of bits (run_at bits m 0 s).machine (entry_of first second) (turn_at bits (run_at bits m 0 s).machine first second).machine)),
    )

made_whole : (capacity workers edition : ℕ) → Allowed capacity workers edition → broken_of (fresh_of capacity workers edition) ≡ false
unfolding run_by ran
made_whole capacity workers edition a = (demand2 workers_most capacity workers edition a []).unbroken

pub whole_schedules : (bits : Width) → WholeSchedules (of_width bits)
whole_schedules bits capacity workers edition a s =
    let b = made_whole capacity workers edition a in (
      λ even read. schedule_read (ring_queue bits) broken_of (fresh_of capacity workers edition) s b (λ o. omega arith) read,
      λ odd. ap (λ (r : Ran). r.machine) (schedule_odd (ring_queue bits) broken_of (fresh_of capacity workers edition) s b odd) ∙ ran_machine 11 0 (fresh_of capacity workers edition),
    )
