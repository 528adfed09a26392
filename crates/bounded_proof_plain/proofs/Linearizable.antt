-- One step a call, proved; and that two closes of edition 1 are not.
use mathlib.Core.Path.{◌≡◌, refl, sym, ap, ◌∙◌, subst}
use mathlib.Core.Logic.{inl}
use mathlib.Core.Bool.{false}
use mathlib.Core.List.{List, [], ◌++◌}
use Prim.Native.Nat.{ℕ}
use native.Mathlib.Omega.{arith}
use lib.ListN.{length}
use Rattle.queue_entries.specs.Entries.{entry_of}
use Rattle.queue_plain.specs.Plain.{queue}
use Rattle.queue_plain.specs.Story.{Does, elements_by, acts_in, known_from}
use Rattle.queue_plain.proofs.Stories.{acts_story}
use Rattle.queue_schedules.proofs.Histories.{entries_lead_while}
use Rattle.bounded_words.specs.declared.Width.{Width}
use Rattle.bounded_words.specs.declared.Width.TheVariants.{SixtyFour}
use Rattle.bounded_places.specs.declared.Place.TheVariants.{Idle, F7}
use Rattle.bounded_places.specs.declared.Answer.TheVariants.{Nothing}
use Rattle.bounded_places.specs.declared.Worker.{Worker}
use Rattle.bounded_machine.specs.declared.Machine.{Machine}
use Rattle.bounded_machine.specs.declared.Did.{Did}
use Rattle.bounded_machine.specs.Machine.{fresh_with}
use Rattle.bounded_machine.specs.Turn.{turn_at, turn_of_by}
use Rattle.bounded_machine.specs.Run.{run_at}
use Rattle.bounded_machine.specs.History.{events_of}
use Rattle.bounded_demands.specs.Notions.{with_records, AllowedWith, machine_after, InWidestWindow, KeepsWidestWindow}
use Rattle.bounded_demands.specs.Stories.{Story, story_of, one_step, OnlySuch, moment_from}
use Rattle.bounded_demands.specs.Demands.{OneByOne, OneStep, OneStepInWindow}
use Rattle.bounded_demands.proofs.Refusals.{ring_queue}
use Rattle.bounded_proof_demand2.proofs.Turns.{turned, stood}
use Rattle.bounded_proof_demand2.proofs.Reached.{laps_of, base_of, fresh_record, nil_split}
use Rattle.bounded_proof_demand2.proofs.Always.{always, widens}
use Rattle.bounded_proof_plain.proofs.Line.{Line, none_one}
use Rattle.bounded_proof_plain.proofs.Lined.{Asks, Lined}
use Rattle.bounded_proof_plain.proofs.Linear.{Both, both_kept, only_first, only_last}
use Rattle.bounded_proof_plain.proofs.Plain.{told_first}

-- what is told is a run, one step a call
pub one_by_one : (c ed : ℕ) (m : Machine) (st : Story) (s : _) (ages : _) → Lined c ed m st s ages → OneByOne c ed st
one_by_one c ed m st s ages o =
    record {
      steps = o.line.steps;
      queues = o.line.queues;
      first = o.line.first;
      follows = o.line.follows;
      single = o.line.single;
      answered = λ earlier later act a is said. let r = o.answered earlier later act a is said in (r.at, r.step, r.is, r.begun, r.inside, r.by, r.call, r.reply);
      own = λ i x h. (o.line.inside i x h, (o.line.own i x h).0, (o.line.own i x h).1);
      once = o.line.once;
    }

module _ (bits : Width) (records c workers ed : ℕ) (a : AllowedWith records c workers ed) where
  abbrev n : ℕ
  n = laps_of bits c

  abbrev pub Tells : Machine → Story → Type 0
  Tells m st = OnlySuch (one_step ed) st → Both bits c n workers (base_of bits records c workers ed a) ed m st

  first_line : Line c ed []
  unfolding known_from
  first_line =
      record {
        steps = λ i. [];
        queues = λ i. queue [] false c;
        first = refl;
        follows = λ i h. absurd (omega arith);
        single = λ i. omega arith;
        inside = λ i x h. none_one x h;
        own = λ i x h. none_one x h;
        once = λ i j x y lt h. none_one x h;
        flags = λ i h. let z : i ≡ 0 = omega arith in rw z (refl, refl);
      }

  idle_first : (w : ℕ) → stood (fresh_with records c workers ed) w ≡ Idle Nothing
  idle_first w = ap (λ (y : Worker). y.place) (fresh_record records c workers ed w)

  no_call : {P : Type 0} (m : Machine) (w k : ℕ) → Asks c ed m [] w k → P
  unfolding known_from
  no_call m w k z = absurd (let q : ◌≡◌ {A = ℕ} 0 1 = ap length z.its in omega arith)

  pub first_both : Tells (fresh_with records c workers ed) []
  unfolding known_from moment_from first_line
  first_both only =
      record {
        told = told_first bits records c workers ed a;
        lined =
            record {
              line = first_line;
              pend = [];
              last = refl;
              pending = inl (refl, λ w t x h. let z : Idle Nothing ≡ F7 t x = sym (idle_first w) ∙ h in let q : ◌≡◌ {A = ℕ} 0 1 = cc in omega arith);
              answered = λ earlier later act x e said. absurd (nil_split earlier (Does act) later e);
              ok = λ w cl h. absurd (let q : ◌≡◌ {A = ℕ} 0 1 = ap length h in omega arith);
              open1 = λ h. refl;
              ats = λ w. (0, refl);
              unstepped = λ w b p t i x h. none_one x h;
              entered = λ w v b h. absurd (let q : ◌≡◌ {A = ℕ} 0 1 = ap length h in omega arith);
              taken = λ w v cl b h. absurd (let q : ◌≡◌ {A = ℕ} 0 1 = ap length h in omega arith);
              held = λ w k z. no_call (fresh_with records c workers ed) w k z;
              apart = λ w v k ne z. no_call (fresh_with records c workers ed) w k z;
            };
      }

  one_entry : (m : Machine) (st : Story) (i j : ℕ) → Tells m st → InWidestWindow bits m (acts_in st) → (turn_at bits m i j).refusal ≡ 0
      → Tells (turn_at bits m i j).machine (st ++ elements_by (events_of bits) m (entry_of i j) (turn_at bits m i j).machine)
  unfolding turn_of_by
  one_entry m st i j o window e only =
      both_kept bits c n workers (base_of bits records c workers ed a) ed m st (entry_of i j) _ _ (o (only_first (one_step ed) st _ only)) window
      (only_last (one_step ed) st _ only) (turned bits m (entry_of i j) e)

  both_after : (s : List ℕ) → KeepsWidestWindow (with_records records bits) (fresh_with records c workers ed) [] s
      → Tells (machine_after (with_records records bits) c workers ed s) (story_of (with_records records bits) c workers ed s)
  both_after s keeps =
      entries_lead_while (ring_queue bits) (elements_by (events_of bits)) (λ (m : Machine) (st : Story). InWidestWindow bits m (acts_in st)) Tells one_entry s (fresh_with records c workers ed) [] 0
      (λ before after e.
      subst (InWidestWindow bits (run_at bits (fresh_with records c workers ed) 0 before).machine)
      (sym (acts_story (λ (d : Did). d.refusal) (λ (d : Did). d.machine) (turn_at bits) (events_of bits) before (fresh_with records c workers ed)))
      (keeps before after e))
      first_both

pub one_step_in : (bits : Width) (records c workers ed : ℕ) → AllowedWith records c workers ed → (s : List ℕ) → KeepsWidestWindow (with_records records bits) (fresh_with records c workers ed) [] s
    → OnlySuch (one_step ed) (story_of (with_records records bits) c workers ed s) → OneByOne c ed (story_of (with_records records bits) c workers ed s)
one_step_in bits records c workers ed a s keeps only =
    one_by_one c ed _ _ _ _ (both_after bits records c workers ed a s keeps only).lined

pub one_step_in_window : (bits : Width) (records : ℕ) → OneStepInWindow (with_records records bits)
one_step_in_window bits records c workers ed a s keeps = one_step_in bits records c workers ed a s (widens (with_records records bits) (fresh_with records c workers ed) [] s keeps)

-- of 64 bits every schedule
pub one_step_lem : (records : ℕ) → OneStep (with_records records SixtyFour)
one_step_lem records c workers ed a s only = one_step_in SixtyFour records c workers ed a s (always records c workers ed a s) only
