-- A schedule's entries one after another: the run of one list after another is the run of both.
use mathlib.Core.Path.{◌≡◌, refl, sym, ap, ◌∙◌}
use mathlib.Core.Bool.{Bool, true, false, cond}
use mathlib.Core.List.{List, [], ◌∷◌, ◌++◌, append_assoc}
use Prim.Native.Nat.{ℕ, ◌+◌, ◌%◌}
use native.Mathlib.Omega.{arith}
use lib.Dec.{eqb}
use lib.ListN.{length}
use borrow.Author.Tests.{eqb-false}
use Rattle.queue_entries.specs.Schedules.{run_by, history_by}
use Rattle.queue_entries.specs.Entries.{entry_of}
use Rattle.bounded_words.specs.declared.Width.{Width}
use Rattle.bounded_machine.specs.declared.Machine.{Machine}
use Rattle.bounded_machine.specs.declared.Event.{Event}
use Rattle.bounded_machine.specs.Turn.{turn_at}
use Rattle.bounded_machine.specs.Run.{ran, run_at}
use Rattle.bounded_machine.specs.History.{events_of, history_at}

-- What comes after a list of whole entries that were all accepted.
pub record Onward (bits : Width) (m : Machine) (place : ℕ) (s t : List ℕ) : Type 0 where
  pub run : run_at bits m place (s ++ t) ≡ run_at bits (run_at bits m place s).machine (run_at bits m place s).place t
  pub acts : history_at bits m (s ++ t) ≡ history_at bits m s ++ history_at bits (run_at bits m place s).machine t

pub onward : (bits : Width) (s t : List ℕ) (m : Machine) (place : ℕ) → length s % 2 ≡ 0 → (run_at bits m place s).refusal ≡ 0 → Onward bits m place s t
unfolding run_by history_by ran
onward bits [] t m place even e = record { run = refl; acts = refl }
onward bits (first ∷ []) t m place even e = absurd (omega arith)
onward bits (first ∷ second ∷ rest) t m place even e =
    go (λ (z : (run_at bits (turn_at bits m first second).machine (place + 1) rest).refusal ≡ 0).
    onward bits rest t (turn_at bits m first second).machine (place + 1) (omega arith) z)
    (eqb (turn_at bits m first second).refusal 0) refl e
  where
    go : ((run_at bits (turn_at bits m first second).machine (place + 1) rest).refusal ≡ 0 → Onward bits (turn_at bits m first second).machine (place + 1) rest t)
        → (b : Bool) → eqb (turn_at bits m first second).refusal 0 ≡ b
        → (cond b (run_at bits (turn_at bits m first second).machine (place + 1) rest) (ran (turn_at bits m first second).refusal place m)).refusal ≡ 0
        → Onward bits m place (first ∷ second ∷ rest) t
    go more true q z =
        let o = more z in
        record {
          run = rw q o.run;
          acts = rw q (ap (λ (l : List Event). events_of bits m (entry_of first second) (turn_at bits m first second).machine ++ l) o.acts
              ∙ sym (append_assoc (events_of bits m (entry_of first second) (turn_at bits m first second).machine) (history_at bits (turn_at bits m first second).machine rest)
              (history_at bits (run_at bits (turn_at bits m first second).machine (place + 1) rest).machine t)));
        }
    go more false q z = absurd (eqb-false _ 0 q z)

-- The machine does not depend on the place of the first entry.
pub any_place : (bits : Width) (s : List ℕ) (m : Machine) (i j : ℕ) → (run_at bits m i s).machine ≡ (run_at bits m j s).machine
unfolding run_by ran
any_place bits [] m i j = refl
any_place bits (first ∷ []) m i j = refl
any_place bits (first ∷ second ∷ rest) m i j = go (any_place bits rest (turn_at bits m first second).machine (i + 1) (j + 1)) (eqb (turn_at bits m first second).refusal 0)
  where
    go : (run_at bits (turn_at bits m first second).machine (i + 1) rest).machine ≡ (run_at bits (turn_at bits m first second).machine (j + 1) rest).machine → (b : Bool)
        → (cond b (run_at bits (turn_at bits m first second).machine (i + 1) rest) (ran (turn_at bits m first second).refusal i m)).machine
        ≡ (cond b (run_at bits (turn_at bits m first second).machine (j + 1) rest) (ran (turn_at bits m first second).refusal j m)).machine
    go e true = e
    go e false = refl
