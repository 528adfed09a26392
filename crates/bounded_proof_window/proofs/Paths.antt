-- Entries that are accepted one after another, and their acts.
use mathlib.Core.Path.{◌≡◌, refl, sym, ap, ◌∙◌, subst}
use mathlib.Core.List.{List, [], ◌∷◌, ◌++◌, append_assoc}
use Prim.Native.Nat.{ℕ}
use Rattle.queue_entries.specs.Schedules.{run_by, history_by}
use Rattle.queue_entries.specs.Entries.{entry_of}
use Rattle.bounded_words.specs.declared.Width.{Width}
use Rattle.bounded_machine.specs.declared.Machine.{Machine}
use Rattle.bounded_machine.specs.declared.Event.{Event}
use Rattle.bounded_machine.specs.declared.Tally.{Tally}
use Rattle.bounded_machine.specs.Machine.{accepted}
use Rattle.bounded_machine.specs.Turn.{turn_at}
use Rattle.bounded_machine.specs.Run.{run_at}
use Rattle.bounded_machine.specs.History.{events_of, history_at, tally_of}
use Rattle.bounded_proof_demand2.proofs.Runs.{any_place}

pub tally_both : (l h : List Event) (t : Tally) → tally_of (l ++ h) t ≡ tally_of h (tally_of l t)
unfolding tally_of
tally_both [] h t = refl
tally_both (e ∷ l) h t = tally_both l h _

module _ (bits : Width) where
  -- The entries s on m are the entries rest on next, after these acts.
  pub record Goes (m : Machine) (s : List ℕ) (next : Machine) (rest : List ℕ) (done : List Event) : Type 0 where
    pub run : (run_at bits m 0 s).machine ≡ (run_at bits next 0 rest).machine
    pub history : history_at bits m s ≡ done ++ history_at bits next rest

  pub goes : (m next : Machine) (first second : ℕ) (rest : List ℕ) → turn_at bits m first second ≡ accepted next
      → Goes m (first ∷ second ∷ rest) next rest (events_of bits m (entry_of first second) next)
  unfolding run_by history_by accepted
  goes m next first second rest e = record { run = rw e (any_place bits rest next 1 0); history = rw e }

  pub on : {m next last : Machine} {s rest end : List ℕ} {done more : List Event} → Goes m s next rest done → Goes next rest last end more → Goes m s last end (done ++ more)
  on {last = last} {end = end} {done = done} {more = more} a b =
      record {
        run = a.run ∙ b.run;
        history = a.history ∙ ap (λ (l : List Event). done ++ l) b.history ∙ sym (append_assoc done more (history_at bits last end));
      }

  pub ending : {m next last : Machine} {s rest : List ℕ} {done : List Event} → next ≡ last → Goes m s next rest done → Goes m s last rest done
  ending {m} {s = s} {rest = rest} {done = done} e g = subst (λ (z : Machine). Goes m s z rest done) e g

  -- An entry and the machine that it leads to.
  pub record Step : Type 0 where
    pub first : ℕ
    pub second : ℕ
    pub next : Machine

  abbrev pub Follows : Machine → List Step → Type 0
  Follows m [] = Unit {0}
  Follows m (s ∷ l) = (turn_at bits m s.first s.second ≡ accepted s.next) × Follows s.next l

  abbrev pub words_of : List Step → List ℕ → List ℕ
  words_of [] rest = rest
  words_of (s ∷ l) rest = s.first ∷ s.second ∷ words_of l rest

  abbrev pub last_of : Machine → List Step → Machine
  last_of m [] = m
  last_of m (s ∷ l) = last_of s.next l

  abbrev pub done_by : Machine → List Step → List Event
  done_by m [] = []
  done_by m (s ∷ l) = events_of bits m (entry_of s.first s.second) s.next ++ done_by s.next l

  pub follows : (l : List Step) (m : Machine) → Follows m l → (rest : List ℕ) → Goes m (words_of l rest) (last_of m l) rest (done_by m l)
  follows [] m f rest = record { run = refl; history = refl }
  follows (s ∷ l) m f rest = on (goes m s.next s.first s.second (words_of l rest) f.0) (follows l s.next f.1 rest)
