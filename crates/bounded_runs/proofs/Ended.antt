-- What is refused of a whole schedule, what is left of it where nothing is, and that a run that was not refused needs no search.
use Prim.Native.Nat.{ℕ, ◌%◌}
use mathlib.Core.Path.{◌≡◌, refl, sym, ap, ◌∙◌}
use mathlib.Core.Bool.{Bool, true, false}
use mathlib.Core.List.{List}
use lib.ListN.{length}
use borrow.Author.Tests.{eq-eqb, ne_eqb}
use Rattle.queue_entries.specs.declared.Entry.{Entry}
use Rattle.queue_entries.specs.declared.Entry.TheVariants.{Unreadable}
use Rattle.std.specs.Prelude.{Option, Some, None}
use Rattle.queue_entries.specs.Entries.{entry_of}
use Rattle.queue_entries.specs.Schedules.{search_by, schedule_by}
use Rattle.queue_entries.proofs.Pick.{yes, no}
use Rattle.queue_schedules.proofs.Ended as ended
use Rattle.bounded_words.specs.declared.Width.{Width}
use Rattle.bounded_acts.specs.Acts.{act_of}
use Rattle.bounded_machine.specs.declared.Machine.{Machine}
use Rattle.bounded_machine.specs.declared.Did.{Did}
use Rattle.bounded_machine.specs.declared.Ran.{Ran}
use Rattle.bounded_machine.specs.Machine.{refused}
use Rattle.bounded_machine.specs.Broken.{broken_of}
use Rattle.bounded_machine.specs.Turn.{turn, turn_at, turn_of_by}
use Rattle.bounded_machine.specs.Run.{ran, run_at, run_of_by}
use Rattle.bounded_runs.specs.Searched.{unless_unread}

module _ (bits : Width) (m : Machine) (s : List ℕ) (b : Bool) (e : b ≡ broken_of m) where
  pub broken_run : b ≡ true → ran 6 0 m ≡ run_of_by (act_of bits) m s
  unfolding schedule_by
  broken_run h = yes _ b _ _ _ e h refl

  module _ (h : b ≡ false) where
    pub odd_run : length s % 2 ≡ 1 → ran 11 0 m ≡ run_of_by (act_of bits) m s
    unfolding schedule_by
    odd_run k = no _ b _ _ _ e h (sym (simp (eq-eqb _ _ k)))

    module _ (k : length s % 2 ≡ 1 → ⊥) (f : Option ℕ) (g : f ≡ search_by entry_of 0 s) where
      unread_run : (i : ℕ) → f ≡ Some i → ran 9 i m ≡ run_of_by (act_of bits) m s
      unfolding schedule_by
      unread_run i z = no _ b _ _ _ e h (sym (simp (ne_eqb _ _ k, sym g ∙ z)))

      read_run : f ≡ None → run_at bits m 0 s ≡ run_of_by (act_of bits) m s
      unfolding schedule_by
      read_run z = no _ b _ _ _ e h (sym (simp (ne_eqb _ _ k, sym g ∙ z)))

    pub searched_run : (length s % 2 ≡ 1 → ⊥) → (done : Ran) → done ≡ run_at bits m 0 s → unless_unread m done (search_by entry_of 0 s) ≡ run_of_by (act_of bits) m s
    unfolding unless_unread
    searched_run k done d = go (search_by entry_of 0 s) refl
      where
        go : (f : Option ℕ) → f ≡ search_by entry_of 0 s → unless_unread m done f ≡ run_of_by (act_of bits) m s
        go None g = d ∙ read_run k None g refl
        go (Some i) g = unread_run k (Some i) g i refl

-- one entry that can't be read, and none
module _ (m : Machine) (done : Ran) (f : Option ℕ) where
  pub unread_told : (i : ℕ) → Some i ≡ f → ran 9 i m ≡ unless_unread m done f
  unfolding unless_unread
  unread_told i e = ap (unless_unread m done) e

  pub read_told : None ≡ f → done ≡ unless_unread m done f
  unfolding unless_unread
  read_told e = ap (unless_unread m done) e

module _ (bits : Width) where
  refusal_is : (k i : ℕ) (m : Machine) → (ran k i m).refusal ≡ k
  unfolding ran
  refusal_is k i m = refl

  nine : (m : Machine) (a b : ℕ) → entry_of a b ≡ Unreadable → (turn_at bits m a b).refusal ≡ 9
  unfolding turn_of_by refused
  nine m a b e = ap (λ (x : Entry). (turn bits m x).refusal) e

  pub not_refused : (m : Machine) (s : List ℕ) → broken_of m ≡ false → (length s % 2 ≡ 1 → ⊥)
      → (r : Ran) → r ≡ run_at bits m 0 s → r.refusal ≡ 0 → r ≡ run_of_by (act_of bits) m s
  not_refused =
      ended.not_refused (λ (d : Did). d.refusal) (λ (d : Did). d.machine) (turn_at bits) ran (λ (q : Ran). q.refusal) refusal_is entry_of nine broken_of
