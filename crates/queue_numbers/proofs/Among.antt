-- Which numbers an entry's refusal and a schedule's can have, over any queue's machine.
use Prim.Native.Nat.{ℕ, ◌+◌, ◌/◌, ◌%◌}
use mathlib.Core.Path.{◌≡◌, refl, sym, ap, ◌∙◌, subst}
use mathlib.Core.Bool.{Bool, true, false, cond, true≢false}
use mathlib.Core.List.{List, [], ◌∷◌}
use lib.Dec.{ltb, eqb}
use borrow.Author.Tests.{eqb-true}
use Rattle.queue_entries.specs.Limits.{meter_most}
use Rattle.queue_entries.specs.declared.Call.{Call}
use Rattle.queue_entries.specs.declared.Order.TheVariants.{Begin, Act}
use Rattle.queue_entries.specs.declared.Entry.{Entry}
use Rattle.queue_entries.specs.declared.Entry.TheVariants.{Unreadable, Asks}
use Rattle.queue_entries.specs.declared.Verdict.{Verdict}
use Rattle.queue_entries.specs.declared.Verdict.TheVariants.{Refuse, Start, Move}
use Rattle.queue_entries.specs.Entries.{call_of, stray_of, order_of, entry_of, verdict_for}
use Rattle.queue_entries.proofs.Pick.{both_left, both_right}
use Rattle.queue_schedules.proofs.Schedules.{picked, Queue, run_in, taken, run_none, run_half, run_on, run_halt, schedule_in, schedule_broken, schedule_odd}
use Rattle.queue_schedules.proofs.Schedules.{schedule_found, schedule_none, Ways, is_broken, is_odd, is_unread, is_read, way}
use Rattle.queue_numbers.specs.Numbers.{has}

-- a list whose every number is in another
unfoldable pub within : List ℕ → List ℕ → Bool
within [] k = true
within (x ∷ l) k = cond (has k x) (within l k) false

pub wider : (l k : List ℕ) (n : ℕ) → within l k ≡ true → has l n ≡ true → has k n ≡ true
unfolding has within
wider [] k n i h = absurd (true≢false (sym h))
wider (x ∷ l) k n i h = go (wider l k n (both_right (has k x) (within l k) i)) (eqb n x) refl
  where
    go : (has l n ≡ true → has k n ≡ true) → (b : Bool) → eqb n x ≡ b → has k n ≡ true
    go rest true e = subst (λ (z : ℕ). has k z ≡ true) (sym (eqb-true n x e)) (both_left (has k x) (within l k) i)
    go rest false e = rest (rw e at h)

-- ---- one entry
-- what its verdict refuses, or any number that the queue gives to one that goes on
abbrev pub Sure : List ℕ → Verdict → Type 0
Sure l (Refuse k) = has l k ≡ true
Sure l (Start c) = has l 0 ≡ true
Sure l (Move lose) = has l 0 ≡ true

abbrev pub begins : List ℕ
begins = 0 ∷ 3 ∷ 4 ∷ 9 ∷ []

abbrev pub acts : List ℕ
acts = 0 ∷ 3 ∷ 5 ∷ 7 ∷ 8 ∷ 9 ∷ []

pub begin_sure : (meter : ℕ) (busy weak : Bool) (c : Call) → Sure begins (verdict_for meter busy weak (Begin c))
unfolding has
begin_sure meter busy weak c = picked (Sure begins) busy (Refuse 4) (Start c) refl refl

pub act_sure : (meter : ℕ) (busy weak lose : Bool) → Sure acts (verdict_for meter busy weak (Act lose))
unfolding has
act_sure meter busy weak lose =
    picked (Sure acts) busy _ (Refuse 5)
    (picked (Sure acts) (ltb meter meter_most) _ (Refuse 7) (picked (Sure acts) lose _ (Move false) (picked (Sure acts) weak (Move true) (Refuse 8) refl refl) refl) refl)
    refl

-- what holds of an entry that can't be read and of one that begins, or acts, holds of two words with such a code
module _ (P : Entry → Type 0) (unread : P Unreadable) (first second : ℕ) where
  pub code_begins : ((w : ℕ) (c : Call) → P (Asks w (Begin c))) → ltb (first % 16) 8 ≡ true → P (entry_of first second)
  unfolding entry_of order_of
  code_begins begin l = picked P (stray_of (first % 16) second) Unreadable _ unread (rw l (begin (first / 16) (call_of (first % 16) second)))

  pub code_acts : ((w : ℕ) (lose : Bool) → P (Asks w (Act lose))) → ltb (first % 16) 8 ≡ false → P (entry_of first second)
  unfolding entry_of order_of
  code_acts act l =
      picked P (stray_of (first % 16) second) Unreadable _ unread
      (rw l (picked P (ltb (first % 16) 10) (Asks (first / 16) (Act (eqb (first % 16) 9))) Unreadable (act (first / 16) (eqb (first % 16) 9)) unread))

-- ---- a schedule
module _ {M D R : Type 0} (q : Queue M D R) (l : List ℕ) (none : has l 0 ≡ true) (each : (m : M) (a b : ℕ) → has l (q.refusal (q.turn m a b)) ≡ true) where
  abbrev Among : R → Type 0
  Among r = has l (q.refusal_in r) ≡ true

  reports : (k i : ℕ) (m : M) → has l k ≡ true → Among (q.ran k i m)
  reports k i m h = ap (has l) (q.refusal_is k i m) ∙ h

  entries_among : (s : List ℕ) (m : M) (i : ℕ) → Among (run_in q m i s)
  entries_among [] m i = subst Among (sym (run_none q m i)) (reports 0 i m none)
  entries_among (a ∷ []) m i = subst Among (sym (run_half q m i a)) (reports 0 i m none)
  entries_among (a ∷ b ∷ s) m i = go (entries_among s (q.machine (q.turn m a b)) (i + 1)) (taken q m a b) refl
    where
      go : Among (run_in q (q.machine (q.turn m a b)) (i + 1) s) → (c : Bool) → taken q m a b ≡ c → Among (run_in q m i (a ∷ b ∷ s))
      go more true e = subst Among (sym (run_on q m i a b s e)) more
      go more false e = subst Among (sym (run_halt q m i a b s e)) (reports (q.refusal (q.turn m a b)) i m (each m a b))

  pub schedule_among : (broken : M → Bool) → has l 6 ≡ true → has l 9 ≡ true → has l 11 ≡ true → (m : M) (s : List ℕ) → Among (schedule_in q broken m s)
  schedule_among broken six nine eleven m s = go (way q broken m s)
    where
      go : Ways q broken m s → Among (schedule_in q broken m s)
      go (is_broken e) = subst Among (sym (schedule_broken q broken m s e)) (reports 6 0 m six)
      go (is_odd e o) = subst Among (sym (schedule_odd q broken m s e o)) (reports 11 0 m eleven)
      go (is_unread e o k h) = subst Among (sym (schedule_found q broken m s e o k h)) (reports 9 k m nine)
      go (is_read e o h) = subst Among (sym (schedule_none q broken m s e o h)) (entries_among s m 0)
