-- What a plain queue answers, case by case.
use Prim.Native.Nat.{ℕ}
use mathlib.Core.Bool.{true, false, cond}
use mathlib.Core.List.{List, [], ◌∷◌}
use mathlib.Core.Path.{◌≡◌, refl, ap}
use native.Mathlib.Omega.{arith}
use lib.ListN.{length}
use Rattle.queue_entries.specs.declared.Call.TheVariants as call
use Rattle.queue_plain.specs.Plain.{Queue, answer_of, full_of, front_of}
use Rattle.queue_plain.specs.Plain as plain

pub none_of : (l : List ℕ) → length l ≡ 0 → l ≡ []
none_of [] h = refl
none_of (x ∷ l) h = absurd (omega arith)

module _ (q : Queue) (x : ℕ) where
  pub push_closed : q.closed ≡ true → answer_of q (call.Push x) ≡ plain.Closed x
  push_closed e = rw e

  pub force_closed : q.closed ≡ true → answer_of q (call.ForcePush x) ≡ plain.Closed x
  force_closed e = rw e

  pub push_room : q.closed ≡ false → full_of q ≡ false → answer_of q (call.Push x) ≡ plain.Pushed
  push_room e f = rw (e, f)

  pub force_room : q.closed ≡ false → full_of q ≡ false → answer_of q (call.ForcePush x) ≡ plain.Pushed
  force_room e f = rw (e, f)

  pub push_full : q.closed ≡ false → full_of q ≡ true → answer_of q (call.Push x) ≡ plain.Full x
  push_full e f = rw (e, f)

  pub force_full : (v : ℕ) (others : List ℕ) → q.closed ≡ false → full_of q ≡ true → q.items ≡ v ∷ others → answer_of q (call.ForcePush x) ≡ plain.Displaced v
  force_full v others e f i = rw (e, f) (ap (front_of plain.Displaced plain.Pushed) i)

pub pop_front : (q : Queue) (v : ℕ) (others : List ℕ) → q.items ≡ v ∷ others → answer_of q call.Pop ≡ plain.Popped v
pop_front q v others i = ap (front_of plain.Popped (cond q.closed plain.EmptyAndClosed plain.Empty)) i

pub pop_none : (q : Queue) → q.items ≡ [] → answer_of q call.Pop ≡ cond q.closed plain.EmptyAndClosed plain.Empty
pop_none q i = ap (front_of plain.Popped (cond q.closed plain.EmptyAndClosed plain.Empty)) i
