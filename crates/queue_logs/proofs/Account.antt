-- What the rows rest on: along the log a plain queue, with what each call has put in and taken out by then. Time n: after the first n elements.
use Prim.Native.Nat.{ℕ, ◌+◌, ◌≤◌, ◌<◌}
use mathlib.Core.Bool.{Bool, true, false, cond, not}
use mathlib.Core.List.{List, [], ◌∷◌, ◌++◌}
use mathlib.Core.Logic.{◌≢◌, ◌⊎◌}
use mathlib.Core.Path.{◌≡◌}
use lib.ListN.{length}
use Rattle.queue_entries.specs.declared.Call.{Call}
use Rattle.queue_entries.specs.declared.Call.TheVariants as call
use Rattle.queue_plain.specs.Plain.{Queue, Reply, Pushed, Empty, EmptyAndClosed, Yes, No, Full, Closed, Displaced, Popped, Count, answer_of, full_of}
use Rattle.queue_logs.specs.Logs.{Log, total, weigh, any, ended, handed_in, handed_out, takes, may_take}

-- Answers that no row reads: is_empty's no, where it is not to be read.
abbrev pub unread_of : Bool → Reply → Bool
unread_of sees Pushed = false
unread_of sees Empty = false
unread_of sees EmptyAndClosed = false
unread_of sees Yes = false
unread_of sees No = not sees
unread_of sees (Full x) = false
unread_of sees (Closed x) = false
unread_of sees (Displaced x) = false
unread_of sees (Popped x) = false
unread_of sees (Count n) = false

abbrev pub unread : Bool → Call → Reply → Bool
unread sees (call.Push x) r = false
unread sees (call.ForcePush x) r = false
unread sees call.Pop r = false
unread sees call.Len r = false
unread sees call.IsEmpty r = unread_of sees r
unread sees call.IsFull r = false
unread sees call.Close r = false
unread sees call.IsClosed r = false

-- The plain queue that a call is asked of: with these items, open or closed as this; and where it is full there are as many as the capacity, elsewhere not. To a call that takes nothing
-- out it may also be full by room that is held. (The ring: this one. The unbounded queue: with room for one more. The one-slot queue: a pop under way holds the room of the item that it took.)
pub record AskedOf (capacity held : ℕ) (then : Queue) (c : Call) (r : Reply) : Type 0 where
  pub asked : Queue
  pub items : asked.items ≡ then.items
  pub closed : asked.closed ≡ then.closed
  pub full : full_of asked ≡ true → capacity ≤ length then.items + cond (takes c) 0 held
  pub room : full_of asked ≡ false → length then.items ≢ capacity
  pub says : answer_of asked c ≡ r

pub record Account (capacity : ℕ) (stays sees : Bool) (l : Log) : Type 0 where
  pub roomy : 0 < capacity
  pub queue : ℕ → Queue
  pub held : ℕ → ℕ
  pub came : ℕ → List ℕ
  pub went : ℕ → List ℕ
  -- by time n, of the call that began at this place
  pub puts : ℕ → ℕ → List ℕ
  pub takes : ℕ → ℕ → List ℕ
  pub in_order : (n : ℕ) → came n ≡ went n ++ (queue n).items
  pub came_on : (n m : ℕ) → n ≤ m → (more : List ℕ) × (came m ≡ came n ++ more)
  pub went_on : (n m : ℕ) → n ≤ m → (more : List ℕ) × (went m ≡ went n ++ more)
  -- what came is what calls put in, what went is what they took
  pub came_is : (f : ℕ → ℕ) (n : ℕ) → weigh f (came n) ≡ total l.size (λ x. weigh f (puts n x))
  pub went_is : (f : ℕ → ℕ) (n : ℕ) → weigh f (went n) ≡ total l.size (λ x. weigh f (takes n x))
  -- nothing before its begin
  pub put_late : (n x : ℕ) → n ≤ (l.line x).from → puts n x ≡ []
  pub take_late : (n x : ℕ) → n ≤ (l.line x).from → takes n x ≡ []
  -- at no time more than its answer means, or than a call under way may
  pub put_most : (f : ℕ → ℕ) (n x : ℕ) → x < l.size → weigh f (puts n x) ≤ weigh f (handed_in (l.line x))
  pub take_most : (f : ℕ → ℕ) → ((v : ℕ) → f v ≤ 1) → (n x : ℕ) → x < l.size → weigh f (takes n x) ≤ may_take f (l.line x)
  -- and after its answer just that
  pub put_done : (n x : ℕ) → x < l.size → ended (l.line x).reply ≡ true → (l.line x).to < n → puts n x ≡ handed_in (l.line x)
  pub take_done : (n x : ℕ) → x < l.size → ended (l.line x).reply ≡ true → (l.line x).to < n → takes n x ≡ handed_out (l.line x)
  -- after the last
  pub end : ℕ
  pub all_by : (x : ℕ) → x < l.size → ended (l.line x).reply ≡ true → (l.line x).to < end
  -- room is held by a call that has taken so much out and has not answered
  pub holds : (n : ℕ) → (held n ≡ 0) ⊎ ((z : ℕ) × (z < l.size) × (held n ≤ weigh any (takes n z)) × (ended (l.line z).reply ≡ true → n ≤ (l.line z).to))
  -- an answer is the plain queue's at a moment inside its call
  pub moment : (y : ℕ) (c : Call) (r : Reply) → y < l.size → (l.line y).calls ≡ c ∷ [] → (l.line y).reply ≡ r ∷ [] → unread sees c r ≡ false
      → (n : ℕ) × ((l.line y).from < n) × (n ≤ (l.line y).to) × AskedOf capacity (held n) (queue n) c r
  -- a call that hands out took the front, inside it, before it put anything in
  pub taking : (y v : ℕ) → y < l.size → handed_out (l.line y) ≡ v ∷ []
      → (n : ℕ) × (rest : List ℕ) × ((l.line y).from < n) × (n ≤ (l.line y).to) × ((queue n).items ≡ v ∷ rest) × (puts n y ≡ [])
  -- so that at no time it has more in than out
  pub swaps : (n y v : ℕ) → y < l.size → handed_out (l.line y) ≡ v ∷ [] → weigh any (puts n y) ≤ weigh any (takes n y)
  pub most : (n : ℕ) → length (queue n).items ≤ capacity
  -- a close that answered yes closed it; and after any close that answered it is closed, where it is never opened
  pub closed_by : (n : ℕ) → (queue n).closed ≡ true → (x : ℕ) × (x < l.size) × ((l.line x).calls ≡ call.Close ∷ []) × ((l.line x).reply ≡ Yes ∷ []) × ((l.line x).from < n)
  pub closed_on : stays ≡ true → (n x : ℕ) → x < l.size → (l.line x).calls ≡ call.Close ∷ [] → ended (l.line x).reply ≡ true → (l.line x).to < n → (queue n).closed ≡ true
