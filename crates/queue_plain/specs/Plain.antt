-- A plain queue: items in order, open or closed, room for so many. What each of the eight calls answers, and what it leaves. No word, stamp, place or act
-- is in it.
use Rattle.std.specs.Prelude.{ℕ, Bool, true, cond, List, [], ◌∷◌, ◌++◌, eqb, length, drop}
use Rattle.queue_entries.specs.declared.Call.{Call}
use Rattle.queue_entries.specs.declared.Call.TheVariants.{Push, ForcePush, Pop, Len, IsEmpty, IsFull, Close, IsClosed}

pub data Reply : Type 0 where
  Pushed Empty EmptyAndClosed Yes No : Reply
  -- the caller's item, given back
  Full Closed : ℕ → Reply
  -- the item that was in front
  Displaced Popped : ℕ → Reply
  Count : ℕ → Reply

pub record Queue : Type 0 where
  -- the front first
  pub items : List ℕ
  pub closed : Bool
  pub capacity : ℕ

abbrev pub queue : List ℕ → Bool → ℕ → Queue
queue items closed capacity = record { items = items; closed = closed; capacity = capacity }

abbrev pub full_of : Queue → Bool
full_of q = eqb (length q.items) q.capacity

-- The front's reply, or that of none.
abbrev pub front_of : (ℕ → Reply) → Reply → List ℕ → Reply
front_of one none [] = none
front_of one none (v ∷ others) = one v

abbrev pub yes_if : Bool → Reply
yes_if b = cond b Yes No

abbrev pub answer_of : Queue → Call → Reply
answer_of q (Push x) = cond q.closed (Closed x) (cond (full_of q) (Full x) Pushed)
answer_of q (ForcePush x) = cond q.closed (Closed x) (cond (full_of q) (front_of Displaced Pushed q.items) Pushed)
answer_of q Pop = front_of Popped (cond q.closed EmptyAndClosed Empty) q.items
answer_of q Len = Count (length q.items)
answer_of q IsEmpty = yes_if (eqb (length q.items) 0)
answer_of q IsFull = yes_if (full_of q)
answer_of q Close = cond q.closed No Yes
answer_of q IsClosed = yes_if q.closed

abbrev pub left_by : Queue → Call → Queue
left_by q (Push x) = cond q.closed q (cond (full_of q) q (queue (q.items ++ x ∷ []) q.closed q.capacity))
left_by q (ForcePush x) = cond q.closed q (queue (cond (full_of q) (drop 1 q.items) q.items ++ x ∷ []) q.closed q.capacity)
left_by q Pop = queue (drop 1 q.items) q.closed q.capacity
left_by q Len = q
left_by q IsEmpty = q
left_by q IsFull = q
left_by q Close = queue q.items true q.capacity
left_by q IsClosed = q

-- ---- what a reply means: what its call has put in of the items that it came with, what it has taken out, and what it gives back

abbrev pub put_by : List ℕ → Reply → List ℕ
put_by x Pushed = x
put_by x Empty = []
put_by x EmptyAndClosed = []
put_by x Yes = []
put_by x No = []
put_by x (Full y) = []
put_by x (Closed y) = []
put_by x (Displaced v) = x
put_by x (Popped v) = []
put_by x (Count n) = []

abbrev pub taken_by : Reply → List ℕ
taken_by Pushed = []
taken_by Empty = []
taken_by EmptyAndClosed = []
taken_by Yes = []
taken_by No = []
taken_by (Full x) = []
taken_by (Closed x) = []
taken_by (Displaced v) = v ∷ []
taken_by (Popped v) = v ∷ []
taken_by (Count n) = []

abbrev pub given_back : Reply → List ℕ
given_back Pushed = []
given_back Empty = []
given_back EmptyAndClosed = []
given_back Yes = []
given_back No = []
given_back (Full x) = x ∷ []
given_back (Closed x) = x ∷ []
given_back (Displaced v) = []
given_back (Popped v) = []
given_back (Count n) = []

-- Of one reply, or of none yet.
abbrev pub meaning_of : (Reply → List ℕ) → List Reply → List ℕ
meaning_of says [] = []
meaning_of says (r ∷ others) = says r
