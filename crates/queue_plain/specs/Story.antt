-- The story of a schedule: its accepted entries in order, each a call begun or an act; and along it a plain queue, and what each call puts in and takes out.
-- Over any queue: E is its acts.
use Rattle.std.specs.Prelude.{ℕ, ◌+◌, Bool, true, false, cond, List, [], ◌∷◌, ◌++◌, map, eqb, take, drop}
use Rattle.queue_entries.specs.declared.Call.{Call}
use Rattle.queue_entries.specs.declared.Call.TheVariants as call
use Rattle.queue_entries.specs.declared.Order.TheVariants.{Begin, Act}
use Rattle.queue_entries.specs.declared.Entry.{Entry}
use Rattle.queue_entries.specs.declared.Entry.TheVariants.{Unreadable, Asks}
use Rattle.queue_plain.specs.Plain.{Queue, queue}

pub data Element (E : Type 0) : Type 0 where
  -- a worker began a call
  Begun : ℕ → Call → Element E
  Does : E → Element E

abbrev pub Story : Type 0 → Type 0
Story E = List (Element E)

abbrev pub begun_in : {E : Type 0} → Entry → Story E
begun_in Unreadable = []
begun_in (Asks w (Begin c)) = Begun w c ∷ []
begun_in (Asks w (Act lose)) = []

-- What an accepted entry adds to the story, by what it adds to the history.
abbrev pub elements_by : {M E : Type 0} → (M → Entry → M → List E) → M → Entry → M → Story E
elements_by acts m asked next = begun_in asked ++ map Does (acts m asked next)

abbrev pub act_in : {E : Type 0} → Element E → List E
act_in (Begun w c) = []
act_in (Does e) = e ∷ []

unfoldable pub acts_in : {E : Type 0} → Story E → List E
acts_in [] = []
acts_in (x ∷ s) = act_in x ++ acts_in s

-- The item that a call came with.
abbrev pub item_of : Call → List ℕ
item_of (call.Push x) = x ∷ []
item_of (call.ForcePush x) = x ∷ []
item_of call.Pop = []
item_of call.Len = []
item_of call.IsEmpty = []
item_of call.IsFull = []
item_of call.Close = []
item_of call.IsClosed = []

unfoldable pub items_of : List Call → List ℕ
items_of [] = []
items_of (c ∷ others) = item_of c ++ items_of others

-- ---- the plain queue along it

-- What an act does to the plain queue.
pub record Change : Type 0 where
  -- the front goes out
  pub takes : Bool
  -- its call's item comes in at the back
  pub puts : Bool
  pub closes : Bool
  pub opens : Bool

abbrev pub changed_by : Change → List ℕ → Queue → Queue
changed_by d x q =
    queue (cond d.takes (drop 1 q.items) q.items ++ cond d.puts x []) (cond d.closes true (cond d.opens false q.closed)) q.capacity

-- Of a worker's call, under way or its last: which it is (none before the first), how many elements stood before it, what its acts put in and what they took out.
pub record Doing : Type 0 where
  pub calls : List Call
  pub begun : ℕ
  pub puts : List ℕ
  pub takes : List ℕ

abbrev pub beginning : Call → ℕ → Doing
beginning c count = record { calls = c ∷ []; begun = count; puts = []; takes = [] }

-- With an act more, on this queue.
abbrev pub doing_with : Change → Queue → Doing → Doing
doing_with d q x =
    record {
      calls = x.calls;
      begun = x.begun;
      puts = x.puts ++ cond d.puts (items_of x.calls) [];
      takes = x.takes ++ cond d.takes (take 1 q.items) [];
    }

-- After so many elements.
pub record Known : Type 0 where
  pub count : ℕ
  pub queue : Queue
  pub each : ℕ → Doing

abbrev pub fresh : ℕ → Known
fresh capacity =
    record { count = 0; queue = queue [] false capacity; each = λ w. record { calls = []; begun = 0; puts = []; takes = [] } }

-- Of each act its worker, and what it does to the plain queue.
module _ {E : Type 0} (worker : E → ℕ) (change : E → Change) where
  abbrev pub known_with : Known → Element E → Known
  known_with k (Begun w c) =
      record { count = k.count + 1; queue = k.queue; each = λ v. cond (eqb v w) (beginning c k.count) (k.each v) }
  known_with k (Does e) =
      record {
        count = k.count + 1;
        queue = changed_by (change e) (items_of (k.each (worker e)).calls) k.queue;
        each = λ v. cond (eqb v (worker e)) (doing_with (change e) k.queue (k.each v)) (k.each v);
      }

  unfoldable pub known_from : Known → Story E → Known
  known_from k [] = k
  known_from k (x ∷ s) = known_from (known_with k x) s

  -- From an empty open queue of this capacity, and no call begun.
  abbrev pub known : ℕ → Story E → Known
  known capacity s = known_from (fresh capacity) s

  -- The plain queue after the first n elements.
  abbrev pub queue_at : ℕ → ℕ → Story E → Queue
  queue_at capacity n s = (known capacity (take n s)).queue

  -- The items that came in, in order, and those that went out.
  unfoldable pub came_from : Known → Story E → List ℕ
  came_from k [] = []
  came_from k (Begun w c ∷ s) = came_from (known_with k (Begun w c)) s
  came_from k (Does e ∷ s) = cond (change e).puts (items_of (k.each (worker e)).calls) [] ++ came_from (known_with k (Does e)) s

  unfoldable pub went_from : Known → Story E → List ℕ
  went_from k [] = []
  went_from k (Begun w c ∷ s) = went_from (known_with k (Begun w c)) s
  went_from k (Does e ∷ s) = cond (change e).takes (take 1 k.queue.items) [] ++ went_from (known_with k (Does e)) s

  -- Anything else that is followed along it, by what each element makes of it where so much is known.
  unfoldable pub followed_from : {T : Type 0} → (Known → T → Element E → T) → Known → T → Story E → T
  followed_from next k was [] = was
  followed_from next k was (x ∷ s) = followed_from next (known_with k x) (next k was x) s
