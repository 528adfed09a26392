-- What a worker's call has behind it at each place: its item, what it put in and took out, and the moment of the answer that it may give. Others' acts and begins leave it so.
use Prim.Native.Nat.{ℕ, ◌+◌, ◌%◌, ◌≤◌, ◌<◌}
use native.Mathlib.Omega.{arith}
use mathlib.Core.Path.{◌≡◌, refl, sym, ap, ◌∙◌, subst}
use mathlib.Core.Logic.{◌≢◌, ◌⊎◌, inl, inr}
use mathlib.Core.Bool.{Bool, true, cond}
use mathlib.Core.List.{List, [], ◌∷◌, ◌++◌, append_assoc}
use lib.ListN.{length, length-append}
use borrow.Author.Tests.{eq-eqb, ne_eqb}
use Rattle.queue_entries.specs.declared.Call.{Call}
use Rattle.queue_entries.specs.declared.Call.TheVariants as call
use Rattle.queue_plain.specs.Plain.{Reply, Queue, answer_of}
use Rattle.queue_plain.specs.Plain as plain
use Rattle.queue_plain.specs.Story.{Begun, Does, Doing, acts_in, items_of, fresh}
use Rattle.queue_plain.proofs.Stories.{followed_end, queue_past, queue_now, known_count, each_own}
use Rattle.queue_plain.proofs.Calls as calls
use Rattle.unbounded_words.specs.declared.Index.{Index}
use Rattle.unbounded_words.specs.Words.{sizes, marked_of, count_of}
use Rattle.unbounded_places.specs.declared.Answer.{Answer}
use Rattle.unbounded_places.specs.declared.Answer.TheVariants.{Nothing, Pushed, Closed, Popped, Empty, PopClosed, Len, Yes, No}
use Rattle.unbounded_places.specs.declared.Place.TheVariants.{Idle, Empty1}
use Rattle.unbounded_places.specs.Places.{begin_of}
use Rattle.unbounded_machine.specs.declared.Event.{Event}
use Rattle.unbounded_demands.specs.Notions.{takers_of, LatestIn, ItemIn, position}
use Rattle.unbounded_demands.specs.Notions as notions
use Rattle.unbounded_demands.specs.Claims.{CallClaim}
use Rattle.unbounded_demands.specs.Stories.{Element, Story, Task, Rests, Starts, Tries, Given, Enters, Entered, Frees, Takes, LoadsHead, Counts, LooksAtTail}
use Rattle.unbounded_demands.specs.Stories.{change_of, actor, known, roomy, queue_at, At, AfterNextTail, Timing, Now, timing_of, timed, heard, moment_with}
use Rattle.unbounded_demands.specs.Stories.{moment_of, place_with, place_in, Emptying}
use Rattle.unbounded_proof_each_act.proofs.Step.{counted}

-- ---- moments and places, one element more

module _ (st : Story) where
  module _ (e : Event) where
    moment_act : (j : ℕ) → moment_of j (st ++ Does e ∷ []) ≡ moment_with j (known st) (moment_of j st) (Does e)
    moment_act j = followed_end actor change_of (moment_with j) (fresh 0) (At 0) st (Does e)

    pub moment_own : moment_of e.worker (st ++ Does e ∷ []) ≡ timed (timing_of e) (known st) (moment_of e.worker st)
    moment_own =
        moment_act e.worker
        ∙ ap (λ (b : Bool). cond b (timed (timing_of e) (known st) (moment_of e.worker st)) (heard (change_of e) ((known st).count + 1) (moment_of e.worker st))) (eq-eqb e.worker e.worker refl)

    pub moment_else : (j : ℕ) → j ≢ e.worker → moment_of j (st ++ Does e ∷ []) ≡ heard (change_of e) ((known st).count + 1) (moment_of j st)
    moment_else j ne =
        moment_act j
        ∙ ap (λ (b : Bool). cond b (timed (timing_of e) (known st) (moment_of j st)) (heard (change_of e) ((known st).count + 1) (moment_of j st))) (ne_eqb j e.worker ne)

    place_act : (j : ℕ) → place_in j (st ++ Does e ∷ []) ≡ place_with j (known st) (place_in j st) (Does e)
    place_act j = followed_end actor change_of (place_with j) (fresh 0) (Idle Nothing) st (Does e)

    pub place_own : place_in e.worker (st ++ Does e ∷ []) ≡ e.after
    place_own = place_act e.worker ∙ ap (λ (b : Bool). cond b e.after (place_in e.worker st)) (eq-eqb e.worker e.worker refl)

    pub place_else : (j : ℕ) → j ≢ e.worker → place_in j (st ++ Does e ∷ []) ≡ place_in j st
    place_else j ne = place_act j ∙ ap (λ (b : Bool). cond b e.after (place_in j st)) (ne_eqb j e.worker ne)

  module _ (w : ℕ) (c : Call) where
    pub moment_begun : (j : ℕ) → moment_of j (st ++ Begun w c ∷ []) ≡ moment_of j st
    moment_begun j = followed_end actor change_of (moment_with j) (fresh 0) (At 0) st (Begun w c)

    place_begin : (j : ℕ) → place_in j (st ++ Begun w c ∷ []) ≡ place_with j (known st) (place_in j st) (Begun w c)
    place_begin j = followed_end actor change_of (place_with j) (fresh 0) (Idle Nothing) st (Begun w c)

    pub place_begun : place_in w (st ++ Begun w c ∷ []) ≡ begin_of c
    place_begun = place_begin w ∙ ap (λ (b : Bool). cond b (begin_of c) (place_in w st)) (eq-eqb w w refl)

    pub place_unbegun : (j : ℕ) → j ≢ w → place_in j (st ++ Begun w c ∷ []) ≡ place_in j st
    place_unbegun j ne = place_begin j ∙ ap (λ (b : Bool). cond b (begin_of c) (place_in j st)) (ne_eqb j w ne)

  pub longer : (x : Element) → length (st ++ x ∷ []) ≡ length st + 1
  longer x = length-append st (x ∷ []) ∙ omega arith

  -- a moment that has been stays as it was
  pub past : (x : Element) (n : ℕ) → n ≤ length st → queue_at n (st ++ x ∷ []) ≡ queue_at n st
  past x n h = ap roomy (queue_past actor change_of 0 n st x h)

  pub now_at : (x : Element) → queue_at (length st) (st ++ x ∷ []) ≡ roomy (known st).queue
  now_at x = past x (length st) (omega arith) ∙ ap roomy (queue_now actor change_of 0 st)

  -- after the element
  pub then_at : (x : Element) → queue_at (length st + 1) (st ++ x ∷ []) ≡ roomy (known (st ++ x ∷ [])).queue
  then_at x = ap (λ (n : ℕ). queue_at n (st ++ x ∷ [])) (sym (longer x)) ∙ ap roomy (queue_now actor change_of 0 (st ++ x ∷ []))

-- ---- a call, and one whose answer is decided

abbrev pub Work : Story → ℕ → Call → List ℕ → List ℕ → Type 0
Work = calls.Work actor change_of 0

pub record Decided (st : Story) (w : ℕ) (c : Call) (put took : List ℕ) (r : Reply) : Type 0 where
  pub work : Work st w c put took
  pub moment : ℕ
  pub named : moment_of w st ≡ At moment
  pub begun : ((known st).each w).begun < moment
  pub inside : moment < length st
  pub plain : answer_of (queue_at moment st) c ≡ r

-- its moment stays
pub carried : (st : Story) (x : Element) (w : ℕ) (c : Call) (put took more left : List ℕ) (r : Reply) → Work (st ++ x ∷ []) w c more left
    → ((known (st ++ x ∷ [])).each w).begun ≡ ((known st).each w).begun → ((k : ℕ) → moment_of w st ≡ At k → moment_of w (st ++ x ∷ []) ≡ At k)
    → Decided st w c put took r → Decided (st ++ x ∷ []) w c more left r
carried st x w c put took more left r work begun kept o =
    record {
      work = work;
      moment = o.moment;
      named = kept o.moment o.named;
      begun = omega (arith, begun, o.begun);
      inside = omega (arith, o.inside, longer st x);
      plain = ap (λ (q : Queue). answer_of q c) (past st x o.moment (omega (arith, o.inside))) ∙ o.plain;
    }

-- its moment is just before this act
pub decided_now : (st : Story) (e : Event) (c : Call) (put took : List ℕ) (r : Reply) → timing_of e ≡ Now → Work st e.worker c [] [] → Work (st ++ Does e ∷ []) e.worker c put took
    → answer_of (roomy (known st).queue) c ≡ r → Decided (st ++ Does e ∷ []) e.worker c put took r
decided_now st e c put took r now was work says =
    let at : moment_of e.worker (st ++ Does e ∷ []) ≡ At (length st) =
    moment_own st e ∙ ap (λ (t : Timing). timed t (known st) (moment_of e.worker st)) now ∙ ap At (known_count actor change_of 0 st) in
    let begun : ((known (st ++ Does e ∷ [])).each e.worker).begun ≡ ((known st).each e.worker).begun = ap (λ (z : Doing). z.begun) (each_own actor change_of 0 st e) in
    record {
      work = work;
      moment = length st;
      named = at;
      begun = omega (arith, begun, was.begun);
      inside = omega (arith, longer st (Does e));
      plain = ap (λ (q : Queue). answer_of q c) (now_at st (Does e)) ∙ says;
    }

-- ---- by what the call is at, tail's index being t

-- A call that brings the item x. (No force_push is begun here; it would do what push does.)
pub data Brings : Call → ℕ → Type 0 where
  push : {x : ℕ} → Brings (call.Push x) x
  force : {x : ℕ} → Brings (call.ForcePush x) x

pub brought : (c : Call) (x : ℕ) → Brings c x → items_of (c ∷ []) ≡ x ∷ []
unfolding items_of
brought c x push = refl
brought c x force = refl

-- its item is in; it found the queue closed
pub record EnteredBy (st : Story) (w x : ℕ) : Type 0 where
  pub call : Call
  pub brings : Brings call x
  pub decided : Decided st w call (items_of (call ∷ [])) [] plain.Pushed

pub record ClosedBy (st : Story) (w x : ℕ) : Type 0 where
  pub call : Call
  pub brings : Brings call x
  pub decided : Decided st w call [] [] (plain.Closed x)

pub record TriesBy (st : Story) (w x : ℕ) : Type 0 where
  pub call : Call
  pub brings : Brings call x
  pub work : Work st w call [] []

-- the item v was in front at the moment, and is that of its worker's latest head claim, which is its call's
pub record TakesBy (st : Story) (w : ℕ) : Type 0 where
  pub v : ℕ
  pub decided : Decided st w call.Pop [] (v ∷ []) (plain.Popped v)
  pub number : ℕ
  pub latest : LatestIn (takers_of (acts_in st)) w number
  pub item : ItemIn (acts_in st) number v
  pub claim : CallClaim (acts_in st) w number

-- is_empty's load of head's index, the word h; where a pop was leaving a block, that was the block's end
pub record Loaded (st : Story) (w : ℕ) (h : Index) : Type 0 where
  pub before : Story
  pub load : Event
  pub since : Story
  pub is : st ≡ before ++ Does load ∷ since
  pub own : load.worker ≡ w
  pub loads : load.before ≡ Empty1
  pub begun : ((known st).each w).begun < length before
  pub left : (v : ℕ) → Emptying (place_in v before) → position h % 32 ≡ 31

-- something waits at the moment
pub record SeenSome (st : Story) (w : ℕ) : Type 0 where
  pub moment : ℕ
  pub named : moment_of w st ≡ At moment
  pub begun : ((known st).each w).begun < moment
  pub inside : moment ≤ length st
  pub some : 0 < length (queue_at moment st).items

-- nothing waits yet, and the moment is to come; h is the word of head that was loaded
pub record NoneYet (st : Story) (w : ℕ) (h : Index) : Type 0 where
  pub pending : moment_of w st ≡ AfterNextTail
  pub before : Story
  pub load : Event
  pub since : Story
  pub is : st ≡ before ++ Does load ∷ since
  pub own : load.worker ≡ w
  pub loads : load.before ≡ Empty1
  pub begun : ((known st).each w).begun < length before
  pub nothing : (n : ℕ) → length before ≤ n → n ≤ length st → (queue_at n st).items ≡ []
  pub tails : length (notions.items_of (acts_in st)) ≡ counted (position h)
  pub leaving : position h % 32 ≡ 31 → (v : ℕ) × Emptying (place_in v before)

abbrev pub FreesBy : Story → ℕ → Answer → Type 0
FreesBy st w Nothing = ⊥
FreesBy st w Pushed = (x : ℕ) × EnteredBy st w x
FreesBy st w (Closed x) = ClosedBy st w x
FreesBy st w (Popped v) = ⊥
FreesBy st w Empty = ⊥
FreesBy st w PopClosed = ⊥
FreesBy st w (Len n) = ⊥
FreesBy st w Yes = ⊥
FreesBy st w No = ⊥

abbrev pub Due : Story → Index → ℕ → Task → Type 0
Due st t w (Rests a) = Unit {0}
Due st t w (Starts c) = Work st w c [] []
Due st t w (Tries x) = TriesBy st w x
Due st t w (Given u x) = TriesBy st w x × (marked_of u ≡ true → ClosedBy st w x)
Due st t w (Enters x) = EnteredBy st w x
Due st t w Entered = (x : ℕ) × EnteredBy st w x
Due st t w (Frees a) = FreesBy st w a
Due st t w Takes = TakesBy st w
Due st t w (LoadsHead u) = Work st w call.Len [] [] × (u.0 ≤ t.0)
Due st t w (Counts u h) = Work st w call.Len [] [] × (u.0 ≤ t.0) × (t.0 ≡ u.0 → Decided st w call.Len [] [] (plain.Count (count_of sizes u h)))
Due st t w (LooksAtTail h) =
    Work st w call.IsEmpty [] [] × (position h ≤ position t) × (counted (position h) ≤ length (takers_of (acts_in st))) × Loaded st w h × (SeenSome st w ⊎ NoneYet st w h)

-- ---- another's element: the story goes on, w's part of it stays
module _ (st : Story) (x : Element) (w : ℕ) (t u : Index) (up : t.0 ≤ u.0) (each : (known (st ++ x ∷ [])).each w ≡ (known st).each w)
    (kept : (k : ℕ) → moment_of w st ≡ At k → moment_of w (st ++ x ∷ []) ≡ At k) (latest : (k : ℕ) → LatestIn (takers_of (acts_in st)) w k → LatestIn (takers_of (acts_in (st ++ x ∷ []))) w k)
    (item : (k v : ℕ) → ItemIn (acts_in st) k v → ItemIn (acts_in (st ++ x ∷ [])) k v) (claim : (k : ℕ) → CallClaim (acts_in st) w k → CallClaim (acts_in (st ++ x ∷ [])) w k)
    (taken : length (takers_of (acts_in st)) ≤ length (takers_of (acts_in (st ++ x ∷ []))))
    (none : (h : Index) → Work st w call.IsEmpty [] [] → NoneYet st w h → SeenSome (st ++ x ∷ []) w ⊎ NoneYet (st ++ x ∷ []) w h) where
  abbrev st' : Story
  st' = st ++ x ∷ []

  work_else : (c : Call) (put took : List ℕ) → Work st w c put took → Work st' w c put took
  work_else = calls.work_else actor change_of 0 st x w each

  decided_else : (c : Call) (put took : List ℕ) (r : Reply) → Decided st w c put took r → Decided st' w c put took r
  decided_else c put took r o =
      carried st x w c put took put took r (work_else c put took o.work) (ap (λ (z : Doing). z.begun) each) kept o

  tries_else : (y : ℕ) → TriesBy st w y → TriesBy st' w y
  tries_else y o = record { call = o.call; brings = o.brings; work = work_else _ _ _ o.work }

  entered_else : (y : ℕ) → EnteredBy st w y → EnteredBy st' w y
  entered_else y o = record { call = o.call; brings = o.brings; decided = decided_else _ _ _ _ o.decided }

  closed_else : (y : ℕ) → ClosedBy st w y → ClosedBy st' w y
  closed_else y o = record { call = o.call; brings = o.brings; decided = decided_else _ _ _ _ o.decided }

  frees_else : (a : Answer) → FreesBy st w a → FreesBy st' w a
  frees_else Nothing o = o
  frees_else Pushed o = (o.0, entered_else o.0 o.1)
  frees_else (Closed y) o = closed_else y o
  frees_else (Popped v) o = o
  frees_else Empty o = o
  frees_else PopClosed o = o
  frees_else (Len n) o = o
  frees_else Yes o = o
  frees_else No o = o

  some_else : SeenSome st w → SeenSome st' w
  some_else o =
      record {
        moment = o.moment;
        named = kept o.moment o.named;
        begun = omega (arith, ap (λ (z : Doing). z.begun) each, o.begun);
        inside = omega (arith, o.inside, longer st x);
        some = subst (λ (q : Queue). 0 < length q.items) (sym (past st x o.moment o.inside)) o.some;
      }

  looks_else : (h : Index) → Work st w call.IsEmpty [] [] → SeenSome st w ⊎ NoneYet st w h → SeenSome st' w ⊎ NoneYet st' w h
  looks_else h work (inl o) = inl (some_else o)
  looks_else h work (inr o) = none h work o

  loaded_else : (h : Index) → Loaded st w h → Loaded st' w h
  loaded_else h o =
      record {
        before = o.before;
        load = o.load;
        since = o.since ++ x ∷ [];
        is = ap (λ (s : Story). s ++ x ∷ []) o.is ∙ append_assoc o.before (Does o.load ∷ o.since) (x ∷ []);
        own = o.own;
        loads = o.loads;
        begun = omega (arith, ap (λ (z : Doing). z.begun) each, o.begun);
        left = o.left;
      }

  pub due_else : (k : Task) → Due st t w k → Due st' u w k
  due_else (Rests a) o = tt
  due_else (Starts c) o = work_else c [] [] o
  due_else (Tries y) o = tries_else y o
  due_else (Given i y) o = (tries_else y o.0, λ m. closed_else y (o.1 m))
  due_else (Enters y) o = entered_else y o
  due_else Entered o = (o.0, entered_else o.0 o.1)
  due_else (Frees a) o = frees_else a o
  due_else Takes o =
      record {
        v = o.v;
        decided = decided_else _ _ _ _ o.decided;
        number = o.number;
        latest = latest o.number o.latest;
        item = item o.number o.v o.item;
        claim = claim o.number o.claim;
      }
  due_else (LoadsHead i) o = (work_else _ _ _ o.0, omega (arith, o.1))
  due_else (Counts i h) o = (work_else _ _ _ o.0, omega (arith, o.1), λ e. decided_else _ _ _ _ (o.2 (omega (arith, o.1))))
  due_else (LooksAtTail h) o = (work_else _ _ _ o.0, omega (arith, o.1), omega (arith, o.2), loaded_else h o.3, looks_else h o.0 o.4)
