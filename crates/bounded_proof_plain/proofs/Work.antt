-- What a worker's call has behind it at each place: its item, what it put in and took out, and the moment of the answer that it may give. Others' acts and begins leave it so.
use mathlib.Core.Path.{◌≡◌, sym, ap, ◌∙◌}
use mathlib.Core.Logic.{◌≢◌, ◌⊎◌, inl, inr}
use mathlib.Core.Bool.{Bool, false}
use mathlib.Core.List.{List, [], ◌∷◌, ◌++◌}
use Prim.Native.Nat.{ℕ, ◌+◌, ◌≤◌, ◌<◌}
use native.Mathlib.Omega.{arith}
use lib.ListN.{length, length-append}
use Rattle.queue_entries.specs.declared.Call.{Call}
use Rattle.queue_entries.specs.declared.Call.TheVariants as call
use Rattle.queue_plain.specs.Plain.{Queue}
use Rattle.queue_plain.specs.Story.{Doing}
use Rattle.queue_plain.proofs.Stories.{queue_past}
use Rattle.queue_plain.proofs.Calls as calls
use Rattle.bounded_words.specs.declared.Stamp.{Stamp}
use Rattle.bounded_words.specs.Words.{mark_of}
use Rattle.bounded_places.specs.declared.Kind.{Kind}
use Rattle.bounded_places.specs.declared.Kind.TheVariants.{Push, Force}
use Rattle.bounded_places.specs.declared.Place.{Place}
use Rattle.bounded_places.specs.declared.Place.TheVariants.{Idle, P1, P2, P3, P4, P5, P6, F6, F7, F8, F9, O1, O2, O3, O4, O5, O6, Len1, Len2, Len3, Empty1, Empty2, Full1, Full2, Close1, IsClosed1}
use Rattle.bounded_demands.specs.Stories.{Element, Story, known, queue_at, change_of, actor, At, AfterNextTail, AfterNextHead, moment_of}
use Rattle.bounded_proof_invariant.proofs.Ring.{Shared, Latest, Inv}
use Rattle.bounded_proof_invariant.proofs.Effects.{Course}
use Rattle.bounded_proof_each_act.proofs.Stamps.{W, tail_word}
use Rattle.bounded_proof_each_act.proofs.Sight.{Age}
use Rattle.bounded_proof_plain.proofs.Shelf.{Point, point_on, item_course, latest_course}

-- Where a call is, as far as the plain queue goes.
pub data Task : Type 0 where
  Rest : Task
  -- no word yet that its answer may go by; len with a word of tail
  Starts : Call → Task
  LoadsHead : Stamp → Task
  -- a push or force_push with a word of tail
  Given : Call → Stamp → Task
  -- its item is in, to be written; written
  Enters : ℕ → Task
  Entered : Task
  -- a force_push that has taken the front out, has put its item in, has written it
  Grabs Forces : ℕ → Task
  Forced : Task
  -- a pop that has taken the front out
  Takes : Task
  -- the lookers before their last load
  Counts : Stamp → Stamp → Task
  LooksAtTail LooksAtHead : Stamp → Task

abbrev pub pushing : Kind → ℕ → Call
pushing Push x = call.Push x
pushing Force x = call.ForcePush x

abbrev pub task : Place → Task
task (Idle a) = Rest
task (P1 k x) = Starts (pushing k x)
task (P2 k t x) = Given (pushing k x) t
task (P3 k t x) = Given (pushing k x) t
task (P4 t x) = Enters x
task (P5 t) = Entered
task (P6 t x) = Given (call.Push x) t
task (F6 t x) = Given (call.ForcePush x) t
task (F7 t x) = Grabs x
task (F8 t x) = Forces x
task (F9 t old) = Forced
task O1 = Starts call.Pop
task (O2 h) = Starts call.Pop
task (O3 h) = Starts call.Pop
task (O4 h) = Takes
task (O5 h v) = Takes
task (O6 h) = Starts call.Pop
task Len1 = Starts call.Len
task (Len2 t) = LoadsHead t
task (Len3 t h) = Counts t h
task Empty1 = Starts call.IsEmpty
task (Empty2 h) = LooksAtTail h
task Full1 = Starts call.IsFull
task (Full2 t) = LooksAtHead t
task Close1 = Starts call.Close
task IsClosed1 = Starts call.IsClosed

module _ (c n ed : ℕ) where
  abbrev pub Work : Story → ℕ → Call → List ℕ → List ℕ → Type 0
  Work = calls.Work actor (change_of ed) c

  -- its moment, with the claims made by then
  pub record Set (st : Story) (s : Shared) (w tails heads : ℕ) : Type 0 where
    pub moment : ℕ
    pub named : moment_of c ed w st ≡ At moment
    pub begun : ((known c ed st).each w).begun < moment
    pub inside : moment ≤ length st
    pub point : Point c s (queue_at c ed moment st) tails heads

  abbrev pub then : {st : Story} {s : Shared} {w tails heads : ℕ} → Set st s w tails heads → Queue
  then {st} o = queue_at c ed o.moment st

  pub record GivenBy (st : Story) (s : Shared) (age : Age) (w : ℕ) (cl : Call) (t : Stamp) : Type 0 where
    pub work : Work st w cl [] []
    pub set : Set st s w age.tail age.head
    pub while_open : (then set).closed ≡ false
    pub word : t ≡ W c (mark_of c) n age.tail

  pub record EnteredBy (st : Story) (s : Shared) (w : ℕ) (k : Kind) (x : ℕ) : Type 0 where
    pub work : Work st w (pushing k x) (x ∷ []) []
    pub tails : ℕ
    pub heads : ℕ
    pub set : Set st s w tails heads
    pub while_open : (then set).closed ≡ false
    pub room : length (then set).items < c

  -- the item v was in front at the moment, and is that of its worker's latest head claim
  pub record Front (st : Story) (s : Shared) (w v : ℕ) : Type 0 where
    pub tails : ℕ
    pub heads : ℕ
    pub set : Set st s w tails heads
    pub others : List ℕ
    pub items : (then set).items ≡ v ∷ others
    pub is : v ≡ s.item heads
    pub latest : Latest s.taker s.head w heads

  pub record SwapsBy (st : Story) (s : Shared) (w x : ℕ) (put : List ℕ) : Type 0 where
    pub v : ℕ
    pub work : Work st w (call.ForcePush x) put (v ∷ [])
    pub front : Front st s w v
    pub while_open : (then front.set).closed ≡ false
    pub full : length (then front.set).items ≡ c

  pub record TakesBy (st : Story) (s : Shared) (w : ℕ) : Type 0 where
    pub v : ℕ
    pub work : Work st w call.Pop [] (v ∷ [])
    pub front : Front st s w v

  pub record CountsBy (st : Story) (s : Shared) (age : Age) (w : ℕ) (t h : Stamp) : Type 0 where
    pub work : Work st w call.Len [] []
    pub marked : Bool
    pub tail : t ≡ tail_word c (mark_of c) n age.tail marked
    pub tails : ℕ
    pub heads : ℕ
    pub set : Set st s w tails heads
    pub head : h ≡ W c (mark_of c) n heads
    pub since : age.tail ≤ tails

  -- something waits at the moment; or nothing waits yet, and the moment is to come
  pub record SeenSome (st : Story) (s : Shared) (w : ℕ) : Type 0 where
    pub tails : ℕ
    pub heads : ℕ
    pub set : Set st s w tails heads
    pub some : 0 < length (then set).items

  pub record NoneYet (st : Story) (s : Shared) (age : Age) (w : ℕ) : Type 0 where
    pub pending : moment_of c ed w st ≡ AfterNextTail
    pub tail : s.tail ≡ age.head
    pub head : s.head ≡ age.head

  pub record SeenRoom (st : Story) (s : Shared) (w : ℕ) : Type 0 where
    pub tails : ℕ
    pub heads : ℕ
    pub set : Set st s w tails heads
    pub room : length (then set).items < c

  pub record FullYet (st : Story) (s : Shared) (age : Age) (w : ℕ) : Type 0 where
    pub pending : moment_of c ed w st ≡ AfterNextHead
    pub tail : s.tail ≡ age.tail
    pub head : s.head + c ≡ age.tail

  abbrev pub Due : Story → Shared → Age → ℕ → Task → Type 0
  Due st s age w Rest = Unit {0}
  Due st s age w (Starts cl) = Work st w cl [] []
  Due st s age w (LoadsHead t) = Work st w call.Len [] [] × (b : Bool) × (t ≡ tail_word c (mark_of c) n age.tail b)
  Due st s age w (Given cl t) = GivenBy st s age w cl t
  Due st s age w (Enters x) = (k : Kind) × EnteredBy st s w k x
  Due st s age w Entered = (k : Kind) × (x : ℕ) × EnteredBy st s w k x
  Due st s age w (Grabs x) = SwapsBy st s w x []
  Due st s age w (Forces x) = SwapsBy st s w x (x ∷ [])
  Due st s age w Forced = (x : ℕ) × SwapsBy st s w x (x ∷ [])
  Due st s age w Takes = TakesBy st s w
  Due st s age w (Counts t h) = CountsBy st s age w t h
  Due st s age w (LooksAtTail h) =
      Work st w call.IsEmpty [] [] × (h ≡ W c (mark_of c) n age.head) × (SeenSome st s w ⊎ NoneYet st s age w)
  Due st s age w (LooksAtHead t) =
      Work st w call.IsFull [] [] × (b : Bool) × (t ≡ tail_word c (mark_of c) n age.tail b) × (SeenRoom st s w ⊎ FullYet st s age w)

  -- ---- another's element: the story goes on, w's part of it stays
  module _ (st : Story) (x : Element) (s u : Shared) (v i w : ℕ) (run : Course c s u v i) (inv : Inv c s) (far : w ≢ v)
      (each : (known c ed (st ++ x ∷ [])).each w ≡ (known c ed st).each w) (kept : (k : ℕ) → moment_of c ed w st ≡ At k → moment_of c ed w (st ++ x ∷ []) ≡ At k) where
    abbrev st' : Story
    st' = st ++ x ∷ []

    longer : length (st ++ x ∷ []) ≡ length st + 1
    longer = length-append st (x ∷ []) ∙ omega arith

    work_else : (cl : Call) (put took : List ℕ) → Work st w cl put took → Work st' w cl put took
    work_else = calls.work_else actor (change_of ed) c st x w each

    past : (k : ℕ) → k ≤ length st → queue_at c ed k st' ≡ queue_at c ed k st
    past k l = queue_past actor (change_of ed) c k st x l

    set_else : (tails heads : ℕ) → Set st s w tails heads → Set st' u w tails heads
    set_else tails heads o =
        record {
          moment = o.moment;
          named = kept o.moment o.named;
          begun = omega (arith, ap (λ (z : Doing). z.begun) each, o.begun);
          inside = omega (arith, o.inside, longer);
          point = rw (past o.moment o.inside) (point_on c s u v i (queue_at c ed o.moment st) tails heads run o.point);
        }

    -- what was so of the queue at the moment
    then_else : {tails heads : ℕ} (o : Set st s w tails heads) (P : Queue → Type 0) → P (then o) → P (then (set_else tails heads o))
    unfolding set_else
    then_else o P p = rw (past o.moment o.inside) p

    front_else : (a : ℕ) (o : Front st s w a) → Front st' u w a
    front_else a o =
        let p = o.set.point in
        let some : 0 < length (then o.set).items = rw o.items (omega arith) in
        record {
          tails = o.tails;
          heads = o.heads;
          set = set_else o.tails o.heads o.set;
          others = o.others;
          items = then_else o.set (λ (q : Queue). q.items ≡ a ∷ o.others) o.items;
          is = o.is ∙ sym (item_course c s u v i run o.heads (omega (arith, p.long, p.tails_up)));
          latest = latest_course c s u v i run inv w o.heads far o.latest;
        }

    front_set : (a : ℕ) (o : Front st s w a) (P : Queue → Type 0) → P (then o.set) → P (then (front_else a o).set)
    unfolding front_else
    front_set a o P p = then_else o.set P p

    swaps_else : (a : ℕ) (put : List ℕ) → SwapsBy st s w a put → SwapsBy st' u w a put
    swaps_else a put o =
        record {
          v = o.v;
          work = work_else _ _ _ o.work;
          front = front_else o.v o.front;
          while_open = front_set o.v o.front (λ (q : Queue). q.closed ≡ false) o.while_open;
          full = front_set o.v o.front (λ (q : Queue). length q.items ≡ c) o.full;
        }

    entered_else : (k : Kind) (a : ℕ) → EnteredBy st s w k a → EnteredBy st' u w k a
    entered_else k a o =
        record {
          work = work_else _ _ _ o.work;
          tails = o.tails;
          heads = o.heads;
          set = set_else _ _ o.set;
          while_open = then_else o.set (λ (q : Queue). q.closed ≡ false) o.while_open;
          room = then_else o.set (λ (q : Queue). length q.items < c) o.room;
        }

    -- the lookers, as far as it is open whether their moment has come
    module _ (age : Age) (some : Work st w call.IsEmpty [] [] → NoneYet st s age w → SeenSome st' u w ⊎ NoneYet st' u age w)
        (room : Work st w call.IsFull [] [] → FullYet st s age w → SeenRoom st' u w ⊎ FullYet st' u age w) where
      pub due_else : (t : Task) → Due st s age w t → Due st' u age w t
      due_else Rest o = tt
      due_else (Starts cl) o = work_else cl [] [] o
      due_else (LoadsHead t) o = (work_else _ _ _ o.0, o.1, o.2)
      due_else (Given cl t) o =
          record {
            work = work_else cl [] [] o.work;
            set = set_else _ _ o.set;
            while_open = then_else o.set (λ (q : Queue). q.closed ≡ false) o.while_open;
            word = o.word;
          }
      due_else (Enters a) o = (o.0, entered_else o.0 a o.1)
      due_else Entered o = (o.0, o.1, entered_else o.0 o.1 o.2)
      due_else (Grabs a) o = swaps_else a [] o
      due_else (Forces a) o = swaps_else a (a ∷ []) o
      due_else Forced o = (o.0, swaps_else o.0 (o.0 ∷ []) o.1)
      due_else Takes o = record { v = o.v; work = work_else _ _ _ o.work; front = front_else o.v o.front }
      due_else (Counts t h) o =
          record {
            work = work_else _ _ _ o.work;
            marked = o.marked;
            tail = o.tail;
            tails = o.tails;
            heads = o.heads;
            set = set_else _ _ o.set;
            head = o.head;
            since = o.since;
          }
      due_else (LooksAtTail h) o = (work_else _ _ _ o.0, o.1, either o.2)
        where
          either : SeenSome st s w ⊎ NoneYet st s age w → SeenSome st' u w ⊎ NoneYet st' u age w
          either (inl p) =
              inl (record { tails = p.tails; heads = p.heads; set = set_else _ _ p.set; some = then_else p.set (λ (q : Queue). 0 < length q.items) p.some })
          either (inr p) = some o.0 p
      due_else (LooksAtHead t) o = (work_else _ _ _ o.0, o.1, o.2, either o.3)
        where
          either : SeenRoom st s w ⊎ FullYet st s age w → SeenRoom st' u w ⊎ FullYet st' u age w
          either (inl p) =
              inl (record { tails = p.tails; heads = p.heads; set = set_else _ _ p.set; room = then_else p.set (λ (q : Queue). length q.items < c) p.room })
          either (inr p) = room o.0 p
