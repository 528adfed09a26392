-- The plain queue beside the words, and what an act makes of its worker's call: the laws that every row of the table goes by.
use Prim.Native.Nat.{ℕ, zero, suc, ◌+◌, ◌-◌, ◌%◌, ◌≤◌, ◌<◌}
use native.Mathlib.Omega.{arith}
use native.Mathlib.Decide.{dec_lt}
use mathlib.Core.Path.{◌≡◌, refl, sym, ap, ◌∙◌, subst}
use mathlib.Core.Logic.{◌⊎◌, inl}
use mathlib.Core.Bool.{Bool, true, false, cond, true≢false}
use mathlib.Core.List.{List, [], ◌∷◌, ◌++◌, append-nil, append_assoc}
use lib.Dec.{eqb}
use lib.ListN.{length, get_or, drop}
use borrow.Author.Tests.{ne_eqb}
use Rattle.queue_entries.specs.declared.Call.{Call}
use Rattle.queue_entries.specs.declared.Call.TheVariants as call
use Rattle.queue_schedules.proofs.Splits.{cons_first, no_cons}
use Rattle.queue_plain.specs.Plain.{Reply, Queue, answer_of}
use Rattle.queue_plain.specs.Plain as plain
use Rattle.queue_plain.specs.Story.{Does, Doing, acts_in, items_of}
use Rattle.queue_plain.proofs.Stories.{acts_end, each_own, queue_act}
use Rattle.queue_plain.proofs.Calls.{work_still, back_came}
use Rattle.queue_plain.proofs.Answers.{none_of, push_closed, push_room, force_closed, force_room}
use Rattle.unbounded_words.specs.declared.Index.{Index}
use Rattle.unbounded_words.specs.declared.Pointer.{Pointer}
use Rattle.unbounded_words.specs.Words.{sizes, wide, marked_of, count_of}
use Rattle.unbounded_places.specs.declared.Ends.{Ends}
use Rattle.unbounded_places.specs.declared.Answer.{Answer}
use Rattle.unbounded_places.specs.declared.Answer.TheVariants.{Nothing, Pushed, Closed, Popped, Empty, PopClosed, Len, Yes, No}
use Rattle.unbounded_places.specs.declared.Place.{Place}
use Rattle.unbounded_places.specs.declared.Place.TheVariants.{Idle, V12, V14, V15, Empty2}
use Rattle.unbounded_places.specs.Places.{view_of}
use Rattle.unbounded_machine.specs.declared.Event.{Event}
use Rattle.unbounded_machine.specs.History.{event}
use Rattle.unbounded_demands.specs.Notions.{Pushing, Sign, Plain, Exchange7, Exchange4, Pops, Pushes, HandsOut, answered, sign_of, item_in, item_by, takes}
use Rattle.unbounded_demands.specs.Notions.{takers_of, LatestIn, ItemIn, waiting, position, Truth}
use Rattle.unbounded_demands.specs.Notions as notions
use Rattle.unbounded_demands.specs.Claims.{Unanswered, CallClaim}
use Rattle.unbounded_demands.specs.Stories.{Story, Enters, task_of, is_close, closes, change_of, actor, known, roomy, queue_at, reply_of, Timing, Now, Stays}
use Rattle.unbounded_demands.specs.Stories.{timing_to, timing_of, timed, moment_of, place_in, Emptying, Filling}
use Rattle.unbounded_demands.specs.Demands.{Answered, AtBlocksEnd, YesAtBlocksEnd, Meant}
use Rattle.unbounded_proof_each_act.proofs.Step.{counted}
use Rattle.unbounded_proof_demand2.proofs.Logged.{items_more, takers_more}
use Rattle.unbounded_proof_plain.proofs.Work.{moment_own, longer, past, Work, Decided, carried, decided_now, Brings, push, force, TakesBy, Due}

-- ---- lists

pub drop_long : (n : ℕ) (l : List ℕ) → length (drop n l) ≡ length l - n
drop_long zero l = omega arith
drop_long (suc n) [] = omega arith
drop_long (suc n) (x ∷ l) = drop_long n l ∙ omega arith

-- a worker's latest claim is one
pub latest_one : (by : List ℕ) (w j k : ℕ) → LatestIn by w j → LatestIn by w k → j ≡ k
latest_one by w j k a b = go (dec_lt j k) (dec_lt k j)
  where
    go : Dec (j < k) → Dec (k < j) → j ≡ k
    go (yes l) z = absurd (a.last k l b.made b.its)
    go (no l) (yes z) = absurd (b.last j z a.made a.its)
    go (no l) (no z) = omega arith

pub unanswered_more : (w : ℕ) (h : List Event) (e : Event) → Unanswered w h → (e.worker ≡ w → (a : Answer) → e.after ≡ Idle a → ⊥) → Unanswered w (h ++ e ∷ [])
unanswered_more w [] e o n = (n, tt)
unanswered_more w (x ∷ h) e o n = (o.0, unanswered_more w h e o.1 n)

-- a claim of the call that w is in, one act more that answers nothing for w
pub claim_more : (h : List Event) (e : Event) (w k : ℕ) → (e.worker ≡ w → (a : Answer) → e.after ≡ Idle a → ⊥) → CallClaim h w k → CallClaim (h ++ e ∷ []) w k
claim_more h e w k n o =
    record {
      earlier = o.earlier;
      act = o.act;
      later = o.later ++ e ∷ [];
      is = ap (λ (l : List Event). l ++ e ∷ []) o.is ∙ append_assoc o.earlier (o.act ∷ o.later) (e ∷ []);
      by = o.by;
      claims = o.claims;
      number = o.number;
      same_call = unanswered_more w o.later e o.same_call n;
    }

pub not_idle : (q : Place) → (view_of sizes q).busy ≡ true → (a : Answer) → q ≡ Idle a → ⊥
not_idle q h a e = true≢false (sym h ∙ ap (λ (z : Place). (view_of sizes z).busy) e)

-- an act puts one item or none
item_none : (b : Sign) → eqb (length (item_in b)) 1 ≡ false → item_in b ≡ []
item_none Plain z = refl
item_none Exchange7 z = refl
item_none Exchange4 z = refl
item_none Pops z = refl
item_none (Pushes x) z = absurd (true≢false z)
item_none (HandsOut v) z = refl

pub unput : (a b : Sign) → eqb (length (item_by a b)) 1 ≡ false → item_by a b ≡ []
unput Plain b z = refl
unput Exchange7 b z = item_none b z
unput Exchange4 b z = refl
unput Pops b z = refl
unput (Pushes x) b z = refl
unput (HandsOut v) b z = refl

-- an answer puts none
unput_said : (a : Answer) → item_in (answered a) ≡ []
unput_said Nothing = refl
unput_said Pushed = refl
unput_said (Closed x) = refl
unput_said (Popped v) = refl
unput_said Empty = refl
unput_said PopClosed = refl
unput_said (Len n) = refl
unput_said Yes = refl
unput_said No = refl

pub unput_idle : (b : Sign) (a : Answer) → item_by b (answered a) ≡ []
unput_idle Plain a = refl
unput_idle Exchange7 a = unput_said a
unput_idle Exchange4 a = refl
unput_idle Pops a = refl
unput_idle (Pushes x) a = refl
unput_idle (HandsOut v) a = refl

-- ---- what the plain queue without capacity answers a push
room : (q : Queue) → eqb (length q.items) (length q.items + 1) ≡ false
room q = ne_eqb (length q.items) (length q.items + 1) (λ e. omega arith)

pub brings_closed : (q : Queue) (c : Call) (x : ℕ) → Brings c x → q.closed ≡ true → answer_of (roomy q) c ≡ plain.Closed x
brings_closed q c x push e = push_closed (roomy q) x e
brings_closed q c x force e = force_closed (roomy q) x e

pub brings_open : (q : Queue) (c : Call) (x : ℕ) → Brings c x → q.closed ≡ false → answer_of (roomy q) c ≡ plain.Pushed
brings_open q c x push e = push_room (roomy q) x e (room q)
brings_open q c x force e = force_room (roomy q) x e (room q)

pub brings_none : (c : Call) (x : ℕ) → Brings c x → is_close c ≡ false
brings_none c x push = refl
brings_none c x force = refl

pub never_full : (q : Queue) → answer_of (roomy q) call.IsFull ≡ plain.No
never_full q = ap plain.yes_if (room q)

-- the places from which a value is handed out
pub data Handing : Place → Type 0 where
  hands12 : {h : Index} {b : Pointer} {v : ℕ} → Handing (V12 h b v)
  hands14 : {b : Pointer} {i v : ℕ} → Handing (V14 b i v)
  hands15 : {b : Pointer} {v : ℕ} → Handing (V15 b v)

-- ---- the plain queue beside the words
pub record Scene (st : Story) (e : Ends) : Type 0 where
  pub flag : (known st).queue.closed ≡ marked_of e.tail
  pub items : (known st).queue.items ≡ waiting (acts_in st)
  pub tails : length (notions.items_of (acts_in st)) ≡ counted (position e.tail)
  pub heads : length (takers_of (acts_in st)) ≡ counted (position e.head)
  pub low : position e.head ≤ position e.tail
  pub count : count_of sizes e.tail e.head ≡ counted (position e.tail) - counted (position e.head)
  pub small : e.tail.0 + 2 < wide
  -- head's index at a block's end
  pub gap : position e.head % 32 ≡ 31 → (v : ℕ) × Emptying (place_in v st)
  pub leaves : (v : ℕ) → Emptying (place_in v st) → position e.head % 32 ≡ 31
  -- and tail's
  pub fills : position e.tail % 32 ≡ 31 → (u : ℕ) × Filling (place_in u st)

-- An answer is the plain queue's, or is_empty's no at a block's end; and means what it says.
abbrev pub Speaks : Story → Event → Answer → Type 0
Speaks st act a = (Answered st act a ⊎ AtBlocksEnd st act a) × Meant st act a

module _ (st : Story) (e : Ends) (sc : Scene st e) (w : ℕ) where
  abbrev pub act : Place → Place → Event
  act p q = event w p q

  abbrev pub now : Place → Place → Story
  now p q = st ++ Does (act p q) ∷ []

  abbrev pub q₀ : Queue
  q₀ = (known st).queue

  abbrev h : List Event
  h = acts_in st

  -- what is known of an act before its row is looked at
  pub record Hints (p q : Place) : Type 0 where
    pub true_then : (a : Answer) → q ≡ Idle a → Truth e a
    pub front : takes (act p q) ≡ true → 0 < length q₀.items
    pub out : (v : ℕ) → sign_of q ≡ HandsOut v → (k : ℕ) × LatestIn (takers_of h) w k × ItemIn h k v

  -- an item that came in, with the word of its claim
  pub record Came (q : Place) (x : ℕ) : Type 0 where
    pub its : items_of ((known st).each w).calls ≡ x ∷ []
    pub while_open : q₀.closed ≡ false
    pub task : task_of q ≡ Enters x
    pub word : Index
    pub pushing : Pushing q word
    pub at_tail : word ≡ e.tail

  -- a value is handed out of a claim of its call; a close says yes of an open queue
  pub record More (p q : Place) : Type 0 where
    pub gave : (v : ℕ) → q ≡ Idle (Popped v) → TakesBy st w × Handing p
    pub saw : (i : Index) → p ≡ Empty2 i → q ≡ Idle Yes → YesAtBlocksEnd st w
    pub was_open : closes (task_of p) ≡ true → q ≡ Idle Yes → q₀.closed ≡ false

  pub no_more : (p q : Place) → (view_of sizes q).busy ≡ true → More p q
  no_more p q busy = record { gave = λ v z. absurd (not_idle q busy (Popped v) z); saw = λ i y z. absurd (not_idle q busy Yes z); was_open = λ b z. absurd (not_idle q busy Yes z) }

  -- what the act leads to, or answers; tail's index is then t
  pub record Outcome (p q : Place) (t : Index) : Type 0 where
    pub due : Due (now p q) t w (task_of q)
    pub said : (a : Answer) → q ≡ Idle a → Speaks st (act p q) a
    -- an item that comes in is its call's, and the queue is open then
    pub came : (x : ℕ) → notions.item_of (act p q) ≡ x ∷ [] → Came q x
    pub more : More p q
    pub marks : marked_of t ≡ cond (closes (task_of p)) true (marked_of e.tail)
    pub up : e.tail.0 ≤ t.0

  pub none_came : (p q : Place) → notions.item_of (act p q) ≡ [] → (x : ℕ) → notions.item_of (act p q) ≡ x ∷ [] → Came q x
  none_came p q none x z = absurd (no_cons (sym none ∙ z))

  pub how_many : length q₀.items ≡ counted (position e.tail) - counted (position e.head)
  how_many =
      ap length sc.items ∙ drop_long (length (takers_of h)) (notions.items_of h) ∙ ap (λ (n : ℕ). n - length (takers_of h)) sc.tails
      ∙ ap (λ (n : ℕ). counted (position e.tail) - n) sc.heads

  pub empty_there : counted (position e.tail) ≡ counted (position e.head) → q₀.items ≡ []
  empty_there z = none_of q₀.items (omega (arith, how_many))

  -- ---- an act that claims nothing
  module _ (p q : Place) (no_put : (change_of (act p q)).puts ≡ false) (no_take : (change_of (act p q)).takes ≡ false) where
    pub still : (c : Call) (put took : List ℕ) → Work st w c put took → Work (now p q) w c put took
    still = work_still actor change_of 0 st (act p q) no_put no_take

    pub times : timing_of (act p q) ≡ timing_to (task_of p) (task_of q)
    times = rw (no_put, no_take)

    pub stays : timing_to (task_of p) (task_of q) ≡ Stays → moment_of w (now p q) ≡ moment_of w st
    stays at = moment_own st (act p q) ∙ ap (λ (t : Timing). timed t (known st) (moment_of w st)) (times ∙ at)

    pub begun_same : ((known (now p q)).each w).begun ≡ ((known st).each w).begun
    begun_same = ap (λ (z : Doing). z.begun) (each_own actor change_of 0 st (act p q))

    pub kept : timing_to (task_of p) (task_of q) ≡ Stays → (c : Call) (put took : List ℕ) (r : Reply) → Decided st w c put took r → Decided (now p q) w c put took r
    kept at c put took r o =
        carried st (Does (act p q)) w c put took put took r (still c put took o.work) begun_same (λ k z. stays at ∙ z) o

    pub here : timing_to (task_of p) (task_of q) ≡ Now → (c : Call) (r : Reply) → Work st w c [] [] → answer_of (roomy q₀) c ≡ r → Decided (now p q) w c [] [] r
    here at c r o says = decided_now st (act p q) c [] [] r (times ∙ at) o (still c [] [] o) says

    pub same_items : notions.items_of (acts_in (now p q)) ≡ notions.items_of h
    same_items =
        ap notions.items_of (acts_end st (Does (act p q))) ∙ items_more h (act p q) ∙ ap (λ (l : List ℕ). notions.items_of h ++ l) (unput (sign_of p) (sign_of q) no_put) ∙ append-nil (notions.items_of h)

    pub same_takers : takers_of (acts_in (now p q)) ≡ takers_of h
    same_takers = ap takers_of (acts_end st (Does (act p q))) ∙ takers_more h (act p q) ∙ ap (λ (t : Bool). takers_of h ++ cond t (w ∷ []) []) no_take ∙ append-nil (takers_of h)

    pub same_waits : (known (now p q)).queue.items ≡ q₀.items
    same_waits = ap (λ (z : Queue). z.items) (queue_act actor change_of 0 st (act p q)) ∙ rw (no_put, no_take) (append-nil q₀.items)

    -- a pop goes on with its claim
    pub takes_on : timing_to (task_of p) (task_of q) ≡ Stays → (view_of sizes q).busy ≡ true → TakesBy st w → TakesBy (now p q) w
    takes_on at busy o =
        record {
          v = o.v;
          decided = kept at _ _ _ _ o.decided;
          number = o.number;
          latest = subst (λ (l : List ℕ). LatestIn l w o.number) (sym same_takers) o.latest;
          item =
              record {
                made = subst (λ (l : List ℕ). o.number < length l) (sym same_items) o.item.made;
                is = ap (λ (l : List ℕ). get_or l o.number 0) same_items ∙ o.item.is;
              };
          claim = subst (λ (l : List Event). CallClaim l w o.number) (sym (acts_end st (Does (act p q)))) (claim_more h (act p q) w o.number (λ by a z. not_idle q busy a z) o.claim);
        }

    -- it leaves tail's index
    pub to : (view_of sizes q).busy ≡ true → closes (task_of p) ≡ false → Due (now p q) e.tail w (task_of q) → Outcome p q e.tail
    to busy open_still o =
        record { due = o; said = λ a z. absurd (not_idle q busy a z); came = none_came p q (unput (sign_of p) (sign_of q) no_put); more = no_more p q busy; marks = rw open_still refl; up = omega arith }

  -- ---- an act that answers
  pub meant : (p q : Place) (c : Call) (a : Answer) (r : Reply) → reply_of a ≡ r ∷ [] → is_close c ≡ closes (task_of p) → ((y : ℕ) → plain.given_back r ≡ y ∷ [] → items_of (c ∷ []) ≡ y ∷ [])
      → Work (now p q) w c (plain.put_by (items_of (c ∷ [])) r) (plain.taken_by r) → Meant st (act p q) a
  meant p q c a r says shut given o =
      let its : ((known st).each w).calls ≡ c ∷ [] = sym (ap (λ (z : Doing). z.calls) (each_own actor change_of 0 st (act p q))) ∙ o.its in
      record {
        put =
            o.puts ∙ ap (λ (y : List Call). plain.put_by (items_of y) r) (sym its)
            ∙ ap (plain.meaning_of (plain.put_by (items_of ((known st).each w).calls))) (sym says);
        took = o.takes ∙ ap (plain.meaning_of plain.taken_by) (sym says);
        back = λ y z. ap items_of its ∙ given y (sym (ap (plain.meaning_of plain.given_back) says) ∙ z);
        closed =
            λ z. ap (λ (q : Queue). q.closed) (queue_act actor change_of 0 st (act p q))
            ∙ ap (λ (b : Bool). cond b true (known st).queue.closed) (sym shut ∙ sym (ap is_close (sym (cons_first (sym its ∙ z)))));
      }

  speak : (p : Place) (a : Answer) (r : Reply) → reply_of a ≡ r ∷ [] → (c : Call) → is_close c ≡ closes (task_of p)
      → Decided (now p (Idle a)) w c (plain.put_by (items_of (c ∷ [])) r) (plain.taken_by r) r → Speaks st (act p (Idle a)) a
  speak p a r says c shut o =
      let d = act p (Idle a) in
      let each = each_own actor change_of 0 st d in
      let inside : o.moment ≤ length st = omega (arith, o.inside, longer st (Does d)) in (
        inl (record {
          call = c;
          its = sym (ap (λ (z : Doing). z.calls) each) ∙ o.work.its;
          moment = o.moment;
          named = o.named;
          begun = omega (arith, ap (λ (z : Doing). z.begun) each, o.begun);
          inside = inside;
          plain = ap (λ (y : Reply). y ∷ []) (ap (λ (q : Queue). answer_of q c) (sym (past st (Does d) o.moment inside)) ∙ o.plain) ∙ sym says;
        }),
        meant p (Idle a) c a r says shut (λ y z. back_came (queue_at o.moment (now p (Idle a))) c y (ap plain.given_back o.plain ∙ z)) o.work,
      )

  pub speaks : (p : Place) (a : Answer) (r : Reply) (t : Index) → reply_of a ≡ r ∷ [] → marked_of t ≡ cond (closes (task_of p)) true (marked_of e.tail) → e.tail.0 ≤ t.0 → (c : Call)
      → is_close c ≡ closes (task_of p) → More p (Idle a) → Decided (now p (Idle a)) w c (plain.put_by (items_of (c ∷ [])) r) (plain.taken_by r) r → Outcome p (Idle a) t
  speaks p a r t says marks up c shut more o =
      record {
        due = tt;
        said = λ x is. let one : a ≡ x = cc in subst (Speaks st (act p (Idle a))) one (speak p a r says c shut o);
        came = none_came p (Idle a) (unput_idle (sign_of p) a);
        more = more;
        marks = marks;
        up = up;
      }
