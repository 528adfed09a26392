-- Each act of document 01's tables, from what its worker's call has behind it to what it then has, or to its answer.
use mathlib.Core.Path.{◌≡◌, refl, sym, ap, ◌∙◌, subst}
use mathlib.Core.Logic.{◌≢◌, ◌⊎◌, inl, inr}
use mathlib.Core.Bool.{Bool, true, false, cond, true≢false}
use mathlib.Core.List.{List, [], ◌∷◌, ◌++◌}
use Prim.Native.Nat.{ℕ, ◌+◌, ◌*◌, ◌-◌, ◌≤◌, ◌<◌}
use native.Mathlib.Omega.{arith}
use native.Mathlib.Decide.{dec_lt}
use lib.Dec.{eqb}
use lib.ListN.{length, get_or, take, drop, length-append}
use borrow.Author.Tests.{eqb-true, eqb-false, eq-eqb, ne_eqb}
use Rattle.queue_entries.specs.declared.Call.{Call}
use Rattle.queue_entries.specs.declared.Call.TheVariants as call
use Rattle.queue_plain.specs.Plain.{Queue, Reply, answer_of, full_of}
use Rattle.queue_plain.specs.Plain as plain
use Rattle.queue_plain.specs.Story.{Does, Doing, doing_with, items_of}
use Rattle.queue_plain.proofs.Stories.{queue_past, queue_now, known_count}
use Rattle.queue_plain.proofs.Calls as calls
use Rattle.queue_plain.proofs.Answers.{none_of, push_closed, push_room, push_full, force_closed, force_room, force_full, pop_front, pop_none}
use Rattle.bounded_words.specs.declared.Stamp.{Stamp}
use Rattle.bounded_words.specs.declared.Fixed.{Fixed}
use Rattle.bounded_words.specs.declared.Width.{Width}
use Rattle.bounded_words.specs.Words.{mark_of, marked_of, unmarked_of, minus, with_mark, next_of, same, one_past, lap_behind, lap_behind_one_past}
use Rattle.bounded_places.specs.declared.Slot.{Slot}
use Rattle.bounded_places.specs.declared.Ends.{Ends}
use Rattle.bounded_places.specs.declared.Kind.{Kind}
use Rattle.bounded_places.specs.declared.Kind.TheVariants.{Push, Force}
use Rattle.bounded_places.specs.declared.Answer.{Answer}
use Rattle.bounded_places.specs.declared.Answer.TheVariants.{Pushed, Full, Closed, Displaced, Popped, Empty, PopClosed, Len, Yes, No}
use Rattle.bounded_places.specs.declared.Exchange.{Exchange}
use Rattle.bounded_places.specs.declared.Loss.{Loss}
use Rattle.bounded_places.specs.declared.Loss.TheVariants as loss
use Rattle.bounded_places.specs.declared.Place.{Place}
use Rattle.bounded_places.specs.declared.Place.TheVariants.{Idle, P1, P2, P3, P4, P5, P6, F6, F7, F8, F9, O1, O2, O3, O4, O5, O6, Len1, Len2, Len3, Empty1, Empty2, Full1, Full2, Close1, IsClosed1}
use Rattle.bounded_places.specs.declared.Moved.TheVariants.{Neither, Tail}
use Rattle.bounded_places.specs.Places.{view_of}
use Rattle.bounded_acts.specs.declared.Acted.{Acted}
use Rattle.bounded_acts.specs.Acts.{goes, losing, after_tail, end_p3, end_f6, end_o3, tail_to, head_to, value_to, full_at, forced_tail, count_of, yes_no, act_of}
use Rattle.bounded_machine.specs.declared.Event.{Event}
use Rattle.bounded_machine.specs.History.{event, moved_of}
use Rattle.bounded_machine.proofs.Kept.{either, exchanged}
use Rattle.bounded_causes.specs.Causes.{claims_tail, claims_head}
use Rattle.bounded_demands.specs.Notions.{item_in, head_by, holding_at}
use Rattle.bounded_moments.specs.declared.Timing.TheVariants.{Now, Stays}
use Rattle.bounded_moments.specs.Moments.{timing_of}
use Rattle.bounded_demands.specs.Stories.{Story, known, queue_at, change_of, actor, reply_of, put_by, taken_by, given_back, At, moment_of}
use Rattle.bounded_demands.specs.Demands.{Answered, Meant, Changes}
use Rattle.bounded_proof_invariant.proofs.Width.{Near, turn_long, word_one}
use Rattle.bounded_proof_invariant.proofs.Ring.{Shared, Latest, Inv}
use Rattle.bounded_proof_each_act.proofs.Stamps
use Rattle.bounded_proof_each_act.proofs.Stamps.{Ground, fixed, W, tail_word}
use Rattle.bounded_proof_each_act.proofs.Sight.{Age, aged, look, ends_of_ring, Stands, Young, Recent}
use Rattle.bounded_proof_demand2.proofs.Counts.{count_is}
use Rattle.bounded_proof_plain.proofs.Shelf.{each_own, moment_own, queue_act, Shelved, Moves, point_now, point_on, item_course, latest_new, latest_kept}
use Rattle.bounded_proof_plain.proofs.Work.{task, pushing, Work, Set, then, GivenBy, EnteredBy, Front, SwapsBy, TakesBy, CountsBy, SeenSome, NoneYet, SeenRoom, FullYet, Due}

-- ---- small laws

unless : (b t : Bool) → cond b false t ≡ true → (b ≡ false) × (t ≡ true)
unless true t h = absurd (true≢false (sym h))
unless false t h = (refl, h)

never : (b : Bool) → cond b false false ≡ false
never true = refl
never false = refl

pub front_of : (l : List ℕ) → 0 < length l → l ≡ get_or l 0 0 ∷ drop 1 l
front_of [] h = absurd (omega arith)
front_of (x ∷ l) h = refl

pub first_of : (l : List ℕ) → 0 < length l → take 1 l ≡ get_or l 0 0 ∷ []
first_of [] h = absurd (omega arith)
first_of (x ∷ l) h = refl

latest_same : (who : ℕ → ℕ) (count w j k : ℕ) → Latest who count w j → Latest who count w k → j ≡ k
latest_same who count w j k a b = go (dec_lt j k) (dec_lt k j)
  where
    go : Dec (j < k) → Dec (k < j) → j ≡ k
    go (yes p) d = absurd (a.2 k p b.0 b.1)
    go (no p) (yes q) = absurd (b.2 j q a.0 a.1)
    go (no p) (no q) = omega arith

-- the item of a push or force_push
pub pushed_item : (k : Kind) (x : ℕ) → items_of (pushing k x ∷ []) ≡ x ∷ []
unfolding items_of
pushed_item Push x = refl
pushed_item Force x = refl

no_item : items_of (call.Pop ∷ []) ≡ []
unfolding items_of
no_item = refl

-- the answer to a push or force_push, closed, and open with room
closed_to : (k : Kind) (x : ℕ) (q : Queue) → q.closed ≡ true → answer_of q (pushing k x) ≡ plain.Closed x
closed_to Push x q e = push_closed q x e
closed_to Force x q e = force_closed q x e

pub room_for : (k : Kind) (x : ℕ) (q : Queue) → q.closed ≡ false → full_of q ≡ false → answer_of q (pushing k x) ≡ plain.Pushed
room_for Push x q e f = push_room q x e f
room_for Force x q e f = force_room q x e f

pub full_to : (x : ℕ) (q : Queue) → q.closed ≡ false → full_of q ≡ true → answer_of q (call.Push x) ≡ plain.Full x
full_to x q = push_full q x

pub displaced_to : (x v : ℕ) (others : List ℕ) (q : Queue) → q.closed ≡ false → full_of q ≡ true → q.items ≡ v ∷ others → answer_of q (call.ForcePush x) ≡ plain.Displaced v
displaced_to x v others q = force_full q x v others

pub popped_to : (v : ℕ) (others : List ℕ) (q : Queue) → q.items ≡ v ∷ others → answer_of q call.Pop ≡ plain.Popped v
popped_to v others q = pop_front q v others

not_close : (k : Kind) (x : ℕ) → pushing k x ≡ call.Close → ⊥
not_close Push x e = let z : ◌≡◌ {A = ℕ} 0 1 = cc in omega arith
not_close Force x e = let z : ◌≡◌ {A = ℕ} 0 1 = cc in omega arith

not_idle : (q : Place) → (view_of q).busy ≡ true → (x : Answer) → q ≡ Idle x → ⊥
not_idle q h x e = true≢false (sym h ∙ ap (λ (z : Place). (view_of z).busy) e)

module _ (bits : Width) (c n ed : ℕ) (g : Ground bits c (mark_of c) n) (st : Story) (s : Shared) (inv : Inv c s) (b : Bool)
    (shelf : Shelved c s b (known c ed st).queue) (w i : ℕ) (age : Age) (l : Loss) where
  abbrev mark : ℕ
  mark = mark_of c

  abbrev f : Fixed
  f = fixed c mark ed

  abbrev E : Ends
  E = ends_of_ring c mark n s b

  abbrev Word : ℕ → Stamp
  Word k = W c mark n k

  turn : 3 * c ≤ n * c
  turn = turn_long c mark n g.laws

  abbrev act : Place → Place → Event
  act p q = event w p q l

  abbrev now : Place → Place → Story
  now p q = st ++ Does (act p q) ∷ []

  -- what becomes of the flag
  abbrev flagged : Place → Place → Bool
  flagged p q = cond (change_of ed (act p q)).closes true (cond (change_of ed (act p q)).opens false b)

  abbrev Ended : Place → Answer → Type 0
  Ended p a = Answered c ed st (act p (Idle a)) a × Meant c ed st (act p (Idle a)) a

  pub record Outcome (u : Shared) (p : Place) (a : Acted) : Type 0 where
    pub due : Due c n ed (now p a.place) u (aged s age (holding_at a.place)) w (task a.place)
    pub said : (x : Answer) → a.place ≡ Idle x → Ended p x
    pub flag : marked_of f a.ends.tail ≡ flagged p a.place
    pub carries : (x : ℕ) → item_in a.place ≡ x ∷ [] → items_of ((known c ed st).each w).calls ≡ x ∷ []
    pub changes : Changes ed (known c ed st).queue (act p a.place)

  abbrev pub Row : Place → Acted → Type 0
  Row p a = (u : Shared) → Moves c s u w i a.place → Outcome u p a

  -- an act that makes no claim and sets no mark
  record Still (p q : Place) : Type 0 where
    neither : moved_of q ≡ Neither
    no_item : item_in q ≡ []
    closes : (change_of ed (act p q)).closes ≡ false
    opens : cond (claims_head (moved_of p)) (claims_tail (moved_of q)) false ≡ false

  abbrev quietly : {p q : Place} → moved_of q ≡ Neither → item_in q ≡ [] → (change_of ed (act p q)).closes ≡ false → cond (claims_head (moved_of p)) (claims_tail (moved_of q)) false ≡ false → Still p q
  quietly a b d e = record { neither = a; no_item = b; closes = d; opens = e }

  marked_now : marked_of f E.tail ≡ b
  marked_now = Stamps.marked_tail bits c mark n g ed s.tail b

  still_flag : (p q : Place) → Still p q → b ≡ flagged p q
  still_flag p q o =
      let shut : (change_of ed (act p q)).opens ≡ false = ap (λ (z : Bool). cond (eqb ed 2) false z) o.opens ∙ never (eqb ed 2) in
      sym (ap (λ (z : Bool). cond z true (cond (change_of ed (act p q)).opens false b)) o.closes ∙ ap (λ (z : Bool). cond z false b) shut)

  still_changes : (p q : Place) → Still p q → Changes ed (known c ed st).queue (act p q)
  still_changes p q o =
      record {
        takes = λ e. absurd (true≢false (sym e ∙ ap claims_head o.neither));
        puts = λ e. absurd (true≢false (sym e ∙ ap claims_tail o.neither));
        while_open = λ e m. absurd (true≢false (sym e ∙ ap claims_tail o.neither));
        full = λ t x e. absurd (true≢false (ap (λ (z : Place). claims_head (moved_of z)) (sym e) ∙ ap claims_head o.neither));
        closes = λ e. absurd (true≢false (sym e ∙ o.closes));
      }

  no_carry : (p q : Place) → Still p q → (x : ℕ) → item_in q ≡ x ∷ [] → items_of ((known c ed st).each w).calls ≡ x ∷ []
  no_carry p q o x e = absurd (let z : ◌≡◌ {A = ℕ} 0 1 = ap length (sym o.no_item ∙ e) in omega arith)

  -- ---- the worker's own part, one act on
  module _ (p q : Place) where
    own : (known c ed (now p q)).each w ≡ doing_with (change_of ed (act p q)) (known c ed st).queue ((known c ed st).each w)
    own = each_own c ed st (act p q)

    longer : length (now p q) ≡ length st + 1
    longer = length-append st (Does (act p q) ∷ []) ∙ omega arith

    work_on : (cl : Call) (put took : List ℕ) → Work c n ed st w cl put took
        → Work c n ed (now p q) w cl (put ++ cond (claims_tail (moved_of q)) (items_of (cl ∷ [])) []) (took ++ cond (claims_head (moved_of q)) (take 1 (known c ed st).queue.items) [])
    work_on = calls.work_on actor (change_of ed) c st (act p q)

    work_still : moved_of q ≡ Neither → (cl : Call) (put took : List ℕ) → Work c n ed st w cl put took → Work c n ed (now p q) w cl put took
    work_still e = calls.work_still actor (change_of ed) c st (act p q) (ap claims_tail e) (ap claims_head e)

    past : (k : ℕ) → k ≤ length st → queue_at c ed k (now p q) ≡ queue_at c ed k st
    past k h = queue_past actor (change_of ed) c k st (Does (act p q)) h

    begun_same : ((known c ed (now p q)).each w).begun ≡ ((known c ed st).each w).begun
    begun_same = ap (λ (z : Doing). z.begun) own

    module _ (u : Shared) (mv : Moves c s u w i q) where
      set_kept : timing_of p q ≡ Stays → (tails heads : ℕ) → Set c n ed st s w tails heads → Set c n ed (now p q) u w tails heads
      set_kept e tails heads o =
          record {
            moment = o.moment;
            named = moment_own c ed st (act p q) ∙ rw e o.named;
            begun = omega (arith, begun_same, o.begun);
            inside = omega (arith, o.inside, longer);
            point = rw (past o.moment o.inside) (point_on c s u w i (queue_at c ed o.moment st) tails heads mv.course o.point);
          }

      then_kept : (e : timing_of p q ≡ Stays) {tails heads : ℕ} (o : Set c n ed st s w tails heads) (P : Queue → Type 0) → P (then c n ed o) → P (then c n ed (set_kept e tails heads o))
      unfolding set_kept
      then_kept e o P r = rw (past o.moment o.inside) r

      at_now : queue_at c ed (length st) (now p q) ≡ (known c ed st).queue
      at_now = past (length st) (omega arith) ∙ queue_now actor (change_of ed) c st

      set_at : moment_of c ed w (now p q) ≡ At (known c ed st).count → ((known c ed st).each w).begun < length st → Set c n ed (now p q) u w s.tail s.head
      set_at e o =
          record {
            moment = length st;
            named = e ∙ ap At (known_count actor (change_of ed) c st);
            begun = omega (arith, begun_same);
            inside = omega (arith, longer);
            point = rw at_now (point_on c s u w i (known c ed st).queue s.tail s.head mv.course (point_now c s b (known c ed st).queue inv shelf));
          }

      then_at : (e : moment_of c ed w (now p q) ≡ At (known c ed st).count) (o : ((known c ed st).each w).begun < length st) (P : Queue → Type 0)
          → P (known c ed st).queue → P (then c n ed (set_at e o))
      unfolding set_at
      then_at e o P r = rw at_now r

  timed_now : (p q : Place) → timing_of p q ≡ Now → moment_of c ed w (now p q) ≡ At (known c ed st).count
  timed_now p q e = moment_own c ed st (act p q) ∙ rw e

  -- ---- answers

  -- what the call means by it
  record Speaks (p : Place) (cl : Call) (put took : List ℕ) (a : Answer) : Type 0 where
    still : moved_of (Idle a) ≡ Neither
    puts : put ≡ put_by a (items_of (cl ∷ []))
    takes : took ≡ taken_by a
    back : (x : ℕ) → given_back a ≡ x ∷ [] → items_of (cl ∷ []) ≡ x ∷ []
    shut : cl ≡ call.Close → flagged p (Idle a) ≡ true

  meant : (p : Place) (cl : Call) (put took : List ℕ) (a : Answer) → Work c n ed st w cl put took → Speaks p cl put took a → Meant c ed st (act p (Idle a)) a
  meant p cl put took a o e =
      let r = work_still p (Idle a) refl cl put took o in
      record {
        put = r.puts ∙ e.puts ∙ ap (λ (z : List Call). put_by a (items_of z)) (sym o.its);
        took = r.takes ∙ e.takes;
        back = λ x h. ap items_of o.its ∙ e.back x h;
        closed =
            λ h. ap (λ (z : Queue). z.closed) (queue_act c ed st (act p (Idle a)))
            ∙ ap (λ (z : Bool). cond (change_of ed (act p (Idle a))).closes true (cond (change_of ed (act p (Idle a))).opens false z)) shelf.flag
            ∙ e.shut (let z : cl ∷ [] ≡ call.Close ∷ [] = sym o.its ∙ h in cc);
      }

  -- at the moment that it had; and now
  ended_then : (p : Place) (cl : Call) (put took : List ℕ) (a : Answer) → timing_of p (Idle a) ≡ Stays → Work c n ed st w cl put took → Speaks p cl put took a
      → {tails heads : ℕ} (o : Set c n ed st s w tails heads)
      → answer_of (then c n ed o) cl ∷ [] ≡ reply_of a → Ended p a
  ended_then p cl put took a e work speaks o says = (
    record {
      call = cl;
      its = work.its;
      moment = o.moment;
      named = moment_own c ed st (act p (Idle a)) ∙ rw e o.named;
      begun = o.begun;
      inside = o.inside;
      plain = says;
    },
    meant p cl put took a work speaks,
  )

  ended_now : (p : Place) (cl : Call) (put took : List ℕ) (a : Answer) → timing_of p (Idle a) ≡ Now → Work c n ed st w cl put took → Speaks p cl put took a
      → answer_of (known c ed st).queue cl ∷ [] ≡ reply_of a → Ended p a
  ended_now p cl put took a e work speaks says = (
    record {
      call = cl;
      its = work.its;
      moment = length st;
      named = timed_now p (Idle a) e ∙ ap At (known_count actor (change_of ed) c st);
      begun = work.begun;
      inside = omega arith;
      plain = rw (queue_now actor (change_of ed) c st) says;
    },
    meant p cl put took a work speaks,
  )

  -- ---- rows

  -- an act that leads on, and one that answers; neither changes the ends
  goes_on : (z : Slot) (k : Loss) (p q : Place) → Still p q → ((x : Answer) → q ≡ Idle x → ⊥)
      → ((u : Shared) → Moves c s u w i q → Due c n ed (now p q) u (aged s age (holding_at q)) w (task q)) → Row p (losing E z q k)
  unfolding losing
  goes_on z k p q o busy due u mv =
      record {
        due = due u mv;
        said = λ x e. absurd (busy x e);
        flag = marked_now ∙ still_flag p q o;
        carries = no_carry p q o;
        changes = still_changes p q o;
      }

  leads : (z : Slot) (p q : Place) → Still p q → ((x : Answer) → q ≡ Idle x → ⊥)
      → ((u : Shared) → Moves c s u w i q → Due c n ed (now p q) u (aged s age (holding_at q)) w (task q)) → Row p (goes E z q)
  unfolding goes losing
  leads z = goes_on z loss.Nothing

  answers : (z : Slot) (k : Loss) (p : Place) (a : Answer) → Still p (Idle a) → Ended p a → Row p (losing E z (Idle a) k)
  unfolding losing
  answers z k p a o ended u mv =
      record {
        due = tt;
        said = λ x e. let y : a ≡ x = cc in subst (Ended p) y ended;
        flag = marked_now ∙ still_flag p (Idle a) o;
        carries = no_carry p (Idle a) o;
        changes = still_changes p (Idle a) o;
      }

  ends : (z : Slot) (p : Place) (a : Answer) → Still p (Idle a) → Ended p a → Row p (goes E z (Idle a))
  unfolding goes losing
  ends z = answers z loss.Nothing

  -- ---- push and force_push

  open_flag : (p q : Place) → (change_of ed (act p q)).closes ≡ false → cond (claims_head (moved_of p)) (claims_tail (moved_of q)) false ≡ false → flagged p q ≡ b
  open_flag p q closes opens =
      let shut : (change_of ed (act p q)).opens ≡ false = ap (λ (z : Bool). cond (eqb ed 2) false z) opens ∙ never (eqb ed 2) in
      ap (λ (z : Bool). cond z true (cond (change_of ed (act p q)).opens false b)) closes ∙ ap (λ (z : Bool). cond z false b) shut

  given_kept : (p q : Place) → moved_of q ≡ Neither → timing_of p q ≡ Stays → (cl : Call) (t : Stamp) → GivenBy c n ed st s age w cl t → (u : Shared)
      → Moves c s u w i q → GivenBy c n ed (now p q) u age w cl t
  given_kept p q quiet stays cl t o u mv =
      record {
        work = work_still p q quiet cl [] [] o.work;
        set = set_kept p q u mv stays _ _ o.set;
        while_open = then_kept p q u mv stays o.set (λ (z : Queue). z.closed ≡ false) o.while_open;
        word = o.word;
      }

  given_now : (p q : Place) → moved_of q ≡ Neither → timing_of p q ≡ Now → (cl : Call) (t : Stamp) → Work c n ed st w cl [] [] → b ≡ false → t ≡ Word s.tail → (u : Shared) → Moves c s u w i q
      → GivenBy c n ed (now p q) u (record { tail = s.tail; head = s.head }) w cl t
  given_now p q quiet gives cl t o clear word u mv =
      record {
        work = work_still p q quiet cl [] [] o;
        set = set_at p q u mv (timed_now p q gives) o.begun;
        while_open = then_at p q u mv (timed_now p q gives) o.begun (λ (z : Queue). z.closed ≡ false) (shelf.flag ∙ clear);
        word = word;
      }

  -- P1, and P3 that lost: tail is loaded, or found
  finds : (z : Slot) (k : Loss) (p : Place) (kd : Kind) (x : ℕ) → Still p (Idle (Closed x)) → ((t : Stamp) → Still p (P2 kd t x)) → Work c n ed st w (pushing kd x) [] []
      → Row p (losing E z (after_tail f kd E.tail x) k)
  unfolding after_tail
  finds z k p kd x shut loads work =
      either (λ (q : Place). Row p (losing E z q k)) (marked_of f E.tail) (Idle (Closed x)) (P2 kd E.tail x)
      (λ h. answers z k p (Closed x) shut
      (ended_now p (pushing kd x) [] [] (Closed x) refl work
      (record { still = refl; puts = refl; takes = refl; back = λ y e. pushed_item kd x ∙ e; shut = λ e. absurd (not_close kd x e) })
      (ap (λ (r : Reply). r ∷ []) (closed_to kd x (known c ed st).queue (shelf.flag ∙ sym marked_now ∙ h)))))
      (λ h. let clear : b ≡ false = sym marked_now ∙ h in
      goes_on z k p (P2 kd E.tail x) (loads E.tail) (not_idle (P2 kd E.tail x) refl)
      (given_now p (P2 kd E.tail x) refl refl (pushing kd x) E.tail work clear (rw clear)))

  p1 : (z : Slot) (kd : Kind) (x : ℕ) → Work c n ed st w (pushing kd x) [] [] → Row (P1 kd x) (goes E z (after_tail f kd E.tail x))
  unfolding goes losing
  p1 z kd x work =
      finds z loss.Nothing (P1 kd x) kd x (quietly refl refl refl refl) (λ t. quietly refl refl refl refl) work

  p2 : (z : Slot) (kd : Kind) (t : Stamp) (x : ℕ) (lose : Bool) → GivenBy c n ed st s age w (pushing kd x) t → Row (P2 kd t x) (act_of bits f E z (P2 kd t x) lose)
  p2 z kd t x lose o =
      either (Row (P2 kd t x)) (same z.stamp t) (goes E z (P3 kd t x)) _
      (λ h. leads z (P2 kd t x) (P3 kd t x) (quietly refl refl refl refl) (not_idle (P3 kd t x) refl) (given_kept (P2 kd t x) (P3 kd t x) refl refl (pushing kd x) t o))
      (λ h. either (Row (P2 kd t x)) (lap_behind_one_past bits f z.stamp t) (goes E z (full_at kd t x)) (goes E z (P1 kd x))
      (λ d. behind kd o)
      (λ d. leads z (P2 kd t x) (P1 kd x) (quietly refl refl refl refl) (not_idle (P1 kd x) refl) (λ u mv. work_still (P2 kd t x) (P1 kd x) refl _ _ _ o.work)))
    where
      behind : (kd : Kind) → GivenBy c n ed st s age w (pushing kd x) t → Row (P2 kd t x) (goes E z (full_at kd t x))
      behind Push o =
          leads z (P2 Push t x) (P6 t x) (quietly refl refl refl refl) (not_idle (P6 t x) refl) (given_kept (P2 Push t x) (P6 t x) refl refl (call.Push x) t o)
      behind Force o =
          leads z (P2 Force t x) (F6 t x) (quietly refl refl refl refl) (not_idle (F6 t x) refl) (given_kept (P2 Force t x) (F6 t x) refl refl (call.ForcePush x) t o)

  -- the tail that an exchange found is the one that its worker was given
  found : (t : Stamp) → t ≡ Word age.tail → age.tail ≤ s.tail → Young c mark n s age → same E.tail t ≡ true → (b ≡ false) × (s.tail ≡ age.tail)
  found t word up young h =
      let r : Near (n * c) s.tail age.tail = omega (arith, turn, young) in
      let q = unless b _ (sym (Stamps.same_tail bits c mark n g s.tail age.tail b r) ∙ ap (same E.tail) (sym word) ∙ h) in
      (q.0, eqb-true _ _ q.1)

  marked_next : (t : Stamp) (k : ℕ) → t ≡ Word k → marked_of f (next_of bits f t) ≡ false
  marked_next t k e = ap (λ (z : Stamp). marked_of f (next_of bits f z)) e ∙ ap (marked_of f) (Stamps.next_is bits c mark n g ed k) ∙ Stamps.marked_tail bits c mark n g ed (k + 1) false

  capacity_is : (known c ed st).queue.capacity ≡ c
  capacity_is = shelf.room

  -- the exchange of tail, won
  won_tail : (z : Slot) (kd : Kind) (t : Stamp) (x : ℕ) → GivenBy c n ed st s age w (pushing kd x) t → b ≡ false → Row (P3 kd t x) (goes (tail_to E (next_of bits f t)) z (P4 t x))
  unfolding goes tail_to
  won_tail z kd t x o clear u mv =
      let few : length (known c ed st).queue.items < c = omega (arith, mv.tails, mv.heads, mv.inv.high, shelf.long) in
      let made = timed_now (P3 kd t x) (P4 t x) refl in
      let r = work_on (P3 kd t x) (P4 t x) (pushing kd x) [] [] o.work in
      record {
        due = (
          kd,
          record {
            work = record { its = r.its; begun = r.begun; puts = r.puts ∙ pushed_item kd x; takes = r.takes };
            tails = s.tail;
            heads = s.head;
            set = set_at (P3 kd t x) (P4 t x) u mv made o.work.begun;
            while_open = then_at (P3 kd t x) (P4 t x) u mv made o.work.begun (λ (q : Queue). q.closed ≡ false) (shelf.flag ∙ clear);
            room = then_at (P3 kd t x) (P4 t x) u mv made o.work.begun (λ (q : Queue). length q.items < c) few;
          },
        );
        said = λ y e. absurd (not_idle (P4 t x) refl y e);
        flag = marked_next t age.tail o.word ∙ sym clear ∙ sym (open_flag (P3 kd t x) (P4 t x) refl refl);
        carries = λ y e. ap items_of o.work.its ∙ pushed_item kd x ∙ e;
        changes =
            record {
              takes = λ e. absurd (true≢false (sym e));
              puts = λ e. omega (arith, few, capacity_is);
              while_open = λ e m. shelf.flag ∙ clear;
              full = λ t₂ x₂ e. absurd (let y : ◌≡◌ {A = ℕ} 0 1 = cc in omega arith);
              closes = λ e. absurd (true≢false (sym e));
            };
      }

  p3 : (z : Slot) (kd : Kind) (t : Stamp) (x : ℕ) (lose : Bool) → GivenBy c n ed st s age w (pushing kd x) t → Young c mark n s age → Row (P3 kd t x) (act_of bits f E z (P3 kd t x) lose)
  p3 z kd t x lose o young =
      exchanged (λ (y : Exchange). Row (P3 kd t x) (end_p3 bits f E z kd t x y)) E.tail t lose
      (λ h d. let q = found t o.word o.set.point.tails_up young h in
      goes_on z loss.BySchedule (P3 kd t x) (P2 kd t x) (quietly refl refl refl refl) (not_idle (P2 kd t x) refl)
      (given_now (P3 kd t x) (P2 kd t x) refl refl (pushing kd x) t o.work q.0 (o.word ∙ ap Word (sym q.1))))
      (λ h d. won_tail z kd t x o (found t o.word o.set.point.tails_up young h).0)
      (λ h. finds z loss.ByWords (P3 kd t x) kd x (quietly refl refl refl refl) (λ t₂. quietly refl refl refl refl) o.work)

  p4 : (z : Slot) (t : Stamp) (x : ℕ) (kd : Kind) → EnteredBy c n ed st s w kd x → Row (P4 t x) (goes E z (P5 t))
  p4 z t x kd o =
      leads z (P4 t x) (P5 t) (quietly refl refl refl refl) (not_idle (P5 t) refl)
      (λ u mv. (
        kd,
        x,
        record {
          work = work_still (P4 t x) (P5 t) refl _ _ _ o.work;
          tails = o.tails;
          heads = o.heads;
          set = set_kept (P4 t x) (P5 t) u mv refl _ _ o.set;
          while_open = then_kept (P4 t x) (P5 t) u mv refl o.set (λ (q : Queue). q.closed ≡ false) o.while_open;
          room = then_kept (P4 t x) (P5 t) u mv refl o.set (λ (q : Queue). length q.items < c) o.room;
        },
      ))

  p5 : (z : Slot) (t : Stamp) (kd : Kind) (x : ℕ) → EnteredBy c n ed st s w kd x → Row (P5 t) (goes E z (Idle Pushed))
  p5 z t kd x o =
      ends z (P5 t) Pushed (quietly refl refl refl refl)
      (ended_then (P5 t) (pushing kd x) (x ∷ []) [] Pushed refl o.work
      (record { still = refl; puts = sym (pushed_item kd x); takes = refl; back = λ y e. absurd (let q : ◌≡◌ {A = ℕ} 0 1 = cc in omega arith); shut = λ e. absurd (not_close kd x e) })
      o.set
      (ap (λ (r : Reply). r ∷ []) (room_for kd x (then c n ed o.set) o.while_open
      (ne_eqb (length (then c n ed o.set).items) (then c n ed o.set).capacity (λ e. omega (arith, o.room, o.set.point.room))))))

  -- P6 finds the ring full at the word that it was given
  pub lap_tests : (cl : Call) (t : Stamp) → GivenBy c n ed st s age w cl t → Young c mark n s age → lap_behind bits f E.head t ≡ true → s.head + c ≡ age.tail
  lap_tests cl t o young h =
      let r : Near (n * c) (s.head + c) age.tail = omega (arith, turn, inv.low, inv.high, young, o.set.point.tails_up) in
      eqb-true _ _ (sym (Stamps.behind_is bits c mark n g ed s.head age.tail r) ∙ ap (lap_behind bits f E.head) (sym o.word) ∙ h)

  p6 : (z : Slot) (t : Stamp) (x : ℕ) (lose : Bool) → GivenBy c n ed st s age w (call.Push x) t → Young c mark n s age → Row (P6 t x) (act_of bits f E z (P6 t x) lose)
  p6 z t x lose o young =
      either (Row (P6 t x)) (lap_behind bits f E.head t) (goes E z (Idle (Full x))) (goes E z (P1 Push x))
      (λ h. ends z (P6 t x) (Full x) (quietly refl refl refl refl)
      (ended_then (P6 t x) (call.Push x) [] [] (Full x) refl o.work
      (record { still = refl; puts = refl; takes = refl; back = λ y e. pushed_item Push x ∙ e; shut = λ e. absurd (not_close Push x e) })
      o.set
      (ap (λ (r : Reply). r ∷ []) (full_to x (then c n ed o.set) o.while_open (eq-eqb _ _ (full_then h ∙ sym o.set.point.room))))))
      (λ h. leads z (P6 t x) (P1 Push x) (quietly refl refl refl refl) (not_idle (P1 Push x) refl) (λ u mv. work_still (P6 t x) (P1 Push x) refl _ _ _ o.work))
    where
      full_then : lap_behind bits f E.head t ≡ true → length (then c n ed o.set).items ≡ c
      full_then h =
          let p = o.set.point in
          let q : s.head + c ≡ age.tail = lap_tests (call.Push x) t o young h in
          omega (arith, p.long, p.most, p.heads_up, p.tails_up, inv.high)

  -- force_push's head claim: the ring is full, and nothing has moved since its word was given
  pub record Grips (t : Stamp) : Type 0 where
    pub k : ℕ
    pub word : t ≡ Word (k + c)
    pub low : k ≤ s.head
    pub high : k + c ≤ s.tail
    pub late : age.tail ≤ k + c

  -- and F6
  pub head_tests : (cl : Call) (t : Stamp) → GivenBy c n ed st s age w cl t → Grips t → Young c mark n s age → same E.head (minus bits t f.lap) ≡ true → s.head + c ≡ age.tail
  head_tests cl t o grip young h =
      let same_words : Word (grip.k + c) ≡ Word age.tail = sym grip.word ∙ o.word in
      let near : Near (n * c) (grip.k + c) age.tail = omega (arith, turn, young, grip.high, grip.late) in
      let one : grip.k + c ≡ age.tail = word_one c mark n g.laws (grip.k + c) age.tail near (ap (λ (z : Stamp). z.0) same_words) in
      let r : Near (n * c) s.head grip.k = omega (arith, turn, inv.low, grip.low, young, grip.late) in
      let q : s.head ≡ grip.k = eqb-true _ _ (sym (Stamps.before_is bits c mark n g s.head grip.k r) ∙ ap (λ (y : Stamp). same E.head (minus bits y f.lap)) (sym grip.word) ∙ h) in
      omega arith

  won_head : (z : Slot) (t : Stamp) (x : ℕ) (h : Stamp) → GivenBy c n ed st s age w (call.ForcePush x) t → s.head + c ≡ age.tail → Row (F6 t x) (goes (head_to E h) z (F7 t x))
  unfolding goes head_to
  won_head z t x h o full u mv =
      let p = o.set.point in
      let even : age.head ≡ s.head = omega (arith, p.long, p.most, p.heads_up, p.tails_up, inv.high) in
      let long : length (known c ed st).queue.items ≡ c = omega (arith, shelf.long, inv.high, p.tails_up) in
      let was : length (then c n ed o.set).items ≡ c = omega (arith, p.long) in
      let some : 0 < length (known c ed st).queue.items = omega (arith, g.laws.some) in
      let some_then : 0 < length (then c n ed o.set).items = omega (arith, g.laws.some) in
      let up : u.head ≡ s.head + 1 = mv.heads in
      let r = work_on (F6 t x) (F7 t x) (call.ForcePush x) [] [] o.work in
      let v = get_or (known c ed st).queue.items 0 0 in
      let v_is : get_or (known c ed st).queue.items 0 0 ≡ s.item (s.head + 0) = shelf.at 0 some in
      let then_is : get_or (then c n ed o.set).items 0 0 ≡ s.item (age.head + 0) = p.at 0 some_then in
      let both : s.item (s.head + 0) ≡ s.item (age.head + 0) = ap (λ (k : ℕ). s.item (k + 0)) (sym even) in
      let zero_on : age.head + 0 ≡ age.head = omega arith in
      let made : age.head < s.tail = omega (arith, shelf.long) in
      record {
        due =
            record {
              v = v;
              work = record { its = r.its; begun = r.begun; puts = r.puts; takes = r.takes ∙ first_of (known c ed st).queue.items some };
              front =
                  record {
                    tails = age.tail;
                    heads = age.head;
                    set = set_kept (F6 t x) (F7 t x) u mv refl _ _ o.set;
                    others = drop 1 (then c n ed o.set).items;
                    items =
                        then_kept (F6 t x) (F7 t x) u mv refl o.set (λ (q : Queue). q.items ≡ v ∷ drop 1 (then c n ed o.set).items)
                        (front_of (then c n ed o.set).items some_then ∙ ap (λ (y : ℕ). y ∷ drop 1 (then c n ed o.set).items) (then_is ∙ sym both ∙ sym v_is));
                    is = v_is ∙ both ∙ ap s.item zero_on ∙ sym (item_course c s u w i mv.course age.head made);
                    latest = rw even (latest_new c s u w i mv.course up);
                  };
              while_open = then_kept (F6 t x) (F7 t x) u mv refl o.set (λ (q : Queue). q.closed ≡ false) o.while_open;
              full = then_kept (F6 t x) (F7 t x) u mv refl o.set (λ (q : Queue). length q.items ≡ c) was;
            };
        said = λ y e. absurd (not_idle (F7 t x) refl y e);
        flag = marked_now ∙ sym (open_flag (F6 t x) (F7 t x) refl refl);
        carries = λ y e. absurd (let q : ◌≡◌ {A = ℕ} 0 1 = cc in omega arith);
        changes =
            record {
              takes = λ e. some;
              puts = λ e. absurd (true≢false (sym e));
              while_open = λ e m. absurd (true≢false (sym e));
              full = λ t₂ x₂ e. long ∙ sym capacity_is;
              closes = λ e. absurd (true≢false (sym e));
            };
      }

  f6 : (z : Slot) (t : Stamp) (x : ℕ) (lose : Bool) → GivenBy c n ed st s age w (call.ForcePush x) t → Grips t → Young c mark n s age → Row (F6 t x) (act_of bits f E z (F6 t x) lose)
  f6 z t x lose o grip young =
      exchanged (λ (y : Exchange). Row (F6 t x) (end_f6 bits f E z t x y)) E.head (minus bits t f.lap) lose
      (λ h d. goes_on z loss.BySchedule (F6 t x) (P1 Force x) (quietly refl refl refl refl) (not_idle (P1 Force x) refl) (λ u mv. work_still (F6 t x) (P1 Force x) refl _ _ _ o.work))
      (λ h d. won_head z t x _ o (head_tests (call.ForcePush x) t o grip young h))
      (λ h. goes_on z loss.ByWords (F6 t x) (P1 Force x) (quietly refl refl refl refl) (not_idle (P1 Force x) refl) (λ u mv. work_still (F6 t x) (P1 Force x) refl _ _ _ o.work))

  -- what stays of a displacing force_push, and of a pop
  front_kept : (p q : Place) → (moved_of q ≡ Tail) ⊎ (moved_of q ≡ Neither) → timing_of p q ≡ Stays → (v : ℕ) (o : Front c n ed st s w v) (u : Shared) → Moves c s u w i q → Front c n ed (now p q) u w v
  front_kept p q no_head stays v o u mv =
      let pt = o.set.point in
      let some : 0 < length (then c n ed o.set).items = rw o.items (omega arith) in
      let even : u.head ≡ s.head = mv.heads ∙ none no_head in
      record {
        tails = o.tails;
        heads = o.heads;
        set = set_kept p q u mv stays _ _ o.set;
        others = o.others;
        items = then_kept p q u mv stays o.set (λ (z : Queue). z.items ≡ v ∷ o.others) o.items;
        is = o.is ∙ sym (item_course c s u w i mv.course o.heads (omega (arith, pt.long, pt.tails_up)));
        latest = latest_kept c s u w i mv.course even o.heads o.latest;
      }
    where
      none : (moved_of q ≡ Tail) ⊎ (moved_of q ≡ Neither) → s.head + length (head_by (moved_of q) 0) ≡ s.head
      none (inl e) = rw e (omega arith)
      none (inr e) = rw e (omega arith)

  front_then : (p q : Place) (no_head : (moved_of q ≡ Tail) ⊎ (moved_of q ≡ Neither)) (stays : timing_of p q ≡ Stays) (v : ℕ) (o : Front c n ed st s w v)
      (u : Shared) (mv : Moves c s u w i q) (P : Queue → Type 0)
      → P (then c n ed o.set) → P (then c n ed (front_kept p q no_head stays v o u mv).set)
  unfolding front_kept
  front_then p q no_head stays v o u mv P r = then_kept p q u mv stays o.set P r

  swaps_kept : (p q : Place) (no_head : (moved_of q ≡ Tail) ⊎ (moved_of q ≡ Neither)) (stays : timing_of p q ≡ Stays) (x : ℕ) (put more : List ℕ)
      (o : SwapsBy c n ed st s w x put) (u : Shared) (mv : Moves c s u w i q)
      → Work c n ed (now p q) w (call.ForcePush x) more (o.v ∷ []) → SwapsBy c n ed (now p q) u w x more
  swaps_kept p q no_head stays x put more o u mv work =
      record {
        v = o.v;
        work = work;
        front = front_kept p q no_head stays o.v o.front u mv;
        while_open = front_then p q no_head stays o.v o.front u mv (λ (z : Queue). z.closed ≡ false) o.while_open;
        full = front_then p q no_head stays o.v o.front u mv (λ (z : Queue). length z.items ≡ c) o.full;
      }

  f7 : (z : Slot) (t : Stamp) (x k : ℕ) → t ≡ Word k → SwapsBy c n ed st s w x [] → Row (F7 t x) (goes (tail_to E (forced_tail bits f E.tail t)) z (F8 t x))
  unfolding goes tail_to
  f7 z t x k word o u mv =
      let r = work_on (F7 t x) (F8 t x) (call.ForcePush x) [] (o.v ∷ []) o.work in
      let few : length (known c ed st).queue.items < c = omega (arith, mv.tails, mv.heads, mv.inv.high, shelf.long) in
      record {
        due =
            swaps_kept (F7 t x) (F8 t x) (inl refl) refl x [] (x ∷ []) o u mv
            (record { its = r.its; begun = r.begun; puts = r.puts ∙ pushed_item Force x; takes = r.takes });
        said = λ y e. absurd (not_idle (F8 t x) refl y e);
        flag =
            ap (λ (y : Stamp). marked_of f (forced_tail bits f E.tail y)) word ∙ ap (marked_of f) (Stamps.forced_is bits c mark n g ed s.tail k b)
            ∙ Stamps.marked_tail bits c mark n g ed (k + 1) (cond (eqb ed 2) b false) ∙ reopened (eqb ed 2);
        carries = λ y e. ap items_of o.work.its ∙ pushed_item Force x ∙ e;
        changes =
            record {
              takes = λ e. absurd (true≢false (sym e));
              puts = λ e. omega (arith, few, capacity_is);
              while_open = λ e m. absurd (let y : ◌≡◌ {A = ℕ} 0 1 = cc in omega arith);
              full = λ t₂ x₂ e. absurd (let y : ◌≡◌ {A = ℕ} 0 1 = cc in omega arith);
              closes = λ e. absurd (true≢false (sym e));
            };
      }
    where
      reopened : (two : Bool) → cond two b false ≡ cond (cond two false true) false b
      reopened true = refl
      reopened false = refl

  f8 : (z : Slot) (t : Stamp) (x old : ℕ) → SwapsBy c n ed st s w x (x ∷ []) → Row (F8 t x) (goes E z (F9 t old))
  f8 z t x old o =
      leads z (F8 t x) (F9 t old) (quietly refl refl refl refl) (not_idle (F9 t old) refl)
      (λ u mv. (x, swaps_kept (F8 t x) (F9 t old) (inr refl) refl x (x ∷ []) (x ∷ []) o u mv (work_still (F8 t x) (F9 t old) refl _ _ _ o.work)))

  f9 : (z : Slot) (t : Stamp) (x old k : ℕ) → Latest s.taker s.head w k → old ≡ s.item k → SwapsBy c n ed st s w x (x ∷ []) → Row (F9 t old) (goes E z (Idle (Displaced old)))
  f9 z t x old k mine is o =
      let fr = o.front in
      let one : fr.heads ≡ k = latest_same s.taker s.head w fr.heads k fr.latest mine in
      let out : o.v ≡ old = fr.is ∙ ap s.item one ∙ sym is in
      let full : full_of (then c n ed fr.set) ≡ true = eq-eqb _ _ (o.full ∙ sym fr.set.point.room) in
      ends z (F9 t old) (Displaced old) (quietly refl refl refl refl)
      (ended_then (F9 t old) (call.ForcePush x) (x ∷ []) (o.v ∷ []) (Displaced old) refl o.work
      (record {
        still = refl;
        puts = sym (pushed_item Force x);
        takes = ap (λ (y : ℕ). y ∷ []) out;
        back = λ y e. absurd (let q : ◌≡◌ {A = ℕ} 0 1 = cc in omega arith);
        shut = λ e. absurd (not_close Force x e);
      })
      fr.set
      (ap (λ (r : Reply). r ∷ []) (displaced_to x o.v fr.others (then c n ed fr.set) o.while_open full fr.items ∙ ap plain.Displaced out)))

  -- ---- pop

  pops : (z : Slot) (p q : Place) → Still p q → ((x : Answer) → q ≡ Idle x → ⊥) → task q ≡ task O1 → Work c n ed st w call.Pop [] [] → Row p (goes E z q)
  pops z p q o busy e work = leads z p q o busy (λ u mv. rw e (work_still p q o.neither _ _ _ work))

  o2 : (z : Slot) (h : Stamp) (lose : Bool) → Work c n ed st w call.Pop [] [] → Row (O2 h) (act_of bits f E z (O2 h) lose)
  o2 z h lose o =
      either (Row (O2 h)) (one_past bits z.stamp h) (goes E z (O3 h)) _
      (λ d. pops z (O2 h) (O3 h) (quietly refl refl refl refl) (not_idle (O3 h) refl) refl o)
      (λ d. either (Row (O2 h)) (same z.stamp h) (goes E z (O6 h)) (goes E z O1)
      (λ y. pops z (O2 h) (O6 h) (quietly refl refl refl refl) (not_idle (O6 h) refl) refl o)
      (λ y. pops z (O2 h) O1 (quietly refl refl refl refl) (not_idle O1 refl) refl o))

  won_take : (z : Slot) (h to : Stamp) → Work c n ed st w call.Pop [] [] → Row (O3 h) (goes (head_to E to) z (O4 h))
  unfolding goes head_to
  won_take z h to o u mv =
      let some : 0 < length (known c ed st).queue.items = omega (arith, mv.heads, mv.tails, mv.inv.low, shelf.long) in
      let made = timed_now (O3 h) (O4 h) refl in
      let r = work_on (O3 h) (O4 h) call.Pop [] [] o in
      let v = get_or (known c ed st).queue.items 0 0 in
      let zero_on : s.head + 0 ≡ s.head = omega arith in
      record {
        due =
            record {
              v = v;
              work = record { its = r.its; begun = r.begun; puts = r.puts; takes = r.takes ∙ first_of (known c ed st).queue.items some };
              front =
                  record {
                    tails = s.tail;
                    heads = s.head;
                    set = set_at (O3 h) (O4 h) u mv made o.begun;
                    others = drop 1 (known c ed st).queue.items;
                    items =
                        then_at (O3 h) (O4 h) u mv made o.begun (λ (q : Queue). q.items ≡ v ∷ drop 1 (known c ed st).queue.items) (front_of (known c ed st).queue.items some);
                    is = shelf.at 0 some ∙ ap s.item zero_on ∙ sym (item_course c s u w i mv.course s.head (omega (arith, shelf.long)));
                    latest = latest_new c s u w i mv.course mv.heads;
                  };
            };
        said = λ y e. absurd (not_idle (O4 h) refl y e);
        flag = marked_now ∙ sym (open_flag (O3 h) (O4 h) refl refl);
        carries = λ y e. absurd (let q : ◌≡◌ {A = ℕ} 0 1 = cc in omega arith);
        changes =
            record {
              takes = λ e. some;
              puts = λ e. absurd (true≢false (sym e));
              while_open = λ e m. absurd (true≢false (sym e));
              full = λ t₂ x₂ e. absurd (let y : ◌≡◌ {A = ℕ} 0 1 = cc in omega arith);
              closes = λ e. absurd (true≢false (sym e));
            };
      }

  o3 : (z : Slot) (h : Stamp) (lose : Bool) → Work c n ed st w call.Pop [] [] → Row (O3 h) (act_of bits f E z (O3 h) lose)
  o3 z h lose o =
      exchanged (λ (y : Exchange). Row (O3 h) (end_o3 bits f E z h y)) E.head h lose
      (λ d e. goes_on z loss.BySchedule (O3 h) (O2 h) (quietly refl refl refl refl) (not_idle (O2 h) refl) (λ u mv. work_still (O3 h) (O2 h) refl _ _ _ o))
      (λ d e. won_take z h _ o)
      (λ d. goes_on z loss.ByWords (O3 h) (O2 E.head) (quietly refl refl refl refl) (not_idle (O2 E.head) refl) (λ u mv. work_still (O3 h) (O2 E.head) refl _ _ _ o))

  o4 : (z : Slot) (h : Stamp) (v : ℕ) → TakesBy c n ed st s w → Row (O4 h) (goes E z (O5 h v))
  o4 z h v o =
      leads z (O4 h) (O5 h v) (quietly refl refl refl refl) (not_idle (O5 h v) refl)
      (λ u mv. record { v = o.v; work = work_still (O4 h) (O5 h v) refl _ _ _ o.work; front = front_kept (O4 h) (O5 h v) (inr refl) refl o.v o.front u mv })

  o5 : (z : Slot) (h : Stamp) (v k : ℕ) → Latest s.taker s.head w k → v ≡ s.item k → TakesBy c n ed st s w → Row (O5 h v) (goes E z (Idle (Popped v)))
  o5 z h v k mine is o =
      let fr = o.front in
      let one : fr.heads ≡ k = latest_same s.taker s.head w fr.heads k fr.latest mine in
      let out : o.v ≡ v = fr.is ∙ ap s.item one ∙ sym is in
      ends z (O5 h v) (Popped v) (quietly refl refl refl refl)
      (ended_then (O5 h v) call.Pop [] (o.v ∷ []) (Popped v) refl o.work
      (record {
        still = refl;
        puts = refl;
        takes = ap (λ (y : ℕ). y ∷ []) out;
        back = λ y e. absurd (let q : ◌≡◌ {A = ℕ} 0 1 = cc in omega arith);
        shut = λ e. absurd (let q : ◌≡◌ {A = ℕ} 0 1 = cc in omega arith);
      })
      fr.set
      (ap (λ (r : Reply). r ∷ []) (popped_to o.v fr.others (then c n ed fr.set) fr.items ∙ ap plain.Popped out)))

  -- nothing waits where tail and head agree
  none_now : s.tail ≡ s.head → (known c ed st).queue.items ≡ []
  none_now e = none_of (known c ed st).queue.items (omega (arith, shelf.long))

  -- O6 finds tail at the word that it was given
  pub tail_tests : (h : Stamp) (k : ℕ) → h ≡ Word k → k ≤ s.head → age.head ≤ k → Young c mark n s age → same (unmarked_of f E.tail) h ≡ true → s.tail ≡ k
  tail_tests h k word low late young d =
      let r : Near (n * c) s.tail k = omega (arith, turn, inv.low, inv.high, young) in
      eqb-true _ _ (sym (Stamps.same_is bits c mark n g s.tail k r)
      ∙ ap (λ (y : Stamp). same y (Word k)) (sym (Stamps.unmarked_tail bits c mark n g ed s.tail b)) ∙ ap (same (unmarked_of f E.tail)) (sym word) ∙ d)

  o6 : (z : Slot) (h : Stamp) (lose : Bool) (k : ℕ) → h ≡ Word k → k ≤ s.head → age.head ≤ k → Young c mark n s age → Work c n ed st w call.Pop [] [] → Row (O6 h) (act_of bits f E z (O6 h) lose)
  o6 z h lose k word low late young o =
      either (Row (O6 h)) (same (unmarked_of f E.tail) h) _ (goes E z O1)
      (λ d. either (Row (O6 h)) (marked_of f E.tail) (goes E z (Idle PopClosed)) (goes E z (Idle Empty))
      (λ y. ends z (O6 h) PopClosed (quietly refl refl refl refl)
      (ended_now (O6 h) call.Pop [] [] PopClosed refl o speaks_closed (ap (λ (r : Reply). r ∷ []) (pop_none (known c ed st).queue (none_now (even d)) ∙ rw (shelf.flag ∙ sym marked_now ∙ y)))))
      (λ y. ends z (O6 h) Empty (quietly refl refl refl refl)
      (ended_now (O6 h) call.Pop [] [] Empty refl o speaks_empty (ap (λ (r : Reply). r ∷ []) (pop_none (known c ed st).queue (none_now (even d)) ∙ rw (shelf.flag ∙ sym marked_now ∙ y))))))
      (λ d. pops z (O6 h) O1 (quietly refl refl refl refl) (not_idle O1 refl) refl o)
    where
      even : same (unmarked_of f E.tail) h ≡ true → s.tail ≡ s.head
      even d = let q : s.tail ≡ k = tail_tests h k word low late young d in omega (arith, inv.low)

      speaks_closed : Speaks (O6 h) call.Pop [] [] PopClosed
      speaks_closed =
          record { still = refl; puts = refl; takes = refl; back = λ y e. absurd (let q : ◌≡◌ {A = ℕ} 0 1 = cc in omega arith); shut = λ e. absurd (let q : ◌≡◌ {A = ℕ} 0 1 = cc in omega arith) }

      speaks_empty : Speaks (O6 h) call.Pop [] [] Empty
      speaks_empty =
          record { still = refl; puts = refl; takes = refl; back = λ y e. absurd (let q : ◌≡◌ {A = ℕ} 0 1 = cc in omega arith); shut = λ e. absurd (let q : ◌≡◌ {A = ℕ} 0 1 = cc in omega arith) }

  -- ---- the lookers, and close

  len1 : (z : Slot) → Work c n ed st w call.Len [] [] → Row Len1 (goes E z (Len2 E.tail))
  len1 z o =
      leads z Len1 (Len2 E.tail) (quietly refl refl refl refl) (not_idle (Len2 E.tail) refl) (λ u mv. (work_still Len1 (Len2 E.tail) refl _ _ _ o, b, refl))

  len2 : (z : Slot) (t : Stamp) (m : Bool) → t ≡ tail_word c mark n age.tail m → age.tail ≤ s.tail → Work c n ed st w call.Len [] [] → Row (Len2 t) (goes E z (Len3 t E.head))
  len2 z t m word up o =
      leads z (Len2 t) (Len3 t E.head) (quietly refl refl refl refl) (not_idle (Len3 t E.head) refl)
      (λ u mv. record {
        work = work_still (Len2 t) (Len3 t E.head) refl _ _ _ o;
        marked = m;
        tail = word;
        tails = s.tail;
        heads = s.head;
        set = set_at (Len2 t) (Len3 t E.head) u mv (timed_now (Len2 t) (Len3 t E.head) refl) o.begun;
        head = refl;
        since = up;
      })

  len3 : (z : Slot) (t h : Stamp) (lose : Bool) → CountsBy c n ed st s age w t h → Young c mark n s age → Row (Len3 t h) (act_of bits f E z (Len3 t h) lose)
  len3 z t h lose o young =
      either (Row (Len3 t h)) (same E.tail t) (goes E z (Idle (Len (count_of f t h)))) (goes E z Len1)
      (λ d. ends z (Len3 t h) (Len (count_of f t h)) (quietly refl refl refl refl)
      (ended_then (Len3 t h) call.Len [] [] (Len (count_of f t h)) refl o.work
      (record { still = refl; puts = refl; takes = refl; back = λ y e. absurd (let q : ◌≡◌ {A = ℕ} 0 1 = cc in omega arith); shut = λ e. absurd (let q : ◌≡◌ {A = ℕ} 0 1 = cc in omega arith) })
      o.set (ap (λ (k : ℕ). plain.Count k ∷ []) (counted d))))
      (λ d. leads z (Len3 t h) Len1 (quietly refl refl refl refl) (not_idle Len1 refl) (λ u mv. work_still (Len3 t h) Len1 refl _ _ _ o.work))
    where
      counted : same E.tail t ≡ true → length (then c n ed o.set).items ≡ count_of f t h
      counted d =
          let p = o.set.point in
          let near : Near (n * c) s.tail age.tail = omega (arith, turn, young, o.since, p.tails_up) in
          let one : s.tail ≡ age.tail = Stamps.tails_one bits c mark n g s.tail age.tail b o.marked near (ap (same E.tail) (sym o.tail) ∙ d) in
          let even : o.tails ≡ age.tail = omega (arith, o.since, p.tails_up) in
          let low : o.heads ≤ age.tail = omega (arith, p.long) in
          let high : age.tail ≤ o.heads + c = omega (arith, p.most) in
          let is : count_of f t h ≡ age.tail - o.heads =
          ap (λ (y : Stamp). count_of f y h) o.tail ∙ ap (count_of f (tail_word c mark n age.tail o.marked)) o.head
          ∙ count_is bits c mark n ed g o.heads age.tail o.marked low high in
          omega (arith, p.long)

  speaks : (p : Place) (cl : Call) (yes : Bool) → ((x : ℕ) → given_back (yes_no yes) ≡ x ∷ [] → ⊥) → (cl ≡ call.Close → flagged p (Idle (yes_no yes)) ≡ true) → Speaks p cl [] [] (yes_no yes)
  speaks p cl true back shut = record { still = refl; puts = refl; takes = refl; back = λ y e. absurd (back y e); shut = shut }
  speaks p cl false back shut = record { still = refl; puts = refl; takes = refl; back = λ y e. absurd (back y e); shut = shut }

  -- an answer yes or no gives nothing back
  gives_none : (yes : Bool) (x : ℕ) → given_back (yes_no yes) ≡ x ∷ [] → ⊥
  gives_none true x e = let q : ◌≡◌ {A = ℕ} 0 1 = cc in omega arith
  gives_none false x e = let q : ◌≡◌ {A = ℕ} 0 1 = cc in omega arith

  empty1 : (z : Slot) → Work c n ed st w call.IsEmpty [] [] → Row Empty1 (goes E z (Empty2 E.head))
  empty1 z o =
      leads z Empty1 (Empty2 E.head) (quietly refl refl refl refl) (not_idle (Empty2 E.head) refl)
      (λ u mv. (work_still Empty1 (Empty2 E.head) refl _ _ _ o, refl, go u mv (eqb (length (known c ed st).queue.items) 0) refl))
    where
      go : (u : Shared) → Moves c s u w i (Empty2 E.head) → (y : Bool) → eqb (length (known c ed st).queue.items) 0 ≡ y
          → SeenSome c n ed (now Empty1 (Empty2 E.head)) u w ⊎ NoneYet c n ed (now Empty1 (Empty2 E.head)) u (record { tail = s.tail; head = s.head }) w
      go u mv true e =
          let none : length (known c ed st).queue.items ≡ 0 = eqb-true _ 0 e in
          inr (record {
            pending = moment_own c ed st (act Empty1 (Empty2 E.head)) ∙ rw e;
            tail = omega (arith, mv.tails, shelf.long, none);
            head = omega (arith, mv.heads);
          })
      go u mv false e =
          let some : length (known c ed st).queue.items ≢ 0 = eqb-false _ 0 e in
          let made : moment_of c ed w (now Empty1 (Empty2 E.head)) ≡ At (known c ed st).count = moment_own c ed st (act Empty1 (Empty2 E.head)) ∙ rw e in
          inl (record {
            tails = s.tail;
            heads = s.head;
            set = set_at Empty1 (Empty2 E.head) u mv made o.begun;
            some = then_at Empty1 (Empty2 E.head) u mv made o.begun (λ (q : Queue). 0 < length q.items) (omega arith);
          })

  empty2 : (z : Slot) (h : Stamp) → h ≡ Word age.head → age.head ≤ s.head → Young c mark n s age → Work c n ed st w call.IsEmpty [] [] → SeenSome c n ed st s w ⊎ NoneYet c n ed st s age w
      → Row (Empty2 h) (goes E z (Idle (yes_no (same (unmarked_of f E.tail) h))))
  empty2 z h word up young o seen = go (same (unmarked_of f E.tail) h) refl seen
    where
      tests : same (unmarked_of f E.tail) h ≡ eqb s.tail age.head
      tests =
          let r : Near (n * c) s.tail age.head = omega (arith, turn, inv.low, inv.high, young) in
          ap (λ (y : Stamp). same y h) (Stamps.unmarked_tail bits c mark n g ed s.tail b) ∙ ap (same (Word s.tail)) word ∙ Stamps.same_is bits c mark n g s.tail age.head r

      go : (y : Bool) → same (unmarked_of f E.tail) h ≡ y → SeenSome c n ed st s w ⊎ NoneYet c n ed st s age w → Row (Empty2 h) (goes E z (Idle (yes_no y)))
      go true e any =
          let q : s.tail ≡ age.head = eqb-true _ _ (sym tests ∙ e) in
          let even : s.tail ≡ s.head = omega (arith, inv.low) in
          let none : length (known c ed st).queue.items ≡ 0 = omega (arith, shelf.long) in
          ends z (Empty2 h) Yes (quietly refl refl refl refl)
          (ended_now (Empty2 h) call.IsEmpty [] [] Yes refl o (speaks (Empty2 h) call.IsEmpty true (gives_none true) (λ q. absurd (let y : ◌≡◌ {A = ℕ} 0 1 = cc in omega arith)))
          (rw (eq-eqb (length (known c ed st).queue.items) 0 none)))
      go false e (inl p) =
          ends z (Empty2 h) No (quietly refl refl refl refl)
          (ended_then (Empty2 h) call.IsEmpty [] [] No refl o (speaks (Empty2 h) call.IsEmpty false (gives_none false) (λ q. absurd (let y : ◌≡◌ {A = ℕ} 0 1 = cc in omega arith))) p.set
          (rw (ne_eqb (length (then c n ed p.set).items) 0 (λ q. omega (arith, p.some)))))
      go false e (inr p) = absurd (true≢false (sym (eq-eqb s.tail age.head p.tail) ∙ sym tests ∙ e))

  full1 : (z : Slot) → Work c n ed st w call.IsFull [] [] → Row Full1 (goes E z (Full2 E.tail))
  full1 z o =
      leads z Full1 (Full2 E.tail) (quietly refl refl refl refl) (not_idle (Full2 E.tail) refl)
      (λ u mv. (work_still Full1 (Full2 E.tail) refl _ _ _ o, b, refl, go u mv (full_of (known c ed st).queue) refl))
    where
      go : (u : Shared) → Moves c s u w i (Full2 E.tail) → (y : Bool) → full_of (known c ed st).queue ≡ y
          → SeenRoom c n ed (now Full1 (Full2 E.tail)) u w ⊎ FullYet c n ed (now Full1 (Full2 E.tail)) u (record { tail = s.tail; head = s.head }) w
      go u mv true e =
          let long : length (known c ed st).queue.items ≡ (known c ed st).queue.capacity = eqb-true _ _ e in
          inr (record {
            pending = moment_own c ed st (act Full1 (Full2 E.tail)) ∙ rw e;
            tail = omega (arith, mv.tails);
            head = omega (arith, mv.heads, shelf.long, capacity_is);
          })
      go u mv false e =
          let short : length (known c ed st).queue.items ≢ (known c ed st).queue.capacity = eqb-false _ _ e in
          let made : moment_of c ed w (now Full1 (Full2 E.tail)) ≡ At (known c ed st).count = moment_own c ed st (act Full1 (Full2 E.tail)) ∙ rw e in
          inl (record {
            tails = s.tail;
            heads = s.head;
            set = set_at Full1 (Full2 E.tail) u mv made o.begun;
            room =
                then_at Full1 (Full2 E.tail) u mv made o.begun (λ (q : Queue). length q.items < c) (omega (arith, shelf.long, capacity_is, inv.high));
          })

  full2 : (z : Slot) (t : Stamp) (m : Bool) → t ≡ tail_word c mark n age.tail m → age.tail ≤ s.tail → Young c mark n s age
      → Work c n ed st w call.IsFull [] [] → SeenRoom c n ed st s w ⊎ FullYet c n ed st s age w
      → Row (Full2 t) (goes E z (Idle (yes_no (lap_behind bits f E.head (unmarked_of f t)))))
  full2 z t m word up young o seen = go (lap_behind bits f E.head (unmarked_of f t)) refl seen
    where
      tests : lap_behind bits f E.head (unmarked_of f t) ≡ eqb (s.head + c) age.tail
      tests =
          let r : Near (n * c) (s.head + c) age.tail = omega (arith, turn, inv.low, inv.high, young) in
          ap (λ (y : Stamp). lap_behind bits f E.head (unmarked_of f y)) word ∙ ap (lap_behind bits f E.head) (Stamps.unmarked_tail bits c mark n g ed age.tail m)
          ∙ Stamps.behind_is bits c mark n g ed s.head age.tail r

      go : (y : Bool) → lap_behind bits f E.head (unmarked_of f t) ≡ y → SeenRoom c n ed st s w ⊎ FullYet c n ed st s age w → Row (Full2 t) (goes E z (Idle (yes_no y)))
      go true e any =
          let q : s.head + c ≡ age.tail = eqb-true _ _ (sym tests ∙ e) in
          let long : length (known c ed st).queue.items ≡ (known c ed st).queue.capacity = omega (arith, shelf.long, capacity_is, inv.high) in
          ends z (Full2 t) Yes (quietly refl refl refl refl)
          (ended_now (Full2 t) call.IsFull [] [] Yes refl o (speaks (Full2 t) call.IsFull true (gives_none true) (λ q. absurd (let y : ◌≡◌ {A = ℕ} 0 1 = cc in omega arith)))
          (rw (eq-eqb (length (known c ed st).queue.items) (known c ed st).queue.capacity long)))
      go false e (inl p) =
          ends z (Full2 t) No (quietly refl refl refl refl)
          (ended_then (Full2 t) call.IsFull [] [] No refl o (speaks (Full2 t) call.IsFull false (gives_none false) (λ q. absurd (let y : ◌≡◌ {A = ℕ} 0 1 = cc in omega arith))) p.set
          (rw (ne_eqb (length (then c n ed p.set).items) (then c n ed p.set).capacity (λ q. omega (arith, p.room, p.set.point.room)))))
      go false e (inr p) = absurd (true≢false (sym (eq-eqb (s.head + c) age.tail p.head) ∙ sym tests ∙ e))

  is_closed1 : (z : Slot) → Work c n ed st w call.IsClosed [] [] → Row IsClosed1 (goes E z (Idle (yes_no (marked_of f E.tail))))
  is_closed1 z o = go (marked_of f E.tail) refl
    where
      go : (y : Bool) → marked_of f E.tail ≡ y → Row IsClosed1 (goes E z (Idle (yes_no y)))
      go true e =
          ends z IsClosed1 Yes (quietly refl refl refl refl)
          (ended_now IsClosed1 call.IsClosed [] [] Yes refl o (speaks IsClosed1 call.IsClosed true (gives_none true)
          (λ q. absurd (let y : ◌≡◌ {A = ℕ} 0 1 = cc in omega arith))) (rw (shelf.flag ∙ sym marked_now ∙ e)))
      go false e =
          ends z IsClosed1 No (quietly refl refl refl refl)
          (ended_now IsClosed1 call.IsClosed [] [] No refl o (speaks IsClosed1 call.IsClosed false (gives_none false)
          (λ q. absurd (let y : ◌≡◌ {A = ℕ} 0 1 = cc in omega arith))) (rw (shelf.flag ∙ sym marked_now ∙ e)))

  shuts : (z : Slot) → b ≡ false → Work c n ed st w call.Close [] [] → Row Close1 (goes (tail_to E (with_mark bits f E.tail)) z (Idle Yes))
  unfolding goes tail_to
  shuts z clear o u mv =
      record {
        due = tt;
        said =
            λ x e. let y : Yes ≡ x = cc in
            subst (Ended Close1) y (ended_now Close1 call.Close [] [] Yes refl o (speaks Close1 call.Close true (gives_none true) (λ q. refl)) (rw (shelf.flag ∙ clear)));
        flag = ap (λ (y : Bool). marked_of f (with_mark bits f (tail_word c mark n s.tail y))) clear
            ∙ ap (marked_of f) (Stamps.with_mark_lem bits c mark n g ed s.tail) ∙ Stamps.marked_tail bits c mark n g ed s.tail true;
        carries = λ y e. absurd (let q : ◌≡◌ {A = ℕ} 0 1 = cc in omega arith);
        changes =
            record {
              takes = λ e. absurd (true≢false (sym e));
              puts = λ e. absurd (true≢false (sym e));
              while_open = λ e m. absurd (true≢false (sym e));
              full = λ t₂ x₂ e. absurd (let y : ◌≡◌ {A = ℕ} 0 1 = cc in omega arith);
              closes = λ e. shelf.flag ∙ clear;
            };
      }

  close1 : (z : Slot) (lose : Bool) → Work c n ed st w call.Close [] [] → Row Close1 (act_of bits f E z Close1 lose)
  close1 z lose o =
      either (Row Close1) (marked_of f E.tail) (goes E z (Idle No)) (goes (tail_to E (with_mark bits f E.tail)) z (Idle Yes))
      (λ h. let set : b ≡ true = sym marked_now ∙ h in
      ends z Close1 No (quietly refl refl refl refl)
      (ended_now Close1 call.Close [] [] No refl o (speaks Close1 call.Close false (gives_none false) (λ q. open_flag Close1 (Idle No) refl refl ∙ set)) (rw (shelf.flag ∙ set))))
      (λ h. shuts z (sym marked_now ∙ h) o)

  -- ---- every act of a busy worker

  pub row : (z : Slot) (p : Place) (lose : Bool) → (view_of p).busy ≡ true → Stands c mark n s w age (look c p) → Recent c mark n s age (look c p)
      → Due c n ed st s age w (task p) → Row p (act_of bits f E z p lose)
  row z (Idle a) lose busy at r o = absurd (true≢false (sym busy))
  row z (P1 k x) lose busy at r o = p1 z k x o
  row z (P2 k t x) lose busy at r o = p2 z k t x lose o
  row z (P3 k t x) lose busy at r o = p3 z k t x lose o (r refl)
  row z (P4 t x) lose busy at r o = p4 (value_to z x) t x o.0 o.1
  row z (P5 t) lose busy at r o = p5 _ t o.0 o.1 o.2
  row z (P6 t x) lose busy at r o = p6 z t x lose o (r refl)
  row z (F6 t x) lose busy at r o = f6 z t x lose o (record { k = at.0; word = at.1; low = at.2.0; high = at.2.2; late = at.3 }) (r refl)
  row z (F7 t x) lose busy at r o = f7 z t x (at.0 + c) at.1 o
  row z (F8 t x) lose busy at r o = f8 (value_to z x) t x z.value o
  row z (F9 t old) lose busy at r o = f9 _ t o.0 old at.0 at.2.0.1 at.2.2 o.1
  row z O1 lose busy at r o = pops z O1 (O2 E.head) (quietly refl refl refl refl) (not_idle (O2 E.head) refl) refl o
  row z (O2 h) lose busy at r o = o2 z h lose o
  row z (O3 h) lose busy at r o = o3 z h lose o
  row z (O4 h) lose busy at r o = o4 z h z.value o
  row z (O5 h v) lose busy at r o = o5 _ h v at.0 at.2.0.1 at.2.2 o
  row z (O6 h) lose busy at r o = o6 z h lose at.0 at.1 at.2.0 at.3 (r refl) o
  row z Len1 lose busy at r o = len1 z o
  row z (Len2 t) lose busy at r o = len2 z t o.1 o.2 (omega (arith, at.3, at.4)) o.0
  row z (Len3 t h) lose busy at r o = len3 z t h lose o r
  row z Empty1 lose busy at r o = empty1 z o
  row z (Empty2 h) lose busy at r o = empty2 z h o.1 (omega (arith, at.2, at.3)) (r refl) o.0 o.2
  row z Full1 lose busy at r o = full1 z o
  row z (Full2 t) lose busy at r o = full2 z t o.1 o.2 (omega (arith, at.3, at.4)) r o.0 o.3
  row z Close1 lose busy at r o = close1 z lose o
  row z IsClosed1 lose busy at r o = is_closed1 z o
