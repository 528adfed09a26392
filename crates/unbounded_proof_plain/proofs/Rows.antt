-- Each act of the table, from what its worker's call has behind it to what it then has.
use Prim.Native.Nat.{ℕ, suc, ◌+◌, ◌≤◌, ◌<◌}
use native.Mathlib.Omega.{arith}
use mathlib.Core.Path.{◌≡◌, refl, sym, ap, ◌∙◌, subst}
use mathlib.Core.Bool.{Bool, true, false, cond, true≢false}
use mathlib.Core.List.{List, [], ◌∷◌, ◌++◌, append-nil}
use lib.Dec.{eqb, ltb}
use lib.ListN.{length, get_or, take, drop}
use lib.Seq.{drop-cons}
use borrow.Author.Tests.{eqb-true}
use Rattle.queue_entries.specs.declared.Call.{Call}
use Rattle.queue_entries.specs.declared.Call.TheVariants as call
use Rattle.queue_schedules.proofs.Schedules.{either}
use Rattle.queue_schedules.proofs.Splits.{cons_first}
use Rattle.queue_plain.specs.Plain.{Reply, Queue, answer_of}
use Rattle.queue_plain.specs.Plain as plain
use Rattle.queue_plain.specs.Story.{Does, acts_in, items_of}
use Rattle.queue_plain.proofs.Stories.{acts_end}
use Rattle.queue_plain.proofs.Calls.{work_on}
use Rattle.queue_plain.proofs.Answers.{pop_front, pop_none}
use Rattle.unbounded_words.specs.declared.Index.{Index}
use Rattle.unbounded_words.specs.declared.Pointer.{Pointer}
use Rattle.unbounded_words.specs.Words.{sizes, index, past_slots, last_slot, marked_of, later, same, same_position, none_of}
use Rattle.unbounded_places.specs.declared.Slot.{Slot}
use Rattle.unbounded_places.specs.declared.Block.{Block}
use Rattle.unbounded_places.specs.declared.Ends.{Ends}
use Rattle.unbounded_places.specs.declared.Answer.{Answer}
use Rattle.unbounded_places.specs.declared.Answer.TheVariants.{Nothing, Pushed, Closed, Popped, Empty, PopClosed, Len, Yes, No}
use Rattle.unbounded_places.specs.declared.Place.{Place}
use Rattle.unbounded_places.specs.declared.Place.TheVariants.{Idle, U1, U3, U4, U7, U8, U9, U10, U11, U12, U14, V1, V3, V4, V5, V6, V10, V13, V15, Empty2}
use Rattle.unbounded_places.specs.Places.{view_of}
use Rattle.unbounded_acts.specs.declared.Acted.{Acted}
use Rattle.unbounded_acts.specs.Acts.{leave, head_to, tail_to, first_or, answered, lacks_next, push_from, claimed, take_or, pop_from, new_head, taken, destroy_from, destroy_if, act_of}
use Rattle.unbounded_machine.specs.declared.Event.{Event}
use Rattle.unbounded_demands.specs.Notions.{Pushing, push9, push12, takers_of, LatestIn, position}
use Rattle.unbounded_demands.specs.Notions as notions
use Rattle.unbounded_demands.specs.Stories.{Story, Enters, task_of, closes, is_close, change_of, actor, roomy, reply_of, Now, Stays, timing_to}
use Rattle.unbounded_demands.specs.Demands.{YesAtBlocksEnd}
use Rattle.unbounded_proof_each_act.proofs.Step.{counted}
use Rattle.unbounded_proof_demand2.proofs.Logged.{items_more, takers_more, latest_own}
use Rattle.unbounded_proof_plain.proofs.Ends.{mark_later, later_up}
use Rattle.unbounded_proof_plain.proofs.Work.{Work, Decided, decided_now, brought, EnteredBy, ClosedBy, TriesBy, TakesBy, Due}
use Rattle.unbounded_proof_plain.proofs.Scene.{drop_long, latest_one, unput, not_idle, brings_closed, brings_open, brings_none, Scene, Handing, Hints}
use Rattle.unbounded_proof_plain.proofs.Scene.{More, no_more, Outcome, act, now, q₀, none_came, empty_there, still, kept, here, takes_on, to, speaks}

popped_yes : {v : ℕ} → Popped v ≡ Yes → ⊥
popped_yes z = let q : ◌≡◌ {A = ℕ} 0 1 = cc in omega arith

same_is : (a b : Index) → same a b ≡ true → a ≡ b
unfolding same
same_is a b z = ap index (eqb-true a.0 b.0 z)

abbrev pub telling : Answer → Bool
telling Nothing = false
telling Pushed = false
telling (Closed x) = false
telling (Popped v) = true
telling Empty = false
telling PopClosed = false
telling (Len n) = false
telling Yes = true
telling No = false

module _ (st : Story) (e : Ends) (sc : Scene st e) (w : ℕ) where
  abbrev A : Place → Place → Event
  A p q = act st e sc w p q

  abbrev N : Place → Place → Story
  N p q = now st e sc w p q

  abbrev Q : Queue
  Q = q₀ st e sc w

  abbrev h : List Event
  h = acts_in st

  abbrev Out : Place → Place → Index → Type 0
  Out p q t = Outcome st e sc w p q t

  abbrev Told : Place → Place → Type 0
  Told p q = Hints st e sc w p q

  -- the flag
  closed_is : (b : Bool) → marked_of e.tail ≡ b → Q.closed ≡ b
  closed_is b z = sc.flag ∙ z

  -- what an answer tells besides: a value is handed out, is_empty says yes
  pub record Extra (p : Place) (a : Answer) : Type 0 where
    pub gave : (v : ℕ) → a ≡ Popped v → TakesBy st w × Handing p
    pub saw : (i : Index) → p ≡ Empty2 i → a ≡ Yes → YesAtBlocksEnd st w

  pub quietly : (p : Place) (a : Answer) → telling a ≡ false → Extra p a
  quietly p a other = record { gave = λ v z. absurd (true≢false (sym (ap telling z) ∙ other)); saw = λ i y z. absurd (true≢false (sym (ap telling z) ∙ other)) }

  -- ---- where no act of p claims anything
  pub record Mild (p : Place) : Type 0 where
    pub no_put : (q : Place) → (change_of (A p q)).puts ≡ false
    pub no_take : (q : Place) → (change_of (A p q)).takes ≡ false
    pub open_still : closes (task_of p) ≡ false

  module _ (p : Place) (mild : Mild p) where
    pub go : (q : Place) → (view_of sizes q).busy ≡ true → Due (N p q) e.tail w (task_of q) → Out p q e.tail
    go q busy o = to st e sc w p q (mild.no_put q) (mild.no_take q) busy mild.open_still o

    pub says : (a : Answer) (r : Reply) → reply_of a ≡ r ∷ [] → Extra p a → (c : Call) → is_close c ≡ false
        → Decided (N p (Idle a)) w c (plain.put_by (items_of (c ∷ [])) r) (plain.taken_by r) r → Out p (Idle a) e.tail
    says a r is extra c other o =
        speaks st e sc w p a r e.tail is (sym (ap (λ (b : Bool). cond b true (marked_of e.tail)) mild.open_still)) (omega arith) c (other ∙ sym mild.open_still) more o
      where
        more : More st e sc w p (Idle a)
        more =
            record {
              gave = λ v z. let one : a ≡ Popped v = cc in extra.gave v one;
              saw = λ i y z. let one : a ≡ Yes = cc in extra.saw i y one;
              was_open = λ b z. absurd (true≢false (sym b ∙ mild.open_still));
            }

    module _ (q : Place) where
      pub on : (c : Call) (put took : List ℕ) → Work st w c put took → Work (N p q) w c put took
      on = still st e sc w p q (mild.no_put q) (mild.no_take q)

      pub tries : (x : ℕ) → TriesBy st w x → TriesBy (N p q) w x
      tries x o = record { call = o.call; brings = o.brings; work = on _ _ _ o.work }

      pub decided : timing_to (task_of p) (task_of q) ≡ Now → (c : Call) (r : Reply) → Work st w c [] [] → answer_of (roomy Q) c ≡ r → Decided (N p q) w c [] [] r
      decided = here st e sc w p q (mild.no_put q) (mild.no_take q)

      module _ (at : timing_to (task_of p) (task_of q) ≡ Stays) where
        pub keep : (c : Call) (put took : List ℕ) (r : Reply) → Decided st w c put took r → Decided (N p q) w c put took r
        keep = kept st e sc w p q (mild.no_put q) (mild.no_take q) at

        pub enters : (x : ℕ) → EnteredBy st w x → EnteredBy (N p q) w x
        enters x o = record { call = o.call; brings = o.brings; decided = keep _ _ _ _ o.decided }

        pub shut : (x : ℕ) → ClosedBy st w x → ClosedBy (N p q) w x
        shut x o = record { call = o.call; brings = o.brings; decided = keep _ _ _ _ o.decided }

        pub pops : (view_of sizes q).busy ≡ true → TakesBy st w → TakesBy (N p q) w
        pops = takes_on st e sc w p q (mild.no_put q) (mild.no_take q) at

    -- ---- push: the answers
    pub says_closed : (x : ℕ) → ClosedBy st w x → Out p (Idle (Closed x)) e.tail
    says_closed x o =
        says (Closed x) (plain.Closed x) refl (quietly p (Closed x) refl) o.call (brings_none o.call x o.brings) (keep (Idle (Closed x)) refl _ _ _ _ o.decided)

    pub says_pushed : (x : ℕ) → EnteredBy st w x → Out p (Idle Pushed) e.tail
    says_pushed x o = says Pushed plain.Pushed refl (quietly p Pushed refl) o.call (brings_none o.call x o.brings) (keep (Idle Pushed) refl _ _ _ _ o.decided)

    pub firsts : (n : Pointer) (u : Index) (b : Pointer) (x : ℕ) → TriesBy st w x → Out p (first_or n u b x) e.tail
    unfolding first_or
    firsts n u b x o =
        either (λ (q : Place). Out p q e.tail) (none_of b) (U4 n u x) (U7 n u b x) (λ z. go (U4 n u x) refl (tries (U4 n u x) x o)) (λ z. go (U7 n u b x) refl (tries (U7 n u b x) x o))

    -- the top of its loop
    pub tops : (n : Pointer) (u : Index) (x : ℕ) → TriesBy st w x × (marked_of u ≡ true → ClosedBy st w x) → Out p (push_from sizes n u e.back x) e.tail
    unfolding push_from answered
    tops n u x o =
        either (λ (q : Place). Out p q e.tail) (marked_of u) (cond (none_of n) (Idle (Closed x)) (U14 n (Closed x))) _
        (λ m. either (λ (q : Place). Out p q e.tail) (none_of n) (Idle (Closed x)) (U14 n (Closed x)) (λ z. says_closed x (o.1 m))
        (λ z. go (U14 n (Closed x)) refl (shut (U14 n (Closed x)) refl x (o.1 m))))
        (λ m. either (λ (q : Place). Out p q e.tail) (past_slots sizes u) (U1 n x) _ (λ z. go (U1 n x) refl (tries (U1 n x) x o.0))
        (λ z. either (λ (q : Place). Out p q e.tail) (lacks_next sizes n u) (U3 u e.back x) _ (λ y. go (U3 u e.back x) refl (tries (U3 u e.back x) x o.0))
        (λ y. firsts n u e.back x o.0)))

    -- ---- pop: to go on, or to answer
    pub wants : (h : Index) (b : Pointer) (new : Index) → Work st w call.Pop [] [] → Out p (take_or h b new) e.tail
    unfolding take_or
    wants i b new o =
        either (λ (q : Place). Out p q e.tail) (none_of b) V1 (V4 i b new) (λ z. go V1 refl (on V1 _ _ _ o)) (λ z. go (V4 i b new) refl (on (V4 i b new) _ _ _ o))

    pub pop_tops : (i : Index) (b : Pointer) → Work st w call.Pop [] [] → Out p (pop_from sizes i b) e.tail
    unfolding pop_from
    pop_tops i b o =
        either (λ (q : Place). Out p q e.tail) (past_slots sizes i) V1 _ (λ z. go V1 refl (on V1 _ _ _ o))
        (λ z. either (λ (q : Place). Out p q e.tail) (marked_of i) (take_or i b (later i)) (V3 i b) (λ y. wants i b (later i) o) (λ y. go (V3 i b) refl (on (V3 i b) _ _ _ o)))

    pub hands_out : (v : ℕ) → Handing p → TakesBy st w → Told p (Idle (Popped v)) → Out p (Idle (Popped v)) e.tail
    hands_out v hand o t =
        let z = t.out v refl in
        let k = latest_one (takers_of h) w o.number z.0 o.latest z.1 in
        let same : o.v ≡ v = sym o.item.is ∙ ap (λ (n : ℕ). get_or (notions.items_of h) n 0) k ∙ z.2.is in
        says (Popped v) (plain.Popped v) refl (record { gave = λ u z. (o, hand); saw = λ i y z. absurd (popped_yes z) }) call.Pop refl
        (subst (λ (y : ℕ). Decided (N p (Idle (Popped v))) w call.Pop [] (y ∷ []) (plain.Popped y)) same (keep (Idle (Popped v)) refl _ _ _ _ o.decided))

    pub destroys : (b : Pointer) (i v : ℕ) → TakesBy st w → Out p (destroy_from sizes b i v) e.tail
    unfolding destroy_from
    destroys b i v o =
        either (λ (q : Place). Out p q e.tail) (ltb (i + 1) 31) (V13 b i v) (V15 b v) (λ z. go (V13 b i v) refl (pops (V13 b i v) refl refl o)) (λ z. go (V15 b v) refl (pops (V15 b v) refl refl o))

    pub destroys_if : (set : Bool) (b : Pointer) (i v : ℕ) → Handing p → TakesBy st w → Told p (destroy_if sizes set b i v) → Out p (destroy_if sizes set b i v) e.tail
    unfolding destroy_if
    destroys_if set b i v hand o =
        either (λ (q : Place). Told p q → Out p q e.tail) set (destroy_from sizes b (i + 1) v) (Idle (Popped v)) (λ z t. destroys b (i + 1) v o) (λ z t. hands_out v hand o t)

  pub mild : {p : Place} → ((q : Place) → (change_of (A p q)).puts ≡ false) → ((q : Place) → (change_of (A p q)).takes ≡ false) → closes (task_of p) ≡ false → Mild p
  mild a b c = record { no_put = a; no_take = b; open_still = c }

  -- ---- push's two claims on tail's index

  -- a won U7
  claims : (p q : Place) (u : Index) (x : ℕ) → notions.item_of (A p q) ≡ x ∷ [] → (change_of (A p q)).takes ≡ false → closes (task_of p) ≡ false → (view_of sizes q).busy ≡ true
      → task_of q ≡ Enters x → Pushing q u → TriesBy st w x → marked_of e.tail ≡ false → e.tail ≡ u → (EnteredBy (N p q) w x → Due (N p q) (later u) w (task_of q)) → Out p q (later u)
  claims p q u x item no_take open_still busy task pushing o unmarked is due =
      let put : (change_of (A p q)).puts ≡ true = ap (λ (l : List ℕ). eqb (length l) 1) item in
      record {
        due =
            due (record {
              call = o.call;
              brings = o.brings;
              decided =
                  decided_now st (A p q) o.call _ _ plain.Pushed (rw put) o.work
                  (subst (λ (b : Bool). Work (N p q) w o.call (cond b (items_of (o.call ∷ [])) []) []) put
                  (subst (λ (b : Bool). Work (N p q) w o.call (cond (change_of (A p q)).puts (items_of (o.call ∷ [])) []) (cond b (take 1 Q.items) [])) no_take
                  (work_on actor change_of 0 st (A p q) o.call [] [] o.work)))
                  (brings_open Q o.call x o.brings (closed_is false unmarked));
            });
        said = λ a z. absurd (not_idle q busy a z);
        came =
            λ y z.
            let one : x ≡ y = cons_first (sym item ∙ z) in
            record {
              its = ap items_of o.work.its ∙ brought o.call x o.brings ∙ sym item ∙ z;
              while_open = closed_is false unmarked;
              task = task ∙ ap Enters one;
              word = u;
              pushing = pushing;
              at_tail = sym is;
            };
        more = no_more st e sc w p q busy;
        marks = ap (λ (i : Index). marked_of (later i)) (sym is) ∙ mark_later e.tail sc.small ∙ sym (ap (λ (b : Bool). cond b true (marked_of e.tail)) open_still);
        up = subst (λ (i : Index). e.tail.0 ≤ (later i).0) is (later_up e.tail sc.small);
      }

  pub u7 : (g : Block) (s : Slot) (n : Pointer) (t : Index) (b : Pointer) (x : ℕ) (lose : Bool) → TriesBy st w x → marked_of t ≡ false
      → Out (U7 n t b x) (act_of sizes e 0 g s (U7 n t b x) lose).place (act_of sizes e 0 g s (U7 n t b x) lose).ends.tail
  unfolding leave tail_to claimed
  u7 g s n t b x lose o fresh =
      either (λ (a : Acted). Out (U7 n t b x) a.place a.ends.tail) (same e.tail t) _ _
      (λ z. either (λ (a : Acted). Out (U7 n t b x) a.place a.ends.tail) lose _ _
      (λ l. lost t (λ m. absurd (true≢false (sym m ∙ fresh))))
      (λ l. either (λ (q : Place). Out (U7 n t b x) q (later t)) (last_slot sizes t) (U9 n t b x) (U12 n t b x)
      (λ y. claims (U7 n t b x) (U9 n t b x) t x refl refl refl refl refl push9 o (ap marked_of (same_is e.tail t z) ∙ fresh) (same_is e.tail t z) (λ d. d))
      (λ y. claims (U7 n t b x) (U12 n t b x) t x refl refl refl refl refl push12 o (ap marked_of (same_is e.tail t z) ∙ fresh) (same_is e.tail t z) (λ d. d))))
      (λ z. lost e.tail (λ m. closed_is true m))
    where
      lost : (i : Index) → (marked_of i ≡ true → Q.closed ≡ true) → Out (U7 n t b x) (U8 n i x) e.tail
      lost i shut =
          to st e sc w (U7 n t b x) (U8 n i x) refl refl refl refl (
            record { call = o.call; brings = o.brings; work = still st e sc w (U7 n t b x) (U8 n i x) refl refl _ _ _ o.work },
            λ m. record {
              call = o.call;
              brings = o.brings;
              decided = here st e sc w (U7 n t b x) (U8 n i x) refl refl refl o.call (plain.Closed x) o.work
                  (brings_closed Q o.call x o.brings (shut m));
            },
          )

  -- U10
  pub u10 : (n : Pointer) (t : Index) (b : Pointer) (x : ℕ) → EnteredBy st w x → Out (U10 n t b x) (U11 n t b x) (later e.tail)
  u10 n t b x o =
      record {
        due = enters (U10 n t b x) (mild (λ q. refl) (λ q. refl) refl) (U11 n t b x) refl x o;
        said = λ a z. absurd (not_idle (U11 n t b x) refl a z);
        came = none_came st e sc w (U10 n t b x) (U11 n t b x) refl;
        more = no_more st e sc w (U10 n t b x) (U11 n t b x) refl;
        marks = mark_later e.tail sc.small;
        up = later_up e.tail sc.small;
      }

  -- ---- pop's claim: a won V4
  front_is : 0 < length Q.items → Q.items ≡ get_or (notions.items_of h) (length (takers_of h)) 0 ∷ drop (suc (length (takers_of h))) (notions.items_of h)
  front_is some =
      let less : length (takers_of h) < length (notions.items_of h) = omega (arith, ap length sc.items ∙ drop_long (length (takers_of h)) (notions.items_of h)) in
      sc.items ∙ drop-cons (notions.items_of h) (length (takers_of h)) 0 less

  takes_now : (p q : Place) → (change_of (A p q)).puts ≡ false → (change_of (A p q)).takes ≡ true → Work st w call.Pop [] [] → Told p q → TakesBy (N p q) w
  takes_now p q no_put takes_one o t =
      let some = t.front takes_one in
      let front = front_is some in
      let v = get_or (notions.items_of h) (length (takers_of h)) 0 in
      let items : notions.items_of (acts_in (N p q)) ≡ notions.items_of h =
      ap notions.items_of (acts_end st (Does (A p q))) ∙ items_more h (A p q) ∙ ap (λ (l : List ℕ). notions.items_of h ++ l) (unput (notions.sign_of p) (notions.sign_of q) no_put) ∙ append-nil
      (notions.items_of h) in
      let takers : takers_of (acts_in (N p q)) ≡ takers_of h ++ w ∷ [] =
      ap takers_of (acts_end st (Does (A p q))) ∙ takers_more h (A p q) ∙ ap (λ (b : Bool). takers_of h ++ cond b (w ∷ []) []) takes_one in
      record {
        v = v;
        decided =
            decided_now st (A p q) call.Pop _ _ (plain.Popped v) (rw (no_put, takes_one)) o
            (subst (λ (l : List ℕ). Work (N p q) w call.Pop [] (take 1 l)) front
            (subst (λ (b : Bool). Work (N p q) w call.Pop [] (cond b (take 1 Q.items) [])) takes_one
            (subst (λ (b : Bool). Work (N p q) w call.Pop (cond b (items_of (call.Pop ∷ [])) []) (cond (change_of (A p q)).takes (take 1 Q.items) [])) no_put
            (work_on actor change_of 0 st (A p q) call.Pop [] [] o))))
            (pop_front (roomy Q) v (drop (suc (length (takers_of h))) (notions.items_of h)) front);
        number = length (takers_of h);
        latest = subst (λ (l : List ℕ). LatestIn l w (length (takers_of h))) (sym takers) (latest_own (takers_of h) w);
        item =
            record {
              made = omega (arith, ap length items, ap length sc.items ∙ drop_long (length (takers_of h)) (notions.items_of h));
              is = ap (λ (l : List ℕ). get_or l (length (takers_of h)) 0) items;
            };
        claim = record { earlier = h; act = A p q; later = []; is = acts_end st (Does (A p q)); by = refl; claims = takes_one; number = refl; same_call = tt };
      }

  pub v4 : (g : Block) (s : Slot) (i : Index) (b : Pointer) (new : Index) (lose : Bool) → Work st w call.Pop [] [] → Told (V4 i b new) (act_of sizes e 0 g s (V4 i b new) lose).place
      → Out (V4 i b new) (act_of sizes e 0 g s (V4 i b new) lose).place (act_of sizes e 0 g s (V4 i b new) lose).ends.tail
  unfolding leave head_to taken
  v4 g s i b new lose o =
      either (λ (a : Acted). Told (V4 i b new) a.place → Out (V4 i b new) a.place a.ends.tail) (same e.head i) _ _
      (λ z. either (λ (a : Acted). Told (V4 i b new) a.place → Out (V4 i b new) a.place a.ends.tail) lose _ _ (λ l t. lost i)
      (λ l. either (λ (q : Place). Told (V4 i b new) q → Out (V4 i b new) q e.tail) (last_slot sizes i) (V6 i b new) (V10 i b)
      (λ y t. won (V6 i b new) refl (takes_now (V4 i b new) (V6 i b new) refl refl o t)) (λ y t. won (V10 i b) refl (takes_now (V4 i b new) (V10 i b) refl refl o t))))
      (λ z t. lost e.head)
    where
      lost : (j : Index) → Out (V4 i b new) (V5 j) e.tail
      lost j = to st e sc w (V4 i b new) (V5 j) refl refl refl refl (still st e sc w (V4 i b new) (V5 j) refl refl _ _ _ o)

      won : (q : Place) → (view_of sizes q).busy ≡ true → Due (N (V4 i b new) q) e.tail w (task_of q) → Out (V4 i b new) q e.tail
      won q busy d = record {
        due = d;
        said = λ a z. absurd (not_idle q busy a z);
        came = none_came st e sc w (V4 i b new) q refl;
        more = no_more st e sc w (V4 i b new) q busy;
        marks = refl;
        up = omega arith;
      }

  -- V3: nothing waits, or it goes on
  pub v3 : (g : Block) (s : Slot) (i : Index) (b : Pointer) (lose : Bool) → Work st w call.Pop [] [] → Told (V3 i b) (act_of sizes e 0 g s (V3 i b) lose).place
      → Out (V3 i b) (act_of sizes e 0 g s (V3 i b) lose).place (act_of sizes e 0 g s (V3 i b) lose).ends.tail
  unfolding leave
  v3 g s i b lose o =
      either Looks (same_position i e.tail) _ _
      (λ z. either Looks (marked_of e.tail) _ _
      (λ m k. says (V3 i b) calm PopClosed plain.EmptyAndClosed refl (quietly (V3 i b) PopClosed refl) call.Pop refl
      (decided (V3 i b) calm (Idle PopClosed) refl call.Pop plain.EmptyAndClosed o (none_there true m (k.true_then PopClosed refl).1)))
      (λ m k. says (V3 i b) calm Empty plain.Empty refl (quietly (V3 i b) Empty refl) call.Pop refl
      (decided (V3 i b) calm (Idle Empty) refl call.Pop plain.Empty o (none_there false m (k.true_then Empty refl).1))))
      (λ z k. wants (V3 i b) calm i b (new_head sizes i e.tail) o)
    where
      Looks : Acted → Type 0
      Looks a = Told (V3 i b) a.place → Out (V3 i b) a.place a.ends.tail

      calm : Mild (V3 i b)
      calm = mild (λ q. refl) (λ q. refl) refl

      none_there : (shut : Bool) → marked_of e.tail ≡ shut → position e.tail ≡ position e.head → answer_of (roomy Q) call.Pop ≡ cond shut plain.EmptyAndClosed plain.Empty
      none_there shut m z =
          pop_none (roomy Q) (empty_there st e sc w (ap counted z)) ∙ ap (λ (y : Bool). cond y plain.EmptyAndClosed plain.Empty) (closed_is shut m)
