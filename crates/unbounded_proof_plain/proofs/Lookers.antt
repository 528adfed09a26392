-- The lookers, and close: from what their call has behind it to what it then has.
use Prim.Native.Nat.{ℕ, zero, suc, ◌+◌, ◌-◌, ◌%◌, ◌≤◌, ◌<◌}
use native.Mathlib.Omega.{arith}
use native.Mathlib.Decide.{dec_lt}
use mathlib.Core.Path.{◌≡◌, refl, sym, ap, ◌∙◌, subst}
use mathlib.Core.Logic.{◌≢◌, ◌⊎◌, inl, inr}
use mathlib.Core.Bool.{Bool, true, false, cond, true≢false}
use mathlib.Core.List.{List, []}
use lib.Dec.{eqb}
use lib.ListN.{length}
use borrow.Author.Tests.{eq-eqb, ne_eqb, eqb-true, eqb-false}
use Rattle.queue_entries.specs.declared.Call.TheVariants as call
use Rattle.queue_schedules.proofs.Schedules.{either}
use Rattle.queue_schedules.proofs.Splits.{no_cons}
use Rattle.queue_plain.specs.Plain.{Reply, Queue, answer_of, yes_if}
use Rattle.queue_plain.specs.Plain as plain
use Rattle.queue_plain.specs.Story.{Does, acts_in}
use Rattle.queue_plain.proofs.Stories.{known_count}
use Rattle.queue_plain.proofs.Answers.{none_of}
use Rattle.unbounded_words.specs.declared.Index.{Index}
use Rattle.unbounded_words.specs.Words.{sizes, index, marked_of, with_mark, same, same_position, count_of}
use Rattle.unbounded_places.specs.declared.Slot.{Slot}
use Rattle.unbounded_places.specs.declared.Block.{Block}
use Rattle.unbounded_places.specs.declared.Ends.{Ends}
use Rattle.unbounded_places.specs.declared.Answer.{Answer}
use Rattle.unbounded_places.specs.declared.Answer.TheVariants.{Nothing, Pushed, Closed, Popped, Empty, PopClosed, Len, Yes, No}
use Rattle.unbounded_places.specs.declared.Place.{Place}
use Rattle.unbounded_places.specs.declared.Place.TheVariants.{Idle, Len1, Len2, Len3, Empty1, Empty2, Close1, IsClosed1}
use Rattle.unbounded_acts.specs.declared.Acted.{Acted}
use Rattle.unbounded_acts.specs.Acts.{leave, tail_to, act_of}
use Rattle.unbounded_machine.specs.declared.Event.{Event}
use Rattle.unbounded_demands.specs.Notions.{takers_of, position}
use Rattle.unbounded_demands.specs.Stories.{Story, task_of, change_of, actor, known, roomy, queue_at, At, AfterNextTail, moment_of, Now, timing_to}
use Rattle.unbounded_demands.specs.Demands.{YesAtBlocksEnd, AtBlocksEnd}
use Rattle.unbounded_proof_each_act.proofs.Step.{counted}
use Rattle.unbounded_proof_plain.proofs.Ends.{mark_marked, marked_up}
use Rattle.unbounded_proof_plain.proofs.Work.{moment_own, longer, past, now_at, then_at, Work, Decided, SeenSome, NoneYet, Due}
use Rattle.unbounded_proof_plain.proofs.Scene.{Scene, Speaks, More, Outcome, act, now, q₀, none_came, how_many, stays, begun_same, here, same_items, same_takers, same_waits, meant, speaks}
use Rattle.unbounded_proof_plain.proofs.Rows.{quietly, Mild, mild, go, says, on, decided, keep}

abbrev popped : Answer → Bool
popped Nothing = false
popped Pushed = false
popped (Closed x) = false
popped (Popped v) = true
popped Empty = false
popped PopClosed = false
popped (Len n) = false
popped Yes = false
popped No = false

module _ (st : Story) (e : Ends) (sc : Scene st e) (w : ℕ) where
  abbrev A : Place → Place → Event
  A p q = act st e sc w p q

  abbrev N : Place → Place → Story
  N p q = now st e sc w p q

  abbrev Q : Queue
  Q = q₀ st e sc w

  abbrev h : List Event
  h = acts_in st

  abbrev Out : Place → Place → Index → Type 0
  Out p q t = Outcome st e sc w p q t

  closed_is : (b : Bool) → marked_of e.tail ≡ b → Q.closed ≡ b
  closed_is b z = sc.flag ∙ z

  unpopped : {P : Type 0} (a : Answer) → popped a ≡ false → (v : ℕ) → Idle a ≡ Idle (Popped v) → P
  unpopped a other v z = let one : a ≡ Popped v = cc in absurd (true≢false (sym (ap popped one) ∙ other))

  not_there : {P : Type 0} (i : Index) → Close1 ≡ Empty2 i → P
  not_there i z = absurd (let q : ◌≡◌ {A = ℕ} 0 1 = cc in omega arith)

  not_yes : Idle No ≡ Idle Yes → ⊥
  not_yes z = let q : ◌≡◌ {A = ℕ} 0 1 = cc in omega arith

  yes_popped : {v : ℕ} → Yes ≡ Popped v → ⊥
  yes_popped z = let q : ◌≡◌ {A = ℕ} 0 1 = cc in omega arith

  elsewhere : (i : Index) → IsClosed1 ≡ Empty2 i → ⊥
  elsewhere i z = let q : ◌≡◌ {A = ℕ} 0 1 = cc in omega arith

  -- ---- the lookers, and close
  abbrev Tells : Place → Acted → Type 0
  Tells p a = Out p a.place a.ends.tail

  pub close : (g : Block) (s : Slot) (lose : Bool) → Work st w call.Close [] [] → Tells Close1 (act_of sizes e 0 g s Close1 lose)
  unfolding leave tail_to
  close g s lose o =
      either (Tells Close1) (marked_of e.tail) _ _
      (λ m. speaks st e sc w Close1 No plain.No e.tail refl m (omega arith) call.Close refl (record { gave = unpopped No refl; saw = λ i y z. not_there i y; was_open = λ b z. absurd (not_yes z) })
      (told No plain.No refl refl refl (ap (λ (b : Bool). cond b plain.No plain.Yes) (closed_is true m))))
      (λ m. speaks st e sc w Close1 Yes plain.Yes (with_mark e.tail) refl (mark_marked e.tail) (marked_up e.tail) call.Close refl
      (record { gave = unpopped Yes refl; saw = λ i y z. not_there i y; was_open = λ b z. closed_is false m })
      (told Yes plain.Yes refl refl refl (ap (λ (b : Bool). cond b plain.No plain.Yes) (closed_is false m))))
    where
      told : (a : Answer) (r : Reply) → (change_of (A Close1 (Idle a))).puts ≡ false → (change_of (A Close1 (Idle a))).takes ≡ false → timing_to (task_of Close1) (task_of (Idle a)) ≡ Now
          → answer_of (roomy Q) call.Close ≡ r → Decided (N Close1 (Idle a)) w call.Close [] [] r
      told a r np nt at is = here st e sc w Close1 (Idle a) np nt at call.Close r o is

  pub is_closed : (b : Bool) → marked_of e.tail ≡ b → Work st w call.IsClosed [] [] → Out IsClosed1 (Idle (cond b Yes No)) e.tail
  is_closed true m o = says st e sc w IsClosed1 calm Yes plain.Yes refl (record { gave = λ v z. absurd (yes_popped z); saw = λ i y z. absurd (elsewhere i y) }) call.IsClosed refl
      (decided st e sc w IsClosed1 calm (Idle Yes) refl call.IsClosed plain.Yes o (ap yes_if (closed_is true m)))
    where
      calm : Mild st e sc w IsClosed1
      calm = mild st e sc w (λ q. refl) (λ q. refl) refl
  is_closed false m o = says st e sc w IsClosed1 calm No plain.No refl (quietly st e sc w IsClosed1 No refl) call.IsClosed refl
      (decided st e sc w IsClosed1 calm (Idle No) refl call.IsClosed plain.No o (ap yes_if (closed_is false m)))
    where
      calm : Mild st e sc w IsClosed1
      calm = mild st e sc w (λ q. refl) (λ q. refl) refl

  -- ---- len
  pub len2 : (t : Index) → Work st w call.Len [] [] × (t.0 ≤ e.tail.0) → Out (Len2 t) (Len3 t e.head) e.tail
  len2 t o =
      go st e sc w (Len2 t) calm (Len3 t e.head) refl (
        on st e sc w (Len2 t) calm (Len3 t e.head) _ _ _ o.0,
        o.1,
        λ z. decided st e sc w (Len2 t) calm (Len3 t e.head) refl call.Len (plain.Count (count_of sizes t e.head)) o.0
            (ap plain.Count (how_many st e sc w ∙ sym sc.count ∙ ap (λ (i : Index). count_of sizes i e.head) (ap index z))),
      )
    where
      calm : Mild st e sc w (Len2 t)
      calm = mild st e sc w (λ q. refl) (λ q. refl) refl

  pub len3 : (g : Block) (s : Slot) (t i : Index) → Work st w call.Len [] [] × (t.0 ≤ e.tail.0) × (e.tail.0 ≡ t.0 → Decided st w call.Len [] [] (plain.Count (count_of sizes t i)))
      → (lose : Bool) → Tells (Len3 t i) (act_of sizes e 0 g s (Len3 t i) lose)
  unfolding leave same
  len3 g s t i o lose =
      either (Tells (Len3 t i)) (eqb e.tail.0 t.0) _ _
      (λ z. says st e sc w (Len3 t i) calm (Len (count_of sizes t i)) (plain.Count (count_of sizes t i)) refl (quietly st e sc w (Len3 t i) (Len (count_of sizes t i)) refl) call.Len refl
      (keep st e sc w (Len3 t i) calm (Idle (Len (count_of sizes t i))) refl _ _ _ _ (o.2 (eqb-true e.tail.0 t.0 z))))
      (λ z. go st e sc w (Len3 t i) calm Len1 refl (on st e sc w (Len3 t i) calm Len1 _ _ _ o.0))
    where
      calm : Mild st e sc w (Len3 t i)
      calm = mild st e sc w (λ q. refl) (λ q. refl) refl

  -- ---- is_empty
  calm_first : Mild st e sc w Empty1
  calm_first = mild st e sc w (λ q. refl) (λ q. refl) refl

  pub empty1 : Work st w call.IsEmpty [] [] → Out Empty1 (Empty2 e.head) e.tail
  empty1 o =
      go st e sc w Empty1 calm_first q refl (
        on st e sc w Empty1 calm_first q _ _ _ o,
        sc.low,
        omega (arith, sc.heads, ap length (same_takers st e sc w Empty1 q refl refl)),
        record { before = st; load = A Empty1 q; since = []; is = refl; own = refl; loads = refl; begun = begun; left = sc.leaves },
        look (eqb (length Q.items) 0) refl,
      )
    where
      q : Place
      q = Empty2 e.head

      st' : Story
      st' = N Empty1 (Empty2 e.head)

      moment : moment_of w (N Empty1 (Empty2 e.head)) ≡ cond (eqb (length Q.items) 0) AfterNextTail (At (known st).count)
      moment = moment_own st (A Empty1 (Empty2 e.head))

      begun : ((known (N Empty1 (Empty2 e.head))).each w).begun < length st
      begun = omega (arith, begun_same st e sc w Empty1 (Empty2 e.head) refl refl, o.begun)

      look : (b : Bool) → eqb (length Q.items) 0 ≡ b → SeenSome (N Empty1 (Empty2 e.head)) w ⊎ NoneYet (N Empty1 (Empty2 e.head)) w e.head
      look true z =
          let none : length Q.items ≡ 0 = eqb-true (length Q.items) 0 z in
          inr (record {
            pending = moment ∙ ap (λ (b : Bool). cond b AfterNextTail (At (known st).count)) z;
            before = st;
            load = A Empty1 (Empty2 e.head);
            since = [];
            is = refl;
            own = refl;
            loads = refl;
            begun = begun;
            nothing = λ n a b. nothing none n a b (dec_lt (length st) n);
            tails = ap length (same_items st e sc w Empty1 (Empty2 e.head) refl refl) ∙ sc.tails ∙ counts (omega (arith, how_many st e sc w));
            leaving = sc.gap;
          })
        where
          counts : counted (position e.tail) - counted (position e.head) ≡ 0 → counted (position e.tail) ≡ counted (position e.head)
          counts y = omega (arith, sc.low)

          nothing : length Q.items ≡ 0 → (n : ℕ) → length st ≤ n → n ≤ length (N Empty1 (Empty2 e.head)) → Dec (length st < n) → (queue_at n (N Empty1 (Empty2 e.head))).items ≡ []
          nothing none n a b (no l) =
              let k : n ≡ length st = omega arith in
              ap (λ (i : ℕ). (queue_at i (N Empty1 (Empty2 e.head))).items) k ∙ ap (λ (x : Queue). x.items) (now_at st (Does (A Empty1 (Empty2 e.head)))) ∙ none_of Q.items none
          nothing none n a b (yes l) =
              let k : n ≡ length st + 1 = omega (arith, longer st (Does (A Empty1 (Empty2 e.head)))) in
              ap (λ (i : ℕ). (queue_at i (N Empty1 (Empty2 e.head))).items) k ∙ ap (λ (x : Queue). x.items) (then_at st (Does (A Empty1 (Empty2 e.head))))
              ∙ same_waits st e sc w Empty1 (Empty2 e.head) refl refl ∙ none_of Q.items none
      look false z =
          inl (record {
            moment = length st;
            named = moment ∙ ap (λ (b : Bool). cond b AfterNextTail (At (known st).count)) z ∙ ap At (known_count actor change_of 0 st);
            begun = begun;
            inside = omega (arith, longer st (Does (A Empty1 (Empty2 e.head))));
            some = subst (λ (x : Queue). 0 < length x.items) (sym (now_at st (Does (A Empty1 (Empty2 e.head))))) (positive (length Q.items) (eqb-false (length Q.items) 0 z));
          })
        where
          positive : (n : ℕ) → n ≢ 0 → 0 < n
          positive zero ne = absurd (ne refl)
          positive (suc n) ne = omega arith

  -- where nothing came in and the positions differ, the first is a block's end
  gap_between : (p q : ℕ) → q < p → counted p ≡ counted q → q % 32 ≡ 31
  gap_between p q l z = omega arith

  pub empty2 : (i : Index) → Due st e.tail w (task_of (Empty2 i)) → (b : Bool) → same_position i e.tail ≡ b → Out (Empty2 i) (Idle (cond b Yes No)) e.tail
  unfolding same_position
  empty2 i o true z =
      says st e sc w (Empty2 i) calm Yes plain.Yes refl (record { gave = λ v z. absurd (yes_popped z); saw = λ j y y₁. seen_so }) call.IsEmpty refl
      (decided st e sc w (Empty2 i) calm (Idle Yes) refl call.IsEmpty plain.Yes o.0
      (ap yes_if (eq-eqb (length Q.items) 0 (none (position e.tail) (position i) (eqb-true (position i) (position e.tail) z) o.2))))
    where
      calm : Mild st e sc w (Empty2 i)
      calm = mild st e sc w (λ q. refl) (λ q. refl) refl

      seen_so : YesAtBlocksEnd st w
      seen_so =
          record {
            before = o.3.before;
            load = o.3.load;
            since = o.3.since;
            is = o.3.is;
            its_own = o.3.own;
            loads = o.3.loads;
            begun = o.3.begun;
            filling = λ v y. sc.fills (ap (λ (n : ℕ). n % 32) (sym (eqb-true (position i) (position e.tail) z)) ∙ o.3.left v y);
          }

      none : (p k : ℕ) → k ≡ position e.tail → counted k ≤ length (takers_of h) → length Q.items ≡ 0
      none p k is l = let y = ap counted is in omega (arith, how_many st e sc w, sc.heads)
  empty2 i o false z = answer o.4
    where
      calm : Mild st e sc w (Empty2 i)
      calm = mild st e sc w (λ q. refl) (λ q. refl) refl

      d : Event
      d = A (Empty2 i) (Idle No)

      moment : moment_of w (N (Empty2 i) (Idle No)) ≡ moment_of w st
      moment = stays st e sc w (Empty2 i) (Idle No) refl refl refl

      work : Work (N (Empty2 i) (Idle No)) w call.IsEmpty [] []
      work = on st e sc w (Empty2 i) calm (Idle No) _ _ _ o.0

      begun : ((known (N (Empty2 i) (Idle No))).each w).begun ≡ ((known st).each w).begun
      begun = begun_same st e sc w (Empty2 i) (Idle No) refl refl

      answer : SeenSome st w ⊎ NoneYet st w i → Out (Empty2 i) (Idle No) e.tail
      answer (inl k) =
          says st e sc w (Empty2 i) calm No plain.No refl (quietly st e sc w (Empty2 i) No refl) call.IsEmpty refl
          (record {
            work = work;
            moment = k.moment;
            named = moment ∙ k.named;
            begun = omega (arith, begun, k.begun);
            inside = omega (arith, k.inside, longer st (Does (A (Empty2 i) (Idle No))));
            plain =
                ap (λ (x : Queue). answer_of x call.IsEmpty) (past st (Does (A (Empty2 i) (Idle No))) k.moment k.inside)
                ∙ ap yes_if (ne_eqb (length (queue_at k.moment st).items) 0 (λ y. omega (arith, k.some)));
          })
      answer (inr k) = record { due = tt; said = λ a y. said a y; came = none_came st e sc w (Empty2 i) (Idle No) refl; more = extra; marks = refl; up = omega arith }
        where
          extra : More st e sc w (Empty2 i) (Idle No)
          extra = record { gave = unpopped No refl; saw = λ j y z. absurd (not_yes z); was_open = λ b z. absurd (true≢false (sym b)) }

          far : position i < position e.tail
          far = apart (position i) (position e.tail) o.1 (eqb-false (position i) (position e.tail) z)
            where
              apart : (a b : ℕ) → a ≤ b → a ≢ b → a < b
              apart a b l ne = go (dec_lt a b)
                where
                  go : Dec (a < b) → a < b
                  go (yes y) = y
                  go (no y) = absurd (ne (omega arith))

          ends : AtBlocksEnd st (A (Empty2 i) (Idle No)) No
          ends =
              record {
                its = o.0.its;
                says_no = refl;
                unnamed = moment ∙ k.pending;
                before = k.before;
                load = k.load;
                since = k.since;
                is = k.is;
                its_own = k.own;
                loads = k.loads;
                begun = k.begun;
                nothing_waits = k.nothing;
                leaving = k.leaving (gap_between (position e.tail) (position i) far (sym sc.tails ∙ k.tails));
              }

          said : (a : Answer) → Idle No ≡ Idle a → Speaks st (A (Empty2 i) (Idle No)) a
          said a y =
              let one : No ≡ a = cc in
              subst (Speaks st (A (Empty2 i) (Idle No))) one (inr ends, meant st e sc w (Empty2 i) (Idle No) call.IsEmpty No plain.No refl refl (λ x n. absurd (no_cons n)) work)
