-- Along every schedule: the plain queue is the slot's, and every answer so far was that queue's.
use Prim.Native.Nat.{ℕ, ◌≤◌, ◌<◌}
use native.Mathlib.Omega.{arith}
use native.Mathlib.Decide.{ℕ_discrete}
use mathlib.Core.Path.{◌≡◌, refl, sym, ap, ◌∙◌, subst}
use mathlib.Core.Logic.{◌≢◌, ◌⊎◌, inl, inr}
use mathlib.Core.Bool.{Bool, true, false, cond, true≢false}
use mathlib.Core.List.{List, [], ◌∷◌, ◌++◌, map, append-nil}
use lib.Dec.{eqb}
use lib.ListN.{length, drop}
use Rattle.queue_entries.specs.declared.Call.{Call}
use Rattle.queue_entries.specs.declared.Call.TheVariants as call
use Rattle.queue_entries.specs.declared.Entry.{Entry}
use Rattle.queue_schedules.proofs.Splits.{Order, earlier, same, later, one_more, no_split}
use Rattle.queue_plain.specs.Plain.{Reply, Queue, answer_of}
use Rattle.queue_plain.specs.Plain as plain
use Rattle.queue_plain.specs.Story.{Begun, Does, Doing, items_of, begun_in, acts_in}
use Rattle.queue_plain.proofs.Stories.{acts_end, each_own, each_else, queue_act, each_unbegun, queue_begun, capacity_is}
use Rattle.queue_plain.proofs.Calls.{work_begun, back_came}
use Rattle.single_words.specs.declared.State.{State}
use Rattle.single_words.specs.Words.{state}
use Rattle.single_places.specs.declared.Single.{Single}
use Rattle.single_places.specs.declared.Answer.{Answer}
use Rattle.single_places.specs.declared.Place.{Place}
use Rattle.single_places.specs.declared.Place.TheVariants.{Idle, B1}
use Rattle.single_places.specs.Places.{view_of, begin_of}
use Rattle.single_acts.specs.declared.Acted.{Acted}
use Rattle.single_acts.specs.Acts.{act_of}
use Rattle.single_machine.specs.declared.Machine.{Machine}
use Rattle.single_machine.specs.declared.Event.{Event}
use Rattle.single_machine.specs.Turn.{begun, acted}
use Rattle.single_machine.specs.History.{event}
use Rattle.single_demands.specs.Notions.{Access, none, writes, swaps, reads, access_of, item_of, is_read, waits_after, waiting, is_close, closed_by}
use Rattle.single_demands.specs.Stories.{Element, Story, known, change_of, actor, room_taken, asked_at, moment_of}
use Rattle.single_demands.specs.Demands.{Answered, Meant, Changes}
use Rattle.single_proof_demand2.proofs.Log.{waiting_more, closed_more}
use Rattle.single_proof_demand2.proofs.Words.{word, pushed_of}
use Rattle.single_proof_demand2.proofs.Effects.{Hand, free, fills, holding, access_by, Opens, opens_put, opens_swap, opens_take, Expects, Effect, effect}
use Rattle.single_proof_demand2.proofs.Grip.{Grip, loose, held, Rests}
use Rattle.single_proof_demand2.proofs.Turns.{Turned, began, did, stood}
use Rattle.single_proof_demand2.proofs.Reached.{Reached, hands, in_row, begun_stood, begun_else, begun_reached, acted_stood, acted_else, acted_single, acted_reached}
use Rattle.single_proof_demand2.proofs.Hands.{pushed}
use Rattle.single_proof_plain.proofs.Work.{moment_else, moment_begun, room_begun, longer, asked_past, Work, Spoken, Due, due_else}
use Rattle.single_proof_plain.proofs.Rows.{Scene, Outcome, row, goes_back}
use Rattle.single_proof_plain.proofs.Slot.{item_of_lem, closing, item_written, Takes, kind_of, value_kept, room_in, room_some, room_word, room_on}

-- ---- an exchange that takes the slot: what it makes of the items, and where it may

items_by : (b : Bool) (g : Hand) (items came was : List ℕ) → Opens b g → length items ≡ cond b 1 0 → ((x : ℕ) → item_of (access_by g) ≡ x ∷ [] → came ≡ x ∷ [])
    → cond (is_read (access_by g)) (drop 1 items) items ++ cond (eqb (length (item_of (access_by g))) 1) came [] ≡ waits_after (access_by g) was
items_by b g [] came was (opens_put {x = x}) long item = item x refl
items_by b g (y ∷ items) came was opens_put long item = absurd (omega arith)
items_by b g [] came was opens_swap long item = absurd (omega arith)
items_by b g (y ∷ []) came was (opens_swap {x = x}) long item = item x refl
items_by b g (y ∷ z ∷ items) came was opens_swap long item = absurd (omega arith)
items_by b g [] came was opens_take long item = absurd (omega arith)
items_by b g (y ∷ []) came was opens_take long item = refl
items_by b g (y ∷ z ∷ items) came was opens_take long item = absurd (omega arith)

takes_some : (b : Bool) (g : Hand) → Opens b g → is_read (access_by g) ≡ true → b ≡ true
takes_some b g opens_put e = absurd (true≢false (sym e))
takes_some b g opens_swap e = refl
takes_some b g opens_take e = refl

takes_none : (b : Bool) (g : Hand) → Opens b g → is_read (access_by g) ≡ false → b ≡ false
takes_none b g opens_put e = refl
takes_none b g opens_swap e = absurd (true≢false e)
takes_none b g opens_take e = absurd (true≢false e)

written_by : (a : Access) → eqb (length (item_of a)) 1 ≡ true → (x : ℕ) × (item_of a ≡ x ∷ [])
written_by none e = absurd (true≢false (sym e))
written_by (writes x) e = (x, refl)
written_by (swaps x) e = (x, refl)
written_by reads e = absurd (true≢false (sym e))

-- a call that begins
begun_due : (st : Story) (v w : ℕ) (c : Call) → Work st w c [] [] → Due st v w (begin_of c)
begun_due st v w (call.Push x) o = o
begun_due st v w (call.ForcePush x) o = o
begun_due st v w call.Pop o = o
begun_due st v w call.Len o = o
begun_due st v w call.IsEmpty o = o
begun_due st v w call.IsFull o = o
begun_due st v w call.Close o = o
begun_due st v w call.IsClosed o = o

begun_single : (m : Machine) (w : ℕ) (q : Place) → (begun m w q).single ≡ m.single
unfolding begun
begun_single m w q = refl

-- ---- what every reached machine and its story have behind them

module _ (workers : ℕ) where
  pub record Told (m : Machine) (st : Story) : Type 0 where
    pub reached : Reached workers m (acts_in st)
    pub items : (known st).queue.items ≡ waiting (acts_in st)
    pub flag : (known st).queue.closed ≡ closed_by (acts_in st)
    pub room : room_taken st ≡ room_in m.single.state
    pub dues : (w : ℕ) → Due st m.single.value w (stood m w)
    pub answers : (xs ys : Story) (act : Event) (a : Answer) → st ≡ xs ++ Does act ∷ ys → act.after ≡ Idle a → Answered xs act a × Meant xs act a
    pub changes : (xs ys : Story) (act : Event) → st ≡ xs ++ Does act ∷ ys → Changes xs act

  module _ (m : Machine) (st : Story) (o : Told m st) where
    abbrev r : Reached workers m (acts_in st)
    r = o.reached

    abbrev s : Single
    s = m.single

    abbrev c : Bool
    c = r.closed

    -- the word's bits, and whose hand they tell of
    pub record Bits : Type 0 where
      pub l : Bool
      pub b : Bool
      pub scene : Scene st m.single l b o.reached.closed
      pub hold : (w : ℕ) → holding (hands m w) ≡ true → (l ≡ true) × (b ≡ fills (hands m w))

    pub bits : Bits
    bits = go r.grip
      where
        long : (l b : Bool) → s.state ≡ word l b c → length (known st).queue.items ≡ cond b 1 0
        long l b is =
            ap length o.items ∙ sym (pushed workers m (acts_in st) r) ∙ ap (λ (z : Bool). cond z 1 0) (pushed_of s.state l b c is)

        go : Grip (hands m) m.single (acts_in st) o.reached.closed → Bits
        go (loose b is free_all rest) =
            record {
              l = false;
              b = b;
              scene =
                  record {
                    is = is;
                    flag = o.flag ∙ sym r.closed_is;
                    long = long false b is;
                    rests = λ z e. o.items ∙ (subst (Rests (acts_in st) s.value) e rest).0;
                    room = o.room ∙ room_word s.state false b c is;
                  };
              hold = λ w e. absurd (true≢false (sym e ∙ ap holding (free_all w)));
            }
        go (held u g hu is alone d) =
            record {
              l = true;
              b = fills g;
              scene =
                  record {
                    is = is;
                    flag = o.flag ∙ sym r.closed_is;
                    long = long true (fills g) is;
                    rests = λ z e. absurd (true≢false z);
                    room = o.room ∙ room_word s.state true (fills g) c is;
                  };
              hold = λ w e. by w e (ℕ_discrete w u);
            }
          where
            by : (w : ℕ) → holding (hands m w) ≡ true → Dec (w ≡ u) → (true ≡ true) × (fills g ≡ fills (hands m w))
            by w e (yes z) = (refl, ap fills (sym (ap (hands m) z ∙ hu)))
            by w e (no ne) = absurd (true≢false (sym e ∙ ap holding (alone w ne)))

    -- beside a worker that has the slot in hand another has not
    other_free : (j w : ℕ) → j ≢ w → holding (hands m j) ≡ true → hands m w ≡ free
    other_free j w ne e = go r.grip
      where
        go : Grip (hands m) m.single (acts_in st) o.reached.closed → hands m w ≡ free
        go (loose b is free_all rest) = free_all w
        go (held u g hu is alone d) = by (ℕ_discrete w u)
          where
            by : Dec (w ≡ u) → hands m w ≡ free
            by (no far) = alone w far
            by (yes z) = absurd (true≢false (sym e ∙ ap holding (alone j (λ y. ne (y ∙ sym z)))))

    module _ (w : ℕ) (mine : w < m.count) where
      -- ---- an act
      module _ (busy : (view_of (stood m w)).busy ≡ true) where
        abbrev p : Place
        p = stood m w

        abbrev a : Acted
        a = act_of m.single (stood m w)

        abbrev act : Event
        act = event w (stood m w) (act_of m.single (stood m w)).place

        abbrev st' : Story
        st' = st ++ Does act ∷ []

        eff : Effect s bits.l bits.b c p a
        eff = effect s bits.l bits.b c bits.scene.is p busy (r.expects w)

        out : Outcome st s bits.l bits.b c bits.scene w p a.place a.single.value
        out = row st s bits.l bits.b c bits.scene w p busy (r.expects w) (o.dues w)

        own : ((known st').each w).calls ≡ ((known st).each w).calls
        own = ap (λ (z : Doing). z.calls) (each_own actor change_of 1 st act)

        item : (x : ℕ) → item_of (access_of a.place) ≡ x ∷ [] → items_of ((known st).each w).calls ≡ x ∷ []
        item x e = sym (ap items_of own) ∙ item_of_lem st' a.single.value w a.place out.due x (item_written a.place x e)

        items_on : (known st').queue.items ≡ waiting (acts_in st')
        items_on =
            ap (λ (z : Queue). z.items) (queue_act actor change_of 1 st act) ∙ go (kind_of s bits.l bits.b c p a eff) ∙ sym (waiting_more (acts_in st) act)
            ∙ ap waiting (sym (acts_end st (Does act)))
          where
            Becomes : Access → Type 0
            Becomes z =
                cond (is_read z) (drop 1 (known st).queue.items) (known st).queue.items ++ cond (eqb (length (item_of z)) 1)
                (items_of ((known st).each w).calls) [] ≡ waits_after z (waiting (acts_in st))

            go : (access_of a.place ≡ none) ⊎ Takes s bits.l bits.b c p a.place → Becomes (access_of a.place)
            go (inl e) = subst Becomes (sym e) (append-nil (known st).queue.items ∙ o.items)
            go (inr t) =
                subst Becomes (sym t.is)
                (items_by bits.b t.hand (known st).queue.items (items_of ((known st).each w).calls) (waiting (acts_in st)) t.opens bits.scene.long
                (λ x e. item x (ap item_of t.is ∙ e)))

        flag_on : (known st').queue.closed ≡ closed_by (acts_in st')
        flag_on =
            ap (λ (z : Queue). z.closed) (queue_act actor change_of 1 st act) ∙ ap (λ (z : Bool). cond (is_close p) true z) o.flag ∙ sym (closed_more (acts_in st) act)
            ∙ ap closed_by (sym (acts_end st (Does act)))

        -- ---- its answer
        answered : (x : Answer) → Spoken st' w x → Answered st act x
        answered x z =
            let d = z.decided in
            let begun_same : ((known st').each w).begun ≡ ((known st).each w).begun = ap (λ (y : Doing). y.begun) (each_own actor change_of 1 st act) in
            let inside : moment_of w st' ≤ length st = omega (arith, d.inside, longer st (Does act)) in
            record {
              call = z.call;
              its = sym own ∙ d.work.its;
              moment = moment_of w st';
              named = refl;
              begun = omega (arith, begun_same, d.begun);
              inside = inside;
              plain = ap (λ (y : Reply). y ∷ []) (ap (λ (q : Queue). answer_of q z.call) (sym (asked_past st (Does act) (moment_of w st') z.call inside)) ∙ d.plain) ∙ sym z.says;
            }

        meant : (x : Answer) → Spoken st' w x → Meant st act x
        meant x z =
            let d = z.decided in
            let its : ((known st).each w).calls ≡ z.call ∷ [] = sym own ∙ d.work.its in
            record {
              put =
                  d.work.puts ∙ ap (λ (y : List Call). plain.put_by (items_of y) z.reply) (sym its)
                  ∙ ap (plain.meaning_of (plain.put_by (items_of ((known st).each w).calls))) (sym z.says);
              took = d.work.takes ∙ ap (plain.meaning_of plain.taken_by) (sym z.says);
              back =
                  λ y e. ap items_of its
                  ∙ back_came (asked_at (moment_of w st') st' z.call) z.call y (ap plain.given_back d.plain ∙ sym (ap (plain.meaning_of plain.given_back) z.says) ∙ e);
              closed =
                  λ e. ap (λ (q : Queue). q.closed) (queue_act actor change_of 1 st act)
                  ∙ ap (λ (y : Bool). cond y true (known st).queue.closed) (closing st s.value w p busy (o.dues w) e);
            }

        -- ---- what it changes
        changed : Changes st act
        changed = go (kind_of s bits.l bits.b c p a eff)
          where
            size : (y : Bool) → bits.b ≡ y → length (known st).queue.items ≡ cond y 1 0
            size y e = bits.scene.long ∙ ap (λ (z : Bool). cond z 1 0) e

            back : (e : State) (x : ℕ) → p ≡ B1 e x → 0 < room_taken st → (known st).queue.closed ≡ false → a.place ≡ B1 (state 0) x
            back e x at taken open_now =
                let z = room_some bits.l bits.b (subst (λ (n : ℕ). 0 < n) bits.scene.room taken) in
                ap (λ (y : Place). (act_of s y).place) at
                ∙ goes_back st s bits.l bits.b c bits.scene w e x (subst Expects at (r.expects w)) z.0 z.1 (sym bits.scene.flag ∙ open_now)

            go : (access_of a.place ≡ none) ⊎ Takes s bits.l bits.b c p a.place → Changes st act
            go (inl e) =
                record {
                  takes = λ y. absurd (no_take y);
                  puts = λ y z. absurd (no_put y);
                  full = λ y z. absurd (no_put y);
                  while_open = λ y. absurd (no_put y);
                  let_go = λ y. absurd (neither y);
                  goes_back = back;
                }
              where
                no_take : (change_of act).takes ≡ true → ⊥
                no_take y = true≢false (sym y ∙ ap is_read e)

                no_put : (change_of act).puts ≡ true → ⊥
                no_put y = true≢false (sym y ∙ ap (λ (z : Access). eqb (length (item_of z)) 1) e)

                neither : ((change_of act).takes ≡ true) ⊎ ((change_of act).puts ≡ true) → ⊥
                neither (inl y) = no_take y
                neither (inr y) = no_put y
            go (inr t) =
                record {
                  takes = λ y. omega (arith, size true (takes_some bits.b t.hand t.opens (sym (ap is_read t.is) ∙ y)));
                  puts =
                      λ y z. omega (arith, size false (takes_none bits.b t.hand t.opens (sym (ap is_read t.is) ∙ z)), capacity_is actor change_of 1 st);
                  full =
                      λ y z. size true (takes_some bits.b t.hand t.opens (sym (ap is_read t.is) ∙ z)) ∙ sym (capacity_is actor change_of 1 st);
                  while_open = λ y. let x = written_by (access_of a.place) y in bits.scene.flag ∙ out.while_open x.0 x.1;
                  let_go = λ y. bits.scene.room ∙ ap (λ (z : Bool). cond z (cond bits.b 0 1) 0) t.unlocked_then;
                  goes_back = back;
                }

        -- ---- one act more
        abbrev next : Machine
        next = acted m w (stood m w)

        went : stood next w ≡ a.place
        went = acted_stood m w p (in_row workers m (acts_in st) r w mine)

        due_each : (j : ℕ) → Due st' next.single.value j (stood next j)
        due_each j = subst (λ (z : Single). Due st' z.value j (stood next j)) (sym (acted_single m w p)) (go (ℕ_discrete j w))
          where
            go : Dec (j ≡ w) → Due st' a.single.value j (stood next j)
            go (yes e) = subst (λ (i : ℕ). Due st' a.single.value i (stood next i)) (sym e) (subst (Due st' a.single.value w) (sym went) out.due)
            go (no ne) =
                subst (Due st' a.single.value j) (sym (acted_else m w p j ne))
                (due_else st (Does act) j s.value a.single.value (each_else actor change_of 1 st act j ne) (moment_else st act j ne) (stood m j)
                (λ e. value_kept s bits.l bits.b c p a eff (other_free j w ne e)) (o.dues j))

        told_q : Told next st'
        told_q =
            record {
              reached =
                  subst (Reached workers next) (sym (acts_end st (Does act)))
                  (subst (λ (x : Place). Reached workers next (acts_in st ++ event w p x ∷ [])) went (acted_reached workers m (acts_in st) r w mine busy));
              items = items_on;
              flag = flag_on;
              room =
                  room_on st s bits.l bits.b c bits.scene.is bits.scene.room w p (bits.hold w) a eff
                  ∙ ap (λ (z : Single). room_in z.state) (sym (acted_single m w p));
              dues = due_each;
              answers = λ xs ys e x q said. go_answer xs ys e x said (one_more st (Does act) xs ys (Does e) q);
              changes = λ xs ys e q. go_change xs ys e (one_more st (Does act) xs ys (Does e) q);
            }
          where
            go_answer : (xs ys : Story) (e : Event) (x : Answer) → e.after ≡ Idle x → Order xs (Does e) ys st (Does act) [] → Answered xs e x × Meant xs e x
            go_answer xs ys e x said (earlier zs was left) = o.answers xs zs e x was said
            go_answer xs ys e x said (same whole one rest) =
                let is : e ≡ act = cc in
                let spoken = out.said x (ap (λ (z : Event). z.after) (sym is) ∙ said) in
                rw (whole, is) (answered x spoken, meant x spoken)
            go_answer xs ys e x said (later zs was left) = absurd (no_split zs (Does e) ys left)

            go_change : (xs ys : Story) (e : Event) → Order xs (Does e) ys st (Does act) [] → Changes xs e
            go_change xs ys e (earlier zs was left) = o.changes xs zs e was
            go_change xs ys e (same whole one rest) = let is : e ≡ act = cc in rw (whole, is) changed
            go_change xs ys e (later zs was left) = absurd (no_split zs (Does e) ys left)

        pub told_act : Told next (st ++ Does (event w p (stood next w)) ∷ [])
        told_act = subst (λ (x : Place). Told next (st ++ Does (event w p x) ∷ [])) (sym went) told_q

      -- ---- a call begun
      module _ (cl : Call) (idle : (view_of (stood m w)).busy ≡ false) where
        abbrev begun_on : Story
        begun_on = st ++ Begun w cl ∷ []

        abbrev new : Machine
        new = begun m w (begin_of cl)

        same_acts : acts_in begun_on ≡ acts_in st
        same_acts = acts_end st (Begun w cl) ∙ append-nil (acts_in st)

        due_begun : (j : ℕ) → Due begun_on new.single.value j (stood new j)
        due_begun j = subst (λ (z : Single). Due begun_on z.value j (stood new j)) (sym (begun_single m w (begin_of cl))) (go (ℕ_discrete j w))
          where
            go : Dec (j ≡ w) → Due begun_on s.value j (stood new j)
            go (yes e) =
                subst (λ (i : ℕ). Due begun_on s.value i (stood new i)) (sym e)
                (subst (Due begun_on s.value w) (sym (begun_stood m w (begin_of cl) (in_row workers m (acts_in st) r w mine)))
                (begun_due begun_on s.value w cl (work_begun actor change_of 1 st w cl)))
            go (no ne) =
                subst (Due begun_on s.value j) (sym (begun_else m w (begin_of cl) j ne))
                (due_else st (Begun w cl) j s.value s.value (each_unbegun actor change_of 1 st w cl j ne) (moment_begun st w cl j) (stood m j) (λ e. refl) (o.dues j))

        pub told_begun : Told new begun_on
        told_begun =
            record {
              reached = subst (Reached workers new) (sym same_acts) (begun_reached workers m (acts_in st) r w mine cl idle);
              items = ap (λ (z : Queue). z.items) (queue_begun actor change_of 1 st w cl) ∙ o.items ∙ ap waiting (sym same_acts);
              flag = ap (λ (z : Queue). z.closed) (queue_begun actor change_of 1 st w cl) ∙ o.flag ∙ ap closed_by (sym same_acts);
              room = room_begun st w cl ∙ o.room ∙ ap (λ (z : Single). room_in z.state) (sym (begun_single m w (begin_of cl)));
              dues = due_begun;
              answers = λ xs ys e x q said. go_answer xs ys e x said (one_more st (Begun w cl) xs ys (Does e) q);
              changes = λ xs ys e q. go_change xs ys e (one_more st (Begun w cl) xs ys (Does e) q);
            }
          where
            no_begin : (e : Event) → ◌≡◌ {A = Element} (Does e) (Begun w cl) → ⊥
            no_begin e y = let q : ◌≡◌ {A = ℕ} 0 1 = cc in omega arith

            go_answer : (xs ys : Story) (e : Event) (x : Answer) → e.after ≡ Idle x → Order xs (Does e) ys st (Begun w cl) [] → Answered xs e x × Meant xs e x
            go_answer xs ys e x said (earlier zs was left) = o.answers xs zs e x was said
            go_answer xs ys e x said (same whole one rest) = absurd (no_begin e one)
            go_answer xs ys e x said (later zs was left) = absurd (no_split zs (Does e) ys left)

            go_change : (xs ys : Story) (e : Event) → Order xs (Does e) ys st (Begun w cl) [] → Changes xs e
            go_change xs ys e (earlier zs was left) = o.changes xs zs e was
            go_change xs ys e (same whole one rest) = absurd (no_begin e one)
            go_change xs ys e (later zs was left) = absurd (no_split zs (Does e) ys left)

  -- every accepted entry leads on
  pub told_kept : (m : Machine) (st : Story) (en : Entry) (next : Machine) (acts : List Event) → Told m st → Turned m en next acts → Told next (st ++ (begun_in en ++ map Does acts))
  told_kept m st en next acts o (began w cl mine idle) = told_begun m st o w mine cl idle
  told_kept m st en next acts o (did w lose mine busy early) = told_act m st o w mine busy
