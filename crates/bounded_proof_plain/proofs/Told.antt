-- Along every schedule that keeps the window: the plain queue is the ring's, and every answer so far was that queue's.
use mathlib.Core.Path.{◌≡◌, refl, sym, ap, ◌∙◌, subst}
use mathlib.Core.Logic.{◌≢◌, ◌⊎◌, inl, inr}
use mathlib.Core.Bool.{Bool, true, false, cond}
use mathlib.Core.List.{List, [], ◌∷◌, ◌++◌, map}
use Prim.Native.Nat.{ℕ, ◌+◌, ◌<◌}
use native.Mathlib.Omega.{arith}
use native.Mathlib.Decide.{ℕ_discrete}
use lib.ListN.{length, get_or, set, length-append}
use lib.Seq.{get_or-set_same, get_or-set_other}
use Rattle.queue_entries.specs.Limits.{meter_most}
use Rattle.queue_entries.specs.declared.Call.{Call}
use Rattle.queue_entries.specs.declared.Call.TheVariants as call
use Rattle.queue_entries.specs.declared.Order.TheVariants.{Begin, Act}
use Rattle.queue_entries.specs.declared.Entry.{Entry}
use Rattle.queue_entries.specs.declared.Entry.TheVariants.{Asks}
use Rattle.queue_plain.specs.Plain.{Queue}
use Rattle.queue_plain.specs.Story.{Begun, Does, Doing, items_of, begun_in, acts_in}
use Rattle.queue_plain.proofs.Stories.{acts_end, queue_now, known_count}
use Rattle.queue_plain.proofs.Calls.{work_begun}
use Rattle.bounded_words.specs.declared.Fixed.{Fixed}
use Rattle.bounded_words.specs.declared.Width.{Width}
use Rattle.bounded_words.specs.Words.{mark_of, marked_of}
use Rattle.bounded_places.specs.declared.Ends.{Ends}
use Rattle.bounded_places.specs.declared.Answer.{Answer}
use Rattle.bounded_places.specs.declared.Place.{Place}
use Rattle.bounded_places.specs.declared.Place.TheVariants.{Idle}
use Rattle.bounded_places.specs.declared.Worker.{Worker}
use Rattle.bounded_places.specs.declared.Moved.{Moved}
use Rattle.bounded_places.specs.declared.Moved.TheVariants.{Neither, Tail, Head}
use Rattle.bounded_places.specs.Places.{view_of, begin_of}
use Rattle.bounded_acts.specs.declared.Acted.{Acted}
use Rattle.bounded_acts.specs.Acts.{act_of}
use Rattle.bounded_machine.specs.declared.Machine.{Machine}
use Rattle.bounded_machine.specs.declared.Event.{Event}
use Rattle.bounded_machine.specs.Machine.{slot, idler, place_of, ends_on}
use Rattle.bounded_machine.proofs.Kept.{few_workers}
use Rattle.bounded_machine.specs.Turn.{beginner, begun, acted, acted_by, stored}
use Rattle.bounded_machine.specs.History.{event, loss_at, moved_of}
use Rattle.bounded_demands.specs.Notions.{item_in, InWidestWindow}
use Rattle.bounded_demands.specs.Stories.{Story, known, change_of, actor, At, heard, moment_of}
use Rattle.bounded_demands.specs.Demands.{Answered, Meant, Changes}
use Rattle.bounded_proof_invariant.proofs.Upd.{upd, upd_same, upd_else}
use Rattle.bounded_proof_invariant.proofs.Ring.{Shared}
use Rattle.bounded_proof_invariant.proofs.Effects.{Effect, Still, Tailed, Taken, Grabbed, Forced, Fills, Swaps, Frees, Gives, after, same}
use Rattle.bounded_proof_each_act.proofs.Stamps.{fixed, marked_tail}
use Rattle.bounded_proof_each_act.proofs.Sight.{Age, look, Tale, Quiet, Heading, Tailing, Giving, tale, told, ends_of_ring, Recent}
use Rattle.bounded_proof_demand2.proofs.Turns.{Turned, began, did, stood, event_of}
use Rattle.bounded_proof_demand2.proofs.Lists.{Last, Earlier, split_end}
use Rattle.bounded_proof_demand2.proofs.Logged.{items_by, moved_by, shows}
use Rattle.bounded_proof_demand2.proofs.Pictured.{Base, Pictured, acted_pictured, stepped, coursed, spot, next, result, acted_stood, new_age}
use Rattle.bounded_proof_demand2.proofs.Reached.{Reached, grown, entered, begun_after, did_after, recent_in}
use Rattle.bounded_proof_plain.proofs.Shelf.{each_else, queue_act, moment_else, each_unbegun, queue_begun, moment_begun, Shelved, Moves, items_on, point_now}
use Rattle.bounded_proof_plain.proofs.Work.{Starts, task, Work, Set, then, SeenSome, NoneYet, SeenRoom, FullYet, Due, due_else}
use Rattle.bounded_proof_plain.proofs.Rows.{Outcome, Row, row}

-- ---- what an effect puts at tail

tailing : (t : Tale) (x : ℕ) → items_by t ≡ x ∷ [] → t ≡ Tailing x
tailing Quiet x e = absurd (let q : ◌≡◌ {A = ℕ} 0 1 = cc in omega arith)
tailing Heading x e = absurd (let q : ◌≡◌ {A = ℕ} 0 1 = cc in omega arith)
tailing (Tailing y) x e = ap Tailing (let q : y ≡ x = cc in q)
tailing (Giving v) x e = absurd (let q : ◌≡◌ {A = ℕ} 0 1 = cc in omega arith)

item_after : (c : ℕ) (s : Shared) (w i : ℕ) (e : Effect) (x : ℕ) → told e ≡ Tailing x → (after c w i e s).item s.tail ≡ x
item_after c s w i Still x h = absurd (let q : ◌≡◌ {A = ℕ} 0 1 = cc in omega arith)
item_after c s w i (Tailed y) x h = upd_same s.item s.tail y ∙ (let q : y ≡ x = cc in q)
item_after c s w i Taken x h = absurd (let q : ◌≡◌ {A = ℕ} 0 1 = cc in omega arith)
item_after c s w i Grabbed x h = absurd (let q : ◌≡◌ {A = ℕ} 0 1 = cc in omega arith)
item_after c s w i (Forced k y) x h = upd_same s.item s.tail y ∙ (let q : y ≡ x = cc in q)
item_after c s w i (Fills k a) x h = absurd (let q : ◌≡◌ {A = ℕ} 0 1 = cc in omega arith)
item_after c s w i (Swaps k a) x h = absurd (let q : ◌≡◌ {A = ℕ} 0 1 = cc in omega arith)
item_after c s w i (Frees k y) x h = absurd (let q : ◌≡◌ {A = ℕ} 0 1 = cc in omega arith)
item_after c s w i (Gives k y v) x h = absurd (let q : ◌≡◌ {A = ℕ} 0 1 = cc in omega arith)

-- ---- another's act: a looker whose moment is to come

module _ (c n ed : ℕ) (st : Story) (e : Event) (s u : Shared) (i w : ℕ) (far : w ≢ e.worker) (mv : Moves c s u e.worker i e.after) (b : Bool)
    (shelf : Shelved c u b (known c ed (st ++ Does e ∷ [])).queue) (age : Age) where
  abbrev st' : Story
  st' = st ++ Does e ∷ []

  longer : length (st ++ Does e ∷ []) ≡ length st + 1
  longer = length-append st (Does e ∷ []) ∙ omega arith

  set_here : moment_of c ed w st' ≡ At ((known c ed st).count + 1) → ((known c ed st).each w).begun < length st → Set c n ed st' u w u.tail u.head
  set_here named begun_before =
      record {
        moment = length st';
        named = named ∙ ap At (ap (λ (k : ℕ). k + 1) (known_count actor (change_of ed) c st) ∙ sym longer);
        begun = omega (arith, ap (λ (z : Doing). z.begun) (each_else c ed st e w far), longer);
        inside = omega arith;
        point = rw (queue_now actor (change_of ed) c st') (point_now c u b (known c ed st').queue mv.inv shelf);
      }

  then_here : (named : moment_of c ed w st' ≡ At ((known c ed st).count + 1)) (begun_before : ((known c ed st).each w).begun < length st) (P : Queue → Type 0)
      → P (known c ed st').queue → P (then c n ed (set_here named begun_before))
  unfolding set_here
  then_here named begun_before P p = rw (queue_now actor (change_of ed) c st') p

  pub some_else : Work c n ed st w call.IsEmpty [] [] → NoneYet c n ed st s age w → SeenSome c n ed st' u w ⊎ NoneYet c n ed st' u age w
  some_else work o = go (moved_of e.after) refl
    where
      stays : (m : Moved) → moved_of e.after ≡ m → (change_of ed e).puts ≡ false → u.tail ≡ s.tail → NoneYet c n ed st' u age w
      stays m q none even =
          record {
            pending = moment_else c ed st e w far ∙ ap (heard (change_of ed e) ((known c ed st).count + 1)) o.pending ∙ rw none;
            tail = even ∙ o.tail;
            head = omega (arith, o.tail, o.head, mv.heads, mv.inv.low);
          }

      go : (m : Moved) → moved_of e.after ≡ m → SeenSome c n ed st' u w ⊎ NoneYet c n ed st' u age w
      go Neither q = inr (stays Neither q (rw q) (mv.tails ∙ rw q (omega arith)))
      go Head q = inr (stays Head q (rw q) (mv.tails ∙ rw q (omega arith)))
      go Tail q =
          let named : moment_of c ed w st' ≡ At ((known c ed st).count + 1) =
          moment_else c ed st e w far ∙ ap (heard (change_of ed e) ((known c ed st).count + 1)) o.pending ∙ rw q in
          let up : u.tail ≡ s.tail + 1 = mv.tails ∙ rw q in
          let even : u.head ≡ s.head + 0 = mv.heads ∙ rw q in
          let some : 0 < length (known c ed st').queue.items = omega (arith, shelf.long, o.tail, o.head) in
          inl (record {
            tails = u.tail;
            heads = u.head;
            set = set_here named work.begun;
            some = then_here named work.begun (λ (z : Queue). 0 < length z.items) some;
          })

  pub room_else : Work c n ed st w call.IsFull [] [] → FullYet c n ed st s age w → SeenRoom c n ed st' u w ⊎ FullYet c n ed st' u age w
  room_else work o = go (moved_of e.after) refl
    where
      stays : (m : Moved) → moved_of e.after ≡ m → (change_of ed e).takes ≡ false → u.head ≡ s.head → FullYet c n ed st' u age w
      stays m q none even =
          record {
            pending = moment_else c ed st e w far ∙ ap (heard (change_of ed e) ((known c ed st).count + 1)) o.pending ∙ rw none;
            tail = omega (arith, o.tail, o.head, mv.tails, mv.inv.high);
            head = omega (arith, o.head);
          }

      go : (m : Moved) → moved_of e.after ≡ m → SeenRoom c n ed st' u w ⊎ FullYet c n ed st' u age w
      go Neither q = inr (stays Neither q (rw q) (mv.heads ∙ rw q (omega arith)))
      go Tail q = inr (stays Tail q (rw q) (mv.heads ∙ rw q (omega arith)))
      go Head q =
          let named : moment_of c ed w st' ≡ At ((known c ed st).count + 1) =
          moment_else c ed st e w far ∙ ap (heard (change_of ed e) ((known c ed st).count + 1)) o.pending ∙ rw q in
          let up : u.head ≡ s.head + 1 = mv.heads ∙ rw q in
          let even : u.tail ≡ s.tail + 0 = mv.tails ∙ rw q in
          let few : length (known c ed st').queue.items < c = omega (arith, shelf.long, o.tail, o.head) in
          inl (record {
            tails = u.tail;
            heads = u.head;
            set = set_here named work.begun;
            room = then_here named work.begun (λ (z : Queue). length z.items < c) few;
          })

claims_item : (t : Tale) → moved_by t ≡ Tail → (x : ℕ) × (items_by t ≡ x ∷ [])
claims_item Quiet e = absurd (let q : ◌≡◌ {A = ℕ} 0 1 = cc in omega arith)
claims_item Heading e = absurd (let q : ◌≡◌ {A = ℕ} 0 1 = cc in omega arith)
claims_item (Tailing x) e = (x, refl)
claims_item (Giving v) e = absurd (let q : ◌≡◌ {A = ℕ} 0 1 = cc in omega arith)

-- ---- what every reached machine and its story have behind them

module _ (bits : Width) (c n workers : ℕ) (base : Base bits c n workers) (ed : ℕ) where
  abbrev mark : ℕ
  mark = mark_of c

  pub record Told (m : Machine) (st : Story) : Type 0 where
    pub h : List Event
    pub acts : acts_in st ≡ h
    pub reached : Reached c n workers m h
    pub edition : m.ring.edition ≡ ed
    pub shelf : Shelved c reached.ring reached.pictured.shut (known c ed st).queue
    pub dues : (w : ℕ) → Due c n ed st reached.ring (reached.pictured.ages w) w (task (stood m w))
    pub answers : (earlier later : Story) (act : Event) (a : Answer) → st ≡ earlier ++ Does act ∷ later → act.after ≡ Idle a → Answered c ed earlier act a × Meant c ed earlier act a
    pub changes : (earlier later : Story) (act : Event) → st ≡ earlier ++ Does act ∷ later → Changes ed (known c ed earlier).queue act

  module _ (m : Machine) (st : Story) (o : Told m st) (w : ℕ) (l : w < m.count) where
    abbrev r : Reached c n workers m o.h
    r = o.reached

    abbrev s : Shared
    s = r.ring

    abbrev pic : Pictured c n workers o.reached.ring m
    pic = r.pictured

    -- ---- an act

    module _ (lose : Bool) (busy : (view_of (stood m w)).busy ≡ true) (young : Recent c mark n s (pic.ages w) (look c (stood m w))) (early : m.meter < meter_most) where
      abbrev pub i : ℕ
      i = spot bits c n workers base s m pic w l lose busy

      abbrev pub a : Acted
      a = result bits c n workers base s m pic w l lose busy

      abbrev pub u : Shared
      u = next bits c n workers base s m pic w l lose busy young

      abbrev pub act : Event
      act = event w (stood m w) a.place (loss_at bits m w lose)

      abbrev pub told_on : Story
      told_on = st ++ Does act ∷ []

      pub moves : Moves c s u w i a.place
      moves =
          let stp = stepped bits c n workers base s m pic w l lose busy young in
          let up = grown bits c n workers base m o.h r w l lose busy young in
          record {
            course = coursed bits c n workers base s m pic w l lose busy young;
            tails = up.0;
            heads = up.1;
            item = λ x e. item_after c s w i stp.effect x (sym stp.tells ∙ tailing _ x (sym (shows c a.place).0 ∙ e));
            inv = (acted_pictured bits c n workers base s m pic w l lose busy young early).inv;
          }

      pub outcome : Outcome bits c n ed base.ground st s pic.inv pic.shut o.shelf w i (pic.ages w) (loss_at bits m w lose) u (stood m w) a
      outcome =
          let z = get_or m.ring.slots i (slot 0 0) in
          let same_act : a ≡ act_of bits (fixed c mark ed) (ends_of_ring c mark n s pic.shut) (get_or m.ring.slots i (slot 0 0)) (stood m w) lose =
          ap (λ (f : Fixed). act_of bits f (ends_on m.ring) z (stood m w) lose) (pic.rule ∙ ap (fixed c mark) o.edition)
          ∙ ap (λ (x : Ends). act_of bits (fixed c mark ed) x z (stood m w) lose) pic.ends in
          subst (Row bits c n ed base.ground st s pic.inv pic.shut o.shelf w i (pic.ages w) (loss_at bits m w lose) (stood m w)) (sym same_act)
          (row bits c n ed base.ground st s pic.inv pic.shut o.shelf w i (pic.ages w) (loss_at bits m w lose) z (stood m w) lose busy (pic.stands w) young (o.dues w)) u moves

      pub new_item : moved_of a.place ≡ Tail → items_of ((known c ed st).each w).calls ≡ u.item s.tail ∷ []
      new_item e =
          let x = claims_item (tale (look c a.place)) (sym (shows c a.place).1 ∙ e) in
          let is : item_in a.place ≡ x.0 ∷ [] = (shows c a.place).0 ∙ x.1 in
          outcome.carries x.0 is ∙ ap (λ (y : ℕ). y ∷ []) (sym (moves.item x.0 is))

      shelf_on : Shelved c u (stepped bits c n workers base s m pic w l lose busy young).shut (known c ed told_on).queue
      shelf_on =
          let stp = stepped bits c n workers base s m pic w l lose busy young in
          let items = items_on c s u w i moves.course (moved_of a.place) moves.inv moves.tails moves.heads (known c ed st).queue.items
          (items_of ((known c ed st).each w).calls) new_item (o.shelf.long, o.shelf.at) in
          rw (queue_act c ed st act)
          (record {
            long = items.0;
            at = items.1;
            flag =
                ap (λ (z : Bool). cond (change_of ed act).closes true (cond (change_of ed act).opens false z)) o.shelf.flag ∙ sym outcome.flag
                ∙ ap (λ (z : Ends). marked_of (fixed c mark ed) z.tail) stp.ends ∙ marked_tail bits c mark n base.ground ed u.tail stp.shut;
            room = o.shelf.room;
          })

      due_other : (j : ℕ) → j ≢ w → Due c n ed told_on u (pic.ages j) j (task (stood m j))
      due_other j far =
          due_else c n ed st (Does act) s u w i j moves.course pic.inv far (each_else c ed st act j far)
          (λ k e. moment_else c ed st act j far ∙ ap (heard (change_of ed act) ((known c ed st).count + 1)) e) (pic.ages j)
          (some_else c n ed st act s u i j far moves _ shelf_on (pic.ages j)) (room_else c n ed st act s u i j far moves _ shelf_on (pic.ages j)) (task (stood m j)) (o.dues j)

      pub went : stood (acted bits m w (stood m w) lose) w ≡ a.place
      went = acted_stood bits c n workers base s m pic w l lose busy

      pub same_event : event_of bits m w lose (acted bits m w (stood m w) lose) ≡ act
      same_event = ap (λ (q : Place). event w (stood m w) q (loss_at bits m w lose)) went

      pub stood_else : (j : ℕ) → j ≢ w → stood (acted bits m w (stood m w) lose) j ≡ stood m j
      unfolding acted_by stored
      stood_else j far = ap (λ (z : Worker). z.place) (get_or-set_other m.workers w j _ idler far)

      same_edition : (acted bits m w (stood m w) lose).ring.edition ≡ m.ring.edition
      unfolding acted_by stored
      same_edition = refl

      due_each : (j : ℕ) → Due c n ed told_on u (upd pic.ages w (new_age bits c n workers base s m pic w l lose busy) j) j (task (stood (acted bits m w (stood m w) lose) j))
      due_each j = go (ℕ_discrete j w)
        where
          go : Dec (j ≡ w) → Due c n ed told_on u (upd pic.ages w (new_age bits c n workers base s m pic w l lose busy) j) j (task (stood (acted bits m w (stood m w) lose) j))
          go (yes e) = rw (e, upd_same pic.ages w (new_age bits c n workers base s m pic w l lose busy), went) outcome.due
          go (no far) = rw (upd_else pic.ages w j (new_age bits c n workers base s m pic w l lose busy) far, stood_else j far) (due_other j far)

      answers_on : (earlier later : Story) (e : Event) (x : Answer) → told_on ≡ earlier ++ Does e ∷ later → e.after ≡ Idle x → Answered c ed earlier e x × Meant c ed earlier e x
      answers_on earlier later e x q said = go (split_end st (Does act) earlier (Does e) later q)
        where
          go : Last st (Does act) earlier (Does e) later ⊎ Earlier st (Does act) earlier (Does e) later → Answered c ed earlier e x × Meant c ed earlier e x
          go (inr p) = o.answers earlier p.left e x p.was said
          go (inl p) =
              let one : e ≡ act = let y = p.one in cc in
              let place : a.place ≡ Idle x = ap (λ (z : Event). z.after) (sym one) ∙ said in
              let ended = outcome.said x place in
              rw (p.whole, one, place) ended

      changes_on : (earlier later : Story) (e : Event) → told_on ≡ earlier ++ Does e ∷ later → Changes ed (known c ed earlier).queue e
      changes_on earlier later e q = go (split_end st (Does act) earlier (Does e) later q)
        where
          go : Last st (Does act) earlier (Does e) later ⊎ Earlier st (Does act) earlier (Does e) later → Changes ed (known c ed earlier).queue e
          go (inr p) = o.changes earlier p.left e p.was
          go (inl p) =
              let one : e ≡ act = let y = p.one in cc in
              rw (p.whole, one) outcome.changes

      pub told_act : Told (acted bits m w (stood m w) lose) told_on
      told_act =
          let now = acted bits m w (stood m w) lose in
          let both =
          did_after bits c n workers base m o.h r w l lose busy young early
          (λ (z : Shared) (b : Bool) (ages : ℕ → Age). Shelved c z b (known c ed told_on).queue × ((j : ℕ) → Due c n ed told_on z (ages j) j (task (stood now j)))) (shelf_on, due_each) in
          record {
            h = o.h ++ event_of bits m w lose now ∷ [];
            acts = acts_end st (Does act) ∙ ap (λ (z : List Event). z ++ act ∷ []) o.acts ∙ ap (λ (z : Event). o.h ++ z ∷ []) (sym same_event);
            reached = entered bits c n workers base m o.h (Asks w (Act lose)) now (event_of bits m w lose now ∷ []) r young (did w lose l busy early);
            edition = same_edition ∙ o.edition;
            shelf = both.0;
            dues = both.1;
            answers = answers_on;
            changes = changes_on;
          }

      -- ring and ages behind it
      pub act_behind : (Q : Shared → (ℕ → Age) → Type 0) → Q u (upd pic.ages w (new_age bits c n workers base s m pic w l lose busy))
          → Q told_act.reached.ring told_act.reached.pictured.ages
      unfolding told_act
      act_behind Q o = did_after bits c n workers base m _ r w l lose busy young early (λ (z : Shared) (b : Bool) (ages : ℕ → Age). Q z ages) o

    -- ---- a call begun

    module _ (cl : Call) (idle : (view_of (stood m w)).busy ≡ false) where
      abbrev begun_on : Story
      begun_on = st ++ Begun w cl ∷ []

      longer_begun : length (st ++ Begun w cl ∷ []) ≡ length st + 1
      longer_begun = length-append st (Begun w cl ∷ []) ∙ omega arith

      begun_edition : (begun m w (begin_of cl)).ring.edition ≡ m.ring.edition
      unfolding begun
      begun_edition = refl

      -- it starts with nothing put in or taken out
      starts : Work c n ed begun_on w cl [] []
      starts = work_begun actor (change_of ed) c st w cl

      begun_task : (b : Call) → task (begin_of b) ≡ Starts b
      begun_task (call.Push x) = refl
      begun_task (call.ForcePush x) = refl
      begun_task call.Pop = refl
      begun_task call.Len = refl
      begun_task call.IsEmpty = refl
      begun_task call.IsFull = refl
      begun_task call.Close = refl
      begun_task call.IsClosed = refl

      due_begun : (j : ℕ) → Due c n ed begun_on s (pic.ages j) j (task (stood (begun m w (begin_of cl)) j))
      unfolding begun
      due_begun j = go (ℕ_discrete j w)
        where
          go : Dec (j ≡ w) → Due c n ed begun_on s (pic.ages j) j (task (place_of (set m.workers w (beginner (begin_of cl))) j))
          go (yes e) =
              rw e (subst (λ (z : Worker). Due c n ed begun_on s (pic.ages w) w (task z.place))
              (sym (get_or-set_same m.workers w (beginner (begin_of cl)) idler (omega (arith, pic.workers_long, few_workers m pic.unbroken)))) (rw (begun_task cl) starts))
          go (no far) =
              subst (λ (z : Worker). Due c n ed begun_on s (pic.ages j) j (task z.place)) (sym (get_or-set_other m.workers w j (beginner (begin_of cl)) idler far))
              (due_else c n ed st (Begun w cl) s s w 0 j (same refl) pic.inv far (each_unbegun c ed st w cl j far) (λ k e. moment_begun c ed st w cl j ∙ e) (pic.ages j)
              (λ work p. inr (record { pending = moment_begun c ed st w cl j ∙ p.pending; tail = p.tail; head = p.head }))
              (λ work p. inr (record { pending = moment_begun c ed st w cl j ∙ p.pending; tail = p.tail; head = p.head })) (task (stood m j)) (o.dues j))

      pub told_begun : Told (begun m w (begin_of cl)) begun_on
      told_begun =
          let now = begun m w (begin_of cl) in
          let both =
          begun_after bits c n workers base m o.h r w l cl idle
          (λ (z : Shared) (b : Bool) (ages : ℕ → Age). Shelved c z b (known c ed begun_on).queue
          × ((j : ℕ) → Due c n ed begun_on z (ages j) j (task (stood now j)))) (rw (queue_begun c ed st w cl) o.shelf, due_begun) in
          record {
            h = o.h ++ [];
            acts = acts_end st (Begun w cl) ∙ ap (λ (z : List Event). z ++ []) o.acts;
            reached = entered bits c n workers base m o.h (Asks w (Begin cl)) now [] r tt (began w cl l idle);
            edition = begun_edition ∙ o.edition;
            shelf = both.0;
            dues = both.1;
            answers = λ earlier later e x q said. go_answer earlier later e x said (split_end st (Begun w cl) earlier (Does e) later q);
            changes = λ earlier later e q. go_change earlier later e (split_end st (Begun w cl) earlier (Does e) later q);
          }
        where
          go_answer : (earlier later : Story) (e : Event) (x : Answer) → e.after ≡ Idle x → Last st (Begun w cl) earlier (Does e) later ⊎ Earlier st (Begun w cl) earlier (Does e) later
              → Answered c ed earlier e x × Meant c ed earlier e x
          go_answer earlier later e x said (inr p) = o.answers earlier p.left e x p.was said
          go_answer earlier later e x said (inl p) = absurd (let y = p.one in let q : ◌≡◌ {A = ℕ} 0 1 = cc in omega arith)

          go_change : (earlier later : Story) (e : Event) → Last st (Begun w cl) earlier (Does e) later ⊎ Earlier st (Begun w cl) earlier (Does e) later → Changes ed (known c ed earlier).queue e
          go_change earlier later e (inr p) = o.changes earlier p.left e p.was
          go_change earlier later e (inl p) = absurd (let y = p.one in let q : ◌≡◌ {A = ℕ} 0 1 = cc in omega arith)

      pub begun_behind : (Q : Shared → (ℕ → Age) → Type 0) → Q s pic.ages → Q told_begun.reached.ring told_begun.reached.pictured.ages
      unfolding told_begun
      begun_behind Q o = begun_after bits c n workers base m _ r w l cl idle (λ (z : Shared) (b : Bool) (ages : ℕ → Age). Q z ages) o

  -- every accepted entry leads on
  pub told_kept : (m : Machine) (st : Story) (en : Entry) (after_it : Machine) (acts : List Event) → Told m st → InWidestWindow bits m (acts_in st)
      → Turned bits m en after_it acts → Told after_it (st ++ (begun_in en ++ map Does acts))
  told_kept m st en after_it acts o window (began w cl l idle) = told_begun m st o w l cl idle
  told_kept m st en after_it acts o window (did w lose l busy early) =
      let young = recent_in bits c n workers base m o.h o.reached (subst (InWidestWindow bits m) o.acts window) w in
      subst (λ (e : Event). Told (acted bits m w (stood m w) lose) (st ++ Does e ∷ [])) (sym (same_event m st o w l lose busy young early)) (told_act m st o w l lose busy young early)
