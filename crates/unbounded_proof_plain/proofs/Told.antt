-- Along every schedule: the plain queue is the one that the words stand for, and every answer so far was that queue's.
use Prim.Native.Nat.{ℕ, suc, ◌+◌, ◌/◌, ◌%◌, ◌≤◌, ◌<◌}
use native.Mathlib.Omega.{arith}
use native.Mathlib.Decide.{ℕ_discrete, dec_lt}
use mathlib.Core.Path.{◌≡◌, refl, sym, ap, ◌∙◌, subst}
use mathlib.Core.Logic.{◌≢◌, ◌⊎◌, inl, inr}
use mathlib.Core.Bool.{Bool, true, false, cond, true≢false}
use mathlib.Core.List.{List, [], ◌∷◌, ◌++◌, append-nil, append_assoc}
use lib.Dec.{eqb}
use lib.ListN.{length, get_or, drop, length-append, get_or-append}
use lib.Seq.{drop-cons, drop-append-le}
use Rattle.queue_entries.specs.Limits.{workers_most}
use Rattle.queue_entries.specs.declared.Call.{Call}
use Rattle.queue_entries.specs.declared.Call.TheVariants as call
use Rattle.queue_entries.specs.declared.Entry.{Entry}
use Rattle.queue_schedules.proofs.Splits.{no_cons, Order, earlier, same, later, one_more, no_split}
use Rattle.queue_plain.specs.Plain.{Queue}
use Rattle.queue_plain.specs.Story.{Begun, Does, Doing, items_of, elements_by, acts_in}
use Rattle.queue_plain.proofs.Stories.{acts_end, known_count, each_else, queue_act, queue_now, each_unbegun, queue_begun}
use Rattle.queue_plain.proofs.Calls.{work_begun}
use Rattle.unbounded_words.specs.declared.Index.{Index}
use Rattle.unbounded_words.specs.Words.{sizes, marked_of, count_of}
use Rattle.unbounded_places.specs.declared.Slot.{Slot}
use Rattle.unbounded_places.specs.declared.Ends.{Ends}
use Rattle.unbounded_places.specs.declared.Answer.{Answer}
use Rattle.unbounded_places.specs.declared.Answer.TheVariants.{Popped, Yes}
use Rattle.unbounded_places.specs.declared.Place.{Place}
use Rattle.unbounded_places.specs.declared.Place.TheVariants.{Idle, Empty2}
use Rattle.unbounded_places.specs.Places.{view_of, begin_of}
use Rattle.unbounded_acts.specs.declared.Acted.{Acted}
use Rattle.unbounded_acts.specs.Acts.{act_of}
use Rattle.unbounded_machine.specs.declared.Machine.{Machine}
use Rattle.unbounded_machine.specs.declared.Event.{Event}
use Rattle.unbounded_machine.specs.Machine.{block_at, slot_at}
use Rattle.unbounded_machine.specs.Turn.{lowest_free, cleared, block_used, slot_used, begun, stored, acted_at}
use Rattle.unbounded_machine.specs.History.{event, events_of}
use Rattle.unbounded_demands.specs.Notions.{Pushing, sign_of, item_of, takes, takers_of, LatestIn, ItemIn, waiting, position, Truth}
use Rattle.unbounded_demands.specs.Notions as notions
use Rattle.unbounded_demands.specs.Claims.{CallClaim, WrittenIn}
use Rattle.unbounded_demands.specs.Stories.{Story, task_of, closes, change_of, actor, known, queue_at, At, AfterNextTail, heard, moment_of, place_in, Emptying, Filling}
use Rattle.unbounded_demands.specs.Demands.{YesAtBlocksEnd, Changes, OwnClaim}
use Rattle.unbounded_proof_invariant.proofs.Queue.{Shared}
use Rattle.unbounded_proof_words.proofs.Words.{half, bit}
use Rattle.unbounded_proof_words.proofs.Stands.{ends_of_ring}
use Rattle.unbounded_proof_each_act.proofs.Step.{counted, TellsTrue, tale_of, Logs, puts, neither, Step}
use Rattle.unbounded_proof_each_act.proofs.Step as step
use Rattle.unbounded_proof_each_act.proofs.Takings.{lowest_free_lem}
use Rattle.unbounded_proof_demand2.proofs.Turns.{stood, Turned, began, used, took}
use Rattle.unbounded_proof_demand2.proofs.Logged.{items_more, takers_more, latest_other}
use Rattle.unbounded_proof_demand2.proofs.Reached.{Reached, turned_reached, used_steps, took_steps}
use Rattle.unbounded_proof_plain.proofs.Ends.{count_word}
use Rattle.unbounded_proof_plain.proofs.Work.{moment_else, moment_begun, place_own, place_else, place_begun, place_unbegun, longer, past, then_at, Work, SeenSome, NoneYet, Due, due_else}
use Rattle.unbounded_proof_plain.proofs.Scene.{latest_one, claim_more, unput, Scene, Speaks, Hints, Outcome, how_many}
use Rattle.unbounded_proof_plain.proofs.Table.{row}
use Rattle.unbounded_proof_plain.proofs.Gap.{leaving_gap, at_gap, tail_gap}
use Rattle.unbounded_proof_plain.proofs.Written.{Wrote, wrote_still, writes_row, Claimed, wrote_on, pushing_busy, written_out}
use Rattle.unbounded_proof_plain.proofs.Steps.{stored_stood, stored_else, stored_ends, begun_stood, begun_else, begun_ends, begun_due, one_change, item_is, takes_some, on_act, on_begin}

module _ (workers : ℕ) (team : workers ≤ workers_most) where
  abbrev Answers : Story → Event → Type 0
  Answers s e = (a : Answer) → e.after ≡ Idle a → Speaks s e a

  abbrev YesThere : Story → Event → Type 0
  YesThere s e = (i : Index) → e.before ≡ Empty2 i → e.after ≡ Idle Yes → YesAtBlocksEnd s e.worker

  abbrev OwnAt : List Event → ℕ → ℕ → Type 0
  OwnAt h w v = (n : ℕ) × CallClaim h w n × LatestIn (takers_of h) w n × ItemIn h n v × WrittenIn h n v

  pub record Told (m : Machine) (st : Story) : Type 0 where
    pub reached : Reached workers m (acts_in st)
    pub items : (known st).queue.items ≡ waiting (acts_in st)
    pub flag : (known st).queue.closed ≡ marked_of m.ends.tail
    pub stands : (v : ℕ) → place_in v st ≡ stood m v
    pub dues : (w : ℕ) → Due st m.ends.tail w (task_of (stood m w))
    pub answers : (xs ys : Story) (act : Event) (a : Answer) → st ≡ xs ++ Does act ∷ ys → act.after ≡ Idle a → Speaks xs act a
    pub yes_there : (xs ys : Story) (act : Event) (i : Index) → st ≡ xs ++ Does act ∷ ys → act.before ≡ Empty2 i → act.after ≡ Idle Yes → YesAtBlocksEnd xs act.worker
    pub changes : (xs ys : Story) (act : Event) → st ≡ xs ++ Does act ∷ ys → Changes xs act
    pub claims : OwnClaim (acts_in st)
    pub written : (k : ℕ) → k < length (notions.items_of (acts_in st)) → Wrote (stood m) (acts_in st) k

  module _ (m : Machine) (st : Story) (o : Told m st) where
    abbrev r : Reached workers m (acts_in st)
    r = o.reached

    abbrev s : Shared
    s = o.reached.queue

    abbrev h : List Event
    h = acts_in st

    tail_at : position m.ends.tail ≡ s.tail
    tail_at = ap (λ (e : Ends). e.tail.0 / 2) r.sim.ends ∙ half s.tail s.closed

    head_at : position m.ends.head ≡ s.head
    head_at = ap (λ (e : Ends). e.head.0 / 2) r.sim.ends ∙ half s.head s.mark

    bit_small : (b : Bool) → bit b ≤ 1
    bit_small true = omega arith
    bit_small false = omega arith

    scene : Scene st m.ends
    scene =
        record {
          flag = o.flag;
          items = o.items;
          tails = r.logged.items_long ∙ ap counted (sym tail_at);
          heads = r.logged.takers_long ∙ ap counted (sym head_at);
          low = omega (arith, tail_at, head_at, r.sim.inv.ends.low);
          count =
              ap (λ (e : Ends). count_of sizes e.tail e.head) r.sim.ends
              ∙ count_word s.tail s.head s.closed s.mark r.sim.inv.ends.low (omega (arith, r.sim.metered, r.in_time)) ∙ rw (tail_at, head_at) refl;
          small = omega (arith, ap (λ (e : Ends). e.tail.0) r.sim.ends, bit_small s.closed, r.sim.metered, r.in_time);
          gap =
              λ z.
              let g = at_gap m.ends m.blocks m.slots m.workers m.meter s r.sim (ap (λ (n : ℕ). n % 32) (sym head_at) ∙ z) in
              (g.0, subst Emptying (sym (o.stands g.0)) g.1);
          leaves =
              λ v z.
              let y = r.sim.places v in
              ap (λ (n : ℕ). n % 32) head_at ∙ leaving_gap s v (stood m v) y.aside y.new y.seen y.at y.good.seen (subst Emptying (o.stands v) z);
          fills =
              λ z.
              let g = tail_gap m.ends m.blocks m.slots m.workers m.meter s r.sim (ap (λ (n : ℕ). n % 32) (sym tail_at) ∙ z) in
              (g.0, subst Filling (sym (o.stands g.0)) g.1);
        }

    -- is_empty has found nothing
    empty_now : (j : ℕ) (x : Index) → NoneYet st j x → (known st).queue.items ≡ []
    empty_now j x z =
        ap (λ (c : Queue). c.items) (sym (queue_now actor change_of 0 st))
        ∙ z.nothing (length st) (omega (arith, ap length z.is, length-append z.before (Does z.load ∷ z.since))) (omega arith)

    module _ (w : ℕ) (mine : w < m.count) where
      in_row : w < length m.workers
      in_row = omega (arith, mine, r.team, r.sim.workers_long)

      -- ---- an act, on the block k and its slot i, the slots being as l
      module _ (lose : Bool) (busy : (view_of sizes (stood m w)).busy ≡ true) (k i : ℕ) (l : List Slot) where
        abbrev p : Place
        p = stood m w

        abbrev a : Acted
        a = act_of sizes m.ends k (block_at m.blocks k) (slot_at sizes l k i) (stood m w) lose

        abbrev next : Machine
        next = stored sizes m w l k i (act_of sizes m.ends k (block_at m.blocks k) (slot_at sizes l k i) (stood m w) lose)

        abbrev q : Place
        q = (act_of sizes m.ends k (block_at m.blocks k) (slot_at sizes l k i) (stood m w) lose).place

        abbrev act : Event
        act = event w (stood m w) (act_of sizes m.ends k (block_at m.blocks k) (slot_at sizes l k i) (stood m w) lose).place

        abbrev st' : Story
        st' = st ++ Does act ∷ []

        module _ (d : Step m.blocks m.slots m.workers m.meter s w (stood m w) k i l a) (after : Reached workers next (acts_in st ++ act ∷ [])) where
          hints : Hints st m.ends scene w p q
          hints =
              record {
                true_then = λ x z. subst (λ (e : Ends). Truth e x) (sym r.sim.ends) (subst (λ (y : Place). TellsTrue (ends_of_ring s) (tale_of y)) z d.truth);
                front = λ z. let n = takes_some s d.after w p q d.logs z in omega (arith, how_many st m.ends scene w, ap counted tail_at, ap counted head_at);
                out = λ v z. after.logged.rule h [] act v refl z;
              }

          out : Outcome st m.ends scene w p q a.ends.tail
          out =
              let z = r.sim.places w in
              row st m.ends scene w k (block_at m.blocks k) (slot_at sizes l k i) lose p z.at busy (o.dues w) hints

          -- ---- what it makes of the plain queue
          taken_few : length (takers_of h) ≤ length (notions.items_of h)
          taken_few = omega (arith, scene.tails, scene.heads, scene.low)

          waiting_is : (items takers : List ℕ) → notions.items_of (h ++ act ∷ []) ≡ items → takers_of (h ++ act ∷ []) ≡ takers → waiting (h ++ act ∷ []) ≡ drop (length takers) items
          waiting_is items takers x y = ap (λ (z : List ℕ). drop (length (takers_of (h ++ act ∷ []))) z) x ∙ ap (λ (z : List ℕ). drop (length z) items) y

          abbrev items₀ : List ℕ
          items₀ = (known st).queue.items

          becomes : cond (takes act) (drop 1 items₀) items₀ ++ cond (eqb (length (item_of act)) 1) (items_of ((known st).each w).calls) [] ≡ waiting (h ++ act ∷ [])
          becomes = go d.logs
            where
              took : (b : Bool) → takes act ≡ b → takers_of (h ++ act ∷ []) ≡ takers_of h ++ cond b (w ∷ []) []
              took b z = takers_more h act ∙ ap (λ (y : Bool). takers_of h ++ cond y (w ∷ []) []) z

              gave : (x : List ℕ) → item_of act ≡ x → notions.items_of (h ++ act ∷ []) ≡ notions.items_of h ++ x
              gave x z = items_more h act ∙ ap (λ (y : List ℕ). notions.items_of h ++ y) z

              go : Logs s d.after w p q → cond (takes act) (drop 1 items₀) items₀ ++ cond (eqb (length (item_of act)) 1) (items_of ((known st).each w).calls) [] ≡ waiting (h ++ act ∷ [])
              go (puts x item no_taking slot et ei eh eg loose) =
                  rw (no_taking, item, (out.came x item).its, o.items)
                  (sym (waiting_is (notions.items_of h ++ x ∷ []) (takers_of h) (gave (x ∷ []) item) (took false no_taking ∙ append-nil (takers_of h))
                  ∙ drop-append-le (length (takers_of h)) (notions.items_of h) (x ∷ []) taken_few))
              go (step.takes no_item taking slot some et ei eh eg) =
                  let less : length (takers_of h) < length (notions.items_of h) = omega (arith, scene.tails, scene.heads, ap counted tail_at, ap counted head_at) in
                  let front = o.items ∙ drop-cons (notions.items_of h) (length (takers_of h)) 0 less in
                  let long : length (takers_of h ++ w ∷ []) ≡ suc (length (takers_of h)) = length-append (takers_of h) (w ∷ []) ∙ omega arith in
                  rw (taking, no_item, front)
                  (append-nil (drop (suc (length (takers_of h))) (notions.items_of h))
                  ∙ sym (waiting_is (notions.items_of h) (takers_of h ++ w ∷ []) (gave [] no_item ∙ append-nil (notions.items_of h)) (took true taking) ∙ ap (λ (n : ℕ). drop n (notions.items_of h)) long))
              go (neither no_item no_taking ut ct ei uh ch eg more) =
                  rw (no_taking, no_item, o.items)
                  (append-nil (waiting h) ∙ sym (waiting_is (notions.items_of h) (takers_of h) (gave [] no_item ∙ append-nil (notions.items_of h)) (took false no_taking ∙ append-nil (takers_of h))))

          items_on : (known st').queue.items ≡ waiting (acts_in st')
          items_on = ap (λ (z : Queue). z.items) (queue_act actor change_of 0 st act) ∙ becomes ∙ ap waiting (sym (acts_end st (Does act)))

          flag_on : (known st').queue.closed ≡ marked_of a.ends.tail
          flag_on =
              ap (λ (z : Queue). z.closed) (queue_act actor change_of 0 st act) ∙ ap (λ (z : Bool). cond (closes (task_of p)) true z) o.flag ∙ sym out.marks

          changed : Changes st act
          changed =
              record {
                takes = λ z. hints.front z;
                while_open = λ z. let x = item_is (item_of act) z in (out.came x.0 x.1).while_open;
                one = λ z. one_change (sign_of p) (sign_of q) z;
                closes = λ b z. out.more.was_open b z;
              }

          -- ---- another's call
          module _ (j : ℕ) (ne : j ≢ w) where
            each : (known st').each j ≡ (known st).each j
            each = each_else actor change_of 0 st act j ne

            latest_on : (n : ℕ) → LatestIn (takers_of h) j n → LatestIn (takers_of (acts_in st')) j n
            latest_on n z = subst (λ (y : List ℕ). LatestIn y j n) (sym (ap takers_of (acts_end st (Does act)) ∙ takers_more h act)) (go (takes act))
              where
                go : (b : Bool) → LatestIn (takers_of h ++ cond b (w ∷ []) []) j n
                go true = latest_other (takers_of h) j w n (λ y. ne (sym y)) z
                go false = subst (λ (y : List ℕ). LatestIn y j n) (sym (append-nil (takers_of h))) z

            item_on : (n v : ℕ) → ItemIn h n v → ItemIn (acts_in st') n v
            item_on n v z =
                let more = ap notions.items_of (acts_end st (Does act)) ∙ items_more h act in
                record {
                  made = omega (arith, ap length more, length-append (notions.items_of h) (item_of act), z.made);
                  is = ap (λ (y : List ℕ). get_or y n 0) more ∙ get_or-append (notions.items_of h) (item_of act) 0 n z.made ∙ z.is;
                }

            claim_on : (n : ℕ) → CallClaim h j n → CallClaim (acts_in st') j n
            claim_on n z = subst (λ (y : List Event). CallClaim y j n) (sym (acts_end st (Does act))) (claim_more h act j n (λ y b e. ne (sym y)) z)

            taken_on : length (takers_of h) ≤ length (takers_of (acts_in st'))
            taken_on = omega (arith, ap length (ap takers_of (acts_end st (Does act)) ∙ takers_more h act), length-append (takers_of h) (cond (takes act) (w ∷ []) []))

            kept : (n : ℕ) → moment_of j st ≡ At n → moment_of j st' ≡ At n
            kept n z = moment_else st act j ne ∙ ap (heard (change_of act) ((known st).count + 1)) z

            none_on : (x : Index) → Work st j call.IsEmpty [] [] → NoneYet st j x → SeenSome st' j ⊎ NoneYet st' j x
            none_on x work z = go (eqb (length (item_of act)) 1) refl
              where
                none_left : (b : Bool) → ◌≡◌ {A = List ℕ} (cond b (drop {A = ℕ} 1 []) []) []
                none_left true = refl
                none_left false = refl

                -- nothing is left of nothing, but what comes in
                left : (known st').queue.items ≡ cond (eqb (length (item_of act)) 1) (items_of ((known st).each w).calls) []
                left =
                    ap (λ (c : Queue). c.items) (queue_act actor change_of 0 st act)
                    ∙ ap (λ (c : List ℕ). cond (takes act) (drop 1 c) c ++ cond (eqb (length (item_of act)) 1) (items_of ((known st).each w).calls) []) (empty_now j x z)
                    ∙ ap (λ (c : List ℕ). c ++ cond (eqb (length (item_of act)) 1) (items_of ((known st).each w).calls) []) (none_left (takes act))

                pending : (b : Bool) → eqb (length (item_of act)) 1 ≡ b → moment_of j st' ≡ cond b (At ((known st).count + 1)) AfterNextTail
                pending b y =
                    moment_else st act j ne ∙ ap (heard (change_of act) ((known st).count + 1)) z.pending ∙ ap (λ (t : Bool). cond t (At ((known st).count + 1)) AfterNextTail) y

                begun_then : ((known st').each j).begun ≡ ((known st).each j).begun
                begun_then = ap (λ (y : Doing). y.begun) each

                go : (b : Bool) → eqb (length (item_of act)) 1 ≡ b → SeenSome st' j ⊎ NoneYet st' j x
                go true y =
                    inl (record {
                      moment = length st + 1;
                      named = pending true y ∙ ap (λ (n : ℕ). At (n + 1)) (known_count actor change_of 0 st);
                      begun = omega (arith, begun_then, work.begun);
                      inside = omega (arith, longer st (Does act));
                      some = subst (λ (c : Queue). 0 < length c.items) (sym (then_at st (Does act))) (subst (λ (c : List ℕ). 0 < length c) (sym came) (omega arith));
                    })
                  where
                    x₀ : (v : ℕ) × (item_of act ≡ v ∷ [])
                    x₀ = item_is (item_of act) y

                    came : (known st').queue.items ≡ x₀.0 ∷ []
                    came = left ∙ ap (λ (b : Bool). cond b (items_of ((known st).each w).calls) []) y ∙ (out.came x₀.0 x₀.1).its
                go false y =
                    inr (record {
                      pending = pending false y;
                      before = z.before;
                      load = z.load;
                      since = z.since ++ Does act ∷ [];
                      is = ap (λ (u : Story). u ++ Does act ∷ []) z.is ∙ append_assoc z.before (Does z.load ∷ z.since) (Does act ∷ []);
                      own = z.own;
                      loads = z.loads;
                      begun = omega (arith, begun_then, z.begun);
                      nothing = λ n low high. nothing n low high (dec_lt (length st) n);
                      tails =
                          ap length (ap notions.items_of (acts_end st (Does act)) ∙ items_more h act ∙ ap (λ (u : List ℕ). notions.items_of h ++ u) (unput (sign_of p) (sign_of q) y) ∙ append-nil
                          (notions.items_of h))
                          ∙ z.tails;
                      leaving = z.leaving;
                    })
                  where
                    nothing : (n : ℕ) → length z.before ≤ n → n ≤ length st' → Dec (length st < n) → (queue_at n st').items ≡ []
                    nothing n low high (no u) = ap (λ (c : Queue). c.items) (past st (Does act) n (omega arith)) ∙ z.nothing n low (omega arith)
                    nothing n low high (yes u) =
                        let last : n ≡ length st + 1 = omega (arith, longer st (Does act)) in
                        ap (λ (v : ℕ). (queue_at v st').items) last ∙ ap (λ (c : Queue). c.items) (then_at st (Does act)) ∙ left
                        ∙ ap (λ (b : Bool). cond b (items_of ((known st).each w).calls) []) y

            due_other : Due st' a.ends.tail j (task_of (stood m j))
            due_other =
                due_else st (Does act) j m.ends.tail a.ends.tail out.up each kept latest_on item_on claim_on taken_on none_on (task_of (stood m j)) (o.dues j)

          -- ---- one act more
          went : stood next w ≡ q
          went = stored_stood m w l k i a in_row

          due_each : (j : ℕ) → Due st' next.ends.tail j (task_of (stood next j))
          due_each j = subst (λ (e : Ends). Due st' e.tail j (task_of (stood next j))) (sym (stored_ends m w l k i a)) (go (ℕ_discrete j w))
            where
              go : Dec (j ≡ w) → Due st' a.ends.tail j (task_of (stood next j))
              go (yes e) = subst (λ (v : ℕ). Due st' a.ends.tail v (task_of (stood next v))) (sym e) (subst (λ (y : Place). Due st' a.ends.tail w (task_of y)) (sym went) out.due)
              go (no ne) = subst (λ (y : Place). Due st' a.ends.tail j (task_of y)) (sym (stored_else m w l k i a j ne)) (due_other j ne)

          stands_on : (v : ℕ) → place_in v st' ≡ stood next v
          stands_on v = go (ℕ_discrete v w)
            where
              go : Dec (v ≡ w) → place_in v st' ≡ stood next v
              go (yes e) = ap (λ (j : ℕ). place_in j st') e ∙ place_own st act ∙ sym went ∙ ap (stood next) (sym e)
              go (no ne) = place_else st act v ne ∙ o.stands v ∙ sym (stored_else m w l k i a v ne)

          -- a claim of this act, and those before it
          claimed : (x : ℕ) → item_of act ≡ x ∷ [] → Claimed (stood m) (stood next) h w q went (stored_else m w l k i a) x
          claimed x z =
              let c = out.came x z in
              let at : position c.word ≡ s.tail = ap position c.at_tail ∙ tail_at in
              record {
                task = c.task;
                word = c.word;
                pushing = c.pushing;
                number = ap counted at ∙ sym r.logged.items_long;
                slot = slot_of d.logs at;
              }
            where
              slot_of : Logs s d.after w p q → position (out.came x z).word ≡ s.tail → position (out.came x z).word % 32 < 31
              slot_of (puts y item no_taking slot et ei eh eg loose) at = omega arith
              slot_of (step.takes no_item taking slot some et ei eh eg) at = absurd (no_cons (sym no_item ∙ z))
              slot_of (neither no_item no_taking ut ct ei uh ch eg more) at = absurd (no_cons (sym no_item ∙ z))

          wrote_then : (n : ℕ) → n < length (notions.items_of (h ++ act ∷ [])) → Wrote (stood next) (h ++ act ∷ []) n
          wrote_then =
              wrote_on (stood m) (stood next) h w q went (stored_else m w l k i a) (λ x t z y. writes_row m.ends w k (block_at m.blocks k) (slot_at sizes l k i) lose p x t z y) claimed
              o.written

          told_q : Told next st'
          told_q =
              record {
                reached = subst (Reached workers next) (sym (acts_end st (Does act))) after;
                items = items_on;
                flag = flag_on ∙ ap (λ (e : Ends). marked_of e.tail) (sym (stored_ends m w l k i a));
                stands = stands_on;
                dues = due_each;
                answers = λ xs ys e x z. on_act Answers st (λ us vs f y. λ x said. o.answers us vs f x y said) act out.said xs ys e z x;
                yes_there = λ xs ys e j z. on_act YesThere st (λ us vs f y. λ j. o.yes_there us vs f j y) act out.more.saw xs ys e z j;
                changes = on_act Changes st o.changes act changed;
                written = subst (λ (y : List Event). (n : ℕ) → n < length (notions.items_of y) → Wrote (stood next) y n) (sym (acts_end st (Does act))) wrote_then;
                claims = λ xs ys e v z said. go_claim xs ys e v said (one_more h act xs ys e (sym (acts_end st (Does act)) ∙ z));
              }
            where
              go_claim : (xs ys : List Event) (e : Event) (v : ℕ) → e.after ≡ Idle (Popped v) → Order xs e ys h act [] → OwnAt xs e.worker v
              go_claim xs ys e v said (earlier zs was left) = o.claims xs zs e v was said
              go_claim xs ys e v said (same whole one rest) =
                  let z = ap (λ (y : Event). y.after) (sym one) ∙ said in
                  let given = (out.more.gave v z).0 in
                  let known_out = hints.out v (ap sign_of z) in
                  let item : ItemIn h given.number v =
                  subst (λ (n : ℕ). ItemIn h n v) (latest_one (takers_of h) w known_out.0 given.number known_out.1 given.latest) known_out.2 in
                  let wrote = written_out m.ends m.blocks m.slots m.workers m.meter s r.sim h r.logged w (out.more.gave v z).1 given.number v given.latest item
                  (o.written given.number item.made) in
                  subst (λ (y : Event). OwnAt xs y.worker v) (sym one) (subst (λ (y : List Event). OwnAt y w v) (sym whole) (given.number, given.claim, given.latest, item, wrote))
              go_claim xs ys e v said (later zs was left) = absurd (no_split zs e ys left)

        pub told_act : Step m.blocks m.slots m.workers m.meter s w (stood m w) k i l a → Reached workers next (acts_in st ++ event w (stood m w) (stood next w) ∷ [])
            → Told next (st ++ Does (event w (stood m w) (stood next w)) ∷ [])
        told_act d after =
            let went_to = stored_stood m w l k i a in_row in
            subst (λ (x : Place). Told next (st ++ Does (event w (stood m w) x) ∷ [])) (sym went_to)
            (told_q d (subst (λ (x : Place). Reached workers next (acts_in st ++ event w (stood m w) x ∷ [])) went_to after))

      -- ---- a call begun
      module _ (c : Call) where
        abbrev begun_on : Story
        begun_on = st ++ Begun w c ∷ []

        abbrev new : Machine
        new = begun m w (begin_of c)

        same_acts : acts_in begun_on ≡ acts_in st
        same_acts = acts_end st (Begun w c) ∙ append-nil (acts_in st)

        module _ (j : ℕ) (ne : j ≢ w) where
          each_then : (known begun_on).each j ≡ (known st).each j
          each_then = each_unbegun actor change_of 0 st w c j ne

          still_none : (x : Index) → Work st j call.IsEmpty [] [] → NoneYet st j x → SeenSome begun_on j ⊎ NoneYet begun_on j x
          still_none x work z =
              inr (record {
                pending = moment_begun st w c j ∙ z.pending;
                before = z.before;
                load = z.load;
                since = z.since ++ Begun w c ∷ [];
                is = ap (λ (u : Story). u ++ Begun w c ∷ []) z.is ∙ append_assoc z.before (Does z.load ∷ z.since) (Begun w c ∷ []);
                own = z.own;
                loads = z.loads;
                begun = omega (arith, ap (λ (y : Doing). y.begun) each_then, z.begun);
                nothing = λ n low high. nothing n low high (dec_lt (length st) n);
                tails = ap (λ (u : List Event). length (notions.items_of u)) same_acts ∙ z.tails;
                leaving = z.leaving;
              })
            where
              nothing : (n : ℕ) → length z.before ≤ n → n ≤ length begun_on → Dec (length st < n) → (queue_at n begun_on).items ≡ []
              nothing n low high (no u) = ap (λ (y : Queue). y.items) (past st (Begun w c) n (omega arith)) ∙ z.nothing n low (omega arith)
              nothing n low high (yes u) =
                  let last : n ≡ length st + 1 = omega (arith, longer st (Begun w c)) in
                  ap (λ (v : ℕ). (queue_at v begun_on).items) last ∙ ap (λ (y : Queue). y.items) (then_at st (Begun w c)) ∙ ap (λ (y : Queue). y.items) (queue_begun actor change_of 0 st w c)
                  ∙ empty_now j x z

          due_beside : Due begun_on m.ends.tail j (task_of (stood m j))
          due_beside =
              due_else st (Begun w c) j m.ends.tail m.ends.tail (omega arith) each_then (λ n z. moment_begun st w c j ∙ z)
              (λ n z. subst (λ (u : List Event). LatestIn (takers_of u) j n) (sym same_acts) z)
              (λ n v z. subst (λ (u : List Event). ItemIn u n v) (sym same_acts) z) (λ n z. subst (λ (u : List Event). CallClaim u j n) (sym same_acts) z)
              (omega (arith, ap (λ (u : List Event). length (takers_of u)) same_acts)) still_none (task_of (stood m j)) (o.dues j)

        due_begun : (j : ℕ) → Due begun_on new.ends.tail j (task_of (stood new j))
        due_begun j = subst (λ (e : Ends). Due begun_on e.tail j (task_of (stood new j))) (sym (begun_ends m w (begin_of c))) (go (ℕ_discrete j w))
          where
            go : Dec (j ≡ w) → Due begun_on m.ends.tail j (task_of (stood new j))
            go (yes e) =
                subst (λ (v : ℕ). Due begun_on m.ends.tail v (task_of (stood new v))) (sym e)
                (subst (λ (y : Place). Due begun_on m.ends.tail w (task_of y)) (sym (begun_stood m w (begin_of c) in_row))
                (begun_due begun_on m.ends.tail w c (work_begun actor change_of 0 st w c)))
            go (no ne) = subst (λ (y : Place). Due begun_on m.ends.tail j (task_of y)) (sym (begun_else m w (begin_of c) j ne)) (due_beside j ne)

        stands_begun : (v : ℕ) → place_in v begun_on ≡ stood new v
        stands_begun v = go (ℕ_discrete v w)
          where
            go : Dec (v ≡ w) → place_in v begun_on ≡ stood new v
            go (yes e) = ap (λ (j : ℕ). place_in j begun_on) e ∙ place_begun st w c ∙ sym (begun_stood m w (begin_of c) in_row) ∙ ap (stood new) (sym e)
            go (no ne) = place_unbegun st w c v ne ∙ o.stands v ∙ sym (begun_else m w (begin_of c) v ne)

        pub told_begun : (view_of sizes (stood m w)).busy ≡ false → Reached workers new (acts_in st) → Told new begun_on
        told_begun idle after =
            record {
              reached = subst (Reached workers new) (sym same_acts) after;
              items = ap (λ (z : Queue). z.items) (queue_begun actor change_of 0 st w c) ∙ o.items ∙ ap waiting (sym same_acts);
              flag = ap (λ (z : Queue). z.closed) (queue_begun actor change_of 0 st w c) ∙ o.flag ∙ ap (λ (e : Ends). marked_of e.tail) (sym (begun_ends m w (begin_of c)));
              stands = stands_begun;
              dues = due_begun;
              answers = λ xs ys e x z. on_begin Answers st (λ us vs f y. λ x said. o.answers us vs f x y said) w c xs ys e z x;
              yes_there = λ xs ys e j z. on_begin YesThere st (λ us vs f y. λ j. o.yes_there us vs f j y) w c xs ys e z j;
              changes = on_begin Changes st o.changes w c;
              claims = subst OwnClaim (sym same_acts) o.claims;
              written = subst (λ (y : List Event). (n : ℕ) → n < length (notions.items_of y) → Wrote (stood new) y n) (sym same_acts)
                  (λ n z. wrote_still (stood m) (stood new) (acts_in st) n there (o.written n z));
            }
          where
            there : (v : ℕ) (t : Index) → Pushing (stood m v) t → stood new v ≡ stood m v
            there v t y = begun_else m w (begin_of c) v (λ z. true≢false (sym (pushing_busy (stood m v) t y) ∙ ap (λ (j : ℕ). (view_of sizes (stood m j)).busy) z ∙ idle))

  -- every accepted entry leads on
  pub told_kept : (m : Machine) (st : Story) (en : Entry) (next : Machine) → Told m st → Turned m en next → Told next (st ++ elements_by events_of m en next)
  unfolding acted_at
  told_kept m st en next o (began w c mine idle) =
      told_begun m st o w mine c idle (subst (Reached workers (begun m w (begin_of c))) (append-nil (acts_in st)) (turned_reached workers team m (acts_in st) o.reached en next (began w c mine idle)))
  told_kept m st en next o (used w asked lose b t) =
      told_act m st o w b.known lose b.busy (block_used (view_of sizes (stood m w)).uses) (slot_used (view_of sizes (stood m w)).uses) m.slots
      (used_steps workers team m (acts_in st) o.reached w lose b t)
      (turned_reached workers team m (acts_in st) o.reached en next (used w asked lose b t))
  told_kept m st en next o (took w asked lose b t f) =
      told_act m st o w b.known lose b.busy (lowest_free sizes m.blocks) 0 (cleared sizes m.slots (lowest_free sizes m.blocks))
      (took_steps workers team m (acts_in st) o.reached w lose b t (lowest_free sizes m.blocks) f (lowest_free_lem m.blocks f))
      (turned_reached workers team m (acts_in st) o.reached en next (took w asked lose b t f))
