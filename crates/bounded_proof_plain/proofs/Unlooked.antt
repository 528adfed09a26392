-- One step a call, of every schedule: len, is_empty and is_full are left out of the story. Beside the machine goes another, which never begins them: ring and all other calls are the same in both.
use mathlib.Core.Path.{◌≡◌, refl, sym, ap, ◌∙◌, subst}
use mathlib.Core.Logic.{◌≢◌, ◌⊎◌, inl, inr}
use mathlib.Core.Bool.{Bool, true, false, cond, true≢false}
use mathlib.Core.List.{List, [], ◌∷◌, ◌++◌, map, append_assoc, append-nil}
use Prim.Native.Nat.{ℕ, ◌+◌, ◌≤◌, ◌<◌}
use native.Mathlib.Omega.{arith}
use native.Mathlib.Decide.{ℕ_discrete}
use lib.Dec.{eqb}
use lib.ListN.{length, get_or, set, length-set}
use lib.Seq.{get_or-set_same, get_or-set_other, set-get_or}
use borrow.Author.Tests.{eq-eqb, ne_eqb}
use Rattle.queue_entries.specs.Limits.{meter_most}
use Rattle.queue_entries.specs.Entries.{entry_of}
use Rattle.queue_entries.specs.declared.Call.{Call}
use Rattle.queue_entries.specs.declared.Call.TheVariants as call
use Rattle.queue_entries.specs.declared.Order.TheVariants.{Begin, Act}
use Rattle.queue_entries.specs.declared.Entry.{Entry}
use Rattle.queue_entries.specs.declared.Entry.TheVariants.{Asks}
use Rattle.queue_plain.specs.Story.{Begun, Does, begun_in, elements_by, acts_in}
use Rattle.queue_plain.proofs.Stories.{acts_end, acts_story}
use Rattle.queue_schedules.proofs.Histories.{entries_lead_while}
use Rattle.bounded_words.specs.declared.Fixed.{Fixed}
use Rattle.bounded_words.specs.declared.Width.{Width}
use Rattle.bounded_words.specs.declared.Width.TheVariants.{SixtyFour}
use Rattle.bounded_words.specs.Words.{same}
use Rattle.bounded_places.specs.declared.Ends.{Ends}
use Rattle.bounded_places.specs.declared.Slot.{Slot}
use Rattle.bounded_places.specs.declared.Worker.{Worker}
use Rattle.bounded_places.specs.declared.Answer.{Answer}
use Rattle.bounded_places.specs.declared.Answer.TheVariants.{Len}
use Rattle.bounded_places.specs.declared.Place.{Place}
use Rattle.bounded_places.specs.declared.Place.TheVariants.{Idle, P1, P2, P3, P4, P5, P6, F6, F7, F8, F9, O1, O2, O3, O4, O5, O6, Len1, Len2, Len3, Empty1, Empty2, Full1, Full2, Close1, IsClosed1}
use Rattle.bounded_places.specs.declared.Moved.TheVariants.{Neither}
use Rattle.bounded_places.specs.Places.{view_of, begin_of}
use Rattle.bounded_acts.specs.declared.Acted.{Acted}
use Rattle.bounded_acts.specs.Acts.{goes, losing, count_of, act_of}
use Rattle.bounded_machine.specs.declared.Ring.{Ring}
use Rattle.bounded_machine.specs.declared.Machine.{Machine}
use Rattle.bounded_machine.specs.declared.Did.{Did}
use Rattle.bounded_machine.specs.declared.Event.{Event}
use Rattle.bounded_machine.specs.Machine.{slot, idler, ring_of_parts, fresh_with, fixed_on, ends_on}
use Rattle.bounded_machine.specs.Turn.{spot_of, beginner, record_after, begun, stored, acted_by, acted, turn_at, turn_of_by}
use Rattle.bounded_machine.specs.Run.{run_at}
use Rattle.bounded_machine.specs.History.{event, events_of, moved_of, loss_at}
use Rattle.bounded_machine.proofs.Kept.{either, few_workers}
use Rattle.bounded_demands.specs.Notions.{with_records, AllowedWith, machine_after, tally, Holding, NoWord, NewWord, OldWord, holding_at, holds, is_new, since}
use Rattle.bounded_demands.specs.Notions.{InWidestWindow, KeepsWidestWindow, widest_length}
use Rattle.bounded_demands.specs.Stories.{Story, story_of, one_step, OnlySuch, looks, looks_at, unlooked, never_closes}
use Rattle.bounded_demands.specs.Demands.{OthersOneByOne, OneStepUnderEverySchedule, OneStepUnderEveryInWindow}
use Rattle.bounded_demands.proofs.Refusals.{ring_queue}
use Rattle.bounded_proof_demand2.proofs.Turns.{Turned, began, did, stood, event_of, turned}
use Rattle.bounded_proof_demand2.proofs.Pictured.{Base, idle_is}
use Rattle.bounded_proof_demand2.proofs.Window.{tails, heads, since_end, tally_more}
use Rattle.bounded_proof_demand2.proofs.Lone.{Follows, leads_on, begins_without}
use Rattle.bounded_proof_demand2.proofs.Reached.{laps_of, base_of, fresh_records}
use Rattle.bounded_proof_demand2.proofs.Always.{always, widens}
use Rattle.bounded_proof_plain.proofs.Work.{task, Due}
use Rattle.bounded_proof_plain.proofs.Linear.{Both, both_kept, only_first, only_last}
use Rattle.bounded_proof_plain.proofs.Linearizable.{one_by_one, first_both}

-- ---- what looks moves nothing

-- idle, or in one of them
abbrev Aside : Place → Type 0
Aside p = (view_of p).busy ≡ true → looks_at p ≡ true

record Still (e : Ends) (z : Slot) (y : Acted) : Type 0 where
  ends : y.ends ≡ e
  spot : y.slot ≡ z
  aside : Aside y.place
  claims : moved_of y.place ≡ Neither

idle_aside : (a : Answer) → Aside (Idle a)
idle_aside a b = absurd (true≢false (sym b))

module _ (bits : Width) (f : Fixed) (e : Ends) (z : Slot) (lose : Bool) where
  look_on : (p : Place) → looks_at p ≡ true → Still e z (act_of bits f e z p lose)
  unfolding goes losing
  look_on (Idle a) h = absurd (true≢false (sym h))
  look_on (P1 k x) h = absurd (true≢false (sym h))
  look_on (P2 k t x) h = absurd (true≢false (sym h))
  look_on (P3 k t x) h = absurd (true≢false (sym h))
  look_on (P4 t x) h = absurd (true≢false (sym h))
  look_on (P5 t) h = absurd (true≢false (sym h))
  look_on (P6 t x) h = absurd (true≢false (sym h))
  look_on (F6 t x) h = absurd (true≢false (sym h))
  look_on (F7 t x) h = absurd (true≢false (sym h))
  look_on (F8 t x) h = absurd (true≢false (sym h))
  look_on (F9 t old) h = absurd (true≢false (sym h))
  look_on O1 h = absurd (true≢false (sym h))
  look_on (O2 y) h = absurd (true≢false (sym h))
  look_on (O3 y) h = absurd (true≢false (sym h))
  look_on (O4 y) h = absurd (true≢false (sym h))
  look_on (O5 y v) h = absurd (true≢false (sym h))
  look_on (O6 y) h = absurd (true≢false (sym h))
  look_on Len1 h = record { ends = refl; spot = refl; aside = λ b. refl; claims = refl }
  look_on (Len2 t) h = record { ends = refl; spot = refl; aside = λ b. refl; claims = refl }
  look_on (Len3 t y) h =
      either (Still e z) (same e.tail t) (goes e z (Idle (Len (count_of f t y)))) (goes e z Len1)
      (λ d. record { ends = refl; spot = refl; aside = idle_aside (Len (count_of f t y)); claims = refl }) (λ d. record { ends = refl; spot = refl; aside = λ b. refl; claims = refl })
  look_on Empty1 h = record { ends = refl; spot = refl; aside = λ b. refl; claims = refl }
  look_on (Empty2 y) h = record { ends = refl; spot = refl; aside = λ b. absurd (true≢false (sym b)); claims = refl }
  look_on Full1 h = record { ends = refl; spot = refl; aside = λ b. refl; claims = refl }
  look_on (Full2 t) h = record { ends = refl; spot = refl; aside = λ b. absurd (true≢false (sym b)); claims = refl }
  look_on Close1 h = absurd (true≢false (sym h))
  look_on IsClosed1 h = absurd (true≢false (sym h))

look_begins : (b : Call) → looks_at (begin_of b) ≡ looks b
look_begins (call.Push x) = refl
look_begins (call.ForcePush x) = refl
look_begins call.Pop = refl
look_begins call.Len = refl
look_begins call.IsEmpty = refl
look_begins call.IsFull = refl
look_begins call.Close = refl
look_begins call.IsClosed = refl

idle_holds : (p : Place) → (view_of p).busy ≡ false → holds (holding_at p) ≡ true → ⊥
idle_holds p idle held = let a = idle_is p idle in true≢false (sym held ∙ ap (λ (y : Place). holds (holding_at y)) a.1)

-- ---- the story without them

unlooked_append : (a b : Story) → unlooked (a ++ b) ≡ unlooked a ++ unlooked b
unfolding unlooked
unlooked_append [] b = refl
unlooked_append (Begun w c ∷ a) b =
    ap (λ (z : Story). cond (looks c) [] (Begun w c ∷ []) ++ z) (unlooked_append a b) ∙ sym (append_assoc (cond (looks c) [] (Begun w c ∷ [])) (unlooked a) (unlooked b))
unlooked_append (Does e ∷ a) b =
    ap (λ (z : Story). cond (looks_at e.before) [] (Does e ∷ []) ++ z) (unlooked_append a b) ∙ sym (append_assoc (cond (looks_at e.before) [] (Does e ∷ [])) (unlooked a) (unlooked b))

module _ (st : Story) where
  call_left : (w : ℕ) (b : Call) → looks b ≡ true → unlooked (st ++ Begun w b ∷ []) ≡ unlooked st
  unfolding unlooked
  call_left w b h = unlooked_append st (Begun w b ∷ []) ∙ rw h (append-nil (unlooked st))

  call_kept : (w : ℕ) (b : Call) → looks b ≡ false → unlooked (st ++ Begun w b ∷ []) ≡ unlooked st ++ Begun w b ∷ []
  unfolding unlooked
  call_kept w b h = unlooked_append st (Begun w b ∷ []) ∙ rw h

  act_left : (e : Event) → looks_at e.before ≡ true → unlooked (st ++ Does e ∷ []) ≡ unlooked st
  unfolding unlooked
  act_left e h = unlooked_append st (Does e ∷ []) ∙ rw h (append-nil (unlooked st))

  act_kept : (e : Event) → looks_at e.before ≡ false → unlooked (st ++ Does e ∷ []) ≡ unlooked st ++ Does e ∷ []
  unfolding unlooked
  act_kept e h = unlooked_append st (Does e ∷ []) ∙ rw h

-- ---- claims since a word was given

abbrev Alike : List Event → List Event → Type 0
Alike l k = ((tally l).tail.0 ≡ (tally k).tail.0) × ((tally l).head.0 ≡ (tally k).head.0)

alike_more : (l k : List Event) (e : Event) → Alike l k → Alike (l ++ e ∷ []) (k ++ e ∷ [])
alike_more l k e same = let a = tally_more l e in let b = tally_more k e in (omega (arith, a.0, b.0, same.0), omega (arith, a.1, b.1, same.1))

alike_still : (l k : List Event) (e : Event) → moved_of e.after ≡ Neither → Alike l k → Alike l (k ++ e ∷ [])
alike_still l k e none same =
    let b = tally_more k e in
    (omega (arith, b.0, same.0, ap tails none), omega (arith, b.1, same.1, ap heads none))

since_else : (j : ℕ) (h : List Event) (e : Event) → e.worker ≢ j → since j (h ++ e ∷ []) ≡ since j h ++ e ∷ []
since_else j h e far = since_end j [] h e ∙ rw (ne_eqb e.worker j far)

since_own : (h : List Event) (e : Event) → since e.worker (h ++ e ∷ []) ≡ cond (is_new (holding_at e.after)) [] (since e.worker h ++ e ∷ [])
since_own h e = since_end e.worker [] h e ∙ rw (eq-eqb e.worker e.worker refl)

-- ---- an act, by ring and place

abbrev act_on : Width → Bool → Ring → Place → Acted
act_on bits lose r p = act_of bits (fixed_on r) (ends_on r) (get_or r.slots (spot_of (fixed_on r) (view_of p).held) (slot 0 0)) p lose

abbrev ring_on : Width → Bool → Ring → Place → Ring
ring_on bits lose r p = ring_of_parts (fixed_on r) (act_on bits lose r p).ends (set r.slots (spot_of (fixed_on r) (view_of p).held) (act_on bits lose r p).slot)

module _ (bits : Width) (m : Machine) (w : ℕ) (lose : Bool) where
  acted_ring : (acted bits m w (stood m w) lose).ring ≡ ring_on bits lose m.ring (stood m w)
  unfolding acted_by stored
  acted_ring = refl

  acted_place : w < length m.workers → stood (acted bits m w (stood m w) lose) w ≡ (act_on bits lose m.ring (stood m w)).place
  unfolding acted_by stored record_after
  acted_place l = ap (λ (z : Worker). z.place) (get_or-set_same m.workers w _ idler l)

  acted_else : (j : ℕ) → j ≢ w → stood (acted bits m w (stood m w) lose) j ≡ stood m j
  unfolding acted_by stored
  acted_else j far = ap (λ (z : Worker). z.place) (get_or-set_other m.workers w j _ idler far)

  look_ring : looks_at (stood m w) ≡ true → (acted bits m w (stood m w) lose).ring ≡ m.ring
  look_ring h =
      let r = m.ring in
      let i : ℕ = spot_of (fixed_on r) (view_of (stood m w)).held in
      let o = look_on bits (fixed_on r) (ends_on r) (get_or r.slots i (slot 0 0)) lose (stood m w) h in
      acted_ring ∙ ap (λ (y : Ends). ring_of_parts (fixed_on r) y (set r.slots i (act_on bits lose r (stood m w)).slot)) o.ends
      ∙ ap (λ (y : Slot). ring_of_parts (fixed_on r) (ends_on r) (set r.slots i y)) o.spot ∙ ap (ring_of_parts (fixed_on r) (ends_on r)) (set-get_or r.slots i (slot 0 0))

begun_place : (m : Machine) (w : ℕ) (b : Call) → w < length m.workers → stood (begun m w (begin_of b)) w ≡ begin_of b
unfolding begun
begun_place m w b l = ap (λ (z : Worker). z.place) (get_or-set_same m.workers w (beginner (begin_of b)) idler l)

begun_else : (m : Machine) (w : ℕ) (b : Call) (j : ℕ) → j ≢ w → stood (begun m w (begin_of b)) j ≡ stood m j
unfolding begun
begun_else m w b j far = ap (λ (z : Worker). z.place) (get_or-set_other m.workers w j (beginner (begin_of b)) idler far)

begun_ring : (m : Machine) (w : ℕ) (p : Place) → ((begun m w p).ring ≡ m.ring) × ((begun m w p).count ≡ m.count) × ((begun m w p).meter ≡ m.meter)
unfolding begun
begun_ring m w p = (refl, refl, refl)

acted_count : (bits : Width) (m : Machine) (w : ℕ) (p : Place) (lose : Bool) → ((acted bits m w p lose).count ≡ m.count) × ((acted bits m w p lose).meter ≡ m.meter + 1)
unfolding acted_by stored
acted_count bits m w p lose = (refl, refl)

acted_seats : (bits : Width) (m : Machine) (w : ℕ) (p : Place) (lose : Bool) → length (acted bits m w p lose).workers ≡ length m.workers
unfolding acted_by stored
acted_seats bits m w p lose = length-set m.workers w _

begun_seats : (m : Machine) (w : ℕ) (p : Place) → length (begun m w p).workers ≡ length m.workers
unfolding begun
begun_seats m w p = length-set m.workers w _

-- ---- the other machine

module _ (bits : Width) (records c workers ed : ℕ) (a : AllowedWith records c workers ed) where
  abbrev n : ℕ
  n = laps_of bits c

  abbrev BaseOf : Base bits c n workers
  BaseOf = base_of bits records c workers ed a

  abbrev Two : Machine → Story → Type 0
  Two = Both bits c n workers BaseOf ed

  record Beside (m : Machine) (st : Story) : Type 0 where
    other : Machine
    both : Two other (unlooked st)
    ring : other.ring ≡ m.ring
    count : other.count ≡ m.count
    early : other.meter ≤ m.meter
    long : m.count ≤ length m.workers
    seats : (w : ℕ) → (stood other w ≡ stood m w) ⊎ (((view_of (stood other w)).busy ≡ false) × Aside (stood m w))
    dated : (w : ℕ) → holds (holding_at (stood other w)) ≡ true → Alike (since w (acts_in (unlooked st))) (since w (acts_in st))

  -- there nobody looks
  none_looks : (m : Machine) (st : Story) → Two m st → (w : ℕ) (p : Place) → stood m w ≡ p → looks_at p ≡ true → ⊥
  none_looks m st o w p is h = go p is h
    where
      due_at : (y : Place) → stood m w ≡ y → Due c n ed st o.told.reached.ring (o.told.reached.pictured.ages w) w (task y)
      due_at y e = subst (λ (z : Place). Due c n ed st o.told.reached.ring (o.told.reached.pictured.ages w) w (task z)) e (o.told.dues w)

      go : (y : Place) → stood m w ≡ y → looks_at y ≡ true → ⊥
      go (Idle x) e z = true≢false (sym z)
      go (P1 k x) e z = true≢false (sym z)
      go (P2 k t x) e z = true≢false (sym z)
      go (P3 k t x) e z = true≢false (sym z)
      go (P4 t x) e z = true≢false (sym z)
      go (P5 t) e z = true≢false (sym z)
      go (P6 t x) e z = true≢false (sym z)
      go (F6 t x) e z = true≢false (sym z)
      go (F7 t x) e z = true≢false (sym z)
      go (F8 t x) e z = true≢false (sym z)
      go (F9 t old) e z = true≢false (sym z)
      go O1 e z = true≢false (sym z)
      go (O2 y) e z = true≢false (sym z)
      go (O3 y) e z = true≢false (sym z)
      go (O4 y) e z = true≢false (sym z)
      go (O5 y v) e z = true≢false (sym z)
      go (O6 y) e z = true≢false (sym z)
      go Len1 e z = true≢false (sym (o.lined.ok w call.Len (due_at Len1 e).its))
      go (Len2 t) e z = true≢false (sym (o.lined.ok w call.Len (due_at (Len2 t) e).0.its))
      go (Len3 t y) e z = true≢false (sym (o.lined.ok w call.Len (due_at (Len3 t y) e).work.its))
      go Empty1 e z = true≢false (sym (o.lined.ok w call.IsEmpty (due_at Empty1 e).its))
      go (Empty2 y) e z = true≢false (sym (o.lined.ok w call.IsEmpty (due_at (Empty2 y) e).0.its))
      go Full1 e z = true≢false (sym (o.lined.ok w call.IsFull (due_at Full1 e).its))
      go (Full2 t) e z = true≢false (sym (o.lined.ok w call.IsFull (due_at (Full2 t) e).0.its))
      go Close1 e z = true≢false (sym z)
      go IsClosed1 e z = true≢false (sym z)

  -- a call that does not only look is one step in this edition
  in_two : (ed ≡ 1 → false ≡ true) → Dec (ed ≡ 2) → eqb ed 2 ≡ true
  in_two never (yes z) = eq-eqb ed 2 z
  in_two never (no z) = absurd (true≢false (sym (never (omega (arith, a.edition_some, a.edition_most)))))

  fits : (b : Call) → (ed ≡ 1 → never_closes b ≡ true) → looks b ≡ false → one_step ed b ≡ true
  fits (call.Push x) never h = refl
  fits (call.ForcePush x) never h = refl
  fits call.Pop never h = refl
  fits call.Len never h = absurd (true≢false h)
  fits call.IsEmpty never h = absurd (true≢false h)
  fits call.IsFull never h = absurd (true≢false h)
  fits call.Close never h = in_two never (ℕ_discrete ed 2)
  fits call.IsClosed never h = in_two never (ℕ_discrete ed 2)

  module _ (m : Machine) (st : Story) (o : Beside m st) (window : InWidestWindow bits m (acts_in st)) where
    -- what the other holds of words is as old
    in_window : InWidestWindow bits o.other (acts_in (unlooked st))
    in_window w held = go (o.seats w)
      where
        go : (stood o.other w ≡ stood m w) ⊎ (((view_of (stood o.other w)).busy ≡ false) × Aside (stood m w))
            → ((tally (since w (acts_in (unlooked st)))).tail.0 < widest_length bits (fixed_on o.other.ring))
            × ((tally (since w (acts_in (unlooked st)))).head.0 < widest_length bits (fixed_on o.other.ring))
        go (inr z) = absurd (idle_holds (stood o.other w) z.0 held)
        go (inl z) =
            let in_it = window w (ap (λ (p : Place). holds (holding_at p)) (sym z) ∙ held) in
            let age = o.dated w held in
            let ring : widest_length bits (fixed_on o.other.ring) ≡ widest_length bits (fixed_on m.ring) = ap (λ (r : Ring). widest_length bits (fixed_on r)) o.ring in
            (omega (arith, in_it.0, age.0, ring), omega (arith, in_it.1, age.1, ring))

    other_long : o.other.count ≤ length o.other.workers
    other_long = let pic = o.both.told.reached.pictured in omega (arith, pic.workers_long, few_workers o.other pic.unbroken)

    -- ---- a call begun

    module _ (w : ℕ) (b : Call) (l : w < m.count) (idle : (view_of (stood m w)).busy ≡ false) where
      abbrev next : Machine
      next = begun m w (begin_of b)

      abbrev st' : Story
      st' = st ++ Begun w b ∷ []

      mine : stood next w ≡ begin_of b
      mine = begun_place m w b (omega (arith, o.long))

      same_acts : acts_in st' ≡ acts_in st
      same_acts = acts_end st (Begun w b) ∙ append-nil (acts_in st)

      longer : next.count ≤ length next.workers
      longer = omega (arith, o.long, (begun_ring m w (begin_of b)).1, begun_seats m w (begin_of b))

      other_idle : (view_of (stood o.other w)).busy ≡ false
      other_idle = go (o.seats w)
        where
          go : (stood o.other w ≡ stood m w) ⊎ (((view_of (stood o.other w)).busy ≡ false) × Aside (stood m w)) → (view_of (stood o.other w)).busy ≡ false
          go (inl z) = ap (λ (p : Place). (view_of p).busy) z ∙ idle
          go (inr z) = z.0

      seat_else : (there : Machine) (j : ℕ) → stood there j ≡ stood o.other j → stood next j ≡ stood m j
          → (stood there j ≡ stood next j) ⊎ (((view_of (stood there j)).busy ≡ false) × Aside (stood next j))
      seat_else there j x y = go (o.seats j)
        where
          go : (stood o.other j ≡ stood m j) ⊎ (((view_of (stood o.other j)).busy ≡ false) × Aside (stood m j))
              → (stood there j ≡ stood next j) ⊎ (((view_of (stood there j)).busy ≡ false) × Aside (stood next j))
          go (inl z) = inl (x ∙ z ∙ sym y)
          go (inr z) = inr (ap (λ (p : Place). (view_of p).busy) x ∙ z.0, subst Aside (sym y) z.1)

      begins_aside : looks b ≡ true → Beside next st'
      begins_aside h =
          record {
            other = o.other;
            both = subst (Two o.other) (sym (call_left st w b h)) o.both;
            ring = o.ring ∙ sym (begun_ring m w (begin_of b)).0;
            count = o.count ∙ sym (begun_ring m w (begin_of b)).1;
            early = omega (arith, o.early, (begun_ring m w (begin_of b)).2);
            long = longer;
            seats = λ j. seat j (ℕ_discrete j w);
            dated = λ j held. rw (call_left st w b h, same_acts) (o.dated j held);
          }
        where
          seat : (j : ℕ) → Dec (j ≡ w) → (stood o.other j ≡ stood next j) ⊎ (((view_of (stood o.other j)).busy ≡ false) × Aside (stood next j))
          seat j (yes z) = rw z (inr (other_idle, λ busy. ap looks_at mine ∙ look_begins b ∙ h))
          seat j (no z) = seat_else o.other j refl (begun_else m w b j z)

      begins_too : looks b ≡ false → one_step ed b ≡ true → Beside next st'
      begins_too h one =
          record {
            other = there;
            both =
                subst (Two there) (sym kept)
                (both_kept bits c n workers BaseOf ed o.other (unlooked st) (Asks w (Begin b)) there [] o.both in_window (one, tt) (began w b (omega (arith, o.count)) other_idle));
            ring = (begun_ring o.other w (begin_of b)).0 ∙ o.ring ∙ sym (begun_ring m w (begin_of b)).0;
            count = (begun_ring o.other w (begin_of b)).1 ∙ o.count ∙ sym (begun_ring m w (begin_of b)).1;
            early = omega (arith, o.early, (begun_ring m w (begin_of b)).2, (begun_ring o.other w (begin_of b)).2);
            long = longer;
            seats = λ j. seat j (ℕ_discrete j w);
            dated = λ j held. date j held (ℕ_discrete j w);
          }
        where
          there : Machine
          there = begun o.other w (begin_of b)

          kept : unlooked st' ≡ unlooked st ++ Begun w b ∷ []
          kept = call_kept st w b h

          there_mine : stood there w ≡ begin_of b
          there_mine = begun_place o.other w b (omega (arith, other_long, o.count))

          seat : (j : ℕ) → Dec (j ≡ w) → (stood there j ≡ stood next j) ⊎ (((view_of (stood there j)).busy ≡ false) × Aside (stood next j))
          seat j (yes z) = rw z (inl (there_mine ∙ sym mine))
          seat j (no z) = seat_else there j (begun_else o.other w b j z) (begun_else m w b j z)

          date : (j : ℕ) → holds (holding_at (stood there j)) ≡ true → Dec (j ≡ w) → Alike (since j (acts_in (unlooked st'))) (since j (acts_in st'))
          date j held (yes z) =
              absurd (true≢false (sym held ∙ ap (λ (i : ℕ). holds (holding_at (stood there i))) z ∙ ap (λ (p : Place). holds (holding_at p)) there_mine ∙ begins_without b))
          date j held (no z) =
              let same_too : acts_in (unlooked st') ≡ acts_in (unlooked st) = ap acts_in kept ∙ acts_end (unlooked st) (Begun w b) ∙ append-nil (acts_in (unlooked st)) in
              rw (same_too, same_acts) (o.dated j (ap (λ (p : Place). holds (holding_at p)) (sym (begun_else o.other w b j z)) ∙ held))

      begins : (ed ≡ 1 → never_closes b ≡ true) → Beside next st'
      begins never = go (looks b) refl
        where
          go : (y : Bool) → looks b ≡ y → Beside next st'
          go true h = begins_aside h
          go false h = begins_too h (fits b never h)

    -- ---- an act

    module _ (w : ℕ) (lose : Bool) (l : w < m.count) (busy : (view_of (stood m w)).busy ≡ true) (early : m.meter < meter_most) where
      abbrev then_next : Machine
      then_next = acted bits m w (stood m w) lose

      abbrev e : Event
      e = event_of bits m w lose then_next

      abbrev st_then : Story
      st_then = st ++ Does e ∷ []

      abbrev to : Acted
      to = act_on bits lose m.ring (stood m w)

      went_to : stood then_next w ≡ to.place
      went_to = acted_place bits m w lose (omega (arith, o.long))

      acts_more : acts_in st_then ≡ acts_in st ++ e ∷ []
      acts_more = acts_end st (Does e)

      long_then : then_next.count ≤ length then_next.workers
      long_then = omega (arith, o.long, (acted_count bits m w (stood m w) lose).0, acted_seats bits m w (stood m w) lose)

      acts_aside : looks_at (stood m w) ≡ true → Beside then_next st_then
      acts_aside h =
          record {
            other = o.other;
            both = subst (Two o.other) (sym kept) o.both;
            ring = o.ring ∙ sym (look_ring bits m w lose h);
            count = o.count ∙ sym (acted_count bits m w (stood m w) lose).0;
            early = omega (arith, o.early, (acted_count bits m w (stood m w) lose).1);
            long = long_then;
            seats = λ j. seat j (ℕ_discrete j w) (o.seats j);
            dated = λ j held. date j held (ℕ_discrete j w);
          }
        where
          kept : unlooked st_then ≡ unlooked st
          kept = act_left st e h

          still : Still (ends_on m.ring) (get_or m.ring.slots (spot_of (fixed_on m.ring) (view_of (stood m w)).held) (slot 0 0)) to
          still = look_on bits (fixed_on m.ring) (ends_on m.ring) (get_or m.ring.slots (spot_of (fixed_on m.ring) (view_of (stood m w)).held) (slot 0 0)) lose (stood m w) h

          other_idle : (view_of (stood o.other w)).busy ≡ false
          other_idle = go (o.seats w)
            where
              go : (stood o.other w ≡ stood m w) ⊎ (((view_of (stood o.other w)).busy ≡ false) × Aside (stood m w)) → (view_of (stood o.other w)).busy ≡ false
              go (inl z) = absurd (none_looks o.other (unlooked st) o.both w (stood m w) z h)
              go (inr z) = z.0

          seat : (j : ℕ) → Dec (j ≡ w) → (stood o.other j ≡ stood m j) ⊎ (((view_of (stood o.other j)).busy ≡ false) × Aside (stood m j))
              → (stood o.other j ≡ stood then_next j) ⊎ (((view_of (stood o.other j)).busy ≡ false) × Aside (stood then_next j))
          seat j (yes z) was = rw z (inr (other_idle, subst Aside (sym went_to) still.aside))
          seat j (no z) (inl was) = inl (was ∙ sym (acted_else bits m w lose j z))
          seat j (no z) (inr was) = inr (was.0, subst Aside (sym (acted_else bits m w lose j z)) was.1)

          date : (j : ℕ) → holds (holding_at (stood o.other j)) ≡ true → Dec (j ≡ w) → Alike (since j (acts_in (unlooked st_then))) (since j (acts_in st_then))
          date j held (yes z) = absurd (idle_holds (stood o.other j) (ap (λ (i : ℕ). (view_of (stood o.other i)).busy) z ∙ other_idle) held)
          date j held (no z) =
              rw (kept, acts_more, since_else j (acts_in st) e (λ y. z (sym y)))
              (alike_still (since j (acts_in (unlooked st))) (since j (acts_in st)) e (ap moved_of went_to ∙ still.claims) (o.dated j held))

      acts_too : looks_at (stood m w) ≡ false → Beside then_next st_then
      acts_too h = go (o.seats w)
        where
          go : (stood o.other w ≡ stood m w) ⊎ (((view_of (stood o.other w)).busy ≡ false) × Aside (stood m w)) → Beside then_next st_then
          go (inr z) = absurd (true≢false (sym (z.1 busy) ∙ h))
          go (inl at) =
              record {
                other = there;
                both =
                    subst (Two there) (sym kept)
                    (subst (λ (y : Event). Two there (unlooked st ++ Does y ∷ [])) same_event
                    (both_kept bits c n workers BaseOf ed o.other (unlooked st) (Asks w (Act lose)) there (event_of bits o.other w lose there ∷ []) o.both in_window tt
                    (did w lose (omega (arith, o.count)) (ap (λ (p : Place). (view_of p).busy) at ∙ busy) (omega (arith, o.early)))));
                ring =
                    acted_ring bits o.other w lose ∙ ap (λ (r : Ring). ring_on bits lose r (stood o.other w)) o.ring ∙ ap (ring_on bits lose m.ring) at
                    ∙ sym (acted_ring bits m w lose);
                count = (acted_count bits o.other w (stood o.other w) lose).0 ∙ o.count ∙ sym (acted_count bits m w (stood m w) lose).0;
                early = omega (arith, o.early, (acted_count bits m w (stood m w) lose).1, (acted_count bits o.other w (stood o.other w) lose).1);
                long = long_then;
                seats = λ j. seat j (ℕ_discrete j w) (o.seats j);
                dated = λ j held. date j held (ℕ_discrete j w);
              }
            where
              there : Machine
              there = acted bits o.other w (stood o.other w) lose

              kept : unlooked st_then ≡ unlooked st ++ Does e ∷ []
              kept = act_kept st e h

              same_act : act_on bits lose o.other.ring (stood o.other w) ≡ to
              same_act = ap (λ (r : Ring). act_on bits lose r (stood o.other w)) o.ring ∙ ap (act_on bits lose m.ring) at

              there_mine : stood there w ≡ to.place
              there_mine = acted_place bits o.other w lose (omega (arith, other_long, o.count)) ∙ ap (λ (y : Acted). y.place) same_act

              same_event : event_of bits o.other w lose there ≡ e
              same_event =
                  ap (λ (p : Place). event w p (stood there w) (loss_at bits o.other w lose)) at
                  ∙ ap (λ (p : Place). event w (stood m w) p (loss_at bits o.other w lose)) (there_mine ∙ sym went_to)
                  ∙ ap (λ (y : Acted). event w (stood m w) (stood then_next w) y.loss) same_act

              seat : (j : ℕ) → Dec (j ≡ w) → (stood o.other j ≡ stood m j) ⊎ (((view_of (stood o.other j)).busy ≡ false) × Aside (stood m j))
                  → (stood there j ≡ stood then_next j) ⊎ (((view_of (stood there j)).busy ≡ false) × Aside (stood then_next j))
              seat j (yes z) was = rw z (inl (there_mine ∙ sym went_to))
              seat j (no z) (inl was) = inl (acted_else bits o.other w lose j z ∙ was ∙ sym (acted_else bits m w lose j z))
              seat j (no z) (inr was) =
                  inr (ap (λ (p : Place). (view_of p).busy) (acted_else bits o.other w lose j z) ∙ was.0, subst Aside (sym (acted_else bits m w lose j z)) was.1)

              more_too : acts_in (unlooked st_then) ≡ acts_in (unlooked st) ++ e ∷ []
              more_too = ap acts_in kept ∙ acts_end (unlooked st) (Does e)

              -- its own word: new, or held before
              own : (d : Holding) → holding_at e.after ≡ d → holds d ≡ true → Follows d (stood m w) e.after
                  → Alike (cond (is_new d) [] (since w (acts_in (unlooked st)) ++ e ∷ [])) (cond (is_new d) [] (since w (acts_in st) ++ e ∷ []))
              own NoWord is held leads = absurd (true≢false (sym held))
              own NewWord is held leads = (refl, refl)
              own OldWord is held leads =
                  alike_more (since w (acts_in (unlooked st))) (since w (acts_in st)) e (o.dated w (ap (λ (p : Place). holds (holding_at p)) at ∙ leads.0))

              date : (j : ℕ) → holds (holding_at (stood there j)) ≡ true → Dec (j ≡ w) → Alike (since j (acts_in (unlooked st_then))) (since j (acts_in st_then))
              date j held (yes z) =
                  rw (z, more_too, acts_more, since_own (acts_in (unlooked st)) e, since_own (acts_in st) e)
                  (own (holding_at e.after) refl (ap (λ (p : Place). holds (holding_at p)) (went_to ∙ sym there_mine) ∙ ap (λ (i : ℕ). holds (holding_at (stood there i))) (sym z) ∙ held)
                  (subst (λ (p : Place). Follows (holding_at p) (stood m w) p) (sym went_to)
                  (leads_on bits (fixed_on m.ring) (ends_on m.ring) (get_or m.ring.slots (spot_of (fixed_on m.ring) (view_of (stood m w)).held) (slot 0 0)) (stood m w) lose busy)))
              date j held (no z) =
                  rw (more_too, acts_more, since_else j (acts_in (unlooked st)) e (λ y. z (sym y)), since_else j (acts_in st) e (λ y. z (sym y)))
                  (alike_more (since j (acts_in (unlooked st))) (since j (acts_in st)) e (o.dated j (ap (λ (p : Place). holds (holding_at p)) (sym (acted_else bits o.other w lose j z)) ∙ held)))

      acts : Beside then_next st_then
      acts = go (looks_at (stood m w)) refl
        where
          go : (y : Bool) → looks_at (stood m w) ≡ y → Beside then_next st_then
          go true h = acts_aside h
          go false h = acts_too h

    on : (en : Entry) (then : Machine) (its : List Event) → (ed ≡ 1 → OnlySuch never_closes (begun_in en ++ map Does its)) → Turned bits m en then its → Beside then (st ++ (begun_in en ++ map Does its))
    on en then its only (began w b l idle) = begins w b l idle (λ z. (only z).0)
    on en then its only (did w lose l busy early) = acts w lose l busy early

  -- ---- along every schedule

  abbrev Tells : Machine → Story → Type 0
  Tells m st = (ed ≡ 1 → OnlySuch never_closes st) → Beside m st

  fresh_long : (fresh_with records c workers ed).count ≤ length (fresh_with records c workers ed).workers
  unfolding fresh_with
  fresh_long = omega (arith, fresh_records records c workers ed, a.worker_most)

  first_beside : Tells (fresh_with records c workers ed) []
  unfolding unlooked
  first_beside only =
      record {
        other = fresh_with records c workers ed;
        both = first_both bits records c workers ed a tt;
        ring = refl;
        count = refl;
        early = omega arith;
        long = fresh_long;
        seats = λ w. inl refl;
        dated = λ w held. (refl, refl);
      }

  one_entry : (m : Machine) (st : Story) (i j : ℕ) → Tells m st → InWidestWindow bits m (acts_in st) → (turn_at bits m i j).refusal ≡ 0
      → Tells (turn_at bits m i j).machine (st ++ elements_by (events_of bits) m (entry_of i j) (turn_at bits m i j).machine)
  unfolding turn_of_by
  one_entry m st i j o window e only =
      on m st (o (λ z. only_first never_closes st _ (only z))) window (entry_of i j) _ _ (λ z. only_last never_closes st _ (only z)) (turned bits m (entry_of i j) e)

  beside_after : (s : List ℕ) → KeepsWidestWindow (with_records records bits) (fresh_with records c workers ed) [] s
      → Tells (machine_after (with_records records bits) c workers ed s) (story_of (with_records records bits) c workers ed s)
  beside_after s keeps =
      entries_lead_while (ring_queue bits) (elements_by (events_of bits)) (λ (m : Machine) (st : Story). InWidestWindow bits m (acts_in st)) Tells one_entry s (fresh_with records c workers ed) [] 0
      (λ before after e.
      subst (InWidestWindow bits (run_at bits (fresh_with records c workers ed) 0 before).machine)
      (sym (acts_story (λ (d : Did). d.refusal) (λ (d : Did). d.machine) (turn_at bits) (events_of bits) before (fresh_with records c workers ed)))
      (keeps before after e))
      first_beside

pub others_in : (bits : Width) (records c workers ed : ℕ) → AllowedWith records c workers ed → (s : List ℕ) → KeepsWidestWindow (with_records records bits) (fresh_with records c workers ed) [] s
    → OthersOneByOne (with_records records bits) c workers ed s
others_in bits records c workers ed a s keeps only = one_by_one c ed _ _ _ _ (beside_after bits records c workers ed a s keeps only).both.lined

pub others_in_window : (bits : Width) (records : ℕ) → OneStepUnderEveryInWindow (with_records records bits)
others_in_window bits records c workers ed a s keeps = others_in bits records c workers ed a s (widens (with_records records bits) (fresh_with records c workers ed) [] s keeps)

-- of 64 bits every schedule
pub others : (records : ℕ) → OneStepUnderEverySchedule (with_records records SixtyFour)
others records c workers ed a s = others_in SixtyFour records c workers ed a s (always records c workers ed a s)
