-- Every call of push, force_push and pop is one step, and in edition 2 close and is_closed too: one entry more.
use mathlib.Core.Path.{◌≡◌, refl, sym, ap, ◌∙◌, subst}
use mathlib.Core.Logic.{◌≢◌, ◌⊎◌, inl, inr}
use mathlib.Core.Bool.{Bool, true, false, cond, true≢false}
use mathlib.Core.List.{List, [], ◌∷◌, ◌++◌, append-nil}
use Prim.Native.Nat.{ℕ, suc, ◌+◌, ◌*◌, ◌%◌, ◌≤◌, ◌<◌}
use native.Mathlib.Omega.{arith}
use native.Mathlib.Nat.{mod-lt, add-mod_right}
use native.Mathlib.Decide.{ℕ_discrete, dec_lt}
use lib.Dec.{eqb, ltb}
use lib.ListN.{length, get_or, take, drop, length-append}
use borrow.Author.Tests.{eq-eqb, ne_eqb, lt-ltb, le-ltb}
use Rattle.queue_entries.specs.Limits.{meter_most}
use Rattle.queue_entries.specs.declared.Call.{Call}
use Rattle.queue_entries.specs.declared.Call.TheVariants as call
use Rattle.queue_plain.specs.Plain.{Queue, Reply, queue, answer_of, left_by, full_of}
use Rattle.queue_plain.specs.Plain as plain
use Rattle.queue_plain.specs.OneStep.{Step, Follows}
use Rattle.queue_plain.specs.Story.{Does, Doing, doing_with, items_of}
use Rattle.queue_plain.proofs.Stories.{take_more, take_whole, queue_now, queue_past, known_count}
use Rattle.bounded_words.specs.declared.Stamp.{Stamp}
use Rattle.bounded_words.specs.declared.Fixed.{Fixed}
use Rattle.bounded_words.specs.declared.Width.{Width}
use Rattle.bounded_words.specs.Words.{mark_of, minus, same, unmarked_of, lap_behind}
use Rattle.bounded_places.specs.declared.Ends.{Ends}
use Rattle.bounded_places.specs.declared.Kind.{Kind}
use Rattle.bounded_places.specs.declared.Kind.TheVariants.{Push, Force}
use Rattle.bounded_places.specs.declared.Answer.{Answer}
use Rattle.bounded_places.specs.declared.Answer.TheVariants.{Nothing, Pushed, Full, Closed, Displaced, Popped, Empty, PopClosed, Len, Yes, No}
use Rattle.bounded_places.specs.declared.Place.{Place}
use Rattle.bounded_places.specs.declared.Place.TheVariants.{Idle, P1, P2, P3, P4, P5, P6, F6, F7, F8, F9, O1, O2, O3, O4, O5, O6, Len1, Len2, Len3, Empty1, Empty2, Full1, Full2, Close1, IsClosed1}
use Rattle.bounded_places.specs.declared.Moved.TheVariants.{Neither}
use Rattle.bounded_places.specs.Places.{view_of}
use Rattle.bounded_acts.specs.Acts.{goes, act_of}
use Rattle.bounded_machine.specs.declared.Machine.{Machine}
use Rattle.bounded_machine.specs.declared.Event.{Event}
use Rattle.bounded_machine.specs.Machine.{slot, fixed_on, ends_on}
use Rattle.bounded_machine.specs.Turn.{acted}
use Rattle.bounded_machine.specs.History.{moved_of, loss_at}
use Rattle.bounded_causes.specs.Causes.{stand_of, claims_tail, claims_head}
use Rattle.bounded_demands.specs.Notions.{holding_at}
use Rattle.bounded_moments.specs.declared.Timing.{Timing}
use Rattle.bounded_moments.specs.declared.Timing.TheVariants.{Now, Stays, IfSome, IfRoom}
use Rattle.bounded_moments.specs.Moments.{timing_of}
use Rattle.bounded_demands.specs.Stories.{Story, known, queue_at, change_of, actor, reply_of, put_by, taken_by, At, timed, moment_of}
use Rattle.bounded_demands.specs.Demands.{Answered, Meant}
use Rattle.bounded_proof_invariant.proofs.Upd.{upd, upd_same, upd_else}
use Rattle.bounded_proof_invariant.proofs.Ring.{Grab, Await, Hand, Shared, Owns, ViewOk, CellOk}
use Rattle.bounded_proof_invariant.proofs.Effects.{view_course, tail_course}
use Rattle.bounded_proof_each_act.proofs.Sight.{Age, aged as aged_by, look, Stands, Young, Recent}
use Rattle.bounded_proof_each_act.proofs.Stamps.{fixed}
use Rattle.bounded_proof_demand2.proofs.Turns.{stood}
use Rattle.bounded_proof_demand2.proofs.Pictured.{Base, Pictured, new_age}
use Rattle.bounded_proof_plain.proofs.Shelf.{Moves, each_own, queue_act, moment_own, head_course}
use Rattle.bounded_proof_plain.proofs.Work.{task, pushing, GivenBy, EnteredBy, SwapsBy, TakesBy, Due}
use Rattle.bounded_proof_plain.proofs.Rows.{pushed_item, first_of, front_of, room_for, full_to, displaced_to, popped_to, lap_tests, head_tests, tail_tests}
use Rattle.bounded_proof_plain.proofs.Told.{Told, i, a, u, act, told_on, moves, outcome, went, stood_else, told_act}
use Rattle.bounded_proof_plain.proofs.Leads.{Leads, leads}
use Rattle.bounded_proof_plain.proofs.Line.{OfCall, Line, step_by, none_one, one_step_lem, extended, extended_steps, extended_kept, extended_new}
use Rattle.bounded_proof_plain.proofs.Line.{extended_queue, extended_last, inserted, inserted_steps, inserted_kept, inserted_new, inserted_queue}
use Rattle.bounded_proof_plain.proofs.Lined.{Each, Asks, Held, StepOf, AnswerStep, Lined, Pending, out_of, lined_on, held_on, own_entered_kept, own_taken_kept}
use Rattle.bounded_proof_plain.proofs.Replies.{both_false, at_one, no_push, some_none, none_before, busy_silent, neutral, pushed_call, displaced_call}
use Rattle.bounded_proof_plain.proofs.Replies.{popped_call, bare, alike, bare_close, pops, pop_says, counts, no_count, left_closed, close_or, one_reply}
use Rattle.bounded_proof_plain.proofs.Replies.{close_place, waits, looker, Alike}

-- ---- one act more

module _ (bits : Width) (c n workers : ℕ) (base : Base bits c n workers) (ed : ℕ) (m : Machine) (st : Story) (o : Told bits c n workers base ed m st) (w : ℕ)
    (l : w < m.count) (lose : Bool) (busy : (view_of (stood m w)).busy ≡ true)
    (young : Recent c (mark_of c) n o.reached.ring (o.reached.pictured.ages w) (look c (stood m w))) (early : m.meter < meter_most)
    (lin : Lined c ed m st o.reached.ring o.reached.pictured.ages) where
  abbrev s : Shared
  s = o.reached.ring

  abbrev pic : Pictured c n workers o.reached.ring m
  pic = o.reached.pictured

  abbrev mark : ℕ
  mark = mark_of c

  abbrev next_ring : Shared
  next_ring = u bits c n workers base ed m st o w l lose busy young early

  abbrev e : Event
  e = act bits c n workers base ed m st o w l lose busy young early

  abbrev q : Place
  q = (a bits c n workers base ed m st o w l lose busy young early).place

  abbrev st' : Story
  st' = st ++ Does (act bits c n workers base ed m st o w l lose busy young early) ∷ []

  abbrev now : Machine
  now = acted bits m w (stood m w) lose

  mv : Moves c s next_ring w (i bits c n workers base ed m st o w l lose busy young early) q
  mv = moves bits c n workers base ed m st o w l lose busy young early

  done : Told bits c n workers base ed (acted bits m w (stood m w) lose) (st ++ Does (act bits c n workers base ed m st o w l lose busy young early) ∷ [])
  done = told_act bits c n workers base ed m st o w l lose busy young early

  abbrev after : ℕ → Age
  after = upd pic.ages w (new_age bits c n workers base s m pic w l lose busy)

  came : stood now w ≡ q
  came = went bits c n workers base ed m st o w l lose busy young early

  stays : (j : ℕ) → j ≢ w → stood now j ≡ stood m j
  stays = stood_else bits c n workers base ed m st o w l lose busy young early

  aged : (j : ℕ) → j ≢ w → after j ≡ pic.ages j
  aged j far = upd_else pic.ages w j (new_age bits c n workers base s m pic w l lose busy) far

  -- where the act led from, if that matters
  lead : Leads bits (fixed_on m.ring) (ends_on m.ring) (stood m w) q
  lead = leads bits (fixed_on m.ring) (ends_on m.ring) (get_or m.ring.slots (i bits c n workers base ed m st o w l lose busy young early) (slot 0 0)) (stood m w) lose busy

  from_f7 : (t : Stamp) (x : ℕ) → stood m w ≡ F7 t x → q ≡ F8 t x
  unfolding goes
  from_f7 t x h =
      ap (λ (y : Place). (act_of bits (fixed_on m.ring) (ends_on m.ring) (get_or m.ring.slots (i bits c n workers base ed m st o w l lose busy young early) (slot 0 0)) y lose).place) h

  -- ---- a force_push between its two claims

  record Gripped (j : ℕ) : Type 0 where
    k : ℕ
    cell : s.cell (k % c) ≡ Hand Grab k j
    low : k < s.head
    tail : s.tail ≡ k + c
    view : ViewOk c s j (Owns Grab k)

  gripped : (j : ℕ) (t : Stamp) (x : ℕ) → stood m j ≡ F7 t x → Gripped j
  gripped j t x h =
      let st_at : Stands c mark n s j (pic.ages j) (look c (F7 t x)) = subst (λ (y : Place). Stands c mark n s j (pic.ages j) (look c y)) h (pic.stands j) in
      let k = st_at.0 in
      let ok : CellOk c s (st_at.0 % c) (Hand Grab st_at.0 j) = subst (CellOk c s (st_at.0 % c)) st_at.2.0 (pic.inv.cells (st_at.0 % c) (mod-lt st_at.0 base.ground.laws.some)) in
      record { k = k; cell = st_at.2.0; low = ok.1.0; tail = ok.1.1; view = st_at.2 }

  -- there is one at most, the ring is not full then, and nobody else moves tail
  gripped_one : (j v : ℕ) → Gripped j → Gripped v → j ≡ v
  gripped_one j v x y =
      let same : x.k ≡ y.k = omega (arith, x.tail, y.tail) in
      let z : Hand Grab x.k j ≡ Hand Grab x.k v = sym x.cell ∙ ap (λ (k : ℕ). s.cell (k % c)) same ∙ y.cell ∙ ap (λ (k : ℕ). Hand Grab k v) (sym same) in
      cc

  gripped_room : (j : ℕ) → Gripped j → s.tail < s.head + c
  gripped_room j x = omega (arith, x.low, x.tail)

  gripped_stuck : (j : ℕ) → j ≢ w → Gripped j → next_ring.tail ≡ s.tail
  gripped_stuck j far x =
      let on = view_course c s next_ring w (i bits c n workers base ed m st o w l lose busy young early) pic.inv mv.course j far (Owns Grab x.k) x.view in
      let ok : CellOk c next_ring (x.k % c) (Hand Grab x.k j) = subst (CellOk c next_ring (x.k % c)) on.0 (mv.inv.cells (x.k % c) (mod-lt x.k base.ground.laws.some)) in
      ok.1.1 ∙ sym x.tail

  -- so none is under way where the ring is full
  no_pend : s.tail ≡ s.head + c → lin.pend ≡ []
  no_pend full = go lin.pending
    where
      go : Pending m lin.pend → lin.pend ≡ []
      go (inl z) = z.0
      go (inr z) = absurd (omega (arith, gripped_room z.0 (gripped z.0 z.1 z.2 z.3)))

  -- ---- what is known of the worker and of the queue, one act on

  own : Each c ed st' w ≡ doing_with (change_of ed e) (known c ed st).queue (Each c ed st w)
  own = each_own c ed st e

  own_calls : (Each c ed st' w).calls ≡ (Each c ed st w).calls
  own_calls = ap (λ (z : Doing). z.calls) own

  own_begun : (Each c ed st' w).begun ≡ (Each c ed st w).begun
  own_begun = ap (λ (z : Doing). z.begun) own

  own_puts : claims_tail (moved_of q) ≡ false → (Each c ed st' w).puts ≡ (Each c ed st w).puts
  own_puts h = ap (λ (z : Doing). z.puts) own ∙ rw h (append-nil (Each c ed st w).puts)

  own_takes : claims_head (moved_of q) ≡ false → (Each c ed st' w).takes ≡ (Each c ed st w).takes
  own_takes h = ap (λ (z : Doing). z.takes) own ∙ rw h (append-nil (Each c ed st w).takes)

  items_same : moved_of q ≡ Neither → (known c ed st').queue.items ≡ (known c ed st).queue.items
  items_same h = ap (λ (z : Queue). z.items) (queue_act c ed st e) ∙ rw h (append-nil (known c ed st).queue.items)

  -- the flag: in edition 1 nobody closes
  flag_by : (known c ed st').queue.closed ≡ cond (change_of ed e).closes true (cond (change_of ed e).opens false (known c ed st).queue.closed)
  flag_by = ap (λ (z : Queue). z.closed) (queue_act c ed st e)

  flag_same : (change_of ed e).closes ≡ false → (known c ed st').queue.closed ≡ (known c ed st).queue.closed
  flag_same h = flag_by ∙ rw h (go (eqb ed 2) refl)
    where
      go : (b : Bool) → eqb ed 2 ≡ b → cond (cond b false (cond (claims_head (moved_of (stood m w))) (claims_tail (moved_of q)) false)) false (known c ed st).queue.closed ≡ (known c ed st).queue.closed
      go true z = refl
      go false z = rw (lin.open1 z) (both_false (cond (claims_head (moved_of (stood m w))) (claims_tail (moved_of q)) false))

  -- a worker whose act sets the mark is in close
  closing : (stand_of (stood m w)).close ≡ true → (Each c ed st w).calls ≡ call.Close ∷ []
  closing h = (subst (λ (y : Place). Due c n ed st s (pic.ages w) w (task y)) (close_place (stood m w) h) (o.dues w)).its

  not_closing : (cl : Call) → (Each c ed st w).calls ≡ cl ∷ [] → (cl ≡ call.Close → ⊥) → (change_of ed e).closes ≡ false
  not_closing cl its ne = go (stand_of (stood m w)).close refl
    where
      go : (b : Bool) → (stand_of (stood m w)).close ≡ b → cond b (stand_of q).yes false ≡ false
      go true h = absurd (ne (let z : cl ∷ [] ≡ call.Close ∷ [] = sym its ∙ closing h in cc))
      go false h = refl

  open1_on : eqb ed 2 ≡ false → (known c ed st').queue.closed ≡ false
  open1_on h = go (stand_of (stood m w)).close refl
    where
      go : (b : Bool) → (stand_of (stood m w)).close ≡ b → (known c ed st').queue.closed ≡ false
      go true z = absurd (true≢false (sym (lin.ok w call.Close (closing z)) ∙ h))
      go false z = flag_same (rw z) ∙ lin.open1 h

  -- the queue of the one-step run now
  abbrev Here : Queue
  Here = lin.line.queues (length st)

  here_flag : (Here.closed ≡ (known c ed st).queue.closed) × (Here.capacity ≡ c)
  here_flag =
      let f = lin.line.flags (length st) (omega arith) in
      (f.0 ∙ ap (λ (z : Queue). z.closed) (queue_now actor (change_of ed) c st), f.1)

  -- ---- its moment: it has stayed, or it is now

  abbrev Fresh : Age
  Fresh = record { tail = s.tail; head = s.head }

  abbrev Kept : ℕ → Type 0
  Kept k = (Asks c ed m st w k × (after w ≡ pic.ages w)) ⊎ ((k ≡ length st) × (after w ≡ Fresh))

  due_at : (p : Place) → q ≡ p → Due c n ed st' next_ring (new_age bits c n workers base s m pic w l lose busy) w (task p)
  due_at p h = subst (λ (y : Place). Due c n ed st' next_ring (new_age bits c n workers base s m pic w l lose busy) w (task y)) h
      (outcome bits c n workers base ed m st o w l lose busy young early).due

  age_at : (p : Place) → q ≡ p → after w ≡ aged_by s (pic.ages w) (holding_at p)
  age_at p h = upd_same pic.ages w (new_age bits c n workers base s m pic w l lose busy) ∙ ap (λ (y : Place). aged_by s (pic.ages w) (holding_at y)) h

  moment_at : (p : Place) → q ≡ p → moment_of c ed w st' ≡ timed (timing_of (stood m w) p) (known c ed st) (moment_of c ed w st)
  moment_at p h = moment_own c ed st e ∙ ap (λ (y : Place). timed (timing_of (stood m w) y) (known c ed st) (moment_of c ed w st)) h

  kept_at : (p : Place) → q ≡ p → moved_of p ≡ Neither → aged_by s (pic.ages w) (holding_at p) ≡ pic.ages w
      → timed (timing_of (stood m w) p) (known c ed st) (moment_of c ed w st) ≡ moment_of c ed w st → (k : ℕ) → Asks c ed now st' w k → Kept k
  kept_at p h quiet age same k asks =
      let still : moved_of q ≡ Neither = ap moved_of h ∙ quiet in
      inl (
        record {
          kind = asks.kind;
          item = asks.item;
          busy = busy;
          its = sym own_calls ∙ asks.its;
          puts = sym (own_puts (ap claims_tail still)) ∙ asks.puts;
          takes = sym (own_takes (ap claims_head still)) ∙ asks.takes;
          named = sym (moment_at p h ∙ same) ∙ asks.named;
          begun = omega (arith, asks.begun, own_begun);
        },
        age_at p h ∙ age,
      )

  asked_at : (p : Place) → q ≡ p → (k : ℕ) → Asks c ed now st' w k → Kept k
  asked_at (Idle x) h k asks = absurd (true≢false (sym asks.busy ∙ ap (λ (y : Place). (view_of y).busy) (came ∙ h)))
  asked_at (P1 kd x) h k asks = kept_at (P1 kd x) h refl refl refl k asks
  asked_at (P2 kd t x) h k asks =
      inr (at_one k (length st) (sym asks.named ∙ moment_at (P2 kd t x) h ∙ ap At (known_count actor (change_of ed) c st)), age_at (P2 kd t x) h)
  asked_at (P3 kd t x) h k asks = kept_at (P3 kd t x) h refl refl refl k asks
  asked_at (P4 t x) h k asks = some_none _ x (due_at (P4 t x) h).1.work.puts asks.puts
  asked_at (P5 t) h k asks = let d = due_at (P5 t) h in some_none _ d.1 d.2.work.puts asks.puts
  asked_at (P6 t x) h k asks = kept_at (P6 t x) h refl refl refl k asks
  asked_at (F6 t x) h k asks = kept_at (F6 t x) h refl refl refl k asks
  asked_at (F7 t x) h k asks = let d = due_at (F7 t x) h in some_none _ d.v d.work.takes asks.takes
  asked_at (F8 t x) h k asks = let d = due_at (F8 t x) h in some_none _ d.v d.work.takes asks.takes
  asked_at (F9 t old) h k asks = let d = due_at (F9 t old) h in some_none _ d.1.v d.1.work.takes asks.takes
  asked_at O1 h k asks = no_push _ call.Pop asks.kind asks.item refl (due_at O1 h).its asks.its
  asked_at (O2 x) h k asks = no_push _ call.Pop asks.kind asks.item refl (due_at (O2 x) h).its asks.its
  asked_at (O3 x) h k asks = no_push _ call.Pop asks.kind asks.item refl (due_at (O3 x) h).its asks.its
  asked_at (O4 x) h k asks = let d = due_at (O4 x) h in some_none _ d.v d.work.takes asks.takes
  asked_at (O5 x v) h k asks = let d = due_at (O5 x v) h in some_none _ d.v d.work.takes asks.takes
  asked_at (O6 x) h k asks = no_push _ call.Pop asks.kind asks.item refl (due_at (O6 x) h).its asks.its
  asked_at Len1 h k asks = no_push _ call.Len asks.kind asks.item refl (due_at Len1 h).its asks.its
  asked_at (Len2 t) h k asks = no_push _ call.Len asks.kind asks.item refl (due_at (Len2 t) h).0.its asks.its
  asked_at (Len3 t x) h k asks = no_push _ call.Len asks.kind asks.item refl (due_at (Len3 t x) h).work.its asks.its
  asked_at Empty1 h k asks = no_push _ call.IsEmpty asks.kind asks.item refl (due_at Empty1 h).its asks.its
  asked_at (Empty2 x) h k asks = no_push _ call.IsEmpty asks.kind asks.item refl (due_at (Empty2 x) h).0.its asks.its
  asked_at Full1 h k asks = no_push _ call.IsFull asks.kind asks.item refl (due_at Full1 h).its asks.its
  asked_at (Full2 t) h k asks = no_push _ call.IsFull asks.kind asks.item refl (due_at (Full2 t) h).0.its asks.its
  asked_at Close1 h k asks = no_push _ call.Close asks.kind asks.item refl (due_at Close1 h).its asks.its
  asked_at IsClosed1 h k asks = no_push _ call.IsClosed asks.kind asks.item refl (due_at IsClosed1 h).its asks.its

  -- a moment there is: no looker is here
  at_on : (p : Place) → q ≡ p → (k : ℕ) × (moment_of c ed w st' ≡ At k)
  at_on p h = go (timing_of (stood m w) p) refl
    where
      no_looker : ((x : Stamp) × (p ≡ Empty2 x)) ⊎ ((t : Stamp) × (p ≡ Full2 t)) → ⊥
      no_looker (inl y) = true≢false (sym (lin.ok w call.IsEmpty (sym own_calls ∙ (due_at (Empty2 y.0) (h ∙ y.1)).0.its)))
      no_looker (inr y) = true≢false (sym (lin.ok w call.IsFull (sym own_calls ∙ (due_at (Full2 y.0) (h ∙ y.1)).0.its)))

      go : (t : Timing) → timing_of (stood m w) p ≡ t → (k : ℕ) × (moment_of c ed w st' ≡ At k)
      go Now z = ((known c ed st).count, moment_at p h ∙ ap (λ (y : Timing). timed y (known c ed st) (moment_of c ed w st)) z)
      go Stays z = ((lin.ats w).0, moment_at p h ∙ ap (λ (y : Timing). timed y (known c ed st) (moment_of c ed w st)) z ∙ (lin.ats w).1)
      go IfSome z = absurd (no_looker (looker (stood m w) p (ap waits z)))
      go IfRoom z = absurd (no_looker (looker (stood m w) p (ap waits z)))

  rises : (s.tail ≤ next_ring.tail) × (s.head ≤ next_ring.head)
  rises = (
    tail_course c s next_ring w (i bits c n workers base ed m st o w l lose busy young early) mv.course,
    head_course c s next_ring w (i bits c n workers base ed m st o w l lose busy young early) mv.course,
  )

  longer : length st' ≡ length st + 1
  longer = length-append st (Does e ∷ []) ∙ omega arith

  abbrev Still : Type 0
  Still = (next_ring.tail ≡ s.tail) × (next_ring.head ≡ s.head)

  abbrev NotAt : ℕ → Type 0
  NotAt k = (j y : ℕ) → j ≢ w → Asks c ed m st j y → k ≢ y

  -- The run so far, perhaps with a step put in at the worker's own moment; and these steps of the worker just before the act, which lead to the queue `to`.
  record Run : Type 0 where
    before : Line c ed st
    keep : (k : ℕ) (x : Step) → lin.line.steps k ≡ x ∷ [] → before.steps k ≡ x ∷ []
    new : (k : ℕ) (x : Step) → before.steps k ≡ x ∷ [] → (lin.line.steps k ≡ x ∷ []) ⊎ ((x.worker ≡ w) × NotAt k)
    calm : Still → (k : ℕ) (x : Step) → before.steps k ≡ x ∷ [] → (v : ℕ) → x.reply ≡ plain.Displaced v → lin.line.steps k ≡ x ∷ []
    same : Still → (k : ℕ) → k ≤ length st → (before.queues k).items ≡ (lin.line.queues k).items
    own_free : (k : ℕ) → Asks c ed m st w k → Asks c ed now st' w k → (x : Step) → before.steps k ≡ x ∷ [] → lin.line.steps k ≡ x ∷ []
    steps : List Step
    to : Queue
    few : length steps ≤ 1
    goes : Follows (before.queues (length st)) steps to
    mine : (x : Step) → steps ≡ x ∷ [] → x.worker ≡ w
    its : (x : Step) → steps ≡ x ∷ [] → OfCall c ed st (length st) x
    first_one : (x : Step) → steps ≡ x ∷ [] → (k : ℕ) (y : Step) → before.steps k ≡ y ∷ [] → y.worker ≡ x.worker → k < (Each c ed st x.worker).begun
    flag : to.closed ≡ (known c ed st').queue.closed
    room : to.capacity ≡ c
    undisplaced : Still → (x : Step) → steps ≡ x ∷ [] → (v : ℕ) → x.reply ≡ plain.Displaced v → ⊥
    items : Still → (to.items ≡ (before.queues (length st)).items) × ((known c ed st').queue.items ≡ (known c ed st).queue.items)
    gift : (k : ℕ) → Asks c ed now st' w k → k ≡ length st → steps ≡ []

  module _ (r : Run) where
    -- the run afterwards
    abbrev then_line : Line c ed st'
    then_line = extended c ed st r.before (Does e) r.steps r.to r.few r.goes r.its r.first_one r.flag r.room

    steps_then : (k : ℕ) (x : Step) → then_line.steps k ≡ x ∷ [] → ((k ≡ length st) × (r.steps ≡ x ∷ [])) ⊎ (r.before.steps k ≡ x ∷ [])
    steps_then = extended_steps c ed st r.before (Does e) r.steps r.to r.few r.goes r.its r.first_one r.flag r.room

    kept_then : (k : ℕ) (x : Step) → lin.line.steps k ≡ x ∷ [] → then_line.steps k ≡ x ∷ []
    kept_then k x h = let z = r.keep k x h in extended_kept c ed st r.before (Does e) r.steps r.to r.few r.goes r.its r.first_one
        r.flag r.room k (r.before.inside k x z) ∙ z

    put_then : (k : ℕ) (x : Step) → r.before.steps k ≡ x ∷ [] → then_line.steps k ≡ x ∷ []
    put_then k x h = extended_kept c ed st r.before (Does e) r.steps r.to r.few r.goes r.its r.first_one r.flag r.room k (r.before.inside k x h) ∙ h

    now_then : then_line.steps (length st) ≡ r.steps
    now_then = extended_new c ed st r.before (Does e) r.steps r.to r.few r.goes r.its r.first_one r.flag r.room

    last_then : then_line.queues (length st') ≡ r.to
    last_then = extended_last c ed st r.before (Does e) r.steps r.to r.few r.goes r.its r.first_one r.flag r.room

    news : (k : ℕ) (x : Step) → then_line.steps k ≡ x ∷ [] → (lin.line.steps k ≡ x ∷ []) ⊎ ((x.worker ≡ w) × NotAt k)
    news k x h = go (steps_then k x h)
      where
        go : ((k ≡ length st) × (r.steps ≡ x ∷ [])) ⊎ (r.before.steps k ≡ x ∷ []) → (lin.line.steps k ≡ x ∷ []) ⊎ ((x.worker ≡ w) × NotAt k)
        go (inl z) = inr (r.mine x z.1, λ j y far asks same_at. omega (arith, z.0, (lin.held j y asks).short))
        go (inr z) = r.new k x z

    calm_news : next_ring.tail ≡ s.tail → next_ring.head ≡ s.head → (k : ℕ) (x : Step) → then_line.steps k ≡ x ∷ [] → (v : ℕ) → x.reply ≡ plain.Displaced v → lin.line.steps k ≡ x ∷ []
    calm_news et eh k x h v reply = go (steps_then k x h)
      where
        go : ((k ≡ length st) × (r.steps ≡ x ∷ [])) ⊎ (r.before.steps k ≡ x ∷ []) → lin.line.steps k ≡ x ∷ []
        go (inl z) = absurd (r.undisplaced (et, eh) x z.1 v reply)
        go (inr z) = r.calm (et, eh) k x z v reply

    queues_same : next_ring.tail ≡ s.tail → next_ring.head ≡ s.head → (k : ℕ) → k ≤ length st → (then_line.queues k).items ≡ (lin.line.queues k).items
    queues_same et eh k h = ap (λ (z : Queue). z.items) (extended_queue c ed st r.before (Does e) r.steps r.to r.few r.goes r.its
        r.first_one r.flag r.room k h) ∙ r.same (et, eh) k h

    last_same : next_ring.tail ≡ s.tail → next_ring.head ≡ s.head → ((then_line.queues (length st')).items ≡ Here.items) × ((known c ed st').queue.items ≡ (known c ed st).queue.items)
    last_same et eh =
        let z = r.items (et, eh) in
        (ap (λ (y : Queue). y.items) last_then ∙ z.0 ∙ r.same (et, eh) (length st) (omega arith), z.1)

    -- the word that the act gave its worker
    given_now : r.steps ≡ [] → Held c ed st' then_line next_ring Fresh w (length st)
    given_now none =
        let whole : take (length st) st' ≡ st = take_more (length st) st (Does e) (omega arith) ∙ take_whole st in
        record {
          short = omega (arith, longer);
          free = now_then ∙ none;
          then_its = ap (λ (z : Story). (Each c ed z w).calls) whole ∙ sym own_calls;
          then_begun = ap (λ (z : Story). (Each c ed z w).begun) whole ∙ sym own_begun;
          old = rises;
          calm =
              λ full tails heads.
              let quiet : Still = (tails, heads) in
              let z = r.items (tails, heads) in
              let here : Here.items ≡ (known c ed st).queue.items = lin.last ∙ ap (λ (k : List ℕ). (known c ed st).queue.items ++ k) (no_pend full) ∙ append-nil (known c ed st).queue.items in (
                λ k low high. at k low high quiet here (ℕ_discrete k (length st)),
                λ k x low h v reply. absurd (none_at k x low (steps_then k x h)),
              );
        }
      where
        at : (k : ℕ) → length st ≤ k → k ≤ length st' → Still → Here.items ≡ (known c ed st).queue.items → Dec (k ≡ length st) → (then_line.queues k).items ≡ (known c ed st').queue.items
        at k low high quiet here (yes z) = ap (λ (y : ℕ). (then_line.queues y).items) z ∙ queues_same quiet.0 quiet.1 (length st) (omega arith) ∙ here ∙ sym (r.items quiet).1
        at k low high quiet here (no z) =
            let end : k ≡ length st' = omega (arith, longer) in
            ap (λ (y : ℕ). (then_line.queues y).items) end ∙ (last_same quiet.0 quiet.1).0 ∙ here ∙ sym (r.items quiet).1

        none_at : (k : ℕ) (x : Step) → length st ≤ k → ((k ≡ length st) × (r.steps ≡ x ∷ [])) ⊎ (r.before.steps k ≡ x ∷ []) → ⊥
        none_at k x low (inl z) = none_one x (sym none ∙ z.1)
        none_at k x low (inr z) = omega (arith, r.before.inside k x z)

    own_held : (k : ℕ) → Asks c ed now st' w k → Held c ed st' then_line next_ring (after w) w k
    own_held k asks = go (asked_at q refl k asks)
      where
        go : Kept k → Held c ed st' then_line next_ring (after w) w k
        go (inl z) =
            subst (λ (y : Age). Held c ed st' then_line next_ring y w k) (sym z.1)
            (held_on c ed m now st s next_ring pic.ages after lin e then_line stays aged rises kept_then news calm_news queues_same last_same w k (pic.ages w) (lin.held w k z.0)
            (λ x h. old x (steps_then k x h)) own_calls own_begun)
          where
            old : (x : Step) → ((k ≡ length st) × (r.steps ≡ x ∷ [])) ⊎ (r.before.steps k ≡ x ∷ []) → lin.line.steps k ≡ x ∷ []
            old x (inl y) = absurd (omega (arith, y.0, (lin.held w k z.0).short))
            old x (inr y) = r.own_free k z.0 asks x y
        go (inr z) =
            subst (λ (y : Age). Held c ed st' then_line next_ring y w k) (sym z.1)
            (subst (λ (y : ℕ). Held c ed st' then_line next_ring Fresh w y) (sym z.0) (given_now (r.gift k asks z.0)))

    own_apart : (j k : ℕ) → j ≢ w → Asks c ed now st' w k → Asks c ed m st j k → ⊥
    own_apart j k far asks other = go (asked_at q refl k asks)
      where
        go : Kept k → ⊥
        go (inl z) = lin.apart w j k (λ y. far (sym y)) z.0 other
        go (inr z) = omega (arith, z.0, (lin.held j k other).short)

    -- what is left: the items on their way, the answer, and the steps that the worker has
    finish : (pend : List ℕ) → r.to.items ≡ (known c ed st').queue.items ++ pend → Pending now pend
        → ((x : Answer) → q ≡ Idle x → AnswerStep c ed st' then_line st e x)
        → ((view_of q).busy ≡ true → (Each c ed st' w).puts ≡ [] → (Each c ed st' w).takes ≡ [] → (k : ℕ) (x : Step) → then_line.steps k ≡ x ∷ [] → x.worker ≡ w → k < (Each c ed st' w).begun)
        → ((v : ℕ) → (view_of q).busy ≡ true → (Each c ed st' w).puts ≡ v ∷ [] → (Each c ed st' w).takes ≡ [] → StepOf c ed st' then_line w plain.Pushed)
        → ((v : ℕ) (cl : Call) → (view_of q).busy ≡ true → (Each c ed st' w).takes ≡ v ∷ [] → (Each c ed st' w).calls ≡ cl ∷ [] → StepOf c ed st' then_line w (out_of cl v))
        → Lined c ed now st' next_ring after
    finish pend last pending said unstepped entered taken =
        let busy_q : (view_of (stood now w)).busy ≡ true → (view_of q).busy ≡ true = λ h. ap (λ (y : Place). (view_of y).busy) (sym came) ∙ h in
        lined_on c ed m now st s next_ring pic.ages after lin e then_line stays aged rises kept_then news calm_news queues_same last_same
        pend (ap (λ (y : Queue). y.items) last_then ∙ last) pending open1_on own_calls said (at_on q refl)
        (λ h. unstepped (busy_q h)) (λ v h. entered v (busy_q h)) (λ v cl h. taken v cl (busy_q h)) own_held own_apart

  silent : (view_of q).busy ≡ true → (change_of ed e).closes ≡ false
  silent b = rw (busy_silent q b) (both_false (stand_of (stood m w)).close)

  kept_entered : (r : Run) (v : ℕ) → (Each c ed st w).puts ≡ v ∷ [] → (Each c ed st w).takes ≡ [] → StepOf c ed st' (then_line r) w plain.Pushed
  kept_entered r v =
      own_entered_kept c ed m now st s next_ring pic.ages after lin e (then_line r) stays aged rises (kept_then r) (news r) (calm_news r) (queues_same r) (last_same r) v busy own_calls own_begun

  kept_taken : (r : Run) (v : ℕ) (cl : Call) → (Each c ed st w).takes ≡ v ∷ [] → (Each c ed st w).calls ≡ cl ∷ [] → StepOf c ed st' (then_line r) w (out_of cl v)
  kept_taken r v cl =
      own_taken_kept c ed m now st s next_ring pic.ages after lin e (then_line r) stays aged rises (kept_then r) (news r) (calm_news r) (queues_same r) (last_same r) v cl busy own_calls own_begun

  -- who is on the way between the two claims of a force_push
  pending_kept : ((t : Stamp) (x : ℕ) → q ≡ F7 t x → ⊥) → ((t : Stamp) (x : ℕ) → stood m w ≡ F7 t x → ⊥) → Pending now lin.pend
  pending_kept not_to not_from = go lin.pending
    where
      go : Pending m lin.pend → Pending now lin.pend
      go (inl z) = inl (z.0, λ j t x h. none j t x h (ℕ_discrete j w))
        where
          none : (j : ℕ) (t : Stamp) (x : ℕ) → stood now j ≡ F7 t x → Dec (j ≡ w) → ⊥
          none j t x h (yes y) = not_to t x (sym came ∙ ap (stood now) (sym y) ∙ h)
          none j t x h (no y) = z.1 j t x (sym (stays j y) ∙ h)
      go (inr z) =
          let far : z.0 ≢ w = λ y. not_from z.1 z.2 (ap (stood m) (sym y) ∙ z.3) in
          inr (z.0, z.1, z.2, stays z.0 far ∙ z.3, z.4)

  f8_is : (t : Stamp) (x : ℕ) → stood m w ≡ F7 t x → (p : Place) → q ≡ p → moved_of p ≡ Neither → ⊥
  f8_is t x h p at neither = true≢false (ap claims_tail (sym (ap moved_of (from_f7 t x h)) ∙ ap moved_of at ∙ neither))

  -- ---- an act that makes no claim and ends no call

  quiet_run : (change_of ed e).closes ≡ false → moved_of q ≡ Neither → Run
  quiet_run shut neither =
      record {
        before = lin.line;
        keep = λ k x h. h;
        new = λ k x h. inl h;
        calm = λ z k x h v r. h;
        same = λ z k h. refl;
        own_free = λ k x y z h. h;
        steps = [];
        to = Here;
        few = omega arith;
        goes = refl;
        mine = λ x h. none_one x h;
        its = λ x h. none_one x h;
        first_one = λ x h. none_one x h;
        flag = here_flag.0 ∙ sym (flag_same shut);
        room = here_flag.1;
        undisplaced = λ z x h. none_one x h;
        items = λ z. (refl, items_same neither);
        gift = λ k x y. refl;
      }

  line_quiet : (view_of q).busy ≡ true → moved_of q ≡ Neither → Lined c ed now st' next_ring after
  unfolding quiet_run
  line_quiet b neither =
      let no_t = ap claims_tail neither in
      let no_h = ap claims_head neither in
      finish (quiet_run (silent b) neither) lin.pend (lin.last ∙ ap (λ (k : List ℕ). k ++ lin.pend) (sym (items_same neither)))
      (pending_kept (λ t x h. true≢false (ap claims_head (sym (ap moved_of h) ∙ neither))) (λ t x h. f8_is t x h q refl neither))
      (λ x h. absurd (true≢false (sym b ∙ ap (λ (y : Place). (view_of y).busy) h)))
      (λ y puts takes k x h by. unstepped puts takes k x by (steps_then (quiet_run (silent b) neither) k x h))
      (λ v y puts takes. kept_entered (quiet_run (silent b) neither) v (sym (own_puts no_t) ∙ puts) (sym (own_takes no_h) ∙ takes))
      (λ v cl y takes its. kept_taken (quiet_run (silent b) neither) v cl (sym (own_takes no_h) ∙ takes) (sym own_calls ∙ its))
    where
      unstepped : (Each c ed st' w).puts ≡ [] → (Each c ed st' w).takes ≡ [] → (k : ℕ) (x : Step) → x.worker ≡ w
          → ((k ≡ length st) × ([] ≡ x ∷ [])) ⊎ (lin.line.steps k ≡ x ∷ []) → k < (Each c ed st' w).begun
      unstepped puts takes k x by (inl z) = none_one x z.1
      unstepped puts takes k x by (inr z) =
          let r = lin.unstepped w busy (sym (own_puts (ap claims_tail neither)) ∙ puts) (sym (own_takes (ap claims_head neither)) ∙ takes) k x z by in
          omega (arith, r, own_begun)

  -- ---- a claim that is its call's step

  -- the queue at a moment that is now
  now_queue : (k : ℕ) → moment_of c ed w st' ≡ At k → moment_of c ed w st' ≡ At (known c ed st).count → (k ≡ length st) × (queue_at c ed k st' ≡ (known c ed st).queue)
  now_queue k named at_now =
      let here : k ≡ length st = at_one k (length st) (sym named ∙ at_now ∙ ap At (known_count actor (change_of ed) c st)) in (
        here,
        ap (λ (y : ℕ). queue_at c ed y st') here ∙ queue_past actor (change_of ed) c (length st) st (Does e) (omega arith) ∙ queue_now actor (change_of ed) c st,
      )

  whole_call : (x : Step) → x.worker ≡ w → (Each c ed st w).calls ≡ x.call ∷ [] → (Each c ed st w).begun < length st → OfCall c ed st (length st) x
  whole_call x by its begun = rw (take_whole st, by) (its, begun)

  -- the worker's own step just before the act, the first of its call
  record Own : Type 0 where
    step : Step
    by : step.worker ≡ w
    its : (Each c ed st w).calls ≡ step.call ∷ []
    begun : (Each c ed st w).begun < length st
    puts : (Each c ed st w).puts ≡ []
    takes : (Each c ed st w).takes ≡ []
    says : step.reply ≡ answer_of Here step.call
    flag : (left_by Here step.call).closed ≡ (known c ed st').queue.closed
    room : (left_by Here step.call).capacity ≡ c
    undisplaced : Still → (v : ℕ) → step.reply ≡ plain.Displaced v → ⊥
    items : Still → ((left_by Here step.call).items ≡ Here.items) × ((known c ed st').queue.items ≡ (known c ed st).queue.items)
    no_asks : (k : ℕ) → Asks c ed now st' w k → ⊥

  one : (x y : Step) → x ∷ [] ≡ y ∷ [] → x ≡ y
  one x y h = cc

  own_run : Own → Run
  own_run x =
      record {
        before = lin.line;
        keep = λ k y h. h;
        new = λ k y h. inl h;
        calm = λ z k y h v r. h;
        same = λ z k h. refl;
        own_free = λ k y z h. absurd (x.no_asks k z);
        steps = x.step ∷ [];
        to = left_by Here x.step.call;
        few = omega arith;
        goes = (x.says, refl);
        mine = λ y h. ap (λ (z : Step). z.worker) (sym (one x.step y h)) ∙ x.by;
        its = λ y h. subst (OfCall c ed st (length st)) (one x.step y h) (whole_call x.step x.by x.its x.begun);
        first_one =
            λ y h k z at same_worker.
            let y_by : y.worker ≡ w = ap (λ (v : Step). v.worker) (sym (one x.step y h)) ∙ x.by in
            let r = lin.unstepped w busy x.puts x.takes k z at (same_worker ∙ y_by) in
            rw y_by r;
        flag = x.flag;
        room = x.room;
        undisplaced = λ z y h v r. x.undisplaced z v (ap (λ (k : Step). k.reply) (one x.step y h) ∙ r);
        items = x.items;
        gift = λ k z h. absurd (x.no_asks k z);
      }

  own_step : (x : Own) → StepOf c ed st' (then_line (own_run x)) w x.step.reply
  unfolding own_run
  own_step x =
      record {
        at = length st;
        step = x.step;
        is = now_then (own_run x);
        begun = omega (arith, x.begun, own_begun);
        by = x.by;
        call = own_calls ∙ x.its;
        reply = refl;
      }

  own_last : (x : Own) → (own_run x).to ≡ left_by Here x.step.call
  unfolding own_run
  own_last x = refl

  -- a claim ends no call
  claim_busy : (p : Place) → (view_of p).busy ≡ true → q ≡ p → (P : Answer → Type 0) (x : Answer) → q ≡ Idle x → P x
  claim_busy p b h P x k = absurd (true≢false (sym b ∙ ap (λ (y : Place). (view_of y).busy) (sym h ∙ k)))

  -- a push's tail claim
  line_p4 : (t : Stamp) (x : ℕ) → q ≡ P4 t x → Lined c ed now st' next_ring after
  line_p4 t x h =
      finish (own_run claims) [] (ap (λ (z : Queue). z.items) (own_last claims) ∙ last_items) (inl (refl, nobody))
      (claim_busy (P4 t x) refl h (AnswerStep c ed st' (then_line (own_run claims)) st e))
      (λ b p k r g i y. some_none _ x (due_at (P4 t x) h).1.work.puts p)
      (λ v b p k. own_step_claims)
      (λ v z b k i. some_none _ v k (due_at (P4 t x) h).1.work.takes)
    where
      rises_tail : next_ring.tail ≡ s.tail + 1
      rises_tail = mv.tails ∙ rw (ap moved_of h)

      not_f8 : (y : Stamp) (v : ℕ) → stood m w ≡ F7 y v → ⊥
      not_f8 y v k = let z : P4 t x ≡ F8 y v = sym h ∙ from_f7 y v k in let b : ◌≡◌ {A = ℕ} 0 1 = cc in omega arith

      stuck : (j : ℕ) (y : Stamp) (v : ℕ) → stood m j ≡ F7 y v → Dec (j ≡ w) → ⊥
      stuck j y v k (yes z) = not_f8 y v (ap (stood m) (sym z) ∙ k)
      stuck j y v k (no z) = omega (arith, gripped_stuck j z (gripped j y v k), rises_tail)

      no_other : lin.pend ≡ []
      no_other = go lin.pending
        where
          go : Pending m lin.pend → lin.pend ≡ []
          go (inl z) = z.0
          go (inr z) = absurd (stuck z.0 z.1 z.2 z.3 (ℕ_discrete z.0 w))

      nobody : (j : ℕ) (y : Stamp) (v : ℕ) → stood now j ≡ F7 y v → ⊥
      nobody j y v k = go (ℕ_discrete j w)
        where
          go : Dec (j ≡ w) → ⊥
          go (yes z) = let p : P4 t x ≡ F7 y v = sym h ∙ sym came ∙ ap (stood now) (sym z) ∙ k in let b : ◌≡◌ {A = ℕ} 0 1 = cc in omega arith
          go (no z) = stuck j y v (sym (stays j z) ∙ k) (no z)

      left_push : (kd : Kind) → Here.closed ≡ false → full_of Here ≡ false → left_by Here (pushing kd x) ≡ queue (Here.items ++ x ∷ []) Here.closed Here.capacity
      left_push Push a b = rw (a, b)
      left_push Force a b = rw (a, b)

      en : EnteredBy c n ed st' next_ring w (due_at (P4 t x) h).0 x
      en = (due_at (P4 t x) h).1

      cl : Call
      cl = pushing (due_at (P4 t x) h).0 x

      at : (en.set.moment ≡ length st) × (queue_at c ed en.set.moment st' ≡ (known c ed st).queue)
      at = now_queue en.set.moment en.set.named (moment_at (P4 t x) h)

      here : Here.items ≡ (known c ed st).queue.items
      here = lin.last ∙ ap (λ (k : List ℕ). (known c ed st).queue.items ++ k) no_other ∙ append-nil (known c ed st).queue.items

      its : (Each c ed st w).calls ≡ pushing (due_at (P4 t x) h).0 x ∷ []
      its = sym own_calls ∙ en.work.its

      came_in : items_of (Each c ed st w).calls ≡ x ∷ []
      came_in = ap items_of its ∙ pushed_item (due_at (P4 t x) h).0 x

      open_here : Here.closed ≡ false
      open_here = here_flag.0 ∙ ap (λ (z : Queue). z.closed) (sym at.1) ∙ en.while_open

      room_here : full_of Here ≡ false
      room_here =
          let few : length (known c ed st).queue.items < c = subst (λ (z : Queue). length z.items < c) at.1 en.room in
          ne_eqb (length Here.items) Here.capacity (λ z. omega (arith, few, ap length here, here_flag.1))

      left : left_by Here (pushing (due_at (P4 t x) h).0 x) ≡ queue (Here.items ++ x ∷ []) Here.closed Here.capacity
      left = left_push (due_at (P4 t x) h).0 open_here room_here

      new_items : (known c ed st').queue.items ≡ (known c ed st).queue.items ++ x ∷ []
      new_items = ap (λ (z : Queue). z.items) (queue_act c ed st e) ∙ rw (ap moved_of h, came_in)

      last_items : (left_by Here (pushing (due_at (P4 t x) h).0 x)).items ≡ (known c ed st').queue.items ++ []
      last_items = ap (λ (z : Queue). z.items) left ∙ ap (λ (k : List ℕ). k ++ x ∷ []) here ∙ sym new_items ∙ sym (append-nil (known c ed st').queue.items)

      claims : Own
      claims =
          record {
            step = step_by w (pushing (due_at (P4 t x) h).0 x) plain.Pushed;
            by = refl;
            its = its;
            begun = omega (arith, en.set.begun, at.0, own_begun);
            puts =
                none_before (Each c ed st w).puts (items_of (Each c ed st w).calls) x (sym (ap (λ (z : Doing). z.puts) own ∙ rw (ap moved_of h)) ∙ en.work.puts) (ap length came_in);
            takes = sym (own_takes (ap (λ (y : Place). claims_head (moved_of y)) h)) ∙ en.work.takes;
            says = sym (room_for (due_at (P4 t x) h).0 x Here open_here room_here);
            flag = ap (λ (z : Queue). z.closed) left ∙ here_flag.0 ∙ sym (flag_same (silent (ap (λ (y : Place). (view_of y).busy) h)));
            room = ap (λ (z : Queue). z.capacity) left ∙ here_flag.1;
            undisplaced = λ z v r. omega (arith, z.0, rises_tail);
            items = λ z. absurd (omega (arith, z.0, rises_tail));
            no_asks = λ k asks. some_none _ x en.work.puts asks.puts;
          }

      own_step_claims : StepOf c ed st' (then_line (own_run claims)) w plain.Pushed
      own_step_claims = own_step claims

  -- a pop's head claim
  line_o4 : (y : Stamp) → q ≡ O4 y → Lined c ed now st' next_ring after
  line_o4 y h =
      finish (own_run claims) lin.pend (ap (λ (z : Queue). z.items) (own_last claims) ∙ last_items)
      (pending_kept (λ t x k. let z : O4 y ≡ F7 t x = sym h ∙ k in let b : ◌≡◌ {A = ℕ} 0 1 = cc in omega arith)
      (λ t x k. let z : O4 y ≡ F8 t x = sym h ∙ from_f7 t x k in let b : ◌≡◌ {A = ℕ} 0 1 = cc in omega arith))
      (claim_busy (O4 y) refl h (AnswerStep c ed st' (then_line (own_run claims)) st e))
      (λ b p k. some_none _ d.v d.work.takes k)
      (λ v b p k. some_none _ d.v d.work.takes k)
      (λ v z b k i. taken v z k i)
    where
      d : TakesBy c n ed st' next_ring w
      d = due_at (O4 y) h

      at : (d.front.set.moment ≡ length st) × (queue_at c ed d.front.set.moment st' ≡ (known c ed st).queue)
      at = now_queue d.front.set.moment d.front.set.named (moment_at (O4 y) h)

      front : (known c ed st).queue.items ≡ d.v ∷ d.front.others
      front = ap (λ (z : Queue). z.items) (sym at.1) ∙ d.front.items

      here : Here.items ≡ d.v ∷ (d.front.others ++ lin.pend)
      here = lin.last ∙ ap (λ (k : List ℕ). k ++ lin.pend) front

      rises_head : next_ring.head ≡ s.head + 1
      rises_head = mv.heads ∙ rw (ap moved_of h)

      new_items : (known c ed st').queue.items ≡ d.front.others
      new_items =
          ap (λ (z : Queue). z.items) (queue_act c ed st e) ∙ rw (ap moved_of h) (append-nil (drop 1 (known c ed st).queue.items)) ∙ ap (λ (k : List ℕ). drop 1 k) front

      last_items : (left_by Here call.Pop).items ≡ (known c ed st').queue.items ++ lin.pend
      last_items = ap (λ (k : List ℕ). drop 1 k) here ∙ ap (λ (k : List ℕ). k ++ lin.pend) (sym new_items)

      took : (Each c ed st w).takes ++ take 1 (known c ed st).queue.items ≡ d.v ∷ []
      took = sym (ap (λ (z : Doing). z.takes) own ∙ rw (ap moved_of h)) ∙ d.work.takes

      claims : Own
      claims =
          record {
            step = step_by w call.Pop (plain.Popped d.v);
            by = refl;
            its = sym own_calls ∙ d.work.its;
            begun = omega (arith, d.front.set.begun, at.0, own_begun);
            puts = sym (own_puts (ap (λ (z : Place). claims_tail (moved_of z)) h)) ∙ d.work.puts;
            takes = none_before (Each c ed st w).takes (take 1 (known c ed st).queue.items) d.v took (ap (λ (k : List ℕ). length (take 1 k)) front);
            says = sym (popped_to d.v (d.front.others ++ lin.pend) Here here);
            flag = here_flag.0 ∙ sym (flag_same (silent (ap (λ (z : Place). (view_of z).busy) h)));
            room = here_flag.1;
            undisplaced = λ z v r. omega (arith, z.1, rises_head);
            items = λ z. absurd (omega (arith, z.1, rises_head));
            no_asks = λ k asks. some_none _ d.v d.work.takes asks.takes;
          }

      taken : (v : ℕ) (cl : Call) → (Each c ed st' w).takes ≡ v ∷ [] → (Each c ed st' w).calls ≡ cl ∷ [] → StepOf c ed st' (then_line (own_run claims)) w (out_of cl v)
      taken v cl k i =
          let same_v : d.v ≡ v = let z : d.v ∷ [] ≡ v ∷ [] = sym d.work.takes ∙ k in cc in
          let same_cl : call.Pop ≡ cl = let z : call.Pop ∷ [] ≡ cl ∷ [] = sym d.work.its ∙ i in cc in
          rw (← same_v, ← same_cl) (own_step claims)

  -- force_push's tail claim: its step was taken when its word was given
  line_f8 : (t : Stamp) (x : ℕ) → q ≡ F8 t x → Lined c ed now st' next_ring after
  line_f8 t x h =
      finish run [] last_items (inl (refl, nobody))
      (claim_busy (F8 t x) refl h (AnswerStep c ed st' (then_line run) st e))
      (λ b p k. some_none _ d.v d.work.takes k)
      (λ v b p k. some_none _ d.v d.work.takes k)
      (λ v cl b k i. kept_taken run v cl (sym (own_takes (ap (λ (z : Place). claims_head (moved_of z)) h)) ∙ k) (sym own_calls ∙ i))
    where
      d : SwapsBy c n ed st' next_ring w x (x ∷ [])
      d = due_at (F8 t x) h

      from : stood m w ≡ F7 t x
      from = subst (Leads bits (fixed_on m.ring) (ends_on m.ring) (stood m w)) h lead

      rises_tail : next_ring.tail ≡ s.tail + 1
      rises_tail = mv.tails ∙ rw (ap moved_of h)

      busy_q : (view_of q).busy ≡ true
      busy_q = ap (λ (z : Place). (view_of z).busy) h

      on_its_way : lin.pend ≡ x ∷ []
      on_its_way = go lin.pending
        where
          go : Pending m lin.pend → lin.pend ≡ x ∷ []
          go (inl z) = absurd (z.1 w t x from)
          go (inr z) =
              let v_is : z.0 ≡ w = gripped_one z.0 w (gripped z.0 z.1 z.2 z.3) (gripped w t x from) in
              let place : F7 z.1 z.2 ≡ F7 t x = sym z.3 ∙ ap (stood m) v_is ∙ from in
              let item : z.2 ≡ x = cc in
              z.4 ∙ ap (λ (k : ℕ). k ∷ []) item

      nobody : (j : ℕ) (y : Stamp) (v : ℕ) → stood now j ≡ F7 y v → ⊥
      nobody j y v k = go (ℕ_discrete j w)
        where
          go : Dec (j ≡ w) → ⊥
          go (yes z) = let p : F8 t x ≡ F7 y v = sym h ∙ sym came ∙ ap (stood now) (sym z) ∙ k in let b : ◌≡◌ {A = ℕ} 0 1 = cc in omega arith
          go (no z) = z (gripped_one j w (gripped j y v (sym (stays j z) ∙ k)) (gripped w t x from))

      came_in : items_of (Each c ed st w).calls ≡ x ∷ []
      came_in = ap items_of (sym own_calls ∙ d.work.its) ∙ pushed_item Force x

      last_items : Here.items ≡ (known c ed st').queue.items ++ []
      last_items =
          lin.last ∙ ap (λ (k : List ℕ). (known c ed st).queue.items ++ k) on_its_way
          ∙ sym (append-nil (known c ed st').queue.items ∙ ap (λ (z : Queue). z.items) (queue_act c ed st e) ∙ rw (ap moved_of h, came_in))

      run : Run
      run =
          record {
            before = lin.line;
            keep = λ k y z. z;
            new = λ k y z. inl z;
            calm = λ z k y i v r. i;
            same = λ z k i. refl;
            own_free = λ k y z i. absurd (let b : ⊥ = some_none _ d.v d.work.takes z.takes in b);
            steps = [];
            to = Here;
            few = omega arith;
            goes = refl;
            mine = λ y z. none_one y z;
            its = λ y z. none_one y z;
            first_one = λ y z. none_one y z;
            flag = here_flag.0 ∙ sym (flag_same (silent busy_q));
            room = here_flag.1;
            undisplaced = λ z y i. none_one y i;
            items = λ z. absurd (omega (arith, z.0, rises_tail));
            gift = λ k y z. refl;
          }

  -- ---- an act that ends its call

  -- a worker that has ended asks nothing, and nobody is newly on the way
  ended_asks : (x : Answer) → q ≡ Idle x → (k : ℕ) → Asks c ed now st' w k → ⊥
  ended_asks x h k asks = true≢false (sym asks.busy ∙ ap (λ (y : Place). (view_of y).busy) (came ∙ h))

  ended_pending : (x : Answer) → q ≡ Idle x → Pending now lin.pend
  ended_pending x h =
      pending_kept (λ t v k. true≢false (ap (λ (y : Place). claims_head (moved_of y)) (sym k ∙ h))) (λ t v k. true≢false (ap (λ (y : Place). claims_tail (moved_of y)) (sym (from_f7 t v k) ∙ h)))

  ended_last : (x : Answer) → q ≡ Idle x → Here.items ≡ (known c ed st').queue.items ++ lin.pend
  ended_last x h = lin.last ∙ ap (λ (k : List ℕ). k ++ lin.pend) (sym (items_same (ap moved_of h)))

  idle_silent : {P : Type 0} (x : Answer) → q ≡ Idle x → (view_of q).busy ≡ true → P
  idle_silent x h b = absurd (true≢false (sym b ∙ ap (λ (y : Place). (view_of y).busy) h))

  module _ (x : Answer) (h : q ≡ Idle x) where
    ans : Answered c ed st e x
    ans = (done.answers st [] e x refl h).0

    meant : Meant c ed st e x
    meant = (done.answers st [] e x refl h).1

    abbrev ReplyOf : Type 0
    ReplyOf = answer_of (queue_at c ed ans.moment st) ans.call ∷ [] ≡ reply_of x

    -- with a step that its call has taken already
    line_had : (change_of ed e).closes ≡ false → (r : Reply) → r ∷ [] ≡ reply_of x → StepOf c ed st lin.line w r → Lined c ed now st' next_ring after
    unfolding quiet_run
    line_had shut r is_r had =
        finish (quiet_run shut (ap moved_of h)) lin.pend (ended_last x h) (ended_pending x h)
        (λ y k. let same_x : x ≡ y = let z : Idle x ≡ Idle y = sym h ∙ k in cc in
        record {
          at = had.at;
          step = had.step;
          is = kept_then (quiet_run shut (ap moved_of h)) had.at had.step had.is;
          begun = had.begun;
          inside = omega (arith, lin.line.inside had.at had.step had.is);
          by = had.by;
          call = had.call;
          reply = ap (λ (z : Reply). z ∷ []) had.reply ∙ is_r ∙ ap reply_of same_x;
        })
        (λ b. idle_silent x h b) (λ v b. idle_silent x h b) (λ v cl b. idle_silent x h b)

    -- with its step just before its last act
    line_now : ans.moment ≡ length st → (r : Reply) → answer_of (known c ed st).queue ans.call ≡ r → r ∷ [] ≡ reply_of x → bare r ≡ true
        → put_by x (items_of (Each c ed st w).calls) ≡ [] → taken_by x ≡ []
        → (ans.call ≡ call.Pop → (known c ed st).queue.items ≡ [] → lin.pend ≡ []) → Lined c ed now st' next_ring after
    line_now at r says is_r plainly no_put no_take back =
        finish (own_run claims) lin.pend (ap (λ (z : Queue). z.items) (own_last claims) ∙ like.items ∙ ended_last x h) (ended_pending x h)
        (λ y k. let same_x : x ≡ y = let z : Idle x ≡ Idle y = sym h ∙ k in cc in
        let p = own_step claims in
        record {
          at = p.at;
          step = p.step;
          is = p.is;
          begun = omega (arith, p.begun, own_begun);
          inside = omega (arith, (then_line (own_run claims)).inside p.at p.step p.is, longer);
          by = p.by;
          call = sym own_calls ∙ p.call;
          reply = ap (λ (z : Reply). z ∷ []) p.reply ∙ is_r ∙ ap reply_of same_x;
        })
        (λ b. idle_silent x h b) (λ v b. idle_silent x h b) (λ v cl b. idle_silent x h b)
      where
        like : Alike (known c ed st).queue Here lin.pend ans.call
        like = alike ed (known c ed st).queue Here lin.pend lin.last here_flag.0 ans.call back (lin.ok w ans.call ans.its) (ap bare says ∙ plainly)

        flag_right : (ans.call ≡ call.Close) ⊎ (ans.call ≡ call.Close → ⊥) → (left_by (known c ed st).queue ans.call).closed ≡ (known c ed st').queue.closed
        flag_right (inl z) = ap (λ (y : Call). (left_by (known c ed st).queue y).closed) z ∙ sym (meant.closed (ans.its ∙ ap (λ (y : Call). y ∷ []) z))
        flag_right (inr z) = left_closed (known c ed st).queue ans.call z ∙ sym (flag_same (not_closing ans.call ans.its z))

        claims : Own
        claims =
            record {
              step = step_by w ans.call r;
              by = refl;
              its = ans.its;
              begun = omega (arith, ans.begun, at);
              puts = sym (own_puts (ap (λ (y : Place). claims_tail (moved_of y)) h)) ∙ meant.put ∙ no_put;
              takes = sym (own_takes (ap (λ (y : Place). claims_head (moved_of y)) h)) ∙ meant.took ∙ no_take;
              says = sym says ∙ sym like.says;
              flag = like.closed ∙ flag_right (close_or ans.call);
              room = like.capacity ∙ here_flag.1;
              undisplaced = λ z v k. true≢false (sym plainly ∙ ap bare k);
              items = λ z. (like.items, items_same (ap moved_of h));
              no_asks = ended_asks x h;
            }

  -- ---- a step put in at the moment that a push or force_push was given its word

  abbrev age : Age
  age = pic.ages w

  fixed_is : fixed_on m.ring ≡ fixed c mark ed
  fixed_is = pic.rule ∙ ap (fixed c mark) o.edition

  -- a push or force_push with a word of tail, where the ring is full and nothing has moved since
  record FullGiven (cl : Call) : Type 0 where
    kind : Kind
    item : ℕ
    is : cl ≡ pushing kind item
    word : Stamp
    given : GivenBy c n ed st s age w cl word
    full : s.head + c ≡ age.tail

  module _ (cl : Call) (f : FullGiven cl) where
    abbrev k : ℕ
    k = f.given.set.moment

    asks : Asks c ed m st w k
    asks =
        record {
          kind = f.kind;
          item = f.item;
          busy = busy;
          its = f.given.work.its ∙ ap (λ (y : Call). y ∷ []) f.is;
          puts = f.given.work.puts;
          takes = f.given.work.takes;
          named = f.given.set.named;
          begun = f.given.set.begun;
        }

    held : Held c ed st lin.line s age w k
    held = lin.held w k asks

    even : (age.tail ≡ age.head + c) × (s.tail ≡ age.tail) × (s.head ≡ age.head)
    even = let p = f.given.set.point in omega (arith, f.full, p.long, p.most, p.heads_up, p.tails_up, pic.inv.high)

    abbrev Items : List ℕ
    Items = (known c ed st).queue.items

    long : length Items ≡ c
    long = omega (arith, o.shelf.long, even)

    calm_since : ((j : ℕ) → k ≤ j → j ≤ length st → (lin.line.queues j).items ≡ Items) × ((j : ℕ) (x : Step) → k ≤ j → lin.line.steps j ≡ x ∷ [] → (v : ℕ) → x.reply ≡ plain.Displaced v → ⊥)
    calm_since = held.calm even.0 even.1 even.2

    full_now : s.tail ≡ s.head + c
    full_now = omega (arith, even)

    at_then : ((lin.line.queues k).items ≡ Items) × ((lin.line.queues k).closed ≡ false) × ((lin.line.queues k).capacity ≡ c)
    at_then =
        let fl = lin.line.flags k (omega (arith, held.short)) in
        (calm_since.0 k (omega arith) (omega (arith, held.short)), fl.0 ∙ f.given.while_open, fl.1)

    full_then : full_of (lin.line.queues k) ≡ true
    full_then = eq-eqb _ _ (ap length at_then.0 ∙ long ∙ sym at_then.2)

    -- nothing happened there
    on_then : lin.line.queues (suc k) ≡ lin.line.queues k
    on_then = subst (λ (y : List Step). Follows (lin.line.queues k) y (lin.line.queues (suc k))) held.free (lin.line.follows k held.short)

    of_call : (r : Reply) → OfCall c ed st k (step_by w cl r)
    of_call r = (held.then_its ∙ f.given.work.its, omega (arith, held.then_begun, f.given.set.begun))

    earlier : (j : ℕ) (y : Step) → lin.line.steps j ≡ y ∷ [] → y.worker ≡ w → j < ((known c ed (take k st)).each w).begun
    earlier j y is by = let z = lin.unstepped w busy f.given.work.puts f.given.work.takes j y is by in omega (arith, z, held.then_begun)

    apart : NotAt k
    apart j y far other z = lin.apart w j k (λ v. far (sym v)) asks (subst (Asks c ed m st j) (sym z) other)

    -- the step, and the queues from there on
    record Put : Type 0 where
      reply : Reply
      queues : ℕ → Queue
      first_same : queues 0 ≡ lin.line.queues 0
      same_flags : (j : ℕ) → ((queues j).closed ≡ (lin.line.queues j).closed) × ((queues j).capacity ≡ (lin.line.queues j).capacity)
      at_k : (reply ≡ answer_of (queues k) cl) × (queues (suc k) ≡ left_by (queues k) cl)
      elsewhere : (j : ℕ) → j < length st → j ≢ k → Follows (queues j) (lin.line.steps j) (queues (suc j))

    module _ (p : Put) where
      abbrev put_line : Line c ed st
      put_line = inserted c ed st lin.line k held.short (step_by w cl p.reply) held.free (of_call p.reply) earlier p.queues p.first_same p.same_flags p.at_k p.elsewhere

      put_which : (j : ℕ) (x : Step) → put_line.steps j ≡ x ∷ [] → ((j ≡ k) × (x ≡ step_by w cl p.reply)) ⊎ ((j ≢ k) × (lin.line.steps j ≡ x ∷ []))
      put_which = inserted_steps c ed st lin.line k held.short (step_by w cl p.reply) held.free (of_call p.reply) earlier p.queues
          p.first_same p.same_flags p.at_k p.elsewhere

      put_in : put_line.steps k ≡ step_by w cl p.reply ∷ []
      put_in = inserted_new c ed st lin.line k held.short (step_by w cl p.reply) held.free (of_call p.reply) earlier p.queues p.first_same p.same_flags p.at_k p.elsewhere

      put_kept : (j : ℕ) (x : Step) → lin.line.steps j ≡ x ∷ [] → put_line.steps j ≡ x ∷ []
      put_kept j x z =
          inserted_kept c ed st lin.line k held.short (step_by w cl p.reply) held.free (of_call p.reply) earlier p.queues p.first_same p.same_flags p.at_k p.elsewhere j
          (λ v. none_one x (sym held.free ∙ ap lin.line.steps (sym v) ∙ z)) ∙ z

      put_queue : (j : ℕ) → put_line.queues j ≡ p.queues j
      put_queue = inserted_queue c ed st lin.line k held.short (step_by w cl p.reply) held.free (of_call p.reply) earlier p.queues
          p.first_same p.same_flags p.at_k p.elsewhere

      put_new : (j : ℕ) (x : Step) → put_line.steps j ≡ x ∷ [] → (lin.line.steps j ≡ x ∷ []) ⊎ ((x.worker ≡ w) × NotAt j)
      put_new j x z = go (put_which j x z)
        where
          go : ((j ≡ k) × (x ≡ step_by w cl p.reply)) ⊎ ((j ≢ k) × (lin.line.steps j ≡ x ∷ [])) → (lin.line.steps j ≡ x ∷ []) ⊎ ((x.worker ≡ w) × NotAt j)
          go (inl v) = inr (ap (λ (y : Step). y.worker) v.1, subst NotAt (sym v.0) apart)
          go (inr v) = inl v.1

      put_run : (Still → (v : ℕ) → p.reply ≡ plain.Displaced v → ⊥) → (Still → (j : ℕ) → j ≤ length st → (p.queues j).items ≡ (lin.line.queues j).items)
          → ((j : ℕ) → Asks c ed now st' w j → ⊥) → (change_of ed e).closes ≡ false
          → (Still → (known c ed st').queue.items ≡ (known c ed st).queue.items) → Run
      put_run undisplaced same no_asks shut items =
          record {
            before = put_line;
            keep = put_kept;
            new = put_new;
            calm = λ still j x z v r. calm_of still j x v r (put_which j x z);
            same = λ still j z. ap (λ (y : Queue). y.items) (put_queue j) ∙ same still j z;
            own_free = λ j y z. absurd (no_asks j z);
            steps = [];
            to = put_line.queues (length st);
            few = omega arith;
            goes = refl;
            mine = λ x z. none_one x z;
            its = λ x z. none_one x z;
            first_one = λ x z. none_one x z;
            flag = ap (λ (y : Queue). y.closed) (put_queue (length st)) ∙ (p.same_flags (length st)).0 ∙ here_flag.0 ∙ sym (flag_same shut);
            room = ap (λ (y : Queue). y.capacity) (put_queue (length st)) ∙ (p.same_flags (length st)).1 ∙ here_flag.1;
            undisplaced = λ still x z. none_one x z;
            items = λ still. (refl, items still);
            gift = λ j y z. refl;
          }
        where
          calm_of : Still → (j : ℕ) (x : Step) (v : ℕ) → x.reply ≡ plain.Displaced v
              → ((j ≡ k) × (x ≡ step_by w cl p.reply)) ⊎ ((j ≢ k) × (lin.line.steps j ≡ x ∷ [])) → lin.line.steps j ≡ x ∷ []
          calm_of still j x v r (inl z) = absurd (undisplaced still v (ap (λ (y : Step). y.reply) (sym z.1) ∙ r))
          calm_of still j x v r (inr z) = z.1

      put_to : (a : Still → (v : ℕ) → p.reply ≡ plain.Displaced v → ⊥) (b : Still → (j : ℕ) → j ≤ length st → (p.queues j).items ≡ (lin.line.queues j).items)
          (d : (j : ℕ) → Asks c ed now st' w j → ⊥) (g : (change_of ed e).closes ≡ false)
          (h : Still → (known c ed st').queue.items ≡ (known c ed st).queue.items) → (put_run a b d g h).to ≡ p.queues (length st)
      unfolding put_run
      put_to a b d g h = put_queue (length st)

      put_at_lem : (a : Still → (v : ℕ) → p.reply ≡ plain.Displaced v → ⊥) (b : Still → (j : ℕ) → j ≤ length st → (p.queues j).items ≡ (lin.line.queues j).items)
          (d : (j : ℕ) → Asks c ed now st' w j → ⊥) (g : (change_of ed e).closes ≡ false)
          (h : Still → (known c ed st').queue.items ≡ (known c ed st).queue.items) → (then_line (put_run a b d g h)).steps k ≡ step_by w cl p.reply ∷ []
      unfolding put_run
      put_at_lem a b d g h = put_then (put_run a b d g h) k (step_by w cl p.reply) put_in

  -- Full
  line_full : (y : ℕ) → q ≡ Idle (Full y) → Lined c ed now st' next_ring after
  line_full y h =
      finish run lin.pend (ap (λ (z : Queue). z.items) (put_to cl f put undisplaced same_queues no_asks shut no_move) ∙ ended_last (Full y) h) (ended_pending (Full y) h)
      (λ x z. let same_x : Full y ≡ x = let v : Idle (Full y) ≡ Idle x = sym h ∙ z in cc in
      record {
        at = k cl f;
        step = step_by w cl (plain.Full y);
        is = put_at_lem cl f put undisplaced same_queues no_asks shut no_move;
        begun = f.given.set.begun;
        inside = omega (arith, (held cl f).short);
        by = refl;
        call = f.given.work.its;
        reply = ap reply_of same_x;
      })
      (λ b. idle_silent (Full y) h b) (λ v b. idle_silent (Full y) h b) (λ v z b. idle_silent (Full y) h b)
    where
      cl : Call
      cl = call.Push y

      from : (t : Stamp) × (stood m w ≡ P6 t y) × (lap_behind bits (fixed_on m.ring) m.ring.head t ≡ true)
      from = subst (Leads bits (fixed_on m.ring) (ends_on m.ring) (stood m w)) h lead

      given : GivenBy c n ed st s age w (call.Push y) from.0
      given = subst (λ (z : Place). Due c n ed st s age w (task z)) from.1 (o.dues w)

      fresh_word : Young c mark n s age
      fresh_word = subst (λ (z : Place). Recent c mark n s age (look c z)) from.1 young refl

      f : FullGiven (call.Push y)
      f =
          record {
            kind = Push;
            item = y;
            is = refl;
            word = from.0;
            given = given;
            full =
                lap_tests bits c n ed base.ground st s pic.inv pic.shut o.shelf w (i bits c n workers base ed m st o w l lose busy young early) age
                (loss_at bits m w lose) (call.Push y) from.0 given fresh_word
                (subst (λ (z : Ends). lap_behind bits (fixed c mark ed) z.head from.0 ≡ true) pic.ends
                (subst (λ (z : Fixed). lap_behind bits z m.ring.head from.0 ≡ true) fixed_is from.2));
          }

      stays_full : (z : Queue) → z.closed ≡ false → full_of z ≡ true → left_by z (call.Push y) ≡ z
      stays_full z a b = rw (a, b)

      put : Put (call.Push y) f
      put =
          record {
            reply = plain.Full y;
            queues = lin.line.queues;
            first_same = refl;
            same_flags = λ j. (refl, refl);
            at_k = (
              sym (full_to y (lin.line.queues (k (call.Push y) f)) (at_then (call.Push y) f).1 (full_then (call.Push y) f)),
              on_then (call.Push y) f ∙ sym (stays_full (lin.line.queues (k (call.Push y) f)) (at_then (call.Push y) f).1 (full_then (call.Push y) f)),
            );
            elsewhere = λ j z ne. lin.line.follows j z;
          }

      undisplaced : Still → (v : ℕ) → plain.Full y ≡ plain.Displaced v → ⊥
      undisplaced still v z = let b : ◌≡◌ {A = ℕ} 0 1 = cc in omega arith

      same_queues : Still → (j : ℕ) → j ≤ length st → (lin.line.queues j).items ≡ (lin.line.queues j).items
      same_queues still j z = refl

      no_asks : (j : ℕ) → Asks c ed now st' w j → ⊥
      no_asks = ended_asks (Full y) h

      shut : (change_of ed e).closes ≡ false
      shut = not_closing (call.Push y) given.work.its (λ z. let v : ◌≡◌ {A = ℕ} 0 1 = cc in omega arith)

      no_move : Still → (known c ed st').queue.items ≡ (known c ed st).queue.items
      no_move still = items_same (ap moved_of h)

      run : Run
      run = put_run (call.Push y) f put undisplaced same_queues no_asks shut no_move

  -- force_push's head claim: the front went out and its item came in when its word was given
  line_f7 : (t : Stamp) (x : ℕ) → q ≡ F7 t x → Lined c ed now st' next_ring after
  line_f7 t x h =
      finish run (x ∷ []) last_items (inr (w, t, x, came ∙ h, refl))
      (claim_busy (F7 t x) refl h (AnswerStep c ed st' (then_line run) st e))
      (λ b p z. some_none _ d.v d.work.takes z)
      (λ v b p z. some_none _ d.v d.work.takes z)
      (λ v z b takes its. taken v z takes its)
    where
      d : SwapsBy c n ed st' next_ring w x []
      d = due_at (F7 t x) h

      from : (stood m w ≡ F6 t x) × (same m.ring.head (minus bits t m.ring.lap) ≡ true)
      from = subst (Leads bits (fixed_on m.ring) (ends_on m.ring) (stood m w)) h lead

      given : GivenBy c n ed st s age w (call.ForcePush x) t
      given = subst (λ (z : Place). Due c n ed st s age w (task z)) from.0 (o.dues w)

      fresh_word : Young c mark n s age
      fresh_word = subst (λ (z : Place). Recent c mark n s age (look c z)) from.0 young refl

      at_f6 : Stands c mark n s w age (look c (F6 t x))
      at_f6 = subst (λ (z : Place). Stands c mark n s w age (look c z)) from.0 (pic.stands w)

      f : FullGiven (call.ForcePush x)
      f =
          record {
            kind = Force;
            item = x;
            is = refl;
            word = t;
            given = given;
            full =
                head_tests bits c n ed base.ground st s pic.inv pic.shut o.shelf w (i bits c n workers base ed m st o w l lose busy young early) age
                (loss_at bits m w lose) (call.ForcePush x) t given
                (record { k = at_f6.0; word = at_f6.1; low = at_f6.2.0; high = at_f6.2.2; late = at_f6.3 }) fresh_word
                (subst (λ (z : Ends). same z.head (minus bits t (2 * mark)) ≡ true) pic.ends (subst (λ (z : Fixed). same m.ring.head (minus bits t z.lap) ≡ true) fixed_is from.1));
          }

      some : 0 < length (known c ed st).queue.items
      some = omega (arith, long (call.ForcePush x) f, base.ground.laws.some)

      front : (known c ed st).queue.items ≡ get_or (known c ed st).queue.items 0 0 ∷ drop 1 (known c ed st).queue.items
      front = front_of (known c ed st).queue.items some

      new_long : length (drop 1 (known c ed st).queue.items ++ x ∷ []) ≡ length (known c ed st).queue.items
      new_long = let z : length (known c ed st).queue.items ≡ suc (length (drop 1 (known c ed st).queue.items)) = ap length front in
          omega (arith, length-append (drop 1 (known c ed st).queue.items) (x ∷ []))

      Q : ℕ → Queue
      Q j = cond (ltb (k (call.ForcePush x) f) j) (queue (drop 1 (known c ed st).queue.items ++ x ∷ []) (lin.line.queues j).closed (lin.line.queues j).capacity) (lin.line.queues j)

      early_q : (j : ℕ) → j ≤ k (call.ForcePush x) f → Q j ≡ lin.line.queues j
      early_q j low = rw (le-ltb (k (call.ForcePush x) f) j low)

      late_q : (j : ℕ) → k (call.ForcePush x) f < j → Q j ≡ queue (drop 1 (known c ed st).queue.items ++ x ∷ []) (lin.line.queues j).closed (lin.line.queues j).capacity
      late_q j high = rw (lt-ltb (k (call.ForcePush x) f) j high)

      flags_q : (j : ℕ) → ((Q j).closed ≡ (lin.line.queues j).closed) × ((Q j).capacity ≡ (lin.line.queues j).capacity)
      flags_q j = go (ltb (k (call.ForcePush x) f) j)
        where
          go : (b : Bool) → ((cond b (queue (drop 1 (known c ed st).queue.items ++ x ∷ []) (lin.line.queues j).closed (lin.line.queues j).capacity)
              (lin.line.queues j)).closed ≡ (lin.line.queues j).closed)
              × ((cond b (queue (drop 1 (known c ed st).queue.items ++ x ∷ []) (lin.line.queues j).closed (lin.line.queues j).capacity)
              (lin.line.queues j)).capacity ≡ (lin.line.queues j).capacity)
          go true = (refl, refl)
          go false = (refl, refl)

      left_force : (z : Queue) → z.closed ≡ false → full_of z ≡ true → left_by z (call.ForcePush x) ≡ queue (drop 1 z.items ++ x ∷ []) z.closed z.capacity
      left_force z a b = rw (a, b)

      at_gift : (plain.Displaced (get_or (known c ed st).queue.items 0 0) ≡ answer_of (Q (k (call.ForcePush x) f)) (call.ForcePush x))
          × (Q (suc (k (call.ForcePush x) f)) ≡ left_by (Q (k (call.ForcePush x) f)) (call.ForcePush x))
      at_gift =
          let kk = k (call.ForcePush x) f in
          let th = at_then (call.ForcePush x) f in
          let was = lin.line.queues (k (call.ForcePush x) f) in
          let here : Q (k (call.ForcePush x) f) ≡ lin.line.queues (k (call.ForcePush x) f) = early_q (k (call.ForcePush x) f) (omega arith) in
          let says = displaced_to x (get_or (known c ed st).queue.items 0 0) (drop 1 (known c ed st).queue.items) was th.1 (full_then (call.ForcePush x) f) (th.0 ∙ front) in
          let on : lin.line.queues (suc kk) ≡ lin.line.queues kk = on_then (call.ForcePush x) f in (
            sym (ap (λ (z : Queue). answer_of z (call.ForcePush x)) here ∙ says),
            late_q (suc kk) (omega arith) ∙ ap (λ (z : Queue). queue (drop 1 (known c ed st).queue.items ++ x ∷ []) z.closed z.capacity) on
                ∙ ap (λ (z : List ℕ). queue (drop 1 z ++ x ∷ []) was.closed was.capacity) (sym th.0)
                ∙ sym (left_force was th.1 (full_then (call.ForcePush x) f)) ∙ ap (λ (z : Queue). left_by z (call.ForcePush x)) (sym here),
          )

      follow : (j : ℕ) → j < length st → j ≢ k (call.ForcePush x) f → Follows (Q j) (lin.line.steps j) (Q (suc j))
      follow j low ne = go (dec_lt j (k (call.ForcePush x) f))
        where
          go : Dec (j < k (call.ForcePush x) f) → Follows (Q j) (lin.line.steps j) (Q (suc j))
          go (yes z) = subst (λ (y : Queue). Follows (Q j) (lin.line.steps j) y) (sym (early_q (suc j) (omega arith)))
              (subst (λ (y : Queue). Follows y (lin.line.steps j) (lin.line.queues (suc j))) (sym (early_q j (omega arith))) (lin.line.follows j low))
          go (no z) =
              let above : k (call.ForcePush x) f < j = omega arith in
              subst (λ (y : Queue). Follows (Q j) (lin.line.steps j) y) (sym (late_q (suc j) (omega arith)))
              (subst (λ (y : Queue). Follows y (lin.line.steps j) (queue (drop 1 (known c ed st).queue.items ++ x ∷ []) (lin.line.queues (suc j)).closed
              (lin.line.queues (suc j)).capacity)) (sym (late_q j above)) (each above (one_step_lem (lin.line.steps j) (lin.line.single j))))
            where
              each : k (call.ForcePush x) f < j → (lin.line.steps j ≡ []) ⊎ ((y : Step) × (lin.line.steps j ≡ y ∷ []))
                  → Follows (queue (drop 1 (known c ed st).queue.items ++ x ∷ []) (lin.line.queues j).closed (lin.line.queues j).capacity)
                  (lin.line.steps j) (queue (drop 1 (known c ed st).queue.items ++ x ∷ []) (lin.line.queues (suc j)).closed
                  (lin.line.queues (suc j)).capacity)
              each above (inl v) =
                  let was : lin.line.queues (suc j) ≡ lin.line.queues j = subst (λ (y : List Step). Follows (lin.line.queues j) y (lin.line.queues (suc j))) v (lin.line.follows j low) in
                  rw v (ap (λ (y : Queue). queue (drop 1 (known c ed st).queue.items ++ x ∷ []) y.closed y.capacity) was)
              each above (inr v) =
                  let was = subst (λ (y : List Step). Follows (lin.line.queues j) y (lin.line.queues (suc j))) v.1 (lin.line.follows j low) in
                  let same_now = (calm_since (call.ForcePush x) f).0 j (omega arith) (omega arith) in
                  let same_next = (calm_since (call.ForcePush x) f).0 (suc j) (omega arith) (omega arith) in
                  let r = neutral (lin.line.queues j) (lin.line.queues (suc j)) (drop 1 (known c ed st).queue.items ++ x ∷ []) v.0
                  (new_long ∙ ap length (sym same_now)) ((calm_since (call.ForcePush x) f).1 j v.0 (omega arith) v.1) was.0 was.1
                  (same_next ∙ sym same_now) in
                  rw v.1 (r.0, r.1)

      put : Put (call.ForcePush x) f
      put =
          record {
            reply = plain.Displaced (get_or (known c ed st).queue.items 0 0);
            queues = Q;
            first_same = early_q 0 (omega arith);
            same_flags = flags_q;
            at_k = at_gift;
            elsewhere = follow;
          }

      rises_head : next_ring.head ≡ s.head + 1
      rises_head = mv.heads ∙ rw (ap moved_of h)

      undisplaced : Still → (v : ℕ) → plain.Displaced (get_or (known c ed st).queue.items 0 0) ≡ plain.Displaced v → ⊥
      undisplaced still v z = omega (arith, still.1, rises_head)

      same_queues : Still → (j : ℕ) → j ≤ length st → (Q j).items ≡ (lin.line.queues j).items
      same_queues still j z = absurd (omega (arith, still.1, rises_head))

      no_asks : (j : ℕ) → Asks c ed now st' w j → ⊥
      no_asks j asking = some_none _ d.v d.work.takes asking.takes

      shut : (change_of ed e).closes ≡ false
      shut = silent (ap (λ (z : Place). (view_of z).busy) h)

      no_move : Still → (known c ed st').queue.items ≡ (known c ed st).queue.items
      no_move still = absurd (omega (arith, still.1, rises_head))

      run : Run
      run = put_run (call.ForcePush x) f put undisplaced same_queues no_asks shut no_move

      last_items : run.to.items ≡ (known c ed st').queue.items ++ x ∷ []
      last_items =
          let out : (known c ed st').queue.items ≡ drop 1 (known c ed st).queue.items = ap (λ (z : Queue). z.items) (queue_act c ed st e)
          ∙ rw (ap moved_of h) (append-nil (drop 1 (known c ed st).queue.items)) in
          ap (λ (z : Queue). z.items) (put_to (call.ForcePush x) f put undisplaced same_queues no_asks shut no_move ∙ late_q (length st) (held (call.ForcePush x) f).short)
          ∙ ap (λ (z : List ℕ). z ++ x ∷ []) (sym out)

      taken : (v : ℕ) (z : Call) → (Each c ed st' w).takes ≡ v ∷ [] → (Each c ed st' w).calls ≡ z ∷ [] → StepOf c ed st' (then_line run) w (out_of z v)
      taken v z takes its =
          let took : (Each c ed st' w).takes ≡ take 1 (known c ed st).queue.items = ap (λ (y : Doing). y.takes) own ∙ rw (ap moved_of h, given.work.takes) in
          let same_v : get_or (known c ed st).queue.items 0 0 ≡ v =
          let y : get_or (known c ed st).queue.items 0 0 ∷ [] ≡ v ∷ [] = sym (first_of (known c ed st).queue.items some) ∙ sym took ∙ takes in cc in
          let same_cl : call.ForcePush x ≡ z = let y : call.ForcePush x ∷ [] ≡ z ∷ [] = sym d.work.its ∙ its in cc in
          rw (← same_v, ← same_cl)
          (record {
            at = k (call.ForcePush x) f;
            step = step_by w (call.ForcePush x) (plain.Displaced (get_or (known c ed st).queue.items 0 0));
            is = put_at_lem (call.ForcePush x) f put undisplaced same_queues no_asks shut no_move;
            begun = omega (arith, given.set.begun, own_begun);
            by = refl;
            call = d.work.its;
            reply = refl;
          })

  -- ---- every act

  -- the answer at the moment that is now
  said_now : (x : Answer) (h : q ≡ Idle x) (r : Reply) → reply_of x ≡ r ∷ [] → timed (timing_of (stood m w) (Idle x)) (known c ed st) (moment_of c ed w st) ≡ At (known c ed st).count
      → ((ans x h).moment ≡ length st) × (answer_of (known c ed st).queue (ans x h).call ≡ r)
  said_now x h r is_r timing =
      let at = (now_queue (ans x h).moment (ans x h).named (moment_at (Idle x) h ∙ timing)).0 in
      let there : queue_at c ed (ans x h).moment st ≡ (known c ed st).queue = ap (λ (y : ℕ). queue_at c ed y st) at ∙ queue_now actor (change_of ed) c st in
      (at, one_reply _ r (ap (λ (y : Queue). answer_of y (ans x h).call ∷ []) (sym there) ∙ (ans x h).plain ∙ is_r))

  -- no call but pop says so
  not_pop : (x : Answer) (h : q ≡ Idle x) (r : Reply) → answer_of (known c ed st).queue (ans x h).call ≡ r → pops r ≡ false → (ans x h).call ≡ call.Pop
      → (known c ed st).queue.items ≡ [] → lin.pend ≡ []
  not_pop x h r says no_pop is none = absurd (pop_says (known c ed st).queue (ans x h).call (ap pops says ∙ no_pop) is)

  -- where O6 found the ring empty, nobody is between two claims
  empty_pend : (y : Stamp) → stood m w ≡ O6 y → same (unmarked_of (fixed_on m.ring) m.ring.tail) y ≡ true → lin.pend ≡ []
  empty_pend y from test = go lin.pending
    where
      at_o6 : Stands c mark n s w age (look c (O6 y))
      at_o6 = subst (λ (z : Place). Stands c mark n s w age (look c z)) from (pic.stands w)

      found : s.tail ≡ at_o6.0
      found =
          tail_tests bits c n ed base.ground st s pic.inv pic.shut o.shelf w (i bits c n workers base ed m st o w l lose busy young early) age
          (loss_at bits m w lose) y at_o6.0 at_o6.1 at_o6.2.0 at_o6.3
          (subst (λ (z : Place). Recent c mark n s age (look c z)) from young refl)
          (subst (λ (z : Ends). same (unmarked_of (fixed c mark ed) z.tail) y ≡ true) pic.ends (subst (λ (z : Fixed). same (unmarked_of z m.ring.tail) y ≡ true) fixed_is test))

      go : Pending m lin.pend → lin.pend ≡ []
      go (inl z) = z.0
      go (inr z) =
          let g = gripped z.0 z.1 z.2 z.3 in
          let slot_is : at_o6.0 % c ≡ g.k % c = ap (λ (v : ℕ). v % c) (sym found ∙ g.tail) ∙ add-mod_right g.k c in
          let both : Await at_o6.0 ≡ Hand Grab g.k z.0 = sym (at_o6.2.1 found) ∙ ap s.cell slot_is ∙ g.cell in
          absurd (let v : ◌≡◌ {A = ℕ} 0 1 = cc in omega arith)

  had_out : (x : Answer) (h : q ≡ Idle x) (v : ℕ) (r : Reply) → taken_by x ≡ v ∷ [] → reply_of x ≡ r ∷ [] → bare r ≡ false → out_of (ans x h).call v ≡ r → Lined c ed now st' next_ring after
  had_out x h v r took is_r plainly out =
      let takes : (Each c ed st w).takes ≡ v ∷ [] = sym (own_takes (ap (λ (y : Place). claims_head (moved_of y)) h)) ∙ (meant x h).took ∙ took in
      let had = lin.taken w v (ans x h).call busy takes (ans x h).its in
      let says : answer_of (queue_at c ed (ans x h).moment st) (ans x h).call ≡ r = one_reply _ r ((ans x h).plain ∙ is_r) in
      line_had x h (not_closing (ans x h).call (ans x h).its (bare_close (queue_at c ed (ans x h).moment st) (ans x h).call (ap bare says ∙ plainly))) (out_of (ans x h).call v)
      (ap (λ (z : Reply). z ∷ []) out ∙ sym is_r) had

  line_said : (x : Answer) → q ≡ Idle x → Lined c ed now st' next_ring after
  line_said Nothing h = absurd (let z : ◌≡◌ {A = ℕ} 1 0 = ap length (ans Nothing h).plain in omega arith)
  line_said Pushed h =
      let it = pushed_call (queue_at c ed (ans Pushed h).moment st) (ans Pushed h).call (ans Pushed h).plain in
      let puts : (Each c ed st w).puts ≡ it.0 ∷ [] = sym (own_puts (ap (λ (y : Place). claims_tail (moved_of y)) h)) ∙ (meant Pushed h).put ∙ ap items_of (ans Pushed h).its ∙ it.1 in
      let takes : (Each c ed st w).takes ≡ [] = sym (own_takes (ap (λ (y : Place). claims_head (moved_of y)) h)) ∙ (meant Pushed h).took in
      let says : answer_of (queue_at c ed (ans Pushed h).moment st) (ans Pushed h).call ≡ plain.Pushed = one_reply _ plain.Pushed (ans Pushed h).plain in
      line_had Pushed h (not_closing (ans Pushed h).call (ans Pushed h).its
      (bare_close (queue_at c ed (ans Pushed h).moment st) (ans Pushed h).call (ap bare says))) plain.Pushed refl (lin.entered w it.0 busy puts takes)
  line_said (Full y) h = line_full y h
  line_said (Closed y) h =
      let at = said_now (Closed y) h (plain.Closed y) refl refl in
      line_now (Closed y) h at.0 (plain.Closed y) at.1 refl refl refl refl (not_pop (Closed y) h (plain.Closed y) at.1 refl)
  line_said (Displaced v) h = had_out (Displaced v) h v (plain.Displaced v) refl refl refl
      (displaced_call (queue_at c ed (ans (Displaced v) h).moment st) (ans (Displaced v) h).call v (ans (Displaced v) h).plain v)
  line_said (Popped v) h = had_out (Popped v) h v (plain.Popped v) refl refl refl (popped_call (queue_at c ed (ans (Popped v) h).moment st) (ans (Popped v) h).call v (ans (Popped v) h).plain v)
  line_said Empty h =
      let at = said_now Empty h plain.Empty refl refl in
      let from = subst (Leads bits (fixed_on m.ring) (ends_on m.ring) (stood m w)) h lead in
      line_now Empty h at.0 plain.Empty at.1 refl refl refl refl (λ is none. empty_pend from.0 from.1 from.2)
  line_said PopClosed h =
      let at = said_now PopClosed h plain.EmptyAndClosed refl refl in
      let from = subst (Leads bits (fixed_on m.ring) (ends_on m.ring) (stood m w)) h lead in
      line_now PopClosed h at.0 plain.EmptyAndClosed at.1 refl refl refl refl (λ is none. empty_pend from.0 from.1 from.2)
  line_said (Len y) h =
      let says : answer_of (queue_at c ed (ans (Len y) h).moment st) (ans (Len y) h).call ≡ plain.Count y = one_reply _ (plain.Count y) (ans (Len y) h).plain in
      absurd (true≢false (sym (ap counts says) ∙ no_count ed (queue_at c ed (ans (Len y) h).moment st) (ans (Len y) h).call (lin.ok w (ans (Len y) h).call (ans (Len y) h).its)))
  line_said Yes h =
      let at = said_now Yes h plain.Yes refl refl in
      line_now Yes h at.0 plain.Yes at.1 refl refl refl refl (not_pop Yes h plain.Yes at.1 refl)
  line_said No h = go (subst (Leads bits (fixed_on m.ring) (ends_on m.ring) (stood m w)) h lead)
    where
      last_act : (stand_of (stood m w)).far ≡ 1 → Lined c ed now st' next_ring after
      last_act far =
          let at = said_now No h plain.No refl (ap (λ (y : ℕ). timed (cond (eqb y 1) Now Stays) (known c ed st) (moment_of c ed w st)) far) in
          line_now No h at.0 plain.No at.1 refl refl refl refl (not_pop No h plain.No at.1 refl)

      go : (stood m w ≡ Close1) ⊎ ((stood m w ≡ IsClosed1) ⊎ (((y : Stamp) × (stood m w ≡ Empty2 y)) ⊎ ((t : Stamp) × (stood m w ≡ Full2 t)))) → Lined c ed now st' next_ring after
      go (inl z) = last_act (ap (λ (y : Place). (stand_of y).far) z)
      go (inr (inl z)) = last_act (ap (λ (y : Place). (stand_of y).far) z)
      go (inr (inr (inl z))) = absurd (true≢false (sym (lin.ok w call.IsEmpty (subst (λ (y : Place). Due c n ed st s age w (task y)) z.1 (o.dues w)).0.its)))
      go (inr (inr (inr z))) = absurd (true≢false (sym (lin.ok w call.IsFull (subst (λ (y : Place). Due c n ed st s age w (task y)) z.1 (o.dues w)).0.its)))

  line_at : (p : Place) → q ≡ p → Lined c ed now st' next_ring after
  line_at (Idle x) h = line_said x h
  line_at (P1 kd x) h = line_quiet (ap (λ (y : Place). (view_of y).busy) h) (ap moved_of h)
  line_at (P2 kd t x) h = line_quiet (ap (λ (y : Place). (view_of y).busy) h) (ap moved_of h)
  line_at (P3 kd t x) h = line_quiet (ap (λ (y : Place). (view_of y).busy) h) (ap moved_of h)
  line_at (P4 t x) h = line_p4 t x h
  line_at (P5 t) h = line_quiet (ap (λ (y : Place). (view_of y).busy) h) (ap moved_of h)
  line_at (P6 t x) h = line_quiet (ap (λ (y : Place). (view_of y).busy) h) (ap moved_of h)
  line_at (F6 t x) h = line_quiet (ap (λ (y : Place). (view_of y).busy) h) (ap moved_of h)
  line_at (F7 t x) h = line_f7 t x h
  line_at (F8 t x) h = line_f8 t x h
  line_at (F9 t old) h = line_quiet (ap (λ (y : Place). (view_of y).busy) h) (ap moved_of h)
  line_at O1 h = line_quiet (ap (λ (y : Place). (view_of y).busy) h) (ap moved_of h)
  line_at (O2 x) h = line_quiet (ap (λ (y : Place). (view_of y).busy) h) (ap moved_of h)
  line_at (O3 x) h = line_quiet (ap (λ (y : Place). (view_of y).busy) h) (ap moved_of h)
  line_at (O4 x) h = line_o4 x h
  line_at (O5 x v) h = line_quiet (ap (λ (y : Place). (view_of y).busy) h) (ap moved_of h)
  line_at (O6 x) h = line_quiet (ap (λ (y : Place). (view_of y).busy) h) (ap moved_of h)
  line_at Len1 h = line_quiet (ap (λ (y : Place). (view_of y).busy) h) (ap moved_of h)
  line_at (Len2 t) h = line_quiet (ap (λ (y : Place). (view_of y).busy) h) (ap moved_of h)
  line_at (Len3 t x) h = line_quiet (ap (λ (y : Place). (view_of y).busy) h) (ap moved_of h)
  line_at Empty1 h = line_quiet (ap (λ (y : Place). (view_of y).busy) h) (ap moved_of h)
  line_at (Empty2 x) h = line_quiet (ap (λ (y : Place). (view_of y).busy) h) (ap moved_of h)
  line_at Full1 h = line_quiet (ap (λ (y : Place). (view_of y).busy) h) (ap moved_of h)
  line_at (Full2 t) h = line_quiet (ap (λ (y : Place). (view_of y).busy) h) (ap moved_of h)
  line_at Close1 h = line_quiet (ap (λ (y : Place). (view_of y).busy) h) (ap moved_of h)
  line_at IsClosed1 h = line_quiet (ap (λ (y : Place). (view_of y).busy) h) (ap moved_of h)

  pub line_act : Lined c ed (acted bits m w (stood m w) lose) (told_on bits c n workers base ed m st o w l lose busy young early) (u bits c n workers base ed m st o w l lose busy young early)
      (upd o.reached.pictured.ages w (new_age bits c n workers base o.reached.ring m o.reached.pictured w l lose busy))
  line_act = line_at q refl
