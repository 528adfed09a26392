-- What no log of the ring shows: by what every reached machine and its story have behind them, kept along every schedule that keeps the window.
use Prim.Native.Nat.{ℕ, ◌<◌}
use native.Mathlib.Omega.{arith}
use mathlib.Core.Bool.{Bool, true, false, cond, not, true≢false}
use mathlib.Core.List.{List, [], ◌∷◌, ◌++◌, map}
use mathlib.Core.Logic.{◌≢◌, inl}
use mathlib.Core.Path.{◌≡◌, refl, sym, ap, ◌∙◌, subst}
use lib.Dec.{eqb}
use lib.ListN.{length, take}
use lib.Seq.{get_or-set_same, get_or-set_other}
use borrow.Author.Tests.{eqb-true, eqb-false}
use Rattle.queue_entries.specs.Entries.{entry_of}
use Rattle.queue_entries.specs.declared.Call.{Call}
use Rattle.queue_entries.specs.declared.Call.TheVariants as call
use Rattle.queue_entries.specs.declared.Entry.{Entry}
use Rattle.queue_plain.specs.Plain.{Reply, answer_of}
use Rattle.queue_plain.specs.Plain as plain
use Rattle.queue_plain.specs.Story.{Begun, Does, items_of, begun_in, elements_by, acts_in}
use Rattle.queue_plain.proofs.Stories.{acts_story, capacity_is}
use Rattle.queue_schedules.proofs.Histories.{entries_lead_while}
use Rattle.queue_logs.specs.Logs.{NeverShown, ended}
use Rattle.queue_logs.proofs.Account.{AskedOf}
use Rattle.queue_logs.proofs.Working.{same_reply, no_reply}
use Rattle.queue_logs.proofs.Times.{TimeBy, Answering, answering, Along, along_first, along_begun, along_act, never_along}
use Rattle.queue_logs.proofs.Late.{never_late}
use Rattle.bounded_words.specs.declared.Width.{Width}
use Rattle.bounded_words.specs.declared.Width.TheVariants.{SixtyFour}
use Rattle.bounded_words.specs.Words.{mark_of}
use Rattle.bounded_places.specs.declared.Answer.{Answer}
use Rattle.bounded_places.specs.declared.Answer.TheVariants.{Nothing, Pushed, Full, Closed, Displaced, Popped, Empty, PopClosed, Len, Yes, No}
use Rattle.bounded_places.specs.declared.Place.{Place}
use Rattle.bounded_places.specs.declared.Place.TheVariants.{Idle, P1, P2, P3, P4, P5, P6, F6, F7, F8, F9, O1, O2, O3, O4, O5, O6, Len1, Len2, Len3, Empty1, Empty2, Full1, Full2, Close1, IsClosed1}
use Rattle.bounded_places.specs.declared.Worker.{Worker}
use Rattle.bounded_places.specs.Places.{view_of, begin_of}
use Rattle.bounded_machine.specs.declared.Machine.{Machine}
use Rattle.bounded_machine.specs.declared.Did.{Did}
use Rattle.bounded_machine.specs.declared.Event.{Event}
use Rattle.bounded_machine.specs.Machine.{fresh_with, idler}
use Rattle.bounded_machine.specs.Turn.{turn_at, turn_of_by, beginner, begun, acted}
use Rattle.bounded_machine.specs.Run.{run_at}
use Rattle.bounded_machine.specs.History.{events_of, moved_of}
use Rattle.bounded_machine.proofs.Kept.{few_workers}
use Rattle.bounded_causes.specs.Causes.{stand_of, claims_tail, claims_head}
use Rattle.bounded_demands.specs.Notions.{with_records, AllowedWith, machine_after, widest_length, InWidestWindow, KeepsWidestWindow}
use Rattle.bounded_demands.specs.Stories.{Story, story_of, known, queue_at, change_of, actor, reply_of}
use Rattle.bounded_demands.specs.Demands.{Answered, Meant}
use Rattle.bounded_demands.proofs.Refusals.{ring_queue}
use Rattle.bounded_logs.specs.Logs.{said, said_at, ring_log, ShowsNone, ShowsNoneWithin, ShowsNoneInWindow}
use Rattle.bounded_proof_invariant.proofs.Ring.{Shared}
use Rattle.bounded_proof_each_act.proofs.Sight.{Age, look, Recent}
use Rattle.bounded_proof_demand2.proofs.Pictured.{Base}
use Rattle.bounded_proof_demand2.proofs.Turns.{Turned, began, did, turned, stood}
use Rattle.bounded_proof_demand2.proofs.Reached.{base_of, fresh_record, recent_in}
use Rattle.bounded_proof_demand2.proofs.Always.{always, widens}
use Rattle.bounded_proof_plain.proofs.Work.{task, Due}
use Rattle.bounded_proof_plain.proofs.Told.{told_begun, told_act, went, same_event, stood_else, act}
use Rattle.bounded_proof_plain.proofs.Plain.{n, Tells, told_first}
use Rattle.bounded_proof_logs.proofs.Under.{working_at}

-- ---- what a place tells of the log

-- Where an act leads to that answers.
said_idle : (p : Place) (r : Reply) (more : List Reply) → said_at p ≡ r ∷ more → (x : Answer) × (p ≡ Idle x) × (reply_of x ≡ r ∷ more)
said_idle (Idle a) r more e = (a, refl, e)
said_idle (P1 k x) r more e = no_reply e
said_idle (P2 k t x) r more e = no_reply e
said_idle (P3 k t x) r more e = no_reply e
said_idle (P4 t x) r more e = no_reply e
said_idle (P5 t) r more e = no_reply e
said_idle (P6 t x) r more e = no_reply e
said_idle (F6 t x) r more e = no_reply e
said_idle (F7 t x) r more e = no_reply e
said_idle (F8 t x) r more e = no_reply e
said_idle (F9 t old) r more e = no_reply e
said_idle O1 r more e = no_reply e
said_idle (O2 h) r more e = no_reply e
said_idle (O3 h) r more e = no_reply e
said_idle (O4 h) r more e = no_reply e
said_idle (O5 h v) r more e = no_reply e
said_idle (O6 h) r more e = no_reply e
said_idle Len1 r more e = no_reply e
said_idle (Len2 t) r more e = no_reply e
said_idle (Len3 t h) r more e = no_reply e
said_idle Empty1 r more e = no_reply e
said_idle (Empty2 h) r more e = no_reply e
said_idle Full1 r more e = no_reply e
said_idle (Full2 t) r more e = no_reply e
said_idle Close1 r more e = no_reply e
said_idle IsClosed1 r more e = no_reply e

busy_said : (p : Place) → ((x : Answer) → p ≡ Idle x → ended (reply_of x) ≡ true) → (view_of p).busy ≡ not (ended (said_at p))
busy_said (Idle a) h = sym (ap not (h a refl))
busy_said (P1 k x) h = refl
busy_said (P2 k t x) h = refl
busy_said (P3 k t x) h = refl
busy_said (P4 t x) h = refl
busy_said (P5 t) h = refl
busy_said (P6 t x) h = refl
busy_said (F6 t x) h = refl
busy_said (F7 t x) h = refl
busy_said (F8 t x) h = refl
busy_said (F9 t old) h = refl
busy_said O1 h = refl
busy_said (O2 t) h = refl
busy_said (O3 t) h = refl
busy_said (O4 t) h = refl
busy_said (O5 t v) h = refl
busy_said (O6 t) h = refl
busy_said Len1 h = refl
busy_said (Len2 t) h = refl
busy_said (Len3 t u) h = refl
busy_said Empty1 h = refl
busy_said (Empty2 t) h = refl
busy_said Full1 h = refl
busy_said (Full2 t) h = refl
busy_said Close1 h = refl
busy_said IsClosed1 h = refl

said_yes : (a : Answer) → (stand_of (Idle a)).yes ≡ true → reply_of a ≡ plain.Yes ∷ []
said_yes Nothing e = absurd (true≢false (sym e))
said_yes Pushed e = absurd (true≢false (sym e))
said_yes (Full x) e = absurd (true≢false (sym e))
said_yes (Closed x) e = absurd (true≢false (sym e))
said_yes (Displaced x) e = absurd (true≢false (sym e))
said_yes (Popped x) e = absurd (true≢false (sym e))
said_yes Empty e = absurd (true≢false (sym e))
said_yes PopClosed e = absurd (true≢false (sym e))
said_yes (Len x) e = absurd (true≢false (sym e))
said_yes Yes e = refl
said_yes No e = absurd (true≢false (sym e))

yes_at : (q : Place) → (stand_of q).yes ≡ true → said_at q ≡ plain.Yes ∷ []
yes_at (Idle a) e = said_yes a e
yes_at (P1 k x) e = absurd (true≢false (sym e))
yes_at (P2 k t x) e = absurd (true≢false (sym e))
yes_at (P3 k t x) e = absurd (true≢false (sym e))
yes_at (P4 t x) e = absurd (true≢false (sym e))
yes_at (P5 t) e = absurd (true≢false (sym e))
yes_at (P6 t x) e = absurd (true≢false (sym e))
yes_at (F6 t x) e = absurd (true≢false (sym e))
yes_at (F7 t x) e = absurd (true≢false (sym e))
yes_at (F8 t x) e = absurd (true≢false (sym e))
yes_at (F9 t old) e = absurd (true≢false (sym e))
yes_at O1 e = absurd (true≢false (sym e))
yes_at (O2 h) e = absurd (true≢false (sym e))
yes_at (O3 h) e = absurd (true≢false (sym e))
yes_at (O4 h) e = absurd (true≢false (sym e))
yes_at (O5 h v) e = absurd (true≢false (sym e))
yes_at (O6 h) e = absurd (true≢false (sym e))
yes_at Len1 e = absurd (true≢false (sym e))
yes_at (Len2 t) e = absurd (true≢false (sym e))
yes_at (Len3 t h) e = absurd (true≢false (sym e))
yes_at Empty1 e = absurd (true≢false (sym e))
yes_at (Empty2 h) e = absurd (true≢false (sym e))
yes_at Full1 e = absurd (true≢false (sym e))
yes_at (Full2 t) e = absurd (true≢false (sym e))
yes_at Close1 e = absurd (true≢false (sym e))
yes_at IsClosed1 e = absurd (true≢false (sym e))

closed_by : (p q : Place) → cond (stand_of p).close (stand_of q).yes false ≡ true → (p ≡ Close1) × (said_at q ≡ plain.Yes ∷ [])
closed_by (Idle a) q e = absurd (true≢false (sym e))
closed_by (P1 k x) q e = absurd (true≢false (sym e))
closed_by (P2 k t x) q e = absurd (true≢false (sym e))
closed_by (P3 k t x) q e = absurd (true≢false (sym e))
closed_by (P4 t x) q e = absurd (true≢false (sym e))
closed_by (P5 t) q e = absurd (true≢false (sym e))
closed_by (P6 t x) q e = absurd (true≢false (sym e))
closed_by (F6 t x) q e = absurd (true≢false (sym e))
closed_by (F7 t x) q e = absurd (true≢false (sym e))
closed_by (F8 t x) q e = absurd (true≢false (sym e))
closed_by (F9 t old) q e = absurd (true≢false (sym e))
closed_by O1 q e = absurd (true≢false (sym e))
closed_by (O2 h) q e = absurd (true≢false (sym e))
closed_by (O3 h) q e = absurd (true≢false (sym e))
closed_by (O4 h) q e = absurd (true≢false (sym e))
closed_by (O5 h v) q e = absurd (true≢false (sym e))
closed_by (O6 h) q e = absurd (true≢false (sym e))
closed_by Len1 q e = absurd (true≢false (sym e))
closed_by (Len2 t) q e = absurd (true≢false (sym e))
closed_by (Len3 t h) q e = absurd (true≢false (sym e))
closed_by Empty1 q e = absurd (true≢false (sym e))
closed_by (Empty2 h) q e = absurd (true≢false (sym e))
closed_by Full1 q e = absurd (true≢false (sym e))
closed_by (Full2 t) q e = absurd (true≢false (sym e))
closed_by Close1 q e = (refl, yes_at q e)
closed_by IsClosed1 q e = absurd (true≢false (sym e))

busy_begun : (c : Call) → (view_of (begin_of c)).busy ≡ true
busy_begun (call.Push x) = refl
busy_begun (call.ForcePush x) = refl
busy_begun call.Pop = refl
busy_begun call.Len = refl
busy_begun call.IsEmpty = refl
busy_begun call.IsFull = refl
busy_begun call.Close = refl
busy_begun call.IsClosed = refl

-- a call takes out before it puts in
module _ (c n ed : ℕ) (st : Story) (s : Shared) (age : Age) (w : ℕ) (x : List ℕ) where
  taken_first : (p : Place) → claims_head (moved_of p) ≡ true → Due c n ed st s age w (task p) → ((known c ed st).each w).puts ≡ cond (claims_tail (moved_of p)) x []
  taken_first (Idle a) h o = absurd (true≢false (sym h))
  taken_first (P1 k y) h o = absurd (true≢false (sym h))
  taken_first (P2 k t y) h o = absurd (true≢false (sym h))
  taken_first (P3 k t y) h o = absurd (true≢false (sym h))
  taken_first (P4 t y) h o = absurd (true≢false (sym h))
  taken_first (P5 t) h o = absurd (true≢false (sym h))
  taken_first (P6 t y) h o = absurd (true≢false (sym h))
  taken_first (F6 t y) h o = absurd (true≢false (sym h))
  taken_first (F7 t y) h o = o.work.puts
  taken_first (F8 t y) h o = absurd (true≢false (sym h))
  taken_first (F9 t old) h o = absurd (true≢false (sym h))
  taken_first O1 h o = absurd (true≢false (sym h))
  taken_first (O2 t) h o = absurd (true≢false (sym h))
  taken_first (O3 t) h o = absurd (true≢false (sym h))
  taken_first (O4 t) h o = o.work.puts
  taken_first (O5 t v) h o = absurd (true≢false (sym h))
  taken_first (O6 t) h o = absurd (true≢false (sym h))
  taken_first Len1 h o = absurd (true≢false (sym h))
  taken_first (Len2 t) h o = absurd (true≢false (sym h))
  taken_first (Len3 t u) h o = absurd (true≢false (sym h))
  taken_first Empty1 h o = absurd (true≢false (sym h))
  taken_first (Empty2 t) h o = absurd (true≢false (sym h))
  taken_first Full1 h o = absurd (true≢false (sym h))
  taken_first (Full2 t) h o = absurd (true≢false (sym h))
  taken_first Close1 h o = absurd (true≢false (sym h))
  taken_first IsClosed1 h o = absurd (true≢false (sym h))

-- ---- an answer, of `Answered` and `Meant`
module _ (c ed : ℕ) where
  abbrev Answers : Story → Event → Reply → Type 0
  Answers = Answering actor (change_of ed) said (eqb ed 2) true c (λ (st : Story). 0) c

  asks : (st : Story) (e : Event) (x : Answer) (r : Reply) (more : List Reply) → reply_of x ≡ r ∷ more → (a : Answered c ed st e x) → AskedOf c 0 (queue_at c ed a.moment st) a.call r
  asks st e x r more is a =
      let q = queue_at c ed a.moment st in
      let room : q.capacity ≡ c = capacity_is actor (change_of ed) c (take a.moment st) in
      record {
        asked = q;
        items = refl;
        closed = refl;
        full = λ h. omega (arith, eqb-true (length q.items) q.capacity h, room);
        room = λ h z. eqb-false (length q.items) q.capacity h (z ∙ sym room);
        says = same_reply (answer_of q a.call) r [] more (a.plain ∙ is);
      }

  says : (st : Story) (e : Event) (x : Answer) (r : Reply) (more : List Reply) → reply_of x ≡ r ∷ more → Answered c ed st e x → Meant c ed st e x → Answers st e r
  says st e x r more is a m =
      answering actor (change_of ed) said (eqb ed 2) true c (λ (z : Story). 0) c st e a.call r more (reply_of x) is a.its m.put m.took m.closed
      (λ u. (a.moment, a.begun, a.inside, asks st e x r more is a))

  ends_so : (st : Story) (e : Event) (x : Answer) → Answered c ed st e x → ended (reply_of x) ≡ true
  ends_so st e x a = ap ended (sym a.plain)

module _ (bits : Width) (records c workers ed : ℕ) (a : AllowedWith records c workers ed) where
  abbrev laps : ℕ
  laps = n bits records c workers ed a

  abbrev So : Machine → Story → Type 0
  So = Tells bits records c workers ed a

  abbrev base : Base bits c (n bits records c workers ed a) workers
  base = base_of bits records c workers ed a

  abbrev busy_of : Machine → ℕ → Bool
  busy_of m w = (view_of (stood m w)).busy

  abbrev Kept : Machine → Story → Type 0
  Kept m st = Along actor (change_of ed) said (eqb ed 2) true c (λ (z : Story). 0) c (busy_of m) st

  -- at each time
  time_of : (m : Machine) (st : Story) → So m st → TimeBy actor (change_of ed) said (eqb ed 2) true c (λ (z : Story). 0) c (busy_of m) st
  time_of m st o =
      record {
        working = λ w h. working_at c laps ed st o.reached.ring (o.reached.pictured.ages w) w (stood m w) h (o.dues w);
        fits = omega (arith, o.shelf.long, o.reached.pictured.inv.high);
        holds = inl refl;
      }

  placed : (m : Machine) (st : Story) (o : So m st) (w : ℕ) (cl : Call) → w < m.count → stood (begun m w (begin_of cl)) w ≡ begin_of cl
  unfolding begun
  placed m st o w cl l =
      let pic = o.reached.pictured in
      ap (λ (z : Worker). z.place) (get_or-set_same m.workers w (beginner (begin_of cl)) idler (omega (arith, l, pic.workers_long, few_workers m pic.unbroken)))

  elsewhere : (m : Machine) (w : ℕ) (cl : Call) (j : ℕ) → j ≢ w → stood (begun m w (begin_of cl)) j ≡ stood m j
  unfolding begun
  elsewhere m w cl j far = ap (λ (z : Worker). z.place) (get_or-set_other m.workers w j (beginner (begin_of cl)) idler far)

  -- every accepted entry leads on
  both_kept : (m : Machine) (st : Story) (en : Entry) (next : Machine) (acts : List Event) → So m st → Kept m st → InWidestWindow bits m (acts_in st) → Turned bits m en next acts
      → So next (st ++ (begun_in en ++ map Does acts)) × Kept next (st ++ (begun_in en ++ map Does acts))
  both_kept m st en next acts o k window (began w cl l idle) =
      let new = told_begun bits c laps workers base ed m st o w l cl idle in (
        new,
        along_begun actor (change_of ed) said (eqb ed 2) true c (λ (z : Story). 0) c st w cl (busy_of m) (busy_of (begun m w (begin_of cl))) k
            (ap (λ (p : Place). (view_of p).busy) (placed m st o w cl l) ∙ busy_begun cl) (λ j far. ap (λ (p : Place). (view_of p).busy) (elsewhere m w cl j far))
            (time_of (begun m w (begin_of cl)) (st ++ Begun w cl ∷ []) new),
      )
  both_kept m st en next acts o k window (did w lose l busy early) =
      subst (λ (e : Event). So now (st ++ Does e ∷ []) × Kept now (st ++ Does e ∷ [])) (sym (same_event bits c laps workers base ed m st o w l lose busy young early)) (
        new,
        along_act actor (change_of ed) said (eqb ed 2) true c (λ (z : Story). 0) c st done (busy_of m) (busy_of now) k busy own
            (λ j far. ap (λ (p : Place). (view_of p).busy) (stood_else bits c laps workers base ed m st o w l lose busy young early j far))
            (time_of now (st ++ Does done ∷ []) new) first closing unopened,
      )
    where
      now : Machine
      now = acted bits m w (stood m w) lose

      young : Recent c (mark_of c) laps o.reached.ring (o.reached.pictured.ages w) (look c (stood m w))
      young = recent_in bits c laps workers base m o.h o.reached (subst (InWidestWindow bits m) o.acts window) w

      done : Event
      done = act bits c laps workers base ed m st o w l lose busy young early

      new : So now (st ++ Does done ∷ [])
      new = told_act bits c laps workers base ed m st o w l lose busy young early

      there : stood now w ≡ done.after
      there = went bits c laps workers base ed m st o w l lose busy young early

      own : busy_of now w ≡ not (ended (said done))
      own =
          ap (λ (p : Place). (view_of p).busy) there
          ∙ busy_said done.after (λ x e. ends_so c ed st done x (new.answers st [] done x refl e).0)

      first : (change_of ed done).takes ≡ true → ((known c ed (st ++ Does done ∷ [])).each w).puts ≡ cond (change_of ed done).puts (items_of ((known c ed st).each w).calls) []
      first h =
          taken_first c laps ed (st ++ Does done ∷ []) new.reached.ring (new.reached.pictured.ages w) w (items_of ((known c ed st).each w).calls) done.after h
          (subst (λ (p : Place). Due c laps ed (st ++ Does done ∷ []) new.reached.ring (new.reached.pictured.ages w) w (task p)) there (new.dues w))

      closing : (change_of ed done).closes ≡ true → (known c ed st).queue.closed ≡ false → (((known c ed st).each w).calls ≡ call.Close ∷ []) × (said done ≡ plain.Yes ∷ [])
      closing h still =
          let z = closed_by (stood m w) done.after h in
          ((subst (λ (p : Place). Due c laps ed st o.reached.ring (o.reached.pictured.ages w) w (task p)) z.0 (o.dues w)).its, z.1)

      unopened : eqb ed 2 ≡ true → (change_of ed done).opens ≡ false
      unopened h = ap (λ (b : Bool). cond b false (cond (claims_head (moved_of done.before)) (claims_tail (moved_of done.after)) false)) h

  one_entry : (m : Machine) (st : Story) (i j : ℕ) → So m st × Kept m st → InWidestWindow bits m (acts_in st) → (turn_at bits m i j).refusal ≡ 0
      → So (turn_at bits m i j).machine (st ++ elements_by (events_of bits) m (entry_of i j) (turn_at bits m i j).machine)
      × Kept (turn_at bits m i j).machine (st ++ elements_by (events_of bits) m (entry_of i j) (turn_at bits m i j).machine)
  unfolding turn_of_by
  one_entry m st i j both window e = both_kept m st (entry_of i j) _ _ both.0 both.1 window (turned bits m (entry_of i j) e)

  fresh_idle : (w : ℕ) → busy_of (fresh_with records c workers ed) w ≡ false
  fresh_idle w = ap (λ (y : Worker). (view_of y.place).busy) (fresh_record records c workers ed w)

  first_both : So (fresh_with records c workers ed) [] × Kept (fresh_with records c workers ed) []
  first_both =
      let o = told_first bits records c workers ed a in
      (o, along_first actor (change_of ed) said (eqb ed 2) true c (λ (z : Story). 0) c (busy_of (fresh_with records c workers ed)) fresh_idle (time_of (fresh_with records c workers ed) [] o))

  both_after : (s : List ℕ) → KeepsWidestWindow (with_records records bits) (fresh_with records c workers ed) [] s
      → So (machine_after (with_records records bits) c workers ed s) (story_of (with_records records bits) c workers ed s)
      × Kept (machine_after (with_records records bits) c workers ed s) (story_of (with_records records bits) c workers ed s)
  both_after s keeps =
      entries_lead_while (ring_queue bits) (elements_by (events_of bits)) (λ (m : Machine) (st : Story). InWidestWindow bits m (acts_in st)) (λ (m : Machine) (st : Story). So m st × Kept m st)
      one_entry s (fresh_with records c workers ed) [] 0
      (λ before after e.
      subst (InWidestWindow bits (run_at bits (fresh_with records c workers ed) 0 before).machine)
      (sym (acts_story (λ (d : Did). d.refusal) (λ (d : Did). d.machine) (turn_at bits) (events_of bits) before (fresh_with records c workers ed)))
      (keeps before after e))
      first_both

-- the tight log
pub never_in : (bits : Width) (records c workers ed : ℕ) → AllowedWith records c workers ed → (s : List ℕ) → KeepsWidestWindow (with_records records bits) (fresh_with records c workers ed) [] s
    → NeverShown c (eqb ed 2) true (ring_log (with_records records bits) c workers ed s)
never_in bits records c workers ed a s keeps =
    never_along actor (change_of ed) said (eqb ed 2) true c (λ (z : Story). 0) c a.slot_some (busy_of bits records c workers ed a (machine_after (with_records records bits) c workers ed s))
    (story_of (with_records records bits) c workers ed s) both.1
    (λ earlier later e r more split is.
    let z = said_idle e.after r more is in
    let t = both.0.answers earlier later e z.0 split z.1 in
    says c ed earlier e z.0 r more z.2 t.0 t.1)
  where
    both : Tells bits records c workers ed a (machine_after (with_records records bits) c workers ed s) (story_of (with_records records bits) c workers ed s)
        × Kept bits records c workers ed a (machine_after (with_records records bits) c workers ed s) (story_of (with_records records bits) c workers ed s)
    both = both_after bits records c workers ed a s keeps

-- the widest window, and document 02's
pub shows_none_in_widest : (bits : Width) (records : ℕ) → ShowsNoneWithin widest_length (with_records records bits)
shows_none_in_widest bits records c workers ed a s keeps seen late =
    never_late (ring_log (with_records records bits) c workers ed s) seen late c (eqb ed 2) true (never_in bits records c workers ed a s keeps)

pub shows_none_in_window : (bits : Width) (records : ℕ) → ShowsNoneInWindow (with_records records bits)
shows_none_in_window bits records c workers ed a s keeps =
    shows_none_in_widest bits records c workers ed a s (widens (with_records records bits) (fresh_with records c workers ed) [] s keeps)

-- of 64 bits every schedule
pub shows_none : (records : ℕ) → ShowsNone (with_records records SixtyFour)
shows_none records c workers ed a s = shows_none_in_widest SixtyFour records c workers ed a s (always records c workers ed a s)
