-- How each exchange ended, and that every worker's counts are those of its history.
use mathlib.Core.Path.{◌≡◌, refl, sym, ap, ◌∙◌}
use mathlib.Core.Logic.{◌≢◌}
use mathlib.Core.Bool.{Bool, true, false, cond, true≢false}
use mathlib.Core.List.{List, [], ◌∷◌, ◌++◌, append-nil}
use Prim.Native.Nat.{ℕ, ◌+◌, ◌<◌}
use native.Mathlib.Omega.{arith}
use native.Mathlib.Decide.{ℕ_discrete}
use lib.ListN.{length, set, length-set}
use lib.Seq.{get_or-set_same, get_or-set_other}
use borrow.Author.Tests.{eq-eqb, ne_eqb}
use Rattle.queue_entries.specs.declared.Call.{Call}
use Rattle.queue_entries.specs.declared.Call.TheVariants as call
use Rattle.queue_entries.specs.declared.Entry.{Entry}
use Rattle.bounded_words.specs.declared.Stamp.{Stamp}
use Rattle.bounded_words.specs.declared.Fixed.{Fixed}
use Rattle.bounded_words.specs.declared.Width.{Width}
use Rattle.bounded_words.specs.Words.{stamp, unmarked_of, marked_of, minus, with_mark, same, one_past, lap_behind, lap_behind_one_past}
use Rattle.bounded_places.specs.declared.Slot.{Slot}
use Rattle.bounded_places.specs.declared.Ends.{Ends}
use Rattle.bounded_places.specs.declared.Kind.TheVariants.{Push}
use Rattle.bounded_places.specs.declared.Answer.TheVariants as answer
use Rattle.bounded_places.specs.declared.Answer.TheVariants.{Full, Empty, PopClosed, Len, Yes, No}
use Rattle.bounded_places.specs.declared.Exchange.{Exchange}
use Rattle.bounded_places.specs.declared.Exchange.TheVariants.{Won, Differed, Failed}
use Rattle.bounded_places.specs.declared.Loss.{Loss}
use Rattle.bounded_places.specs.declared.Loss.TheVariants.{Nothing, ByWords, BySchedule}
use Rattle.bounded_places.specs.declared.Place.{Place}
use Rattle.bounded_places.specs.declared.Place.TheVariants.{Idle, P1, P2, P3, P4, P5, P6, F6, F7, F8, F9, O1, O2, O3, O4, O5, O6, Len1, Len2, Len3, Empty1, Empty2, Full1, Full2, Close1, IsClosed1}
use Rattle.bounded_places.specs.declared.Worker.{Worker}
use Rattle.bounded_places.specs.Places.{view_of, begin_of}
use Rattle.bounded_acts.specs.declared.Acted.{Acted}
use Rattle.bounded_acts.specs.Acts.{goes, losing, exchange_of, end_p3, end_f6, end_o3, tail_to, full_at, count_of, act_of}
use Rattle.bounded_machine.specs.declared.Machine.{Machine}
use Rattle.bounded_machine.specs.declared.Event.{Event}
use Rattle.bounded_machine.specs.Machine.{idler, record_of_worker, fresh_with, fixed_on, ends_on}
use Rattle.bounded_machine.specs.Turn.{beginner, by_words, by_schedule, record_after, begun, stored, acted, acted_by, act_at}
use Rattle.bounded_machine.specs.History.{loss_at}
use Rattle.bounded_machine.proofs.Kept.{either, exchanged}
use Rattle.bounded_demands.specs.Notions.{with_records, AllowedWith, machine_after, acts_of, Exchanges, exchange_p3, exchange_f6, exchange_o3, Lost, lost_with, lost_from, lost_by, lost_in}
use Rattle.bounded_demands.specs.Demands.{EndsTold, LossesUnderEverySchedule}
use Rattle.bounded_proof_demand2.proofs.Turns.{Turned, began, did, stood, event_of}
use Rattle.bounded_proof_demand2.proofs.Reached.{along_any, fresh_record, fresh_seats}

-- ---- one act, by the table

-- an act that is no exchange
none_lost : (bits : Width) (f : Fixed) (e : Ends) (s : Slot) (p : Place) (lose : Bool) → (view_of p).weak ≡ false → (act_of bits f e s p lose).loss ≡ Nothing
unfolding goes
none_lost bits f e s (Idle a) lose h = refl
none_lost bits f e s (P1 k x) lose h = refl
none_lost bits f e s (P2 k t x) lose h =
    either N (same s.stamp t) (goes e s (P3 k t x)) _ (λ b. refl)
    (λ b. either N (lap_behind_one_past bits f s.stamp t) (goes e s (full_at k t x)) (goes e s (P1 k x)) (λ d. refl) (λ d. refl))
  where
    N : Acted → Type 0
    N a = a.loss ≡ Nothing
none_lost bits f e s (P3 k t x) lose h = absurd (true≢false h)
none_lost bits f e s (P4 t x) lose h = refl
none_lost bits f e s (P5 t) lose h = refl
none_lost bits f e s (P6 t x) lose h = either (λ (a : Acted). a.loss ≡ Nothing) (lap_behind bits f e.head t) (goes e s (Idle (Full x))) (goes e s (P1 Push x)) (λ b. refl) (λ b. refl)
none_lost bits f e s (F6 t x) lose h = absurd (true≢false h)
none_lost bits f e s (F7 t x) lose h = refl
none_lost bits f e s (F8 t x) lose h = refl
none_lost bits f e s (F9 t old) lose h = refl
none_lost bits f e s O1 lose h = refl
none_lost bits f e s (O2 w) lose h =
    either N (one_past bits s.stamp w) (goes e s (O3 w)) _ (λ b. refl) (λ b. either N (same s.stamp w) (goes e s (O6 w)) (goes e s O1) (λ d. refl) (λ d. refl))
  where
    N : Acted → Type 0
    N a = a.loss ≡ Nothing
none_lost bits f e s (O3 w) lose h = absurd (true≢false h)
none_lost bits f e s (O4 w) lose h = refl
none_lost bits f e s (O5 w v) lose h = refl
none_lost bits f e s (O6 w) lose h =
    either N (same (unmarked_of f e.tail) w) _ (goes e s O1)
    (λ b. either N (marked_of f e.tail) (goes e s (Idle PopClosed)) (goes e s (Idle Empty)) (λ d. refl) (λ d. refl)) (λ b. refl)
  where
    N : Acted → Type 0
    N a = a.loss ≡ Nothing
none_lost bits f e s Len1 lose h = refl
none_lost bits f e s (Len2 t) lose h = refl
none_lost bits f e s (Len3 t w) lose h = either (λ (a : Acted). a.loss ≡ Nothing) (same e.tail t) (goes e s (Idle (Len (count_of f t w)))) (goes e s Len1) (λ b. refl) (λ b. refl)
none_lost bits f e s Empty1 lose h = refl
none_lost bits f e s (Empty2 w) lose h = refl
none_lost bits f e s Full1 lose h = refl
none_lost bits f e s (Full2 t) lose h = refl
none_lost bits f e s Close1 lose h =
    either (λ (a : Acted). a.loss ≡ Nothing) (marked_of f e.tail) (goes e s (Idle No)) (goes (tail_to e (with_mark bits f e.tail)) s (Idle Yes)) (λ b. refl) (λ b. refl)
none_lost bits f e s IsClosed1 lose h = refl

abbrev loss_of : Exchange → Loss
loss_of Won = Nothing
loss_of (Differed found) = ByWords
loss_of Failed = BySchedule

ended : (bits : Width) (f : Fixed) (e : Ends) (s : Slot) (p : Place) (lose : Bool) (found expected : Stamp) → Exchanges bits f e p found expected
    → (act_of bits f e s p lose).loss ≡ loss_of (exchange_of found expected lose)
unfolding goes losing
ended bits f e s p lose found expected (exchange_p3 {k} {t} {x}) =
    exchanged (λ (y : Exchange). (end_p3 bits f e s k t x y).loss ≡ loss_of y) e.tail t lose (λ b d. refl) (λ b d. refl) (λ b. refl)
ended bits f e s p lose found expected (exchange_f6 {t} {x}) =
    exchanged (λ (y : Exchange). (end_f6 bits f e s t x y).loss ≡ loss_of y) e.head (minus bits t f.lap) lose (λ b d. refl) (λ b d. refl) (λ b. refl)
ended bits f e s p lose found expected (exchange_o3 {h}) =
    exchanged (λ (y : Exchange). (end_o3 bits f e s h y).loss ≡ loss_of y) e.head h lose (λ b d. refl) (λ b d. refl) (λ b. refl)

module _ (found expected : Stamp) where
  apart : (lose : Bool) → (found ≡ expected → ⊥) → loss_of (exchange_of found expected lose) ≡ ByWords
  unfolding exchange_of same
  apart lose ne = simp (ne_eqb found.0 expected.0 (λ q. ne (ap stamp q)))

  alike : (lose : Bool) → found ≡ expected → loss_of (exchange_of found expected lose) ≡ cond lose BySchedule Nothing
  unfolding exchange_of same
  alike true e = simp (eq-eqb found.0 expected.0 (ap (λ (z : Stamp). z.0) e))
  alike false e = simp (eq-eqb found.0 expected.0 (ap (λ (z : Stamp). z.0) e))

pub ends_told : (bits : Width) → EndsTold bits (loss_at bits)
ends_told bits m w =
    record {
      differed = λ found expected lose x ne. ended bits (fixed_on m.ring) (ends_on m.ring) _ (stood m w) lose found expected x ∙ apart found expected lose ne;
      failed = λ found expected x e. ended bits (fixed_on m.ring) (ends_on m.ring) _ (stood m w) true found expected x ∙ alike found expected true e;
      won = λ found expected x e. ended bits (fixed_on m.ring) (ends_on m.ring) _ (stood m w) false found expected x ∙ alike found expected false e;
      none = λ lose h. none_lost bits (fixed_on m.ring) (ends_on m.ring) _ (stood m w) lose h;
    }

-- ---- along a history

-- one act more
lost_end : (kind : Loss → ℕ) (w : ℕ) (n : Lost) (h : List Event) (e : Event) → lost_from kind w n (h ++ e ∷ []) ≡ lost_with kind w (lost_from kind w n h) e
unfolding lost_from
lost_end kind w n [] e = refl
lost_end kind w n (a ∷ h) e = lost_end kind w (lost_with kind w n a) h e

begin_busy : (c : Call) → (view_of (begin_of c)).busy ≡ true
begin_busy (call.Push x) = refl
begin_busy (call.ForcePush x) = refl
begin_busy call.Pop = refl
begin_busy call.Len = refl
begin_busy call.IsEmpty = refl
begin_busy call.IsFull = refl
begin_busy call.Close = refl
begin_busy call.IsClosed = refl

-- of one kind, whose count a record keeps
module _ (bits : Width) (kind : Loss → ℕ) (count : Worker → ℕ) (none : (q : Place) → count (beginner q) ≡ 0)
    (more : (r : Worker) (q : Place) (l : Loss) → count (record_after r q l) ≡ count r + kind l) where
  -- Busy, a worker has counted its present call's; idle, its last call's, and none is under way.
  record Counts (r : Worker) (n : Lost) : Type 0 where
    pub busy : (view_of r.place).busy ≡ true → count r ≡ n.present
    pub idle : (view_of r.place).busy ≡ false → (count r ≡ n.last) × (n.present ≡ 0)

  -- What is kept along a history.
  record Counting (m : Machine) (h : List Event) : Type 0 where
    pub seats : (w : ℕ) → w < m.count → w < length m.workers
    pub counts : (w : ℕ) → Counts (record_of_worker m.workers w) (lost_by kind w h)

  begun_counts : (r : Worker) (n : Lost) (c : Call) → Counts r n → (view_of r.place).busy ≡ false → Counts (beginner (begin_of c)) n
  begun_counts r n c o idle =
      record { busy = λ b. none (begin_of c) ∙ sym (o.idle idle).1; idle = λ b. absurd (true≢false (sym (begin_busy c) ∙ b)) }

  acted_counts : (r : Worker) (n : Lost) (q : Place) (l : Loss) → Counts r n → (view_of r.place).busy ≡ true
      → Counts (record_after r q l) (cond (view_of q).busy (record { present = n.present + kind l; last = n.last }) (record { present = 0; last = n.present + kind l }))
  unfolding record_after
  acted_counts r n q l o busy =
      let grows : count (record_after r q l) ≡ n.present + kind l = more r q l ∙ ap (λ (k : ℕ). k + kind l) (o.busy busy) in
      record { busy = λ b. rw b grows; idle = λ b. rw b (grows, refl) }

  module _ (m : Machine) (h : List Event) (o : Counting m h) (v : ℕ) (l : v < m.count) where
    -- worker v's record is this one, after these acts more
    one_changes : (r : Worker) (acts : List Event) → Counts r (lost_by kind v (h ++ acts)) → ((w : ℕ) → w ≢ v → lost_by kind w (h ++ acts) ≡ lost_by kind w h)
        → (w : ℕ) → Dec (w ≡ v) → Counts (record_of_worker (set m.workers v r) w) (lost_by kind w (h ++ acts))
    one_changes r acts new rest w (yes e) = rw (e, get_or-set_same m.workers v r idler (o.seats v l)) new
    one_changes r acts new rest w (no ne) = rw (get_or-set_other m.workers v w r idler ne, rest w ne) (o.counts w)

    begun_counting : (c : Call) → (view_of (stood m v)).busy ≡ false → Counting (begun m v (begin_of c)) (h ++ [])
    unfolding begun
    begun_counting c idle =
        record {
          seats = λ w k. omega (arith, length-set m.workers v (beginner (begin_of c)), o.seats w k);
          counts =
              λ w. one_changes (beginner (begin_of c)) []
              (rw (append-nil h) (begun_counts (record_of_worker m.workers v) (lost_by kind v h) c (o.counts v) idle)) (λ z ne. rw (append-nil h)) w (ℕ_discrete w v);
        }

    module _ (lose : Bool) (busy : (view_of (stood m v)).busy ≡ true) where
      abbrev next : Machine
      next = acted bits m v (stood m v) lose

      abbrev new : Event
      new = event_of bits m v lose next

      abbrev after : Worker
      after = record_after (record_of_worker m.workers v) (act_at (act_of bits) m (stood m v) lose).place (loss_at bits m v lose)

      went : stood next v ≡ (act_at (act_of bits) m (stood m v) lose).place
      unfolding acted_by stored record_after
      went = ap (λ (z : Worker). z.place) (get_or-set_same m.workers v after idler (o.seats v l))

      own : Counts after (lost_by kind v (h ++ new ∷ []))
      own =
          rw (lost_end kind v _ h new, eq-eqb v v refl, went)
          (acted_counts (record_of_worker m.workers v) (lost_by kind v h) (act_at (act_of bits) m (stood m v) lose).place (loss_at bits m v lose) (o.counts v) busy)

      acted_counting : Counting next (h ++ new ∷ [])
      unfolding acted_by stored
      acted_counting =
          record {
            seats = λ w k. omega (arith, length-set m.workers v after, o.seats w k);
            counts = λ w. one_changes after (new ∷ []) own (λ z ne. lost_end kind z _ h new ∙ simp (ne_eqb v z (λ q. ne (sym q)))) w (ℕ_discrete w v);
          }

  kept : (m : Machine) (h : List Event) (en : Entry) (next : Machine) (acts : List Event) → Counting m h → Turned bits m en next acts → Counting next (h ++ acts)
  kept m h en next acts o (began v c l idle) = begun_counting m h o v l c idle
  kept m h en next acts o (did v lose l busy early) = acted_counting m h o v l lose busy

  fresh_counting : (records c workers edition : ℕ) → AllowedWith records c workers edition → Counting (fresh_with records c workers edition) []
  unfolding lost_from
  fresh_counting records c workers edition a =
      record {
        seats = fresh_seats records c workers edition a.worker_most;
        counts = λ w. rw (fresh_record records c workers edition w) (record { busy = λ b. absurd (true≢false (sym b)); idle = λ b. (none (Idle answer.Nothing), refl) });
      }

  pub counted : (records c workers edition : ℕ) → AllowedWith records c workers edition → (s : List ℕ) (w : ℕ)
      → count (record_of_worker (machine_after (with_records records bits) c workers edition s).workers w) ≡ lost_in kind
      (machine_after (with_records records bits) c workers edition s) w (acts_of (with_records records bits) c workers edition s)
  counted records c workers edition a s w =
      let m = machine_after (with_records records bits) c workers edition s in
      let n = lost_by kind w (acts_of (with_records records bits) c workers edition s) in
      let o = (along_any bits Counting kept s (fresh_with records c workers edition) [] 0 (fresh_counting records c workers edition a)).counts w in
      either (λ (k : ℕ). count (record_of_worker m.workers w) ≡ k) (view_of (stood m w)).busy n.present n.last (λ b. o.busy b) (λ b. (o.idle b).0)

pub losses : (bits : Width) (records : ℕ) → LossesUnderEverySchedule (with_records records bits)
unfolding record_after
losses bits records c workers edition a s w = (
  counted bits by_words (λ (r : Worker). r.differed) (λ q. refl) (λ r q l. refl) records c workers edition a s w,
  counted bits by_schedule (λ (r : Worker). r.failed) (λ q. refl) (λ r q l. refl) records c workers edition a s w,
)
