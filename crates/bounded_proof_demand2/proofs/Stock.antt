-- Stock along every schedule (document 02, item 4): the head claims are the values read and the workers that have yet to read.
use mathlib.Core.Path.{◌≡◌, refl, sym, ap, ◌∙◌, subst}
use mathlib.Core.Logic.{◌≢◌, ◌⊎◌, inl, inr}
use mathlib.Core.Bool.{Bool, true, false, cond, true≢false}
use mathlib.Core.List.{List, [], ◌∷◌, ◌++◌, append-nil}
use Prim.Native.Nat.{ℕ, zero, suc, ◌+◌, ◌%◌, ◌≤◌, ◌<◌}
use native.Mathlib.Omega.{arith}
use native.Mathlib.Nat.{mod-lt}
use lib.Dec.{leb}
use lib.ListN.{length, set, replicate}
use Rattle.queue_entries.specs.declared.Call.{Call}
use Rattle.queue_entries.specs.declared.Call.TheVariants as call
use Rattle.queue_entries.specs.declared.Entry.{Entry}
use Rattle.bounded_words.specs.declared.Stamp.{Stamp}
use Rattle.bounded_words.specs.declared.Fixed.{Fixed}
use Rattle.bounded_words.specs.declared.Width.{Width}
use Rattle.bounded_words.specs.declared.Width.TheVariants.{SixtyFour}
use Rattle.bounded_words.specs.Words.{mark_of, marked_of, unmarked_of, minus, same, one_past, lap_behind, lap_behind_one_past, with_mark}
use Rattle.bounded_places.specs.declared.Slot.{Slot}
use Rattle.bounded_places.specs.declared.Ends.{Ends}
use Rattle.bounded_places.specs.declared.Kind.{Kind}
use Rattle.bounded_places.specs.declared.Kind.TheVariants.{Push, Force}
use Rattle.bounded_places.specs.declared.Answer.TheVariants.{Full, Closed, Empty, PopClosed, Len, Yes, No}
use Rattle.bounded_places.specs.declared.Exchange.{Exchange}
use Rattle.bounded_places.specs.declared.Place.{Place}
use Rattle.bounded_places.specs.declared.Place.TheVariants.{Idle, P1, P2, P3, P4, P5, P6, F6, F7, F8, F9, O1, O2, O3, O4, O5, O6, Len1, Len2, Len3, Empty1, Empty2, Full1, Full2, Close1, IsClosed1}
use Rattle.bounded_places.specs.declared.Worker.{Worker}
use Rattle.bounded_places.specs.declared.Moved.{Moved}
use Rattle.bounded_places.specs.declared.Moved.TheVariants.{Neither, Tail, Head}
use Rattle.bounded_places.specs.Places.{view_of, begin_of}
use Rattle.bounded_acts.specs.declared.Acted.{Acted}
use Rattle.bounded_acts.specs.Acts.{goes, losing, after_tail, end_p3, end_f6, end_o3, tail_to, full_at, count_of, act_of}
use Rattle.bounded_machine.specs.declared.Machine.{Machine}
use Rattle.bounded_machine.specs.declared.Event.{Event}
use Rattle.bounded_machine.specs.declared.Tally.{Tally}
use Rattle.bounded_machine.specs.Machine.{place_of, idler, idlers, fresh_with, fixed_on, ends_on}
use Rattle.bounded_machine.specs.Broken.{all_idle}
use Rattle.bounded_machine.specs.Turn.{beginner, record_after, begun, stored, acted, acted_by}
use Rattle.bounded_machine.specs.History.{moved_of, reads_at, untallied, tally_of, stock_of, untaken_of}
use Rattle.bounded_machine.proofs.Kept.{either, exchanged, few_workers}
use Rattle.bounded_demands.specs.Notions.{with_records, AllowedWith, InWidestWindow, KeepsWidestWindow, machine_after, acts_of, Reads, read_o4, read_f8, tail_by, head_by, tally, stock, unread, unread_by}
use Rattle.bounded_demands.specs.Demands.{StockRises, StockFalls, StockStays, Stocked, StockUnderEverySchedule}
use Rattle.bounded_proof_invariant.proofs.Ring.{Cell, Await, Hold, Hand, Mine, Shared}
use Rattle.bounded_proof_each_act.proofs.Sight.{Age, look, Stands}
use Rattle.bounded_proof_demand2.proofs.Lists.{Last, Earlier, split_end}
use Rattle.bounded_proof_demand2.proofs.Turns.{Turned, began, did, stood, event_of}
use Rattle.bounded_proof_demand2.proofs.Counts.{by_act, tally_end, tally_tail, tally_head}
use Rattle.bounded_proof_demand2.proofs.Pictured.{Base, Pictured, idle_is, busy_counted, hand_busy, result, new_record, acted_stood}
use Rattle.bounded_proof_demand2.proofs.Reached.{Reached, laps_of, base_of, nil_split, along, entered_in}
use Rattle.bounded_proof_demand2.proofs.Always.{always}
use Rattle.bounded_proof_demand2.proofs.Contents.{idle_at, contents_number}
use Rattle.bounded_proof_demand2.proofs.Demand2.{fresh_reached}

-- ---- one act, by the table

abbrev one : Bool → ℕ
one b = cond b 1 0

abbrev heads : Moved → ℕ
heads x = length (head_by x 0)

abbrev tails : Moved → ℕ
tails x = length (tail_by x 0)

-- An act from p to q: a head claim is then to be read, and is read once; no act both reads and claims at tail.
abbrev Kept : Place → Place → Type 0
Kept p q = (heads (moved_of q) + one (unread p) ≡ one (reads_at p) + one (unread q)) × (one (reads_at p) + tails (moved_of q) ≤ 1)

-- the word found at P1, or at a lost P3
found_kept : (f : Fixed) (t : Stamp) (k : Kind) (x : ℕ) (p : Place) → reads_at p ≡ false → unread p ≡ false → Kept p (after_tail f k t x)
unfolding after_tail
found_kept f t k x p reads waits =
    either (Kept p) (marked_of f t) (Idle (Closed x)) (P2 k t x) (λ z. rw (waits, reads) (omega arith)) (λ z. rw (waits, reads) (omega arith))

full_kept : (k j : Kind) (t : Stamp) (x : ℕ) → Kept (P2 j t x) (full_at k t x)
full_kept Push j t x = omega arith
full_kept Force j t x = omega arith

act_kept : (bits : Width) (f : Fixed) (e : Ends) (s : Slot) (p : Place) (lose : Bool) → Kept p (act_of bits f e s p lose).place
unfolding goes losing
act_kept bits f e s (Idle a) lose = omega arith
act_kept bits f e s (P1 k x) lose = found_kept f e.tail k x (P1 k x) refl refl
act_kept bits f e s (P2 k t x) lose =
    either (λ (a : Acted). Kept (P2 k t x) a.place) (same s.stamp t) (goes e s (P3 k t x))
    (cond (lap_behind_one_past bits f s.stamp t) (goes e s (full_at k t x)) (goes e s (P1 k x))) (λ z. omega arith)
    (λ z. either (λ (a : Acted). Kept (P2 k t x) a.place) (lap_behind_one_past bits f s.stamp t) (goes e s (full_at k t x)) (goes e s (P1 k x))
    (λ y. full_kept k k t x) (λ y. omega arith))
act_kept bits f e s (P3 k t x) lose =
    exchanged (λ (y : Exchange). Kept (P3 k t x) (end_p3 bits f e s k t x y).place) e.tail t lose (λ b d. omega arith) (λ b d. omega arith)
    (λ b. found_kept f e.tail k x (P3 k t x) refl refl)
act_kept bits f e s (P4 t x) lose = omega arith
act_kept bits f e s (P5 t) lose = omega arith
act_kept bits f e s (P6 t x) lose =
    either (λ (a : Acted). Kept (P6 t x) a.place) (lap_behind bits f e.head t) (goes e s (Idle (Full x))) (goes e s (P1 Push x)) (λ z. omega arith) (λ z. omega arith)
act_kept bits f e s (F6 t x) lose =
    exchanged (λ (y : Exchange). Kept (F6 t x) (end_f6 bits f e s t x y).place) e.head (minus bits t f.lap) lose (λ b d. omega arith) (λ b d. omega arith) (λ b. omega arith)
act_kept bits f e s (F7 t x) lose = omega arith
act_kept bits f e s (F8 t x) lose = omega arith
act_kept bits f e s (F9 t old) lose = omega arith
act_kept bits f e s O1 lose = omega arith
act_kept bits f e s (O2 h) lose =
    either (λ (a : Acted). Kept (O2 h) a.place) (one_past bits s.stamp h) (goes e s (O3 h)) (cond (same s.stamp h) (goes e s (O6 h)) (goes e s O1))
    (λ z. omega arith) (λ z. either (λ (a : Acted). Kept (O2 h) a.place) (same s.stamp h) (goes e s (O6 h)) (goes e s O1) (λ y. omega arith)
    (λ y. omega arith))
act_kept bits f e s (O3 h) lose =
    exchanged (λ (y : Exchange). Kept (O3 h) (end_o3 bits f e s h y).place) e.head h lose (λ b d. omega arith) (λ b d. omega arith) (λ b. omega arith)
act_kept bits f e s (O4 h) lose = omega arith
act_kept bits f e s (O5 h v) lose = omega arith
act_kept bits f e s (O6 h) lose =
    either (λ (a : Acted). Kept (O6 h) a.place) (same (unmarked_of f e.tail) h)
    (cond (marked_of f e.tail) (goes e s (Idle PopClosed)) (goes e s (Idle Empty))) (goes e s O1)
    (λ z. either (λ (a : Acted). Kept (O6 h) a.place) (marked_of f e.tail) (goes e s (Idle PopClosed)) (goes e s (Idle Empty)) (λ y. omega arith)
    (λ y. omega arith)) (λ z. omega arith)
act_kept bits f e s Len1 lose = omega arith
act_kept bits f e s (Len2 t) lose = omega arith
act_kept bits f e s (Len3 t h) lose =
    either (λ (a : Acted). Kept (Len3 t h) a.place) (same e.tail t) (goes e s (Idle (Len (count_of f t h)))) (goes e s Len1) (λ z. omega arith) (λ z. omega arith)
act_kept bits f e s Empty1 lose = omega arith
act_kept bits f e s (Empty2 h) lose = omega arith
act_kept bits f e s Full1 lose = omega arith
act_kept bits f e s (Full2 t) lose = omega arith
act_kept bits f e s Close1 lose =
    either (λ (a : Acted). Kept Close1 a.place) (marked_of f e.tail) (goes e s (Idle No)) (goes (tail_to e (with_mark bits f e.tail)) s (Idle Yes)) (λ z. omega arith) (λ z. omega arith)
act_kept bits f e s IsClosed1 lose = omega arith

no_tail : (x : Moved) → (x ≡ Tail → ⊥) → tails x ≡ 0
no_tail Neither none = refl
no_tail Tail none = absurd (none refl)
no_tail Head none = refl

pub reading : (p : Place) (t : Stamp) → Reads p t → (reads_at p ≡ true) × (unread p ≡ true)
reading p t read_o4 = (refl, refl)
reading p t read_f8 = (refl, refl)

no_read : (p : Place) → ((t : Stamp) → Reads p t → ⊥) → reads_at p ≡ false
no_read (Idle a) none = refl
no_read (P1 k x) none = refl
no_read (P2 k t x) none = refl
no_read (P3 k t x) none = refl
no_read (P4 t x) none = refl
no_read (P5 t) none = refl
no_read (P6 t x) none = refl
no_read (F6 t x) none = refl
no_read (F7 t x) none = refl
no_read (F8 t x) none = absurd (none t read_f8)
no_read (F9 t old) none = refl
no_read O1 none = refl
no_read (O2 h) none = refl
no_read (O3 h) none = refl
no_read (O4 h) none = absurd (none h read_o4)
no_read (O5 h v) none = refl
no_read (O6 h) none = refl
no_read Len1 none = refl
no_read (Len2 t) none = refl
no_read (Len3 t h) none = refl
no_read Empty1 none = refl
no_read (Empty2 h) none = refl
no_read Full1 none = refl
no_read (Full2 t) none = refl
no_read Close1 none = refl
no_read IsClosed1 none = refl

-- ---- the workers that have yet to read

idle_read : (p : Place) → (view_of p).busy ≡ false → unread p ≡ false
idle_read p idle = ap unread (idle_is p idle).1

begin_read : (q : Call) → unread (begin_of q) ≡ false
begin_read (call.Push x) = refl
begin_read (call.ForcePush x) = refl
begin_read call.Pop = refl
begin_read call.Len = refl
begin_read call.IsEmpty = refl
begin_read call.IsFull = refl
begin_read call.Close = refl
begin_read call.IsClosed = refl

-- one of them moves
set_read : (ws : List Worker) (w : ℕ) (r : Worker) → w < length ws
    → unread_by (set ws w r) + one (unread (place_of ws w)) ≡ unread_by ws + one (unread r.place)
unfolding unread_by
set_read [] w r l = absurd (omega arith)
set_read (x ∷ ws) zero r l = omega arith
set_read (x ∷ ws) (suc w) r l = omega (arith, set_read ws w r (omega arith))

-- each is one of the sum
part_read : (ws : List Worker) (w : ℕ) → one (unread (place_of ws w)) ≤ unread_by ws
unfolding unread_by
part_read [] w = omega arith
part_read (x ∷ ws) zero = omega arith
part_read (x ∷ ws) (suc w) = omega (arith, part_read ws w)

none_read : (ws : List Worker) → ((w : ℕ) → unread (place_of ws w) ≡ false) → unread_by ws ≡ 0
unfolding unread_by
none_read [] none = refl
none_read (x ∷ ws) none = omega (arith, ap one (none 0), none_read ws (λ w. none (suc w)))

idlers_read : (n : ℕ) → unread_by (replicate n idler) ≡ 0
unfolding unread_by
idlers_read zero = refl
idlers_read (suc n) = omega (arith, idlers_read n)

-- one of them made idle
less_one : (ws : List Worker) (v : ℕ) → unread_by ws ≤ unread_by (set ws v idler) + 1
unfolding unread_by
less_one [] v = omega arith
less_one (x ∷ ws) zero = either (λ (k : ℕ). k + unread_by ws ≤ 0 + unread_by ws + 1) (unread x.place) 1 0 (λ z. omega arith) (λ z. omega arith)
less_one (x ∷ ws) (suc v) = omega (arith, less_one ws v)

others_read : (ws : List Worker) (v w : ℕ) → unread (place_of (set ws v idler) w) ≡ true → (w ≢ v) × (unread (place_of ws w) ≡ true)
others_read [] v w e = absurd (true≢false (sym e))
others_read (x ∷ ws) zero zero e = absurd (true≢false (sym e))
others_read (x ∷ ws) zero (suc w) e = (λ q. omega arith, e)
others_read (x ∷ ws) (suc v) zero e = (λ q. omega arith, e)
others_read (x ∷ ws) (suc v) (suc w) e = let o = others_read ws v w e in (λ q. o.0 (omega arith), o.1)

-- where each has one of n things of its own there are no more than n
few_read : (n : ℕ) (owner : ℕ → ℕ) (ws : List Worker) → ((w : ℕ) → unread (place_of ws w) ≡ true → (i : ℕ) × (i < n) × (owner i ≡ w)) → unread_by ws ≤ n
few_read zero owner ws own = omega (arith, none_read ws (λ w. go w (unread (place_of ws w)) refl))
  where
    go : (w : ℕ) (b : Bool) → unread (place_of ws w) ≡ b → b ≡ false
    go w true e = absurd (let o = own w e in omega (arith, o.1))
    go w false e = refl
few_read (suc n) owner ws own = omega (arith, less_one ws (owner n), few_read n owner (set ws (owner n) idler) rest)
  where
    rest : (w : ℕ) → unread (place_of (set ws (owner n) idler) w) ≡ true → (i : ℕ) × (i < n) × (owner i ≡ w)
    rest w e =
        let o = others_read ws (owner n) w e in
        let q = own w o.1 in
        let other : q.0 ≢ n = λ z. o.0 (sym q.2 ∙ ap owner z) in
        (q.0, omega (arith, q.1), q.2)

-- the slot in the hand of each
module _ (c n : ℕ) (some : 0 < c) (s : Shared) (w : ℕ) where
  unread_owns : (a : Age) (p : Place) → unread p ≡ true → Stands c (mark_of c) n s w a (look c p) → (i : ℕ) × (i < c) × Mine w (s.cell i)
  unread_owns a (Idle x) e o = absurd (true≢false (sym e))
  unread_owns a (P1 k x) e o = absurd (true≢false (sym e))
  unread_owns a (P2 k t x) e o = absurd (true≢false (sym e))
  unread_owns a (P3 k t x) e o = absurd (true≢false (sym e))
  unread_owns a (P4 t x) e o = absurd (true≢false (sym e))
  unread_owns a (P5 t) e o = absurd (true≢false (sym e))
  unread_owns a (P6 t x) e o = absurd (true≢false (sym e))
  unread_owns a (F6 t x) e o = absurd (true≢false (sym e))
  unread_owns a (F7 t x) e o = (o.0 % c, mod-lt o.0 some, subst (Mine w) (sym o.2.0) refl)
  unread_owns a (F8 t x) e o = (o.0 % c, mod-lt o.0 some, subst (Mine w) (sym o.2.0.0) refl)
  unread_owns a (F9 t old) e o = absurd (true≢false (sym e))
  unread_owns a O1 e o = absurd (true≢false (sym e))
  unread_owns a (O2 h) e o = absurd (true≢false (sym e))
  unread_owns a (O3 h) e o = absurd (true≢false (sym e))
  unread_owns a (O4 h) e o = (o.0 % c, mod-lt o.0 some, subst (Mine w) (sym o.2.0) refl)
  unread_owns a (O5 h v) e o = absurd (true≢false (sym e))
  unread_owns a (O6 h) e o = absurd (true≢false (sym e))
  unread_owns a Len1 e o = absurd (true≢false (sym e))
  unread_owns a (Len2 t) e o = absurd (true≢false (sym e))
  unread_owns a (Len3 t h) e o = absurd (true≢false (sym e))
  unread_owns a Empty1 e o = absurd (true≢false (sym e))
  unread_owns a (Empty2 h) e o = absurd (true≢false (sym e))
  unread_owns a Full1 e o = absurd (true≢false (sym e))
  unread_owns a (Full2 t) e o = absurd (true≢false (sym e))
  unread_owns a Close1 e o = absurd (true≢false (sym e))
  unread_owns a IsClosed1 e o = absurd (true≢false (sym e))

abbrev owner_of : Cell → ℕ
owner_of (Await k) = 0
owner_of (Hold k) = 0
owner_of (Hand st k w) = w

mine_owner : (w : ℕ) (x : Cell) → Mine w x → owner_of x ≡ w
mine_owner w (Hand st k v) e = e
mine_owner w (Await _) e = elim e [ ]
mine_owner w (Hold _) e = elim e [ ]

-- ---- along a history

module _ (bits : Width) (c n workers : ℕ) (base : Base bits c n workers) where
  record Shelved (m : Machine) (h : List Event) : Type 0 where
    pub behind : Reached c n workers m h
    pub balance : (tally h).head.0 ≡ (tally h).reads + unread_by m.workers
    pub rises : StockRises stock h
    pub falls : StockFalls stock h
    pub stays : StockStays stock h

  heads_tails : (m : Machine) (h : List Event) → Reached c n workers m h → (tally h).head.0 ≤ (tally h).tail.0
  heads_tails m h r =
      omega (arith, tally_tail h, tally_head h, r.logged.lists.tailers_are.long, r.logged.lists.takers_are.long, r.pictured.inv.low)

  begun_read : (m : Machine) (w : ℕ) (q : Call) → w < length m.workers → (view_of (stood m w)).busy ≡ false → unread_by (begun m w (begin_of q)).workers ≡ unread_by m.workers
  unfolding begun
  begun_read m w q l idle = omega (arith, set_read m.workers w (beginner (begin_of q)) l, ap one (idle_read (stood m w) idle), ap one (begin_read q))

  module _ (m : Machine) (h : List Event) (o : Shelved m h) (w : ℕ) (lose : Bool) (l : w < m.count) (busy : (view_of (stood m w)).busy ≡ true) where
    abbrev pic : Pictured c n workers o.behind.ring m
    pic = o.behind.pictured

    abbrev next : Machine
    next = acted bits m w (stood m w) lose

    abbrev new : Event
    new = event_of bits m w lose next

    seat : w < length m.workers
    seat = omega (arith, pic.workers_long, few_workers m pic.unbroken)

    went : stood next w ≡ (result bits c n workers base o.behind.ring m pic w l lose busy).place
    went = acted_stood bits c n workers base o.behind.ring m pic w l lose busy

    kept : Kept (stood m w) (stood next w)
    kept = subst (Kept (stood m w)) (sym went) (act_kept bits (fixed_on m.ring) (ends_on m.ring) _ (stood m w) lose)

    set_there : unread_by next.workers + one (unread (stood m w)) ≡ unread_by m.workers + one (unread (result bits c n workers base o.behind.ring m pic w l lose busy).place)
    unfolding acted_by stored record_after
    set_there = set_read m.workers w (new_record bits c n workers base o.behind.ring m pic w l lose busy) seat

    moved_read : unread_by next.workers + one (unread (stood m w)) ≡ unread_by m.workers + one (unread (stood next w))
    moved_read = subst (λ (q : Place). unread_by next.workers + one (unread (stood m w)) ≡ unread_by m.workers + one (unread q)) (sym went) set_there

    -- the tally with one act more
    abbrev t : Tally
    t = tally h

    abbrev u : Tally
    u = tally (h ++ new ∷ [])

    tail_up : u.tail.0 ≡ t.tail.0 + tails (moved_of (stood next w))
    tail_up = ap (λ (z : Tally). z.tail.0) (tally_end h new untallied) ∙ (by_act (reads_at (stood m w)) (moved_of (stood next w)) t 0).0

    head_up : u.head.0 ≡ t.head.0 + heads (moved_of (stood next w))
    head_up = ap (λ (z : Tally). z.head.0) (tally_end h new untallied) ∙ (by_act (reads_at (stood m w)) (moved_of (stood next w)) t 0).1

    reads_up : u.reads ≡ t.reads + one (reads_at (stood m w))
    reads_up = ap (λ (z : Tally). z.reads) (tally_end h new untallied) ∙ (by_act (reads_at (stood m w)) (moved_of (stood next w)) t 0).2

    balance_next : u.head.0 ≡ u.reads + unread_by next.workers
    balance_next = omega (arith, head_up, reads_up, moved_read, kept.0, o.balance)

    order : t.head.0 ≤ t.tail.0
    order = heads_tails m h o.behind

    rise : moved_of (stood next w) ≡ Tail → stock (h ++ new ∷ []) ≡ stock h + 1
    unfolding stock_of
    rise e = omega (arith, tail_up, reads_up, kept.1, ap tails e, o.balance, order)

    fall : (a : Stamp) → Reads (stood m w) a → stock h ≡ stock (h ++ new ∷ []) + 1
    unfolding stock_of
    fall a e =
        let x = reading (stood m w) a e in
        omega (arith, tail_up, reads_up, kept.1, ap one x.0, ap one x.1, part_read m.workers w, o.balance, order)

    stay_so : (moved_of (stood next w) ≡ Tail → ⊥) → ((a : Stamp) → Reads (stood m w) a → ⊥) → stock (h ++ new ∷ []) ≡ stock h
    unfolding stock_of
    stay_so none unread = omega (arith, tail_up, reads_up, no_tail (moved_of (stood next w)) none, ap one (no_read (stood m w) unread))

    rises_more : StockRises stock (h ++ new ∷ [])
    rises_more earlier later act z e = go (split_end h new earlier act later z)
      where
        go : Last h new earlier act later ⊎ Earlier h new earlier act later → stock (earlier ++ act ∷ []) ≡ stock earlier + 1
        go (inl q) = rw (q.whole, q.one) (rise (ap (λ (y : Event). moved_of y.after) (sym q.one) ∙ e))
        go (inr q) = o.rises earlier q.left act q.was e

    falls_more : StockFalls stock (h ++ new ∷ [])
    falls_more earlier later act a z e = go (split_end h new earlier act later z)
      where
        go : Last h new earlier act later ⊎ Earlier h new earlier act later → stock earlier ≡ stock (earlier ++ act ∷ []) + 1
        go (inl q) = rw (q.whole, q.one) (fall a (subst (λ (y : Event). Reads y.before a) q.one e))
        go (inr q) = o.falls earlier q.left act a q.was e

    stays_more : StockStays stock (h ++ new ∷ [])
    stays_more earlier later act z none unread = go (split_end h new earlier act later z)
      where
        go : Last h new earlier act later ⊎ Earlier h new earlier act later → stock (earlier ++ act ∷ []) ≡ stock earlier
        go (inl q) =
            rw (q.whole, q.one)
            (stay_so (λ e. none (ap (λ (y : Event). moved_of y.after) q.one ∙ e)) (λ a e. unread a (subst (λ (y : Event). Reads y.before a) (sym q.one) e)))
        go (inr q) = o.stays earlier q.left act q.was none unread

  shelved_kept : (m : Machine) (h : List Event) (en : Entry) (next_machine : Machine) (acts : List Event) → Shelved m h → InWidestWindow bits m h
      → Turned bits m en next_machine acts → Shelved next_machine (h ++ acts)
  shelved_kept m h en next_machine acts o window (began w q l idle) =
      let sits : w < length m.workers = omega (arith, o.behind.pictured.workers_long, few_workers m o.behind.pictured.unbroken) in
      record {
        behind = entered_in bits c n workers base m h en next_machine acts o.behind window (began w q l idle);
        balance = rw (append-nil h) (o.balance ∙ omega (arith, begun_read m w q sits idle));
        rises = rw (append-nil h) o.rises;
        falls = rw (append-nil h) o.falls;
        stays = rw (append-nil h) o.stays;
      }
  shelved_kept m h en next_machine acts o window (did w lose l busy early) =
      record {
        behind = entered_in bits c n workers base m h en next_machine acts o.behind window (did w lose l busy early);
        balance = balance_next m h o w lose l busy;
        rises = rises_more m h o w lose l busy;
        falls = falls_more m h o w lose l busy;
        stays = stays_more m h o w lose l busy;
      }

  -- ---- what follows of a machine so reached

  module _ (m : Machine) (h : List Event) (o : Shelved m h) where
    by_hands : stock h ≡ untaken_of (tally h) + unread_by m.workers
    unfolding stock_of untaken_of
    by_hands = omega (arith, o.balance, heads_tails m h o.behind)

    idle_none : all_idle m.workers ≡ true → unread_by m.workers ≡ 0
    idle_none idle = none_read m.workers (λ w. idle_read (stood m w) (idle_at m.workers idle w))

    owns : (w : ℕ) → unread (stood m w) ≡ true → (i : ℕ) × (i < c) × Mine w (o.behind.ring.cell i)
    owns w e = unread_owns c n base.ground.laws.some o.behind.ring w (o.behind.pictured.ages w) (stood m w) e (o.behind.pictured.stands w)

    -- no more than there are slots, and no more than there are workers
    few_slots : unread_by m.workers ≤ c
    few_slots =
        few_read c (λ i. owner_of (o.behind.ring.cell i)) m.workers
        (λ w e. let q = owns w e in (q.0, q.1, mine_owner w (o.behind.ring.cell q.0) q.2))

    few_unread : unread_by m.workers ≤ workers
    few_unread = few_read workers (λ i. i) m.workers (λ w e. (w, omega (arith, counted w e, o.behind.pictured.count), refl))
      where
        counted : (w : ℕ) → unread (stood m w) ≡ true → w < m.count
        counted w e =
            let q = owns w e in
            busy_counted c n workers o.behind.ring m o.behind.pictured w
            (hand_busy c (mark_of c) q.0 (stood m w) (o.behind.pictured.back q.0 q.1 w q.2))

    few_untaken : untaken_of (tally h) ≤ c
    unfolding untaken_of
    few_untaken =
        let r = o.behind in
        omega (arith, tally_tail h, tally_head h, r.logged.lists.tailers_are.long, r.logged.lists.takers_are.long, r.pictured.inv.high)

    stocked : Stocked stock c workers m h
    stocked =
        record {
          rises = o.rises;
          falls = o.falls;
          stays = o.stays;
          hands = by_hands;
          number =
              λ idle.
              let even : stock h ≡ untaken_of (tally h) = omega (arith, by_hands, idle_none idle) in
              (even ∙ contents_number bits c n workers base m h o.behind idle, even);
          most =
              either (λ (k : ℕ). stock h ≤ c + k) (leb c workers) c workers
              (λ z. omega (arith, by_hands, few_untaken, few_slots)) (λ z. omega (arith, by_hands, few_untaken, few_unread));
        }

fresh_read : (records capacity workers edition : ℕ) → unread_by (fresh_with records capacity workers edition).workers ≡ 0
unfolding fresh_with idlers
fresh_read records capacity workers edition = idlers_read records

pub stock_in : (bits : Width) (records capacity workers edition : ℕ) → AllowedWith records capacity workers edition → (s : List ℕ)
    → KeepsWidestWindow (with_records records bits) (fresh_with records capacity workers edition) [] s
    → Stocked stock capacity workers (machine_after (with_records records bits) capacity workers edition s) (acts_of (with_records records bits) capacity workers edition s)
unfolding tally_of
stock_in bits records capacity workers edition a s keeps =
    let n = laps_of bits capacity in
    let base = base_of bits records capacity workers edition a in
    stocked bits capacity n workers base (machine_after (with_records records bits) capacity workers edition s) (acts_of (with_records records bits) capacity workers edition s)
    (along bits (InWidestWindow bits) (Shelved bits capacity n workers base) (shelved_kept bits capacity n workers base) s (fresh_with records capacity workers edition) [] 0 keeps
    (record {
      behind = fresh_reached bits records capacity workers edition a;
      balance = omega (arith, fresh_read records capacity workers edition);
      rises = λ earlier later act e. absurd (nil_split earlier act later e);
      falls = λ earlier later act t e. absurd (nil_split earlier act later e);
      stays = λ earlier later act e. absurd (nil_split earlier act later e);
    }))

pub stock_stands : (records : ℕ) → StockUnderEverySchedule (with_records records SixtyFour) stock
stock_stands records capacity workers edition a s = stock_in SixtyFour records capacity workers edition a s (always records capacity workers edition a s)
