-- One worker alone keeps the window under every schedule, however long: with the word that it holds a call claims at most once at either end.
use mathlib.Core.Path.{◌≡◌, refl, sym, ap, ◌∙◌, subst}
use mathlib.Core.Logic.{◌≢◌}
use mathlib.Core.Bool.{Bool, true, false, cond, true≢false}
use mathlib.Core.List.{List, [], ◌∷◌, ◌++◌}
use Prim.Native.Nat.{ℕ, ◌+◌, ◌*◌, ◌-◌, ◌≤◌, ◌<◌}
use native.Mathlib.Omega.{arith}
use native.Mathlib.Nat.{mul-le-mul_right}
use native.Mathlib.Decide.{ℕ_discrete}
use lib.ListN.{length, length-set}
use lib.Seq.{get_or-set_same, get_or-set_other}
use borrow.Author.Tests.{eq-eqb}
use Rattle.queue_entries.specs.Limits.{workers_most}
use Rattle.queue_entries.specs.declared.Call.{Call}
use Rattle.queue_entries.specs.declared.Call.TheVariants as call
use Rattle.queue_entries.specs.declared.Entry.{Entry}
use Rattle.bounded_words.specs.declared.Stamp.{Stamp}
use Rattle.bounded_words.specs.declared.Fixed.{Fixed}
use Rattle.bounded_words.specs.declared.Width.{Width}
use Rattle.bounded_words.specs.Words.{mark_of, marked_of, unmarked_of, minus, same, one_past, lap_behind, lap_behind_one_past, with_mark}
use Rattle.bounded_words.proofs.Marks.{narrow_least}
use Rattle.bounded_places.specs.declared.Slot.{Slot}
use Rattle.bounded_places.specs.declared.Ends.{Ends}
use Rattle.bounded_places.specs.declared.Kind.{Kind}
use Rattle.bounded_places.specs.declared.Kind.TheVariants.{Push, Force}
use Rattle.bounded_places.specs.declared.Answer.TheVariants.{Full, Closed, Empty, PopClosed, Len, Yes, No}
use Rattle.bounded_places.specs.declared.Exchange.{Exchange}
use Rattle.bounded_places.specs.declared.Place.{Place}
use Rattle.bounded_places.specs.declared.Place.TheVariants.{Idle, P1, P2, P3, P4, P5, P6, F6, F7, F8, F9, O1, O2, O3, O4, O5, O6, Len1, Len2, Len3, Empty1, Empty2, Full1, Full2, Close1, IsClosed1}
use Rattle.bounded_places.specs.declared.Worker.{Worker}
use Rattle.bounded_places.specs.Places.{view_of, begin_of}
use Rattle.bounded_acts.specs.declared.Acted.{Acted}
use Rattle.bounded_acts.specs.Acts.{goes, losing, after_tail, end_p3, end_f6, end_o3, tail_to, full_at, count_of, act_of}
use Rattle.bounded_machine.specs.declared.Machine.{Machine}
use Rattle.bounded_machine.specs.declared.Event.{Event}
use Rattle.bounded_machine.specs.Machine.{idler, fresh_with, fresh_of, fixed_on, ends_on}
use Rattle.bounded_machine.specs.Turn.{beginner, record_after, begun, acted, acted_by, stored, act_at}
use Rattle.bounded_machine.specs.History.{moved_of, tally_of}
use Rattle.bounded_machine.proofs.Kept.{either, exchanged}
use Rattle.bounded_demands.specs.Notions.{of_width, tally, Holding, NoWord, NewWord, OldWord, holding_at, holds, is_new, gives_to, since, turn_length}
use Rattle.bounded_demands.specs.Demands.{AloneKeeps}
use Rattle.bounded_proof_invariant.proofs.Ring.{Stage, Fill, Filled, Take, Grab, Swap, Swapped, taking, View, Tail, Head, Awaits, Holds, Forces, Rests, Owns, Keeps}
use Rattle.bounded_proof_each_act.proofs.Sight.{Look, Calm, Sees, Laps, Tails, Counts, look}
use Rattle.bounded_proof_each_act.proofs.Stamps.{fixed}
use Rattle.bounded_proof_demand2.proofs.Turns.{Turned, began, did, stood, event_of}
use Rattle.bounded_proof_demand2.proofs.Window.{tails, heads, since_end, tally_more, turn_is}
use Rattle.bounded_proof_demand2.proofs.Pictured.{idle_is}
use Rattle.bounded_proof_demand2.proofs.Reached.{laps_of, base_of, many, along_any, fresh_record, fresh_seats}

-- ---- one act, by the table

-- with the slot at this stage in its hand a call has claimed at tail; at head: `taking`
abbrev tailing : Stage → Bool
tailing Fill = true
tailing Filled = true
tailing Take = false
tailing Grab = false
tailing Swap = true
tailing Swapped = true

module _ (claimed : Stage → Bool) where
  abbrev claims_by : View → ℕ
  claims_by (Tail t) = 0
  claims_by (Head h) = 0
  claims_by (Awaits t) = 0
  claims_by (Holds h) = 0
  claims_by (Forces h) = 0
  claims_by (Rests h) = 0
  claims_by (Owns st k) = cond (claimed st) 1 0
  claims_by (Keeps st k a m) = cond (claimed st) 1 0

  abbrev claims_in : Look → ℕ
  claims_in (Calm a) = 0
  claims_in (Sees t v) = claims_by (v 0)
  claims_in (Laps t v) = claims_by (v 0)
  claims_in (Tails t) = 0
  claims_in (Counts t h) = 0

  one_by : (v : View) → claims_by v ≤ 1
  one_by (Tail t) = omega arith
  one_by (Head h) = omega arith
  one_by (Awaits t) = omega arith
  one_by (Holds h) = omega arith
  one_by (Forces h) = omega arith
  one_by (Rests h) = omega arith
  one_by (Owns st k) = either (λ (n : ℕ). n ≤ 1) (claimed st) 1 0 (λ b. omega arith) (λ b. omega arith)
  one_by (Keeps st k a m) = either (λ (n : ℕ). n ≤ 1) (claimed st) 1 0 (λ b. omega arith) (λ b. omega arith)

  one_in : (l : Look) → claims_in l ≤ 1
  one_in (Calm a) = omega arith
  one_in (Sees t v) = one_by (v 0)
  one_in (Laps t v) = one_by (v 0)
  one_in (Tails t) = omega arith
  one_in (Counts t h) = omega arith

-- the claims that a call has made with the word that it holds
abbrev pub tails_at : Place → ℕ
tails_at p = claims_in tailing (look 0 p)

abbrev pub heads_at : Place → ℕ
heads_at p = claims_in taking (look 0 p)

few_at : (p : Place) → (tails_at p ≤ 1) × (heads_at p ≤ 1)
few_at p = (one_in tailing (look 0 p), one_in taking (look 0 p))

-- from p an act leads to q: with a new word there are none, and an old one was held before
abbrev pub Follows : Holding → Place → Place → Type 0
Follows NoWord p q = Unit {0}
Follows NewWord p q = (tails_at q ≡ 0) × (heads_at q ≡ 0)
Follows OldWord p q = (holds (holding_at p) ≡ true) × (tails_at q ≡ tails_at p + tails (moved_of q)) × (heads_at q ≡ heads_at p + heads (moved_of q))

abbrev pub Leads : Place → Place → Type 0
Leads p q = Follows (holding_at q) p q

finds : (f : Fixed) (t : Stamp) (k : Kind) (x : ℕ) (p : Place) → Leads p (after_tail f k t x)
unfolding after_tail
finds f t k x p = either (Leads p) (marked_of f t) (Idle (Closed x)) (P2 k t x) (λ z. tt) (λ z. (refl, refl))

full_leads : (k j : Kind) (t : Stamp) (x : ℕ) → Leads (P2 j t x) (full_at k t x)
full_leads Push j t x = (refl, refl, refl)
full_leads Force j t x = (refl, refl, refl)

pub leads_on : (bits : Width) (f : Fixed) (e : Ends) (z : Slot) (p : Place) (lose : Bool) → (view_of p).busy ≡ true → Leads p (act_of bits f e z p lose).place
unfolding goes losing
leads_on bits f e z (Idle a) lose busy = tt
leads_on bits f e z (P1 k x) lose busy = finds f e.tail k x (P1 k x)
leads_on bits f e z (P2 k t x) lose busy =
    either (λ (y : Acted). Leads (P2 k t x) y.place) (same z.stamp t) (goes e z (P3 k t x)) (cond (lap_behind_one_past bits f z.stamp t) (goes e z (full_at k t x)) (goes e z (P1 k x)))
    (λ b. (refl, refl, refl))
    (λ b. either (λ (y : Acted). Leads (P2 k t x) y.place) (lap_behind_one_past bits f z.stamp t) (goes e z (full_at k t x)) (goes e z (P1 k x)) (λ d. full_leads k k t x) (λ d. tt))
leads_on bits f e z (P3 k t x) lose busy =
    exchanged (λ (y : Exchange). Leads (P3 k t x) (end_p3 bits f e z k t x y).place) e.tail t lose (λ b d. (refl, refl)) (λ b d. (refl, refl, refl)) (λ b. finds f e.tail k x (P3 k t x))
leads_on bits f e z (P4 t x) lose busy = (refl, refl, refl)
leads_on bits f e z (P5 t) lose busy = tt
leads_on bits f e z (P6 t x) lose busy =
    either (λ (y : Acted). Leads (P6 t x) y.place) (lap_behind bits f e.head t) (goes e z (Idle (Full x))) (goes e z (P1 Push x)) (λ b. tt) (λ b. tt)
leads_on bits f e z (F6 t x) lose busy =
    exchanged (λ (y : Exchange). Leads (F6 t x) (end_f6 bits f e z t x y).place) e.head (minus bits t f.lap) lose (λ b d. tt) (λ b d. (refl, refl, refl)) (λ b. tt)
leads_on bits f e z (F7 t x) lose busy = (refl, refl, refl)
leads_on bits f e z (F8 t x) lose busy = (refl, refl, refl)
leads_on bits f e z (F9 t old) lose busy = tt
leads_on bits f e z O1 lose busy = (refl, refl)
leads_on bits f e z (O2 h) lose busy =
    either (λ (y : Acted). Leads (O2 h) y.place) (one_past bits z.stamp h) (goes e z (O3 h)) (cond (same z.stamp h) (goes e z (O6 h)) (goes e z O1)) (λ b. (refl, refl, refl))
    (λ b. either (λ (y : Acted). Leads (O2 h) y.place) (same z.stamp h) (goes e z (O6 h)) (goes e z O1) (λ d. (refl, refl, refl)) (λ d. tt))
leads_on bits f e z (O3 h) lose busy =
    exchanged (λ (y : Exchange). Leads (O3 h) (end_o3 bits f e z h y).place) e.head h lose (λ b d. (refl, refl)) (λ b d. (refl, refl, refl)) (λ b. (refl, refl))
leads_on bits f e z (O4 h) lose busy = (refl, refl, refl)
leads_on bits f e z (O5 h v) lose busy = tt
leads_on bits f e z (O6 h) lose busy =
    either (λ (y : Acted). Leads (O6 h) y.place) (same (unmarked_of f e.tail) h) (cond (marked_of f e.tail) (goes e z (Idle PopClosed)) (goes e z (Idle Empty))) (goes e z O1)
    (λ b. either (λ (y : Acted). Leads (O6 h) y.place) (marked_of f e.tail) (goes e z (Idle PopClosed)) (goes e z (Idle Empty)) (λ d. tt) (λ d. tt)) (λ b. tt)
leads_on bits f e z Len1 lose busy = (refl, refl)
leads_on bits f e z (Len2 t) lose busy = (refl, refl, refl)
leads_on bits f e z (Len3 t h) lose busy =
    either (λ (y : Acted). Leads (Len3 t h) y.place) (same e.tail t) (goes e z (Idle (Len (count_of f t h)))) (goes e z Len1) (λ b. tt) (λ b. tt)
leads_on bits f e z Empty1 lose busy = (refl, refl)
leads_on bits f e z (Empty2 h) lose busy = tt
leads_on bits f e z Full1 lose busy = (refl, refl)
leads_on bits f e z (Full2 t) lose busy = tt
leads_on bits f e z Close1 lose busy =
    either (λ (y : Acted). Leads Close1 y.place) (marked_of f e.tail) (goes e z (Idle No)) (goes (tail_to e (with_mark bits f e.tail)) z (Idle Yes)) (λ b. tt) (λ b. tt)
leads_on bits f e z IsClosed1 lose busy = tt

pub begins_without : (q : Call) → holds (holding_at (begin_of q)) ≡ false
begins_without (call.Push x) = refl
begins_without (call.ForcePush x) = refl
begins_without call.Pop = refl
begins_without call.Len = refl
begins_without call.IsEmpty = refl
begins_without call.IsFull = refl
begins_without call.Close = refl
begins_without call.IsClosed = refl

-- ---- along a history

abbrev Made : Place → List Event → Type 0
Made p l = ((tally l).tail.0 ≡ tails_at p) × ((tally l).head.0 ≡ heads_at p)

-- the acts since a word was given, with one act more
made_more : (p q : Place) (l : List Event) (e : Event) → e.after ≡ q → Leads p q → (holds (holding_at p) ≡ true → Made p l) → (d : Holding) → d ≡ holding_at q → holds d ≡ true
    → Made q (cond (is_new d) [] (l ++ e ∷ []))
unfolding tally_of
made_more p q l e is lead made NoWord z held = absurd (true≢false (sym held))
made_more p q l e is lead made NewWord z held =
    let o : Follows NewWord p q = subst (λ (d : Holding). Follows d p q) (sym z) lead in
    (sym o.0, sym o.1)
made_more p q l e is lead made OldWord z held =
    let o : Follows OldWord p q = subst (λ (d : Holding). Follows d p q) (sym z) lead in
    let was = made o.0 in
    let more = tally_more l e in (
      omega (arith, more.0, was.0, o.1, ap (λ (r : Place). tails (moved_of r)) is),
      omega (arith, more.1, was.1, o.2, ap (λ (r : Place). heads (moved_of r)) is),
    )

record Lone (c : ℕ) (m : Machine) (h : List Event) : Type 0 where
  pub one : m.count ≡ 1
  pub seat : 0 < length m.workers
  pub rule : fixed_on m.ring ≡ fixed c (mark_of c) m.ring.edition
  pub others : (w : ℕ) → w ≢ 0 → (view_of (stood m w)).busy ≡ false
  pub own : holds (holding_at (stood m 0)) ≡ true → Made (stood m 0) (since 0 h)

module _ (bits : Width) (c : ℕ) (m : Machine) (h : List Event) (o : Lone c m h) where
  begun_lone : (w : ℕ) (q : Call) → w < m.count → Lone c (begun m w (begin_of q)) (h ++ [])
  unfolding begun
  begun_lone w q l =
      let z : w ≡ 0 = omega (arith, o.one) in
      let seat : w < length m.workers = omega (arith, o.seat) in
      let there : stood (begun m w (begin_of q)) 0 ≡ begin_of q = ap (λ (k : ℕ). stood (begun m w (begin_of q)) k) (sym z)
      ∙ ap (λ (r : Worker). r.place) (get_or-set_same m.workers w (beginner (begin_of q)) idler seat) in
      record {
        one = o.one;
        seat = omega (arith, o.seat, length-set m.workers w (beginner (begin_of q)));
        rule = o.rule;
        others = λ v ne. ap (λ (r : Worker). (view_of r.place).busy) (get_or-set_other m.workers w v (beginner (begin_of q)) idler (λ e. ne (e ∙ z))) ∙ o.others v ne;
        own = λ held. absurd (true≢false (sym held ∙ ap (λ (p : Place). holds (holding_at p)) there ∙ begins_without q));
      }

  module _ (w : ℕ) (lose : Bool) (l : w < m.count) (busy : (view_of (stood m w)).busy ≡ true) where
    abbrev next : Machine
    next = acted bits m w (stood m w) lose

    abbrev new : Event
    new = event_of bits m w lose (acted bits m w (stood m w) lose)

    abbrev q : Place
    q = (act_at (act_of bits) m (stood m w) lose).place

    zero_is : w ≡ 0
    zero_is = omega (arith, o.one)

    seat_is : w < length m.workers
    seat_is = omega (arith, o.seat, zero_is)

    went : stood next w ≡ q
    unfolding acted_by stored record_after
    went = ap (λ (y : Worker). y.place) (get_or-set_same m.workers w _ idler seat_is)

    long : length next.workers ≡ length m.workers
    unfolding acted_by stored
    long = length-set m.workers w _

    else_stood : (v : ℕ) → v ≢ 0 → stood next v ≡ stood m v
    unfolding acted_by stored
    else_stood v ne = ap (λ (y : Worker). y.place) (get_or-set_other m.workers w v _ idler (λ e. ne (e ∙ zero_is)))

    made_now : holds (holding_at (stood next 0)) ≡ true → Made (stood next 0) (since 0 (h ++ new ∷ []))
    made_now held =
        let at : stood next 0 ≡ q = ap (stood next) (sym zero_is) ∙ went in
        let was : holds (holding_at (stood m w)) ≡ true → Made (stood m w) (since 0 h) = subst (λ (k : ℕ). holds (holding_at (stood m k)) ≡ true → Made (stood m k) (since 0 h)) (sym zero_is) o.own in
        let k : Made q (cond (is_new (holding_at q)) [] (since 0 h ++ new ∷ [])) =
        made_more (stood m w) q (since 0 h) new went (leads_on bits (fixed_on m.ring) (ends_on m.ring) _ (stood m w) lose busy) was (holding_at q) refl
        (ap (λ (p : Place). holds (holding_at p)) (sym at) ∙ held) in
        let own : gives_to 0 new ≡ is_new (holding_at q) = ap (λ (b : Bool). cond b (is_new (holding_at new.after)) false) (eq-eqb w 0 zero_is) ∙ ap (λ (p : Place). is_new (holding_at p)) went in
        let z : since 0 (h ++ new ∷ []) ≡ cond (is_new (holding_at q)) [] (since 0 h ++ new ∷ []) = since_end 0 [] h new ∙ ap (λ (b : Bool). cond b [] (since 0 h ++ new ∷ [])) own in
        subst (λ (p : Place). Made p (since 0 (h ++ new ∷ []))) (sym at) (subst (Made q) (sym z) k)

    acted_lone : Lone c next (h ++ new ∷ [])
    unfolding acted_by stored
    acted_lone =
        record {
          one = o.one;
          seat = omega (arith, o.seat, long);
          rule = o.rule;
          others = λ v ne. ap (λ (p : Place). (view_of p).busy) (else_stood v ne) ∙ o.others v ne;
          own = made_now;
        }

lone_kept : (bits : Width) (c : ℕ) (m : Machine) (h : List Event) (en : Entry) (next : Machine) (acts : List Event) → Lone c m h → Turned bits m en next acts → Lone c next (h ++ acts)
lone_kept bits c m h en next acts o (began w q l idle) = begun_lone bits c m h o w q l
lone_kept bits c m h en next acts o (did w lose l busy early) = acted_lone bits c m h o w lose l busy

fresh_lone : (c edition : ℕ) → Lone c (fresh_of c 1 edition) []
unfolding fresh_with
fresh_lone c edition =
    record {
      one = refl;
      seat = fresh_seats workers_most c 1 edition (omega arith) 0 (omega arith);
      rule = refl;
      others = λ w ne. ap (λ (r : Worker). (view_of r.place).busy) (fresh_record workers_most c 1 edition w);
      own = λ held. absurd (true≢false (sym held ∙ ap (λ (r : Worker). holds (holding_at r.place)) (fresh_record workers_most c 1 edition 0)));
    }

pub alone_keeps : (bits : Width) → AloneKeeps (of_width bits)
alone_keeps bits capacity edition a s before after e w held = go (ℕ_discrete w 0)
  where
    m : Machine
    m = ((of_width bits).run (fresh_of capacity 1 edition) 0 before).machine

    h : List Event
    h = (of_width bits).history (fresh_of capacity 1 edition) before

    o : Lone capacity m h
    o = along_any bits (Lone capacity) (lone_kept bits capacity) before (fresh_of capacity 1 edition) [] 0 (fresh_lone capacity edition)

    n : ℕ
    n = laps_of bits capacity

    Small : Fixed → Type 0
    Small f = ((tally (since w h)).tail.0 < turn_length bits f - 2 * f.capacity) × ((tally (since w h)).head.0 < turn_length bits f - 2 * f.capacity)

    go : Dec (w ≡ 0) → Small (fixed_on m.ring)
    go (yes z) =
        let made : Made (stood m w) (since w h) = subst (λ (k : ℕ). holds (holding_at (stood m k)) ≡ true → Made (stood m k) (since k h)) (sym z) o.own held in
        let few = few_at (stood m w) in
        let some : 1 ≤ capacity = a.slot_some in
        let laps : 4 ≤ laps_of bits capacity = many bits workers_most capacity 1 edition a 3 (omega (arith, narrow_least bits)) in
        let turn = turn_is bits capacity (mark_of capacity) (laps_of bits capacity) m.ring.edition (base_of bits workers_most capacity 1 edition a).ground in
        subst Small (sym o.rule)
        (omega (arith, made.0, few.0, turn, some, mul-le-mul_right capacity laps), omega (arith, made.1, few.1, turn, some, mul-le-mul_right capacity laps))
    go (no ne) =
        let i = idle_is (stood m w) (o.others w ne) in
        absurd (true≢false (sym held ∙ ap (λ (p : Place). holds (holding_at p)) i.1))
