-- A pop that alone is scheduled ends.
use Prim.Native.Nat.{ℕ, suc, ◌+◌, ◌*◌, ◌-◌, ◌<◌, ◌≤◌}
use mathlib.Core.Path.{◌≡◌, refl, sym, ap, ◌∙◌, subst}
use mathlib.Core.Bool.{Bool, true, false, cond, true≢false}
use mathlib.Core.List.{List}
use native.Mathlib.Omega.{arith}
use native.Mathlib.Decide.{dec_lt}
use Rattle.queue_entries.specs.Limits.{meter_most}
use Rattle.queue_entries.specs.declared.Order.TheVariants.{Act}
use Rattle.queue_entries.specs.declared.Entry.{Entry}
use Rattle.queue_entries.specs.declared.Entry.TheVariants.{Asks}
use Rattle.queue_entries.specs.Entries.{entry_of}
use Rattle.queue_entries.proofs.Pick as pick
use Rattle.queue_schedules.proofs.Alone.{act_entry, Stepped, ends_by}
use Rattle.unbounded_words.specs.Words.{sizes, none_of, same_position, same}
use Rattle.unbounded_words.specs.Words as words
use Rattle.unbounded_places.specs.declared.Slot.{Slot}
use Rattle.unbounded_places.specs.declared.Ends.{Ends}
use Rattle.unbounded_places.specs.declared.Worker.{Worker}
use Rattle.unbounded_places.specs.declared.Answer.{Answer}
use Rattle.unbounded_places.specs.declared.Place.{Place}
use Rattle.unbounded_places.specs.declared.Place.TheVariants.{Idle, U1, U2, U3, U4, U5, U6, U7, U8, U9, U10, U11, U12, U13, U14, U15, V1, V2, V3, V4, V5, V6}
use Rattle.unbounded_places.specs.declared.Place.TheVariants.{V7, V8, V9, V10, V11, V12, V13, V14, V15, Len1, Len2, Len3, Empty1, Empty2, Full1, Close1}
use Rattle.unbounded_places.specs.declared.Place.TheVariants.{IsClosed1}
use Rattle.unbounded_places.specs.Places.{view_of}
use Rattle.unbounded_acts.specs.Acts.{has, READ, act_of}
use Rattle.unbounded_machine.specs.declared.Machine.{Machine}
use Rattle.unbounded_machine.specs.declared.Did.{Did}
use Rattle.unbounded_machine.specs.declared.Event.{Event}
use Rattle.unbounded_machine.specs.Machine.{slot_at, accepted}
use Rattle.unbounded_machine.specs.Turn.{stored, acted_at, used_by, moved_by, turn_with}
use Rattle.unbounded_machine.specs.History.{events_of}
use Rattle.unbounded_demands.proofs.Refusals.{unbounded_queue}
use Rattle.unbounded_demands.proofs.Blocks.{moves}
use Rattle.unbounded_demands.specs.Notions.{definition, Allowed, machine_after, acts_of}
use Rattle.unbounded_demands.specs.Waiting.{Holding, pop_most}
use Rattle.unbounded_demands.specs.Demands.{EndsAlone, PopsEndAlone}
use Rattle.unbounded_proof_invariant.proofs.Queue.{Ptr}
use Rattle.unbounded_proof_invariant.proofs.Views.{Seen}
use Rattle.unbounded_proof_words.proofs.Stands.{Stands, idle, u1, u2, u3, u4, u5, u6, u7, u8, u9, u10, u11, u12, u13, u14, u15, v1, v2, v3, v4, v5, v6, v7, v8}
use Rattle.unbounded_proof_words.proofs.Stands.{v9, v10, v11, v12, v13, v14, v15, len1, len2, len3, empty1, empty2, full1, close1, closed1}
use Rattle.unbounded_proof_words.proofs.Frames.{get_same, get_other}
use Rattle.unbounded_proof_demand2.proofs.Turns.{stood, Turned, began, used, took, turned}
use Rattle.unbounded_proof_demand2.proofs.Reached.{Reached, turned_reached}
use Rattle.unbounded_proof_demand2.proofs.Demand2.{reached, unbroken}
use Rattle.unbounded_proof_progress.proofs.Refused.{act_here}
use Rattle.unbounded_proof_progress.proofs.PushEnds.{recorded}
use Rattle.unbounded_proof_progress.proofs.PopRank.{rank_at, looked_some, falls}

-- ---- the rank, at any place
two : (a : Bool) (x y : ℕ) → 0 < x → 0 < y → 0 < cond a x y
two true x y k l = k
two false x y k l = l

rank_some : (e : Ends) (l : List Slot) (p : Place) → (view_of sizes p).busy ≡ true → 0 < rank_at e l p
rank_some e l (Idle a) z = absurd (true≢false (sym z))
rank_some e l (U1 n x) z = omega arith
rank_some e l (U2 n t x) z = omega arith
rank_some e l (U3 t b x) z = omega arith
rank_some e l (U4 n t x) z = omega arith
rank_some e l (U5 n t new x) z = omega arith
rank_some e l (U6 n t new x) z = omega arith
rank_some e l (U7 n t b x) z = omega arith
rank_some e l (U8 n t x) z = omega arith
rank_some e l (U9 n t b x) z = omega arith
rank_some e l (U10 n t b x) z = omega arith
rank_some e l (U11 n t b x) z = omega arith
rank_some e l (U12 n t b x) z = omega arith
rank_some e l (U13 n t b) z = omega arith
rank_some e l (U14 n a) z = omega arith
rank_some e l (U15 n new x) z = omega arith
rank_some e l V1 z = omega arith
rank_some e l (V2 h) z = two (same e.head h) 40 43 (omega arith) (omega arith)
rank_some e l (V3 h b) z = looked_some (same e.head h) (none_of b) (same_position h e.tail)
rank_some e l (V4 h b new) z = two (same e.head h) 38 41 (omega arith) (omega arith)
rank_some e l (V5 h) z = two (same e.head h) 40 43 (omega arith) (omega arith)
rank_some e l (V6 h b new) z = omega arith
rank_some e l (V7 h b new next) z = omega arith
rank_some e l (V8 h b next i) z = omega arith
rank_some e l (V9 h b i) z = omega arith
rank_some e l (V10 h b) z = omega arith
rank_some e l (V11 h b) z = omega arith
rank_some e l (V12 h b v) z = omega arith
rank_some e l (V13 b i v) z = omega arith
rank_some e l (V14 b i v) z = two (has READ (slot_at sizes l (words.number_of sizes b) i).state) (1 + (30 - i)) 1 (omega arith) (omega arith)
rank_some e l (V15 b v) z = omega arith
rank_some e l Len1 z = omega arith
rank_some e l (Len2 t) z = omega arith
rank_some e l (Len3 t h) z = omega arith
rank_some e l Empty1 z = omega arith
rank_some e l (Empty2 h) z = omega arith
rank_some e l Full1 z = omega arith
rank_some e l Close1 z = omega arith
rank_some e l IsClosed1 z = omega arith

-- no pop takes a block
none_taken : (e : Ends) (l : List Slot) (p : Place) → rank_at e l p ≤ 43 → (view_of sizes p).takes ≡ false
none_taken e l (Idle a) few = refl
none_taken e l (U1 n x) few = refl
none_taken e l (U2 n t x) few = refl
none_taken e l (U3 t b x) few = absurd (omega arith)
none_taken e l (U4 n t x) few = absurd (omega arith)
none_taken e l (U5 n t new x) few = refl
none_taken e l (U6 n t new x) few = refl
none_taken e l (U7 n t b x) few = refl
none_taken e l (U8 n t x) few = refl
none_taken e l (U9 n t b x) few = refl
none_taken e l (U10 n t b x) few = refl
none_taken e l (U11 n t b x) few = refl
none_taken e l (U12 n t b x) few = refl
none_taken e l (U13 n t b) few = refl
none_taken e l (U14 n a) few = refl
none_taken e l (U15 n new x) few = refl
none_taken e l V1 few = refl
none_taken e l (V2 h) few = refl
none_taken e l (V3 h b) few = refl
none_taken e l (V4 h b new) few = refl
none_taken e l (V5 h) few = refl
none_taken e l (V6 h b new) few = refl
none_taken e l (V7 h b new next) few = refl
none_taken e l (V8 h b next i) few = refl
none_taken e l (V9 h b i) few = refl
none_taken e l (V10 h b) few = refl
none_taken e l (V11 h b) few = refl
none_taken e l (V12 h b v) few = refl
none_taken e l (V13 b i v) few = refl
none_taken e l (V14 b i v) few = refl
none_taken e l (V15 b v) few = refl
none_taken e l Len1 few = refl
none_taken e l (Len2 t) few = refl
none_taken e l (Len3 t h) few = refl
none_taken e l Empty1 few = refl
none_taken e l (Empty2 h) few = refl
none_taken e l Full1 few = refl
none_taken e l Close1 few = refl
none_taken e l IsClosed1 few = refl

at_most : (a : Bool) (x y n : ℕ) → x ≤ n → y ≤ n → cond a x y ≤ n
at_most true x y n k l = k
at_most false x y n k l = l

looked_most : (a b c : Bool) → cond a (cond b (cond c 1 42) 39) 42 ≤ 42
looked_most true true true = omega arith
looked_most true true false = omega arith
looked_most true false c = omega arith
looked_most false b c = omega arith

rank_most : (e : Ends) (l : List Slot) (p : Place) (a n : Ptr) (x : Seen) → Stands p a n x → 0 < pop_most p → (rank_at e l p ≤ pop_most p) × (pop_most p ≤ 43)
rank_most e l p a n x idle z = absurd (omega arith)
rank_most e l p a n x (u1 en) z = absurd (omega arith)
rank_most e l p a n x (u2 en et) z = absurd (omega arith)
rank_most e l p a n x (u3 et ed last) z = absurd (omega arith)
rank_most e l p a n x (u4 en et) z = absurd (omega arith)
rank_most e l p a n x (u5 en et ed) z = absurd (omega arith)
rank_most e l p a n x (u6 en et ed) z = absurd (omega arith)
rank_most e l p a n x (u7 en et ed last) z = absurd (omega arith)
rank_most e l p a n x (u8 en et) z = absurd (omega arith)
rank_most e l p a n x (u9 en et ed) z = absurd (omega arith)
rank_most e l p a n x (u10 en et ed) z = absurd (omega arith)
rank_most e l p a n x (u11 en et ed) z = absurd (omega arith)
rank_most e l p a n x (u12 en et ed) z = absurd (omega arith)
rank_most e l p a n x (u13 en et ed) z = absurd (omega arith)
rank_most e l p a n x (u14 en ok) z = absurd (omega arith)
rank_most e l p a n x (u15 en ed) z = absurd (omega arith)
rank_most e l p a n x v1 z = (omega arith, omega arith)
rank_most e l p a n x (v2 {h = h} eh) z = (at_most (same e.head h) 40 43 43 (omega arith) (omega arith), omega arith)
rank_most e l p a n x (v3 {h = h} {d = d} eh ed) z = (looked_most (same e.head h) (none_of d) (same_position h e.tail), omega arith)
rank_most e l p a n x (v4 {h = h} m eh ed ew) z = (at_most (same e.head h) 38 41 41 (omega arith) (omega arith), omega arith)
rank_most e l p a n x (v5 {h = h} eh) z = (at_most (same e.head h) 40 43 43 (omega arith) (omega arith), omega arith)
rank_most e l p a n x (v6 m k eh ed ew) z = (omega arith, omega arith)
rank_most e l p a n x (v7 m k eh ed ew ec) z = (omega arith, omega arith)
rank_most e l p a n x (v8 m eh ed ec ew) z = (omega arith, omega arith)
rank_most e l p a n x (v9 m eh ed ew) z = (omega arith, omega arith)
rank_most e l p a n x (v10 m eh ed) z = (omega arith, omega arith)
rank_most e l p a n x (v11 m eh ed) z = (omega arith, omega arith)
rank_most e l p a n x (v12 m eh ed) z = (omega arith, omega arith)
rank_most e l p a n x (v13 ed small) z = (omega arith, omega arith)
rank_most e l p a n x (v14 {d = d} {i = i} ed small) z = (at_most (has READ (slot_at sizes l (words.number_of sizes d) i).state) (1 + (30 - i)) 1 (31 - i) (omega arith) (omega arith), omega arith)
rank_most e l p a n x (v15 ed) z = (omega arith, omega arith)
rank_most e l p a n x len1 z = absurd (omega arith)
rank_most e l p a n x len2 z = absurd (omega arith)
rank_most e l p a n x len3 z = absurd (omega arith)
rank_most e l p a n x empty1 z = absurd (omega arith)
rank_most e l p a n x empty2 z = absurd (omega arith)
rank_most e l p a n x full1 z = absurd (omega arith)
rank_most e l p a n x close1 z = absurd (omega arith)
rank_most e l p a n x closed1 z = absurd (omega arith)

-- where a number of a place that is none of idle ones is some, the worker is busy
pub busy_where : (f : Place → ℕ) → ((a : Answer) → f (Idle a) ≡ 0) → (p : Place) → 0 < f p → (view_of sizes p).busy ≡ true
busy_where f none (Idle a) z = absurd (omega (arith, none a))
busy_where f none (U1 n x) z = refl
busy_where f none (U2 n t x) z = refl
busy_where f none (U3 t b x) z = refl
busy_where f none (U4 n t x) z = refl
busy_where f none (U5 n t new x) z = refl
busy_where f none (U6 n t new x) z = refl
busy_where f none (U7 n t b x) z = refl
busy_where f none (U8 n t x) z = refl
busy_where f none (U9 n t b x) z = refl
busy_where f none (U10 n t b x) z = refl
busy_where f none (U11 n t b x) z = refl
busy_where f none (U12 n t b x) z = refl
busy_where f none (U13 n t b) z = refl
busy_where f none (U14 n a) z = refl
busy_where f none (U15 n new x) z = refl
busy_where f none V1 z = refl
busy_where f none (V2 h) z = refl
busy_where f none (V3 h b) z = refl
busy_where f none (V4 h b new) z = refl
busy_where f none (V5 h) z = refl
busy_where f none (V6 h b new) z = refl
busy_where f none (V7 h b new next) z = refl
busy_where f none (V8 h b next i) z = refl
busy_where f none (V9 h b i) z = refl
busy_where f none (V10 h b) z = refl
busy_where f none (V11 h b) z = refl
busy_where f none (V12 h b v) z = refl
busy_where f none (V13 b i v) z = refl
busy_where f none (V14 b i v) z = refl
busy_where f none (V15 b v) z = refl
busy_where f none Len1 z = refl
busy_where f none (Len2 t) z = refl
busy_where f none (Len3 t h) z = refl
busy_where f none Empty1 z = refl
busy_where f none (Empty2 h) z = refl
busy_where f none Full1 z = refl
busy_where f none Close1 z = refl
busy_where f none IsClosed1 z = refl

-- an idle worker's act is refused
pub idle_refused : (w : ℕ) (m : Machine) → (view_of sizes (stood m w)).busy ≡ false → (turn_with sizes act_of m (16 * w + 8) 0).refusal ≡ 0 → ⊥
idle_refused w m z e = go (entry_of (16 * w + 8) 0) (turn_with sizes act_of m (16 * w + 8) 0).machine (turned m (16 * w + 8) 0 e) (act_entry w)
  where
    asks_one : (v : ℕ) (a b : Bool) → Asks v (Act a) ≡ Asks w (Act b) → v ≡ w
    asks_one v a b q = cc

    go : (x : Entry) (next : Machine) → Turned m x next → x ≡ Asks w (Act false) → ⊥
    go x next (began v c l b) q = let o : ◌≡◌ {A = ℕ} 0 1 = cc in omega arith
    go x next (used v a lose b t) q = true≢false (sym b.busy ∙ ap (λ (u : ℕ). (view_of sizes (stood m u)).busy) (asks_one v a false q) ∙ z)
    go x next (took v a lose b t l) q = true≢false (sym b.busy ∙ ap (λ (u : ℕ). (view_of sizes (stood m u)).busy) (asks_one v a false q) ∙ z)

module _ (workers : ℕ) (allowed : Allowed workers) (w : ℕ) where
  abbrev busy : Machine → Bool
  busy m = (view_of sizes (stood m w)).busy

  abbrev rank : Machine → ℕ
  rank m = rank_at m.ends m.slots (stood m w)

  abbrev Alone : Machine → Type 0
  Alone m = (v : ℕ) → (v ≡ w → ⊥) → Holding (stood m v) → ⊥

  abbrev Holds : ℕ → Machine → List Event → Type 0
  Holds n m h = Reached workers m h × Alone m × (m.meter + n ≤ meter_most) × (rank m ≤ 43)

  module _ (n : ℕ) (m : Machine) (h : List Event) (o : Holds (suc n) m h) (b : busy m ≡ true) where
    abbrev r : Reached workers m h
    r = o.0

    known : Dec (w < workers) → w < m.count
    known (yes l) = omega (arith, r.team)
    known (no l) = absurd (true≢false (sym b ∙ r.past w (omega arith)))

    turn_is : turn_with sizes act_of m (16 * w + 8) 0 ≡ accepted (used_by sizes act_of m w (stood m w) false)
    unfolding moved_by
    turn_is =
        moves m w (16 * w + 8) 0 (unbroken workers allowed m h r) (record { asks = act_here w; known = known (dec_lt w workers); busy = b; in_time = omega (arith, o.2) })
        ∙ sym (pick.no (view_of sizes (stood m w)).takes false (accepted (used_by sizes act_of m w (stood m w) false)) _ _ (sym (none_taken m.ends m.slots (stood m w) o.3)) refl refl)

    accepted_then : (turn_with sizes act_of m (16 * w + 8) 0).refusal ≡ 0
    unfolding accepted
    accepted_then = ap (λ (d : Did). d.refusal) turn_is

    next_is : (turn_with sizes act_of m (16 * w + 8) 0).machine ≡ used_by sizes act_of m w (stood m w) false
    unfolding accepted
    next_is = ap (λ (d : Did). d.machine) turn_is

    rank_falls : rank (used_by sizes act_of m w (stood m w) false) < rank m
    unfolding acted_at stored
    rank_falls =
        let s = r.sim.places w in
        let f = falls workers m h r w o.1 (stood m w) s.aside s.new s.seen s.at s.good.seen refl o.3 b in
        subst (λ (x : Worker). rank_at (used_by sizes act_of m w (stood m w) false).ends (used_by sizes act_of m w (stood m w) false).slots x.place < rank m)
        (sym (get_same m.workers w _ _ (recorded m.workers w b))) f

    alone_still : Alone (used_by sizes act_of m w (stood m w) false)
    unfolding acted_at stored
    alone_still v ne held = o.1 v ne (subst (λ (x : Worker). Holding x.place) (get_other m.workers w v _ _ ne) held)

    meter_next : (used_by sizes act_of m w (stood m w) false).meter ≡ m.meter + 1
    unfolding acted_at stored
    meter_next = refl

    stepped : Stepped unbounded_queue events_of w busy rank Holds n m h
    stepped =
        record {
          accepted = accepted_then;
          holds = (
            turned_reached workers allowed.worker_most m h r (entry_of (16 * w + 8) 0) _ (turned m (16 * w + 8) 0 accepted_then),
            subst Alone (sym next_is) alone_still,
            omega (arith, o.2, ap (λ (x : Machine). x.meter) next_is, meter_next),
            omega (arith, o.3, falls_then),
          );
          falls = falls_then;
        }
      where
        falls_then : rank (turn_with sizes act_of m (16 * w + 8) 0).machine < rank m
        falls_then = subst (λ (x : Machine). rank x < rank m) (sym next_is) rank_falls

  alone_ends : (m : Machine) (h : List Event) → Reached workers m h → 0 < pop_most (stood m w) → m.meter + pop_most (stood m w) ≤ meter_most → Alone m
      → EndsAlone (definition sizes act_of) m w (pop_most (stood m w))
  alone_ends m h r pops time alone =
      let o = r.sim.places w in
      let f = rank_most m.ends m.slots (stood m w) o.aside o.new o.seen o.at pops in
      let e = ends_by unbounded_queue events_of w busy rank Holds (idle_refused w) (λ x b. rank_some x.ends x.slots (stood x w) b) stepped
      (pop_most (stood m w)) m h 0 (r, alone, time, omega (arith, f.0, f.1)) (busy_where pop_most (λ i. refl) (stood m w) pops) f.0 in
      record {
        before = e.before;
        within = e.within;
        accepted = e.accepted_all;
        busy = ap busy e.last_is ∙ e.busy_yet;
        idle = ap busy e.ends_at ∙ e.idle_then;
      }

pub pops_end_alone : PopsEndAlone (definition sizes act_of)
pops_end_alone workers a s w pops time alone =
    alone_ends workers a w (machine_after (definition sizes act_of) workers s) (acts_of (definition sizes act_of) workers s) (reached workers a s) pops time alone
