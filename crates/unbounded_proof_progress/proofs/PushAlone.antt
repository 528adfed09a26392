-- A push that alone is scheduled ends.
use Prim.Native.Nat.{ℕ, zero, suc, ◌+◌, ◌*◌, ◌<◌, ◌≤◌}
use mathlib.Core.Path.{◌≡◌, refl, sym, ap, ◌∙◌, subst}
use mathlib.Core.Bool.{Bool, true, false, cond, true≢false}
use mathlib.Core.List.{List, [], ◌∷◌}
use native.Mathlib.Omega.{arith}
use native.Mathlib.Decide.{dec_lt}
use lib.ListN.{get_or, set}
use Rattle.queue_entries.specs.Limits.{meter_most}
use Rattle.queue_entries.specs.Entries.{entry_of}
use Rattle.queue_entries.proofs.Pick as pick
use Rattle.queue_schedules.proofs.Alone.{Stepped, ends_by}
use Rattle.unbounded_words.specs.declared.Index.{Index}
use Rattle.unbounded_words.specs.Words.{sizes, none_of, last_slot, marked_of, same}
use Rattle.unbounded_places.specs.declared.Slot.{Slot}
use Rattle.unbounded_places.specs.declared.Block.{Block}
use Rattle.unbounded_places.specs.declared.Ends.{Ends}
use Rattle.unbounded_places.specs.declared.Worker.{Worker}
use Rattle.unbounded_places.specs.declared.Place.{Place}
use Rattle.unbounded_places.specs.declared.Place.TheVariants.{Idle, U1, U2, U3, U4, U5, U6, U7, U8, U9, U10, U11, U12, U13, U14, U15, V1, V2, V3, V4, V5, V6}
use Rattle.unbounded_places.specs.declared.Place.TheVariants.{V7, V8, V9, V10, V11, V12, V13, V14, V15, Len1, Len2, Len3, Empty1, Empty2, Full1, Close1}
use Rattle.unbounded_places.specs.declared.Place.TheVariants.{IsClosed1}
use Rattle.unbounded_places.specs.Places.{view_of}
use Rattle.unbounded_acts.specs.Acts.{act_of}
use Rattle.unbounded_machine.specs.declared.Machine.{Machine}
use Rattle.unbounded_machine.specs.declared.Did.{Did}
use Rattle.unbounded_machine.specs.declared.Event.{Event}
use Rattle.unbounded_machine.specs.Machine.{block_at, slot_at, accepted}
use Rattle.unbounded_machine.specs.Turn.{lowest_free, cleared, block_used, slot_used, stored, acted_at, moved_by, turn_with}
use Rattle.unbounded_machine.specs.History.{events_of}
use Rattle.unbounded_demands.proofs.Refusals.{unbounded_queue}
use Rattle.unbounded_demands.proofs.Blocks.{moves}
use Rattle.unbounded_demands.proofs.Pool.{lowest_first}
use Rattle.unbounded_demands.specs.Notions.{definition, Allowed, machine_after, acts_of}
use Rattle.unbounded_demands.specs.Waiting.{Crossing, push_most}
use Rattle.unbounded_demands.specs.Demands.{EndsAlone, PushesEndAlone}
use Rattle.unbounded_proof_words.proofs.Frames.{get_same, get_other}
use Rattle.unbounded_proof_demand2.proofs.Turns.{stood, turned}
use Rattle.unbounded_proof_demand2.proofs.Reached.{Reached, turned_reached}
use Rattle.unbounded_proof_demand2.proofs.Demand2.{unbroken}
use Rattle.unbounded_proof_pool.proofs.Aside.{AllFine, turned_fine}
use Rattle.unbounded_proof_pool.proofs.Pool.{both_reached}
use Rattle.unbounded_proof_progress.proofs.Refused.{act_here}
use Rattle.unbounded_proof_progress.proofs.PushEnds.{recorded}
use Rattle.unbounded_proof_progress.proofs.PopAlone.{busy_where, idle_refused}
use Rattle.unbounded_proof_progress.proofs.PushRank.{push_rank, push_needs, one, top, three, four, five, six, claim, falls}

one_most : (c n : Bool) → (0 < one c n) × (one c n ≤ 9)
one_most true true = (omega arith, omega arith)
one_most true false = (omega arith, omega arith)
one_most false true = (omega arith, omega arith)
one_most false false = (omega arith, omega arith)

top_most : (c s n : Bool) → (0 < top c s n) × (top c s n ≤ 10)
top_most true true true = (omega arith, omega arith)
top_most true true false = (omega arith, omega arith)
top_most true false true = (omega arith, omega arith)
top_most true false false = (omega arith, omega arith)
top_most false true true = (omega arith, omega arith)
top_most false true false = (omega arith, omega arith)
top_most false false true = (omega arith, omega arith)
top_most false false false = (omega arith, omega arith)

three_most : (c s : Bool) → (0 < three c s) × (three c s ≤ 9)
three_most true true = (omega arith, omega arith)
three_most true false = (omega arith, omega arith)
three_most false true = (omega arith, omega arith)
three_most false false = (omega arith, omega arith)

four_most : (c k : Bool) → (0 < four c k) × (four c k ≤ 10)
four_most true true = (omega arith, omega arith)
four_most true false = (omega arith, omega arith)
four_most false true = (omega arith, omega arith)
four_most false false = (omega arith, omega arith)

five_most : (c k : Bool) → (0 < five c k) × (five c k ≤ 9)
five_most true true = (omega arith, omega arith)
five_most true false = (omega arith, omega arith)
five_most false true = (omega arith, omega arith)
five_most false false = (omega arith, omega arith)

six_most : (c s : Bool) → (0 < six c s) × (six c s ≤ 10)
six_most true true = (omega arith, omega arith)
six_most true false = (omega arith, omega arith)
six_most false true = (omega arith, omega arith)
six_most false false = (omega arith, omega arith)

claim_most : (c s l n : Bool) → (0 < claim c s l n) × (claim c s l n ≤ 9)
claim_most true true true true = (omega arith, omega arith)
claim_most true true true false = (omega arith, omega arith)
claim_most true true false true = (omega arith, omega arith)
claim_most true true false false = (omega arith, omega arith)
claim_most true false true true = (omega arith, omega arith)
claim_most true false true false = (omega arith, omega arith)
claim_most true false false true = (omega arith, omega arith)
claim_most true false false false = (omega arith, omega arith)
claim_most false true true true = (omega arith, omega arith)
claim_most false true true false = (omega arith, omega arith)
claim_most false true false true = (omega arith, omega arith)
claim_most false true false false = (omega arith, omega arith)
claim_most false false true true = (omega arith, omega arith)
claim_most false false true false = (omega arith, omega arith)
claim_most false false false true = (omega arith, omega arith)
claim_most false false false false = (omega arith, omega arith)

twelve_most : (n : Bool) → (0 < cond n 2 3) × (cond n 2 3 ≤ 3)
twelve_most true = (omega arith, omega arith)
twelve_most false = (omega arith, omega arith)

thirteen_most : (n : Bool) → (0 < cond n 1 2) × (cond n 1 2 ≤ 2)
thirteen_most true = (omega arith, omega arith)
thirteen_most false = (omega arith, omega arith)

-- ---- the rank, at any place
rank_some : (e : Ends) (p : Place) → (view_of sizes p).busy ≡ true → 0 < push_rank e p
rank_some e (Idle a) z = absurd (true≢false (sym z))
rank_some e (U1 n x) z = (one_most (marked_of e.tail) (none_of n)).0
rank_some e (U2 n t x) z = (top_most (marked_of e.tail) (same e.tail t) (none_of n)).0
rank_some e (U3 t b x) z = (three_most (marked_of e.tail) (same e.tail t)).0
rank_some e (U4 n t x) z = (four_most (marked_of e.tail) (none_of e.back)).0
rank_some e (U5 n t new x) z = (five_most (marked_of e.tail) (none_of e.back)).0
rank_some e (U6 n t new x) z = (six_most (marked_of e.tail) (same e.tail t)).0
rank_some e (U7 n t b x) z = (claim_most (marked_of e.tail) (same e.tail t) (last_slot sizes t) (none_of n)).0
rank_some e (U8 n t x) z = (top_most (marked_of e.tail) (same e.tail t) (none_of n)).0
rank_some e (U9 n t b x) z = omega arith
rank_some e (U10 n t b x) z = omega arith
rank_some e (U11 n t b x) z = omega arith
rank_some e (U12 n t b x) z = (twelve_most (none_of n)).0
rank_some e (U13 n t b) z = (thirteen_most (none_of n)).0
rank_some e (U14 n a) z = omega arith
rank_some e (U15 n new x) z = omega arith
rank_some e V1 z = omega arith
rank_some e (V2 h) z = omega arith
rank_some e (V3 h b) z = omega arith
rank_some e (V4 h b new) z = omega arith
rank_some e (V5 h) z = omega arith
rank_some e (V6 h b new) z = omega arith
rank_some e (V7 h b new next) z = omega arith
rank_some e (V8 h b next i) z = omega arith
rank_some e (V9 h b i) z = omega arith
rank_some e (V10 h b) z = omega arith
rank_some e (V11 h b) z = omega arith
rank_some e (V12 h b v) z = omega arith
rank_some e (V13 b i v) z = omega arith
rank_some e (V14 b i v) z = omega arith
rank_some e (V15 b v) z = omega arith
rank_some e Len1 z = omega arith
rank_some e (Len2 t) z = omega arith
rank_some e (Len3 t h) z = omega arith
rank_some e Empty1 z = omega arith
rank_some e (Empty2 h) z = omega arith
rank_some e Full1 z = omega arith
rank_some e Close1 z = omega arith
rank_some e IsClosed1 z = omega arith

rank_most : (e : Ends) (p : Place) → 0 < push_most p → (push_rank e p ≤ push_most p) × (push_most p ≤ 10)
rank_most e (Idle a) z = absurd (omega arith)
rank_most e (U1 n x) z = ((one_most (marked_of e.tail) (none_of n)).1, omega arith)
rank_most e (U2 n t x) z = ((top_most (marked_of e.tail) (same e.tail t) (none_of n)).1, omega arith)
rank_most e (U3 t b x) z = ((three_most (marked_of e.tail) (same e.tail t)).1, omega arith)
rank_most e (U4 n t x) z = ((four_most (marked_of e.tail) (none_of e.back)).1, omega arith)
rank_most e (U5 n t new x) z = ((five_most (marked_of e.tail) (none_of e.back)).1, omega arith)
rank_most e (U6 n t new x) z = ((six_most (marked_of e.tail) (same e.tail t)).1, omega arith)
rank_most e (U7 n t b x) z = ((claim_most (marked_of e.tail) (same e.tail t) (last_slot sizes t) (none_of n)).1, omega arith)
rank_most e (U8 n t x) z = ((top_most (marked_of e.tail) (same e.tail t) (none_of n)).1, omega arith)
rank_most e (U9 n t b x) z = (omega arith, omega arith)
rank_most e (U10 n t b x) z = (omega arith, omega arith)
rank_most e (U11 n t b x) z = (omega arith, omega arith)
rank_most e (U12 n t b x) z = ((twelve_most (none_of n)).1, omega arith)
rank_most e (U13 n t b) z = ((thirteen_most (none_of n)).1, omega arith)
rank_most e (U14 n a) z = (omega arith, omega arith)
rank_most e (U15 n new x) z = absurd (omega arith)
rank_most e V1 z = absurd (omega arith)
rank_most e (V2 h) z = absurd (omega arith)
rank_most e (V3 h b) z = absurd (omega arith)
rank_most e (V4 h b new) z = absurd (omega arith)
rank_most e (V5 h) z = absurd (omega arith)
rank_most e (V6 h b new) z = absurd (omega arith)
rank_most e (V7 h b new next) z = absurd (omega arith)
rank_most e (V8 h b next i) z = absurd (omega arith)
rank_most e (V9 h b i) z = absurd (omega arith)
rank_most e (V10 h b) z = absurd (omega arith)
rank_most e (V11 h b) z = absurd (omega arith)
rank_most e (V12 h b v) z = absurd (omega arith)
rank_most e (V13 b i v) z = absurd (omega arith)
rank_most e (V14 b i v) z = absurd (omega arith)
rank_most e (V15 b v) z = absurd (omega arith)
rank_most e Len1 z = absurd (omega arith)
rank_most e (Len2 t) z = absurd (omega arith)
rank_most e (Len3 t h) z = absurd (omega arith)
rank_most e Empty1 z = absurd (omega arith)
rank_most e (Empty2 h) z = absurd (omega arith)
rank_most e Full1 z = absurd (omega arith)
rank_most e Close1 z = absurd (omega arith)
rank_most e IsClosed1 z = absurd (omega arith)

-- whoever takes a block needs one
takes_needs : (e : Ends) (p : Place) → (view_of sizes p).takes ≡ true → push_needs e p ≡ true
takes_needs e (Idle a) z = absurd (true≢false (sym z))
takes_needs e (U1 n x) z = absurd (true≢false (sym z))
takes_needs e (U2 n t x) z = absurd (true≢false (sym z))
takes_needs e (U3 t b x) z = refl
takes_needs e (U4 n t x) z = refl
takes_needs e (U5 n t new x) z = absurd (true≢false (sym z))
takes_needs e (U6 n t new x) z = absurd (true≢false (sym z))
takes_needs e (U7 n t b x) z = absurd (true≢false (sym z))
takes_needs e (U8 n t x) z = absurd (true≢false (sym z))
takes_needs e (U9 n t b x) z = absurd (true≢false (sym z))
takes_needs e (U10 n t b x) z = absurd (true≢false (sym z))
takes_needs e (U11 n t b x) z = absurd (true≢false (sym z))
takes_needs e (U12 n t b x) z = absurd (true≢false (sym z))
takes_needs e (U13 n t b) z = absurd (true≢false (sym z))
takes_needs e (U14 n a) z = absurd (true≢false (sym z))
takes_needs e (U15 n new x) z = absurd (true≢false (sym z))
takes_needs e V1 z = absurd (true≢false (sym z))
takes_needs e (V2 h) z = absurd (true≢false (sym z))
takes_needs e (V3 h b) z = absurd (true≢false (sym z))
takes_needs e (V4 h b new) z = absurd (true≢false (sym z))
takes_needs e (V5 h) z = absurd (true≢false (sym z))
takes_needs e (V6 h b new) z = absurd (true≢false (sym z))
takes_needs e (V7 h b new next) z = absurd (true≢false (sym z))
takes_needs e (V8 h b next i) z = absurd (true≢false (sym z))
takes_needs e (V9 h b i) z = absurd (true≢false (sym z))
takes_needs e (V10 h b) z = absurd (true≢false (sym z))
takes_needs e (V11 h b) z = absurd (true≢false (sym z))
takes_needs e (V12 h b v) z = absurd (true≢false (sym z))
takes_needs e (V13 b i v) z = absurd (true≢false (sym z))
takes_needs e (V14 b i v) z = absurd (true≢false (sym z))
takes_needs e (V15 b v) z = absurd (true≢false (sym z))
takes_needs e Len1 z = absurd (true≢false (sym z))
takes_needs e (Len2 t) z = absurd (true≢false (sym z))
takes_needs e (Len3 t h) z = absurd (true≢false (sym z))
takes_needs e Empty1 z = absurd (true≢false (sym z))
takes_needs e (Empty2 h) z = absurd (true≢false (sym z))
takes_needs e Full1 z = absurd (true≢false (sym z))
takes_needs e Close1 z = absurd (true≢false (sym z))
takes_needs e IsClosed1 z = absurd (true≢false (sym z))

set_self : {A : Type 0} (l : List A) (k : ℕ) (d : A) → set l k (get_or l k d) ≡ l
set_self [] k d = refl
set_self (x ∷ l) zero d = refl
set_self (x ∷ l) (suc k) d = ap (λ (r : List _). x ∷ r) (set_self l k d)

module _ (workers : ℕ) (allowed : Allowed workers) (w : ℕ) where
  abbrev busy : Machine → Bool
  busy m = (view_of sizes (stood m w)).busy

  abbrev rank : Machine → ℕ
  rank m = push_rank m.ends (stood m w)

  abbrev Alone : Machine → Type 0
  Alone m = (v : ℕ) (t : Index) → (v ≡ w → ⊥) → Crossing (stood m v) t → ⊥

  abbrev Supplied : Machine → Type 0
  Supplied m = push_needs m.ends (stood m w) ≡ true → lowest_free sizes m.blocks < 64

  abbrev Holds : ℕ → Machine → List Event → Type 0
  Holds n m h = Reached workers m h × AllFine m × Alone m × (m.meter + n ≤ meter_most) × (rank m ≤ 10) × Supplied m

  module _ (n : ℕ) (m : Machine) (h : List Event) (o : Holds (suc n) m h) (b : busy m ≡ true) where
    abbrev r : Reached workers m h
    r = o.0

    abbrev p : Place
    p = stood m w

    known : Dec (w < workers) → w < m.count
    known (yes l) = omega (arith, r.team)
    known (no l) = absurd (true≢false (sym b ∙ r.past w (omega arith)))

    moved : turn_with sizes act_of m (16 * w + 8) 0 ≡ moved_by sizes act_of m w p false
    moved = moves m w (16 * w + 8) 0 (unbroken workers allowed m h r) (record { asks = act_here w; known = known (dec_lt w workers); busy = b; in_time = omega (arith, o.3) })

    -- with what the act leaves of block k and of its slot i
    module _ (k i : ℕ) (l : List Slot) (is : turn_with sizes act_of m (16 * w + 8) 0 ≡ accepted (acted_at sizes act_of m w p false l k i)) where
      abbrev next : Machine
      next = acted_at sizes act_of m w p false l k i

      accepted_then : (turn_with sizes act_of m (16 * w + 8) 0).refusal ≡ 0
      unfolding accepted
      accepted_then = ap (λ (d : Did). d.refusal) is

      next_is : (turn_with sizes act_of m (16 * w + 8) 0).machine ≡ next
      unfolding accepted
      next_is = ap (λ (d : Did). d.machine) is

      down : (push_rank next.ends (stood next w) < rank m) × (push_needs next.ends (stood next w) ≡ true → (push_needs m.ends p ≡ true) × (next.blocks ≡ m.blocks))
      unfolding acted_at stored
      down =
          let s = r.sim.places w in
          let f = falls workers m h r w o.2 k (slot_at sizes l k i) p s.aside s.new s.seen s.at s.good.seen refl (o.1 w) o.4 b in
          subst (λ (x : Worker). (push_rank next.ends x.place < rank m) × (push_needs next.ends x.place ≡ true → (push_needs m.ends p ≡ true) × (next.blocks ≡ m.blocks)))
          (sym (get_same m.workers w _ _ (recorded m.workers w b)))
          (f.0, λ z. let g = f.1 z in (g.0, ap (set m.blocks k) g.1 ∙ set_self m.blocks k _))

      alone_still : Alone next
      unfolding acted_at stored
      alone_still v t ne held = o.2 v t ne (subst (λ (x : Worker). Crossing x.place t) (get_other m.workers w v _ _ ne) held)

      meter_next : next.meter ≡ m.meter + 1
      unfolding acted_at stored
      meter_next = refl

      stepped : Stepped unbounded_queue events_of w busy rank Holds n m h
      stepped =
          record {
            accepted = accepted_then;
            holds = (
              turned_reached workers allowed.worker_most m h r (entry_of (16 * w + 8) 0) _ (turned m (16 * w + 8) 0 accepted_then),
              turned_fine m r.queue r.sim o.1 (entry_of (16 * w + 8) 0) _ (turned m (16 * w + 8) 0 accepted_then) (λ v l. omega (arith, r.team, allowed.worker_most, r.sim.workers_long)),
              subst Alone (sym next_is) alone_still,
              omega (arith, o.3, ap (λ (x : Machine). x.meter) next_is, meter_next),
              omega (arith, o.4, falls_then),
              subst Supplied (sym next_is) (λ z. let g = down.1 z in subst (λ (y : List Block). lowest_free sizes y < 64) (sym g.1) (o.5 g.0)),
            );
            falls = falls_then;
          }
        where
          falls_then : rank (turn_with sizes act_of m (16 * w + 8) 0).machine < rank m
          falls_then = subst (λ (x : Machine). rank x < rank m) (sym next_is) down.0

    step : Stepped unbounded_queue events_of w busy rank Holds n m h
    unfolding moved_by
    step = go (view_of sizes p).takes refl
      where
        go : (t : Bool) → (view_of sizes p).takes ≡ t → Stepped unbounded_queue events_of w busy rank Holds n m h
        go false t =
            stepped (block_used (view_of sizes p).uses) (slot_used (view_of sizes p).uses) m.slots
            (moved ∙ sym (pick.no (view_of sizes p).takes false _ _ _ (sym t) refl refl))
        go true t =
            stepped (lowest_free sizes m.blocks) 0 (cleared sizes m.slots (lowest_free sizes m.blocks))
            (moved ∙ sym (pick.yes (view_of sizes p).takes true _ _ _ (sym t) refl (pick.below (lowest_free sizes m.blocks) 64 _ _ _ (o.5 (takes_needs m.ends p t)) refl)))

  alone_ends : (m : Machine) (h : List Event) → Reached workers m h → AllFine m → 0 < push_most (stood m w) → m.meter + push_most (stood m w) ≤ meter_most → Alone m
      → lowest_free sizes m.blocks < 64 → EndsAlone (definition sizes act_of) m w (push_most (stood m w))
  alone_ends m h r fine pushes time alone free =
      let f = rank_most m.ends (stood m w) pushes in
      let e = ends_by unbounded_queue events_of w busy rank Holds (idle_refused w) (λ x b. rank_some x.ends (stood x w) b) step
      (push_most (stood m w)) m h 0 (r, fine, alone, time, omega (arith, f.0, f.1), (λ z. free)) (busy_where push_most (λ i. refl) (stood m w) pushes) f.0 in
      record {
        before = e.before;
        within = e.within;
        accepted = e.accepted_all;
        busy = ap busy e.last_is ∙ e.busy_yet;
        idle = ap busy e.ends_at ∙ e.idle_then;
      }

-- a free block is found
found : (l : List Block) (k : ℕ) → k < 64 → (block_at l k).free ≡ true → lowest_free sizes l < 64
found l k small f = go (dec_lt (lowest_free sizes l) 64)
  where
    go : Dec (lowest_free sizes l < 64) → lowest_free sizes l < 64
    go (yes z) = z
    go (no z) = absurd (true≢false (sym f ∙ (lowest_first.none sizes l).0 (omega (arith, lowest_first.most sizes l)) k small))

pub pushes_end_alone : PushesEndAlone (definition sizes act_of)
pushes_end_alone workers a s w pushes time alone (k, small, free) =
    let b = both_reached workers a s in
    alone_ends workers a w (machine_after (definition sizes act_of) workers s) (acts_of (definition sizes act_of) workers s) b.0 b.1 pushes time alone
    (found (machine_after (definition sizes act_of) workers s).blocks k small free)
