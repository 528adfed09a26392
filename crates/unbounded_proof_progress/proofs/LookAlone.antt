-- A len, is_empty, is_full, close or is_closed that alone is scheduled ends.
use Prim.Native.Nat.{ℕ, suc, ◌+◌, ◌*◌, ◌<◌, ◌≤◌}
use mathlib.Core.Path.{◌≡◌, refl, sym, ap, ◌∙◌, subst}
use mathlib.Core.Bool.{Bool, true, false, cond, true≢false}
use mathlib.Core.List.{List}
use native.Mathlib.Omega.{arith}
use native.Mathlib.Decide.{dec_lt}
use borrow.Author.Tests.{eq-eqb}
use Rattle.queue_entries.specs.Limits.{meter_most}
use Rattle.queue_entries.specs.Entries.{entry_of}
use Rattle.queue_entries.proofs.Pick as pick
use Rattle.queue_schedules.proofs.Schedules.{either}
use Rattle.queue_schedules.proofs.Alone.{Stepped, ends_by}
use Rattle.unbounded_words.specs.declared.Index.{Index}
use Rattle.unbounded_words.specs.Words.{sizes, marked_of, same}
use Rattle.unbounded_places.specs.declared.Slot.{Slot}
use Rattle.unbounded_places.specs.declared.Block.{Block}
use Rattle.unbounded_places.specs.declared.Ends.{Ends}
use Rattle.unbounded_places.specs.declared.Worker.{Worker}
use Rattle.unbounded_places.specs.declared.Place.{Place}
use Rattle.unbounded_places.specs.declared.Place.TheVariants.{Idle, U1, U2, U3, U4, U5, U6, U7, U8, U9, U10, U11, U12, U13, U14, U15, V1, V2, V3, V4, V5, V6}
use Rattle.unbounded_places.specs.declared.Place.TheVariants.{V7, V8, V9, V10, V11, V12, V13, V14, V15, Len1, Len2, Len3, Empty1, Empty2, Full1, Close1}
use Rattle.unbounded_places.specs.declared.Place.TheVariants.{IsClosed1}
use Rattle.unbounded_places.specs.Places.{view_of}
use Rattle.unbounded_acts.specs.declared.Acted.{Acted}
use Rattle.unbounded_acts.specs.Acts.{leave, act_of}
use Rattle.unbounded_machine.specs.declared.Machine.{Machine}
use Rattle.unbounded_machine.specs.declared.Did.{Did}
use Rattle.unbounded_machine.specs.declared.Event.{Event}
use Rattle.unbounded_machine.specs.Machine.{accepted}
use Rattle.unbounded_machine.specs.Turn.{stored, acted_at, used_by, moved_by, turn_with}
use Rattle.unbounded_machine.specs.History.{events_of}
use Rattle.unbounded_demands.proofs.Refusals.{unbounded_queue}
use Rattle.unbounded_demands.proofs.Blocks.{moves}
use Rattle.unbounded_demands.specs.Notions.{definition, Allowed, machine_after, acts_of}
use Rattle.unbounded_demands.specs.Waiting.{look_most}
use Rattle.unbounded_demands.specs.Demands.{EndsAlone, LooksEndAlone}
use Rattle.unbounded_proof_words.proofs.Frames.{get_same}
use Rattle.unbounded_proof_demand2.proofs.Turns.{stood, turned}
use Rattle.unbounded_proof_demand2.proofs.Reached.{Reached, turned_reached}
use Rattle.unbounded_proof_demand2.proofs.Demand2.{unbroken, reached}
use Rattle.unbounded_proof_progress.proofs.Refused.{act_here}
use Rattle.unbounded_proof_progress.proofs.PushEnds.{recorded}
use Rattle.unbounded_proof_progress.proofs.PopAlone.{busy_where, idle_refused}

-- The acts to the end, by the words: a len whose tail is old looks again. (Of no looker, 1 while it is busy.)
abbrev look_rank : Ends → Place → ℕ
look_rank e (Idle a) = 0
look_rank e (U1 n x) = 1
look_rank e (U2 n t x) = 1
look_rank e (U3 t b x) = 1
look_rank e (U4 n t x) = 1
look_rank e (U5 n t new x) = 1
look_rank e (U6 n t new x) = 1
look_rank e (U7 n t b x) = 1
look_rank e (U8 n t x) = 1
look_rank e (U9 n t b x) = 1
look_rank e (U10 n t b x) = 1
look_rank e (U11 n t b x) = 1
look_rank e (U12 n t b x) = 1
look_rank e (U13 n t b) = 1
look_rank e (U14 n a) = 1
look_rank e (U15 n new x) = 1
look_rank e V1 = 1
look_rank e (V2 h) = 1
look_rank e (V3 h b) = 1
look_rank e (V4 h b new) = 1
look_rank e (V5 h) = 1
look_rank e (V6 h b new) = 1
look_rank e (V7 h b new next) = 1
look_rank e (V8 h b next i) = 1
look_rank e (V9 h b i) = 1
look_rank e (V10 h b) = 1
look_rank e (V11 h b) = 1
look_rank e (V12 h b v) = 1
look_rank e (V13 b i v) = 1
look_rank e (V14 b i v) = 1
look_rank e (V15 b v) = 1
look_rank e Len1 = 3
look_rank e (Len2 t) = cond (same e.tail t) 2 5
look_rank e (Len3 t h) = cond (same e.tail t) 1 4
look_rank e Empty1 = 2
look_rank e (Empty2 h) = 1
look_rank e Full1 = 1
look_rank e Close1 = 1
look_rank e IsClosed1 = 1

two_five : (b : Bool) → (0 < cond b 2 5) × (cond b 2 5 ≤ 5)
two_five true = (omega arith, omega arith)
two_five false = (omega arith, omega arith)

one_four : (b : Bool) → (0 < cond b 1 4) × (cond b 1 4 ≤ 4)
one_four true = (omega arith, omega arith)
one_four false = (omega arith, omega arith)

rank_some : (e : Ends) (p : Place) → (view_of sizes p).busy ≡ true → 0 < look_rank e p
rank_some e (Idle a) z = absurd (true≢false (sym z))
rank_some e (U1 n x) z = omega arith
rank_some e (U2 n t x) z = omega arith
rank_some e (U3 t b x) z = omega arith
rank_some e (U4 n t x) z = omega arith
rank_some e (U5 n t new x) z = omega arith
rank_some e (U6 n t new x) z = omega arith
rank_some e (U7 n t b x) z = omega arith
rank_some e (U8 n t x) z = omega arith
rank_some e (U9 n t b x) z = omega arith
rank_some e (U10 n t b x) z = omega arith
rank_some e (U11 n t b x) z = omega arith
rank_some e (U12 n t b x) z = omega arith
rank_some e (U13 n t b) z = omega arith
rank_some e (U14 n a) z = omega arith
rank_some e (U15 n new x) z = omega arith
rank_some e V1 z = omega arith
rank_some e (V2 h) z = omega arith
rank_some e (V3 h b) z = omega arith
rank_some e (V4 h b new) z = omega arith
rank_some e (V5 h) z = omega arith
rank_some e (V6 h b new) z = omega arith
rank_some e (V7 h b new next) z = omega arith
rank_some e (V8 h b next i) z = omega arith
rank_some e (V9 h b i) z = omega arith
rank_some e (V10 h b) z = omega arith
rank_some e (V11 h b) z = omega arith
rank_some e (V12 h b v) z = omega arith
rank_some e (V13 b i v) z = omega arith
rank_some e (V14 b i v) z = omega arith
rank_some e (V15 b v) z = omega arith
rank_some e Len1 z = omega arith
rank_some e (Len2 t) z = (two_five (same e.tail t)).0
rank_some e (Len3 t h) z = (one_four (same e.tail t)).0
rank_some e Empty1 z = omega arith
rank_some e (Empty2 h) z = omega arith
rank_some e Full1 z = omega arith
rank_some e Close1 z = omega arith
rank_some e IsClosed1 z = omega arith

rank_most : (e : Ends) (p : Place) → 0 < look_most p → look_rank e p ≤ look_most p
rank_most e (Idle a) z = absurd (omega arith)
rank_most e (U1 n x) z = absurd (omega arith)
rank_most e (U2 n t x) z = absurd (omega arith)
rank_most e (U3 t b x) z = absurd (omega arith)
rank_most e (U4 n t x) z = absurd (omega arith)
rank_most e (U5 n t new x) z = absurd (omega arith)
rank_most e (U6 n t new x) z = absurd (omega arith)
rank_most e (U7 n t b x) z = absurd (omega arith)
rank_most e (U8 n t x) z = absurd (omega arith)
rank_most e (U9 n t b x) z = absurd (omega arith)
rank_most e (U10 n t b x) z = absurd (omega arith)
rank_most e (U11 n t b x) z = absurd (omega arith)
rank_most e (U12 n t b x) z = absurd (omega arith)
rank_most e (U13 n t b) z = absurd (omega arith)
rank_most e (U14 n a) z = absurd (omega arith)
rank_most e (U15 n new x) z = absurd (omega arith)
rank_most e V1 z = absurd (omega arith)
rank_most e (V2 h) z = absurd (omega arith)
rank_most e (V3 h b) z = absurd (omega arith)
rank_most e (V4 h b new) z = absurd (omega arith)
rank_most e (V5 h) z = absurd (omega arith)
rank_most e (V6 h b new) z = absurd (omega arith)
rank_most e (V7 h b new next) z = absurd (omega arith)
rank_most e (V8 h b next i) z = absurd (omega arith)
rank_most e (V9 h b i) z = absurd (omega arith)
rank_most e (V10 h b) z = absurd (omega arith)
rank_most e (V11 h b) z = absurd (omega arith)
rank_most e (V12 h b v) z = absurd (omega arith)
rank_most e (V13 b i v) z = absurd (omega arith)
rank_most e (V14 b i v) z = absurd (omega arith)
rank_most e (V15 b v) z = absurd (omega arith)
rank_most e Len1 z = omega arith
rank_most e (Len2 t) z = (two_five (same e.tail t)).1
rank_most e (Len3 t h) z = (one_four (same e.tail t)).1
rank_most e Empty1 z = omega arith
rank_most e (Empty2 h) z = omega arith
rank_most e Full1 z = omega arith
rank_most e Close1 z = omega arith
rank_most e IsClosed1 z = omega arith

-- who looks takes no block
none_taken : (p : Place) → 0 < look_most p → (view_of sizes p).takes ≡ false
none_taken (Idle a) z = refl
none_taken (U1 n x) z = absurd (omega arith)
none_taken (U2 n t x) z = absurd (omega arith)
none_taken (U3 t b x) z = absurd (omega arith)
none_taken (U4 n t x) z = absurd (omega arith)
none_taken (U5 n t new x) z = absurd (omega arith)
none_taken (U6 n t new x) z = absurd (omega arith)
none_taken (U7 n t b x) z = absurd (omega arith)
none_taken (U8 n t x) z = absurd (omega arith)
none_taken (U9 n t b x) z = absurd (omega arith)
none_taken (U10 n t b x) z = absurd (omega arith)
none_taken (U11 n t b x) z = absurd (omega arith)
none_taken (U12 n t b x) z = absurd (omega arith)
none_taken (U13 n t b) z = absurd (omega arith)
none_taken (U14 n a) z = absurd (omega arith)
none_taken (U15 n new x) z = absurd (omega arith)
none_taken V1 z = absurd (omega arith)
none_taken (V2 h) z = absurd (omega arith)
none_taken (V3 h b) z = absurd (omega arith)
none_taken (V4 h b new) z = absurd (omega arith)
none_taken (V5 h) z = absurd (omega arith)
none_taken (V6 h b new) z = absurd (omega arith)
none_taken (V7 h b new next) z = absurd (omega arith)
none_taken (V8 h b next i) z = absurd (omega arith)
none_taken (V9 h b i) z = absurd (omega arith)
none_taken (V10 h b) z = absurd (omega arith)
none_taken (V11 h b) z = absurd (omega arith)
none_taken (V12 h b v) z = absurd (omega arith)
none_taken (V13 b i v) z = absurd (omega arith)
none_taken (V14 b i v) z = absurd (omega arith)
none_taken (V15 b v) z = absurd (omega arith)
none_taken Len1 z = refl
none_taken (Len2 t) z = refl
none_taken (Len3 t h) z = refl
none_taken Empty1 z = refl
none_taken (Empty2 h) z = refl
none_taken Full1 z = refl
none_taken Close1 z = refl
none_taken IsClosed1 z = refl

same_self : (t : Index) → same t t ≡ true
unfolding same
same_self t = eq-eqb t.0 t.0 refl

-- An act of a looker: the rank falls, and it looks on or is idle.
abbrev Falls : Ends → Place → Acted → Type 0
Falls e p a = (look_rank a.ends a.place < look_rank e p) × ((view_of sizes a.place).busy ≡ true → 0 < look_most a.place)

falls : (e : Ends) (k : ℕ) (g : Block) (s : Slot) (p : Place) → 0 < look_most p → Falls e p (act_of sizes e k g s p false)
unfolding leave
falls e k g s (Idle a) z = absurd (omega arith)
falls e k g s (U1 n x) z = absurd (omega arith)
falls e k g s (U2 n t x) z = absurd (omega arith)
falls e k g s (U3 t b x) z = absurd (omega arith)
falls e k g s (U4 n t x) z = absurd (omega arith)
falls e k g s (U5 n t new x) z = absurd (omega arith)
falls e k g s (U6 n t new x) z = absurd (omega arith)
falls e k g s (U7 n t b x) z = absurd (omega arith)
falls e k g s (U8 n t x) z = absurd (omega arith)
falls e k g s (U9 n t b x) z = absurd (omega arith)
falls e k g s (U10 n t b x) z = absurd (omega arith)
falls e k g s (U11 n t b x) z = absurd (omega arith)
falls e k g s (U12 n t b x) z = absurd (omega arith)
falls e k g s (U13 n t b) z = absurd (omega arith)
falls e k g s (U14 n a) z = absurd (omega arith)
falls e k g s (U15 n new x) z = absurd (omega arith)
falls e k g s V1 z = absurd (omega arith)
falls e k g s (V2 h) z = absurd (omega arith)
falls e k g s (V3 h b) z = absurd (omega arith)
falls e k g s (V4 h b new) z = absurd (omega arith)
falls e k g s (V5 h) z = absurd (omega arith)
falls e k g s (V6 h b new) z = absurd (omega arith)
falls e k g s (V7 h b new next) z = absurd (omega arith)
falls e k g s (V8 h b next i) z = absurd (omega arith)
falls e k g s (V9 h b i) z = absurd (omega arith)
falls e k g s (V10 h b) z = absurd (omega arith)
falls e k g s (V11 h b) z = absurd (omega arith)
falls e k g s (V12 h b v) z = absurd (omega arith)
falls e k g s (V13 b i v) z = absurd (omega arith)
falls e k g s (V14 b i v) z = absurd (omega arith)
falls e k g s (V15 b v) z = absurd (omega arith)
falls e k g s Len1 z = (rw (same_self e.tail) (omega arith), λ b. omega arith)
falls e k g s (Len2 t) z = (go (same e.tail t), λ b. omega arith)
  where
    go : (b : Bool) → cond b 1 4 < cond b 2 5
    go true = omega arith
    go false = omega arith
falls e k g s (Len3 t h) z =
    either (Falls e (Len3 t h)) (same e.tail t) _ _ (λ q. (rw q (omega arith), λ b. absurd (true≢false (sym b)))) (λ q. (rw q (omega arith), λ b. omega arith))
falls e k g s Empty1 z = (omega arith, λ b. omega arith)
falls e k g s (Empty2 h) z = (omega arith, λ b. absurd (true≢false (sym b)))
falls e k g s Full1 z = (omega arith, λ b. absurd (true≢false (sym b)))
falls e k g s Close1 z =
    either (Falls e Close1) (marked_of e.tail) _ _ (λ q. (omega arith, λ b. absurd (true≢false (sym b)))) (λ q. (omega arith, λ b. absurd (true≢false (sym b))))
falls e k g s IsClosed1 z = (omega arith, λ b. absurd (true≢false (sym b)))

module _ (workers : ℕ) (allowed : Allowed workers) (w : ℕ) where
  abbrev busy : Machine → Bool
  busy m = (view_of sizes (stood m w)).busy

  abbrev rank : Machine → ℕ
  rank m = look_rank m.ends (stood m w)

  abbrev Holds : ℕ → Machine → List Event → Type 0
  Holds n m h = Reached workers m h × (m.meter + n ≤ meter_most) × (busy m ≡ true → 0 < look_most (stood m w))

  module _ (n : ℕ) (m : Machine) (h : List Event) (o : Holds (suc n) m h) (b : busy m ≡ true) where
    abbrev r : Reached workers m h
    r = o.0

    abbrev next : Machine
    next = used_by sizes act_of m w (stood m w) false

    known : Dec (w < workers) → w < m.count
    known (yes l) = omega (arith, r.team)
    known (no l) = absurd (true≢false (sym b ∙ r.past w (omega arith)))

    turn_is : turn_with sizes act_of m (16 * w + 8) 0 ≡ accepted next
    unfolding moved_by
    turn_is =
        moves m w (16 * w + 8) 0 (unbroken workers allowed m h r) (record { asks = act_here w; known = known (dec_lt w workers); busy = b; in_time = omega (arith, o.1) })
        ∙ sym (pick.no (view_of sizes (stood m w)).takes false (accepted next) _ _ (sym (none_taken (stood m w) (o.2 b))) refl refl)

    accepted_then : (turn_with sizes act_of m (16 * w + 8) 0).refusal ≡ 0
    unfolding accepted
    accepted_then = ap (λ (d : Did). d.refusal) turn_is

    next_is : (turn_with sizes act_of m (16 * w + 8) 0).machine ≡ next
    unfolding accepted
    next_is = ap (λ (d : Did). d.machine) turn_is

    down : (rank next < rank m) × (busy next ≡ true → 0 < look_most (stood next w))
    unfolding acted_at stored
    down =
        subst (λ (x : Worker). (look_rank next.ends x.place < rank m) × ((view_of sizes x.place).busy ≡ true → 0 < look_most x.place))
        (sym (get_same m.workers w _ _ (recorded m.workers w b))) (falls m.ends _ _ _ (stood m w) (o.2 b))

    meter_next : next.meter ≡ m.meter + 1
    unfolding acted_at stored
    meter_next = refl

    stepped : Stepped unbounded_queue events_of w busy rank Holds n m h
    stepped =
        record {
          accepted = accepted_then;
          holds = (
            turned_reached workers allowed.worker_most m h r (entry_of (16 * w + 8) 0) _ (turned m (16 * w + 8) 0 accepted_then),
            omega (arith, o.1, ap (λ (x : Machine). x.meter) next_is, meter_next),
            subst (λ (x : Machine). busy x ≡ true → 0 < look_most (stood x w)) (sym next_is) down.1,
          );
          falls = subst (λ (x : Machine). rank x < rank m) (sym next_is) down.0;
        }

  alone_ends : (m : Machine) (h : List Event) → Reached workers m h → 0 < look_most (stood m w) → m.meter + look_most (stood m w) ≤ meter_most
      → EndsAlone (definition sizes act_of) m w (look_most (stood m w))
  alone_ends m h r looks time =
      let e = ends_by unbounded_queue events_of w busy rank Holds (idle_refused w) (λ x b. rank_some x.ends (stood x w) b) stepped
      (look_most (stood m w)) m h 0 (r, time, (λ z. looks)) (busy_where look_most (λ i. refl) (stood m w) looks) (rank_most m.ends (stood m w) looks) in
      record {
        before = e.before;
        within = e.within;
        accepted = e.accepted_all;
        busy = ap busy e.last_is ∙ e.busy_yet;
        idle = ap busy e.ends_at ∙ e.idle_then;
      }

pub looks_end_alone : LooksEndAlone (definition sizes act_of)
looks_end_alone workers a s w looks time =
    alone_ends workers a w (machine_after (definition sizes act_of) workers s) (acts_of (definition sizes act_of) workers s) (reached workers a s) looks time
