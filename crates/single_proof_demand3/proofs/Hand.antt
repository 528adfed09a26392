-- A worker with the slot in hand lets go with its next acts, whatever entries of other workers come between.
use Prim.Native.Nat.{ℕ, ◌+◌, ◌<◌, ◌≤◌}
use mathlib.Core.Path.{◌≡◌, refl, sym, ap, ◌∙◌, subst}
use mathlib.Core.Logic.{◌≢◌}
use mathlib.Core.Bool.{Bool, true, false, cond, true≢false}
use mathlib.Core.List.{List, ◌++◌}
use native.Mathlib.Omega.{arith}
use native.Mathlib.Decide.{ℕ_discrete}
use lib.Dec.{eqb}
use borrow.Author.Tests.{eq-eqb, ne_eqb, eqb-true, eqb-false}
use Rattle.queue_entries.specs.declared.Entry.{Entry}
use Rattle.queue_entries.specs.Entries.{entry_of}
use Rattle.queue_schedules.specs.Alone.{act_by}
use Rattle.queue_schedules.proofs.Alone.{part, Was, others, its_own, its_last, goes as goes_alone}
use Rattle.single_places.specs.declared.Single.{Single}
use Rattle.single_places.specs.declared.Answer.{Answer}
use Rattle.single_places.specs.declared.Answer.TheVariants.{Pushed, Displaced, Popped}
use Rattle.single_places.specs.declared.Place.{Place}
use Rattle.single_places.specs.declared.Place.TheVariants.{Idle, A1, A2, A3, B1, B2, B3, B4, B5, C1, C2, C3, Len1, Empty1, Full1, Close1, IsClosed1}
use Rattle.single_places.specs.Places.{view_of, begin_of}
use Rattle.single_acts.specs.Acts.{goes, act_of}
use Rattle.single_machine.specs.declared.Machine.{Machine}
use Rattle.single_machine.specs.declared.Event.{Event}
use Rattle.single_machine.specs.Turn.{turn_of, turn_of_by, acted}
use Rattle.single_machine.proofs.Turns.{single_queue}
use Rattle.single_demands.specs.Notions.{source, InHand, most_of, LetsGo}
use Rattle.single_proof_demand2.proofs.Effects.{hand_is, holding_busy}
use Rattle.single_proof_demand2.proofs.Turns.{Turned, began, did, turned, stood}
use Rattle.single_proof_demand2.proofs.Reached.{Reached, entered, in_row, begun_else, acted_stood, acted_else}

-- ---- an act of a worker in hand: one fewer to go, or let go
data After (p q : Place) : Type 0 where
  holds : InHand q → most_of q + 1 ≡ most_of p → After p q
  gone : (a : Answer) → q ≡ Idle a → most_of p ≡ 1 → After p q

hand_act : (s : Single) (p : Place) → InHand p → After p (act_of s p).place
unfolding goes
hand_act s (Idle a) i = absurd (true≢false (sym i))
hand_act s (A1 x) i = absurd (true≢false (sym i))
hand_act s (A2 x) i = holds refl refl
hand_act s A3 i = gone Pushed refl refl
hand_act s (B1 e x) i = absurd (true≢false (sym i))
hand_act s (B2 x) i = holds refl refl
hand_act s B3 i = gone Pushed refl refl
hand_act s (B4 x) i = holds refl refl
hand_act s (B5 old) i = gone (Displaced old) refl refl
hand_act s (C1 e) i = absurd (true≢false (sym i))
hand_act s C2 i = holds refl refl
hand_act s (C3 v) i = gone (Popped v) refl refl
hand_act s Len1 i = absurd (true≢false (sym i))
hand_act s Empty1 i = absurd (true≢false (sym i))
hand_act s Full1 i = absurd (true≢false (sym i))
hand_act s Close1 i = absurd (true≢false (sym i))
hand_act s IsClosed1 i = absurd (true≢false (sym i))

hand_busy : (p : Place) → InHand p → (view_of p).busy ≡ true
hand_busy p i = holding_busy p (sym (hand_is p) ∙ i)

after_some : (p q : Place) → After p q → 0 < most_of p
after_some p q (holds i e) = omega arith
after_some p q (gone a e o) = omega arith

module _ (workers w : ℕ) where
  record In (m : Machine) : Type 0 where
    history : List Event
    reached : Reached workers m history
    hand : InHand (stood m w)

  abbrev Out : Machine → Type 0
  Out m = (a : Answer) × (stood m w ≡ Idle a)

  abbrev most : Machine → ℕ
  most m = most_of (stood m w)

  some : (m : Machine) → In m → 0 < most m
  some m i = after_some (stood m w) _ (hand_act m.single (stood m w) i.hand)

  -- an entry that leaves w where it stood, and w's own act
  module _ (m next : Machine) (i : In m) (h : List Event) (r : Reached workers next h) where
    stays : (count : ℕ) → stood next w ≡ stood m w → count ≡ 0 → Was single_queue w In Out most m next count
    stays count e z = others (record { history = h; reached = r; hand = subst InHand (sym e) i.hand }) (ap most_of e) z

    moves : (count : ℕ) → After (stood m w) (stood next w) → count ≡ 1 → Was single_queue w In Out most m next count
    moves count (holds j e) z = its_own (record { history = h; reached = r; hand = j }) e z
    moves count (gone a e o) z = its_last (a, e) o z

  accepted_was : (m : Machine) (i : In m) (en : Entry) (next : Machine) (acts : List Event) → Turned m en next acts
      → Was single_queue w In Out most m next (act_by w en)
  accepted_was m i en next acts (began v call l idle) =
      let other : w ≢ v = (λ e. true≢false (sym (hand_busy (stood m w) i.hand) ∙ ap (λ (z : ℕ). (view_of (stood m z)).busy) e ∙ idle)) in
      stays m next i _ (entered workers m i.history en next acts i.reached (began v call l idle)) 0 (begun_else m v (begin_of call) w other) refl
  accepted_was m i en next acts (did v lose l busy early) = go (ℕ_discrete v w)
    where
      r : Reached workers next (i.history ++ acts)
      r = entered workers m i.history en next acts i.reached (did v lose l busy early)

      go : Dec (v ≡ w) → Was single_queue w In Out most m (acted m v (stood m v)) (cond (eqb v w) 1 0)
      go (yes e) =
          moves m next i _ r (cond (eqb v w) 1 0)
          (subst (λ (x : ℕ). After (stood m w) (stood (acted m x (stood m x)) w)) (sym e)
          (subst (After (stood m w)) (sym (acted_stood m w (stood m w) (in_row workers m i.history i.reached w (subst (λ (x : ℕ). x < m.count) e l))))
          (hand_act m.single (stood m w) i.hand)))
          (rw (eq-eqb v w e))
      go (no ne) = stays m next i _ r (cond (eqb v w) 1 0) (acted_else m v (stood m v) w (λ e. ne (sym e))) (rw (ne_eqb v w ne))

  each : (m : Machine) (a b : ℕ) → In m → Was single_queue w In Out most m (turn_of m a b).machine (part single_queue w In Out most m a b)
  unfolding turn_of_by
  each m a b i = go (eqb (turn_of m a b).refusal 0) refl
    where
      go : (c : Bool) → eqb (turn_of m a b).refusal 0 ≡ c → Was single_queue w In Out most m (turn_of m a b).machine (part single_queue w In Out most m a b)
      go true e = rw e (accepted_was m i (entry_of a b) _ _ (turned m (entry_of a b) (eqb-true _ 0 e)))
      go false e =
          let same = single_queue.kept m a b (eqb-false _ 0 e) in
          rw e (stays m (turn_of m a b).machine i i.history (subst (λ (x : Machine). Reached workers x i.history) (sym same) i.reached) 0 (ap (λ (x : Machine). stood x w) same) refl)

  pub lets_go : (s : List ℕ) (m : Machine) (h : List Event) → Reached workers m h → InHand (stood m w)
      → most_of (stood m w) ≤ Rattle.single_demands.specs.Notions.own_acts source w m s → LetsGo source m w s (most_of (stood m w))
  lets_go s m h r i enough =
      let g = goes_alone single_queue w In Out most some each s m (record { history = h; reached = r; hand = i }) enough in
      record { before = g.before; after = g.after; split = g.split; own = g.count; answer = g.out.0; ends = g.out.1 }
