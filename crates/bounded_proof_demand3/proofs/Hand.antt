-- A worker with a slot in hand lets go with its next acts, whatever entries of other workers come between.
use mathlib.Core.Path.{◌≡◌, refl, sym, ap, ◌∙◌, subst}
use mathlib.Core.Logic.{◌≢◌}
use mathlib.Core.Bool.{Bool, true, false, cond, true≢false}
use mathlib.Core.List.{List, [], ◌∷◌}
use Prim.Native.Nat.{ℕ, ◌+◌, ◌≤◌, ◌<◌}
use native.Mathlib.Omega.{arith}
use native.Mathlib.Decide.{ℕ_discrete}
use lib.Dec.{eqb}
use lib.ListN.{length}
use lib.Seq.{get_or-set_same, get_or-set_other}
use borrow.Author.Tests.{eq-eqb, ne_eqb, eqb-true, eqb-false}
use Rattle.queue_entries.specs.Schedules.{run_by}
use Rattle.queue_entries.specs.declared.Entry.{Entry}
use Rattle.queue_entries.specs.Entries.{entry_of}
use Rattle.bounded_words.specs.declared.Stamp.{Stamp}
use Rattle.bounded_words.specs.declared.Fixed.{Fixed}
use Rattle.bounded_words.specs.declared.Width.{Width}
use Rattle.bounded_places.specs.declared.Slot.{Slot}
use Rattle.bounded_places.specs.declared.Ends.{Ends}
use Rattle.bounded_places.specs.declared.Answer.{Answer}
use Rattle.bounded_places.specs.declared.Answer.TheVariants.{Pushed, Displaced, Popped}
use Rattle.bounded_places.specs.declared.Place.{Place}
use Rattle.bounded_places.specs.declared.Place.TheVariants.{Idle}
use Rattle.bounded_places.specs.declared.Worker.{Worker}
use Rattle.bounded_places.specs.Places.{view_of}
use Rattle.bounded_acts.specs.Acts.{goes, act_of}
use Rattle.bounded_machine.specs.declared.Machine.{Machine}
use Rattle.bounded_machine.specs.declared.Event.{Event}
use Rattle.bounded_machine.specs.Machine.{idler, fixed_on, ends_on}
use Rattle.bounded_machine.specs.Turn.{turn_at, turn_of_by, record_after, begun, acted, acted_by, stored, act_at}
use Rattle.bounded_machine.specs.Run.{ran, run_at}
use Rattle.bounded_machine.proofs.Kept.{UnbrokenWith, few_workers}
use Rattle.bounded_demands.proofs.Refusals.{turn_kept}
use Rattle.bounded_machine.proofs.Turns.{turn_of_unbroken}
use Rattle.bounded_demands.specs.Notions.{with_records, InHand, hand_p4, hand_p5, hand_f7, hand_f8, hand_f9, hand_o4, hand_o5, most_of, passed, act_by, own_acts, LetsGo}
use Rattle.bounded_proof_demand2.proofs.Turns.{Turned, began, did, turned, stood, turned_seats}
use Rattle.bounded_proof_demand3.proofs.Solo.{acted_else}

-- An act of a worker in hand: one fewer to go, or let go.
pub data After (p q : Place) : Type 0 where
  holds : (t : Stamp) → InHand q t → most_of q + 1 ≡ most_of p → After p q
  gone : (a : Answer) → q ≡ Idle a → most_of p ≡ 1 → After p q

pub hand_act : (bits : Width) (f : Fixed) (e : Ends) (s : Slot) (p : Place) (t : Stamp) (lose : Bool) → InHand p t → After p (act_of bits f e s p lose).place
unfolding goes
hand_act bits f e s p t lose hand_p4 = holds t hand_p5 refl
hand_act bits f e s p t lose hand_p5 = gone Pushed refl refl
hand_act bits f e s p t lose hand_f7 = holds t hand_f8 refl
hand_act bits f e s p t lose hand_f8 = holds t hand_f9 refl
hand_act bits f e s p t lose (hand_f9 {old = v}) = gone (Displaced v) refl refl
hand_act bits f e s p t lose hand_o4 = holds t hand_o5 refl
hand_act bits f e s p t lose (hand_o5 {v = v}) = gone (Popped v) refl refl

pub hand_busy : (p : Place) (t : Stamp) → InHand p t → (view_of p).busy ≡ true
hand_busy p t hand_p4 = refl
hand_busy p t hand_p5 = refl
hand_busy p t hand_f7 = refl
hand_busy p t hand_f8 = refl
hand_busy p t hand_f9 = refl
hand_busy p t hand_o4 = refl
hand_busy p t hand_o5 = refl

hand_some : (p : Place) (t : Stamp) → InHand p t → 1 ≤ most_of p
hand_some p t hand_p4 = omega arith
hand_some p t hand_p5 = omega arith
hand_some p t hand_f7 = omega arith
hand_some p t hand_f8 = omega arith
hand_some p t hand_f9 = omega arith
hand_some p t hand_o4 = omega arith
hand_some p t hand_o5 = omega arith

begun_else : (m : Machine) (w v : ℕ) (q : Place) → v ≢ w → stood (begun m w q) v ≡ stood m v
unfolding begun
begun_else m w v q ne = ap (λ (z : Worker). z.place) (get_or-set_other m.workers w v _ idler ne)

-- entries that are all accepted are passed as a schedule runs them
pub as_run : (records : ℕ) (bits : Width) (m : Machine) (place : ℕ) (entries : List ℕ) → (run_at bits m place entries).refusal ≡ 0
    → passed (with_records records bits) m entries ≡ (run_at bits m place entries).machine
unfolding passed run_by ran
as_run records bits m place [] e = refl
as_run records bits m place (first ∷ []) e = refl
as_run records bits m place (first ∷ second ∷ rest) e = go (as_run records bits next (place + 1) rest) (eqb (turn_at bits m first second).refusal 0) refl e
  where
    next : Machine
    next = (turn_at bits m first second).machine

    go : ((run_at bits next (place + 1) rest).refusal ≡ 0 → passed (with_records records bits) next rest ≡ (run_at bits next (place + 1) rest).machine)
        → (b : Bool) → eqb (turn_at bits m first second).refusal 0 ≡ b
        → (cond b (run_at bits next (place + 1) rest) (ran (turn_at bits m first second).refusal place m)).refusal ≡ 0
        → passed (with_records records bits) next rest ≡ (cond b (run_at bits next (place + 1) rest) (ran (turn_at bits m first second).refusal place m)).machine
    go more true q z = more z
    go more false q z = absurd (eqb-false _ 0 q z)

-- an entry's part of the count
abbrev part : Width → ℕ → Machine → ℕ → ℕ → ℕ
part bits w m first second = cond (eqb (turn_at bits m first second).refusal 0) (act_by w (entry_of first second)) 0

-- What an entry is to worker w: another's, or its own act.
data Was (m : Machine) (w : ℕ) (next : Machine) (count : ℕ) : Type 0 where
  other : stood next w ≡ stood m w → count ≡ 0 → Was m w next count
  own : After (stood m w) (stood next w) → count ≡ 1 → Was m w next count

-- What the entries leave to go on with.
pub record Sound (m : Machine) : Type 0 where
  pub records : ℕ
  pub unbroken : UnbrokenWith records m
  pub seats : length m.workers ≡ records

acted_own : (bits : Width) (m : Machine) (w : ℕ) (p : Place) (lose : Bool) → w < length m.workers → stood (acted bits m w p lose) w ≡ (act_at (act_of bits) m p lose).place
unfolding acted_by stored record_after
acted_own bits m w p lose l = ap (λ (z : Worker). z.place) (get_or-set_same m.workers w _ idler l)

module _ (bits : Width) (w : ℕ) where
  record Turn (m : Machine) (first second : ℕ) : Type 0 where
    sound : Sound (turn_at bits m first second).machine
    was : Was m w (turn_at bits m first second).machine (part bits w m first second)

  module _ (m : Machine) (o : Sound m) (t : Stamp) (hand : InHand (stood m w) t) where
    accepted_was : (en : Entry) (next : Machine) (acts : List Event) → Turned bits m en next acts → Was m w next (act_by w en)
    accepted_was en next acts (began v call l idle) =
        other (begun_else m v w _ (λ e. true≢false (sym (hand_busy (stood m w) t hand) ∙ ap (λ (z : ℕ). (view_of (stood m z)).busy) e ∙ idle))) refl
    accepted_was en next acts (did v lose l busy early) = go (ℕ_discrete v w)
      where
        go : Dec (v ≡ w) → Was m w (acted bits m v (stood m v) lose) (cond (eqb v w) 1 0)
        go (yes e) =
            let seat : w < length m.workers = omega (arith, o.seats, few_workers m o.unbroken) in
            rw (eq-eqb v w e, e)
            (own (subst (After (stood m w)) (sym (acted_own bits m w (stood m w) lose seat)) (hand_act bits (fixed_on m.ring) (ends_on m.ring) _ (stood m w) t lose hand)) refl)
        go (no ne) = rw (ne_eqb v w ne) (other (acted_else bits m v w (stood m v) lose (λ z. ne (sym z))) refl)

    one_turn : (first second : ℕ) → Turn m first second
    unfolding turn_of_by
    one_turn first second = go (eqb (turn_at bits m first second).refusal 0) refl
      where
        go : (b : Bool) → eqb (turn_at bits m first second).refusal 0 ≡ b → Turn m first second
        go true e =
            let d = turned bits m (entry_of first second) (eqb-true _ 0 e) in
            record {
              sound = record { records = o.records; unbroken = turn_of_unbroken bits m o.unbroken first second; seats = turned_seats bits m (entry_of first second) _ _ d ∙ o.seats };
              was = rw e (accepted_was (entry_of first second) _ _ d);
            }
        go false e =
            let q : (turn_at bits m first second).machine ≡ m = turn_kept bits m first second (eqb-false _ 0 e) in
            record { sound = subst Sound (sym q) o; was = rw e (other (ap (λ (z : Machine). stood z w) q) refl) }

  -- one entry more before it
  more : {records : ℕ} (m : Machine) (first second k : ℕ) (rest : List ℕ) → LetsGo (with_records records bits) (turn_at bits m first second).machine w rest k
      → LetsGo (with_records records bits) m w (first ∷ second ∷ rest) (part bits w m first second + k)
  unfolding passed own_acts
  more m first second k rest d =
      record {
        before = first ∷ second ∷ d.before;
        after = d.after;
        split = ap (λ (l : List ℕ). first ∷ second ∷ l) d.split;
        own = ap (λ (z : ℕ). part bits w m first second + z) d.own;
        answer = d.answer;
        ends = d.ends;
      }

  -- none more
  here : {records : ℕ} (m : Machine) (a : Answer) (rest : List ℕ) → stood m w ≡ Idle a → LetsGo (with_records records bits) m w rest 0
  unfolding passed own_acts
  here m a rest e = record { before = []; after = rest; split = refl; own = refl; answer = a; ends = e }

  pub lets_go : {records : ℕ} (l : List ℕ) (m : Machine) → Sound m → (t : Stamp) → InHand (stood m w) t
      → most_of (stood m w) ≤ own_acts (with_records records bits) w m l → LetsGo (with_records records bits) m w l (most_of (stood m w))
  unfolding own_acts
  lets_go {records} [] m o t hand enough = absurd (omega (arith, hand_some (stood m w) t hand))
  lets_go {records} (first ∷ []) m o t hand enough = absurd (omega (arith, hand_some (stood m w) t hand))
  lets_go {records} (first ∷ second ∷ rest) m o t hand enough = go one.was (λ u k. lets_go rest next one.sound u k)
    where
      one : Turn m first second
      one = one_turn m o t hand first second

      next : Machine
      next = (turn_at bits m first second).machine

      go : Was m w next (part bits w m first second) → ((u : Stamp) → InHand (stood next w) u
          → most_of (stood next w) ≤ own_acts (with_records records bits) w next rest → LetsGo (with_records records bits) next w rest (most_of (stood next w)))
          → LetsGo (with_records records bits) m w (first ∷ second ∷ rest) (most_of (stood m w))
      go (other e z) again =
          let k : most_of (stood next w) ≡ most_of (stood m w) = ap most_of e in
          let d = again t (subst (λ (q : Place). InHand q t) (sym e) hand) (omega arith) in
          subst (LetsGo (with_records records bits) m w (first ∷ second ∷ rest)) (omega arith) (more m first second (most_of (stood next w)) rest d)
      go (own (holds u hand' less) z) again =
          subst (LetsGo (with_records records bits) m w (first ∷ second ∷ rest)) (omega arith) (more m first second (most_of (stood next w)) rest (again u hand' (omega arith)))
      go (own (gone a e one) z) again =
          subst (LetsGo (with_records records bits) m w (first ∷ second ∷ rest)) (omega arith) (more m first second 0 rest (here next a rest e))
