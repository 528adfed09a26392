-- What an accepted entry did: a call begun, or one act.
use mathlib.Core.Path.{◌≡◌, refl}
use mathlib.Core.Bool.{Bool, true, false, cond}
use mathlib.Core.List.{List, [], ◌∷◌}
use Prim.Native.Nat.{ℕ, ◌<◌}
use native.Mathlib.Omega.{arith}
use lib.Dec.{ltb}
use lib.ListN.{length, length-set}
use borrow.Author.Tests.{ltb-true}
use Rattle.queue_entries.specs.Limits.{meter_most}
use Rattle.queue_entries.specs.declared.Call.{Call}
use Rattle.queue_entries.specs.declared.Order.TheVariants.{Begin, Act}
use Rattle.queue_entries.specs.declared.Entry.{Entry}
use Rattle.queue_entries.specs.declared.Entry.TheVariants.{Unreadable, Asks}
use Rattle.queue_entries.specs.declared.Verdict.{Verdict}
use Rattle.queue_entries.specs.declared.Verdict.TheVariants.{Refuse, Start, Move}
use Rattle.bounded_words.specs.declared.Width.{Width}
use Rattle.bounded_places.specs.declared.Place.{Place}
use Rattle.bounded_places.specs.Places.{view_of, begin_of}
use Rattle.bounded_machine.specs.declared.Machine.{Machine}
use Rattle.bounded_machine.specs.declared.Did.{Did}
use Rattle.bounded_machine.specs.declared.Event.{Event}
use Rattle.bounded_machine.specs.Machine.{place_of, refused, accepted, fixed_on}
use Rattle.bounded_machine.specs.Turn.{verdict_of, carried, turn, begun, stored, acted, acted_by}
use Rattle.bounded_machine.proofs.Kept.{either}
use Rattle.bounded_machine.specs.History.{event, loss_at, events_of}

-- where worker w stands
abbrev pub stood : Machine → ℕ → Place
stood m w = place_of m.workers w

-- its act on m that led to the machine next
abbrev pub event_of : Width → Machine → ℕ → Bool → Machine → Event
event_of bits m w lose next = event w (stood m w) (stood next w) (loss_at bits m w lose)

pub data Turned (bits : Width) (m : Machine) : Entry → Machine → List Event → Type 0 where
  began : (w : ℕ) (call : Call) → w < m.count → (view_of (stood m w)).busy ≡ false → Turned bits m (Asks w (Begin call)) (begun m w (begin_of call)) []
  did : (w : ℕ) (lose : Bool) → w < m.count → (view_of (stood m w)).busy ≡ true → m.meter < meter_most
      → Turned bits m (Asks w (Act lose)) (acted bits m w (stood m w) lose) (event_of bits m w lose (acted bits m w (stood m w) lose) ∷ [])

abbrev Result : Width → Machine → Entry → Did → Type 0
Result bits m e d = d.refusal ≡ 0 → Turned bits m e d.machine (events_of bits m e d.machine)

refuses : (bits : Width) (m : Machine) (e : Entry) (number : ℕ) → 0 < number → Result bits m e (refused number m)
unfolding refused
refuses bits m e number l h = absurd (omega arith)

begins : (bits : Width) (m : Machine) (w : ℕ) (call : Call) → w < m.count → (view_of (stood m w)).busy ≡ false → Result bits m (Asks w (Begin call)) (accepted (begun m w (begin_of call)))
unfolding accepted
begins bits m w call l b h = began w call l b

acts : (bits : Width) (m : Machine) (w : ℕ) (lose : Bool) (won : Bool) → lose ≡ won → w < m.count → (view_of (stood m w)).busy ≡ true → m.meter < meter_most
    → Result bits m (Asks w (Act lose)) (accepted (acted bits m w (stood m w) won))
unfolding accepted
acts bits m w lose won e l b k h = rw (← e) (did w lose l b k)

pub turned : (bits : Width) (m : Machine) (e : Entry) → Result bits m e (turn bits m e)
turned bits m Unreadable = refuses bits m Unreadable 9 (omega arith)
turned bits m (Asks w (Begin call)) =
    either (Result bits m (Asks w (Begin call))) (ltb w m.count) (carried bits m w (stood m w) (verdict_of m.meter (stood m w) (Begin call))) (refused 3 m)
    (λ l. either (λ (v : Verdict). Result bits m (Asks w (Begin call)) (carried bits m w (stood m w) v)) (view_of (stood m w)).busy (Refuse 4) (Start call)
    (λ b. refuses bits m (Asks w (Begin call)) 4 (omega arith))
    (λ b. begins bits m w call (ltb-true w m.count l) b))
    (λ l. refuses bits m (Asks w (Begin call)) 3 (omega arith))
turned bits m (Asks w (Act lose)) =
    either (Result bits m (Asks w (Act lose))) (ltb w m.count) (carried bits m w (stood m w) (verdict_of m.meter (stood m w) (Act lose))) (refused 3 m)
    (λ l. either R (view_of (stood m w)).busy _ (Refuse 5)
    (λ b. either R (ltb m.meter meter_most) _ (Refuse 7)
    (λ k. either R lose (cond (view_of (stood m w)).weak (Move true) (Refuse 8)) (Move false)
    (λ z. either R (view_of (stood m w)).weak (Move true) (Refuse 8)
    (λ v. acts bits m w lose true z (ltb-true w m.count l) b (ltb-true m.meter meter_most k))
    (λ v. refuses bits m (Asks w (Act lose)) 8 (omega arith)))
    (λ z. acts bits m w lose false z (ltb-true w m.count l) b (ltb-true m.meter meter_most k)))
    (λ k. refuses bits m (Asks w (Act lose)) 7 (omega arith)))
    (λ b. refuses bits m (Asks w (Act lose)) 5 (omega arith)))
    (λ l. refuses bits m (Asks w (Act lose)) 3 (omega arith))
  where
    R : Verdict → Type 0
    R v = Result bits m (Asks w (Act lose)) (carried bits m w (stood m w) v)

-- the constants stay
pub turned_fixed : (bits : Width) (m : Machine) (en : Entry) (next : Machine) (h : List Event) → Turned bits m en next h → fixed_on next.ring ≡ fixed_on m.ring
unfolding begun acted_by stored
turned_fixed bits m en next h (began w call l idle) = refl
turned_fixed bits m en next h (did w lose l busy early) = refl

-- and the number of records
pub turned_seats : (bits : Width) (m : Machine) (en : Entry) (next : Machine) (acts : List Event) → Turned bits m en next acts → length next.workers ≡ length m.workers
unfolding begun acted_by stored
turned_seats bits m en next acts (began v call l idle) = length-set m.workers v _
turned_seats bits m en next acts (did v lose l busy early) = length-set m.workers v _
