-- What an accepted entry did: a call begun, or one act.
use Prim.Native.Nat.{ℕ, ◌<◌}
use mathlib.Core.Path.{◌≡◌}
use mathlib.Core.Bool.{Bool, true, false, cond}
use mathlib.Core.List.{List, [], ◌∷◌}
use native.Mathlib.Omega.{arith}
use lib.Dec.{ltb}
use borrow.Author.Tests.{ltb-true}
use Rattle.queue_entries.specs.Limits.{meter_most}
use Rattle.queue_entries.specs.declared.Call.{Call}
use Rattle.queue_entries.specs.declared.Order.TheVariants.{Begin, Act}
use Rattle.queue_entries.specs.declared.Entry.{Entry}
use Rattle.queue_entries.specs.declared.Entry.TheVariants.{Unreadable, Asks}
use Rattle.queue_entries.specs.declared.Verdict.{Verdict}
use Rattle.queue_entries.specs.declared.Verdict.TheVariants.{Refuse, Start, Move}
use Rattle.queue_schedules.proofs.Schedules.{either}
use Rattle.single_places.specs.declared.Place.{Place}
use Rattle.single_places.specs.Places.{view_of, begin_of}
use Rattle.single_machine.specs.declared.Machine.{Machine}
use Rattle.single_machine.specs.declared.Did.{Did}
use Rattle.single_machine.specs.declared.Event.{Event}
use Rattle.single_machine.specs.Machine.{place_of, refused, accepted}
use Rattle.single_machine.specs.Turn.{verdict_of, carried, turn, begun, acted}
use Rattle.single_machine.specs.History.{event, events_of}

-- where worker w stands
abbrev pub stood : Machine → ℕ → Place
stood m w = place_of m.workers w

pub data Turned (m : Machine) : Entry → Machine → List Event → Type 0 where
  began : (w : ℕ) (call : Call) → w < m.count → (view_of (stood m w)).busy ≡ false → Turned m (Asks w (Begin call)) (begun m w (begin_of call)) []
  did : (w : ℕ) (lose : Bool) → w < m.count → (view_of (stood m w)).busy ≡ true → m.meter < meter_most
      → Turned m (Asks w (Act lose)) (acted m w (stood m w)) (event w (stood m w) (stood (acted m w (stood m w)) w) ∷ [])

abbrev Result : Machine → Entry → Did → Type 0
Result m e d = d.refusal ≡ 0 → Turned m e d.machine (events_of m e d.machine)

refuses : (m : Machine) (e : Entry) (number : ℕ) → 0 < number → Result m e (refused number m)
unfolding refused
refuses m e number l h = absurd (omega arith)

begins : (m : Machine) (w : ℕ) (call : Call) → w < m.count → (view_of (stood m w)).busy ≡ false → Result m (Asks w (Begin call)) (accepted (begun m w (begin_of call)))
unfolding accepted
begins m w call l b h = began w call l b

acts : (m : Machine) (w : ℕ) (lose : Bool) → w < m.count → (view_of (stood m w)).busy ≡ true → m.meter < meter_most
    → Result m (Asks w (Act lose)) (accepted (acted m w (stood m w)))
unfolding accepted
acts m w lose l b k h = did w lose l b k

pub turned : (m : Machine) (e : Entry) → Result m e (turn m e)
turned m Unreadable = refuses m Unreadable 9 (omega arith)
turned m (Asks w (Begin call)) =
    either (Result m (Asks w (Begin call))) (ltb w m.count) (carried m w (stood m w) (verdict_of m.meter (stood m w) (Begin call))) (refused 3 m)
    (λ l. either (λ (v : Verdict). Result m (Asks w (Begin call)) (carried m w (stood m w) v)) (view_of (stood m w)).busy (Refuse 4) (Start call)
    (λ b. refuses m (Asks w (Begin call)) 4 (omega arith))
    (λ b. begins m w call (ltb-true w m.count l) b))
    (λ l. refuses m (Asks w (Begin call)) 3 (omega arith))
turned m (Asks w (Act lose)) =
    either (Result m (Asks w (Act lose))) (ltb w m.count) (carried m w (stood m w) (verdict_of m.meter (stood m w) (Act lose))) (refused 3 m)
    (λ l. either R (view_of (stood m w)).busy _ (Refuse 5)
    (λ b. either R (ltb m.meter meter_most) _ (Refuse 7)
    (λ k. either R lose (cond false (Move true) (Refuse 8)) (Move false)
    (λ z. refuses m (Asks w (Act lose)) 8 (omega arith))
    (λ z. acts m w lose (ltb-true w m.count l) b (ltb-true m.meter meter_most k)))
    (λ k. refuses m (Asks w (Act lose)) 7 (omega arith)))
    (λ b. refuses m (Asks w (Act lose)) 5 (omega arith)))
    (λ l. refuses m (Asks w (Act lose)) 3 (omega arith))
  where
    R : Verdict → Type 0
    R v = Result m (Asks w (Act lose)) (carried m w (stood m w) v)
