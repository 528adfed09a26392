-- What an accepted entry did: a call begun, one act on what it uses, or one that takes a block.
use mathlib.Core.Path.{◌≡◌}
use mathlib.Core.Bool.{Bool, true, false, cond}
use Prim.Native.Nat.{ℕ, ◌<◌, ◌%◌}
use native.Mathlib.Omega.{arith}
use lib.Dec.{ltb, eqb}
use borrow.Author.Tests.{ltb-true}
use Rattle.queue_entries.specs.Limits.{meter_most}
use Rattle.queue_entries.specs.declared.Call.{Call}
use Rattle.queue_entries.specs.declared.Order.{Order}
use Rattle.queue_entries.specs.declared.Order.TheVariants.{Begin, Act}
use Rattle.queue_entries.specs.declared.Entry.{Entry}
use Rattle.queue_entries.specs.declared.Entry.TheVariants.{Unreadable, Asks}
use Rattle.queue_entries.specs.declared.Verdict.{Verdict}
use Rattle.queue_entries.specs.declared.Verdict.TheVariants.{Refuse, Start, Move}
use Rattle.queue_entries.specs.Entries.{entry_of, entry_but}
use Rattle.queue_schedules.proofs.Schedules.{either}
use Rattle.unbounded_words.specs.Words.{sizes}
use Rattle.unbounded_places.specs.declared.Place.{Place}
use Rattle.unbounded_places.specs.Places.{view_of, begin_of}
use Rattle.unbounded_acts.specs.Acts.{act_of}
use Rattle.unbounded_machine.specs.declared.Machine.{Machine}
use Rattle.unbounded_machine.specs.declared.Did.{Did}
use Rattle.unbounded_machine.specs.Machine.{place_of, refused, accepted}
use Rattle.unbounded_machine.specs.Broken.{broken_of}
use Rattle.unbounded_machine.specs.Turn.{entry_here, verdict_of, lowest_free, begun, used_by, taken_by, moved_by, carried_by, turn_by, turn_with}

-- where worker w stands
abbrev pub stood : Machine → ℕ → Place
stood m w = place_of m.workers w

-- an act of a busy worker, in time
pub record Busy (m : Machine) (w : ℕ) : Type 0 where
  pub known : w < m.count
  pub busy : (view_of sizes (stood m w)).busy ≡ true
  pub in_time : m.meter < meter_most

pub data Turned (m : Machine) : Entry → Machine → Type 0 where
  began : (w : ℕ) (call : Call) → w < m.count → (view_of sizes (stood m w)).busy ≡ false → Turned m (Asks w (Begin call)) (begun m w (begin_of call))
  used : (w : ℕ) (asked lose : Bool) → Busy m w → (view_of sizes (stood m w)).takes ≡ false → Turned m (Asks w (Act asked)) (used_by sizes act_of m w (stood m w) lose)
  took : (w : ℕ) (asked lose : Bool) → Busy m w → (view_of sizes (stood m w)).takes ≡ true → lowest_free sizes m.blocks < 64
      → Turned m (Asks w (Act asked)) (taken_by sizes act_of m w (stood m w) lose (lowest_free sizes m.blocks))

abbrev Result : Machine → Entry → Did → Type 0
Result m e d = d.refusal ≡ 0 → Turned m e d.machine

refuses : (m : Machine) (e : Entry) (number : ℕ) → 0 < number → Result m e (refused number m)
unfolding refused
refuses m e number l h = absurd (omega arith)

accepts : (m next : Machine) (e : Entry) → Turned m e next → Result m e (accepted next)
unfolding accepted
accepts m next e t h = t

moves : (m : Machine) (w : ℕ) (asked lose : Bool) → Busy m w → Result m (Asks w (Act asked)) (moved_by sizes act_of m w (stood m w) lose)
unfolding moved_by
moves m w asked lose b =
    either (Result m (Asks w (Act asked))) (view_of sizes (stood m w)).takes _ (accepted (used_by sizes act_of m w (stood m w) lose))
    (λ t. either (Result m (Asks w (Act asked))) (ltb (lowest_free sizes m.blocks) 64) (accepted (taken_by sizes act_of m w (stood m w) lose (lowest_free sizes m.blocks))) (refused 23 m)
    (λ l. accepts m (taken_by sizes act_of m w (stood m w) lose (lowest_free sizes m.blocks)) (Asks w (Act asked)) (took w asked lose b t (ltb-true (lowest_free sizes m.blocks) 64 l)))
    (λ l. refuses m (Asks w (Act asked)) 23 (omega arith)))
    (λ t. accepts m (used_by sizes act_of m w (stood m w) lose) (Asks w (Act asked)) (used w asked lose b t))

carries : (m : Machine) (w : ℕ) (o : Order) → w < m.count → Result m (Asks w o) (carried_by sizes act_of m w (stood m w) (verdict_of sizes m.meter (stood m w) o))
carries m w (Begin call) l =
    either (λ (v : Verdict). Result m (Asks w (Begin call)) (carried_by sizes act_of m w (stood m w) v)) (view_of sizes (stood m w)).busy (Refuse 4) (Start call)
    (λ b. refuses m (Asks w (Begin call)) 4 (omega arith)) (λ b. accepts m (begun m w (begin_of call)) (Asks w (Begin call)) (began w call l b))
carries m w (Act lose) l =
    either R (view_of sizes (stood m w)).busy _ (Refuse 5)
    (λ b. either R (ltb m.meter meter_most) _ (Refuse 7)
    (λ k. either R lose (cond (view_of sizes (stood m w)).weak (Move true) (Refuse 8)) (Move false)
    (λ z. either R (view_of sizes (stood m w)).weak (Move true) (Refuse 8) (λ v. moves m w lose true (in_hand b k)) (λ v. refuses m (Asks w (Act lose)) 8 (omega arith)))
    (λ z. moves m w lose false (in_hand b k)))
    (λ k. refuses m (Asks w (Act lose)) 7 (omega arith)))
    (λ b. refuses m (Asks w (Act lose)) 5 (omega arith))
  where
    R : Verdict → Type 0
    R v = Result m (Asks w (Act lose)) (carried_by sizes act_of m w (stood m w) v)

    in_hand : (view_of sizes (stood m w)).busy ≡ true → ltb m.meter meter_most ≡ true → Busy m w
    in_hand b k = record { known = l; busy = b; in_time = ltb-true m.meter meter_most k }

turns : (m : Machine) (e : Entry) → Result m e (turn_by sizes act_of m e)
turns m Unreadable = refuses m Unreadable 9 (omega arith)
turns m (Asks w o) =
    either (Result m (Asks w o)) (ltb w m.count) (carried_by sizes act_of m w (stood m w) (verdict_of sizes m.meter (stood m w) o)) (refused 3 m)
    (λ l. carries m w o (ltb-true w m.count l)) (λ l. refuses m (Asks w o) 3 (omega arith))

pub turned : (m : Machine) (a b : ℕ) → Result m (entry_of a b) (turn_with sizes act_of m a b)
unfolding turn_with entry_but
turned m a b =
    either (Result m (entry_of a b)) (broken_of sizes m) (refused 6 m) (turn_by sizes act_of m (entry_here a b)) (λ h. refuses m (entry_of a b) 6 (omega arith))
    (λ h. either (λ (x : Entry). Result m (entry_of a b) (turn_by sizes act_of m x)) (eqb (a % 16) 1) Unreadable (entry_of a b) (λ k. refuses m (entry_of a b) 9 (omega arith)) (λ k. turns m (entry_of a b)))
