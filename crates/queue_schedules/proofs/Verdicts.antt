-- What a verdict tells: a refusal has a number, a call begins on an idle worker, an act is a busy worker's, in time.
use Prim.Native.Nat.{ℕ, ◌<◌, ◌≤◌}
use mathlib.Core.Path.{◌≡◌, sym, ◌∙◌, subst}
use mathlib.Core.Bool.{Bool, true, false}
use native.Mathlib.Omega.{arith}
use lib.Dec.{ltb}
use borrow.Author.Tests.{ltb-true}
use Rattle.queue_entries.specs.Limits.{meter_most}
use Rattle.queue_entries.specs.declared.Call.{Call}
use Rattle.queue_entries.specs.declared.Order.{Order}
use Rattle.queue_entries.specs.declared.Order.TheVariants.{Begin, Act}
use Rattle.queue_entries.specs.declared.Verdict.{Verdict}
use Rattle.queue_entries.specs.declared.Verdict.TheVariants.{Refuse, Start, Move}
use Rattle.queue_entries.specs.Entries.{verdict_for}
use Rattle.queue_schedules.proofs.Schedules.{either}

abbrev pub Sense : ℕ → Bool → Verdict → Type 0
Sense meter busy (Refuse k) = (0 < k) × (k ≤ 8)
Sense meter busy (Start c) = busy ≡ false
Sense meter busy (Move lose) = (busy ≡ true) × (meter < meter_most)

pub sense : (meter : ℕ) (busy weak : Bool) (o : Order) → Sense meter busy (verdict_for meter busy weak o)
sense meter busy weak (Begin c) = either (Sense meter busy) busy (Refuse 4) (Start c) (λ b. omega arith) (λ b. b)
sense meter busy weak (Act lose) =
    either (Sense meter busy) busy _ (Refuse 5)
    (λ b. either (Sense meter busy) (ltb meter meter_most) _ (Refuse 7)
    (λ d. either (Sense meter busy) lose _ (Move false)
    (λ l. either (Sense meter busy) weak (Move true) (Refuse 8) (λ w. (b, ltb-true meter meter_most d)) (λ w. omega arith))
    (λ l. (b, ltb-true meter meter_most d)))
    (λ d. omega arith))
    (λ b. omega arith)

module _ (meter : ℕ) (busy weak : Bool) (o : Order) (v : Verdict) (e : v ≡ verdict_for meter busy weak o) where
  pub number_positive : (k : ℕ) → v ≡ Refuse k → 0 < k
  number_positive k h = (subst (Sense meter busy) (sym e ∙ h) (sense meter busy weak o)).0

  pub start_idle : (c : Call) → v ≡ Start c → busy ≡ false
  start_idle c h = subst (Sense meter busy) (sym e ∙ h) (sense meter busy weak o)

  pub move_busy : (lose : Bool) → v ≡ Move lose → busy ≡ true
  move_busy lose h = (subst (Sense meter busy) (sym e ∙ h) (sense meter busy weak o)).0

  pub move_in_time : (lose : Bool) → v ≡ Move lose → meter < meter_most
  move_in_time lose h = (subst (Sense meter busy) (sym e ∙ h) (sense meter busy weak o)).1
