-- An act of a call under way is refused by 7 or 23 alone.
use Prim.Native.Nat.{ℕ, ◌+◌, ◌*◌, ◌%◌, ◌<◌, ◌≤◌}
use mathlib.Core.Path.{◌≡◌, refl, sym, ap, ◌∙◌}
use mathlib.Core.Logic.{◌⊎◌, inl, inr}
use mathlib.Core.Bool.{true, false, cond}
use native.Mathlib.Omega.{arith}
use native.Mathlib.Decide.{dec_lt}
use lib.Dec.{ltb, eqb}
use Rattle.queue_entries.specs.Limits.{meter_most}
use Rattle.queue_entries.specs.declared.Order.TheVariants.{Act}
use Rattle.queue_entries.specs.declared.Entry.TheVariants.{Unreadable, Asks}
use Rattle.queue_entries.specs.declared.Verdict.TheVariants.{Refuse}
use Rattle.queue_entries.specs.Entries.{entry_of, entry_but}
use Rattle.queue_entries.proofs.Pick as pick
use Rattle.queue_schedules.proofs.Schedules.{picked}
use Rattle.queue_schedules.proofs.Alone.{act_entry}
use Rattle.unbounded_words.specs.Words.{sizes}
use Rattle.unbounded_places.specs.declared.Place.{Place}
use Rattle.unbounded_places.specs.Places.{view_of}
use Rattle.unbounded_acts.specs.Acts.{act_of}
use Rattle.unbounded_machine.specs.declared.Machine.{Machine}
use Rattle.unbounded_machine.specs.declared.Did.{Did}
use Rattle.unbounded_machine.specs.Machine.{place_of, refused, accepted}
use Rattle.unbounded_machine.specs.Broken.{broken_of}
use Rattle.unbounded_machine.specs.Turn.{entry_here, lowest_free, used_by, taken_by, moved_by, carried_by, turn_by, turn_with}
use Rattle.unbounded_demands.proofs.Blocks.{moves}

-- code 8 of worker w, as this queue reads it
pub act_here : (w : ℕ) → entry_here (16 * w + 8) 0 ≡ Asks w (Act false)
unfolding entry_but
act_here w =
    let low : (16 * w + 8) % 16 ≡ 8 = omega arith in
    ap (λ (c : ℕ). cond (eqb c 1) Unreadable (entry_of (16 * w + 8) 0)) low ∙ act_entry w

-- 0, 7 with the meter at its end, or 23
abbrev pub Met : Machine → ℕ → Type 0
Met m n = (n ≡ 0) ⊎ (((n ≡ 7) × (meter_most ≤ m.meter)) ⊎ (n ≡ 23))

module _ (m : Machine) (w : ℕ) (u : broken_of sizes m ≡ false) (known : w < m.count) (busy : (view_of sizes (place_of m.workers w)).busy ≡ true) where
  abbrev p : Place
  p = place_of m.workers w

  late : meter_most ≤ m.meter → turn_with sizes act_of m (16 * w + 8) 0 ≡ refused 7 m
  unfolding turn_with
  late l =
      sym (pick.no (broken_of sizes m) false _ (refused 6 m) _ (sym u) refl refl)
      ∙ ap (turn_by sizes act_of m) (act_here w)
      ∙ sym (pick.below w m.count _ _ (refused 3 m) known
      (ap (carried_by sizes act_of m w p) (pick.yes (view_of sizes p).busy true (Refuse 7) _ _ (sym busy) refl (pick.above m.meter meter_most (Refuse 7) _ _ l refl))))

  moved_met : Met m (moved_by sizes act_of m w p false).refusal
  unfolding moved_by accepted refused
  moved_met =
      picked (λ (d : Did). Met m d.refusal) (view_of sizes p).takes _ (accepted (used_by sizes act_of m w p false))
      (picked (λ (d : Did). Met m d.refusal) (ltb (lowest_free sizes m.blocks) 64) (accepted (taken_by sizes act_of m w p false (lowest_free sizes m.blocks))) (refused 23 m) (inl refl)
      (inr (inr refl)))
      (inl refl)

  pub met : Met m (turn_with sizes act_of m (16 * w + 8) 0).refusal
  unfolding refused
  met = go (dec_lt m.meter meter_most)
    where
      go : Dec (m.meter < meter_most) → Met m (turn_with sizes act_of m (16 * w + 8) 0).refusal
      go (yes l) = rw (moves m w (16 * w + 8) 0 u (record { asks = act_here w; known = known; busy = busy; in_time = l })) moved_met
      go (no l) = rw (late (omega arith)) (inr (inl (refl, omega arith)))
