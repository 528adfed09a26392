-- Refusal 23: exactly when a call needs a block and none is free.
use Prim.Native.Nat.{ℕ, zero, suc, ◌+◌, ◌<◌, ◌≤◌}
use mathlib.Core.Path.{◌≡◌, refl, sym, ap, ◌∙◌}
use mathlib.Core.Bool.{Bool, true, false, cond, true≢false}
use mathlib.Core.List.{List}
use native.Mathlib.Omega.{arith}
use native.Mathlib.Decide.{dec_lt}
use lib.Dec.{ltb}
use borrow.Author.Tests.{lt-ltb}
use Rattle.queue_entries.specs.declared.Verdict.TheVariants.{Move}
use Rattle.queue_entries.specs.Limits.{meter_most}
use Rattle.queue_entries.proofs.Pick as pick
use Rattle.unbounded_words.specs.Words.{sizes}
use Rattle.unbounded_places.specs.declared.Block.{Block}
use Rattle.unbounded_places.specs.Places.{view_of}
use Rattle.unbounded_acts.specs.Acts.{act_of}
use Rattle.unbounded_machine.specs.declared.Machine.{Machine}
use Rattle.unbounded_machine.specs.declared.Did.{Did}
use Rattle.unbounded_machine.specs.Machine.{block_at, place_of, refused, accepted}
use Rattle.unbounded_machine.specs.Broken.{broken_of}
use Rattle.unbounded_machine.specs.Turn.{lowest_from, lowest_free, used_by, taken_by, moved_by, carried_by, turn_by, turn_with}
use Rattle.unbounded_machine.proofs.Fits.{either}
use Rattle.unbounded_demands.specs.Notions.{definition, Asking}
use Rattle.unbounded_demands.specs.Demands.{NoBlock}

-- the lowest free number is a block's or that of none
pub lowest_most : (n k : ℕ) (l : List Block) → lowest_from n k l ≤ k + n
unfolding lowest_from
lowest_most zero k l = omega arith
lowest_most (suc n) k l =
    either (λ (x : ℕ). x ≤ k + suc n) (block_at l k).free k (lowest_from n (k + 1) l) (λ h. omega arith) (λ h. omega (arith, lowest_most n (k + 1) l))

module _ (m : Machine) (w first second : ℕ) (u : broken_of sizes m ≡ false) (a : Asking (definition sizes act_of) m w first second) where
  pub moves : turn_with sizes act_of m first second ≡ moved_by sizes act_of m w (place_of m.workers w) false
  unfolding turn_with
  moves =
      sym (pick.no (broken_of sizes m) false _ (refused 6 m) _ (sym u) refl refl)
      ∙ ap (turn_by sizes act_of m) a.asks
      ∙ sym (pick.below w m.count _ _ (refused 3 m) a.known
      (ap (carried_by sizes act_of m w (place_of m.workers w)) (pick.yes (view_of sizes (place_of m.workers w)).busy true (Move false) _ _
      (sym a.busy) refl (pick.below m.meter meter_most (Move false) _ _ a.in_time refl))))

  free : ℕ
  free = lowest_free sizes m.blocks

  pub no_block : (((turn_with sizes act_of m first second).refusal ≡ 23) → ((view_of sizes (place_of m.workers w)).takes ≡ true) × (lowest_free sizes m.blocks ≡ 64))
      × (((view_of sizes (place_of m.workers w)).takes ≡ true) → lowest_free sizes m.blocks ≡ 64 → (turn_with sizes act_of m first second).refusal ≡ 23)
      × (((view_of sizes (place_of m.workers w)).takes ≡ true) → lowest_free sizes m.blocks < 64 → (turn_with sizes act_of m first second).refusal ≡ 0)
  unfolding moved_by refused accepted lowest_free
  no_block = (
    (λ e. go (view_of sizes (place_of m.workers w)).takes refl (ltb (lowest_free sizes m.blocks) 64) refl (sym (ap (λ (d : Did). d.refusal) moves) ∙ e)),
    (λ t e. ap (λ (d : Did). d.refusal) (moves ∙ sym (pick.yes (view_of sizes (place_of m.workers w)).takes true (refused 23 m) _ _ (sym t) refl
        (pick.above (lowest_free sizes m.blocks) 64 (refused 23 m) _ _ (omega arith) refl)))),
    (λ t l. ap (λ (d : Did). d.refusal) (moves ∙ sym (pick.yes (view_of sizes (place_of m.workers w)).takes true
        (accepted (taken_by sizes act_of m w (place_of m.workers w) false (lowest_free sizes m.blocks))) _ _ (sym t) refl
        (pick.below (lowest_free sizes m.blocks) 64 (accepted (taken_by sizes act_of m w (place_of m.workers w) false (lowest_free sizes m.blocks))) _ _ l
        refl)))),
  )
    where
      go : (t : Bool) → (view_of sizes (place_of m.workers w)).takes ≡ t → (f : Bool) → ltb (lowest_free sizes m.blocks) 64 ≡ f
          → (cond t (cond f (accepted (taken_by sizes act_of m w (place_of m.workers w) false (lowest_free sizes m.blocks))) (refused 23 m))
          (accepted (used_by sizes act_of m w (place_of m.workers w) false))).refusal ≡ 23
          → (t ≡ true) × (lowest_free sizes m.blocks ≡ 64)
      go true et false ef e = (refl, omega (arith, lowest_most 64 0 m.blocks, far ef))
        where
          far : ltb (lowest_free sizes m.blocks) 64 ≡ false → 64 ≤ lowest_free sizes m.blocks
          far h = by (dec_lt (lowest_free sizes m.blocks) 64)
            where
              by : Dec (lowest_free sizes m.blocks < 64) → 64 ≤ lowest_free sizes m.blocks
              by (yes l) = absurd (true≢false (sym (lt-ltb _ _ l) ∙ h))
              by (no n) = omega arith
      go true et true ef e = absurd (omega arith)
      go false et f ef e = absurd (omega arith)

pub blocks_run_out : NoBlock (definition sizes act_of)
blocks_run_out = no_block
