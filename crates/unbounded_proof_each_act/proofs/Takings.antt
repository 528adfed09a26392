-- A block that is taken: its number is that of a free one, and its slots are cleared.
use Prim.Native.Nat.{ℕ, zero, suc, ◌+◌, ◌*◌, ◌<◌, ◌≤◌}
use mathlib.Core.Path.{◌≡◌, refl, ap, ◌∙◌}
use mathlib.Core.Logic.{◌≢◌}
use mathlib.Core.Bool.{true}
use mathlib.Core.List.{List}
use native.Mathlib.Omega.{arith}
use native.Mathlib.Decide.{ℕ_discrete}
use lib.ListN.{length, get_or, set, length-set}
use Rattle.unbounded_words.specs.Words.{sizes}
use Rattle.unbounded_places.specs.declared.Slot.{Slot}
use Rattle.unbounded_places.specs.declared.Block.{Block}
use Rattle.unbounded_machine.specs.Turn.{lowest_free, cleared_from, cleared}
use Rattle.unbounded_demands.proofs.Pool.{lowest_first}
use Rattle.unbounded_proof_words.proofs.Stands.{slot, block_at, slot_at}
use Rattle.unbounded_proof_words.proofs.Frames.{get_same, get_other}

-- the number that a search gives is free, unless it ran out
pub lowest_free_lem : (l : List Block) → lowest_free sizes l < 64 → (block_at l (lowest_free sizes l)).free ≡ true
lowest_free_lem l b = lowest_first.free sizes l b

-- ---- so many slots from n on are cleared
clear_long : (more n : ℕ) (l : List Slot) → length (cleared_from more n l) ≡ length l
unfolding cleared_from
clear_long zero n l = refl
clear_long (suc more) n l = clear_long more (n + 1) (set l n (slot 0 0)) ∙ length-set l n (slot 0 0)

clear_outside : (more n i : ℕ) (l : List Slot) → (n ≤ i → i < n + more → ⊥) → get_or (cleared_from more n l) i (slot 0 0) ≡ get_or l i (slot 0 0)
unfolding cleared_from
clear_outside zero n i l out = refl
clear_outside (suc more) n i l out =
    clear_outside more (n + 1) i (set l n (slot 0 0)) (λ a b. out (omega arith) (omega arith)) ∙ get_other l n i (slot 0 0) (slot 0 0) (λ e. out (omega arith) (omega arith))

clear_inside : (more n i : ℕ) (l : List Slot) → n ≤ i → i < n + more → i < length l → get_or (cleared_from more n l) i (slot 0 0) ≡ slot 0 0
unfolding cleared_from
clear_inside zero n i l a b c = absurd (omega arith)
clear_inside (suc more) n i l a b c =
    go (λ (z : n + 1 ≤ i). clear_inside more (n + 1) i (set l n (slot 0 0)) z (omega arith) (omega (arith, length-set l n (slot 0 0)))) (ℕ_discrete i n)
  where
    go : (n + 1 ≤ i → get_or (cleared_from more (n + 1) (set l n (slot 0 0))) i (slot 0 0) ≡ slot 0 0) → Dec (i ≡ n) → get_or (cleared_from more (n + 1) (set l n (slot 0 0))) i (slot 0 0) ≡ slot 0 0
    go later (yes e) =
        clear_outside more (n + 1) i (set l n (slot 0 0)) (λ x y. omega arith) ∙ ap (λ (j : ℕ). get_or (set l n (slot 0 0)) j (slot 0 0)) e ∙ get_same l n (slot 0 0) (slot 0 0) (omega arith)
    go later (no ne) = later (omega arith)

module _ (l : List Slot) (k : ℕ) where
  pub cleared_long : length (cleared sizes l k) ≡ length l
  unfolding cleared
  cleared_long = clear_long 31 (k * 31 + 0) l

  pub cleared_here : length l ≡ 1984 → k < 64 → (i : ℕ) → i < 31 → slot_at (cleared sizes l k) k i ≡ slot 0 0
  unfolding cleared
  cleared_here e s i b = clear_inside 31 (k * 31 + 0) (k * 31 + i) l (omega arith) (omega arith) (omega arith)

  pub cleared_there : (c i : ℕ) → c ≢ k → i < 31 → slot_at (cleared sizes l k) c i ≡ slot_at l c i
  unfolding cleared
  cleared_there c i ne b = clear_outside 31 (k * 31 + 0) (c * 31 + i) l (λ x y. ne (omega arith))
