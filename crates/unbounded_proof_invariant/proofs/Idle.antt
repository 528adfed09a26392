-- With all workers idle nothing is in hand: both ends stand at slots, everything below them is done, and the blocks that are not free are those from
-- head's to the last.
use mathlib.Core.Path.{◌≡◌, refl}
use mathlib.Core.Logic.{◌≢◌, ◌⊎◌, inl, inr}
use mathlib.Core.Bool.{true}
use Prim.Native.Nat.{ℕ, ◌+◌, ◌*◌, ◌/◌, ◌%◌, ◌≤◌, ◌<◌}
use native.Mathlib.Omega.{arith}
use native.Mathlib.Decide.{dec_lt}
use Rattle.unbounded_proof_invariant.proofs.Queue.{none, to, Hand, Open, Done, By, Dest, Wait, Freed, Walk, Parked, Aside, Chain, Shared, DestOk, Inv}
use Rattle.unbounded_proof_invariant.proofs.Kept.{wait_not_freed}
use Rattle.unbounded_proof_invariant.proofs.Views.{Rest}
use Rattle.unbounded_proof_invariant.proofs.Own.{Good, none_not_to}

module _ (s : Shared) (inv : Inv s) (idle : (w : ℕ) → Good s w none none Rest) where
  -- a push or a pop that is somebody's is done
  settled : (h : Hand) → ((w : ℕ) → h ≡ By w → ⊥) → h ≢ Open → h ≡ Done
  settled Open n o = absurd (o refl)
  settled Done n o = refl
  settled (By w) n o = absurd (n w refl)

  pub push_done : (p : ℕ) → p < s.tail → p % 32 < 31 → s.push p ≡ Done
  push_done p l k = settled (s.push p) (λ w e. none_not_to none p refl ((idle w).pushes p e)) (inv.hands.pushed p l k)

  pub pop_done : (p : ℕ) → p < s.head → p % 32 < 31 → s.pop p ≡ Done
  pop_done p l k = settled (s.pop p) (λ w e. none_not_to none p refl ((idle w).pops p e)) (inv.hands.popped p l k)

  -- no gap
  pub tail_slot : s.tail % 32 < 31
  tail_slot = go (dec_lt (s.tail % 32) 31)
    where
      go : Dec (s.tail % 32 < 31) → s.tail % 32 < 31
      go (yes l) = l
      go (no n) =
          let d : s.push (32 * (s.tail / 32) + 30) ≡ Done = push_done (32 * (s.tail / 32) + 30) (omega arith) (omega arith) in
          absurd (omega (arith, inv.hands.linked (s.tail / 32) (inv.hands.links (s.tail / 32) d)))

  pub head_slot : s.head % 32 < 31
  head_slot = go (dec_lt (s.head % 32) 31)
    where
      go : Dec (s.head % 32 < 31) → s.head % 32 < 31
      go (yes l) = l
      go (no n) =
          let d : s.pop (32 * (s.head / 32) + 30) ≡ Done = pop_done (32 * (s.head / 32) + 30) (omega arith) (omega arith) in
          absurd (omega (arith, inv.hands.passed (s.head / 32) d))

  -- every block behind tail is linked to the next
  pub tied : (j : ℕ) → 32 * (j + 1) ≤ s.tail → s.link j ≡ true
  tied j l = inv.hands.links j (push_done (32 * j + 30) (omega arith) (omega arith))

  -- every block behind head is freed, and no other
  pub freed_behind : (j : ℕ) → 32 * (j + 1) ≤ s.head → s.dest j ≡ Freed
  freed_behind j l = go (s.dest j) refl (inv.dests.dests j)
    where
      all : (i : ℕ) → i < 31 → s.pop (32 * j + i) ≡ Done
      all i k = pop_done (32 * j + i) (omega arith) (omega arith)

      go : (d : Dest) → s.dest j ≡ d → DestOk (s.destroy j) s.pop j d → d ≡ Freed
      go Wait e o = absurd (inv.dests.waiting j e (all 30 (omega arith)))
      go Freed e o = refl
      go (Walk w i) e o = let f = (idle w).walks j i e in absurd (none_not_to none f.0 refl f.1)
      go (Parked i) e o = absurd (o.2 (all i (omega (arith, o.0))))

  pub kept_ahead : (j : ℕ) → s.head < 32 * (j + 1) → s.dest j ≢ Freed
  kept_ahead j l e = wait_not_freed (s.dest j) (inv.dests.waits j (λ d. absurd (omega (arith, inv.hands.passed j d)))) e

  -- so a block of the pool is somebody's exactly where it is one of the chain from head's on
  pub taken_is : (b j : ℕ) → s.own b ≡ Chain j → (s.head / 32 ≤ j) × (j < s.blocks) × (s.phys j ≡ b)
  taken_is b j e =
      let c = inv.owns.chain b j e in
      (go c (dec_lt j (s.head / 32)), c.0, c.2)
    where
      go : (j < s.blocks) × (s.dest j ≢ Freed) × (s.phys j ≡ b) → Dec (j < s.head / 32) → s.head / 32 ≤ j
      go c (yes l) = absurd (c.1 (freed_behind j (omega arith)))
      go c (no n) = omega arith

  pub is_taken : (j : ℕ) → s.head / 32 ≤ j → j < s.blocks → s.own (s.phys j) ≡ Chain j
  is_taken j l k = inv.owns.chained j k (kept_ahead j (omega arith))

  pub none_aside : (b w : ℕ) → s.own b ≡ Aside w → ⊥
  none_aside b w e = go ((idle w).asides b e)
    where
      go : (none ≡ to b) ⊎ (none ≡ to b) → ⊥
      go (inl z) = none_not_to none b refl z
      go (inr z) = none_not_to none b refl z

  -- the value of a slot between the ends is its claim's item
  pub value_is : (p : ℕ) → p < s.tail → p % 32 < 31 → s.val p ≡ s.item p
  value_is p l k = inv.items p (push_done p l k)
