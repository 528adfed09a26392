-- Where a worker stands in whose hand the push, or the pop, of a position is, or the first block.
use Prim.Native.Nat.{ℕ, ◌+◌, ◌*◌, ◌/◌, ◌%◌, ◌≤◌}
use mathlib.Core.Path.{◌≡◌, refl, ap, ◌∙◌, subst}
use mathlib.Core.Bool.{Bool, true, false}
use native.Mathlib.Omega.{arith}
use Rattle.unbounded_words.specs.declared.Pointer.{Pointer}
use Rattle.unbounded_words.specs.declared.Pointer.TheVariants.{To}
use Rattle.unbounded_words.specs.declared.Index.{Index}
use Rattle.unbounded_places.specs.declared.Place.{Place}
use Rattle.unbounded_demands.specs.Waiting.{PushingIn, in9, in10, in11, in12, in13, Crossing, cross9, cross10, Tying, tie9, tie10, tie11, Leaving, leave6, leave7, leave8, leave9, Fronting, front6}
use Rattle.unbounded_proof_invariant.proofs.Queue.{Ptr, none, to, Hand, Open, Done, By, Walk, Shared, Inv}
use Rattle.unbounded_proof_invariant.proofs.Kept.{hand_open_done, hand_by_done, walk_not_wait}
use Rattle.unbounded_proof_invariant.proofs.Views.{Seen, SeenOk}
use Rattle.unbounded_proof_invariant.proofs.Own.{push_of, pop_of, block_of, none_not_to}
use Rattle.unbounded_proof_words.proofs.Words.{word}
use Rattle.unbounded_proof_words.proofs.Stands.{Stands, idle, u1, u2, u3, u4, u5, u6, u7, u8, u9, u10, u11, u12, u13, u14, u15, v1, v2, v3, v4, v5, v6, v7, v8}
use Rattle.unbounded_proof_words.proofs.Stands.{v9, v10, v11, v12, v13, v14, v15, len1, len2, len3, empty1, empty2, full1, close1, closed1}

to_ptr : (p q : ℕ) → to p ≡ to q → p ≡ q
to_ptr p q e = cc

module _ (s : Shared) (inv : Inv s) (v : ℕ) where
  -- a push: before its block's gap is passed, before next is stored, and after
  pub data Pushes (p : Place) (q : ℕ) : Type 0 where
    crossing : {b : Pointer} {t : Index} → Crossing p t → Tying p b t → PushingIn p b t → t ≡ word q false → b ≡ To (s.phys (q / 32)) → Pushes p q
    tying : {b : Pointer} {t : Index} → Tying p b t → PushingIn p b t → t ≡ word q false → b ≡ To (s.phys (q / 32)) → 32 * (q / 32 + 1) ≤ s.tail → Pushes p q
    tied : {b : Pointer} {t : Index} → PushingIn p b t → t ≡ word q false → b ≡ To (s.phys (q / 32)) → (q % 32 ≡ 30 → s.link (q / 32) ≡ true) → Pushes p q

  pub pushes_at : (p : Place) (a n : Ptr) (x : Seen) → Stands p a n x → SeenOk s v x → (q : ℕ) → push_of x ≡ to q → Pushes p q
  pushes_at p a n x idle o q e = absurd (none_not_to none q refl e)
  pushes_at p a n x (u1 en) o q e = absurd (none_not_to none q refl e)
  pushes_at p a n x (u2 en et) o q e = absurd (none_not_to none q refl e)
  pushes_at p a n x (u3 et ed l) o q e = absurd (none_not_to none q refl e)
  pushes_at p a n x (u4 en et) o q e = absurd (none_not_to none q refl e)
  pushes_at p a n x (u5 en et ed) o q e = absurd (none_not_to none q refl e)
  pushes_at p a n x (u6 en et ed) o q e = absurd (none_not_to none q refl e)
  pushes_at p a n x (u7 en et ed l) o q e = absurd (none_not_to none q refl e)
  pushes_at p a n x (u8 en et) o q e = absurd (none_not_to none q refl e)
  pushes_at p a n x (u9 {p = i} en et ed) o q e = subst (Pushes p) (to_ptr i q e) (crossing cross9 tie9 in9 et (ed ∙ ap To o.0.3))
  pushes_at p a n x (u10 {p = i} en et ed) o q e = subst (Pushes p) (to_ptr i q e) (crossing cross10 tie10 in10 et (ed ∙ ap To o.0.3))
  pushes_at p a n x (u11 {p = i} en et ed) o q e = subst (Pushes p) (to_ptr i q e) (tying tie11 in11 et (ed ∙ ap To o.0.3) o.3)
  pushes_at p a n x (u12 {p = i} en et ed) o q e = subst (Pushes p) (to_ptr i q e) (tied in12 et (ed ∙ ap To o.0.3) o.2)
  pushes_at p a n x (u13 {p = i} en et ed) o q e = subst (Pushes p) (to_ptr i q e) (tied in13 et (ed ∙ ap To o.0.3) o.1)
  pushes_at p a n x (u14 en ok) o q e = absurd (none_not_to none q refl e)
  pushes_at p a n x (u15 en ed) o q e = absurd (none_not_to none q refl e)
  pushes_at p a n x v1 o q e = absurd (none_not_to none q refl e)
  pushes_at p a n x (v2 eh) o q e = absurd (none_not_to none q refl e)
  pushes_at p a n x (v3 eh ed) o q e = absurd (none_not_to none q refl e)
  pushes_at p a n x (v4 m eh ed ew) o q e = absurd (none_not_to none q refl e)
  pushes_at p a n x (v5 eh) o q e = absurd (none_not_to none q refl e)
  pushes_at p a n x (v6 m k eh ed ew) o q e = absurd (none_not_to none q refl e)
  pushes_at p a n x (v7 m k eh ed ew ec) o q e = absurd (none_not_to none q refl e)
  pushes_at p a n x (v8 m eh ed ec ew) o q e = absurd (none_not_to none q refl e)
  pushes_at p a n x (v9 m eh ed ew) o q e = absurd (none_not_to none q refl e)
  pushes_at p a n x (v10 m eh ed) o q e = absurd (none_not_to none q refl e)
  pushes_at p a n x (v11 m eh ed) o q e = absurd (none_not_to none q refl e)
  pushes_at p a n x (v12 m eh ed) o q e = absurd (none_not_to none q refl e)
  pushes_at p a n x (v13 ed l) o q e = absurd (none_not_to none q refl e)
  pushes_at p a n x (v14 ed l) o q e = absurd (none_not_to none q refl e)
  pushes_at p a n x (v15 ed) o q e = absurd (none_not_to none q refl e)
  pushes_at p a n x len1 o q e = absurd (none_not_to none q refl e)
  pushes_at p a n x len2 o q e = absurd (none_not_to none q refl e)
  pushes_at p a n x len3 o q e = absurd (none_not_to none q refl e)
  pushes_at p a n x empty1 o q e = absurd (none_not_to none q refl e)
  pushes_at p a n x empty2 o q e = absurd (none_not_to none q refl e)
  pushes_at p a n x full1 o q e = absurd (none_not_to none q refl e)
  pushes_at p a n x close1 o q e = absurd (none_not_to none q refl e)
  pushes_at p a n x closed1 o q e = absurd (none_not_to none q refl e)

  -- a pop: before its block's gap is passed, and after
  pub data Pops (p : Place) (q : ℕ) : Type 0 where
    leaving : {h : Index} (m : Bool) → Leaving p h → h ≡ word q m → Pops p q
    left : (q % 32 ≡ 30 → 32 * (q / 32 + 1) ≤ s.head) → Pops p q

  pub pops_at : (p : Place) (a n : Ptr) (x : Seen) → Stands p a n x → SeenOk s v x → (q : ℕ) → pop_of x ≡ to q → Pops p q
  pops_at p a n x idle o q e = absurd (none_not_to none q refl e)
  pops_at p a n x (u1 en) o q e = absurd (none_not_to none q refl e)
  pops_at p a n x (u2 en et) o q e = absurd (none_not_to none q refl e)
  pops_at p a n x (u3 et ed l) o q e = absurd (none_not_to none q refl e)
  pops_at p a n x (u4 en et) o q e = absurd (none_not_to none q refl e)
  pops_at p a n x (u5 en et ed) o q e = absurd (none_not_to none q refl e)
  pops_at p a n x (u6 en et ed) o q e = absurd (none_not_to none q refl e)
  pops_at p a n x (u7 en et ed l) o q e = absurd (none_not_to none q refl e)
  pops_at p a n x (u8 en et) o q e = absurd (none_not_to none q refl e)
  pops_at p a n x (u9 en et ed) o q e = absurd (none_not_to none q refl e)
  pops_at p a n x (u10 en et ed) o q e = absurd (none_not_to none q refl e)
  pops_at p a n x (u11 en et ed) o q e = absurd (none_not_to none q refl e)
  pops_at p a n x (u12 en et ed) o q e = absurd (none_not_to none q refl e)
  pops_at p a n x (u13 en et ed) o q e = absurd (none_not_to none q refl e)
  pops_at p a n x (u14 en ok) o q e = absurd (none_not_to none q refl e)
  pops_at p a n x (u15 en ed) o q e = absurd (none_not_to none q refl e)
  pops_at p a n x v1 o q e = absurd (none_not_to none q refl e)
  pops_at p a n x (v2 eh) o q e = absurd (none_not_to none q refl e)
  pops_at p a n x (v3 eh ed) o q e = absurd (none_not_to none q refl e)
  pops_at p a n x (v4 m eh ed ew) o q e = absurd (none_not_to none q refl e)
  pops_at p a n x (v5 eh) o q e = absurd (none_not_to none q refl e)
  pops_at p a n x (v6 {p = i} m k eh ed ew) o q e = subst (Pops p) (to_ptr i q e) (leaving m leave6 eh)
  pops_at p a n x (v7 {p = i} m k eh ed ew ec) o q e = subst (Pops p) (to_ptr i q e) (leaving m leave7 eh)
  pops_at p a n x (v8 {p = i} m eh ed ec ew) o q e = subst (Pops p) (to_ptr i q e) (leaving m leave8 eh)
  pops_at p a n x (v9 {p = i} m eh ed ew) o q e = subst (Pops p) (to_ptr i q e) (leaving m leave9 eh)
  pops_at p a n x (v10 {p = i} m eh ed) o q e = subst (Pops p) (to_ptr i q e) (left o.1)
  pops_at p a n x (v11 {p = i} m eh ed) o q e = subst (Pops p) (to_ptr i q e) (left o.1)
  pops_at p a n x (v12 {p = i} m eh ed) o q e = subst (Pops p) (to_ptr i q e) (left (λ z. absurd (omega (arith, o.2))))
  pops_at p a n x (v13 ed l) o q e = absurd (none_not_to none q refl e)
  pops_at p a n x (v14 ed l) o q e = absurd (none_not_to none q refl e)
  pops_at p a n x (v15 ed) o q e = absurd (none_not_to none q refl e)
  pops_at p a n x len1 o q e = absurd (none_not_to none q refl e)
  pops_at p a n x len2 o q e = absurd (none_not_to none q refl e)
  pops_at p a n x len3 o q e = absurd (none_not_to none q refl e)
  pops_at p a n x empty1 o q e = absurd (none_not_to none q refl e)
  pops_at p a n x empty2 o q e = absurd (none_not_to none q refl e)
  pops_at p a n x full1 o q e = absurd (none_not_to none q refl e)
  pops_at p a n x close1 o q e = absurd (none_not_to none q refl e)
  pops_at p a n x closed1 o q e = absurd (none_not_to none q refl e)

  -- a block is destroyed only where head has passed it
  no_walk : (j i : ℕ) → s.first ≡ By v → s.dest j ≡ Walk v i → ⊥
  no_walk j i f d = go (s.pop (32 * j + 30)) refl
    where
      head_0 : s.head ≡ 0
      head_0 = (inv.ends.unfronted (λ z. hand_by_done s.first v f z)).1

      go : (h : Hand) → s.pop (32 * j + 30) ≡ h → ⊥
      go Done z = omega (arith, inv.hands.passed j z, head_0)
      go Open z = walk_not_wait (s.dest j) v i d (inv.dests.waits j (λ y. hand_open_done (s.pop (32 * j + 30)) z y))
      go (By u) z = walk_not_wait (s.dest j) v i d (inv.dests.waits j (λ y. hand_by_done (s.pop (32 * j + 30)) u z y))

  pub fronts_at : (p : Place) (a n : Ptr) (x : Seen) → Stands p a n x → SeenOk s v x → s.first ≡ By v → (b : ℕ) → block_of x ≡ to b → Fronting p
  fronts_at p a n x idle o f b e = absurd (none_not_to none b refl e)
  fronts_at p a n x (u1 en) o f b e = absurd (none_not_to none b refl e)
  fronts_at p a n x (u2 en et) o f b e = absurd (none_not_to none b refl e)
  fronts_at p a n x (u3 et ed l) o f b e = absurd (none_not_to none b refl e)
  fronts_at p a n x (u4 en et) o f b e = absurd (none_not_to none b refl e)
  fronts_at p a n x (u5 en et ed) o f b e = absurd (none_not_to none b refl e)
  fronts_at p a n x (u6 en et ed) o f b e = front6
  fronts_at p a n x (u7 en et ed l) o f b e = absurd (none_not_to none b refl e)
  fronts_at p a n x (u8 en et) o f b e = absurd (none_not_to none b refl e)
  fronts_at p a n x (u9 en et ed) o f b e = absurd (none_not_to none b refl e)
  fronts_at p a n x (u10 en et ed) o f b e = absurd (none_not_to none b refl e)
  fronts_at p a n x (u11 en et ed) o f b e = absurd (none_not_to none b refl e)
  fronts_at p a n x (u12 en et ed) o f b e = absurd (none_not_to none b refl e)
  fronts_at p a n x (u13 en et ed) o f b e = absurd (none_not_to none b refl e)
  fronts_at p a n x (u14 en ok) o f b e = absurd (none_not_to none b refl e)
  fronts_at p a n x (u15 en ed) o f b e = absurd (none_not_to none b refl e)
  fronts_at p a n x v1 o f b e = absurd (none_not_to none b refl e)
  fronts_at p a n x (v2 eh) o f b e = absurd (none_not_to none b refl e)
  fronts_at p a n x (v3 eh ed) o f b e = absurd (none_not_to none b refl e)
  fronts_at p a n x (v4 m eh ed ew) o f b e = absurd (none_not_to none b refl e)
  fronts_at p a n x (v5 eh) o f b e = absurd (none_not_to none b refl e)
  fronts_at p a n x (v6 m k eh ed ew) o f b e = absurd (none_not_to none b refl e)
  fronts_at p a n x (v7 m k eh ed ew ec) o f b e = absurd (none_not_to none b refl e)
  fronts_at p a n x (v8 m eh ed ec ew) o f b e = absurd (none_not_to none b refl e)
  fronts_at p a n x (v9 m eh ed ew) o f b e = absurd (none_not_to none b refl e)
  fronts_at p a n x (v10 m eh ed) o f b e = absurd (none_not_to none b refl e)
  fronts_at p a n x (v11 m eh ed) o f b e = absurd (none_not_to none b refl e)
  fronts_at p a n x (v12 m eh ed) o f b e = absurd (none_not_to none b refl e)
  fronts_at p a n x (v13 {i = i} ed l) o f b e = absurd (no_walk o.0 i f o.1)
  fronts_at p a n x (v14 {i = i} ed l) o f b e = absurd (no_walk o.0 i f o.1)
  fronts_at p a n x (v15 ed) o f b e = absurd (no_walk o.0 30 f o.1)
  fronts_at p a n x len1 o f b e = absurd (none_not_to none b refl e)
  fronts_at p a n x len2 o f b e = absurd (none_not_to none b refl e)
  fronts_at p a n x len3 o f b e = absurd (none_not_to none b refl e)
  fronts_at p a n x empty1 o f b e = absurd (none_not_to none b refl e)
  fronts_at p a n x empty2 o f b e = absurd (none_not_to none b refl e)
  fronts_at p a n x full1 o f b e = absurd (none_not_to none b refl e)
  fronts_at p a n x close1 o f b e = absurd (none_not_to none b refl e)
  fronts_at p a n x closed1 o f b e = absurd (none_not_to none b refl e)
