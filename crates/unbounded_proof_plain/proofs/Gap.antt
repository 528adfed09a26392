-- Head's index stands at a block's end exactly where a pop stands between its claim of the block's last slot and its store of head's index; and tail's only where a push stands between its claim
-- of such a slot and its add to tail's index.
use Prim.Native.Nat.{ℕ, ◌+◌, ◌*◌, ◌-◌, ◌/◌, ◌%◌, ◌≤◌}
use native.Mathlib.Omega.{arith}
use mathlib.Core.Path.{◌≡◌, refl, sym, ap, ◌∙◌}
use mathlib.Core.Bool.{true}
use mathlib.Core.List.{List}
use Rattle.unbounded_places.specs.declared.Ends.{Ends}
use Rattle.unbounded_places.specs.declared.Block.{Block}
use Rattle.unbounded_places.specs.declared.Slot.{Slot}
use Rattle.unbounded_places.specs.declared.Worker.{Worker}
use Rattle.unbounded_places.specs.declared.Place.{Place}
use Rattle.unbounded_demands.specs.Stories.{Emptying, leaving6, leaving7, leaving8, leaving9, Filling, filling9, filling10}
use Rattle.unbounded_proof_invariant.proofs.Queue.{Ptr, none, to, Hand, Open, Done, By, Shared, Inv}
use Rattle.unbounded_proof_invariant.proofs.Views.{Seen, SeenOk}
use Rattle.unbounded_proof_invariant.proofs.Own.{push_of, pop_of, none_not_to}
use Rattle.unbounded_proof_words.proofs.Stands.{place_of, Stands, idle, u1, u2, u3, u4, u5, u6, u7, u8, u9, u10, u11, u12, u13, u14, u15, v1, v2, v3, v4, v5, v6}
use Rattle.unbounded_proof_words.proofs.Stands.{v7, v8, v9, v10, v11, v12, v13, v14, v15, len1, len2, len3, empty1, empty2, full1, close1, closed1, Sim}

pub to_ptr : (p q : ℕ) → to p ≡ to q → p ≡ q
to_ptr p q e = cc

pub not_none : {P : Type 0} (q : ℕ) → none ≡ to q → P
not_none q e = absurd (none_not_to none q refl e)

module _ (s : Shared) (w q : ℕ) (at_end : s.head ≡ q + 1) (last : q % 32 ≡ 30) where
  -- one that waits for the value has moved head's index on
  moved : {P : Type 0} (p : ℕ) → to p ≡ to q → (p % 32 ≡ 30 → 32 * (p / 32 + 1) ≤ s.head) → P
  moved p e f =
      let same = to_ptr p q e in
      let l = f (ap (λ (n : ℕ). n % 32) same ∙ last) in
      absurd (omega arith)

  leaves : (p : Place) (a n : Ptr) (x : Seen) → Stands p a n x → SeenOk s w x → pop_of x ≡ to q → Emptying p
  leaves p a n x idle o e = not_none q e
  leaves p a n x (u1 en) o e = not_none q e
  leaves p a n x (u2 en et) o e = not_none q e
  leaves p a n x (u3 et ed l) o e = not_none q e
  leaves p a n x (u4 en et) o e = not_none q e
  leaves p a n x (u5 en et ed) o e = not_none q e
  leaves p a n x (u6 en et ed) o e = not_none q e
  leaves p a n x (u7 en et ed l) o e = not_none q e
  leaves p a n x (u8 en et) o e = not_none q e
  leaves p a n x (u9 en et ed) o e = not_none q e
  leaves p a n x (u10 en et ed) o e = not_none q e
  leaves p a n x (u11 en et ed) o e = not_none q e
  leaves p a n x (u12 en et ed) o e = not_none q e
  leaves p a n x (u13 en et ed) o e = not_none q e
  leaves p a n x (u14 en ok) o e = not_none q e
  leaves p a n x (u15 en ed) o e = not_none q e
  leaves p a n x v1 o e = not_none q e
  leaves p a n x (v2 eh) o e = not_none q e
  leaves p a n x (v3 eh ed) o e = not_none q e
  leaves p a n x (v4 m eh ed ew) o e = not_none q e
  leaves p a n x (v5 eh) o e = not_none q e
  leaves p a n x (v6 m k eh ed ew) o e = leaving6
  leaves p a n x (v7 m k eh ed ew ec) o e = leaving7
  leaves p a n x (v8 m eh ed ec ew) o e = leaving8
  leaves p a n x (v9 m eh ed ew) o e = leaving9
  leaves p a n x (v10 {p = i} m eh ed) o e = moved i e o.1
  leaves p a n x (v11 {p = i} m eh ed) o e = moved i e o.1
  leaves p a n x (v12 {p = i} m eh ed) o e = let same = to_ptr i q e in absurd (omega (arith, o.2))
  leaves p a n x (v13 ed l) o e = not_none q e
  leaves p a n x (v14 ed l) o e = not_none q e
  leaves p a n x (v15 ed) o e = not_none q e
  leaves p a n x len1 o e = not_none q e
  leaves p a n x len2 o e = not_none q e
  leaves p a n x len3 o e = not_none q e
  leaves p a n x empty1 o e = not_none q e
  leaves p a n x empty2 o e = not_none q e
  leaves p a n x full1 o e = not_none q e
  leaves p a n x close1 o e = not_none q e
  leaves p a n x closed1 o e = not_none q e

-- and so it is only there
pub leaving_gap : (s : Shared) (w : ℕ) (p : Place) (a n : Ptr) (x : Seen) → Stands p a n x → SeenOk s w x → Emptying p → s.head % 32 ≡ 31
leaving_gap s w p a n x st o e = go p a n x e st o
  where
    go : (p : Place) (a n : Ptr) (x : Seen) → Emptying p → Stands p a n x → SeenOk s w x → s.head % 32 ≡ 31
    go p a n x leaving6 (v6 m k eh ed ew) o = omega (arith, o.1, o.2)
    go p a n x leaving7 (v7 m k eh ed ew ec) o = omega (arith, o.1, o.2)
    go p a n x leaving8 (v8 m eh ed ec ew) o = omega (arith, o.1, o.2)
    go p a n x leaving9 (v9 m eh ed ew) o = omega (arith, o.1, o.2)

-- ---- tail's index
module _ (s : Shared) (inv : Inv s) (w q : ℕ) (at_end : s.tail ≡ q + 1) (last : q % 32 ≡ 30) where
  -- once the block is tied to the next, tail's index has moved on
  tied : {P : Type 0} (p : ℕ) → to p ≡ to q → (p % 32 ≡ 30 → s.link (p / 32) ≡ true) → P
  tied p e f =
      let same = to_ptr p q e in
      let l = inv.hands.linked (p / 32) (f (ap (λ (n : ℕ). n % 32) same ∙ last)) in
      absurd (omega arith)

  fills : (p : Place) (a n : Ptr) (x : Seen) → Stands p a n x → SeenOk s w x → push_of x ≡ to q → Filling p
  fills p a n x idle o z = not_none q z
  fills p a n x (u1 en) o z = not_none q z
  fills p a n x (u2 en et) o z = not_none q z
  fills p a n x (u3 et ed l) o z = not_none q z
  fills p a n x (u4 en et) o z = not_none q z
  fills p a n x (u5 en et ed) o z = not_none q z
  fills p a n x (u6 en et ed) o z = not_none q z
  fills p a n x (u7 en et ed l) o z = not_none q z
  fills p a n x (u8 en et) o z = not_none q z
  fills p a n x (u9 en et ed) o z = filling9
  fills p a n x (u10 en et ed) o z = filling10
  fills p a n x (u11 {p = i} en et ed) o z = let same = to_ptr i q z in absurd (omega (arith, o.3))
  fills p a n x (u12 {p = i} en et ed) o z = tied i z o.2
  fills p a n x (u13 {p = i} en et ed) o z = tied i z o.1
  fills p a n x (u14 en ok) o z = not_none q z
  fills p a n x (u15 en ed) o z = not_none q z
  fills p a n x v1 o z = not_none q z
  fills p a n x (v2 eh) o z = not_none q z
  fills p a n x (v3 eh ed) o z = not_none q z
  fills p a n x (v4 m eh ed ew) o z = not_none q z
  fills p a n x (v5 eh) o z = not_none q z
  fills p a n x (v6 m k eh ed ew) o z = not_none q z
  fills p a n x (v7 m k eh ed ew ec) o z = not_none q z
  fills p a n x (v8 m eh ed ec ew) o z = not_none q z
  fills p a n x (v9 m eh ed ew) o z = not_none q z
  fills p a n x (v10 m eh ed) o z = not_none q z
  fills p a n x (v11 m eh ed) o z = not_none q z
  fills p a n x (v12 m eh ed) o z = not_none q z
  fills p a n x (v13 ed l) o z = not_none q z
  fills p a n x (v14 ed l) o z = not_none q z
  fills p a n x (v15 ed) o z = not_none q z
  fills p a n x len1 o z = not_none q z
  fills p a n x len2 o z = not_none q z
  fills p a n x len3 o z = not_none q z
  fills p a n x empty1 o z = not_none q z
  fills p a n x empty2 o z = not_none q z
  fills p a n x full1 o z = not_none q z
  fills p a n x close1 o z = not_none q z
  fills p a n x closed1 o z = not_none q z

module _ (e : Ends) (blocks : List Block) (slots : List Slot) (ws : List Worker) (meter : ℕ) (s : Shared) (sim : Sim e blocks slots ws meter s) where
  pub at_gap : s.head % 32 ≡ 31 → (v : ℕ) × Emptying (place_of ws v)
  at_gap gap = held (s.pop (s.head - 1)) refl
    where
      last : (s.head - 1) % 32 ≡ 30
      last = omega arith

      held : (x : Hand) → s.pop (s.head - 1) ≡ x → (v : ℕ) × Emptying (place_of ws v)
      held Open z = absurd (sim.inv.hands.popped (s.head - 1) (omega arith) (omega arith) z)
      held Done z =
          let at : s.head - 1 ≡ 32 * ((s.head - 1) / 32) + 30 = omega arith in
          let l = sim.inv.hands.passed ((s.head - 1) / 32) (ap s.pop (sym at) ∙ z) in
          absurd (omega arith)
      held (By v) z =
          let o = sim.places v in
          (v, leaves s v (s.head - 1) (omega arith) last (place_of ws v) o.aside o.new o.seen o.at o.good.seen (o.good.pops (s.head - 1) z))

  pub tail_gap : s.tail % 32 ≡ 31 → (u : ℕ) × Filling (place_of ws u)
  tail_gap gap = held (s.push (s.tail - 1)) refl
    where
      at : s.tail - 1 ≡ 32 * ((s.tail - 1) / 32) + 30
      at = omega arith

      held : (x : Hand) → s.push (s.tail - 1) ≡ x → (u : ℕ) × Filling (place_of ws u)
      held Open z = absurd (sim.inv.hands.pushed (s.tail - 1) (omega arith) (omega arith) z)
      held Done z =
          let l = sim.inv.hands.linked ((s.tail - 1) / 32) (sim.inv.hands.links ((s.tail - 1) / 32) (ap s.push (sym at) ∙ z)) in
          absurd (omega arith)
      held (By u) z =
          let o = sim.places u in
          (u, fills s sim.inv u (s.tail - 1) (omega arith) (omega arith) (place_of ws u) o.aside o.new o.seen o.at o.good.seen (o.good.pushes (s.tail - 1) z))
