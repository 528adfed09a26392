-- Whoever waits has a holder.
use Prim.Native.Nat.{ℕ, ◌+◌, ◌*◌, ◌-◌, ◌/◌, ◌%◌, ◌<◌}
use mathlib.Core.Path.{◌≡◌, refl, sym, ap, ◌∙◌, subst}
use mathlib.Core.Logic.{◌≢◌}
use mathlib.Core.Bool.{Bool, true, false, cond, true≢false}
use mathlib.Core.List.{List}
use native.Mathlib.Omega.{arith}
use borrow.Author.Tests.{eq-eqb}
use Rattle.unbounded_words.specs.declared.Pointer.{Pointer}
use Rattle.unbounded_words.specs.declared.Pointer.TheVariants.{None, To}
use Rattle.unbounded_words.specs.declared.Index.{Index}
use Rattle.unbounded_words.specs.Words.{sizes, offset_of, number_of}
use Rattle.unbounded_places.specs.declared.Slot.{Slot}
use Rattle.unbounded_places.specs.declared.Block.{Block}
use Rattle.unbounded_places.specs.declared.Ends.{Ends}
use Rattle.unbounded_places.specs.declared.Place.TheVariants.{V6, V10}
use Rattle.unbounded_acts.specs.Acts.{WRITE, has, act_of}
use Rattle.unbounded_machine.specs.declared.Machine.{Machine}
use Rattle.unbounded_machine.specs.declared.Event.{Event}
use Rattle.unbounded_machine.specs.Machine.{slot, block_at, slot_at}
use Rattle.unbounded_demands.specs.Notions.{definition, state_at, position}
use Rattle.unbounded_demands.specs.Waiting.{PushingIn, Crossing, Tying, Leaving, Fronting}
use Rattle.unbounded_demands.specs.Demands.{Holders}
use Rattle.unbounded_proof_invariant.proofs.Queue.{Ptr, Hand, Open, Done, By, Own, Chain, Shared}
use Rattle.unbounded_proof_invariant.proofs.Kept as kept
use Rattle.unbounded_proof_invariant.proofs.Views.{Seen, PopIn}
use Rattle.unbounded_proof_invariant.proofs.Own.{Good}
use Rattle.unbounded_proof_words.proofs.Words.{bit, word, half, offset_word}
use Rattle.unbounded_proof_words.proofs.Stands.{ptr, next_of, is_done, read_bit, state_of, HeadRep, SlotRep, Stands, v6, v10, Standing}
use Rattle.unbounded_proof_words.proofs.Frames.{write_said}
use Rattle.unbounded_proof_words.proofs.Live.{pop_live}
use Rattle.unbounded_proof_demand2.proofs.Turns.{stood}
use Rattle.unbounded_proof_demand2.proofs.Reached.{Reached}
use Rattle.unbounded_proof_progress.proofs.Hands.{Pushes, crossing, tying, tied, pushes_at, Pops, leaving, left, pops_at, fronts_at}

some_none : (c : ℕ) → To c ≡ None → ⊥
some_none c e = let z : ◌≡◌ {A = ℕ} 0 1 = cc in omega arith

pub position_word : (t : Index) (p : ℕ) (m : Bool) → t ≡ word p m → position t ≡ p
position_word t p m e = ap (λ (i : Index). i.0 / 2) e ∙ half p m

module _ (workers : ℕ) (m : Machine) (h : List Event) (r : Reached workers m h) where
  abbrev s : Shared
  s = r.queue

  stands : (w : ℕ) → Standing s w (stood m w)
  stands w = r.sim.places w

  pushes : (v q : ℕ) → s.push q ≡ By v → Pushes s r.sim.inv v (stood m v) q
  pushes v q e =
      let o = stands v in
      pushes_at s r.sim.inv v (stood m v) o.aside o.new o.seen o.at o.good.seen q (o.good.pushes q e)

  pops : (v q : ℕ) → s.pop q ≡ By v → Pops s r.sim.inv v (stood m v) q
  pops v q e =
      let o = stands v in
      pops_at s r.sim.inv v (stood m v) o.aside o.new o.seen o.at o.good.seen q (o.good.pops q e)

  pub tail_is : m.ends.tail ≡ word s.tail s.closed
  tail_is = ap (λ (e : Ends). e.tail) r.sim.ends

  pub head_is : m.ends.head ≡ word s.head s.mark
  head_is = ap (λ (e : Ends). e.head) r.sim.ends

  -- ---- tail's gap, and head's
  module _ (gap : s.tail % 32 ≡ 31) where
    abbrev q : ℕ
    q = s.tail - 1

    tail_held : (x : Hand) → s.push q ≡ x → (v : ℕ) × (t : Index) × Crossing (stood m v) t × (position t + 1 ≡ position m.ends.tail)
    tail_held Open e = absurd (r.sim.inv.hands.pushed q (omega arith) (omega arith) e)
    tail_held Done e =
        let z : 32 * (q / 32) + 30 ≡ q = omega arith in
        let l = r.sim.inv.hands.linked (q / 32) (r.sim.inv.hands.links (q / 32) (ap s.push z ∙ e)) in
        absurd (omega arith)
    tail_held (By v) e = go (pushes v q e)
      where
        go : Pushes s r.sim.inv v (stood m v) q → (v : ℕ) × (t : Index) × Crossing (stood m v) t × (position t + 1 ≡ position m.ends.tail)
        go (crossing {t = t} c y i et eb) = (v, t, c, omega (arith, position_word t q false et, position_word m.ends.tail s.tail s.closed tail_is))
        go (tying y i et eb l) = absurd (omega arith)
        go (tied i et eb l) = let k = r.sim.inv.hands.linked (q / 32) (l (omega arith)) in absurd (omega arith)

  module _ (gap : s.head % 32 ≡ 31) where
    abbrev o : ℕ
    o = s.head - 1

    head_held : (x : Hand) → s.pop o ≡ x → (v : ℕ) × (i : Index) × Leaving (stood m v) i × (position i + 1 ≡ position m.ends.head)
    head_held Open e = absurd (r.sim.inv.hands.popped o (omega arith) (omega arith) e)
    head_held Done e =
        let z : 32 * (o / 32) + 30 ≡ o = omega arith in
        let l = r.sim.inv.hands.passed (o / 32) (ap s.pop z ∙ e) in
        absurd (omega arith)
    head_held (By v) e = go (pops v o e)
      where
        go : Pops s r.sim.inv v (stood m v) o → (v : ℕ) × (i : Index) × Leaving (stood m v) i × (position i + 1 ≡ position m.ends.head)
        go (leaving {h = i} k l eh) = (v, i, l, omega (arith, position_word i o k eh, position_word m.ends.head s.head s.mark head_is))
        go (left l) = let k = l (omega arith) in absurd (omega arith)

  -- ---- the first block
  first_held : m.ends.front ≡ None → 0 < position m.ends.tail → (v : ℕ) × Fronting (stood m v)
  first_held f moved = go s.first refl
    where
      go : (x : Hand) → s.first ≡ x → (v : ℕ) × Fronting (stood m v)
      go Open e = absurd (omega (arith, r.sim.inv.ends.none_yet (r.sim.inv.ends.opens e), position_word m.ends.tail s.tail s.closed tail_is))
      go Done e =
          let b = r.sim.inv.ends.fronted e in
          absurd (some_none b.0 (sym (ap (λ (x : Ends). x.front) r.sim.ends ∙ ap ptr b.1) ∙ f))
      go (By v) e =
          let o = stands v in
          let b = o.good.firsts e in
          (v, fronts_at s r.sim.inv v (stood m v) o.aside o.new o.seen o.at o.good.seen e b.0 b.1)

  -- ---- a pop that has a slot in hand
  module _ (w i k : ℕ) (b : Pointer) (t : Index) (mark : Bool) (held : PopIn s w i k) (eb : b ≡ To k) (et : t ≡ word i mark) where
    own : s.own k ≡ Chain (i / 32)
    own = pop_live s r.sim.inv w i k held

    small : k < 64
    small = r.sim.pool k (λ z. kept.free_not_chain (s.own k) (i / 32) z own)

    unopened : s.push i ≢ Open
    unopened = r.sim.inv.hands.pushed i (omega (arith, held.1, r.sim.inv.ends.low)) held.2

    same_block : (c : Pointer) → c ≡ To (s.phys (i / 32)) → c ≡ b
    same_block c e = e ∙ ap To (sym held.3) ∙ sym eb

    same_position : (u : Index) → u ≡ word i false → position u ≡ position t
    same_position u e = position_word u i false e ∙ sym (position_word t i mark et)

    abbrev Tier : Type 0
    Tier = (v : ℕ) × (u : Index) × Tying (stood m v) b u × (position u ≡ position t)

    untied : (block_at m.blocks (number_of sizes b)).next ≡ None → s.link (i / 32) ≡ true → ⊥
    untied next l =
        let g : block_at m.blocks k ≡ record { next = next_of s.link s.phys (i / 32); free = false } = subst (λ (x : Own). HeadRep s.link s.phys x (block_at m.blocks k)) own
        (r.sim.headers k small) in
        some_none (s.phys (i / 32 + 1))
        (sym (ap (λ (x : Bool). cond x (To (s.phys (i / 32 + 1))) None) l) ∙ sym (ap (λ (x : Block). x.next) g) ∙ sym (ap (λ (d : Pointer). (block_at m.blocks (number_of sizes d)).next) eb) ∙ next)

    tier : i % 32 ≡ 30 → (block_at m.blocks (number_of sizes b)).next ≡ None → (x : Hand) → s.push i ≡ x → Tier
    tier last next Open e = absurd (unopened e)
    tier last next Done e =
        let z : 32 * (i / 32) + 30 ≡ i = omega arith in absurd (untied next (r.sim.inv.hands.links (i / 32) (ap s.push z ∙ e)))
    tier last next (By v) e = go (pushes v i e)
      where
        go : Pushes s r.sim.inv v (stood m v) i → Tier
        go (crossing {t = u} c y p eu ec) = (v, u, subst (λ (d : Pointer). Tying (stood m v) d u) (same_block _ ec) y, same_position u eu)
        go (tying {t = u} y p eu ec l) = (v, u, subst (λ (d : Pointer). Tying (stood m v) d u) (same_block _ ec) y, same_position u eu)
        go (tied p eu ec l) = absurd (untied next (l last))

    abbrev Writer : Type 0
    Writer = (v : ℕ) × (u : Index) × PushingIn (stood m v) b u × (position u ≡ position t)

    written : s.push i ≡ Done → has WRITE (state_at sizes m b t) ≡ true
    unfolding has
    written e = eq-eqb (state_at sizes m b t / 1 % 2) 1 state_is
      where
        cell : slot_at sizes m.slots k (i % 32) ≡ slot (state_of (is_done (s.push (32 * (i / 32) + i % 32))) (read_bit (i % 32) (s.pop (32 * (i / 32) + i % 32))) (s.destroy (i / 32) (i % 32)))
            (s.val (32 * (i / 32) + i % 32))
        cell = subst (λ (x : Own). SlotRep s.push s.pop s.destroy s.val x (i % 32) (slot_at sizes m.slots k (i % 32))) own (r.sim.cells k (i % 32) small held.2)

        here : slot_at sizes m.slots (number_of sizes b) (offset_of sizes t) ≡ slot_at sizes m.slots k (i % 32)
        here = ap (λ (d : Pointer). slot_at sizes m.slots (number_of sizes d) (offset_of sizes t)) eb ∙ ap (slot_at sizes m.slots k) (ap (offset_of sizes) et ∙ offset_word i mark)

        state_is : state_at sizes m b t / 1 % 2 ≡ 1
        state_is =
            let back : 32 * (i / 32) + i % 32 ≡ i = omega arith in
            ap (λ (x : Slot). x.state / 1 % 2) (here ∙ cell)
            ∙ write_said (is_done (s.push (32 * (i / 32) + i % 32))) (read_bit (i % 32) (s.pop (32 * (i / 32) + i % 32))) (s.destroy (i / 32) (i % 32))
            ∙ ap (λ (p : ℕ). bit (is_done (s.push p))) back ∙ ap (λ (x : Hand). bit (is_done x)) e

    writer : has WRITE (state_at sizes m b t) ≡ false → (x : Hand) → s.push i ≡ x → Writer
    writer clear Open e = absurd (unopened e)
    writer clear Done e = absurd (true≢false (sym (written e) ∙ clear))
    writer clear (By v) e = go (pushes v i e)
      where
        go : Pushes s r.sim.inv v (stood m v) i → Writer
        go (crossing {t = u} c y p eu ec) = (v, u, subst (λ (d : Pointer). PushingIn (stood m v) d u) (same_block _ ec) p, same_position u eu)
        go (tying {t = u} y p eu ec l) = (v, u, subst (λ (d : Pointer). PushingIn (stood m v) d u) (same_block _ ec) p, same_position u eu)
        go (tied {t = u} p eu ec l) = (v, u, subst (λ (d : Pointer). PushingIn (stood m v) d u) (same_block _ ec) p, same_position u eu)

  next_held : (w : ℕ) (t new : Index) (b : Pointer) → (block_at m.blocks (number_of sizes b)).next ≡ None → (a n : Ptr) (x : Seen) → Stands (V6 t b new) a n x → Good s w a n x
      → (v : ℕ) × (u : Index) × Tying (stood m v) b u × (position u ≡ position t)
  next_held w t new b next a n x (v6 {p = i} {b = k} mark l eh ed ew) g = tier w i k b t mark g.seen.0 ed eh g.seen.1 next (s.push i) refl

  write_held : (w : ℕ) (t : Index) (b : Pointer) → has WRITE (state_at sizes m b t) ≡ false → (a n : Ptr) (x : Seen) → Stands (V10 t b) a n x → Good s w a n x
      → (v : ℕ) × (u : Index) × PushingIn (stood m v) b u × (position u ≡ position t)
  write_held w t b clear a n x (v10 {p = i} {b = k} mark eh ed) g = writer w i k b t mark g.seen.0 ed eh clear (s.push i) refl

  pub holders : Holders (definition sizes act_of) m
  holders =
      record {
        tail = λ e. tail_held (sym (offset_word s.tail s.closed) ∙ ap (offset_of sizes) (sym tail_is) ∙ e) (s.push (s.tail - 1)) refl;
        head = λ e. head_held (sym (offset_word s.head s.mark) ∙ ap (offset_of sizes) (sym head_is) ∙ e) (s.pop (s.head - 1)) refl;
        first = first_held;
        next = λ w t new b e clear. let o = subst (Standing s w) e (stands w) in next_held w t new b clear o.aside o.new o.seen o.at o.good;
        write = λ w t b e clear. let o = subst (Standing s w) e (stands w) in write_held w t b clear o.aside o.new o.seen o.at o.good;
      }
