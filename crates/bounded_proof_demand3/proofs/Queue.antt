-- A call only begun, and alone, answers as a plain queue of the waiting items does.
use mathlib.Core.Path.{◌≡◌, refl, sym, ap, ◌∙◌, subst}
use mathlib.Core.Bool.{Bool, true, false}
use mathlib.Core.List.{List, [], ◌∷◌}
use Prim.Native.Nat.{ℕ, ◌+◌, ◌%◌, ◌<◌, ◌-◌}
use native.Mathlib.Omega.{arith}
use native.Mathlib.Nat.{mod-lt}
use lib.Dec.{eqb}
use lib.ListN.{length, get_or, length-drop}
use lib.Seq.{get_or-drop}
use borrow.Author.Tests.{eq-eqb, ne_eqb, eqb-true, eqb-false}
use Rattle.queue_entries.specs.declared.Call.{Call}
use Rattle.queue_entries.specs.declared.Call.TheVariants as call
use Rattle.bounded_words.specs.declared.Stamp.{Stamp}
use Rattle.bounded_words.specs.declared.Fixed.{Fixed}
use Rattle.bounded_words.specs.declared.Width.{Width}
use Rattle.bounded_words.specs.Words.{mark_of, index_of, marked_of, unmarked_of, same, lap_behind}
use Rattle.bounded_places.specs.declared.Slot.{Slot}
use Rattle.bounded_places.specs.declared.Ends.{Ends}
use Rattle.bounded_places.specs.declared.Answer.TheVariants.{Popped, Len}
use Rattle.bounded_places.specs.declared.Place.{Place}
use Rattle.bounded_places.specs.Places.{view_of, begin_of}
use Rattle.bounded_acts.specs.Acts.{count_of, yes_no}
use Rattle.bounded_machine.specs.declared.Machine.{Machine}
use Rattle.bounded_machine.specs.declared.Event.{Event}
use Rattle.bounded_machine.specs.Machine.{slot, fixed_on, ends_on}
use Rattle.bounded_machine.specs.Contents.{count_on}
use Rattle.bounded_demands.specs.Notions.{items_of, tally, waiting, OtherHand, value_at, queue_answer}
use Rattle.bounded_demands.specs.Foretold.{foretold_of, own_value, foretold}
use Rattle.bounded_proof_invariant.proofs.Width.{near_one, turn_long}
use Rattle.bounded_proof_invariant.proofs.Ring.{Cell, Await, Hold, Shared, CellOk}
use Rattle.bounded_proof_invariant.proofs.Effects.{Loose}
use Rattle.bounded_proof_each_act.proofs.Stamps.{fixed, W, word_slot, unmarked_tail}
use Rattle.bounded_proof_each_act.proofs.Sight.{look, HandAt}
use Rattle.bounded_proof_demand2.proofs.Turns.{stood}
use Rattle.bounded_proof_demand2.proofs.Counts.{tally_head}
use Rattle.bounded_proof_demand2.proofs.Contents.{count_in_lem}
use Rattle.bounded_proof_demand2.proofs.Pictured.{Base}
use Rattle.bounded_proof_demand2.proofs.Reached.{Reached}
use Rattle.bounded_proof_demand3.proofs.Found.{tail_is, behind_is}
use Rattle.bounded_proof_demand3.proofs.Solo.{loose}

-- two tests that say the same
as_one : (a b j k : ℕ) → (a ≡ b → j ≡ k) → (j ≡ k → a ≡ b) → eqb a b ≡ eqb j k
as_one a b j k to from = go (eqb j k) refl
  where
    go : (t : Bool) → eqb j k ≡ t → eqb a b ≡ t
    go true e = eq-eqb a b (from (eqb-true j k e))
    go false e = ne_eqb a b (λ q. eqb-false j k e (to q))

-- a call only begun has nothing in hand
begun_empty : (c mark j : ℕ) (q : Call) → HandAt mark (look c (begin_of q)) j → ⊥
begun_empty c mark j (call.Push x) h = h
begun_empty c mark j (call.ForcePush x) h = h
begun_empty c mark j call.Pop h = h
begun_empty c mark j call.Len h = h
begun_empty c mark j call.IsEmpty h = h
begun_empty c mark j call.IsFull h = h
begun_empty c mark j call.Close h = h
begun_empty c mark j call.IsClosed h = h

-- the words, read as a queue q of so many items with v in front
module _ (bits : Width) (f : Fixed) (e : Ends) (v u : ℕ) (some : 0 < f.capacity) where
  pub answer_is : (k : Call) (q : List ℕ) → lap_behind bits f e.head (unmarked_of f e.tail) ≡ eqb (length q) f.capacity
      → same (unmarked_of f e.tail) e.head ≡ eqb (length q) 0 → count_of f e.tail e.head ≡ length q → (0 < length q → v ≡ get_or q 0 0)
      → foretold_of bits f e v u (begin_of k) ≡ queue_answer k (marked_of f e.tail) f.capacity q
  answer_is (call.Push x) q full empty count front = rw full
  answer_is (call.ForcePush x) [] full empty count front = rw (full, ne_eqb 0 f.capacity (λ z. omega arith))
  answer_is (call.ForcePush x) (y ∷ q) full empty count front = rw (full, front (omega arith))
  answer_is call.Pop [] full empty count front = rw empty
  answer_is call.Pop (y ∷ q) full empty count front = rw (empty, ne_eqb (length (y ∷ q)) 0 (λ z. omega arith)) (ap Popped (front (omega arith)))
  answer_is call.Len q full empty count front = ap Len count
  answer_is call.IsEmpty q full empty count front = ap yes_no empty
  answer_is call.IsFull q full empty count front = ap yes_no full
  answer_is call.Close q full empty count front = refl
  answer_is call.IsClosed q full empty count front = refl

module _ (bits : Width) (c n workers : ℕ) (base : Base bits c n workers) (m : Machine) (h : List Event) (r : Reached c n workers m h) (w : ℕ) where
  abbrev s : Shared
  s = r.ring

  abbrev mark : ℕ
  mark = mark_of c

  some : 0 < c
  some = base.ground.laws.some

  heads : (tally h).head.0 ≡ s.head
  heads = tally_head h ∙ r.logged.lists.takers_are.long

  long : length (waiting h) ≡ s.tail - s.head
  long = length-drop (tally h).head.0 (items_of h) ∙ omega (arith, heads, r.logged.lists.items_are.long)

  -- the words' tests
  full_is : lap_behind bits (fixed_on m.ring) m.ring.head (unmarked_of (fixed_on m.ring) m.ring.tail) ≡ eqb (length (waiting h)) m.ring.capacity
  full_is =
      let pic = r.pictured in
      let inv = pic.inv in
      let turn = turn_long c mark n base.ground.laws in
      ap (λ (f : Fixed). lap_behind bits f m.ring.head (unmarked_of f m.ring.tail)) pic.rule
      ∙ ap (λ (e : Ends). lap_behind bits (fixed c mark m.ring.edition) e.head (unmarked_of (fixed c mark m.ring.edition) e.tail)) pic.ends
      ∙ ap (λ (z : Stamp). lap_behind bits (fixed c mark m.ring.edition) (W c mark n s.head) z) (unmarked_tail bits c mark n base.ground m.ring.edition s.tail pic.shut)
      ∙ behind_is bits c mark n m.ring.edition base.ground s inv s.tail (omega arith) (omega (arith, turn, inv.low, some))
      ∙ as_one (s.head + c) s.tail (length (waiting h)) c (λ z. omega (arith, long)) (λ z. omega (arith, long, inv.low))
      ∙ ap (λ (f : Fixed). eqb (length (waiting h)) f.capacity) (sym pic.rule)

  empty_is : same (unmarked_of (fixed_on m.ring) m.ring.tail) m.ring.head ≡ eqb (length (waiting h)) 0
  empty_is =
      let pic = r.pictured in
      let inv = pic.inv in
      let turn = turn_long c mark n base.ground.laws in
      ap (λ (f : Fixed). same (unmarked_of f m.ring.tail) m.ring.head) pic.rule
      ∙ ap (λ (e : Ends). same (unmarked_of (fixed c mark m.ring.edition) e.tail) e.head) pic.ends
      ∙ tail_is bits c mark n m.ring.edition base.ground s inv pic.shut s.head inv.low (omega (arith, turn, inv.high, some))
      ∙ as_one s.tail s.head (length (waiting h)) 0 (λ z. omega (arith, long)) (λ z. omega (arith, long, inv.low))

  -- the first item is in the slot at head
  held : (x : Cell) → s.cell (s.head % c) ≡ x → Loose x → s.head < s.tail → CellOk c s (s.head % c) x → s.val (s.head % c) ≡ s.item s.head
  held (Await k) e l more o = absurd (omega (arith, o.1, near_one c s.head k some (omega (arith, o.1)) o.2 o.0))
  held (Hold k) e l more o =
      let q : k ≡ s.head = near_one c s.head k some o.1 (omega (arith, o.2, r.pictured.inv.high)) o.0 in
      o.3.0 ∙ ap s.item q
  held (Rattle.bounded_proof_invariant.proofs.Ring.Hand _ _ _) e l more o = elim l [ ]

  front_is : Loose (s.cell (s.head % c)) → 0 < length (waiting h) → value_at m m.ring.head ≡ get_or (waiting h) 0 0
  front_is l some_wait =
      let pic = r.pictured in
      let more : s.head < s.tail = omega (arith, long) in
      let at : index_of (fixed_on m.ring) m.ring.head ≡ s.head % c =
      ap (λ (f : Fixed). index_of f m.ring.head) pic.rule
      ∙ word_slot bits c mark n base.ground m.ring.head s.head (ap (λ (e : Ends). e.head) pic.ends) in
      let first : (tally h).head.0 + 0 ≡ s.head = omega (arith, heads) in
      ap (λ (j : ℕ). (get_or m.ring.slots j (slot 0 0)).value) at
      ∙ ap (λ (z : Slot). z.value) (pic.slots (s.head % c) (mod-lt s.head some))
      ∙ held (s.cell (s.head % c)) refl l more (pic.inv.cells (s.head % c) (mod-lt s.head some))
      ∙ sym (get_or-drop (tally h).head.0 (items_of h) 0 0 ∙ ap (λ (j : ℕ). get_or (items_of h) j 0) first ∙ r.logged.lists.items_are.at s.head more)

  pub queue_is : (k : Call) → stood m w ≡ begin_of k → (view_of (stood m w)).busy ≡ true → (OtherHand m w → ⊥)
      → foretold bits m w ≡ queue_answer k (marked_of (fixed_on m.ring) m.ring.tail) m.ring.capacity (waiting h)
  unfolding count_on
  queue_is k e busy free =
      let pic = r.pictured in
      let f = fixed_on m.ring in
      let cap : 0 < m.ring.capacity = subst (λ (f : Fixed). 0 < f.capacity) (sym pic.rule) some in
      let l : Loose (s.cell (s.head % c)) =
      loose bits c n workers base s m pic w busy free (s.head % c) (mod-lt s.head some)
      (λ z. begun_empty c mark (s.head % c) k (subst (λ (q : Place). HandAt mark (look c q) (s.head % c)) e z)) in
      ap (λ (q : Place). foretold_of bits f (ends_on m.ring) (value_at m m.ring.head) (own_value m q) q) e
      ∙ answer_is bits f (ends_on m.ring) (value_at m m.ring.head) (own_value m (begin_of k)) cap k (waiting h) full_is empty_is (count_in_lem bits c n workers base m h r ∙ sym long) (front_is l)
