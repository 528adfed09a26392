-- With all workers idle the slots from head on hold the items of the claims not yet taken.
use mathlib.Core.Path.{◌≡◌, refl, sym, ap, ◌∙◌, subst}
use mathlib.Core.Bool.{true, false, not}
use mathlib.Core.List.{List}
use Prim.Native.Nat.{ℕ, zero, suc, ◌+◌, ◌%◌, ◌≤◌, ◌<◌, ◌-◌}
use native.Mathlib.Omega.{arith}
use native.Mathlib.Nat.{mod-lt}
use native.Mathlib.Decide.{dec_lt, dec_le}
use lib.ListN.{length, get_or, drop, length-drop, drop_of_length-le, get_or-eq_default}
use lib.Seq.{drop-cons}
use borrow.Author.Tests.{not-true}
use Rattle.bounded_words.specs.declared.Fixed.{Fixed}
use Rattle.bounded_words.specs.declared.Width.{Width}
use Rattle.bounded_words.specs.Words.{mark_of, index_of}
use Rattle.bounded_places.specs.declared.Slot.{Slot}
use Rattle.bounded_places.specs.declared.Ends.{Ends}
use Rattle.bounded_places.specs.declared.Worker.{Worker}
use Rattle.bounded_places.specs.Places.{view_of}
use Rattle.bounded_acts.specs.Acts.{count_of}
use Rattle.bounded_machine.specs.declared.Machine.{Machine}
use Rattle.bounded_machine.specs.declared.Event.{Event}
use Rattle.bounded_machine.specs.Machine.{slot, place_of, idler, fixed_on}
use Rattle.bounded_machine.specs.Broken.{all_idle}
use Rattle.bounded_machine.specs.Contents.{count_in, count_on, wrapped, item_at, item_on, items_from, items_on, contents_of, list_on}
use Rattle.bounded_machine.specs.History.{untaken_of}
use Rattle.bounded_machine.proofs.Kept.{every}
use Rattle.bounded_demands.specs.Notions.{items_of, tally, waiting}
use Rattle.bounded_proof_invariant.proofs.Width.{index_word, near_one}
use Rattle.bounded_proof_invariant.proofs.Ring.{Cell, Await, Hold, Hand, Mine, CellOk}
use Rattle.bounded_proof_each_act.proofs.Stamps.{fixed}
use Rattle.bounded_proof_demand2.proofs.Turns.{stood}
use Rattle.bounded_proof_demand2.proofs.Counts.{tally_tail, tally_head, wrapped_is, count_is}
use Rattle.bounded_proof_demand2.proofs.Pictured.{Base, idle_hand}
use Rattle.bounded_proof_demand2.proofs.Reached.{Reached}

pub idle_at : (ws : List Worker) → all_idle ws ≡ true → (w : ℕ) → (view_of (place_of ws w)).busy ≡ false
unfolding all_idle
idle_at ws e w = go (dec_lt w (length ws))
  where
    go : Dec (w < length ws) → (view_of (place_of ws w)).busy ≡ false
    go (yes l) = not-true _ (every (length ws) 0 (λ (i : ℕ). not (view_of (place_of ws i)).busy) e w (omega arith) (omega arith))
    go (no l) =
        let past : length ws ≤ w = omega arith in
        ap (λ (z : Worker). (view_of z.place).busy) (get_or-eq_default ws idler past)

module _ (bits : Width) (c n workers : ℕ) (base : Base bits c n workers) (m : Machine) (h : List Event) (r : Reached c n workers m h) where
  -- `len`'s count of the machine's own ends
  pub count_in_lem : count_in m ≡ r.ring.tail - r.ring.head
  unfolding count_on
  count_in_lem =
      let pic = r.pictured in
      ap (λ (f : Fixed). count_of f m.ring.tail m.ring.head) pic.rule
      ∙ ap (λ (e : Ends). count_of (fixed c (mark_of c) m.ring.edition) e.tail e.head) pic.ends
      ∙ count_is bits c (mark_of c) n m.ring.edition base.ground r.ring.head r.ring.tail pic.shut pic.inv.low pic.inv.high

  pub untaken_is : untaken_of (tally h) ≡ r.ring.tail - r.ring.head
  unfolding untaken_of
  untaken_is = omega (arith, tally_tail h, tally_head h, r.logged.lists.tailers_are.long, r.logged.lists.takers_are.long)

  module _ (idle : all_idle m.workers ≡ true) where
    -- no slot is in hand
    loose : (i : ℕ) → i < c → (w : ℕ) → Mine w (r.ring.cell i) → ⊥
    loose i l w mine = idle_hand c (mark_of c) i (stood m w) (idle_at m.workers idle w) (r.pictured.back i l w mine)

    -- every claim between head and tail has its item in its slot
    settled : (k : ℕ) → r.ring.head ≤ k → k < r.ring.tail → r.ring.val (k % c) ≡ r.ring.item k
    settled k low high = go (r.ring.cell (k % c)) refl
      where
        some : 0 < c
        some = base.ground.laws.some

        ok : (x : Cell) → r.ring.cell (k % c) ≡ x → CellOk c r.ring (k % c) x
        ok x e = rw e at (r.pictured.inv.cells (k % c) (mod-lt k some))

        same : (j : ℕ) → j % c ≡ k % c → r.ring.head ≤ j → j < r.ring.head + c → j ≡ k
        same j e a b = near (dec_le k j)
          where
            near : Dec (k ≤ j) → j ≡ k
            near (yes l) = near_one c k j some l (omega arith) e
            near (no l) = sym (near_one c j k some (omega arith) (omega (arith, r.pictured.inv.high)) (sym e))

        go : (x : Cell) → r.ring.cell (k % c) ≡ x → r.ring.val (k % c) ≡ r.ring.item k
        go (Await j) e =
            let o = ok (Await j) e in
            let q : j ≡ k = same j o.0 (omega (arith, o.1)) o.2 in
            absurd (omega (arith, o.1))
        go (Hold j) e =
            let o = ok (Hold j) e in
            let q : j ≡ k = same j o.0 o.1 (omega (arith, o.2, r.pictured.inv.high)) in
            o.3.0 ∙ ap r.ring.item q
        go (Hand st j w) e = absurd (loose (k % c) (mod-lt k some) w (subst (Mine w) (sym e) refl))

    item_at_lem : (d : ℕ) → d < r.ring.tail - r.ring.head → item_at m d ≡ get_or (items_of h) (r.ring.head + d) 0
    unfolding item_on
    item_at_lem d l =
        let pic = r.pictured in
        let some = base.ground.laws.some in
        let cap : m.ring.capacity ≡ c = ap (λ (f : Fixed). f.capacity) pic.rule in
        let head_index : index_of (fixed_on m.ring) m.ring.head ≡ r.ring.head % c =
        ap (λ (f : Fixed). index_of f m.ring.head) pic.rule ∙ ap (λ (e : Ends). index_of (fixed c (mark_of c) m.ring.edition) e.head) pic.ends
        ∙ index_word c (mark_of c) n base.ground.laws r.ring.head in
        let few : d < c = omega (arith, pic.inv.high) in
        let there : wrapped m.ring.capacity (index_of (fixed_on m.ring) m.ring.head + d) ≡ (r.ring.head + d) % c =
        ap (λ (z : ℕ). wrapped z (index_of (fixed_on m.ring) m.ring.head + d)) cap ∙ ap (λ (z : ℕ). wrapped c (z + d)) head_index
        ∙ wrapped_is c r.ring.head d some few in
        let k : ℕ = r.ring.head + d in
        let low : r.ring.head ≤ r.ring.head + d = omega arith in
        let high : r.ring.head + d < r.ring.tail = omega arith in
        ap (λ (z : ℕ). (get_or m.ring.slots z (slot 0 0)).value) there
        ∙ ap (λ (z : Slot). z.value) (pic.slots ((r.ring.head + d) % c) (mod-lt (r.ring.head + d) some))
        ∙ settled (r.ring.head + d) low high
        ∙ sym (r.logged.lists.items_are.at (r.ring.head + d) high)

    items_from_lem : (more d : ℕ) → d + more ≡ r.ring.tail - r.ring.head → items_from m more d ≡ drop (r.ring.head + d) (items_of h)
    unfolding items_on
    items_from_lem zero d e =
        let past : length (items_of h) ≤ r.ring.head + d = omega (arith, r.logged.lists.items_are.long, r.pictured.inv.low) in
        sym (drop_of_length-le (items_of h) past)
    items_from_lem (suc more) d e =
        let here : r.ring.head + d < length (items_of h) = omega (arith, r.logged.lists.items_are.long) in
        let up : r.ring.head + (d + 1) ≡ suc (r.ring.head + d) = omega arith in
        rw (drop-cons (items_of h) (r.ring.head + d) 0 here, item_at_lem d (omega arith), items_from_lem more (d + 1) (omega arith), up)

    pub contents_are : contents_of m ≡ waiting h
    unfolding list_on
    contents_are =
        let z : r.ring.head + 0 ≡ (tally h).head.0 = omega (arith, tally_head h, r.logged.lists.takers_are.long) in
        ap (λ (k : ℕ). items_from m k 0) count_in_lem ∙ items_from_lem (r.ring.tail - r.ring.head) 0 (omega arith) ∙ ap (λ (k : ℕ). drop k (items_of h)) z

    pub contents_number : untaken_of (tally h) ≡ length (contents_of m)
    contents_number =
        let l : length (waiting h) ≡ length (items_of h) - (tally h).head.0 = length-drop (tally h).head.0 (items_of h) in
        untaken_is
        ∙ omega (arith, l, ap length contents_are, tally_head h, r.logged.lists.takers_are.long, r.logged.lists.items_are.long)
