-- A pop alone: how many acts it is from its end, by the words as they are; that number falls with every act. (50 at a place that is not a pop's.)
use Prim.Native.Nat.{ℕ, ◌+◌, ◌*◌, ◌-◌, ◌/◌, ◌%◌, ◌<◌, ◌≤◌}
use mathlib.Core.Path.{◌≡◌, refl, sym, ap, ◌∙◌, subst}
use mathlib.Core.Bool.{Bool, true, false, cond, true≢false}
use mathlib.Core.List.{List}
use native.Mathlib.Omega.{arith}
use native.Mathlib.Decide.{dec_lt}
use lib.Dec.{ltb, eqb}
use lib.ListN.{set}
use borrow.Author.Tests.{eq-eqb, eqb-true, ltb-true, ltb-false}
use Rattle.queue_schedules.proofs.Schedules.{either}
use Rattle.unbounded_words.specs.declared.Pointer.{Pointer}
use Rattle.unbounded_words.specs.declared.Pointer.TheVariants.{None, To}
use Rattle.unbounded_words.specs.declared.Index.{Index}
use Rattle.unbounded_words.specs.Words.{sizes, none_of, number_of, offset_of, past_slots, last_slot, marked_of, same_position, same, later}
use Rattle.unbounded_places.specs.declared.Slot.{Slot}
use Rattle.unbounded_places.specs.declared.Ends.{Ends}
use Rattle.unbounded_places.specs.declared.Answer.TheVariants.{Popped}
use Rattle.unbounded_places.specs.declared.Place.{Place}
use Rattle.unbounded_places.specs.declared.Place.TheVariants.{Idle, U1, U2, U3, U4, U5, U6, U7, U8, U9, U10, U11, U12, U13, U14, U15, V1, V2, V3, V4, V5, V6}
use Rattle.unbounded_places.specs.declared.Place.TheVariants.{V7, V8, V9, V10, V11, V12, V13, V14, V15, Len1, Len2, Len3, Empty1, Empty2, Full1, Close1}
use Rattle.unbounded_places.specs.declared.Place.TheVariants.{IsClosed1}
use Rattle.unbounded_places.specs.Places.{view_of}
use Rattle.unbounded_acts.specs.declared.Acted.{Acted}
use Rattle.unbounded_acts.specs.Acts.{leave, head_to, front_to, take_or, pop_from, new_head, taken, destroy_from, read_out_of, destroy_if, has, READ, WRITE, DESTROY, act_of}
use Rattle.unbounded_machine.specs.declared.Machine.{Machine}
use Rattle.unbounded_machine.specs.declared.Event.{Event}
use Rattle.unbounded_machine.specs.Machine.{slot, block_at, slot_at, slot_number}
use Rattle.unbounded_machine.specs.Turn.{block_used, slot_used}
use Rattle.unbounded_demands.specs.Notions.{definition, position, state_at}
use Rattle.unbounded_demands.specs.Waiting.{Holding, fronts, pushes, leaves, PushingIn, in9, in10, in11, in12, in13, Tying, tie9, tie10, tie11, leave6, leave7, leave8, leave9, front6, push_left}
use Rattle.unbounded_demands.specs.Demands.{Holders}
use Rattle.unbounded_proof_invariant.proofs.Queue.{Ptr, Chain, Shared}
use Rattle.unbounded_proof_invariant.proofs.Kept.{free_not_chain}
use Rattle.unbounded_proof_invariant.proofs.Views.{Seen, SeenOk}
use Rattle.unbounded_proof_words.proofs.Words.{offset_word, mark_word}
use Rattle.unbounded_proof_words.proofs.Stands.{Stands, idle, u1, u2, u3, u4, u5, u6, u7, u8, u9, u10, u11, u12, u13, u14, u15, v1, v2, v3, v4, v5, v6, v7, v8}
use Rattle.unbounded_proof_words.proofs.Stands.{v9, v10, v11, v12, v13, v14, v15, len1, len2, len3, empty1, empty2, full1, close1, closed1}
use Rattle.unbounded_proof_words.proofs.Frames.{get_same}
use Rattle.unbounded_proof_demand2.proofs.Turns.{stood}
use Rattle.unbounded_proof_demand2.proofs.Reached.{Reached}
use Rattle.unbounded_proof_progress.proofs.Holders.{position_word, tail_is, head_is, holders}

abbrev pub rank_at : Ends → List Slot → Place → ℕ
rank_at e l V1 = 41
rank_at e l (V2 h) = cond (same e.head h) 40 43
rank_at e l (V3 h b) = cond (same e.head h) (cond (none_of b) (cond (same_position h e.tail) 1 42) 39) 42
rank_at e l (V4 h b new) = cond (same e.head h) 38 41
rank_at e l (V5 h) = cond (same e.head h) 40 43
rank_at e l (V6 h b new) = 37
rank_at e l (V7 h b new next) = 36
rank_at e l (V8 h b next i) = 35
rank_at e l (V9 h b i) = 34
rank_at e l (V10 h b) = 33
rank_at e l (V11 h b) = 32
rank_at e l (V12 h b v) = 1 + (30 - offset_of sizes h)
rank_at e l (V13 b i v) = 1 + (30 - i)
rank_at e l (V14 b i v) = cond (has READ (slot_at sizes l (number_of sizes b) i).state) (1 + (30 - i)) 1
rank_at e l (V15 b v) = 1
rank_at e l (Idle a) = 0
rank_at e l (U1 n x) = 50
rank_at e l (U2 n t x) = 50
rank_at e l (U3 t b x) = 50
rank_at e l (U4 n t x) = 50
rank_at e l (U5 n t new x) = 50
rank_at e l (U6 n t new x) = 50
rank_at e l (U7 n t b x) = 50
rank_at e l (U8 n t x) = 50
rank_at e l (U9 n t b x) = 50
rank_at e l (U10 n t b x) = 50
rank_at e l (U11 n t b x) = 50
rank_at e l (U12 n t b x) = 50
rank_at e l (U13 n t b) = 50
rank_at e l (U14 n a) = 50
rank_at e l (U15 n new x) = 50
rank_at e l Len1 = 50
rank_at e l (Len2 t) = 50
rank_at e l (Len3 t h) = 50
rank_at e l Empty1 = 50
rank_at e l (Empty2 h) = 50
rank_at e l Full1 = 50
rank_at e l Close1 = 50
rank_at e l IsClosed1 = 50

pub none_is : (b : Pointer) → none_of b ≡ true → b ≡ None
none_is None z = refl
none_is (To c) z = absurd (true≢false (sym z))

pub same_self : (h : Index) → same h h ≡ true
unfolding same
same_self h = eq-eqb h.0 h.0 refl

pub same_number : (a b : Index) → same a b ≡ true → a.0 ≡ b.0
unfolding same
same_number a b z = eqb-true a.0 b.0 z

pub at_gap : (i : Index) → past_slots sizes i ≡ true → offset_of sizes i ≡ 31
unfolding past_slots
at_gap i z = eqb-true (offset_of sizes i) 31 z

pub mark_same : (a b : Index) → a.0 ≡ b.0 → marked_of a ≡ marked_of b
unfolding marked_of
mark_same a b z = ap (λ (n : ℕ). eqb (n % 2) 1) z

position_same : (a b : Index) → position a ≡ position b → same_position a b ≡ true
unfolding same_position
position_same a b z = eq-eqb (a.0 / 2) (b.0 / 2) z

-- whoever stores a block's next has the slot in hand
ties : (p : Place) (b : Pointer) (t : Index) → Tying p b t → PushingIn p b t
ties p b t tie9 = in9
ties p b t tie10 = in10
ties p b t tie11 = in11

-- whom others can wait for, as a test
abbrev pub holds_at : Place → Bool
holds_at (Idle a) = false
holds_at (U1 n x) = false
holds_at (U2 n t x) = false
holds_at (U3 t b x) = false
holds_at (U4 n t x) = false
holds_at (U5 n t new x) = false
holds_at (U6 n t new x) = true
holds_at (U7 n t b x) = false
holds_at (U8 n t x) = false
holds_at (U9 n t b x) = true
holds_at (U10 n t b x) = true
holds_at (U11 n t b x) = true
holds_at (U12 n t b x) = true
holds_at (U13 n t b) = true
holds_at (U14 n a) = false
holds_at (U15 n new x) = false
holds_at V1 = false
holds_at (V2 h) = false
holds_at (V3 h b) = false
holds_at (V4 h b new) = false
holds_at (V5 h) = false
holds_at (V6 h b new) = true
holds_at (V7 h b new next) = true
holds_at (V8 h b next i) = true
holds_at (V9 h b i) = true
holds_at (V10 h b) = false
holds_at (V11 h b) = false
holds_at (V12 h b v) = false
holds_at (V13 b i v) = false
holds_at (V14 b i v) = false
holds_at (V15 b v) = false
holds_at Len1 = false
holds_at (Len2 t) = false
holds_at (Len3 t h) = false
holds_at Empty1 = false
holds_at (Empty2 h) = false
holds_at Full1 = false
holds_at Close1 = false
holds_at IsClosed1 = false

pub holding_at : (p : Place) → Holding p → holds_at p ≡ true
holding_at p (fronts front6) = refl
holding_at p (pushes in9) = refl
holding_at p (pushes in10) = refl
holding_at p (pushes in11) = refl
holding_at p (pushes in12) = refl
holding_at p (pushes in13) = refl
holding_at p (leaves leave6) = refl
holding_at p (leaves leave7) = refl
holding_at p (leaves leave8) = refl
holding_at p (leaves leave9) = refl

-- a push in hand is not over
pub in_left : (p : Place) (b : Pointer) (t : Index) → PushingIn p b t → push_left p ≡ 0 → ⊥
in_left p b t in9 z = omega arith
in_left p b t in10 z = omega arith
in_left p b t in11 z = omega arith
in_left p b t (in12 {n = None}) z = omega arith
in_left p b t (in12 {n = To c}) z = omega arith
in_left p b t (in13 {n = None}) z = omega arith
in_left p b t (in13 {n = To c}) z = omega arith

-- V3, by its three tests
abbrev looked : Bool → Bool → Bool → ℕ
looked a b c = cond a (cond b (cond c 1 42) 39) 42

pub looked_some : (a b c : Bool) → 0 < looked a b c
looked_some true true true = omega arith
looked_some true true false = omega arith
looked_some true false c = omega arith
looked_some false b c = omega arith

looked_back : (a b c : Bool) → b ≡ true → c ≡ false → 41 < looked a b c
looked_back true true true x y = absurd (true≢false y)
looked_back true true false x y = omega arith
looked_back true false c x y = absurd (true≢false (sym x))
looked_back false b c x y = omega arith

looked_takes : (a b c : Bool) → b ≡ false → cond a 38 41 < looked a b c
looked_takes true true c x = absurd (true≢false x)
looked_takes true false c x = omega arith
looked_takes false b c x = omega arith

-- the destroyer's places
below : (e : Ends) (l : List Slot) (b : Pointer) (i v n : ℕ) → i ≤ 30 → 31 < i + n → rank_at e l (destroy_from sizes b i v) < n
unfolding destroy_from
below e l b i v n low room =
    either (λ (q : Place). rank_at e l q < n) (ltb (i + 1) 31) (V13 b i v) (V15 b v) (λ z. omega (arith, ltb-true (i + 1) 31 z)) (λ z. omega (arith, ltb-false (i + 1) 31 z))

module _ (workers : ℕ) (m : Machine) (h : List Event) (r : Reached workers m h) (w : ℕ) (alone : (v : ℕ) → (v ≡ w → ⊥) → Holding (stood m v) → ⊥) where
  abbrev s : Shared
  s = r.queue

  abbrev e : Ends
  e = m.ends

  held : Holders (definition sizes act_of) m
  held = holders workers m h r

  -- w itself holds nothing
  module _ (free : Holding (stood m w) → ⊥) where
    nobody : (v : ℕ) → Holding (stood m v) → ⊥
    nobody v o = alone v (λ z. free (subst (λ (u : ℕ). Holding (stood m u)) z o)) o

    -- where no block is stored in head's, tail has not moved
    unmoved : none_of e.front ≡ true → s.tail ≡ 0
    unmoved z = go (dec_lt 0 s.tail)
      where
        go : Dec (0 < s.tail) → s.tail ≡ 0
        go (yes l) =
            let o = held.first (none_is e.front z) (omega (arith, position_word e.tail s.tail s.closed (tail_is workers m h r))) in absurd (nobody o.0 (fronts o.1))
        go (no l) = omega arith

    -- ---- the top of pop's loop
    module _ (i : Index) (l : List Slot) where
      current : e.head.0 ≡ i.0 → same e.head i ≡ true → rank_at e l (pop_from sizes i e.front) < 40
      unfolding pop_from take_or
      current z t =
          either (λ (q : Place). rank_at e l q < 40) (past_slots sizes i) V1 _
          (λ y. absurd (gap y))
          (λ y. either (λ (q : Place). rank_at e l q < 40) (marked_of i) _ (V3 i e.front)
          (λ k. either (λ (q : Place). rank_at e l q < 40) (none_of e.front) V1 (V4 i e.front (later i))
          (λ n. absurd (marked k n)) (λ n. let c : rank_at e l (V4 i e.front (later i)) ≡ 38 = ap (λ (x : Bool). cond x 38 41) t in omega arith))
          (λ k. looks (none_of e.front) refl))
        where
          gap : past_slots sizes i ≡ true → ⊥
          gap y =
              let o = held.head (ap (λ (n : ℕ). n / 2 % 32) z ∙ past y) in
              nobody o.0 (leaves o.2)
            where
              past : past_slots sizes i ≡ true → offset_of sizes i ≡ 31
              past c = at_gap i c

          marked : marked_of i ≡ true → none_of e.front ≡ true → ⊥
          marked k n =
              let set : s.mark ≡ true = sym (mark_word s.head s.mark) ∙ sym (ap marked_of (head_is workers m h r)) ∙ mark_same e.head i z ∙ k in
              omega (arith, r.sim.inv.ends.marked set, unmoved n)

          looks : (n : Bool) → none_of e.front ≡ n → rank_at e l (V3 i e.front) < 40
          looks false n =
              let c : rank_at e l (V3 i e.front) ≡ 39 =
              ap (λ (x : Bool). cond x (cond (none_of e.front) (cond (same_position i e.tail) 1 42) 39) 42) t ∙ ap (λ (x : Bool). cond x (cond (same_position i e.tail) 1 42) 39) n in
              omega arith
          looks true n =
              let here : same_position i e.tail ≡ true = position_same i e.tail
              (sym (ap (λ (x : ℕ). x / 2) z) ∙ position_word e.head s.head s.mark (head_is workers m h r) ∙ low n ∙ sym
              (position_word e.tail s.tail s.closed (tail_is workers m h r))) in
              let c : rank_at e l (V3 i e.front) ≡ 1 =
              ap (λ (x : Bool). cond x (cond (none_of e.front) (cond (same_position i e.tail) 1 42) 39) 42) t ∙ ap (λ (x : Bool). cond x (cond (same_position i e.tail) 1 42) 39) n ∙ ap
              (λ (x : Bool). cond x 1 42) here in
              omega arith
            where
              low : none_of e.front ≡ true → s.head ≡ s.tail
              low y = omega (arith, unmoved y, r.sim.inv.ends.low)

      old : same e.head i ≡ false → rank_at e l (pop_from sizes i e.front) < 43
      unfolding pop_from take_or
      old t =
          either (λ (q : Place). rank_at e l q < 43) (past_slots sizes i) V1 _ (λ y. omega arith)
          (λ y. either (λ (q : Place). rank_at e l q < 43) (marked_of i) _ (V3 i e.front)
          (λ k. either (λ (q : Place). rank_at e l q < 43) (none_of e.front) V1 (V4 i e.front (later i))
          (λ n. omega arith) (λ n. let c : rank_at e l (V4 i e.front (later i)) ≡ 41 = ap (λ (x : Bool). cond x 38 41) t in omega arith))
          (λ k. let c : rank_at e l (V3 i e.front) ≡ 42 = ap (λ (x : Bool). cond x (cond (none_of e.front) (cond (same_position i e.tail) 1 42) 39) 42) t in omega arith))

      top : rank_at e l (pop_from sizes i e.front) < cond (same e.head i) 40 43
      top = go (same e.head i) refl
        where
          go : (t : Bool) → same e.head i ≡ t → rank_at e l (pop_from sizes i e.front) < cond t 40 43
          go true z = current (same_number e.head i z) z
          go false z = old z

  -- ---- every act of a pop
  abbrev act : Place → Acted
  act p =
      act_of sizes e (block_used (view_of sizes p).uses) (block_at m.blocks (block_used (view_of sizes p).uses))
      (slot_at sizes m.slots (block_used (view_of sizes p).uses) (slot_used (view_of sizes p).uses)) p false

  abbrev slots_after : Place → Acted → List Slot
  slots_after p c = set m.slots (slot_number sizes (block_used (view_of sizes p).uses) (slot_used (view_of sizes p).uses)) c.slot

  -- the slot that an act uses, stored back as it was
  abbrev slots_kept : Place → List Slot
  slots_kept p =
      set m.slots (slot_number sizes (block_used (view_of sizes p).uses) (slot_used (view_of sizes p).uses))
      (slot_at sizes m.slots (block_used (view_of sizes p).uses) (slot_used (view_of sizes p).uses))

  abbrev Lower : Place → ℕ → Acted → Type 0
  Lower p n c = rank_at c.ends (slots_after p c) c.place < n

  apart : (p : Place) → stood m w ≡ p → holds_at p ≡ false → Holding (stood m w) → ⊥
  apart p at z o = true≢false (sym (holding_at (stood m w) o) ∙ ap holds_at at ∙ z)

  abbrev state_value : Pointer → Index → ℕ
  state_value d i = (slot_at sizes m.slots (number_of sizes d) (offset_of sizes i)).value

  -- a slot that was stored back as it was
  slot_kept : (k i : ℕ) (c : Slot) → k < 64 → i < 31 → slot_at sizes (set m.slots (slot_number sizes k i) c) k i ≡ c
  slot_kept k i c a b = get_same m.slots (k * 31 + i) c (slot 0 0) (omega (arith, r.sim.slots_long))

  small : (d : Pointer) (b j : ℕ) → d ≡ To b → s.own b ≡ Chain j → number_of sizes d < 64
  small d b j ed own = subst (λ (x : Pointer). number_of sizes x < 64) (sym ed) (r.sim.pool b (λ z. free_not_chain (s.own b) j z own))

  pub falls : (p : Place) (a n : Ptr) (x : Seen) → Stands p a n x → SeenOk s w x → stood m w ≡ p → rank_at e m.slots p ≤ 43 → (view_of sizes p).busy ≡ true
      → Lower p (rank_at e m.slots p) (act p)
  unfolding leave head_to front_to taken read_out_of destroy_if take_or
  falls p a n x idle o at few busy = absurd (true≢false (sym busy))
  falls p a n x (u1 en) o at few busy = absurd (omega arith)
  falls p a n x (u2 en et) o at few busy = absurd (omega arith)
  falls p a n x (u3 et ed l) o at few busy = absurd (omega arith)
  falls p a n x (u4 en et) o at few busy = absurd (omega arith)
  falls p a n x (u5 en et ed) o at few busy = absurd (omega arith)
  falls p a n x (u6 en et ed) o at few busy = absurd (omega arith)
  falls p a n x (u7 en et ed l) o at few busy = absurd (omega arith)
  falls p a n x (u8 en et) o at few busy = absurd (omega arith)
  falls p a n x (u9 en et ed) o at few busy = absurd (omega arith)
  falls p a n x (u10 en et ed) o at few busy = absurd (omega arith)
  falls p a n x (u11 en et ed) o at few busy = absurd (omega arith)
  falls p a n x (u12 en et ed) o at few busy = absurd (omega arith)
  falls p a n x (u13 en et ed) o at few busy = absurd (omega arith)
  falls p a n x (u14 en ok) o at few busy = absurd (omega arith)
  falls p a n x (u15 en ed) o at few busy = absurd (omega arith)
  falls p a n x v1 o at few busy = let c : ◌≡◌ {A = ℕ} (cond (same e.head e.head) 40 43) (40) = ap {B = ℕ} (λ (y : Bool). cond y 40 43) (same_self e.head) in omega arith
  falls p a n x (v2 {h = i} eh) o at few busy = top (apart p at refl) i _
  falls p a n x (v3 {h = i} {d = d} eh ed) o at few busy =
      either (Lower p (rank_at e m.slots p)) (same_position i e.tail) _ _
      (λ z. either (Lower p (rank_at e m.slots p)) (marked_of e.tail) _ _ (λ y. looked_some (same e.head i) (none_of d) (same_position i e.tail))
      (λ y. looked_some (same e.head i) (none_of d) (same_position i e.tail)))
      (λ z. either (λ (q : Place). rank_at e (slots_kept p) q < rank_at e m.slots p) (none_of d) V1 (V4 i d (new_head sizes i e.tail))
      (λ y. looked_back (same e.head i) (none_of d) (same_position i e.tail) y z) (λ y. looked_takes (same e.head i) (none_of d) (same_position i e.tail) y))
  falls p a n x (v4 {h = i} {new = j} {d = d} k eh ed ew) o at few busy =
      either (Lower p (rank_at e m.slots p)) (same e.head i) _ _
      (λ z. let c : ◌≡◌ {A = ℕ} (cond (same e.head i) 38 41) (38) = ap {B = ℕ} (λ (y : Bool). cond y 38 41) z in
      either (λ (q : Place). rank_at (head_to e j) (slots_kept p) q < rank_at e m.slots p) (last_slot sizes i) (V6 i d j) (V10 i d) (λ y. omega arith) (λ y. omega arith))
      (λ z. let c : ◌≡◌ {A = ℕ} (cond (same e.head i) 38 41) (41) = ap {B = ℕ} (λ (y : Bool). cond y 38 41) z in
      let b : ◌≡◌ {A = ℕ} (cond (same e.head e.head) 40 43) (40) = ap {B = ℕ} (λ (y : Bool). cond y 40 43) (same_self e.head) in omega arith)
  falls p a n x (v5 {h = i} eh) o at few busy = top (apart p at refl) i _
  falls p a n x (v6 {h = i} {new = j} {d = d} k l eh ed ew) o at few busy =
      either (Lower p 37) (none_of (block_at m.blocks (number_of sizes d)).next) _ _
      (λ z. let y = held.next w i j d at (none_is _ z) in absurd
      (alone y.0 (λ q. in_left p d y.1 (subst (λ (u : Place). PushingIn u d y.1) (ap (stood m) q ∙ at) (ties _ d y.1 y.2)) refl) (pushes (ties _ d y.1 y.2))))
      (λ z. omega arith)
  falls p a n x (v7 k l eh ed ew ec) o at few busy = omega arith
  falls p a n x (v8 k eh ed ec ew) o at few busy = omega arith
  falls p a n x (v9 k eh ed ew) o at few busy = omega arith
  falls p a n x (v10 {h = i} {d = d} k eh ed) o at few busy =
      either (Lower p 33) (has WRITE (state_at sizes m d i)) _ _ (λ z. omega arith)
      (λ z. let y = held.write w i d at z in absurd (nobody (apart p at refl) y.0 (pushes y.2)))
  falls p a n x (v11 {h = i} {d = d} k eh ed) o at few busy =
      either (λ (q : Place). rank_at e (slots_kept p) q < 32) (last_slot sizes i) (destroy_from sizes d 0 (state_value d i)) (V12 i d (state_value d i))
      (λ z. below e (slots_kept p) d 0 (state_value d i) 32 (omega arith) (omega arith)) (λ z. omega arith)
  falls p a n x (v12 {h = i} {d = d} {p = q} {v = v} k eh ed) o at few busy =
      let f : offset_of sizes i ≡ q % 32 = ap (offset_of sizes) eh ∙ offset_word q k in
      either (λ (y : Place). rank_at e (slots_after p (act p)) y < 1 + (30 - offset_of sizes i)) (has DESTROY (state_at sizes m d i)) (destroy_from sizes d (offset_of sizes i + 1) v) (Idle (Popped v))
      (λ z. below e (slots_after p (act p)) d (offset_of sizes i + 1) v (1 + (30 - offset_of sizes i)) (omega (arith, o.2)) (omega (arith, o.2))) (λ z. omega arith)
  falls p a n x (v13 {d = d} {b = b} {i = i} {v = v} ed l) o at few busy =
      either (Lower p (1 + (30 - i))) (has READ (slot_at sizes m.slots (number_of sizes d) i).state) _ _
      (λ z. below e _ d (i + 1) v (1 + (30 - i)) (omega arith) (omega arith))
      (λ z. let y : ◌≡◌ {A = ℕ} (cond (has READ (slot_at sizes (set m.slots (slot_number sizes (number_of sizes d) i) (slot_at sizes m.slots (number_of sizes d) i)) (number_of sizes d) i).state)
      (1 + (30 - i)) 1) (1) =
      ap {B = ℕ} (λ (c : Slot). cond (has READ c.state) (1 + (30 - i)) 1)
      (slot_kept (number_of sizes d) i (slot_at sizes m.slots (number_of sizes d) i) (small d b o.0 ed o.2) (omega arith)) ∙ ap {B = ℕ} (λ (t : Bool). cond t (1 + (30 - i)) 1) z in
      omega arith)
  falls p a n x (v14 {d = d} {i = i} {v = v} ed l) o at few busy =
      either (λ (y : Place). rank_at e (slots_after p (act p)) y < rank_at e m.slots p) (has READ (slot_at sizes m.slots (number_of sizes d) i).state) (destroy_from sizes d (i + 1) v)
      (Idle (Popped v))
      (λ z. let c : ◌≡◌ {A = ℕ} (cond (has READ (slot_at sizes m.slots (number_of sizes d) i).state) (1 + (30 - i)) 1) (1 + (30 - i)) = ap {B = ℕ} (λ (t : Bool). cond t (1 + (30 - i)) 1) z in
      subst (λ (n : ℕ). rank_at e (slots_after p (act p)) (destroy_from sizes d (i + 1) v) < n) (sym c) (below e (slots_after p (act p)) d (i + 1) v (1 + (30 - i)) (omega arith) (omega arith)))
      (λ z. let c : ◌≡◌ {A = ℕ} (cond (has READ (slot_at sizes m.slots (number_of sizes d) i).state) (1 + (30 - i)) 1) (1) = ap {B = ℕ} (λ (t : Bool). cond t (1 + (30 - i)) 1) z in omega arith)
  falls p a n x (v15 ed) o at few busy = omega arith
  falls p a n x len1 o at few busy = absurd (omega arith)
  falls p a n x len2 o at few busy = absurd (omega arith)
  falls p a n x len3 o at few busy = absurd (omega arith)
  falls p a n x empty1 o at few busy = absurd (omega arith)
  falls p a n x empty2 o at few busy = absurd (omega arith)
  falls p a n x full1 o at few busy = absurd (omega arith)
  falls p a n x close1 o at few busy = absurd (omega arith)
  falls p a n x closed1 o at few busy = absurd (omega arith)
