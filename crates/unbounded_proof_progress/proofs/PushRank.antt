-- A push alone: how many acts it is from its end, by the words as they are, and whether it may still need a block; the number falls with every act. (50 at a
-- place that is not a push's, and at U15.)
use Prim.Native.Nat.{ℕ, ◌-◌, ◌/◌, ◌%◌, ◌<◌, ◌≤◌}
use mathlib.Core.Path.{◌≡◌, refl, sym, ap, ◌∙◌, subst}
use mathlib.Core.Bool.{Bool, true, false, cond, not, true≢false}
use mathlib.Core.List.{List}
use native.Mathlib.Omega.{arith}
use lib.Dec.{eqb}
use borrow.Author.Tests.{eq-eqb, ne_eqb, eqb-true}
use Rattle.queue_entries.proofs.Pick.{both_right}
use Rattle.queue_schedules.proofs.Schedules.{either}
use Rattle.unbounded_words.specs.declared.Pointer.{Pointer}
use Rattle.unbounded_words.specs.declared.Pointer.TheVariants.{None, To}
use Rattle.unbounded_words.specs.declared.Index.{Index}
use Rattle.unbounded_words.specs.Words.{sizes, none_of, past_slots, last_slot, marked_of, same, later}
use Rattle.unbounded_places.specs.declared.Slot.{Slot}
use Rattle.unbounded_places.specs.declared.Block.{Block}
use Rattle.unbounded_places.specs.declared.Ends.{Ends}
use Rattle.unbounded_places.specs.declared.Answer.TheVariants.{Pushed, Closed}
use Rattle.unbounded_places.specs.declared.Place.{Place}
use Rattle.unbounded_places.specs.declared.Place.TheVariants.{Idle, U1, U2, U3, U4, U5, U6, U7, U8, U9, U10, U11, U12, U13, U14, U15, V1, V2, V3, V4, V5, V6}
use Rattle.unbounded_places.specs.declared.Place.TheVariants.{V7, V8, V9, V10, V11, V12, V13, V14, V15, Len1, Len2, Len3, Empty1, Empty2, Full1, Close1}
use Rattle.unbounded_places.specs.declared.Place.TheVariants.{IsClosed1}
use Rattle.unbounded_places.specs.Places.{view_of}
use Rattle.unbounded_acts.specs.declared.Acted.{Acted}
use Rattle.unbounded_acts.specs.Acts.{leave, front_to, tail_to, back_to_words, answered, lacks_next, first_or, push_from, set_aside, claimed, new_block, act_of}
use Rattle.unbounded_machine.specs.declared.Machine.{Machine}
use Rattle.unbounded_machine.specs.declared.Event.{Event}
use Rattle.unbounded_machine.specs.Machine.{block_at}
use Rattle.unbounded_demands.specs.Notions.{definition}
use Rattle.unbounded_demands.specs.Waiting.{Crossing, cross9, cross10, push_left}
use Rattle.unbounded_demands.specs.Demands.{Holders}
use Rattle.unbounded_proof_invariant.proofs.Queue.{Ptr, Shared}
use Rattle.unbounded_proof_invariant.proofs.Views.{Seen, SeenOk}
use Rattle.unbounded_proof_words.proofs.Words.{word, last_word, mark_word}
use Rattle.unbounded_proof_words.proofs.Stands.{Stands, idle, u1, u2, u3, u4, u5, u6, u7, u8, u9, u10, u11, u12, u13, u14, u15, v1, v2, v3, v4, v5, v6, v7, v8}
use Rattle.unbounded_proof_words.proofs.Stands.{v9, v10, v11, v12, v13, v14, v15, len1, len2, len3, empty1, empty2, full1, close1, closed1}
use Rattle.unbounded_proof_demand2.proofs.Turns.{stood}
use Rattle.unbounded_proof_demand2.proofs.Reached.{Reached}
use Rattle.unbounded_proof_pool.proofs.Aside.{fine, late_none, to_some}
use Rattle.unbounded_proof_progress.proofs.Holders.{tail_is, holders}
use Rattle.unbounded_proof_progress.proofs.PopRank.{same_self, same_number, at_gap, mark_same}

-- By tests: tail marked, the word is tail's still, no block set aside, tail's block is not there yet, the word's slot is a block's last.
abbrev pub one : Bool → Bool → ℕ
one c n = cond c (cond n 2 3) (cond n 9 8)

abbrev pub top : Bool → Bool → Bool → ℕ
top c s n = cond s (cond c (cond n 1 2) (cond n 8 7)) (cond c 6 (cond n 10 9))

abbrev pub three : Bool → Bool → ℕ
three c s = cond c 4 (cond s 7 9)

abbrev pub four : Bool → Bool → ℕ
four c k = cond c 5 (cond k 6 10)

abbrev pub five : Bool → Bool → ℕ
five c k = cond c 4 (cond k 5 9)

abbrev pub six : Bool → Bool → ℕ
six c s = cond c 3 (cond s 4 10)

abbrev pub claim : Bool → Bool → Bool → Bool → ℕ
claim c s l n = cond c (cond n 2 3) (cond s (cond l 6 (cond n 3 4)) (cond n 9 8))

abbrev pub push_rank : Ends → Place → ℕ
push_rank e (U1 n x) = one (marked_of e.tail) (none_of n)
push_rank e (U2 n t x) = top (marked_of e.tail) (same e.tail t) (none_of n)
push_rank e (U3 t b x) = three (marked_of e.tail) (same e.tail t)
push_rank e (U4 n t x) = four (marked_of e.tail) (none_of e.back)
push_rank e (U5 n t new x) = five (marked_of e.tail) (none_of e.back)
push_rank e (U6 n t new x) = six (marked_of e.tail) (same e.tail t)
push_rank e (U7 n t b x) = claim (marked_of e.tail) (same e.tail t) (last_slot sizes t) (none_of n)
push_rank e (U8 n t x) = top (marked_of e.tail) (same e.tail t) (none_of n)
push_rank e (U9 n t b x) = 5
push_rank e (U10 n t b x) = 4
push_rank e (U11 n t b x) = 3
push_rank e (U12 n t b x) = cond (none_of n) 2 3
push_rank e (U13 n t b) = cond (none_of n) 1 2
push_rank e (U14 n a) = 1
push_rank e (Idle a) = 0
push_rank e (U15 n new x) = 50
push_rank e V1 = 50
push_rank e (V2 h) = 50
push_rank e (V3 h b) = 50
push_rank e (V4 h b new) = 50
push_rank e (V5 h) = 50
push_rank e (V6 h b new) = 50
push_rank e (V7 h b new next) = 50
push_rank e (V8 h b next i) = 50
push_rank e (V9 h b i) = 50
push_rank e (V10 h b) = 50
push_rank e (V11 h b) = 50
push_rank e (V12 h b v) = 50
push_rank e (V13 b i v) = 50
push_rank e (V14 b i v) = 50
push_rank e (V15 b v) = 50
push_rank e Len1 = 50
push_rank e (Len2 t) = 50
push_rank e (Len3 t h) = 50
push_rank e Empty1 = 50
push_rank e (Empty2 h) = 50
push_rank e Full1 = 50
push_rank e Close1 = 50
push_rank e IsClosed1 = 50

-- it may still take a block
abbrev pub push_needs : Ends → Place → Bool
push_needs e (U1 n x) = cond (none_of n) (not (marked_of e.tail)) false
push_needs e (U2 n t x) = cond (none_of n) (not (marked_of t)) false
push_needs e (U8 n t x) = cond (none_of n) (not (marked_of t)) false
push_needs e (U3 t b x) = true
push_needs e (U4 n t x) = true
push_needs e (U6 n t new x) = cond (marked_of e.tail) false (not (same e.tail t))
push_needs e (U7 n t b x) = cond (none_of n) (cond (marked_of e.tail) false (not (same e.tail t))) false
push_needs e (Idle a) = false
push_needs e (U5 n t new x) = false
push_needs e (U9 n t b x) = false
push_needs e (U10 n t b x) = false
push_needs e (U11 n t b x) = false
push_needs e (U12 n t b x) = false
push_needs e (U13 n t b) = false
push_needs e (U14 n a) = false
push_needs e (U15 n new x) = false
push_needs e V1 = false
push_needs e (V2 h) = false
push_needs e (V3 h b) = false
push_needs e (V4 h b new) = false
push_needs e (V5 h) = false
push_needs e (V6 h b new) = false
push_needs e (V7 h b new next) = false
push_needs e (V8 h b next i) = false
push_needs e (V9 h b i) = false
push_needs e (V10 h b) = false
push_needs e (V11 h b) = false
push_needs e (V12 h b v) = false
push_needs e (V13 b i v) = false
push_needs e (V14 b i v) = false
push_needs e (V15 b v) = false
push_needs e Len1 = false
push_needs e (Len2 t) = false
push_needs e (Len3 t h) = false
push_needs e Empty1 = false
push_needs e (Empty2 h) = false
push_needs e Full1 = false
push_needs e Close1 = false
push_needs e IsClosed1 = false

one_top : (c n : Bool) → top c true n < one c n
one_top true true = omega arith
one_top true false = omega arith
one_top false true = omega arith
one_top false false = omega arith

top_some : (c s n : Bool) → 0 < top c s n
top_some true true true = omega arith
top_some true true false = omega arith
top_some true false true = omega arith
top_some true false false = omega arith
top_some false true true = omega arith
top_some false true false = omega arith
top_some false false true = omega arith
top_some false false false = omega arith

top_set : (c s n : Bool) → n ≡ false → 1 < top c s n
top_set true true true p0 = absurd (true≢false p0)
top_set true true false p0 = omega arith
top_set true false true p0 = absurd (true≢false p0)
top_set true false false p0 = omega arith
top_set false true true p0 = absurd (true≢false p0)
top_set false true false p0 = omega arith
top_set false false true p0 = absurd (true≢false p0)
top_set false false false p0 = omega arith

top_one : (c n : Bool) → one c n < top c false n
top_one true true = omega arith
top_one true false = omega arith
top_one false true = omega arith
top_one false false = omega arith

top_three : (c s n : Bool) → (s ≡ true → c ≡ false) → n ≡ true → three c s < top c s n
top_three true true true p0 p1 = absurd (true≢false (p0 refl))
top_three true true false p0 p1 = absurd (true≢false (p0 refl))
top_three true false true p0 p1 = omega arith
top_three true false false p0 p1 = absurd (true≢false (sym p1))
top_three false true true p0 p1 = omega arith
top_three false true false p0 p1 = absurd (true≢false (sym p1))
top_three false false true p0 p1 = omega arith
top_three false false false p0 p1 = absurd (true≢false (sym p1))

top_four : (c s n : Bool) → (s ≡ true → c ≡ false) → four c true < top c s n
top_four true true true p0 = absurd (true≢false (p0 refl))
top_four true true false p0 = absurd (true≢false (p0 refl))
top_four true false true p0 = omega arith
top_four true false false p0 = omega arith
top_four false true true p0 = omega arith
top_four false true false p0 = omega arith
top_four false false true p0 = omega arith
top_four false false false p0 = omega arith

top_claim : (c s l n : Bool) → (s ≡ true → c ≡ false) → claim c s l n < top c s n
top_claim true true true true p0 = absurd (true≢false (p0 refl))
top_claim true true true false p0 = absurd (true≢false (p0 refl))
top_claim true true false true p0 = absurd (true≢false (p0 refl))
top_claim true true false false p0 = absurd (true≢false (p0 refl))
top_claim true false true true p0 = omega arith
top_claim true false true false p0 = omega arith
top_claim true false false true p0 = omega arith
top_claim true false false false p0 = omega arith
top_claim false true true true p0 = omega arith
top_claim false true true false p0 = omega arith
top_claim false true false true p0 = omega arith
top_claim false true false false p0 = omega arith
top_claim false false true true p0 = omega arith
top_claim false false true false p0 = omega arith
top_claim false false false true p0 = omega arith
top_claim false false false false p0 = omega arith

three_claim : (c s l : Bool) → claim c s l false < three c s
three_claim true true true = omega arith
three_claim true true false = omega arith
three_claim true false true = omega arith
three_claim true false false = omega arith
three_claim false true true = omega arith
three_claim false true false = omega arith
three_claim false false true = omega arith
three_claim false false false = omega arith

four_five : (c k : Bool) → five c k < four c k
four_five true true = omega arith
four_five true false = omega arith
four_five false true = omega arith
four_five false false = omega arith

five_six : (c s : Bool) → (c ≡ false → s ≡ true) → six c s < five c true
five_six true true p0 = omega arith
five_six true false p0 = omega arith
five_six false true p0 = omega arith
five_six false false p0 = absurd (true≢false (sym (p0 refl)))

five_one : (c n : Bool) → n ≡ false → one c n < five c false
five_one true true p0 = absurd (true≢false p0)
five_one true false p0 = omega arith
five_one false true p0 = absurd (true≢false p0)
five_one false false p0 = omega arith

six_claim : (c s l n : Bool) → n ≡ true → l ≡ false → claim c s l n < six c s
six_claim true true true true p0 p1 = absurd (true≢false p1)
six_claim true true true false p0 p1 = absurd (true≢false (sym p0))
six_claim true true false true p0 p1 = omega arith
six_claim true true false false p0 p1 = absurd (true≢false (sym p0))
six_claim true false true true p0 p1 = absurd (true≢false p1)
six_claim true false true false p0 p1 = absurd (true≢false (sym p0))
six_claim true false false true p0 p1 = omega arith
six_claim true false false false p0 p1 = absurd (true≢false (sym p0))
six_claim false true true true p0 p1 = absurd (true≢false p1)
six_claim false true true false p0 p1 = absurd (true≢false (sym p0))
six_claim false true false true p0 p1 = omega arith
six_claim false true false false p0 p1 = absurd (true≢false (sym p0))
six_claim false false true true p0 p1 = absurd (true≢false p1)
six_claim false false true false p0 p1 = absurd (true≢false (sym p0))
six_claim false false false true p0 p1 = omega arith
six_claim false false false false p0 p1 = absurd (true≢false (sym p0))

claim_lost : (c l n : Bool) → top c true n < claim c false l n
claim_lost true true true = omega arith
claim_lost true true false = omega arith
claim_lost true false true = omega arith
claim_lost true false false = omega arith
claim_lost false true true = omega arith
claim_lost false true false = omega arith
claim_lost false false true = omega arith
claim_lost false false false = omega arith

claim_last : (n : Bool) → 5 < claim false true true n
claim_last true = omega arith
claim_last false = omega arith

claim_slot : (n : Bool) → cond n 2 3 < claim false true false n
claim_slot true = omega arith
claim_slot false = omega arith

wanted : (n c k : Bool) → k ≡ false → cond n c false ≡ true → cond n (not k) false ≡ true
wanted true true true p0 p1 = absurd (true≢false p0)
wanted true true false p0 p1 = refl
wanted true false true p0 p1 = absurd (true≢false p0)
wanted true false false p0 p1 = absurd (true≢false (sym p1))
wanted false true true p0 p1 = absurd (true≢false p0)
wanted false true false p0 p1 = absurd (true≢false (sym p1))
wanted false false true p0 p1 = absurd (true≢false p0)
wanted false false false p0 p1 = absurd (true≢false (sym p1))

lost_wants : (n c s : Bool) → s ≡ false → cond n (not c) false ≡ true → cond n (cond c false (not s)) false ≡ true
lost_wants true true true p0 p1 = absurd (true≢false p0)
lost_wants true true false p0 p1 = absurd (true≢false (sym p1))
lost_wants true false true p0 p1 = absurd (true≢false p0)
lost_wants true false false p0 p1 = refl
lost_wants false true true p0 p1 = absurd (true≢false p0)
lost_wants false true false p0 p1 = absurd (true≢false (sym p1))
lost_wants false false true p0 p1 = absurd (true≢false p0)
lost_wants false false false p0 p1 = absurd (true≢false (sym p1))

one_less : (n : Bool) → cond n 1 2 < cond n 2 3
one_less true = omega arith
one_less false = omega arith

some_left : (n : Bool) → 0 < cond n 1 2
some_left true = omega arith
some_left false = omega arith

two_left : (n : Bool) → n ≡ false → 1 < cond n 1 2
two_left true p0 = absurd (true≢false p0)
two_left false p0 = omega arith

unwanted : (c s : Bool) → (c ≡ false → s ≡ true) → cond c false (not s) ≡ true → ⊥
unwanted true true p0 p1 = true≢false (sym p1)
unwanted true false p0 p1 = true≢false (sym p1)
unwanted false true p0 p1 = true≢false (sym p1)
unwanted false false p0 p1 = (true≢false (sym (p0 refl)))

lacks_none : (n : Pointer) (t : Index) → lacks_next sizes n t ≡ true → none_of n ≡ true
unfolding lacks_next
lacks_none n t z = both_right (last_slot sizes t) (none_of n) z

pub cross_left : (p : Place) (t : Index) → Crossing p t → push_left p ≡ 0 → ⊥
cross_left p t cross9 z = omega arith
cross_left p t cross10 z = omega arith

same_word : (a b : Index) → a ≡ b → same a b ≡ true
unfolding same
same_word a b e = eq-eqb a.0 b.0 (ap (λ (i : Index). i.0) e)

module _ (workers : ℕ) (m : Machine) (h : List Event) (r : Reached workers m h) (w : ℕ) (alone : (v : ℕ) (t : Index) → (v ≡ w → ⊥) → Crossing (stood m v) t → ⊥) where
  abbrev s : Shared
  s = r.queue

  abbrev e : Ends
  e = m.ends

  held : Holders (definition sizes act_of) m
  held = holders workers m h r

  -- ---- the top of push's loop
  module _ (out : push_left (stood m w) ≡ 0) (n : Pointer) (t : Index) (x : ℕ) (knows : fine e.back (U2 n t x) ≡ true) where
    abbrev Good : Place → Type 0
    Good q = (push_rank e q < top (marked_of e.tail) (same e.tail t) (none_of n)) × (push_needs e q ≡ true → cond (none_of n) (not (marked_of t)) false ≡ true)

    current : marked_of t ≡ false → same e.tail t ≡ true → marked_of e.tail ≡ false
    current k z = mark_same e.tail t (same_number e.tail t z) ∙ k

    gap : same e.tail t ≡ true → past_slots sizes t ≡ true → ⊥
    gap z y =
        let o = held.tail (ap (λ (i : ℕ). i / 2 % 32) (same_number e.tail t z) ∙ at_gap t y) in
        alone o.0 o.1 (λ q. cross_left (stood m o.0) o.1 o.2 (ap (λ (v : ℕ). push_left (stood m v)) q ∙ out)) o.2

    back_at_one : marked_of t ≡ false → past_slots sizes t ≡ true → (b : Bool) → same e.tail t ≡ b → Good (U1 n x)
    back_at_one k y true z = absurd (gap z y)
    back_at_one k y false z = (
      subst (λ (b : Bool). one (marked_of e.tail) (none_of n) < top (marked_of e.tail) b (none_of n)) (sym z) (top_one (marked_of e.tail) (none_of n)),
      (λ q. wanted (none_of n) (not (marked_of e.tail)) (marked_of t) k q),
    )

    topped : Good (push_from sizes n t e.back x)
    unfolding push_from answered first_or
    topped =
        either Good (marked_of t) (answered n (Closed x)) _
        (λ k. either Good (none_of n) (Idle (Closed x)) (U14 n (Closed x)) (λ z. (top_some (marked_of e.tail) (same e.tail t) (none_of n), λ q. absurd (true≢false (sym q))))
        (λ z. (top_set (marked_of e.tail) (same e.tail t) (none_of n) z, λ q. absurd (true≢false (sym q)))))
        (λ k. either Good (past_slots sizes t) (U1 n x) _ (λ y. back_at_one k y (same e.tail t) refl)
        (λ y. either Good (lacks_next sizes n t) (U3 t e.back x) _
        (λ l. (
          top_three (marked_of e.tail) (same e.tail t) (none_of n) (current k) (lacks_none n t l),
          λ q. wanted (none_of n) true (marked_of t) k
              (ap (λ (b : Bool). cond b true false) (lacks_none n t l)),
        ))
        (λ l. either Good (none_of e.back) (U4 n t x) (U7 n t e.back x)
        (λ z. (
          subst (λ (b : Bool). four (marked_of e.tail) b < top (marked_of e.tail) (same e.tail t) (none_of n)) (sym z) (top_four (marked_of e.tail) (same e.tail t) (none_of n) (current k)),
          λ q. wanted (none_of n) true (marked_of t) k (ap (λ (b : Bool). cond b true false) (late_none e.back n z knows)),
        ))
        (λ z. (top_claim (marked_of e.tail) (same e.tail t) (last_slot sizes t) (none_of n) (current k), λ q. wanted (none_of n) _ (marked_of t) k q)))))

  -- ---- every act of a push
  abbrev Led : Place → ℕ → Ends → Block → Place → Type 0
  Led p k f g q = (push_rank f q < push_rank e p) × (push_needs f q ≡ true → (push_needs e p ≡ true) × (g ≡ block_at m.blocks k) × ((view_of sizes p).takes ≡ false))

  abbrev Down : Place → ℕ → Acted → Type 0
  Down p k c = Led p k c.ends c.block c.place

  never : {A : Type 0} → false ≡ true → A
  never z = absurd (true≢false (sym z))

  -- tail's block is not there, and tail not marked: tail has not moved
  tail_0 : none_of e.back ≡ true → marked_of e.tail ≡ false → e.tail ≡ word 0 false
  tail_0 z c =
      let closed : s.closed ≡ false = sym (mark_word s.tail s.closed) ∙ sym (ap marked_of (tail_is workers m h r)) ∙ c in
      let none : s.blocks ≡ 0 = empty (eqb s.blocks 0) refl in
      tail_is workers m h r ∙ ap (λ (p : ℕ). word p s.closed) (r.sim.inv.ends.none_yet none) ∙ ap (word 0) closed
    where
      empty : (b : Bool) → eqb s.blocks 0 ≡ b → s.blocks ≡ 0
      empty true q = eqb-true s.blocks 0 q
      empty false q =
          absurd (true≢false (sym (ap (λ (y : Ends). none_of y.back) (sym r.sim.ends) ∙ z) ∙ ap (λ (b : Bool). none_of (cond b None (To (s.phys (s.blocks - 1))))) q))

  -- the first slot is no block's last
  first_slot : (t : Index) → t ≡ word 0 false → last_slot sizes t ≡ false
  first_slot t et = ap (last_slot sizes) et ∙ last_word 0 false ∙ ne_eqb 1 31 (λ q. omega arith)

  pub falls : (k : ℕ) (c : Slot) (p : Place) (a n : Ptr) (x : Seen) → Stands p a n x → SeenOk s w x → stood m w ≡ p → fine e.back p ≡ true → push_rank e p ≤ 10
      → (view_of sizes p).busy ≡ true → Down p k (act_of sizes e k (block_at m.blocks k) c p false)
  unfolding leave front_to tail_to back_to_words answered claimed set_aside first_or
  falls k c p a n x idle o at knows few busy = absurd (true≢false (sym busy))
  falls k c p a n x (u1 {n = i} {x = y} en) o at knows few busy =
      (subst (λ (b : Bool). top (marked_of e.tail) b (none_of i) < one (marked_of e.tail) (none_of i)) (sym (same_self e.tail)) (one_top (marked_of e.tail) (none_of i)), λ z. (z, refl, refl))
  falls k c p a n x (u2 {n = i} {t = t} {x = y} en et) o at knows few busy = let g = topped (ap push_left at) i t y knows in (g.0, λ z. (g.1 z, refl, refl))
  falls k c p a n x (u3 {t = t} {d = d} {b = b} {x = y} et ed l) o at knows few busy =
      either (Led p k e new_block) (none_of d) (U4 (To k) t y) (U7 (To k) t d y)
      (λ z. absurd (true≢false (sym z ∙ to_some d b ed))) (λ z. (three_claim (marked_of e.tail) (same e.tail t) (last_slot sizes t), never))
  falls k c p a n x (u4 en et) o at knows few busy = (four_five (marked_of e.tail) (none_of e.back), never)
  falls k c p a n x (u5 {n = i} {d = d} {t = t} {b = b} {x = y} en et ed) o at knows few busy =
      either (Down p k) (none_of e.back) _ _
      (λ z. let same_then : marked_of e.tail ≡ false → same e.tail t ≡ true = (λ q. same_word e.tail t (tail_0 z q ∙ sym et)) in (
        subst (λ (v : Bool). six (marked_of e.tail) (same e.tail t) < five (marked_of e.tail) v) (sym z) (five_six (marked_of e.tail) (same e.tail t) same_then),
        λ q. absurd
            (unwanted (marked_of e.tail) (same e.tail t) same_then q),
      ))
      (λ z. either (Led p k e (block_at m.blocks k)) (none_of i) (U1 d y) (U15 i d y)
      (λ q. (
        subst (λ (v : Bool). one (marked_of e.tail) (none_of d) < five (marked_of e.tail) v) (sym z) (five_one (marked_of e.tail) (none_of d) (to_some d b ed)),
        λ u. never
            (sym (ap (λ (v : Bool). cond v (not (marked_of e.tail)) false) (to_some d b ed)) ∙ u),
      )) (λ q. absurd (true≢false (sym knows ∙ q))))
  falls k c p a n x (u6 {n = i} {d = d} {t = t} en et ed) o at knows few busy =
      (six_claim (marked_of e.tail) (same e.tail t) (last_slot sizes t) (none_of i) knows (first_slot t et), λ z. (both_right (none_of i) _ z, refl, refl))
  falls k c p a n x (u7 {n = i} {d = d} {t = t} {p = q} {x = y} en et ed l) o at knows few busy =
      either (Down p k) (same e.tail t) _ _
      (λ z. let clear : marked_of e.tail ≡ false = mark_same e.tail t (same_number e.tail t z) ∙ ap marked_of et ∙ mark_word q false in
      either (Led p k (tail_to e (later t)) (block_at m.blocks k)) (last_slot sizes t) (U9 i t d y) (U12 i t d y)
      (λ v. (subst (λ (n : ℕ). 5 < n) (sym (claimed_is clear z v)) (claim_last (none_of i)), never))
      (λ v. (subst (λ (n : ℕ). cond (none_of i) 2 3 < n) (sym (claimed_is clear z v)) (claim_slot (none_of i)), never)))
      (λ z. (
        subst (λ (v : Bool). top (marked_of e.tail) v (none_of i) < claim (marked_of e.tail) (same e.tail t) (last_slot sizes t) (none_of i)) (sym (same_self e.tail))
            (subst (λ (v : Bool). top (marked_of e.tail) true (none_of i) < claim (marked_of e.tail) v (last_slot sizes t) (none_of i)) (sym z)
            (claim_lost (marked_of e.tail) (last_slot sizes t) (none_of i))),
        λ u. (lost_wants (none_of i) (marked_of e.tail) (same e.tail t) z u, refl, refl),
      ))
    where
      claimed_is : marked_of e.tail ≡ false → same e.tail t ≡ true → {v : Bool} → last_slot sizes t ≡ v → claim (marked_of e.tail) (same e.tail t) (last_slot sizes t)
          (none_of i) ≡ claim false true v (none_of i)
      claimed_is a b c =
          ap (λ (f : Bool). claim f (same e.tail t) (last_slot sizes t) (none_of i)) a ∙ ap (λ (f : Bool). claim false f (last_slot sizes t) (none_of i)) b ∙ ap
          (λ (f : Bool). claim false true f (none_of i)) c
  falls k c p a n x (u8 {n = i} {t = t} {x = y} en et) o at knows few busy = let g = topped (ap push_left at) i t y knows in (g.0, λ z. (g.1 z, refl, refl))
  falls k c p a n x (u9 en et ed) o at knows few busy = (omega arith, never)
  falls k c p a n x (u10 en et ed) o at knows few busy = (omega arith, never)
  falls k c p a n x (u11 en et ed) o at knows few busy = (omega arith, never)
  falls k c p a n x (u12 {n = i} en et ed) o at knows few busy = (one_less (none_of i), never)
  falls k c p a n x (u13 {n = i} en et ed) o at knows few busy =
      either (Led p k e (block_at m.blocks k)) (none_of i) (Idle Pushed) (U14 i Pushed)
      (λ z. (some_left (none_of i), never)) (λ z. (two_left (none_of i) z, never))
  falls k c p a n x (u14 en ok) o at knows few busy = (omega arith, never)
  falls k c p a n x (u15 en ed) o at knows few busy = absurd (omega arith)
  falls k c p a n x v1 o at knows few busy = absurd (omega arith)
  falls k c p a n x (v2 eh) o at knows few busy = absurd (omega arith)
  falls k c p a n x (v3 eh ed) o at knows few busy = absurd (omega arith)
  falls k c p a n x (v4 f eh ed ew) o at knows few busy = absurd (omega arith)
  falls k c p a n x (v5 eh) o at knows few busy = absurd (omega arith)
  falls k c p a n x (v6 f l eh ed ew) o at knows few busy = absurd (omega arith)
  falls k c p a n x (v7 f l eh ed ew ec) o at knows few busy = absurd (omega arith)
  falls k c p a n x (v8 f eh ed ec ew) o at knows few busy = absurd (omega arith)
  falls k c p a n x (v9 f eh ed ew) o at knows few busy = absurd (omega arith)
  falls k c p a n x (v10 f eh ed) o at knows few busy = absurd (omega arith)
  falls k c p a n x (v11 f eh ed) o at knows few busy = absurd (omega arith)
  falls k c p a n x (v12 f eh ed) o at knows few busy = absurd (omega arith)
  falls k c p a n x (v13 ed l) o at knows few busy = absurd (omega arith)
  falls k c p a n x (v14 ed l) o at knows few busy = absurd (omega arith)
  falls k c p a n x (v15 ed) o at knows few busy = absurd (omega arith)
  falls k c p a n x len1 o at knows few busy = absurd (omega arith)
  falls k c p a n x len2 o at knows few busy = absurd (omega arith)
  falls k c p a n x len3 o at knows few busy = absurd (omega arith)
  falls k c p a n x empty1 o at knows few busy = absurd (omega arith)
  falls k c p a n x empty2 o at knows few busy = absurd (omega arith)
  falls k c p a n x full1 o at knows few busy = absurd (omega arith)
  falls k c p a n x close1 o at knows few busy = absurd (omega arith)
  falls k c p a n x closed1 o at knows few busy = absurd (omega arith)
