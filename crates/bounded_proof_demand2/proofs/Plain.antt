-- The words of a reached machine are words of claims; of 64 bits no stamp wraps, since the meter ends long before a turn.
use mathlib.Core.Path.{◌≡◌, refl, sym, ap, ◌∙◌, subst}
use mathlib.Core.Bool.{Bool, true, false, cond}
use mathlib.Core.List.{List}
use Prim.Native.Nat.{ℕ, ◌+◌, ◌*◌, ◌/◌, ◌%◌, ◌≤◌, ◌<◌}
use native.Mathlib.Omega.{arith}
use native.Mathlib.Nat.{mod-lt, mod-eq_of_lt, div-le_self, mul-le-mul_left}
use Rattle.queue_entries.specs.Limits.{meter_most}
use Rattle.bounded_words.specs.declared.Stamp.{Stamp}
use Rattle.bounded_words.specs.declared.Fixed.{Fixed}
use Rattle.bounded_words.specs.declared.Width.{Width}
use Rattle.bounded_words.specs.declared.Width.TheVariants.{SixtyFour}
use Rattle.bounded_words.specs.Limits.{slots_most, wide}
use Rattle.bounded_words.specs.Words.{mark_of, fixed_of, unmarked_of}
use Rattle.bounded_words.proofs.Marks.{Ruled, ruled}
use Rattle.bounded_places.specs.declared.Slot.{Slot}
use Rattle.bounded_places.specs.declared.Ends.{Ends}
use Rattle.bounded_machine.specs.Machine.{fixed_on}
use Rattle.bounded_machine.specs.declared.Machine.{Machine}
use Rattle.bounded_machine.specs.declared.Event.{Event}
use Rattle.bounded_demands.specs.Notions.{AllowedWith, Words, Plain, claim_word, plain_word, tally}
use Rattle.bounded_proof_invariant.proofs.Width.{word, word_is}
use Rattle.bounded_proof_invariant.proofs.Ring.{number}
use Rattle.bounded_proof_each_act.proofs.Stamps.{fixed, unmarked_tail}
use Rattle.bounded_proof_each_act.proofs.Sight.{full, number_slot, number_near}
use Rattle.bounded_proof_demand2.proofs.Counts.{tally_tail, tally_head}
use Rattle.bounded_proof_demand2.proofs.Pictured.{Base}
use Rattle.bounded_proof_demand2.proofs.Reached.{Reached}
use Rattle.bounded_proof_demand2.proofs.Window.{claims_few}
use Rattle.bounded_proof_demand2.proofs.Always.{Metered}

module _ (bits : Width) (c n workers : ℕ) (base : Base bits c n workers) (m : Machine) (h : List Event) (r : Reached c n workers m h) where
  tails : (tally h).tail.0 ≡ r.ring.tail
  tails = tally_tail h ∙ r.logged.lists.tailers_are.long

  heads : (tally h).head.0 ≡ r.ring.head
  heads = tally_head h ∙ r.logged.lists.takers_are.long

  -- the words are said of the machine's own constants
  word_of_lem : (k : ℕ) → word c (mark_of c) n k ≡ claim_word bits (fixed_on m.ring) k
  word_of_lem k =
      word_is c (mark_of c) n base.ground.laws k ∙ ap (λ (z : ℕ). (k / c * (2 * mark_of c) + k % c) % z) base.ground.whole
      ∙ ap (λ (f : Fixed). claim_word bits f k) (sym r.pictured.rule)

  one_more : (b : Bool) (x : ℕ) → cond b (x + 1) x ≡ x + cond b 1 0
  one_more true x = refl
  one_more false x = omega arith

  cap : m.ring.capacity ≡ c
  cap = ap (λ (f : Fixed). f.capacity) r.pictured.rule

  pub worded : Words bits m h
  worded =
      record {
        head = ap (λ (e : Ends). e.head.0) r.pictured.ends ∙ word_of_lem r.ring.head ∙ ap (claim_word bits (fixed_on m.ring)) (sym heads);
        tail =
            ap (λ (f : Fixed). (unmarked_of f m.ring.tail).0) r.pictured.rule
            ∙ ap (λ (e : Ends). (unmarked_of (fixed c (mark_of c) m.ring.edition) e.tail).0) r.pictured.ends
            ∙ ap (λ (w : Stamp). w.0) (unmarked_tail bits c (mark_of c) n base.ground m.ring.edition r.ring.tail r.pictured.shut)
            ∙ word_of_lem r.ring.tail ∙ ap (claim_word bits (fixed_on m.ring)) (sym tails);
        stamps =
            λ i below.
            let s = r.ring in
            let inv = r.pictured.inv in
            let l : i < c = omega (arith, cap) in
            let x = s.cell i in
            let near = number_near c s inv i x (inv.cells i l) in (
              number x,
              full x,
              ap (λ (z : Slot). z.stamp.0) (r.pictured.slots i l) ∙ one_more (full x) (word c (mark_of c) n (number x))
                  ∙ ap (λ (z : ℕ). z + cond (full x) 1 0) (word_of_lem (number x)),
              ap (λ (z : ℕ). number x % z) cap ∙ number_slot c s inv i x (inv.cells i l),
              omega (arith, tails, cap, near, inv.low),
              omega (arith, heads, cap, near),
            );
      }

-- Of 64 bits, within the first turn.
module _ (records c workers edition : ℕ) (a : AllowedWith records c workers edition) (m : Machine) (h : List Event) (o : Metered c m h) (k : Words SixtyFour m h) where
  r : Ruled (fixed_of c 1)
  r = ruled (fixed_of c 1) a.slot_some a.slot_most refl refl

  few : (tally h).tail.0 ≤ meter_most
  few = omega (arith, tally_tail h, (claims_few h).0, o.meter, o.few)

  few_heads : (tally h).head.0 ≤ meter_most
  few_heads = omega (arith, tally_head h, (claims_few h).1, o.meter, o.few)

  -- a claim of two laps more has a word below the width
  room : (j : ℕ) → j ≤ meter_most + slots_most → plain_word (fixed c (mark_of c) m.ring.edition) j + 2 * (2 * mark_of c) < wide
  room j most =
      let small : 2 * mark_of c ≤ 4 * (slots_most + 1) = omega (arith, r.small) in
      omega (arith, mul-le-mul_left (j / c) small, div-le_self j c, mod-lt j a.slot_some)

  room_in : (j : ℕ) → j ≤ meter_most + slots_most → plain_word (fixed_on m.ring) j + 2 * m.ring.lap < wide
  room_in j most = subst (λ (f : Fixed). plain_word f j + 2 * f.lap < wide) (sym o.rule) (room j most)

  -- and so is that word
  plain_is : (j : ℕ) → j ≤ meter_most + slots_most → claim_word SixtyFour (fixed_on m.ring) j ≡ plain_word (fixed_on m.ring) j
  plain_is j most = let l : plain_word (fixed_on m.ring) j < wide = omega (arith, room_in j most) in mod-eq_of_lt l

  cap_few : m.ring.capacity ≤ slots_most
  cap_few = subst (λ (f : Fixed). f.capacity ≤ slots_most) (sym o.rule) a.slot_most

  pub plainly : Plain m h
  plainly =
      record {
        head = k.head ∙ plain_is (tally h).head.0 (omega (arith, few_heads));
        tail = k.tail ∙ plain_is (tally h).tail.0 (omega (arith, few));
        stamps =
            λ i below.
            let x = k.stamps i below in
            let few_x : x.0 ≤ meter_most + slots_most = omega (arith, x.4, few, cap_few) in
            (x.0, x.1, x.2 ∙ ap (λ (z : ℕ). z + cond x.1 1 0) (plain_is x.0 few_x), x.3, x.4);
        room = room_in ((tally h).tail.0 + m.ring.capacity) (omega (arith, few, cap_few));
      }
