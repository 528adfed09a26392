-- Each refusal is given exactly when its ground holds and none before it.
use Prim.Native.Nat.{ℕ, ◌+◌, ◌*◌, ◌/◌, ◌%◌}
use mathlib.Core.Path.{◌≡◌, refl, sym, ap, ◌∙◌}
use mathlib.Core.Bool.{Bool, true, false, cond, not, true≢false}
use mathlib.Core.List.{List, [], ◌∷◌}
use native.Mathlib.Omega.{arith}
use lib.Dec.{ltb, eqb}
use lib.ListN.{length}
use borrow.Author.Tests.{ltb-true, lt-ltb, eq-eqb, ne_eqb}
use Rattle.queue_entries.specs.Limits.{workers_most, meter_most, in_limits}
use Rattle.queue_entries.specs.Schedules.{schedule_by}
use Rattle.queue_entries.specs.declared.Call.{Call}
use Rattle.queue_entries.specs.declared.Order.TheVariants.{Begin, Act}
use Rattle.queue_entries.specs.declared.Entry.TheVariants.{Unreadable, Asks}
use Rattle.queue_entries.specs.declared.Verdict.TheVariants.{Refuse, Start, Move}
use Rattle.queue_entries.specs.Entries.{call_of, stray_of, order_of, entry_of}
use Rattle.queue_numbers.specs.Numbers.{on, first_of}
use Rattle.bounded_words.specs.declared.Stamp.{Stamp}
use Rattle.bounded_words.specs.declared.Fixed.{Fixed}
use Rattle.bounded_words.specs.declared.Width.{Width}
use Rattle.bounded_words.specs.declared.Width.TheVariants.{SixtyFour, Sixteen}
use Rattle.bounded_words.specs.Limits.{slots_most, editions_most}
use Rattle.bounded_words.specs.Words.{same}
use Rattle.bounded_places.specs.declared.Slot.{Slot}
use Rattle.bounded_places.specs.declared.Ends.{Ends}
use Rattle.bounded_places.specs.declared.Exchange.TheVariants.{Differed}
use Rattle.bounded_places.specs.declared.Place.{Place}
use Rattle.bounded_places.specs.Places.{view_of}
use Rattle.bounded_acts.specs.declared.Acted.{Acted}
use Rattle.bounded_acts.specs.Acts.{act_of, exchange_of, end_p3, end_f6, end_o3}
use Rattle.bounded_machine.specs.declared.Machine.{Machine}
use Rattle.bounded_machine.specs.declared.Did.{Did}
use Rattle.bounded_machine.specs.Machine.{fresh_of, blank, place_of, slot, refused, accepted, fixed_on, ends_on}
use Rattle.bounded_machine.specs.Broken.{broken_of, all_idle}
use Rattle.bounded_machine.specs.Contents.{count_in, contents_refusal, capacity_refusal}
use Rattle.bounded_machine.specs.Turn.{acted, acted_by, stored, spot_of, carried, turn, turn_at, turn_of_by}
use Rattle.bounded_machine.specs.Run.{ran, run_of_by}
use Rattle.bounded_step_machine.specs.Steps.{step_of_by, begin_step_of_by, act_step_of_by}
use Rattle.bounded.specs.Bounded as face
use Rattle.bounded_demands.specs.Notions.{sixty_four, sixteen, with_records, begins, unreadable, begin_grounds, act_grounds, entry_grounds, Exchanges, exchange_p3, exchange_f6, exchange_o3}
use Rattle.bounded_demands.specs.Demands.{RefusedExactly, NineAsEight}
use Rattle.bounded_sixteen_bits.specs.SixteenBits.{widened, narrowed_ran}
use Rattle.bounded_demands.proofs.Narrow.{ran_back}

-- a code that begins is one that can be read
early_read : (code : ℕ) → ltb code 8 ≡ true → ltb code 10 ≡ true
early_read code h = lt-ltb code 10 (omega (arith, ltb-true code 8 h))

module _ (bits : Width) (m : Machine) (w : ℕ) where
  begin_grounds_lem : (c : Call) → (turn bits m (Asks w (Begin c))).refusal ≡ first_of (on 3 (not (ltb w m.count)) ∷ on 4 (view_of (place_of m.workers w)).busy ∷ [])
  unfolding refused accepted
  begin_grounds_lem c = go (ltb w m.count) (view_of (place_of m.workers w)).busy
    where
      go : (x y : Bool) → (cond x (carried bits m w (place_of m.workers w) (cond y (Refuse 4) (Start c))) (refused 3 m)).refusal ≡ first_of (on 3 (not x) ∷ on 4 y ∷ [])
      go true true = refl
      go true false = refl
      go false y = refl

  act_grounds_lem : (lose : Bool)
      → (turn bits m (Asks w (Act lose))).refusal
      ≡ first_of (on 3 (not (ltb w m.count)) ∷ on 5 (not (view_of (place_of m.workers w)).busy) ∷ on 7 (not (ltb m.meter meter_most))
      ∷ on 8 (cond lose (not (view_of (place_of m.workers w)).weak) false) ∷ [])
  unfolding refused accepted
  act_grounds_lem lose = go (ltb w m.count) (view_of (place_of m.workers w)).busy (ltb m.meter meter_most) lose (view_of (place_of m.workers w)).weak
    where
      go : (x y t l k : Bool)
          → (cond x (carried bits m w (place_of m.workers w) (cond y (cond t (cond l (cond k (Move true) (Refuse 8)) (Move false)) (Refuse 7)) (Refuse 5))) (refused 3 m)).refusal
          ≡ first_of (on 3 (not x) ∷ on 5 (not y) ∷ on 7 (not t) ∷ on 8 (cond l (not k) false) ∷ [])
      go true true true true true = refl
      go true true true true false = refl
      go true true true false k = refl
      go true true false l k = refl
      go true false t l k = refl
      go false y t l k = refl

module _ (bits : Width) (m : Machine) (first second : ℕ) where
  turn_begin : begins first ≡ true → (turn_at bits m first second).refusal ≡ first_of (on 9 (unreadable first second) ∷ begin_grounds m first)
  unfolding turn_of_by entry_of order_of refused
  turn_begin b = rw (b, early_read (first % 16) b) (go (stray_of (first % 16) second))
    where
      go : (s : Bool) → (turn bits m (cond s Unreadable (Asks (first / 16) (Begin (call_of (first % 16) second))))).refusal ≡ first_of (on 9 (cond s true false) ∷ begin_grounds m first)
      go true = refl
      go false = begin_grounds_lem bits m (first / 16) (call_of (first % 16) second)

  turn_act : begins first ≡ false → (turn_at bits m first second).refusal ≡ first_of (on 9 (unreadable first second) ∷ act_grounds m first)
  unfolding turn_of_by entry_of order_of refused
  turn_act b = rw b (go (stray_of (first % 16) second) (ltb (first % 16) 10))
    where
      go : (s r : Bool) → (turn bits m (cond s Unreadable (cond r (Asks (first / 16) (Act (eqb (first % 16) 9))) Unreadable))).refusal ≡ first_of (on 9 (cond s true (not r)) ∷ act_grounds m first)
      go true r = refl
      go false true = act_grounds_lem bits m (first / 16) (eqb (first % 16) 9)
      go false false = refl

  pub turn_grounds : (turn_at bits m first second).refusal ≡ first_of (entry_grounds m first second)
  turn_grounds = go (begins first) refl
    where
      go : (b : Bool) → begins first ≡ b → (turn_at bits m first second).refusal ≡ first_of (on 9 (unreadable first second) ∷ cond (begins first) (begin_grounds m first) (act_grounds m first))
      go true b = turn_begin b ∙ ap (λ (x : Bool). first_of (on 9 (unreadable first second) ∷ cond x (begin_grounds m first) (act_grounds m first))) (sym b)
      go false b = turn_act b ∙ ap (λ (x : Bool). first_of (on 9 (unreadable first second) ∷ cond x (begin_grounds m first) (act_grounds m first))) (sym b)

  -- with 6 before it
  six : (b : Bool) (d : Did) (n : ℕ) → d.refusal ≡ n → (cond b (refused 6 m) d).refusal ≡ cond b 6 n
  unfolding refused
  six true d n h = refl
  six false d n h = h

  step_exactly : (step_of_by (act_of bits) m first second).refusal ≡ first_of (on 6 (broken_of m) ∷ entry_grounds m first second)
  unfolding step_of_by
  step_exactly = six (broken_of m) (turn_at bits m first second) _ turn_grounds

  begin_exactly : (begin_step_of_by (act_of bits) m first second).refusal ≡ first_of (on 6 (broken_of m) ∷ on 9 (not (begins first)) ∷ on 9 (unreadable first second) ∷ begin_grounds m first)
  unfolding begin_step_of_by refused
  begin_exactly = six (broken_of m) (cond (begins first) (turn_at bits m first second) (refused 9 m)) _ (go (begins first) refl)
    where
      go : (b : Bool) → begins first ≡ b → (cond b (turn_at bits m first second) (refused 9 m)).refusal ≡ first_of (on 9 (not b) ∷ on 9 (unreadable first second) ∷ begin_grounds m first)
      go true b = turn_begin b
      go false b = refl

  act_exactly : (act_step_of_by (act_of bits) m first second).refusal ≡ first_of (on 6 (broken_of m) ∷ on 9 (begins first) ∷ on 9 (unreadable first second) ∷ act_grounds m first)
  unfolding act_step_of_by refused
  act_exactly = six (broken_of m) (cond (begins first) (refused 9 m) (turn_at bits m first second)) _ (go (begins first) refl)
    where
      go : (b : Bool) → begins first ≡ b → (cond b (refused 9 m) (turn_at bits m first second)).refusal ≡ first_of (on 9 b ∷ on 9 (unreadable first second) ∷ act_grounds m first)
      go true b = refl
      go false b = turn_act b

make_exactly : (capacity workers edition : ℕ)
    → (face.make_of capacity workers edition).refusal
    ≡ first_of (on 1 (not (in_limits capacity slots_most)) ∷ on 2 (not (in_limits workers workers_most)) ∷ on 18 (not (in_limits edition editions_most)) ∷ [])
unfolding face.make_of refused accepted
make_exactly capacity workers edition = go (in_limits capacity slots_most) (in_limits workers workers_most) (in_limits edition editions_most)
  where
    go : (x y z : Bool)
        → (cond x (cond y (cond z (accepted (fresh_of capacity workers edition)) (refused 18 blank)) (refused 2 blank)) (refused 1 blank)).refusal
        ≡ first_of (on 1 (not x) ∷ on 2 (not y) ∷ on 18 (not z) ∷ [])
    go true true true = refl
    go true true false = refl
    go true false z = refl
    go false y z = refl

contents_exactly : (m : Machine) (room : ℕ) → contents_refusal m room ≡ first_of (on 6 (broken_of m) ∷ on 4 (not (all_idle m.workers)) ∷ on 10 (ltb room (count_in m)) ∷ [])
unfolding contents_refusal
contents_exactly m room = go (broken_of m) (all_idle m.workers) (ltb room (count_in m))
  where
    go : (x y z : Bool) → cond x 6 (cond y (cond z 10 0) 4) ≡ first_of (on 6 x ∷ on 4 (not y) ∷ on 10 z ∷ [])
    go true y z = refl
    go false true z = refl
    go false false z = refl

capacity_exactly : (m : Machine) → capacity_refusal m ≡ first_of (on 6 (broken_of m) ∷ [])
unfolding capacity_refusal
capacity_exactly m = refl

run_broken : (bits : Width) (m : Machine) (s : List ℕ) → broken_of m ≡ true → run_of_by (act_of bits) m s ≡ ran 6 0 m
unfolding schedule_by
run_broken bits m s b = rw b

run_odd : (bits : Width) (m : Machine) (s : List ℕ) → broken_of m ≡ false → length s % 2 ≡ 1 → run_of_by (act_of bits) m s ≡ ran 11 0 m
unfolding schedule_by
run_odd bits m s b odd = rw (b, eq-eqb (length s % 2) 1 odd)

pub refused_exactly : RefusedExactly sixty_four
refused_exactly =
    record {
      make = make_exactly;
      step = step_exactly SixtyFour;
      begin = begin_exactly SixtyFour;
      act = act_exactly SixtyFour;
      run = λ m s. (run_broken SixtyFour m s, run_odd SixtyFour m s);
      contents = contents_exactly;
      capacity = capacity_exactly;
    }

pub narrow_refused_exactly : RefusedExactly sixteen
narrow_refused_exactly =
    record {
      make = make_exactly;
      step = λ m. step_exactly Sixteen (widened m);
      begin = λ m. begin_exactly Sixteen (widened m);
      act = λ m. act_exactly Sixteen (widened m);
      run =
          λ m s. (
            λ b. ap narrowed_ran (run_broken Sixteen (widened m) s b) ∙ ran_back 6 0 m,
            λ b odd. ap narrowed_ran (run_odd Sixteen (widened m) s b odd) ∙ ran_back 11 0 m,
          );
      contents = λ m. contents_exactly (widened m);
      capacity = λ m. capacity_exactly (widened m);
    }

-- ---- code 9 where the words differ

differ : (found expected : Stamp) → (found ≡ expected → ⊥) → (lose : Bool) → exchange_of found expected lose ≡ Differed found
unfolding exchange_of same
differ found expected ne lose = rw (ne_eqb found.0 expected.0 (λ e. ne (stamp_one found expected e)))
  where
    stamp_one : (a b : Stamp) → a.0 ≡ b.0 → a ≡ b
    stamp_one a b e = ap (λ (n : ℕ). record { 0 = n }) e

act_alike : (bits : Width) (f : Fixed) (e : Ends) (z : Slot) (p : Place) (found expected : Stamp) → Exchanges bits f e p found expected → (found ≡ expected → ⊥)
    → (act_of bits f e z p true ≡ act_of bits f e z p false) × ((view_of p).weak ≡ true)
act_alike bits f e z p found expected exchange_p3 ne = (ap (end_p3 bits f e z _ _ _) (differ found expected ne true ∙ sym (differ found expected ne false)), refl)
act_alike bits f e z p found expected exchange_f6 ne = (ap (end_f6 bits f e z _ _) (differ found expected ne true ∙ sym (differ found expected ne false)), refl)
act_alike bits f e z p found expected exchange_o3 ne = (ap (end_o3 bits f e z _) (differ found expected ne true ∙ sym (differ found expected ne false)), refl)

nine_entry : (w : ℕ) → entry_of (16 * w + 9) 0 ≡ Asks w (Act true)
unfolding entry_of stray_of order_of
nine_entry w =
    let low : (16 * w + 9) % 16 ≡ 9 = omega arith in
    let top : (16 * w + 9) / 16 ≡ w = omega arith in
    rw (low, top)

eight_entry : (w : ℕ) → entry_of (16 * w + 8) 0 ≡ Asks w (Act false)
unfolding entry_of stray_of order_of
eight_entry w =
    let low : (16 * w + 8) % 16 ≡ 8 = omega arith in
    let top : (16 * w + 8) / 16 ≡ w = omega arith in
    rw (low, top)

pub nine_as_eight : (records : ℕ) (bits : Width) → NineAsEight (with_records records bits)
unfolding turn_of_by acted_by
nine_as_eight records bits m w found expected x ne =
    rw (nine_entry w, eight_entry w)
    (go (ltb w m.count) (view_of (place_of m.workers w)).busy (ltb m.meter meter_most) (view_of (place_of m.workers w)).weak
    (act_alike bits (fixed_on m.ring) (ends_on m.ring) (slot 0 0) (place_of m.workers w) found expected x ne).1
    (ap (λ (a : Acted). accepted (stored m w (spot_of (fixed_on m.ring) (view_of (place_of m.workers w)).held) a))
    (act_alike bits (fixed_on m.ring) (ends_on m.ring) _ (place_of m.workers w) found expected x ne).0))
  where
    go : (c b t k : Bool) → k ≡ true → accepted (acted bits m w (place_of m.workers w) true) ≡ accepted (acted bits m w (place_of m.workers w) false)
        → cond c (carried bits m w (place_of m.workers w) (cond b (cond t (cond k (Move true) (Refuse 8)) (Refuse 7)) (Refuse 5))) (refused 3 m)
        ≡ cond c (carried bits m w (place_of m.workers w) (cond b (cond t (Move false) (Refuse 7)) (Refuse 5))) (refused 3 m)
    go true true true true weak same = same
    go true true true false weak same = absurd (true≢false (sym weak))
    go true true false k weak same = refl
    go true false t k weak same = refl
    go false b t k weak same = refl
