-- One worker that pushes and pops, again and again: what each round leaves, and what it claims.
use mathlib.Core.Path.{◌≡◌, refl, sym, ap, ◌∙◌, subst}
use mathlib.Core.Logic.{◌≢◌}
use mathlib.Core.Bool.{true, false}
use mathlib.Core.List.{List, [], ◌∷◌, ◌++◌}
use Prim.Native.Nat.{ℕ, zero, suc, ◌+◌, ◌*◌, ◌%◌, ◌≤◌, ◌<◌}
use native.Mathlib.Omega.{arith}
use native.Mathlib.Nat.{add-mod_right}
use native.Mathlib.Decide.{ℕ_discrete}
use lib.ListN.{length, get_or, set, length-set}
use lib.Seq.{get_or-set_same, get_or-set_other}
use Rattle.queue_entries.specs.Limits.{meter_most}
use Rattle.queue_entries.specs.declared.Call.TheVariants as call
use Rattle.queue_entries.specs.declared.Order.TheVariants.{Begin}
use Rattle.queue_entries.specs.declared.Entry.TheVariants.{Asks}
use Rattle.queue_entries.specs.Entries.{stray_of, order_of, entry_of}
use Rattle.bounded_words.specs.declared.Stamp.{Stamp}
use Rattle.bounded_words.specs.declared.Fixed.{Fixed}
use Rattle.bounded_words.specs.declared.Width.{Width}
use Rattle.bounded_words.specs.Words.{claim, plus, one_past}
use Rattle.bounded_places.specs.declared.Slot.{Slot}
use Rattle.bounded_places.specs.declared.Ends.{Ends}
use Rattle.bounded_places.specs.declared.Answer.{Answer}
use Rattle.bounded_places.specs.declared.Answer.TheVariants.{Pushed, Popped}
use Rattle.bounded_places.specs.declared.Place.{Place}
use Rattle.bounded_places.specs.declared.Place.TheVariants.{Idle, O1, O2, O3, O4, O5}
use Rattle.bounded_places.specs.declared.Worker.{Worker}
use Rattle.bounded_acts.specs.Acts.{goes, exchange_of, head_to, stamp_to, act_of}
use Rattle.bounded_machine.specs.declared.Machine.{Machine}
use Rattle.bounded_machine.specs.declared.Event.{Event}
use Rattle.bounded_machine.specs.declared.Tally.{Tally}
use Rattle.bounded_machine.specs.Machine.{slot}
use Rattle.bounded_machine.specs.History.{tally_of}
use Rattle.bounded_demands.specs.Notions.{acts, rounds}
use Rattle.bounded_proof_invariant.proofs.Width.{near_one}
use Rattle.bounded_proof_each_act.proofs.Stamps as stamps
use Rattle.bounded_proof_each_act.proofs.Stamps.{Ground, fixed, W}
use Rattle.bounded_proof_window.proofs.Paths.{tally_both, Goes, on, ending}
use Rattle.bounded_proof_window.proofs.Acting as acting
use Rattle.bounded_proof_window.proofs.Pushing as pushing
use Rattle.bounded_proof_window.proofs.Pushing.{Own, own_both, same_self}

pop_entry : entry_of 2 0 ≡ Asks 0 (Begin call.Pop)
unfolding stray_of order_of entry_of
pop_entry = refl

-- A ring with nothing in it and no slot in hand.
module _ (bits : Width) (c mark n ed : ℕ) (g : Ground bits c mark n) (others : List Worker) (count : ℕ) (some : 0 < count) where
  abbrev f : Fixed
  f = fixed c mark ed

  abbrev all : List Worker
  all = pushing.all bits c mark n ed g others count some

  first : 0 < length (pushing.all bits c mark n ed g others count some)
  first = pushing.first bits c mark n ed g others count some

  abbrev pub at : Ends → List Slot → Place → ℕ → Machine
  at = pushing.at bits c mark n ed g others count some

  abbrev pub both : ℕ → Ends
  both k = record { head = W c mark n k; tail = W c mark n k }

  -- every slot awaits its next claim, the next of all being number k
  pub record Awaiting (k : ℕ) (slots : List Slot) : Type 0 where
    pub long : c ≤ length slots
    pub stamps : (j : ℕ) → k ≤ j → j < k + c → (get_or slots (j % c) (slot 0 0)).stamp ≡ W c mark n j

  module _ (k : ℕ) (slots : List Slot) (o : Awaiting k slots) where
    abbrev t : Stamp
    t = W c mark n k

    abbrev i : ℕ
    i = t.0 % mark

    abbrev halfway : Ends
    halfway = record { head = W c mark n k; tail = W c mark n (k + 1) }

    pub here : (get_or slots (k % c) (slot 0 0)).stamp ≡ W c mark n k
    here = o.stamps k (omega arith) (omega (arith, g.laws.some))

    at_slot : i ≡ k % c
    at_slot = pushing.at_slot bits c mark n ed g others count some t k slots o.long here

    abbrev full : List Slot
    full = pushing.full bits c mark n ed g others count some t k slots o.long here

    abbrev pub emptied : List Slot
    emptied = set full i (stamp_to (get_or full i (slot 0 0)) (plus bits t (2 * mark)))

    abbrev pub value : ℕ
    value = (get_or full i (slot 0 0)).value

    full_long : length full ≡ length slots
    full_long = pushing.full_long bits c mark n ed g others count some t k slots o.long here

    full_seat : i < length full
    full_seat = omega (arith, full_long, pushing.seat bits c mark n ed g others count some t k slots o.long here)

    held : one_past bits (get_or full i (slot 0 0)).stamp t ≡ true
    unfolding one_past
    held = same_self _ _ (pushing.full_stamp bits c mark n ed g others count some t k slots o.long here)

    o2 : act_of bits f halfway (get_or full i (slot 0 0)) (O2 t) false ≡ goes halfway (get_or full i (slot 0 0)) (O3 t)
    o2 = rw held

    o3 : act_of bits f halfway (get_or full i (slot 0 0)) (O3 t) false ≡ goes (both (k + 1)) (get_or full i (slot 0 0)) (O4 t)
    unfolding exchange_of head_to
    o3 = rw (same_self t t refl, stamps.next_is bits c mark n g ed k)

    -- The pop: one claim at head, and one value read.
    record Popping (meter : ℕ) (rest : List ℕ) : Type 0 where
      pub done : List Event
      pub goes_on : Goes bits (at halfway full (Idle Pushed) meter) (2 ∷ 0 ∷ acts 0 5 ++ rest) (at (both (k + 1)) emptied (Idle (Popped value)) (meter + 5)) rest done
      pub tallies : (t : Tally) → tally_of done t ≡ record { tail = t.tail; head = claim (t.head.0 + 1); reads = t.reads + 1 }
      pub own : Own done

    gathered : (meter : ℕ) (rest : List ℕ) (later : ℕ) → later ≡ meter + 5 → (done : List Event)
        → Goes bits (at halfway full (Idle Pushed) meter) (2 ∷ 0 ∷ acts 0 5 ++ rest) (at (both (k + 1)) emptied (Idle (Popped value)) later) rest done
        → ((t : Tally) → tally_of done t ≡ record { tail = t.tail; head = claim (t.head.0 + 1); reads = t.reads + 1 }) → Own done → Popping meter rest
    gathered meter rest later five done g tallies own =
        record { done = done; goes_on = ending bits (ap (at (both (k + 1)) emptied (Idle (Popped value))) five) g; tallies = tallies; own = own }

    pops_one : (meter : ℕ) → meter + 5 ≤ meter_most → (rest : List ℕ) → Popping meter rest
    unfolding acts tally_of
    pops_one meter early rest =
        let s0 = acting.begins bits f count 0 some all first halfway full Pushed call.Pop 2 0 meter pop_entry (8 ∷ 0 ∷ 8 ∷ 0 ∷ 8 ∷ 0 ∷ 8 ∷ 0 ∷ 8 ∷ 0 ∷ rest) in
        let s1 = acting.looks_to bits f count 0 some all first halfway halfway full O1 (O2 t) meter refl (omega arith) refl (8 ∷ 0 ∷ 8 ∷ 0 ∷ 8 ∷ 0 ∷ 8 ∷ 0 ∷ rest) in
        let s2 = acting.looks_to bits f count 0 some all first halfway halfway full (O2 t) (O3 t) (meter + 1) refl (omega arith) o2 (8 ∷ 0 ∷ 8 ∷ 0 ∷ 8 ∷ 0 ∷ rest) in
        let s3 = acting.looks_to bits f count 0 some all first halfway (both (k + 1)) full (O3 t) (O4 t) (meter + 1 + 1) refl (omega arith) o3 (8 ∷ 0 ∷ 8 ∷ 0 ∷ rest) in
        let s4 = acting.looks_to bits f count 0 some all first (both (k + 1)) (both (k + 1)) full (O4 t) (O5 t value) (meter + 1 + 1 + 1) refl (omega arith) refl (8 ∷ 0 ∷ rest) in
        let s5 = acting.acts_to bits f count 0 some all first (both (k + 1)) (both (k + 1)) full _ (O5 t value) (Idle (Popped value)) (meter + 1 + 1 + 1 + 1) refl (omega arith) refl rest in
        gathered meter rest _ (omega arith) _ (on bits s0 (on bits s1 (on bits s2 (on bits s3 (on bits s4 s5))))) (λ z. refl) (refl, (refl, (refl, (refl, (refl, tt)))))

    -- A round: one claim at either end, and one value read.
    pub record Round (a : Answer) (meter : ℕ) (rest : List ℕ) : Type 0 where
      pub done : List Event
      pub goes_on : Goes bits (at (both k) slots (Idle a) meter) (0 ∷ 7 ∷ acts 0 5 ++ 2 ∷ 0 ∷ acts 0 5 ++ rest)
          (at (both (k + 1)) emptied (Idle (Popped value)) (meter + 10)) rest done
      pub tallies : (t : Tally) → tally_of done t ≡ record { tail = claim (t.tail.0 + 1); head = claim (t.head.0 + 1); reads = t.reads + 1 }
      pub own : Own done

    pub round : (a : Answer) (meter : ℕ) → meter + 10 ≤ meter_most → (rest : List ℕ) → Round a meter rest
    unfolding acts
    round a meter early rest =
        let one = pushing.pushes_one bits c mark n ed g others count some t k slots o.long here a meter (omega arith) (2 ∷ 0 ∷ acts 0 5 ++ rest) in
        let two = pops_one (meter + 5) (omega arith) rest in
        let ten : meter + 5 + 5 ≡ meter + 10 = omega arith in
        record {
          done = one.done ++ two.done;
          goes_on = ending bits (ap (at (both (k + 1)) emptied (Idle (Popped value))) ten) (on bits one.goes_on two.goes_on);
          tallies = λ z.
              tally_both one.done two.done z ∙ ap (tally_of two.done) (one.tallies z) ∙ two.tallies (record { tail = claim (z.tail.0 + 1); head = z.head; reads = z.reads });
          own = own_both one.done two.done one.own two.own;
        }

    pub awaits : Awaiting (k + 1) emptied
    unfolding stamp_to
    awaits = record { long = omega (arith, o.long, lengths); stamps = λ j low high. go j low high (ℕ_discrete j (k + c)) }
      where
        lengths : length emptied ≡ length slots
        lengths = length-set full i _ ∙ full_long

        go : (j : ℕ) → k + 1 ≤ j → j < k + 1 + c → Dec (j ≡ k + c) → (get_or emptied (j % c) (slot 0 0)).stamp ≡ W c mark n j
        go j low high (yes e) =
            let here : j % c ≡ i = ap (λ (x : ℕ). x % c) e ∙ add-mod_right k c ∙ sym at_slot in
            ap (λ (x : ℕ). (get_or emptied x (slot 0 0)).stamp) here
            ∙ ap (λ (z : Slot). z.stamp) (get_or-set_same full i (stamp_to (get_or full i (slot 0 0)) (plus bits t (2 * mark))) (slot 0 0) full_seat)
            ∙ stamps.plus_lap bits c mark n g k
            ∙ ap (W c mark n) (sym e)
        go j low high (no ne) =
            let else_where : j % c ≢ i = λ e. ne (absurd (omega (arith, near_one c k j g.laws.some (omega arith) (omega arith) (e ∙ at_slot)))) in
            ap (λ (z : Slot). z.stamp) (get_or-set_other full i (j % c) _ (slot 0 0) else_where)
            ∙ ap (λ (z : Slot). z.stamp) (pushing.full_else bits c mark n ed g others count some t k slots o.long here (j % c) else_where)
            ∙ o.stamps j (omega arith) (omega arith)

  -- So many rounds.
  pub record Rounds (m : Machine) (r k meter : ℕ) (rest : List ℕ) : Type 0 where
    pub slots : List Slot
    pub answer : Answer
    pub awaiting : Awaiting k slots
    pub done : List Event
    pub goes_on : Goes bits m (rounds r ++ rest) (at (both k) slots (Idle answer) meter) rest done
    pub tails : (t : Tally) → (tally_of done t).tail.0 ≡ t.tail.0 + r
    pub heads : (t : Tally) → (tally_of done t).head.0 ≡ t.head.0 + r
    pub own : Own done

  pub goes_round : (r k : ℕ) (slots : List Slot) (a : Answer) (meter : ℕ) → Awaiting k slots → meter + 10 * r ≤ meter_most → (rest : List ℕ)
      → Rounds (at (both k) slots (Idle a) meter) r (k + r) (meter + 10 * r) rest
  unfolding rounds acts tally_of
  goes_round zero k slots a meter o early rest =
      let number : k ≡ k + 0 = omega arith in
      let acted : meter ≡ meter + 10 * 0 = omega arith in
      record {
        slots = slots;
        answer = a;
        awaiting = subst (λ (x : ℕ). Awaiting x slots) number o;
        done = [];
        goes_on =
            ending bits
            (ap (λ (x : ℕ). at (both x) slots (Idle a) meter) number
            ∙ ap (λ (x : ℕ). at (both (k + 0)) slots (Idle a) x) acted)
            (record { run = refl; history = refl });
        tails = λ t. omega arith;
        heads = λ t. omega arith;
        own = tt;
      }
  goes_round (suc r) k slots a meter o early rest =
      let one = round k slots o a meter (omega arith) (rounds r ++ rest) in
      let more = goes_round r (k + 1) (emptied k slots o) (Popped (value k slots o)) (meter + 10) (awaits k slots o) (omega arith) rest in
      let number : k + 1 + r ≡ k + suc r = omega arith in
      let acted : meter + 10 + 10 * r ≡ meter + 10 * suc r = omega arith in
      record {
        slots = more.slots;
        answer = more.answer;
        awaiting = subst (λ (x : ℕ). Awaiting x more.slots) number more.awaiting;
        done = one.done ++ more.done;
        goes_on =
            on bits one.goes_on
            (ending bits
            (ap (λ (x : ℕ). at (both x) more.slots (Idle more.answer) (meter + 10 + 10 * r)) number
            ∙ ap (λ (x : ℕ). at (both (k + suc r)) more.slots (Idle more.answer) x) acted)
            more.goes_on);
        tails = λ t. ap (λ (z : Tally). z.tail.0) (tally_both one.done more.done t ∙ ap (tally_of more.done) (one.tallies t)) ∙ more.tails _ ∙ omega arith;
        heads = λ t. ap (λ (z : Tally). z.head.0) (tally_both one.done more.done t ∙ ap (tally_of more.done) (one.tallies t)) ∙ more.heads _ ∙ omega arith;
        own = own_both one.done more.done one.own more.own;
      }
