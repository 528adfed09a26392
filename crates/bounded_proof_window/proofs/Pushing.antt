-- One push of worker 0 that finds its slot free, whatever head is.
use mathlib.Core.Path.{◌≡◌, refl, ap, ◌∙◌}
use mathlib.Core.Logic.{◌≢◌}
use mathlib.Core.Bool.{true, false}
use mathlib.Core.List.{List, [], ◌∷◌, ◌++◌}
use Prim.Native.Nat.{ℕ, ◌+◌, ◌%◌, ◌≤◌, ◌<◌}
use native.Mathlib.Omega.{arith}
use native.Mathlib.Nat.{mod-lt}
use lib.ListN.{length, get_or, set, length-set}
use lib.Seq.{get_or-set_same, get_or-set_other}
use borrow.Author.Tests.{eq-eqb}
use Rattle.queue_entries.specs.Limits.{meter_most}
use Rattle.queue_entries.specs.declared.Call.TheVariants as call
use Rattle.queue_entries.specs.declared.Order.TheVariants.{Begin}
use Rattle.queue_entries.specs.declared.Entry.TheVariants.{Asks}
use Rattle.queue_entries.specs.Entries.{stray_of, order_of, entry_of}
use Rattle.bounded_words.specs.declared.Stamp.{Stamp}
use Rattle.bounded_words.specs.declared.Fixed.{Fixed}
use Rattle.bounded_words.specs.declared.Width.{Width}
use Rattle.bounded_words.specs.Words.{claim, marked_of, plus, same}
use Rattle.bounded_places.specs.declared.Slot.{Slot}
use Rattle.bounded_places.specs.declared.Ends.{Ends}
use Rattle.bounded_places.specs.declared.Kind.TheVariants.{Push}
use Rattle.bounded_places.specs.declared.Answer.{Answer}
use Rattle.bounded_places.specs.declared.Answer.TheVariants.{Pushed}
use Rattle.bounded_places.specs.declared.Place.{Place}
use Rattle.bounded_places.specs.declared.Place.TheVariants.{Idle, P1, P2, P3, P4, P5}
use Rattle.bounded_places.specs.declared.Worker.{Worker}
use Rattle.bounded_acts.specs.Acts.{goes, exchange_of, after_tail, tail_to, stamp_to, value_to, act_of}
use Rattle.bounded_machine.specs.declared.Event.{Event}
use Rattle.bounded_machine.specs.declared.Machine.{Machine}
use Rattle.bounded_machine.specs.declared.Tally.{Tally}
use Rattle.bounded_machine.specs.Machine.{slot, idler}
use Rattle.bounded_machine.specs.History.{tally_of}
use Rattle.bounded_demands.specs.Notions.{acts}
use Rattle.bounded_proof_each_act.proofs.Stamps as stamps
use Rattle.bounded_proof_each_act.proofs.Stamps.{Ground, fixed, W}
use Rattle.bounded_proof_window.proofs.Paths.{Goes, on, ending}
use Rattle.bounded_proof_window.proofs.Acting as acting

-- All of these acts are worker 0's.
abbrev pub Own : List Event → Type 0
Own [] = Unit {0}
Own (e ∷ h) = (e.worker ≡ 0) × Own h

pub own_both : (l h : List Event) → Own l → Own h → Own (l ++ h)
own_both [] h o p = p
own_both (e ∷ l) h o p = (o.0, own_both l h o.1 p)

pub same_self : (a b : Stamp) → a ≡ b → same a b ≡ true
unfolding same
same_self a b e = eq-eqb a.0 b.0 (ap (λ (z : Stamp). z.0) e)

push_entry : entry_of 0 7 ≡ Asks 0 (Begin (call.Push 7))
unfolding stray_of order_of entry_of
push_entry = refl

module _ (bits : Width) (c mark n ed : ℕ) (g : Ground bits c mark n) (others : List Worker) (count : ℕ) (some : 0 < count) where
  abbrev f : Fixed
  f = fixed c mark ed

  -- worker 0 and the others
  abbrev pub all : List Worker
  all = idler ∷ others

  pub first : 0 < length (idler ∷ others)
  first = omega arith

  abbrev pub at : Ends → List Slot → Place → ℕ → Machine
  at = acting.at bits f count 0 some all first

  abbrev pub ends : Stamp → ℕ → Ends
  ends head k = record { head = head; tail = W c mark n k }

  module _ (head : Stamp) (k : ℕ) (slots : List Slot) (long : c ≤ length slots) (free_at : (get_or slots (k % c) (slot 0 0)).stamp ≡ W c mark n k) where
    abbrev t : Stamp
    t = W c mark n k

    abbrev i : ℕ
    i = t.0 % mark

    pub at_slot : i ≡ k % c
    at_slot = stamps.word_slot bits c mark n g t k refl

    pub seat : i < length slots
    seat = omega (arith, at_slot, mod-lt k g.laws.some, long)

    abbrev pub filled : List Slot
    filled = set slots i (value_to (get_or slots i (slot 0 0)) 7)

    abbrev pub full : List Slot
    full = set filled i (stamp_to (get_or filled i (slot 0 0)) (plus bits t 1))

    pub full_long : length full ≡ length slots
    full_long = length-set filled i (stamp_to (get_or filled i (slot 0 0)) (plus bits t 1)) ∙ length-set slots i (value_to (get_or slots i (slot 0 0)) 7)

    -- what it leaves there
    pub full_stamp : (get_or full i (slot 0 0)).stamp ≡ plus bits t 1
    unfolding stamp_to
    full_stamp =
        let in_list : i < length filled = omega (arith, seat, length-set slots i (value_to (get_or slots i (slot 0 0)) 7)) in
        ap (λ (z : Slot). z.stamp) (get_or-set_same filled i (stamp_to (get_or filled i (slot 0 0)) (plus bits t 1)) (slot 0 0) in_list)

    pub full_else : (j : ℕ) → j ≢ i → get_or full j (slot 0 0) ≡ get_or slots j (slot 0 0)
    full_else j ne = get_or-set_other filled i j _ (slot 0 0) ne ∙ get_or-set_other slots i j _ (slot 0 0) ne

    marked : marked_of f t ≡ false
    marked = stamps.marked_tail bits c mark n g ed k false

    free : same (get_or slots i (slot 0 0)).stamp t ≡ true
    free = same_self _ _ (ap (λ (j : ℕ). (get_or slots j (slot 0 0)).stamp) at_slot ∙ free_at)

    p1 : act_of bits f (ends head k) (get_or slots 0 (slot 0 0)) (P1 Push 7) false ≡ goes (ends head k) (get_or slots 0 (slot 0 0)) (P2 Push t 7)
    unfolding after_tail
    p1 = rw marked

    p2 : act_of bits f (ends head k) (get_or slots i (slot 0 0)) (P2 Push t 7) false ≡ goes (ends head k) (get_or slots i (slot 0 0)) (P3 Push t 7)
    p2 = rw free

    p3 : act_of bits f (ends head k) (get_or slots i (slot 0 0)) (P3 Push t 7) false ≡ goes (ends head (k + 1)) (get_or slots i (slot 0 0)) (P4 t 7)
    unfolding exchange_of tail_to
    p3 = rw (same_self t t refl, stamps.next_is bits c mark n g ed k)

    -- one claim at tail
    pub record Pushing (a : Answer) (meter : ℕ) (rest : List ℕ) : Type 0 where
      pub done : List Event
      pub goes_on : Goes bits (at (ends head k) slots (Idle a) meter) (0 ∷ 7 ∷ acts 0 5 ++ rest) (at (ends head (k + 1)) full (Idle Pushed) (meter + 5)) rest done
      pub tallies : (t : Tally) → tally_of done t ≡ record { tail = claim (t.tail.0 + 1); head = t.head; reads = t.reads }
      pub own : Own done

    gathered : (a : Answer) (meter : ℕ) (rest : List ℕ) (later : ℕ) → later ≡ meter + 5 → (done : List Event)
        → Goes bits (at (ends head k) slots (Idle a) meter) (0 ∷ 7 ∷ acts 0 5 ++ rest) (at (ends head (k + 1)) full (Idle Pushed) later) rest done
        → ((t : Tally) → tally_of done t ≡ record { tail = claim (t.tail.0 + 1); head = t.head; reads = t.reads }) → Own done → Pushing a meter rest
    gathered a meter rest later five done g tallies own =
        record { done = done; goes_on = ending bits (ap (at (ends head (k + 1)) full (Idle Pushed)) five) g; tallies = tallies; own = own }

    pub pushes_one : (a : Answer) (meter : ℕ) → meter + 5 ≤ meter_most → (rest : List ℕ) → Pushing a meter rest
    unfolding acts tally_of
    pushes_one a meter early rest =
        let s0 = acting.begins bits f count 0 some all first (ends head k) slots a (call.Push 7) 0 7 meter push_entry (8 ∷ 0 ∷ 8 ∷ 0 ∷ 8 ∷ 0 ∷ 8 ∷ 0 ∷ 8 ∷ 0 ∷ rest) in
        let s1 = acting.looks_to bits f count 0 some all first (ends head k) (ends head k) slots (P1 Push 7) (P2 Push t 7) meter refl (omega arith) p1 (8 ∷ 0 ∷ 8 ∷ 0 ∷ 8 ∷ 0 ∷ 8 ∷ 0 ∷ rest) in
        let s2 = acting.looks_to bits f count 0 some all first (ends head k) (ends head k) slots (P2 Push t 7) (P3 Push t 7) (meter + 1) refl (omega arith) p2 (8 ∷ 0 ∷ 8 ∷ 0 ∷ 8 ∷ 0 ∷ rest) in
        let s3 = acting.looks_to bits f count 0 some all first (ends head k) (ends head (k + 1)) slots (P3 Push t 7) (P4 t 7) (meter + 1 + 1) refl (omega arith) p3 (8 ∷ 0 ∷ 8 ∷ 0 ∷ rest) in
        let s4 = acting.acts_to bits f count 0 some all first (ends head (k + 1)) (ends head (k + 1)) slots _ (P4 t 7) (P5 t) (meter + 1 + 1 + 1) refl (omega arith) refl (8 ∷ 0 ∷ rest) in
        let s5 = acting.acts_to bits f count 0 some all first (ends head (k + 1)) (ends head (k + 1)) filled _ (P5 t) (Idle Pushed) (meter + 1 + 1 + 1 + 1) refl (omega arith) refl rest in
        gathered a meter rest _ (omega arith) _ (on bits s0 (on bits s1 (on bits s2 (on bits s3 (on bits s4 s5))))) (λ z. refl) (refl, (refl, (refl, (refl, (refl, tt)))))
