-- A schedule over a lent ring and lent records, turn by turn.
use Prim.Native.Nat.{ℕ, ◌+◌, ◌*◌, ◌<◌}
use mathlib.Core.Path.{◌≡◌, refl, sym, ap, ◌∙◌, subst}
use mathlib.Core.Bool.{Bool, true, false, cond}
use mathlib.Core.List.{List}
use native.Mathlib.Omega.{arith}
use lib.Dec.{eqb, leb, ltb}
use lib.ListN.{length, get_or, drop, length-set}
use borrow.Author.Tests.{eqb-true, eqb-false, ne_eqb}
use Rattle.queue_entries.specs.declared.Entry.{Entry}
use Rattle.queue_entries.specs.declared.Entry.TheVariants.{Unreadable, Asks}
use Rattle.queue_entries.specs.declared.Verdict.{Verdict}
use Rattle.queue_entries.specs.declared.Verdict.TheVariants.{Refuse, Start, Move}
use Rattle.queue_entries.specs.Entries.{entry_of}
use Rattle.queue_entries.specs.Schedules.{run_by}
use Rattle.queue_entries.proofs.Searching.{two_words}
use Rattle.bounded_words.specs.declared.Width.TheVariants.{SixtyFour}
use Rattle.bounded_places.specs.declared.Worker.{Worker}
use Rattle.bounded_acts.specs.Acts.{act_of}
use Rattle.bounded_machine.specs.declared.Machine.{Machine}
use Rattle.bounded_machine.specs.declared.Did.{Did}
use Rattle.bounded_machine.specs.Machine.{place_of, refused, accepted}
use Rattle.bounded_machine.specs.Turn.{verdict_of, begun, stored, acted_by, carried, turn, turn_of, turn_of_by}
use Rattle.bounded_machine.specs.Run.{ran, run_at}
use Rattle.bounded_machine.proofs.Kept.{either, UnbrokenWith}
use Rattle.bounded_machine.proofs.Turns.{turn_of_unbroken, ended}
use Rattle.bounded_step_machine.proofs.Steps.{turn_unchanged}
use Rattle.bounded_orders.specs.declared.Metered.{Metered}
use Rattle.bounded_orders.specs.declared.Report.{Report}
use Rattle.bounded_orders.specs.Orders.{records_most, metered_of, unless_refused, report, judged_of}
use Rattle.bounded_orders.proofs.Making.{not_refused, is_refused}
use Rattle.bounded_orders.proofs.Judging.{judged_stops, judged_goes}
use Rattle.bounded_lent.specs.Lent.{held, broken_lent, Lent, lent, turn_lent, gone, gone_of, run_lent}
use Rattle.bounded_lent.proofs.Turning.{unbroken_lent, few_lent, lent_unbroken}

-- ---- an entry leaves as many records as there were, and the count is theirs
abbrev pub Whole : ℕ → Machine → Type 0
Whole n m = (length m.workers ≡ n) × (m.count ≡ n)

module _ (n : ℕ) (m : Machine) (u : Whole n m) where
  carried_whole : (w : ℕ) (v : Verdict) → Whole n (carried SixtyFour m w (place_of m.workers w) v).machine
  unfolding refused accepted begun acted_by stored
  carried_whole w (Refuse k) = u
  carried_whole w (Start c) = (length-set m.workers w _ ∙ u.0, u.1)
  carried_whole w (Move lose) = (length-set m.workers w _ ∙ u.0, u.1)

  turn_whole : (x : Entry) → Whole n (turn SixtyFour m x).machine
  unfolding refused
  turn_whole Unreadable = u
  turn_whole (Asks w o) =
      either (λ (d : Did). Whole n d.machine) (ltb w m.count) (carried SixtyFour m w (place_of m.workers w) (verdict_of m.meter (place_of m.workers w) o)) (refused 3 m)
      (λ b. carried_whole w (verdict_of m.meter (place_of m.workers w) o)) (λ b. u)

  pub turned_whole : (first second : ℕ) → Whole n (turn_of m first second).machine
  unfolding turn_of_by
  turned_whole first second = turn_whole (entry_of first second)

-- the machine that has a machine's own records is that machine
pub held_again : (m : Machine) → m.count ≡ length m.workers → held (metered_of m) m.workers ≡ m
held_again m e = ap (λ (k : ℕ). record { ring = m.ring; workers = m.workers; count = k; meter = m.meter }) (sym e)

pub unchanged : (m : Machine) (first second : ℕ) → eqb (turn_of m first second).refusal 0 ≡ false → (turn_of m first second).machine ≡ m
unfolding turn_of_by
unchanged m first second = turn_unchanged (act_of SixtyFour) m (entry_of first second)

-- ---- the schedule s on l and ys, which reports `whole` if no entry is refused, of which n are run
module _ (l : Metered) (ys : List Worker) (s : List ℕ) (whole : Report) (n : ℕ) where
  -- i entries were run and have left h and zs
  pub record Left (i : ℕ) (h : Metered) (zs : List Worker) : Type 0 where
    pub to_end : whole ≡ report 0 n
    pub long : length s ≡ 2 * n
    pub sound : broken_lent h zs ≡ false
    pub rest : gone_of (run_at SixtyFour (held h zs) i (drop (2 * i) s)) ≡ run_lent l ys s

  pub data Going (i : ℕ) (h : Metered) (zs : List Worker) : Type 0 where
    stopped : n ≡ 0 → gone whole h zs ≡ run_lent l ys s → Going i h zs
    running : Left i h zs → Going i h zs

  pub begins : whole ≡ judged_of (broken_lent l ys) s → n ≡ unless_refused whole.refusal whole.place → Going 0 l ys
  unfolding run_lent ran
  begins e is-n = go (eqb whole.refusal 0) refl
    where
      go : (b : Bool) → eqb whole.refusal 0 ≡ b → Going 0 l ys
      go false h =
          let ne = eqb-false whole.refusal 0 h in
          stopped (is-n ∙ sym (is_refused whole.refusal whole.place ne))
          (ap gone_of (judged_stops (λ (d : Did). d.refusal) (λ (d : Did). d.machine) turn_of ran (λ (m : Machine). broken_lent l ys) (held l ys) s whole e ne))
      go true h =
          let z = eqb-true whole.refusal 0 h in
          let g = judged_goes (λ (d : Did). d.refusal) (λ (d : Did). d.machine) turn_of ran (λ (m : Machine). broken_lent l ys) (held l ys) s whole e z in
          let p : whole.place ≡ n = not_refused whole.refusal whole.place z ∙ sym is-n in
          running (record { to_end = λ i. report (z i) (p i); long = g.long ∙ ap (λ (k : ℕ). 2 * k) p; sound = g.sound; rest = ap gone_of g.rest })

  module _ (i : ℕ) (h : Metered) (zs : List Worker) where
    pub left_of : Going i h zs → i < n → Left i h zs
    left_of (stopped z e) less = absurd (omega arith)
    left_of (running o) less = o

    pub ends_whole : Going i h zs → i ≡ n → gone whole h zs ≡ run_lent l ys s
    unfolding ran
    ends_whole (stopped z e) is = e
    ends_whole (running o) is =
        ap (λ (r : Report). gone r h zs) (o.to_end ∙ ap (report 0) (sym is))
        ∙ ap gone_of (ended SixtyFour s n i (held h zs) (run_at SixtyFour (held h zs) i (drop (2 * i) s)) refl o.long (omega arith)) ∙ o.rest

    -- one entry
    module _ (o : Left i h zs) (less : i < n) (r : ℕ) (h' : Metered) (zs' : List Worker) (e : lent r h' zs' ≡ turn_lent h zs (get_or s (2 * i) 0) (get_or s (2 * i + 1) 0)) where
      abbrev did : Did
      did = turn_of (held h zs) (get_or s (2 * i) 0) (get_or s (2 * i + 1) 0)

      here : gone_of (cond (eqb did.refusal 0) (run_at SixtyFour did.machine (i + 1) (drop (2 * (i + 1)) s)) (ran did.refusal i (held h zs))) ≡ run_lent l ys s
      unfolding run_by
      here = ap (λ (z : List ℕ). gone_of (run_at SixtyFour (held h zs) i z)) (sym (two_words s i (omega (arith, o.long)))) ∙ o.rest

      refusal_is : did.refusal ≡ r
      refusal_is = sym (ap (λ (z : Lent). z.answer) e)

      pub stops_here : (r ≡ 0 → ⊥) → gone (report r i) h' zs' ≡ run_lent l ys s
      unfolding ran
      stops_here ne =
          let not_zero : eqb did.refusal 0 ≡ false = ne_eqb did.refusal 0 (λ z. ne (sym refusal_is ∙ z)) in
          let same = unchanged (held h zs) (get_or s (2 * i) 0) (get_or s (2 * i + 1) 0) not_zero in
          let ring_is : h' ≡ h = ap (λ (z : Lent). z.ring) e ∙ ap metered_of same in
          let records_are : zs' ≡ zs = ap (λ (z : Lent). z.records) e ∙ ap (λ (m : Machine). m.workers) same in
          ap (λ (z : Metered). gone (report r i) z zs') ring_is ∙ ap (gone (report r i) h) records_are ∙ ap (λ (k : ℕ). gone (report k i) h zs) (sym refusal_is)
          ∙ sym (ap (λ (b : Bool). gone_of (cond b (run_at SixtyFour did.machine (i + 1) (drop (2 * (i + 1)) s)) (ran did.refusal i (held h zs)))) not_zero) ∙ here

      pub goes_on : r ≡ 0 → length zs' ≡ length zs → Going (i + 1) h' zs'
      goes_on z same =
          let whole_now = turned_whole (length zs) (held h zs) (refl, refl) (get_or s (2 * i) 0) (get_or s (2 * i + 1) 0) in
          let held_is : held h' zs' ≡ did.machine = ap (λ (x : Lent). held x.ring x.records) e ∙ held_again did.machine (whole_now.1 ∙ sym whole_now.0) in
          let is_zero : eqb did.refusal 0 ≡ true = ap (λ (k : ℕ). eqb k 0) (refusal_is ∙ z) in
          running (record {
            to_end = o.to_end;
            long = o.long;
            sound = lent_unbroken h' zs' (ap (λ (k : ℕ). leb k records_most) same ∙ few_lent h zs o.sound)
                (subst (λ (k : ℕ). UnbrokenWith k (held h' zs')) (sym same) (subst (UnbrokenWith (length zs)) (sym held_is)
                (turn_of_unbroken SixtyFour (held h zs) (unbroken_lent h zs o.sound) (get_or s (2 * i) 0) (get_or s (2 * i + 1) 0))));
            rest = ap (λ (m : Machine). gone_of (run_at SixtyFour m (i + 1) (drop (2 * (i + 1)) s))) held_is
                ∙ sym (ap (λ (b : Bool). gone_of (cond b (run_at SixtyFour did.machine (i + 1) (drop (2 * (i + 1)) s)) (ran did.refusal i (held h zs)))) is_zero) ∙ here;
          })
