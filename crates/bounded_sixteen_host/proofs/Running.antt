-- Entries over words of sixteen bits, one and a schedule, turn by turn.
use Prim.Native.Nat.{ℕ, ◌+◌, ◌*◌, ◌<◌, ◌≤◌}
use mathlib.Core.Path.{◌≡◌, refl, sym, ap, ◌∙◌}
use mathlib.Core.Bool.{Bool, true, false, cond}
use mathlib.Core.List.{List}
use native.Mathlib.Omega.{arith}
use lib.Dec.{eqb}
use lib.ListN.{length, get_or, drop, drop_of_length-le}
use borrow.Author.Tests.{eqb-true, eqb-false, ne_eqb, eq-eqb}
use Rattle.queue_entries.specs.Entries.{entry_of}
use Rattle.queue_entries.specs.Schedules.{run_by, schedule_by}
use Rattle.queue_entries.proofs.Searching.{two_words}
use Rattle.bounded_words.specs.declared.Width.TheVariants.{Sixteen}
use Rattle.bounded_acts.specs.Acts.{act_of}
use Rattle.bounded_machine.specs.declared.Machine.{Machine}
use Rattle.bounded_machine.specs.Turn.{turn_at, turn_of_by}
use Rattle.bounded_step_machine.proofs.Steps.{turn_unchanged}
use Rattle.bounded_orders.specs.declared.Report.{Report}
use Rattle.bounded_orders.specs.Orders.{metered_of, unless_refused, report, judged_of}
use Rattle.bounded_orders.proofs.Making.{not_refused, is_refused}
use Rattle.bounded_orders.proofs.Judging.{judged_stops, judged_goes}
use Rattle.bounded_lent.specs.Lent.{held, broken_lent}
use Rattle.bounded_words.specs.declared.Fixed.{Fixed}
use Rattle.bounded_rows.specs.Rows.{fixed_in, records_in}
use Rattle.bounded_sixteen_rows.specs.SixteenRows.{Shorts, shorts, shorts_of, metered_in, stand, broken_shorts, After, after, after_of, turn_shorts}
use Rattle.bounded_sixteen_rows.proofs.Lists.{standing, same_words}
use Rattle.bounded_sixteen_rows.proofs.Fitting as fitting
use Rattle.bounded_sixteen_host.specs.SixteenHost.{reply, broken_refusal, turned, step_shorts, Ended, ended, run_shorts, capacity_shorts}

-- ---- words that were judged
module _ (h : List ℕ) (m : ℕ) (ss vs rs : List ℕ) (b : Bool) (eb : b ≡ broken_shorts (shorts h m ss vs rs)) where
  pub six : b ≡ true → 6 ≡ broken_refusal (shorts h m ss vs rs)
  unfolding broken_refusal
  six t = rw (sym eb ∙ t) refl

  pub not_six : b ≡ false → 0 ≡ broken_refusal (shorts h m ss vs rs)
  unfolding broken_refusal
  not_six f = rw (sym eb ∙ f) refl

  pub stands_so : b ≡ false → stand (shorts h m ss vs rs) ≡ true
  stands_so = fitting.stands_so (shorts h m ss vs rs) b eb

  pub sound : b ≡ false → broken_lent (metered_in (shorts h m ss vs rs)) (records_in rs) ≡ false
  sound = fitting.sound (shorts h m ss vs rs) b eb

  pub step_six : (first second : ℕ) → b ≡ true → after 6 (shorts h m ss vs rs) ≡ step_shorts (shorts h m ss vs rs) first second
  unfolding step_shorts
  step_six first second t = rw (sym eb ∙ t) refl

  pub stepped : (first second r : ℕ) (h' : List ℕ) (m' : ℕ) (ss' vs' rs' : List ℕ) → b ≡ false
      → after r (shorts h' m' ss' vs' rs') ≡ after_of (turn_shorts (shorts h m ss vs rs) first second)
      → after r (shorts h' m' ss' vs' rs') ≡ step_shorts (shorts h m ss vs rs) first second
  unfolding step_shorts
  stepped first second r h' m' ss' vs' rs' f e = e ∙ sym (rw (sym eb ∙ f) refl)

  pub run_six : (s : List ℕ) → b ≡ true → ended 6 0 (shorts h m ss vs rs) ≡ run_shorts (shorts h m ss vs rs) s
  unfolding run_shorts schedule_by
  run_six s t = sym (rw (sym eb ∙ t) refl)

  pub capacity_six : b ≡ true → reply 6 0 ≡ capacity_shorts (shorts h m ss vs rs)
  unfolding capacity_shorts
  capacity_six t = sym (rw (sym eb ∙ t) refl)

  pub capacity_told_lem : b ≡ false → (f : Fixed) → f ≡ fixed_in h → reply 0 f.capacity ≡ capacity_shorts (shorts h m ss vs rs)
  unfolding capacity_shorts fixed_in
  capacity_told_lem whole f ef = ap (λ (x : Fixed). reply 0 x.capacity) ef ∙ sym (rw (sym eb ∙ whole) refl)

-- ---- a refused entry changes no word
module _ (w : Shorts) (st : stand w ≡ true) (first second : ℕ) where
  abbrev m : Machine
  m = held (metered_in w) (records_in w.records)

  unchanged : eqb (turn_at Sixteen m first second).refusal 0 ≡ false → (turn_at Sixteen m first second).machine ≡ m
  unfolding turn_of_by
  unchanged = turn_unchanged (act_of Sixteen) m (entry_of first second)

  pub same_after : ((turned w first second).answer ≡ 0 → ⊥) → (turned w first second).words ≡ w
  same_after ne =
      ap (λ (x : Machine). shorts_of (metered_of x) x.workers) (unchanged (ne_eqb (turn_at Sixteen m first second).refusal 0 ne))
      ∙ same_words w (standing w st)

-- ---- the schedule s on the words w₀, which reports `whole` if no entry is refused, of which n are run
abbrev pub from : Shorts → ℕ → List ℕ → Ended
from = run_by (λ (x : After). x.answer) (λ (x : After). x.words) turned ended

module _ (h₀ : List ℕ) (m₀ : ℕ) (ss₀ vs₀ rs₀ s : List ℕ) (whole : Report) (n : ℕ) where
  abbrev pub w₀ : Shorts
  w₀ = shorts h₀ m₀ ss₀ vs₀ rs₀

  pub record Left (i : ℕ) (w : Shorts) : Type 0 where
    pub to_end : whole ≡ report 0 n
    pub long : length s ≡ 2 * n
    pub rest : from w i (drop (2 * i) s) ≡ run_shorts w₀ s

  pub data Course (i : ℕ) (w : Shorts) : Type 0 where
    stopped : n ≡ 0 → ended whole.refusal whole.place w ≡ run_shorts w₀ s → Course i w
    running : Left i w → Course i w

  -- i entries were run and have left these words
  pub record Going (h : List ℕ) (m : ℕ) (ss vs rs : List ℕ) (i : ℕ) : Type 0 where
    pub low : i ≤ n
    pub room : 2 * n ≤ length s
    pub long_head : length h ≡ length h₀
    pub long_stamps : length ss ≡ length ss₀
    pub long_values : length vs ≡ length vs₀
    pub long_records : length rs ≡ length rs₀
    pub stands : stand (shorts h m ss vs rs) ≡ true
    pub whole_yet : broken_lent (metered_in (shorts h m ss vs rs)) (records_in rs) ≡ false
    pub goes : Course i (shorts h m ss vs rs)

  course : broken_shorts w₀ ≡ false → whole ≡ judged_of false s → n ≡ unless_refused whole.refusal whole.place → Course 0 w₀
  unfolding run_shorts
  course sound-so e is-n = go (eqb whole.refusal 0) refl
    where
      asked : whole ≡ judged_of (broken_shorts w₀) s
      asked = e ∙ ap (λ (b : Bool). judged_of b s) (sym sound-so)

      go : (b : Bool) → eqb whole.refusal 0 ≡ b → Course 0 w₀
      go false h =
          let ne = eqb-false whole.refusal 0 h in
          stopped (is-n ∙ sym (is_refused whole.refusal whole.place ne)) (judged_stops (λ (x : After). x.answer) (λ (x : After). x.words) turned ended broken_shorts w₀ s whole asked ne)
      go true h =
          let z = eqb-true whole.refusal 0 h in
          let g = judged_goes (λ (x : After). x.answer) (λ (x : After). x.words) turned ended broken_shorts w₀ s whole asked z in
          let p : whole.place ≡ n = not_refused whole.refusal whole.place z ∙ sym is-n in
          running (record { to_end = λ i. report (z i) (p i); long = g.long ∙ ap (λ (k : ℕ). 2 * k) p; rest = g.rest })

  pub begins : (b : Bool) → b ≡ broken_shorts (shorts h₀ m₀ ss₀ vs₀ rs₀) → b ≡ false → whole ≡ judged_of false s → n ≡ unless_refused whole.refusal whole.place → Going h₀ m₀ ss₀ vs₀ rs₀ 0
  begins b eb f e is-n =
      let first = course (sym eb ∙ f) e is-n in
      record {
        low = omega arith;
        room = enough first;
        long_head = refl;
        long_stamps = refl;
        long_values = refl;
        long_records = refl;
        stands = stands_so h₀ m₀ ss₀ vs₀ rs₀ b eb f;
        whole_yet = sound h₀ m₀ ss₀ vs₀ rs₀ b eb f;
        goes = first;
      }
    where
      enough : Course 0 w₀ → 2 * n ≤ length s
      enough (stopped z q) = omega (arith, z)
      enough (running o) = omega (arith, o.long)

  module _ (h : List ℕ) (m : ℕ) (ss vs rs : List ℕ) (i : ℕ) (g : Going h m ss vs rs i) where
    abbrev w : Shorts
    w = shorts h m ss vs rs

    pub ends_whole : n ≤ i → ended whole.refusal whole.place (shorts h m ss vs rs) ≡ run_shorts (shorts h₀ m₀ ss₀ vs₀ rs₀) s
    unfolding run_by
    ends_whole k = go g.goes
      where
        go : Course i w → ended whole.refusal whole.place w ≡ run_shorts w₀ s
        go (stopped z e) = e
        go (running o) =
            let is : n ≡ i = omega (arith, k, g.low) in
            ap (λ (r : Report). ended r.refusal r.place w) (o.to_end ∙ ap (report 0) is)
            ∙ sym (ap (from w i) (drop_of_length-le s {i = 2 * i} (omega (arith, o.long, k)))) ∙ o.rest

    module _ (less : i < n) where
      pub still_sound : (broken_lent (metered_in (shorts h m ss vs rs)) (records_in rs) ≡ false) × (stand (shorts h m ss vs rs) ≡ true)
      still_sound = (g.whole_yet, g.stands)

      left : Left i w
      left = go g.goes
        where
          go : Course i w → Left i w
          go (stopped z e) = absurd (omega (arith, z, less))
          go (running o) = o

      -- one entry
      module _ (r : ℕ) (h' : List ℕ) (m' : ℕ) (ss' vs' rs' : List ℕ)
          (e : after r (shorts h' m' ss' vs' rs') ≡ after_of (turn_shorts (shorts h m ss vs rs) (get_or s (2 * i) 0) (get_or s (2 * i + 1) 0))) where
        abbrev x : After
        x = turned w (get_or s (2 * i) 0) (get_or s (2 * i + 1) 0)

        here : cond (eqb x.answer 0) (from x.words (i + 1) (drop (2 * (i + 1)) s)) (ended x.answer i w) ≡ run_shorts w₀ s
        unfolding run_by
        here = ap (from w i) (sym (two_words s i (omega (arith, left.long, less)))) ∙ left.rest

        answer_is : r ≡ x.answer
        answer_is = ap (λ (z : After). z.answer) e

        words_are : shorts h' m' ss' vs' rs' ≡ x.words
        words_are = ap (λ (z : After). z.words) e

        pub stops_here : (r ≡ 0 → ⊥) → ended r i (shorts h' m' ss' vs' rs') ≡ run_shorts (shorts h₀ m₀ ss₀ vs₀ rs₀) s
        stops_here ne =
            let not_zero : x.answer ≡ 0 → ⊥ = λ z. ne (answer_is ∙ z) in
            (λ j. ended (answer_is j) i ((words_are ∙ same_after w g.stands (get_or s (2 * i) 0) (get_or s (2 * i + 1) 0) not_zero) j))
            ∙ sym (ap (λ (b : Bool). cond b (from x.words (i + 1) (drop (2 * (i + 1)) s)) (ended x.answer i w)) (ne_eqb x.answer 0 not_zero)) ∙ here

        module _ (sound' : broken_lent (metered_in (shorts h' m' ss' vs' rs')) (records_in rs') ≡ false) (stands' : stand (shorts h' m' ss' vs' rs') ≡ true)
            (lh : length h' ≡ length h) (ls : length ss' ≡ length ss) (lv : length vs' ≡ length vs) (lr : length rs' ≡ length rs) where
          pub goes_on : r ≡ 0 → Going h' m' ss' vs' rs' (i + 1)
          goes_on z =
              let is_zero : eqb x.answer 0 ≡ true = eq-eqb x.answer 0 (sym answer_is ∙ z) in
              record {
                low = omega (arith, less);
                room = g.room;
                long_head = lh ∙ g.long_head;
                long_stamps = ls ∙ g.long_stamps;
                long_values = lv ∙ g.long_values;
                long_records = lr ∙ g.long_records;
                stands = stands';
                whole_yet = sound';
                goes = running (record {
                  to_end = left.to_end;
                  long = left.long;
                  rest = ap (λ (y : Shorts). from y (i + 1) (drop (2 * (i + 1)) s)) words_are
                      ∙ sym (ap (λ (b : Bool). cond b (from x.words (i + 1) (drop (2 * (i + 1)) s)) (ended x.answer i w)) is_zero) ∙ here;
                });
              }
