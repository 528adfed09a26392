-- A schedule over words, turn by turn.
use Prim.Native.Nat.{ℕ, ◌+◌, ◌*◌, ◌/◌, ◌<◌, ◌≤◌}
use mathlib.Core.Path.{◌≡◌, refl, sym, ap, ◌∙◌}
use mathlib.Core.Bool.{Bool, true, false, cond}
use mathlib.Core.List.{List}
use native.Mathlib.Omega.{arith}
use lib.ListN.{length, get_or}
use Rattle.queue_entries.specs.Schedules.{schedule_by}
use Rattle.bounded_words.specs.Limits.{slots_most}
use Rattle.bounded_places.specs.declared.Worker.{Worker}
use Rattle.bounded_machine.specs.Run.{ran}
use Rattle.bounded_orders.specs.declared.Metered.{Metered}
use Rattle.bounded_orders.specs.declared.Report.{Report}
use Rattle.bounded_orders.specs.Orders.{unless_refused, report, judged_of}
use Rattle.bounded_lent.specs.Lent.{broken_lent, Lent, lent, turn_lent, gone, run_lent}
use Rattle.bounded_lent.proofs.Running as lent-running
use Rattle.bounded_rows.specs.Rows.{Words, words, slots_of, words_of, records_in, metered_in, stand, After, after, after_of}
use Rattle.bounded_rows.proofs.Lists.{many, slots_long}
use Rattle.bounded_rows.proofs.Standing.{standing, same_words, same_ring, same_records, written_stand}
use Rattle.bounded_host.specs.Host.{reply, ended, ended_of, run_words}

-- 6 of the whole
pub judged_six : (l : Metered) (ys : List Worker) (s : List ℕ) → broken_lent l ys ≡ true → gone (report 6 0) l ys ≡ run_lent l ys s
unfolding run_lent schedule_by ran
judged_six l ys s k = rw k refl

long_slots : (l : Metered) (ys : List Worker) → length (words_of l ys).slots ≡ length (slots_of l.ring.slots)
unfolding words_of
long_slots l ys = refl

-- ---- words that an entry has left are read as what it leaves
module _ (r : ℕ) (w : Words) (x : Lent) (e : after r w ≡ after_of x) where
  words_are : w ≡ words_of x.ring x.records
  words_are = ap (λ (z : After). z.words) e

  pub read_as : lent r (metered_in w) (records_in w.records) ≡ x
  read_as =
      (λ i. lent (ap (λ (z : After). z.answer) e i) (metered_in (words_are i)) (records_in (words_are i).records))
      ∙ (λ i. lent x.answer (same_ring x.ring x.records i) (same_records x.ring x.records i))

  pub stand_too : length w.slots ≡ slots_most * 2 → stand w ≡ true
  stand_too n = ap stand words_are ∙ written_stand x.ring x.records (omega (arith, n, slots_long x.ring.ring.slots, slots_are))
    where
      slots_are : length w.slots ≡ length (slots_of x.ring.ring.slots)
      slots_are = ap (λ (z : Words). length z.slots) words_are ∙ long_slots x.ring x.records

-- ---- the schedule s on the words h₀, ss₀ and rs₀, which reports `whole` if no entry is refused, of which n are run
module _ (h₀ ss₀ rs₀ s : List ℕ) (whole : Report) (n : ℕ) where
  -- i entries were run and have left these words
  pub record Going (h ss rs : List ℕ) (i : ℕ) : Type 0 where
    pub stood : stand (words h₀ ss₀ rs₀) ≡ true
    pub low : i ≤ n
    pub room : 2 * n ≤ length s
    pub long_head : length h ≡ length h₀
    pub long_slots : length ss ≡ length ss₀
    pub long_records : length rs ≡ length rs₀
    pub stands : stand (words h ss rs) ≡ true
    pub goes : lent-running.Going (metered_in (words h₀ ss₀ rs₀)) (records_in rs₀) s whole n i (metered_in (words h ss rs)) (records_in rs)

  pub begins : stand (words h₀ ss₀ rs₀) ≡ true → broken_lent (metered_in (words h₀ ss₀ rs₀)) (records_in rs₀) ≡ false → whole ≡ judged_of false s
      → n ≡ unless_refused whole.refusal whole.place → Going h₀ ss₀ rs₀ 0
  begins t sound e is-n = record {
    stood = t;
    low = omega arith;
    room = enough first;
    long_head = refl;
    long_slots = refl;
    long_records = refl;
    stands = t;
    goes = first;
  }
    where
      first : lent-running.Going (metered_in (words h₀ ss₀ rs₀)) (records_in rs₀) s whole n 0 (metered_in (words h₀ ss₀ rs₀)) (records_in rs₀)
      first = lent-running.begins (metered_in (words h₀ ss₀ rs₀)) (records_in rs₀) s whole n (e ∙ ap (λ (b : Bool). judged_of b s) (sym sound)) is-n

      enough : lent-running.Going (metered_in (words h₀ ss₀ rs₀)) (records_in rs₀) s whole n 0 (metered_in (words h₀ ss₀ rs₀)) (records_in rs₀) → 2 * n ≤ length s
      enough (lent-running.stopped z q) = omega (arith, z)
      enough (lent-running.running o) = omega (arith, o.long)

  -- what a schedule comes to is written as words
  as_ended : stand (words h₀ ss₀ rs₀) ≡ true → (r : Report) (h ss rs : List ℕ) → stand (words h ss rs) ≡ true
      → gone r (metered_in (words h ss rs)) (records_in rs) ≡ run_lent (metered_in (words h₀ ss₀ rs₀)) (records_in rs₀) s
      → ended (reply r.refusal r.place) (words h ss rs) ≡ run_words (words h₀ ss₀ rs₀) s
  unfolding run_words
  as_ended t r h ss rs st e =
      ap (ended (reply r.refusal r.place)) (sym (same_words (words h ss rs) (standing (words h ss rs) st))) ∙ ap ended_of e
      ∙ ap (λ (b : Bool). cond b (ended_of (run_lent (metered_in (words h₀ ss₀ rs₀)) (records_in rs₀) s)) (ended (reply 6 0) (words h₀ ss₀ rs₀))) (sym t)

  module _ (h ss rs : List ℕ) (i : ℕ) (g : Going h ss rs i) where
    pub ends_whole : n ≤ i → ended (reply whole.refusal whole.place) (words h ss rs) ≡ run_words (words h₀ ss₀ rs₀) s
    ends_whole k = as_ended g.stood whole h ss rs g.stands
        (lent-running.ends_whole (metered_in (words h₀ ss₀ rs₀)) (records_in rs₀) s whole n i (metered_in (words h ss rs)) (records_in rs) g.goes
        (omega (arith, k, g.low)))

    module _ (less : i < n) where
      left : lent-running.Left (metered_in (words h₀ ss₀ rs₀)) (records_in rs₀) s whole n i (metered_in (words h ss rs)) (records_in rs)
      left = lent-running.left_of (metered_in (words h₀ ss₀ rs₀)) (records_in rs₀) s whole n i (metered_in (words h ss rs)) (records_in rs) g.goes less

      pub still_sound : (broken_lent (metered_in (words h ss rs)) (records_in rs) ≡ false) × (stand (words h ss rs) ≡ true)
      still_sound = (left.sound, g.stands)

      -- one entry
      module _ (r : ℕ) (h' ss' rs' : List ℕ) (lh : length h' ≡ length h) (ls : length ss' ≡ length ss) (lr : length rs' ≡ length rs)
          (e : after r (words h' ss' rs') ≡ after_of (turn_lent (metered_in (words h ss rs)) (records_in rs) (get_or s (2 * i) 0) (get_or s (2 * i + 1) 0))) where
        read : lent r (metered_in (words h' ss' rs')) (records_in rs') ≡ turn_lent (metered_in (words h ss rs)) (records_in rs) (get_or s (2 * i) 0) (get_or s (2 * i + 1) 0)
        read = read_as r (words h' ss' rs') _ e

        stand_now : stand (words h' ss' rs') ≡ true
        stand_now = stand_too r (words h' ss' rs') _ e (ls ∙ (standing (words h ss rs) g.stands).all_slots)

        pub stops_here : (r ≡ 0 → ⊥) → ended (reply r i) (words h' ss' rs') ≡ run_words (words h₀ ss₀ rs₀) s
        stops_here ne =
            as_ended g.stood (report r i) h' ss' rs' stand_now
            (lent-running.stops_here (metered_in (words h₀ ss₀ rs₀)) (records_in rs₀) s whole n i (metered_in (words h ss rs)) (records_in rs) left less r
            (metered_in (words h' ss' rs')) (records_in rs') read ne)

        pub goes_on : r ≡ 0 → Going h' ss' rs' (i + 1)
        goes_on z = record {
          stood = g.stood;
          low = omega (arith, less);
          room = g.room;
          long_head = lh ∙ g.long_head;
          long_slots = ls ∙ g.long_slots;
          long_records = lr ∙ g.long_records;
          stands = stand_now;
          goes = lent-running.goes_on (metered_in (words h₀ ss₀ rs₀)) (records_in rs₀) s whole n i (metered_in (words h ss rs)) (records_in rs) left less r
              (metered_in (words h' ss' rs')) (records_in rs') read z
              (many rs' ∙ ap (λ (k : ℕ). k / 5) lr ∙ sym (many rs));
        }
