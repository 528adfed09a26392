-- Idle records past the count change nothing: up to 16 lent records are those of the machine that holds them.
use Prim.Native.Nat.{ℕ, zero, suc, ◌+◌, ◌-◌, ◌%◌, ◌<◌, ◌≤◌}
use mathlib.Core.Path.{◌≡◌, refl, sym, ap, ◌∙◌, subst}
use mathlib.Core.Bool.{Bool, true, false, cond, not}
use mathlib.Core.List.{List, [], ◌∷◌, ◌++◌}
use native.Mathlib.Omega.{arith}
use native.Mathlib.Decide.{dec_lt}
use lib.Dec.{ltb, eqb}
use lib.ListN.{length, set, replicate, length-replicate, length-append, get_or-eq_default}
use borrow.Author.Tests.{ltb-true, le-leb, eqb-true}
use Rattle.queue_entries.specs.Limits.{workers_most, in_limits, all}
use Rattle.queue_entries.proofs.Limits.{limit_some}
use Rattle.std.specs.Prelude.{Option, Some, None}
use Rattle.queue_entries.specs.declared.Entry.{Entry}
use Rattle.queue_entries.specs.declared.Entry.TheVariants.{Unreadable, Asks}
use Rattle.queue_entries.specs.declared.Verdict.{Verdict}
use Rattle.queue_entries.specs.declared.Verdict.TheVariants.{Refuse, Start, Move}
use Rattle.queue_entries.specs.Entries.{entry_of}
use Rattle.queue_entries.specs.Schedules.{run_by, search_by, searched, schedule_by}
use Rattle.queue_entries.specs.Told.{told}
use Rattle.queue_schedules.proofs.Schedules.{schedule_keeps}
use Rattle.queue_rows.proofs.Alike.{all_alike}
use Rattle.bounded_words.specs.declared.Width.TheVariants.{SixtyFour}
use Rattle.bounded_words.specs.Limits.{slots_most, editions_most}
use Rattle.bounded_places.specs.declared.Place.{Place}
use Rattle.bounded_places.specs.declared.Worker.{Worker}
use Rattle.bounded_places.specs.Places.{view_of, begin_of}
use Rattle.bounded_machine.specs.declared.Machine.{Machine}
use Rattle.bounded_machine.specs.declared.Did.{Did}
use Rattle.bounded_machine.specs.declared.Ran.{Ran}
use Rattle.bounded_machine.specs.Machine.{machine_of, record_of_worker, place_of, idler, idlers, fresh_with, fresh_of, blank, refused, accepted, fixed_on, ends_on}
use Rattle.bounded_machine.specs.Broken.{record_fits, broken_of, all_idle}
use Rattle.bounded_machine.specs.Contents.{count_in, contents_refusal, written, capacity_refusal, capacity_of}
use Rattle.bounded_machine.specs.Turn.{verdict_of, spot_of, beginner, record_after, begun, stored, act_at, acted_by, carried, turn, turn_of, turn_of_by}
use Rattle.bounded_machine.specs.Run.{ran, run_at, run_of}
use Rattle.bounded_acts.specs.Acts.{act_of}
use Rattle.bounded_machine.proofs.Kept.{every, all_of, UnbrokenWith, unbroken_of, of_unbroken}
use Rattle.bounded_orders.specs.declared.Metered.{Metered}
use Rattle.bounded_orders.specs.Orders.{records_most, make_refusal_with, make_refusal, metered_of, capacity_told, filled, contents_by}
use Rattle.bounded_step_machine.specs.Steps.{step_of_by}
use Rattle.bounded.specs.Bounded.{make_of, step_of}
use Rattle.bounded_lent.specs.Lent.{held, broken_lent, Lent, lent, lent_of, turn_lent, step_lent, run_lent, make_lent, capacity_lent, contents_lent}
use Rattle.bounded_lent.proofs.Turning.{unbroken_lent, lent_unbroken}
use Rattle.bounded_lent.proofs.Running.{Whole, turned_whole}
use Rattle.bounded_lent.proofs.Listing.{idle_fits}
use Rattle.bounded_demands.specs.Lending.{item11, holding, holds_did, holds_ran}
use Rattle.bounded_demands.specs.Demands.{AsHeld, SixtyFourRecords}
use Rattle.bounded_demands.proofs.Refusals.{ring_queue}
use Rattle.bounded_proof_demand2.proofs.Reached.{limits_true}

-- ---- lists with idle records behind them
pub same_record : (ws : List Worker) (k w : ℕ) → record_of_worker (ws ++ idlers k) w ≡ record_of_worker ws w
unfolding idlers
same_record [] k w = all_alike k w idler
same_record (r ∷ ws) k zero = refl
same_record (r ∷ ws) k (suc w) = same_record ws k w

set_before : (ws : List Worker) (k w : ℕ) (r : Worker) → w < length ws → set (ws ++ idlers k) w r ≡ set ws w r ++ idlers k
set_before [] k w r l = absurd (omega arith)
set_before (x ∷ ws) k zero r l = refl
set_before (x ∷ ws) k (suc w) r l = ap (λ (zs : List Worker). x ∷ zs) (set_before ws k w r (omega arith))

joined : (a b : ℕ) → replicate a idler ++ replicate b idler ≡ replicate (a + b) idler
joined zero b = let e : b ≡ 0 + b = omega arith in ap (λ (k : ℕ). replicate k idler) e
joined (suc a) b = let e : suc (a + b) ≡ suc a + b = omega arith in ap (λ (zs : List Worker). idler ∷ zs) (joined a b) ∙ ap (λ (k : ℕ). replicate k idler) e

-- ---- a machine with idle records behind its own
abbrev padded : ℕ → Machine → Machine
padded k m = machine_of (fixed_on m.ring) (ends_on m.ring) m.ring.slots (m.workers ++ idlers k) m.count m.meter

abbrev padded_did : ℕ → Did → Did
padded_did k d = record { refusal = d.refusal; machine = padded k d.machine }

abbrev padded_ran : ℕ → Ran → Ran
padded_ran k r = record { refusal = r.refusal; place = r.place; machine = padded k r.machine }

module _ (k : ℕ) (m : Machine) where
  carried_padded : (w : ℕ) → w < length m.workers → (p : Place) (v : Verdict) → carried SixtyFour (padded k m) w p v ≡ padded_did k (carried SixtyFour m w p v)
  unfolding refused accepted begun acted_by stored
  carried_padded w l p (Refuse number) = refl
  carried_padded w l p (Start c) =
      ap (λ (zs : List Worker). record { refusal = 0; machine = machine_of (fixed_on m.ring) (ends_on m.ring) m.ring.slots zs m.count m.meter })
      (set_before m.workers k w (beginner (begin_of c)) l)
  carried_padded w l p (Move lose) =
      let a = act_at (act_of SixtyFour) m p lose in
      ap (λ (zs : List Worker). record {
        refusal = 0;
        machine = machine_of (fixed_on m.ring) a.ends
            (set m.ring.slots (spot_of (fixed_on m.ring) (view_of p).held) a.slot) zs m.count (m.meter + 1);
      })
      (ap (λ (r : Worker). set (m.workers ++ idlers k) w (record_after r a.place a.loss)) (same_record m.workers k w)
      ∙ set_before m.workers k w (record_after (record_of_worker m.workers w) a.place a.loss) l)

  turn_padded : m.count ≤ length m.workers → (x : Entry) → turn SixtyFour (padded k m) x ≡ padded_did k (turn SixtyFour m x)
  unfolding refused
  turn_padded few Unreadable = refl
  turn_padded few (Asks w o) =
      ap (λ (p : Place). cond (ltb w m.count) (carried SixtyFour (padded k m) w p (verdict_of m.meter p o)) (refused 3 (padded k m)))
      (ap (λ (r : Worker). r.place) (same_record m.workers k w))
      ∙ go (ltb w m.count) refl
    where
      p : Place
      p = place_of m.workers w

      v : Verdict
      v = verdict_of m.meter p o

      go : (b : Bool) → ltb w m.count ≡ b → cond b (carried SixtyFour (padded k m) w p v) (refused 3 (padded k m)) ≡ padded_did k (cond b (carried SixtyFour m w p v) (refused 3 m))
      go true e = carried_padded w (omega (arith, ltb-true w m.count e)) p v
      go false e = refl

  turned_padded : m.count ≤ length m.workers → (first second : ℕ) → turn_of (padded k m) first second ≡ padded_did k (turn_of m first second)
  unfolding turn_of_by
  turned_padded few first second = turn_padded few (entry_of first second)

-- what is lent, held
holding_is : (n : ℕ) (m : Machine) → Whole n m → holding (metered_of m) m.workers ≡ padded (workers_most - n) m
holding_is n m u =
    ap (λ (c : ℕ). machine_of (fixed_on m.ring) (ends_on m.ring) m.ring.slots (m.workers ++ idlers (workers_most - c)) c m.meter) u.0
    ∙ ap (λ (c : ℕ). machine_of (fixed_on m.ring) (ends_on m.ring) m.ring.slots (m.workers ++ idlers (workers_most - n)) c m.meter) (sym u.1)

-- ---- broken
as_one : (b c : Bool) → (b ≡ false → c ≡ false) → (c ≡ false → b ≡ false) → b ≡ c
as_one true true f g = refl
as_one true false f g = g refl
as_one false true f g = sym (f refl)
as_one false false f g = refl

-- ---- idle
as_true : (b c : Bool) → (b ≡ true → c ≡ true) → (c ≡ true → b ≡ true) → b ≡ c
as_true true true f g = refl
as_true true false f g = sym (f refl)
as_true false true f g = g refl
as_true false false f g = refl

idle_padded : (ws : List Worker) (k : ℕ) → all_idle (ws ++ idlers k) ≡ all_idle ws
unfolding all_idle
idle_padded ws k =
    as_true (all (length (ws ++ idlers k)) 0 (test (ws ++ idlers k))) (all (length ws) 0 (test ws))
    (λ h. all_of (length ws) 0 (test ws) (λ i low g. sym (same_test i) ∙ every (length (ws ++ idlers k)) 0 (test (ws ++ idlers k)) h i (omega arith) (omega (arith, length-append ws (idlers k)))))
    (λ h. all_of (length (ws ++ idlers k)) 0 (test (ws ++ idlers k)) (λ i low g. same_test i ∙ each h i (dec_lt i (length ws))))
  where
    test : List Worker → ℕ → Bool
    test zs i = not (view_of (place_of zs i)).busy

    same_test : (i : ℕ) → test (ws ++ idlers k) i ≡ test ws i
    same_test i = ap (λ (r : Worker). not (view_of r.place).busy) (same_record ws k i)

    each : all (length ws) 0 (test ws) ≡ true → (i : ℕ) → Dec (i < length ws) → test ws i ≡ true
    each h i (yes less) = every (length ws) 0 (test ws) h i (omega arith) (omega arith)
    each h i (no more) = let past : length ws ≤ i = omega arith in ap (λ (r : Worker). not (view_of r.place).busy) (get_or-eq_default ws idler past)

module _ (l : Metered) (ys : List Worker) (few : length ys ≤ workers_most) where
  to_held : UnbrokenWith (length ys) (held l ys) → UnbrokenWith workers_most (holding l ys)
  to_held u =
      record {
        capacity = u.capacity;
        count = limits_true (length ys) workers_most (limit_some (length ys) (length ys) true (sym u.count) refl) few;
        edition = u.edition;
        rule = u.rule;
        ends = u.ends;
        fits = λ i g. go i (dec_lt i (length ys));
      }
    where
      go : (i : ℕ) → Dec (i < length ys) → record_fits (fixed_on l.ring) l.meter (record_of_worker (ys ++ idlers (workers_most - length ys)) i) (ltb i (length ys)) ≡ true
      go i (yes less) = ap (λ (r : Worker). record_fits (fixed_on l.ring) l.meter r (ltb i (length ys))) (same_record ys (workers_most - length ys) i) ∙ u.fits i less
      go i (no more) =
          let past : length ys ≤ i = omega arith in
          idle_fits (fixed_on l.ring) l.meter _ (ltb i (length ys)) (same_record ys (workers_most - length ys) i ∙ get_or-eq_default ys idler past)

  of_held : UnbrokenWith workers_most (holding l ys) → UnbrokenWith (length ys) (held l ys)
  of_held u =
      record {
        capacity = u.capacity;
        count = limits_true (length ys) (length ys) (limit_some (length ys) workers_most true (sym u.count) refl) (omega arith);
        edition = u.edition;
        rule = u.rule;
        ends = u.ends;
        fits = λ i g. ap (λ (r : Worker). record_fits (fixed_on l.ring) l.meter r (ltb i (length ys))) (sym (same_record ys (workers_most - length ys) i)) ∙ u.fits i (omega arith);
      }

  broken_held : broken_lent l ys ≡ broken_of (holding l ys)
  broken_held =
      as_one (broken_lent l ys) (broken_of (holding l ys)) (λ e. of_unbroken (holding l ys) (to_held (unbroken_lent l ys e)))
      (λ e. lent_unbroken l ys (le-leb (length ys) records_most (omega arith)) (of_held (unbroken_of (holding l ys) e)))

  step_held : (first second : ℕ) → holds_did (step_lent l ys first second) ≡ step_of (holding l ys) first second
  unfolding step_lent step_of_by refused
  step_held first second = go (broken_lent l ys) refl ∙ ap (λ (b : Bool). cond b (refused 6 (holding l ys)) (turn_of (holding l ys) first second)) broken_held
    where
      go : (b : Bool) → broken_lent l ys ≡ b → holds_did (cond b (lent 6 l ys) (turn_lent l ys first second)) ≡ cond b (refused 6 (holding l ys)) (turn_of (holding l ys) first second)
      go true e = refl
      go false e =
          ap (λ (m : Machine). record { refusal = (turn_of (held l ys) first second).refusal; machine = m })
          (holding_is (length ys) (turn_of (held l ys) first second).machine (turned_whole (length ys) (held l ys) (refl, refl) first second))
          ∙ sym (turned_padded (workers_most - length ys) (held l ys) (omega arith) first second)

  -- ---- schedules
  run_padded : (s : List ℕ) (m : Machine) (place : ℕ) → Whole (length ys) m
      → run_at SixtyFour (padded (workers_most - length ys) m) place s ≡ padded_ran (workers_most - length ys) (run_at SixtyFour m place s)
  unfolding run_by ran
  run_padded [] m place u = refl
  run_padded (first ∷ []) m place u = refl
  run_padded (first ∷ second ∷ rest) m place u =
      ap (λ (d : Did). cond (eqb d.refusal 0) (run_at SixtyFour d.machine (place + 1) rest) (ran d.refusal place (padded (workers_most - length ys) m)))
      (turned_padded (workers_most - length ys) m (omega (arith, u)) first second)
      ∙ go (run_padded rest (turn_of m first second).machine (place + 1) (turned_whole (length ys) m u first second)) (eqb (turn_of m first second).refusal 0)
    where
      d : Did
      d = turn_of m first second

      go : run_at SixtyFour (padded (workers_most - length ys) d.machine) (place + 1) rest ≡ padded_ran (workers_most - length ys) (run_at SixtyFour d.machine (place + 1) rest) → (b : Bool)
          → cond b (run_at SixtyFour (padded (workers_most - length ys) d.machine) (place + 1) rest) (ran d.refusal place (padded (workers_most - length ys) m))
          ≡ padded_ran (workers_most - length ys) (cond b (run_at SixtyFour d.machine (place + 1) rest) (ran d.refusal place m))
      go more true = more
      go more false = refl

  run_held : (s : List ℕ) → holds_ran (run_lent l ys s) ≡ run_of (holding l ys) s
  unfolding run_lent schedule_by ran
  run_held s =
      ap (λ (m : Machine). record { refusal = whole.refusal; place = whole.place; machine = m })
      (holding_is (length ys) whole.machine (schedule_keeps (ring_queue SixtyFour) (λ (m : Machine). broken_lent l ys) (Whole (length ys))
      (λ m a b u. turned_whole (length ys) m u a b) (held l ys) s (refl, refl)))
      ∙ go (broken_lent l ys) (eqb (length s % 2) 1) (search_by entry_of 0 s)
      ∙ ap (λ (b : Bool). cond b (ran 6 0 (holding l ys)) (cond (eqb (length s % 2) 1) (ran 11 0 (holding l ys)) (found (holding l ys) (search_by entry_of 0 s)))) broken_held
    where
      found : Machine → Option ℕ → Ran
      found m f = searched (λ (d : Did). d.refusal) (λ (d : Did). d.machine) turn_of ran m s f

      whole : Ran
      whole = schedule_by (λ (d : Did). d.refusal) (λ (d : Did). d.machine) turn_of ran (λ (m : Machine). broken_lent l ys) entry_of (held l ys) s

      go : (b o : Bool) (f : Option ℕ) → padded_ran (workers_most - length ys) (cond b (ran 6 0 (held l ys)) (cond o (ran 11 0 (held l ys)) (found (held l ys) f)))
          ≡ cond b (ran 6 0 (holding l ys)) (cond o (ran 11 0 (holding l ys)) (found (holding l ys) f))
      go true o f = refl
      go false true f = refl
      go false false None = sym (run_padded s (held l ys) 0 (refl, refl))
      go false false (Some p) = refl

  capacity_held : capacity_lent l ys ≡ capacity_of (holding l ys)
  unfolding capacity_told capacity_of capacity_refusal
  capacity_held = ap (λ (b : Bool). told (cond b 6 0) l.ring.capacity) broken_held

  contents_held : (buffer : List ℕ) → contents_lent l ys buffer ≡ filled (told (contents_refusal (holding l ys) (length buffer)) (count_in (holding l ys))) (written (holding l ys) buffer)
  unfolding contents_lent contents_by contents_refusal written
  contents_held buffer =
      (λ i. contents_by (broken_held i) (sym (idle_padded ys (workers_most - length ys)) i) l.ring buffer)

-- ---- making
limit_same : (n a b : ℕ) → n ≤ a → n ≤ b → in_limits n a ≡ in_limits n b
unfolding in_limits
limit_same n a b l g = ap (cond (eqb n 0) false) (le-leb n a l ∙ sym (le-leb n b g))

module _ (ys : List Worker) (capacity edition : ℕ) (few : length ys ≤ workers_most) where
  abbrev n : ℕ
  n = length ys

  -- both by the three tests
  abbrev code : Bool → Bool → Bool → ℕ
  code x y z = cond x (cond y (cond z 0 18) 2) 1

  abbrev lent_by : ℕ → Lent
  lent_by number = cond (eqb number 0) (lent_of (accepted (fresh_with n capacity n edition))) (lent number (metered_of blank) ys)

  abbrev did_by : Bool → Bool → Bool → Did
  did_by x y z = cond x (cond y (cond z (accepted (fresh_of capacity n edition)) (refused 18 blank)) (refused 2 blank)) (refused 1 blank)

  by_tests : (P : Lent → Did → Type 0) → ((x y z : Bool) → P (lent_by (code x y z)) (did_by x y z)) → P (make_lent ys capacity edition) (make_of capacity n edition)
  unfolding make_lent make_refusal_with make_of
  by_tests P p =
      subst (λ (y : Bool). P (lent_by (code (in_limits capacity slots_most) (in_limits n records_most) (in_limits edition editions_most)))
      (did_by (in_limits capacity slots_most) y (in_limits edition editions_most)))
      (limit_same n records_most workers_most (omega arith) few)
      (p (in_limits capacity slots_most) (in_limits n records_most) (in_limits edition editions_most))

  accepted_is : (m f : Machine) → holding (metered_of m) m.workers ≡ f → holds_did (lent_of (accepted m)) ≡ accepted f
  unfolding accepted
  accepted_is m f e = ap (λ (z : Machine). record { refusal = 0; machine = z }) e

  refusal_held : (make_lent ys capacity edition).answer ≡ (make_of capacity n edition).refusal
  unfolding refused accepted
  refusal_held = by_tests (λ x d. x.answer ≡ d.refusal) each
    where
      each : (x y z : Bool) → (lent_by (code x y z)).answer ≡ (did_by x y z).refusal
      each false y z = refl
      each true false z = refl
      each true true false = refl
      each true true true = refl

  fresh_held : holding (metered_of (fresh_with n capacity n edition)) (fresh_with n capacity n edition).workers ≡ fresh_of capacity n edition
  unfolding fresh_with idlers
  fresh_held =
      let F = fresh_with n capacity n edition in
      let all_of_them : n + (workers_most - n) ≡ workers_most = omega (arith, few) in
      ap (λ (c : ℕ). machine_of (fixed_on F.ring) (ends_on F.ring) F.ring.slots (replicate n idler ++ replicate (workers_most - c) idler) c 0) (length-replicate n idler)
      ∙ ap (λ (ws : List Worker). machine_of (fixed_on F.ring) (ends_on F.ring) F.ring.slots ws n 0) (joined n (workers_most - n) ∙ ap (λ (k : ℕ). replicate k idler) all_of_them)

  made_held : (make_lent ys capacity edition).answer ≡ 0 → holds_did (make_lent ys capacity edition) ≡ make_of capacity n edition
  unfolding refused accepted
  made_held = by_tests (λ x d. x.answer ≡ 0 → holds_did x ≡ d) each
    where
      as_fresh : holds_did (lent_of (accepted (fresh_with n capacity n edition))) ≡ accepted (fresh_of capacity n edition)
      as_fresh = accepted_is (fresh_with n capacity n edition) (fresh_of capacity n edition) fresh_held

      each : (x y z : Bool) → (lent_by (code x y z)).answer ≡ 0 → holds_did (lent_by (code x y z)) ≡ did_by x y z
      each false y z h = absurd (omega arith)
      each true false z h = absurd (omega arith)
      each true true false h = absurd (omega arith)
      each true true true h = as_fresh

  blank_held : ((make_lent ys capacity edition).answer ≡ 0 → ⊥) → (make_lent ys capacity edition).ring ≡ metered_of (make_of capacity n edition).machine
  unfolding refused accepted
  blank_held = by_tests (λ x d. (x.answer ≡ 0 → ⊥) → x.ring ≡ metered_of d.machine) each
    where
      each : (x y z : Bool) → ((lent_by (code x y z)).answer ≡ 0 → ⊥) → (lent_by (code x y z)).ring ≡ metered_of (did_by x y z).machine
      each false y z h = refl
      each true false z h = refl
      each true true false h = refl
      each true true true h = absurd (h refl)

pub as_held : AsHeld item11
as_held =
    record {
      broken = broken_held;
      step = λ l ys first second few. step_held l ys few first second;
      run = λ l ys s few. run_held l ys few s;
      capacity = capacity_held;
      contents = λ l ys buffer few. contents_held l ys few buffer;
      refusal = refusal_held;
      made = made_held;
      blank = blank_held;
    }

-- making's answer is its refusal
pub answer_is : (ys : List Worker) (capacity edition : ℕ) → (make_lent ys capacity edition).answer ≡ make_refusal (length ys) capacity edition
unfolding make_lent accepted
answer_is ys capacity edition = go (eqb (make_refusal (length ys) capacity edition) 0) refl
  where
    go : (b : Bool) → eqb (make_refusal (length ys) capacity edition) 0 ≡ b
        → (cond b (lent_of (accepted (fresh_with (length ys) capacity (length ys) edition)))
        (lent (make_refusal (length ys) capacity edition) (metered_of blank) ys)).answer ≡ make_refusal (length ys) capacity edition
    go true h = sym (eqb-true (make_refusal (length ys) capacity edition) 0 h)
    go false h = refl

with_count : (n number : ℕ) → make_refusal n 1 1 ≡ number → (ys : List Worker) → length ys ≡ n → (make_lent ys 1 1).answer ≡ number
with_count n number h ys e = answer_is ys 1 1 ∙ ap (λ (k : ℕ). make_refusal k 1 1) e ∙ h

pub sixty_four_records : SixtyFourRecords item11
unfolding make_refusal_with in_limits
sixty_four_records = record { none = with_count 0 2 refl; one = with_count 1 0 refl; most = with_count 64 0 refl; more = with_count 65 2 refl }
