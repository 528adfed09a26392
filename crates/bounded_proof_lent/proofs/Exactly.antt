-- Each refusal of the lent face is given exactly when its ground holds and none before it.
use Prim.Native.Nat.{ℕ, ◌%◌}
use mathlib.Core.Path.{◌≡◌, refl, sym, ◌∙◌}
use mathlib.Core.Bool.{Bool, true, false, cond, not}
use mathlib.Core.List.{List, [], ◌∷◌}
use lib.Dec.{ltb, eqb}
use lib.ListN.{length}
use borrow.Author.Tests.{eq-eqb, eqb-true}
use Rattle.queue_entries.specs.Limits.{in_limits}
use Rattle.queue_entries.specs.Schedules.{schedule_by}
use Rattle.queue_numbers.specs.Numbers.{on, first_of}
use Rattle.bounded_words.specs.declared.Width.TheVariants.{SixtyFour}
use Rattle.bounded_words.specs.Limits.{slots_most, editions_most}
use Rattle.bounded_places.specs.declared.Worker.{Worker}
use Rattle.bounded_machine.specs.Machine.{fresh_with, blank, accepted}
use Rattle.bounded_machine.specs.Broken.{all_idle}
use Rattle.bounded_machine.specs.Contents.{count_on, contents_refusal_by}
use Rattle.bounded_machine.specs.Run.{ran}
use Rattle.bounded_orders.specs.declared.Metered.{Metered}
use Rattle.bounded_orders.specs.Orders.{records_most, make_refusal_with, make_refusal, metered_of, report, capacity_told, contents_by}
use Rattle.bounded_lent.specs.Lent.{held, broken_lent, lent, lent_of, turn_lent, step_lent, run_lent, make_lent, capacity_lent, contents_lent}
use Rattle.bounded_demands.specs.Notions.{entry_grounds}
use Rattle.bounded_demands.specs.Lending.{item11, refusal_of}
use Rattle.bounded_demands.specs.Demands.{LentRefusedExactly}
use Rattle.bounded_demands.proofs.Exactly.{turn_grounds}
use Rattle.bounded_proof_lent.proofs.Refusals.{told_back}

module _ (ys : List Worker) (capacity edition : ℕ) where
  -- the answer of a making is the number of its refusal
  answered : (b : Bool) (number : ℕ) → eqb number 0 ≡ b → (cond b (lent_of (accepted (fresh_with (length ys) capacity (length ys) edition))) (lent number (metered_of blank) ys)).answer ≡ number
  unfolding accepted
  answered true number h = sym (eqb-true number 0 h)
  answered false number h = refl

  make_exactly : (make_lent ys capacity edition).answer
      ≡ first_of (on 1 (not (in_limits capacity slots_most)) ∷ on 2 (not (in_limits (length ys) records_most)) ∷ on 18 (not (in_limits edition editions_most)) ∷ [])
  unfolding make_lent make_refusal_with
  make_exactly = answered (eqb (make_refusal (length ys) capacity edition) 0) (make_refusal (length ys) capacity edition) refl
      ∙ go (in_limits capacity slots_most) (in_limits (length ys) records_most) (in_limits edition editions_most)
    where
      go : (x y z : Bool) → cond x (cond y (cond z 0 18) 2) 1 ≡ first_of (on 1 (not x) ∷ on 2 (not y) ∷ on 18 (not z) ∷ [])
      go true true true = refl
      go true true false = refl
      go true false z = refl
      go false y z = refl

module _ (l : Metered) (ys : List Worker) where
  step_exactly : (first second : ℕ) → (step_lent l ys first second).answer ≡ first_of (on 6 (broken_lent l ys) ∷ entry_grounds (held l ys) first second)
  unfolding step_lent
  step_exactly first second = go (broken_lent l ys)
    where
      go : (b : Bool) → (cond b (lent 6 l ys) (turn_lent l ys first second)).answer ≡ first_of (on 6 b ∷ entry_grounds (held l ys) first second)
      go true = refl
      go false = turn_grounds SixtyFour (held l ys) first second

  run_broken : (s : List ℕ) → broken_lent l ys ≡ true → (run_lent l ys s).report ≡ report 6 0
  unfolding run_lent schedule_by ran
  run_broken s b = rw b

  run_odd : (s : List ℕ) → broken_lent l ys ≡ false → length s % 2 ≡ 1 → (run_lent l ys s).report ≡ report 11 0
  unfolding run_lent schedule_by ran
  run_odd s b odd = rw (b, eq-eqb (length s % 2) 1 odd)

  contents_exactly : (buffer : List ℕ) → refusal_of (contents_lent l ys buffer).answer ≡ first_of
      (on 6 (broken_lent l ys) ∷ on 4 (not (all_idle ys)) ∷ on 10 (ltb (length buffer) (count_on l.ring)) ∷ [])
  unfolding contents_lent contents_by
  contents_exactly buffer =
      told_back (contents_refusal_by (broken_lent l ys) (all_idle ys) (count_on l.ring) (length buffer)) (count_on l.ring) ∙ go (broken_lent l ys) (all_idle ys) (ltb (length buffer) (count_on l.ring))
    where
      go : (x y z : Bool) → cond x 6 (cond y (cond z 10 0) 4) ≡ first_of (on 6 x ∷ on 4 (not y) ∷ on 10 z ∷ [])
      go true y z = refl
      go false true z = refl
      go false false z = refl

  capacity_exactly : refusal_of (capacity_lent l ys) ≡ first_of (on 6 (broken_lent l ys) ∷ [])
  unfolding capacity_told
  capacity_exactly = told_back (cond (broken_lent l ys) 6 0) l.ring.capacity

pub lent_refused_exactly : LentRefusedExactly item11
lent_refused_exactly =
    record {
      make = make_exactly;
      step = step_exactly;
      run = λ l ys s. (run_broken l ys s, run_odd l ys s);
      contents = contents_exactly;
      capacity = capacity_exactly;
    }
