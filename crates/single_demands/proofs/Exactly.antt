-- Each refusal is given exactly when its ground holds and none before it.
use Prim.Native.Nat.{ℕ, ◌%◌}
use mathlib.Core.Path.{◌≡◌, refl}
use mathlib.Core.Bool.{Bool, true, false, cond, not}
use mathlib.Core.List.{List, [], ◌∷◌}
use lib.Dec.{ltb}
use lib.ListN.{length}
use borrow.Author.Tests.{eq-eqb}
use Rattle.queue_entries.specs.Limits.{workers_most, meter_most, in_limits}
use Rattle.queue_entries.specs.Schedules.{schedule_by}
use Rattle.queue_entries.specs.Told.{told}
use Rattle.queue_entries.specs.declared.Order.TheVariants.{Begin, Act}
use Rattle.queue_entries.specs.declared.Entry.{Entry}
use Rattle.queue_entries.specs.declared.Entry.TheVariants.{Unreadable, Asks}
use Rattle.queue_entries.specs.declared.Verdict.TheVariants.{Refuse, Start, Move}
use Rattle.queue_entries.specs.Entries.{entry_of}
use Rattle.queue_numbers.specs.Numbers.{on, first_of}
use Rattle.queue_numbers.specs.Answers.{number_in}
use Rattle.single_places.specs.Places.{view_of}
use Rattle.single_machine.specs.declared.Machine.{Machine}
use Rattle.single_machine.specs.declared.Did.{Did}
use Rattle.single_machine.specs.Machine.{fresh_of, blank, place_of, refused, accepted}
use Rattle.single_machine.specs.Broken.{broken_of, idle_from}
use Rattle.single_machine.specs.Contents.{count_in, contents_refusal, capacity_of}
use Rattle.single_machine.specs.Turn.{carried, turn, turn_of, turn_of_by}
use Rattle.single_machine.specs.Run.{ran, run_of}
use Rattle.single.specs.Single as face
use Rattle.single_demands.specs.Demands.{RefusedExactly, refusals, entry_grounds}

module _ (m : Machine) where
  entry_exactly : (e : Entry) → (turn m e).refusal ≡ first_of (entry_grounds m e)
  unfolding refused accepted
  entry_exactly Unreadable = refl
  entry_exactly (Asks w (Begin c)) = go (ltb w m.count) (view_of (place_of m.workers w)).busy
    where
      go : (x y : Bool) → (cond x (carried m w (place_of m.workers w) (cond y (Refuse 4) (Start c))) (refused 3 m)).refusal ≡ first_of (on 3 (not x) ∷ on 4 y ∷ [])
      go true true = refl
      go true false = refl
      go false y = refl
  entry_exactly (Asks w (Act lose)) = go (ltb w m.count) (view_of (place_of m.workers w)).busy (ltb m.meter meter_most) lose
    where
      go : (x y t l : Bool)
          → (cond x (carried m w (place_of m.workers w) (cond y (cond t (cond l (Refuse 8) (Move false)) (Refuse 7)) (Refuse 5))) (refused 3 m)).refusal
          ≡ first_of (on 3 (not x) ∷ on 5 (not y) ∷ on 7 (not t) ∷ on 8 l ∷ [])
      go true true true true = refl
      go true true true false = refl
      go true true false l = refl
      go true false t l = refl
      go false y t l = refl

  turn_exactly : (first second : ℕ) → (turn_of m first second).refusal ≡ first_of (entry_grounds m (entry_of first second))
  unfolding turn_of_by
  turn_exactly first second = entry_exactly (entry_of first second)

  -- with 6 before it
  six : (b : Bool) (d : Did) (n : ℕ) → d.refusal ≡ n → (cond b (refused 6 m) d).refusal ≡ cond b 6 n
  unfolding refused
  six true d n h = refl
  six false d n h = h

  nine : (b : Bool) (d : Did) (n : ℕ) → d.refusal ≡ n → ((cond b d (refused 9 m)).refusal ≡ cond (not b) 9 n) × ((cond b (refused 9 m) d).refusal ≡ cond b 9 n)
  unfolding refused
  nine true d n h = (h, refl)
  nine false d n h = (refl, h)

  module _ (first second : ℕ) where
    step_exactly : (face.step_of m first second).refusal ≡ first_of (on 6 (broken_of m) ∷ entry_grounds m (entry_of first second))
    unfolding face.step_of
    step_exactly = six (broken_of m) (turn_of m first second) _ (turn_exactly first second)

    begin_exactly : (face.begin_step_of m first second).refusal ≡ first_of (on 6 (broken_of m) ∷ on 9 (not (ltb (first % 16) 8)) ∷ entry_grounds m (entry_of first second))
    unfolding face.begin_step_of
    begin_exactly = six (broken_of m) _ _ (nine (ltb (first % 16) 8) (turn_of m first second) _ (turn_exactly first second)).0

    act_exactly : (face.act_step_of m first second).refusal ≡ first_of (on 6 (broken_of m) ∷ on 9 (ltb (first % 16) 8) ∷ entry_grounds m (entry_of first second))
    unfolding face.act_step_of
    act_exactly = six (broken_of m) _ _ (nine (ltb (first % 16) 8) (turn_of m first second) _ (turn_exactly first second)).1

  run_broken : (s : List ℕ) → broken_of m ≡ true → (run_of m s).refusal ≡ 6
  unfolding schedule_by ran
  run_broken s b = rw b

  run_odd : (s : List ℕ) → broken_of m ≡ false → length s % 2 ≡ 1 → (run_of m s).refusal ≡ 11
  unfolding schedule_by ran
  run_odd s b odd = rw (b, eq-eqb (length s % 2) 1 odd)

  contents_exactly : (room : ℕ) → contents_refusal m room ≡ first_of (on 6 (broken_of m) ∷ on 4 (not (idle_from 0 m.workers)) ∷ on 10 (ltb room (count_in m)) ∷ [])
  unfolding contents_refusal
  contents_exactly room = go (broken_of m) (idle_from 0 m.workers) (ltb room (count_in m))
    where
      go : (x y z : Bool) → cond x 6 (cond y (cond z 10 0) 4) ≡ first_of (on 6 x ∷ on 4 (not y) ∷ on 10 z ∷ [])
      go true y z = refl
      go false true z = refl
      go false false z = refl

  capacity_exactly : number_in (capacity_of m) ≡ first_of (on 6 (broken_of m) ∷ [])
  unfolding capacity_of told
  capacity_exactly = go (broken_of m)
    where
      go : (x : Bool) → number_in (told (cond x 6 0) 1) ≡ first_of (on 6 x ∷ [])
      go true = refl
      go false = refl

make_exactly : (workers : ℕ) → (face.make_of workers).refusal ≡ first_of (on 2 (not (in_limits workers workers_most)) ∷ [])
unfolding face.make_of refused accepted
make_exactly workers = go (in_limits workers workers_most)
  where
    go : (x : Bool) → (cond x (accepted (fresh_of workers)) (refused 2 blank)).refusal ≡ first_of (on 2 (not x) ∷ [])
    go true = refl
    go false = refl

pub refused_exactly : RefusedExactly refusals
refused_exactly =
    record {
      make = make_exactly;
      step = step_exactly;
      begin = begin_exactly;
      act = act_exactly;
      run = λ m s. (run_broken m s, run_odd m s);
      contents = contents_exactly;
      capacity = capacity_exactly;
    }
