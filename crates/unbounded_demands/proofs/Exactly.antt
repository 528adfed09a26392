-- Each refusal is given exactly when its ground holds and none before it.
use Prim.Native.Nat.{ℕ, ◌%◌}
use mathlib.Core.Path.{◌≡◌, refl, ap, ◌∙◌}
use mathlib.Core.Bool.{Bool, true, false, cond, not}
use mathlib.Core.List.{List, [], ◌∷◌}
use lib.Dec.{ltb}
use lib.ListN.{length}
use borrow.Author.Tests.{eq-eqb}
use Rattle.queue_entries.specs.Limits.{workers_most, meter_most, in_limits}
use Rattle.queue_entries.specs.Schedules.{schedule_by}
use Rattle.queue_entries.specs.declared.Order.TheVariants.{Begin, Act}
use Rattle.queue_entries.specs.declared.Entry.{Entry}
use Rattle.queue_entries.specs.declared.Entry.TheVariants.{Unreadable, Asks}
use Rattle.queue_entries.specs.declared.Verdict.TheVariants.{Refuse, Start, Move}
use Rattle.queue_numbers.specs.Numbers.{on, first_of}
use Rattle.unbounded_words.specs.Words.{sizes}
use Rattle.unbounded_places.specs.declared.Place.{Place}
use Rattle.unbounded_places.specs.Places.{view_of}
use Rattle.unbounded_acts.specs.Acts.{act_of}
use Rattle.unbounded_machine.specs.declared.Machine.{Machine}
use Rattle.unbounded_machine.specs.declared.Did.{Did}
use Rattle.unbounded_machine.specs.Machine.{fresh_of, blank, place_of, refused, accepted}
use Rattle.unbounded_machine.specs.Broken.{broken_of, all_idle}
use Rattle.unbounded_machine.specs.Contents.{count_in, contents_refusal}
use Rattle.unbounded_machine.specs.Turn.{entry_here, lowest_free, taken_by, used_by, moved_by, carried_by, turn_by, turn_with, turn_of}
use Rattle.unbounded_machine.specs.Run.{ran, run_of}
use Rattle.std.specs.Prelude.{Ok, Err}
use Rattle.unbounded.specs.Unbounded as face
use Rattle.unbounded_demands.specs.Demands.{RefusedExactly, refusals, entry_grounds, bound_number}

module _ (m : Machine) where
  -- an act that is not refused before
  moved_exactly : (w : ℕ) (p : Place) (lose : Bool)
      → (moved_by sizes act_of m w p lose).refusal ≡ first_of (on 23 (cond (view_of sizes p).takes (not (ltb (lowest_free sizes m.blocks) sizes.blocks)) false) ∷ [])
  unfolding moved_by refused accepted
  moved_exactly w p lose = go (view_of sizes p).takes (ltb (lowest_free sizes m.blocks) sizes.blocks)
    where
      go : (x y : Bool)
          → (cond x (cond y (accepted (taken_by sizes act_of m w p lose (lowest_free sizes m.blocks))) (refused 23 m)) (accepted (used_by sizes act_of m w p lose))).refusal
          ≡ first_of (on 23 (cond x (not y) false) ∷ [])
      go true true = refl
      go true false = refl
      go false y = refl

  entry_exactly : (e : Entry) → (turn_by sizes act_of m e).refusal ≡ first_of (entry_grounds m e)
  unfolding refused accepted
  entry_exactly Unreadable = refl
  entry_exactly (Asks w (Begin c)) = go (ltb w m.count) (view_of sizes (place_of m.workers w)).busy
    where
      go : (x y : Bool) → (cond x (carried_by sizes act_of m w (place_of m.workers w) (cond y (Refuse 4) (Start c))) (refused 3 m)).refusal ≡ first_of (on 3 (not x) ∷ on 4 y ∷ [])
      go true true = refl
      go true false = refl
      go false y = refl
  entry_exactly (Asks w (Act lose)) =
      go (ltb w m.count) (view_of sizes (place_of m.workers w)).busy (ltb m.meter meter_most) lose (view_of sizes (place_of m.workers w)).weak
    where
      p : Place
      p = place_of m.workers w

      go : (x y t l k : Bool)
          → (cond x (carried_by sizes act_of m w p (cond y (cond t (cond l (cond k (Move true) (Refuse 8)) (Move false)) (Refuse 7)) (Refuse 5))) (refused 3 m)).refusal
          ≡ first_of (on 3 (not x) ∷ on 5 (not y) ∷ on 7 (not t) ∷ on 8 (cond l (not k) false)
          ∷ on 23 (cond (view_of sizes p).takes (not (ltb (lowest_free sizes m.blocks) sizes.blocks)) false) ∷ [])
      go true true true true true = moved_exactly w p true
      go true true true true false = refl
      go true true true false k = moved_exactly w p false
      go true true false l k = refl
      go true false t l k = refl
      go false y t l k = refl

  -- with 6 before it
  six : (b : Bool) (d : Did) (n : ℕ) → d.refusal ≡ n → (cond b (refused 6 m) d).refusal ≡ cond b 6 n
  unfolding refused
  six true d n h = refl
  six false d n h = h

  module _ (first second : ℕ) where
    step_exactly : (turn_of sizes m first second).refusal ≡ first_of (on 6 (broken_of sizes m) ∷ entry_grounds m (entry_here first second))
    unfolding turn_with
    step_exactly = six (broken_of sizes m) (turn_by sizes act_of m (entry_here first second)) _ (entry_exactly (entry_here first second))

    -- which an unbroken machine has passed
    sound : broken_of sizes m ≡ false → (turn_of sizes m first second).refusal ≡ first_of (entry_grounds m (entry_here first second))
    sound b = step_exactly ∙ ap (λ (x : Bool). cond x 6 (first_of (entry_grounds m (entry_here first second)))) b

    begin_exactly : (face.begin_step_of sizes m first second).refusal ≡ first_of (on 6 (broken_of sizes m) ∷ on 9 (not (ltb (first % 16) 8)) ∷ entry_grounds m (entry_here first second))
    unfolding face.begin_step_of refused
    begin_exactly = go (broken_of sizes m) refl (ltb (first % 16) 8)
      where
        go : (b : Bool) → broken_of sizes m ≡ b → (k : Bool)
            → (cond b (refused 6 m) (cond k (turn_of sizes m first second) (refused 9 m))).refusal ≡ first_of (on 6 b ∷ on 9 (not k) ∷ entry_grounds m (entry_here first second))
        go true b k = refl
        go false b true = sound b
        go false b false = refl

    act_exactly : (face.act_step_of sizes m first second).refusal ≡ first_of (on 6 (broken_of sizes m) ∷ on 9 (ltb (first % 16) 8) ∷ entry_grounds m (entry_here first second))
    unfolding face.act_step_of refused
    act_exactly = go (broken_of sizes m) refl (ltb (first % 16) 8)
      where
        go : (b : Bool) → broken_of sizes m ≡ b → (k : Bool)
            → (cond b (refused 6 m) (cond k (refused 9 m) (turn_of sizes m first second))).refusal ≡ first_of (on 6 b ∷ on 9 k ∷ entry_grounds m (entry_here first second))
        go true b k = refl
        go false b true = refl
        go false b false = sound b

  run_broken : (s : List ℕ) → broken_of sizes m ≡ true → (run_of sizes m s).refusal ≡ 6
  unfolding schedule_by ran
  run_broken s b = rw b

  run_odd : (s : List ℕ) → broken_of sizes m ≡ false → length s % 2 ≡ 1 → (run_of sizes m s).refusal ≡ 11
  unfolding schedule_by ran
  run_odd s b odd = rw (b, eq-eqb (length s % 2) 1 odd)

  contents_exactly : (room : ℕ) → contents_refusal sizes m room ≡ first_of (on 6 (broken_of sizes m) ∷ on 4 (not (all_idle sizes m.workers)) ∷ on 10 (ltb room (count_in sizes m)) ∷ [])
  unfolding contents_refusal
  contents_exactly room = go (broken_of sizes m) (all_idle sizes m.workers) (ltb room (count_in sizes m))
    where
      go : (x y z : Bool) → cond x 6 (cond y (cond z 10 0) 4) ≡ first_of (on 6 x ∷ on 4 (not y) ∷ on 10 z ∷ [])
      go true y z = refl
      go false true z = refl
      go false false z = refl

  capacity_exactly : bound_number (face.capacity_of sizes m) ≡ first_of (on 6 (broken_of sizes m) ∷ [])
  unfolding face.capacity_of
  capacity_exactly = go (broken_of sizes m)
    where
      go : (x : Bool) → bound_number (cond x (Err 6) (Ok tt)) ≡ first_of (on 6 x ∷ [])
      go true = refl
      go false = refl

make_exactly : (workers : ℕ) → (face.make_of sizes workers).refusal ≡ first_of (on 2 (not (in_limits workers workers_most)) ∷ [])
unfolding face.make_of refused accepted
make_exactly workers = go (in_limits workers workers_most)
  where
    go : (x : Bool) → (cond x (accepted (fresh_of sizes workers)) (refused 2 (blank sizes))).refusal ≡ first_of (on 2 (not x) ∷ [])
    go true = refl
    go false = refl

pub refused_exactly : RefusedExactly refusals
refused_exactly =
    record {
      make = make_exactly;
      step = step_exactly;
      begin = begin_exactly;
      act = act_exactly;
      run = λ m s. (run_broken m s, run_odd m s);
      contents = contents_exactly;
      capacity = capacity_exactly;
    }
