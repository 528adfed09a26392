-- Which refusals each function can give, and no others.
use Prim.Native.Nat.{ℕ, ◌%◌}
use mathlib.Core.Path.{◌≡◌, refl}
use mathlib.Core.Bool.{Bool, true, false}
use mathlib.Core.List.{List, [], ◌∷◌}
use lib.Dec.{ltb, eqb}
use Rattle.queue_entries.specs.Limits.{workers_most, in_limits}
use Rattle.queue_entries.specs.declared.Call.{Call}
use Rattle.queue_entries.specs.declared.Order.TheVariants.{Begin, Act}
use Rattle.queue_entries.specs.declared.Entry.{Entry}
use Rattle.queue_entries.specs.declared.Entry.TheVariants.{Unreadable, Asks}
use Rattle.queue_entries.specs.declared.Verdict.{Verdict}
use Rattle.queue_entries.specs.declared.Verdict.TheVariants.{Refuse, Start, Move}
use Rattle.queue_entries.specs.Entries.{entry_of, entry_but}
use Rattle.queue_schedules.proofs.Schedules.{either, picked}
use Rattle.queue_numbers.specs.Numbers.{has}
use Rattle.queue_numbers.proofs.Among.{within, wider, Sure, acts, act_sure, code_begins, code_acts, schedule_among}
use Rattle.unbounded_words.specs.Words.{sizes}
use Rattle.unbounded_places.specs.declared.Place.{Place}
use Rattle.unbounded_places.specs.Places.{view_of}
use Rattle.unbounded_acts.specs.Acts.{act_of}
use Rattle.unbounded_machine.specs.declared.Machine.{Machine}
use Rattle.unbounded_machine.specs.declared.Did.{Did}
use Rattle.unbounded_machine.specs.Machine.{place_of, fresh_of, blank, refused, accepted}
use Rattle.unbounded_machine.specs.Broken.{broken_of, all_idle}
use Rattle.unbounded_machine.specs.Contents.{count_in, contents_refusal}
use Rattle.unbounded_machine.specs.Turn.{entry_here, verdict_of, lowest_free, used_by, taken_by, moved_by, carried_by, turn_by, turn_with, turn_of}
use Rattle.unbounded_machine.specs.Run.{run_of}
use Rattle.unbounded.specs.Unbounded as face
use Rattle.unbounded_demands.specs.Demands.{Numbered, refusals}
use Rattle.unbounded_demands.proofs.Refusals.{unbounded_queue}

abbrev Among : List ℕ → Did → Type 0
Among l d = has l d.refusal ≡ true

-- an act may find no free block
abbrev takings : List ℕ
takings = 0 ∷ 3 ∷ 5 ∷ 6 ∷ 7 ∷ 8 ∷ 9 ∷ 23 ∷ []

abbrev beginnings : List ℕ
beginnings = 0 ∷ 3 ∷ 4 ∷ 6 ∷ 9 ∷ []

abbrev steps : List ℕ
steps = 0 ∷ 3 ∷ 4 ∷ 5 ∷ 6 ∷ 7 ∷ 8 ∷ 9 ∷ 23 ∷ []

module _ (m : Machine) where
  refused_among : (l : List ℕ) (k : ℕ) → has l k ≡ true → Among l (refused k m)
  unfolding refused
  refused_among l k h = h

  moved_among : (w : ℕ) (p : Place) (lose : Bool) → Among takings (moved_by sizes act_of m w p lose)
  unfolding moved_by has refused accepted
  moved_among w p lose =
      picked (Among takings) (view_of sizes p).takes _ (accepted (used_by sizes act_of m w p lose))
      (picked (Among takings) (ltb (lowest_free sizes m.blocks) 64) (accepted (taken_by sizes act_of m w p lose (lowest_free sizes m.blocks))) (refused 23 m) refl refl) refl

  carried_among : (w : ℕ) (p : Place) (v : Verdict) → Sure acts v → Among takings (carried_by sizes act_of m w p v)
  unfolding has within accepted
  carried_among w p (Refuse k) h = refused_among takings k (wider acts takings k refl h)
  carried_among w p (Start c) h = refl
  carried_among w p (Move lose) h = moved_among w p lose

  module _ (w : ℕ) where
    abbrev place : Place
    place = place_of m.workers w

    begins_among : (c : Call) → Among beginnings (turn_by sizes act_of m (Asks w (Begin c)))
    unfolding has refused accepted
    begins_among c =
        picked (Among beginnings) (ltb w m.count) (carried_by sizes act_of m w place (verdict_of sizes m.meter place (Begin c))) (refused 3 m)
        (picked (λ (v : Verdict). Among beginnings (carried_by sizes act_of m w place v)) (view_of sizes place).busy (Refuse 4) (Start c) refl refl) refl

    acts_among : (lose : Bool) → Among takings (turn_by sizes act_of m (Asks w (Act lose)))
    unfolding has refused
    acts_among lose =
        picked (Among takings) (ltb w m.count) (carried_by sizes act_of m w place (verdict_of sizes m.meter place (Act lose))) (refused 3 m)
        (carried_among w place (verdict_of sizes m.meter place (Act lose)) (act_sure m.meter (view_of sizes place).busy (view_of sizes place).weak lose)) refl

  module _ (a b : ℕ) where
    -- broken, or a code that this queue does not have, or an entry as it is read
    turn_among : (l : List ℕ) → has l 6 ≡ true → has l 9 ≡ true → Among l (turn_by sizes act_of m (entry_of a b)) → Among l (turn_of sizes m a b)
    unfolding turn_with entry_but
    turn_among l six nine h =
        picked (Among l) (broken_of sizes m) (refused 6 m) (turn_by sizes act_of m (entry_here a b)) (refused_among l 6 six)
        (picked (λ (x : Entry). Among l (turn_by sizes act_of m x)) (eqb (a % 16) 1) Unreadable (entry_of a b) (refused_among l 9 nine) h)

    turn_begin : ltb (a % 16) 8 ≡ true → Among beginnings (turn_of sizes m a b)
    unfolding has refused
    turn_begin l = turn_among beginnings refl refl (code_begins (λ (x : Entry). Among beginnings (turn_by sizes act_of m x)) refl a b begins_among l)

    turn_act : ltb (a % 16) 8 ≡ false → Among takings (turn_of sizes m a b)
    unfolding has refused
    turn_act l = turn_among takings refl refl (code_acts (λ (x : Entry). Among takings (turn_by sizes act_of m x)) refl a b acts_among l)

    step_among : Among steps (turn_of sizes m a b)
    unfolding has within
    step_among = go (ltb (a % 16) 8) refl
      where
        go : (x : Bool) → ltb (a % 16) 8 ≡ x → Among steps (turn_of sizes m a b)
        go true l = wider beginnings steps (turn_of sizes m a b).refusal refl (turn_begin l)
        go false l = wider takings steps (turn_of sizes m a b).refusal refl (turn_act l)

    begin_among : Among beginnings (face.begin_step_of sizes m a b)
    unfolding face.begin_step_of has refused
    begin_among =
        picked (Among beginnings) (broken_of sizes m) (refused 6 m) _ refl
        (either (Among beginnings) (ltb (a % 16) 8) (turn_of sizes m a b) (refused 9 m) turn_begin (λ l. refl))

    act_among : Among takings (face.act_step_of sizes m a b)
    unfolding face.act_step_of has refused
    act_among =
        picked (Among takings) (broken_of sizes m) (refused 6 m) _ refl
        (either (Among takings) (ltb (a % 16) 8) (refused 9 m) (turn_of sizes m a b) (λ l. refl) turn_act)

  contents_among : (room : ℕ) → has (0 ∷ 4 ∷ 6 ∷ 10 ∷ []) (contents_refusal sizes m room) ≡ true
  unfolding contents_refusal has
  contents_among room =
      picked Told (broken_of sizes m) 6 _ refl (picked Told (all_idle sizes m.workers) _ 4 (picked Told (ltb room (count_in sizes m)) 10 0 refl refl) refl)
    where
      Told : ℕ → Type 0
      Told k = has (0 ∷ 4 ∷ 6 ∷ 10 ∷ []) k ≡ true

abbrev runs : List ℕ
runs = 0 ∷ 3 ∷ 4 ∷ 5 ∷ 6 ∷ 7 ∷ 8 ∷ 9 ∷ 11 ∷ 23 ∷ []

run_among : (m : Machine) (s : List ℕ) → has runs (run_of sizes m s).refusal ≡ true
unfolding has within
run_among =
    schedule_among unbounded_queue runs refl (λ m a b. wider steps runs (turn_of sizes m a b).refusal refl (step_among m a b)) (broken_of sizes) refl refl refl

make_among : (w : ℕ) → Among (0 ∷ 2 ∷ []) (face.make_of sizes w)
unfolding face.make_of has refused accepted
make_among w = picked (Among (0 ∷ 2 ∷ [])) (in_limits w workers_most) (accepted (fresh_of sizes w)) (refused 2 (blank sizes)) refl refl

pub numbered : Numbered refusals
numbered =
    record { make = make_among; step = step_among; begin = begin_among; act = act_among; run = run_among; contents = contents_among }
