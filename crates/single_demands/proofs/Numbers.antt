-- Which refusals each function can give, and no others.
use Prim.Native.Nat.{ℕ, ◌%◌}
use mathlib.Core.Path.{◌≡◌, refl}
use mathlib.Core.Bool.{Bool, true, false}
use mathlib.Core.List.{List, [], ◌∷◌}
use lib.Dec.{ltb}
use Rattle.queue_entries.specs.Limits.{workers_most, in_limits}
use Rattle.queue_entries.specs.declared.Order.{Order}
use Rattle.queue_entries.specs.declared.Order.TheVariants.{Begin, Act}
use Rattle.queue_entries.specs.declared.Entry.{Entry}
use Rattle.queue_entries.specs.declared.Entry.TheVariants.{Asks}
use Rattle.queue_entries.specs.declared.Verdict.{Verdict}
use Rattle.queue_entries.specs.declared.Verdict.TheVariants.{Refuse, Start, Move}
use Rattle.queue_schedules.proofs.Schedules.{either, picked}
use Rattle.queue_numbers.specs.Numbers.{has}
use Rattle.queue_numbers.proofs.Among.{within, wider, Sure, begins, acts, begin_sure, act_sure, code_begins, code_acts, schedule_among}
use Rattle.single_places.specs.declared.Place.{Place}
use Rattle.single_places.specs.Places.{view_of}
use Rattle.single_machine.specs.declared.Machine.{Machine}
use Rattle.single_machine.specs.declared.Did.{Did}
use Rattle.single_machine.specs.Machine.{place_of, fresh_of, blank, refused, accepted}
use Rattle.single_machine.specs.Broken.{broken_of, idle_from}
use Rattle.single_machine.specs.Contents.{count_in, contents_refusal}
use Rattle.single_machine.specs.Turn.{verdict_of, carried, turn, turn_of, turn_of_by}
use Rattle.single_machine.specs.Run.{run_of}
use Rattle.single_machine.proofs.Turns.{single_queue}
use Rattle.single.specs.Single as face
use Rattle.single_demands.specs.Demands.{Numbered, refusals}

abbrev Among : List ℕ → Did → Type 0
Among l d = has l d.refusal ≡ true

module _ (l : List ℕ) (m : Machine) where
  refused_among : (k : ℕ) → has l k ≡ true → Among l (refused k m)
  unfolding refused
  refused_among k h = h

  carried_among : (w : ℕ) (p : Place) (v : Verdict) → Sure l v → Among l (carried m w p v)
  unfolding accepted
  carried_among w p (Refuse k) h = refused_among k h
  carried_among w p (Start c) h = h
  carried_among w p (Move lose) h = h

  asked : (w : ℕ) (o : Order) → has l 3 ≡ true → Sure l (verdict_of m.meter (place_of m.workers w) o) → Among l (turn m (Asks w o))
  asked w o three s =
      picked (Among l) (ltb w m.count) (carried m w (place_of m.workers w) (verdict_of m.meter (place_of m.workers w) o)) (refused 3 m)
      (carried_among w (place_of m.workers w) (verdict_of m.meter (place_of m.workers w) o) s) (refused_among 3 three)

abbrev steps : List ℕ
steps = 0 ∷ 3 ∷ 4 ∷ 5 ∷ 6 ∷ 7 ∷ 8 ∷ 9 ∷ []

module _ (m : Machine) (a b : ℕ) where
  abbrev busy_at : ℕ → Bool
  busy_at w = (view_of (place_of m.workers w)).busy

  turn_begin : ltb (a % 16) 8 ≡ true → Among begins (turn_of m a b)
  unfolding turn_of_by has refused
  turn_begin =
      code_begins (λ (x : Entry). Among begins (turn m x)) refl a b (λ w c. asked begins m w (Begin c) refl (begin_sure m.meter (busy_at w) false c))

  turn_act : ltb (a % 16) 8 ≡ false → Among acts (turn_of m a b)
  unfolding turn_of_by has refused
  turn_act = code_acts (λ (x : Entry). Among acts (turn m x)) refl a b (λ w lose. asked acts m w (Act lose) refl (act_sure m.meter (busy_at w) false lose))

  turn_any : Among steps (turn_of m a b)
  unfolding has within
  turn_any = go (ltb (a % 16) 8) refl
    where
      go : (x : Bool) → ltb (a % 16) 8 ≡ x → Among steps (turn_of m a b)
      go true l = wider begins steps (turn_of m a b).refusal refl (turn_begin l)
      go false l = wider acts steps (turn_of m a b).refusal refl (turn_act l)

  step_among : Among steps (face.step_of m a b)
  unfolding face.step_of has refused
  step_among = picked (Among steps) (broken_of m) (refused 6 m) (turn_of m a b) refl turn_any

  begin_among : Among (0 ∷ 3 ∷ 4 ∷ 6 ∷ 9 ∷ []) (face.begin_step_of m a b)
  unfolding face.begin_step_of has within refused
  begin_among =
      picked (Among (0 ∷ 3 ∷ 4 ∷ 6 ∷ 9 ∷ [])) (broken_of m) (refused 6 m) _ refl
      (either (Among (0 ∷ 3 ∷ 4 ∷ 6 ∷ 9 ∷ [])) (ltb (a % 16) 8) (turn_of m a b) (refused 9 m)
      (λ l. wider begins (0 ∷ 3 ∷ 4 ∷ 6 ∷ 9 ∷ []) (turn_of m a b).refusal refl (turn_begin l)) (λ l. refl))

  act_among : Among (0 ∷ 3 ∷ 5 ∷ 6 ∷ 7 ∷ 8 ∷ 9 ∷ []) (face.act_step_of m a b)
  unfolding face.act_step_of has within refused
  act_among =
      picked (Among (0 ∷ 3 ∷ 5 ∷ 6 ∷ 7 ∷ 8 ∷ 9 ∷ [])) (broken_of m) (refused 6 m) _ refl
      (either (Among (0 ∷ 3 ∷ 5 ∷ 6 ∷ 7 ∷ 8 ∷ 9 ∷ [])) (ltb (a % 16) 8) (refused 9 m) (turn_of m a b)
      (λ l. refl) (λ l. wider acts (0 ∷ 3 ∷ 5 ∷ 6 ∷ 7 ∷ 8 ∷ 9 ∷ []) (turn_of m a b).refusal refl (turn_act l)))

abbrev runs : List ℕ
runs = 0 ∷ 3 ∷ 4 ∷ 5 ∷ 6 ∷ 7 ∷ 8 ∷ 9 ∷ 11 ∷ []

run_among : (m : Machine) (s : List ℕ) → has runs (run_of m s).refusal ≡ true
unfolding has within
run_among = schedule_among single_queue runs refl (λ m a b. wider steps runs (turn_of m a b).refusal refl (turn_any m a b)) broken_of refl refl refl

make_among : (w : ℕ) → Among (0 ∷ 2 ∷ []) (face.make_of w)
unfolding face.make_of has refused accepted
make_among w = picked (Among (0 ∷ 2 ∷ [])) (in_limits w workers_most) (accepted (fresh_of w)) (refused 2 blank) refl refl

contents_among : (m : Machine) (room : ℕ) → has (0 ∷ 4 ∷ 6 ∷ 10 ∷ []) (contents_refusal m room) ≡ true
unfolding contents_refusal has
contents_among m room =
    picked Told (broken_of m) 6 _ refl (picked Told (idle_from 0 m.workers) _ 4 (picked Told (ltb room (count_in m)) 10 0 refl refl) refl)
  where
    Told : ℕ → Type 0
    Told k = has (0 ∷ 4 ∷ 6 ∷ 10 ∷ []) k ≡ true

pub numbered : Numbered refusals
numbered =
    record { make = make_among; step = step_among; begin = begin_among; act = act_among; run = run_among; contents = contents_among }
