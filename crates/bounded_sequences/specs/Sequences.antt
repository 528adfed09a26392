-- The walk of item 10 over the ring, and a machine whose slots are lent as two rows of numbers.
use Rattle.std.specs.Prelude.{ℕ, ◌+◌, ◌-◌, ◌<◌, ◌≤◌, ◌≡◌, Bool, true, false, cond, List, [], ◌∷◌, ltb, eqb, set, take}
use Rattle.queue_entries.specs.Limits.{meter_most}
use Rattle.queue_walks.specs.Walks.{walkers_most, depth_most, act_byte, after, in_turn, choice_by, walk_by}
use Rattle.bounded_words.specs.declared.Width.TheVariants.{SixtyFour}
use Rattle.bounded_words.specs.declared.Fixed.{Fixed}
use Rattle.bounded_places.specs.declared.Slot.{Slot}
use Rattle.bounded_places.specs.declared.Worker.{Worker}
use Rattle.bounded_places.specs.Places.{view_of}
use Rattle.bounded_acts.specs.declared.Acted.{Acted}
use Rattle.bounded_acts.specs.Acts.{act_of, Fits}
use Rattle.bounded_machine.specs.declared.Machine.{Machine}
use Rattle.bounded_machine.specs.declared.Did.{Did}
use Rattle.bounded_machine.specs.Machine.{slot, machine_of, record_of_worker, place_of}
use Rattle.bounded_machine.specs.Broken.{broken_of, all_idle}
use Rattle.bounded_machine.specs.Turn.{spot_of, record_after, turn_of}
use Rattle.bounded_sequences.specs.declared.State.{State}
use Rattle.bounded_sequences.specs.declared.After.{After}

-- Every sequence from this machine, with so many acts left; and those that begin with a worker's act of this code, with so many left after it.
abbrev pub walk_of : ℕ → Machine → List (List ℕ)
walk_of = walk_by (λ (d : Did). d.refusal) (λ (d : Did). d.machine) turn_of (λ (m : Machine). m.count) (λ (m : Machine). all_idle m.workers)

abbrev pub choice_of : ℕ → Machine → ℕ → ℕ → List (List ℕ)
choice_of left = choice_by (λ (d : Did). d.refusal) (λ (d : Did). d.machine) turn_of (λ (m : Machine). m.count) (λ (m : Machine). all_idle m.workers) (walk_of left)

-- 8 is an act, 9 an act whose weak exchange fails.
abbrev pub code_of : Bool → ℕ
code_of lose = cond lose 9 8

-- Slots of these stamps and values.
unfoldable pub slots_of : List ℕ → List ℕ → List Slot
slots_of [] values = []
slots_of (s ∷ stamps) [] = []
slots_of (s ∷ stamps) (v ∷ values) = slot s v ∷ slots_of stamps values

abbrev pub machine_in : State → List ℕ → List ℕ → Machine
machine_in s stamps values = machine_of s.fixed s.ends (slots_of stamps values) s.workers s.count s.meter

-- A busy worker acts; code 9 only where refusal 8 would not be given.
unfoldable pub may_act : Worker → Bool → Bool
may_act r lose = cond (view_of r.place).busy (cond lose (view_of r.place).weak true) false

abbrev pub spot_in : Fixed → Worker → ℕ
spot_in f r = spot_of f (view_of r.place).held

-- What its act leaves of the state and of its slot.
abbrev pub left : State → ℕ → Acted → Worker → After
left s w a r = record {
  state = record { fixed = s.fixed; ends = a.ends; workers = set s.workers w r; count = s.count; meter = s.meter + 1 };
  stamp = a.slot.stamp.0;
  value = a.slot.value;
}

abbrev pub act_in : State → ℕ → ℕ → ℕ → Bool → Acted
act_in s stamp value w lose = act_of SixtyFour s.fixed s.ends (slot stamp value) (place_of s.workers w) lose

unfoldable pub after_of : State → ℕ → ℕ → ℕ → Bool → After
after_of s stamp value w lose =
    left s w (act_in s stamp value w lose) (record_after (record_of_worker s.workers w) (act_in s stamp value w lose).place (act_in s stamp value w lose).loss)

-- A walk ends where no act is left, or sooner because all workers are idle.
unfoldable pub ends_here : State → ℕ → Bool
ends_here s more = cond (eqb more 0) true (all_idle s.workers)

-- The last act of a sequence is listed where it may be done; what it leaves is asked by nobody.
unfoldable pub last_act : Worker → ℕ → Bool → List (List ℕ)
last_act r w lose = cond (may_act r lose) ((act_byte (code_of lose) w ∷ []) ∷ []) []

abbrev pub last_choice : List Worker → ℕ → ℕ → List (List ℕ)
last_choice ws w code = last_act (record_of_worker ws w) w (eqb code 9)

-- No act is left, or one, or all workers are idle; what is told there with n acts of a path done, of whatever slots.
unfoldable pub ends_soon : State → ℕ → Bool
ends_soon s more = cond (ltb more 2) true (all_idle s.workers)

abbrev pub last_from : State → List ℕ → ℕ → List (List ℕ)
last_from s path n = after (take n path) (in_turn (last_choice s.workers) s.count 0)

unfoldable pub soon_from : State → List ℕ → ℕ → ℕ → List (List ℕ)
soon_from s path n more = cond (ends_here s more) (take n path ∷ []) (last_from s path n)

-- What is told with n acts of a path done: from this state, and from a worker's act of this code.
abbrev pub walk_from : State → List ℕ → List ℕ → List ℕ → ℕ → ℕ → List (List ℕ)
walk_from s stamps values path n more = after (take n path) (walk_of more (machine_in s stamps values))

abbrev pub choice_from : State → List ℕ → List ℕ → List ℕ → ℕ → ℕ → ℕ → Bool → List (List ℕ)
choice_from s stamps values path n more w lose = after (take n path) (choice_of more (machine_in s stamps values) w (code_of lose))

-- What an act asks: the record of its worker, what it says, and room on the meter.
pub record Ready (s : State) (r : Worker) (w : ℕ) : Type 0 where
  pub low : w < walkers_most
  pub own : r ≡ record_of_worker s.workers w
  pub fits : Fits s.fixed r.place
  pub differed : r.differed < meter_most
  pub failed : r.failed < meter_most
  pub meter : s.meter < meter_most

-- Where a walk can go on, n acts done and so many left: no lent slots make the machine a broken one.
pub record Sound (s : State) (n more : ℕ) : Type 0 where
  pub few : s.count ≤ walkers_most
  pub whole : (stamps values : List ℕ) → broken_of (machine_in s stamps values) ≡ false
  pub depth : n + more ≤ depth_most
  pub meter : more ≤ meter_most - s.meter
