-- Which statement refuses which slip.
use Rattle.bounded_demands.specs.Notions.{document01, at_the_end, pushing_in}
use Rattle.bounded_demands.specs.Demands.{RefusedUnchanged, Numbered, EachNumber, RefusedExactly, ListFirst, StaysUnbroken, OnlyOneMeets, Mixed, MixedInWindow}
use Rattle.queue_entries.specs.Told.{told as told_of}
use Rattle.std.specs.Prelude.{Err}
use Rattle.queue_numbers.specs.Answers.{BothWays, number_in, value_in}
use Rattle.bounded_demands.specs.Answers.{sized_number, sized_of}
use Rattle.bounded_proof_faces_slips.specs.Slips.{unnumbered, never_refused, bytes_twice, refused_moves, odd_by_twelve, unsearched, meter_stays, not_run, begin_acts, edition_by_two, machine_open, refuses_all, face_with, promises_with}

pub record Refuted : Type 0 where
  -- demand 1
  pub unchanged : RefusedUnchanged (face_with refused_moves) → ⊥
  pub numbered : Numbered (face_with odd_by_twelve) → ⊥
  pub numbered_begin : Numbered (face_with begin_acts) → ⊥
  pub each_number : EachNumber (face_with edition_by_two) (at_the_end (pushing_in (face_with edition_by_two))) → ⊥
  pub exactly_make : RefusedExactly (face_with edition_by_two) → ⊥
  pub exactly_step : RefusedExactly (face_with refuses_all) → ⊥
  pub exactly_begin : RefusedExactly (face_with begin_acts) → ⊥
  pub exactly_run : RefusedExactly (face_with odd_by_twelve) → ⊥
  pub list_first : ListFirst (face_with unsearched) → ⊥
  pub stays_unbroken : StaysUnbroken (face_with meter_stays) → ⊥
  pub only_one : OnlyOneMeets (promises_with machine_open) → ⊥
  -- answers that are enums
  pub both_ways_number : BothWays Err unnumbered value_in told_of → ⊥
  pub both_ways_back : BothWays Err number_in value_in never_refused → ⊥
  pub both_ways_values : BothWays Err sized_number bytes_twice sized_of → ⊥
  -- any mixture
  pub mixed_run : Mixed (face_with not_run) document01 → ⊥
  pub mixed_step : Mixed (face_with refused_moves) document01 → ⊥
  pub mixed_in_window : MixedInWindow (face_with not_run) document01 → ⊥
