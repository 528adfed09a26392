-- Which statement refuses which slip.
use Rattle.bounded_demands.specs.Demands.{AsHeld, OnlyTheActing, LentUnbroken, OnlyOneLent, LentThroughout, SixtyFourRecords, LentRefused, LentNumbered, LentEachNumber, LentRefusedExactly, LentListFirst, LentStaysUnbroken, LentMixed}
use Rattle.bounded_proof_lent_slips.specs.Slips.{neighbour_written, count_kept, refused_moves, meter_stays, sixty_five, refused_idles, records_open, refused_undone, odd_by_twelve, unsearched, not_run, refused_writes, lending_with, promise_with}

pub record Refuted : Type 0 where
  pub as_held : AsHeld (lending_with count_kept) → ⊥
  pub others : OnlyTheActing (lending_with neighbour_written) → ⊥
  pub refused : OnlyTheActing (lending_with refused_moves) → ⊥
  pub unmade : OnlyTheActing (lending_with refused_idles) → ⊥
  pub throughout : LentThroughout (lending_with refused_moves) → ⊥
  pub unbroken : LentUnbroken (lending_with meter_stays) → ⊥
  pub one : OnlyOneLent (promise_with records_open) → ⊥
  pub most : SixtyFourRecords (lending_with sixty_five) → ⊥
  -- demand 1
  pub refused_step : LentRefused (lending_with refused_moves) → ⊥
  pub refused_make : LentRefused (lending_with refused_idles) → ⊥
  pub refused_run : LentRefused (lending_with refused_undone) → ⊥
  pub refused_contents : LentRefused (lending_with refused_writes) → ⊥
  pub numbered : LentNumbered (lending_with odd_by_twelve) → ⊥
  pub each_number : LentEachNumber (lending_with odd_by_twelve) → ⊥
  pub refused_exactly : LentRefusedExactly (lending_with odd_by_twelve) → ⊥
  pub list_first : LentListFirst (lending_with unsearched) → ⊥
  pub stays_unbroken : LentStaysUnbroken (lending_with meter_stays) → ⊥
  -- any mixture
  pub mixed : LentMixed (lending_with not_run) → ⊥
  pub mixed_step : LentMixed (lending_with refused_moves) → ⊥
