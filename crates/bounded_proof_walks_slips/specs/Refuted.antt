-- Which statement refuses which slip.
use Rattle.bounded_demands.specs.Demands.{WalksAll, WalkToldBy, WalkCountsBy, WalkEachNumber}
use Rattle.bounded_proof_walks_slips.specs.Slips.{nine_first, one_skipped, cut_when_one_idle, listed_twice, walk_with, one_short, refused_writes, idle_by_four, sized_short, answers_none, face_with}

pub record Refuted : Type 0 where
  pub nine_first_lem : WalksAll (walk_with nine_first) → ⊥
  pub one_skipped_lem : WalksAll (walk_with one_skipped) → ⊥
  pub cut_when_one_idle_lem : WalksAll (walk_with cut_when_one_idle) → ⊥
  pub listed_twice_lem : WalksAll (walk_with listed_twice) → ⊥
  -- what it answers, and what it leaves in the buffer
  pub one_short_lem : WalkToldBy (face_with one_short) → ⊥
  pub refused_writes_lem : WalkToldBy (face_with refused_writes) → ⊥
  pub idle_by_four_lem : WalkToldBy (face_with idle_by_four) → ⊥
  pub sized_short_lem : WalkToldBy (face_with sized_short) → ⊥
  pub answers_none_lem : WalkCountsBy (face_with answers_none) → ⊥
  -- its size is not that of the list
  pub counted_short : WalkCountsBy (face_with sized_short) → ⊥
  pub each_number : WalkEachNumber (face_with idle_by_four) → ⊥
