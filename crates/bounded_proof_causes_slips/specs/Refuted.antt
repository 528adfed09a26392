-- Which statement refuses which slip, at which schedule (crates/bounded_demands/specs/Retries.antt).
use Rattle.std.specs.Prelude.{List, ◌++◌}
use Rattle.bounded_words.specs.declared.Width.TheVariants.{Sixteen, SixtyFour}
use Rattle.bounded_machine.specs.declared.Event.{Event}
use Rattle.bounded_demands.specs.Notions.{with_records, of_width, document01, acts_of}
use Rattle.bounded_demands.specs.Retries.{Retry, failed_push, late_push, emptied_push, early_pop, beside_apop, closed_len, does, only_hand}
use Rattle.bounded_demands.specs.Demands.{RetriesCaused, LenByOwnEnd, EachNeeded, RetriesUnderEverySchedule, RetriesInWindow, KeptOf, KeptAsSaid}
use Rattle.bounded_proof_causes_slips.specs.Slips.{no_schedule, no_own_end, no_other_end, no_hand, since_begin, hand_now, len_with_stamps, mark_unseen, load_before, first_sixteen, name_with, keeps_nothing, held_at_first}

abbrev pub past : Retry → List Event
past r = acts_of document01 r.capacity 2 1 r.schedule

-- a push finds the ring full, and then its worker's pop finds the stamp of a slot in a force_push's hand
abbrev pub beside_aforce : Retry
beside_aforce = record { capacity = 1; schedule = does 1 0 6 5 ++ does 0 0 5 3 ++ does 1 1 7 3 ++ does 0 2 0 2; causes = only_hand }

-- (One's own hand counted is no such slip: at its stamp load a worker has none. It is an edit of crate bounded_causes.)
pub record Refuted : Type 0 where
  -- each of the four struck from the list
  pub schedule : RetriesCaused (name_with no_schedule) (past failed_push) → ⊥
  pub own : RetriesCaused (name_with no_own_end) (past late_push) → ⊥
  pub other : RetriesCaused (name_with no_other_end) (past emptied_push) → ⊥
  pub hand : RetriesCaused (name_with no_hand) (past early_pop) → ⊥
  -- and read otherwise
  pub hand_now_lem : RetriesCaused (name_with hand_now) (past beside_apop) → ⊥
  pub since_begin_lem : EachNeeded (name_with since_begin) 1 → ⊥
  pub len_stamps : LenByOwnEnd (name_with len_with_stamps) (past closed_len) → ⊥
  pub mark_unseen_lem : RetriesCaused (name_with mark_unseen) (past closed_len) → ⊥
  pub load_before_lem : RetriesCaused (name_with load_before) (past beside_aforce) → ⊥
  -- of 17 records; of sixteen bits; and of one worker more than are kept
  pub records : RetriesUnderEverySchedule (with_records 17 SixtyFour) (name_with first_sixteen) → ⊥
  pub in_window : RetriesInWindow (of_width Sixteen) (name_with no_schedule) → ⊥
  pub kept : KeptOf 65 → ⊥
  -- of what is kept itself
  pub kept_nothing : KeptAsSaid keeps_nothing → ⊥
  pub kept_first : KeptAsSaid held_at_first → ⊥
