-- Which statement refuses which slip in what is counted, in a close of any machine, and in the numbers of sixteen bits.
use Rattle.bounded_words.specs.declared.Width.TheVariants.{Sixteen}
use Rattle.bounded_words.specs.Limits.{narrow}
use Rattle.bounded_sixteen_bits.specs.SixteenBits.{narrowed}
use Rattle.bounded_demands.specs.Notions.{document01, of_width, cut_to, sixteen}
use Rattle.bounded_demands.specs.Demands.{TallyAsSaid, TalliedUnderEverySchedule, StockAttained, LossesUnderEverySchedule, OnceClosedAnywhere, NumbersFit, SameNumbersBy}
use Rattle.bounded_slips.specs.Slips.{force_forgets, falls_when_taken, twice, counting_at, unread_tally, tail_only, stock_with, slipped}

pub record RefutedCounts : Type 0 where
  pub reads : TallyAsSaid unread_tally → ⊥
  pub heads : TallyAsSaid tail_only → ⊥
  pub tallied : TalliedUnderEverySchedule document01 unread_tally → ⊥
  pub attained : StockAttained document01 (stock_with falls_when_taken) → ⊥
  -- with no window
  pub losses_of_sixteen : LossesUnderEverySchedule (counting_at Sixteen twice) → ⊥
  pub close_anywhere : OnceClosedAnywhere (slipped force_forgets) → ⊥
  -- words of 64 bits do not stay below 65,536; and numbers cut to fifteen bits are not the same
  pub words_of_64 : NumbersFit document01 (cut_to narrow) → ⊥
  pub cut_to_fifteen : NumbersFit (of_width Sixteen) (cut_to 32768) → ⊥
  -- the same said of the face: cut, numbers are lost; and a schedule is told as run, and is not
  pub same_numbers : SameNumbersBy (λ m. narrowed (cut_to 32768 m)) sixteen.run → ⊥
  pub not_run_lem : SameNumbersBy narrowed (λ m s. record { refusal = 0; place = 0; machine = m }) → ⊥
