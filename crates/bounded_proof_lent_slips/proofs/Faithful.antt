-- With no slip planted the lent face is item 11's, and the statements stand.
use mathlib.Core.Path.{refl, sym, subst}
use Rattle.bounded_demands.specs.Demands.{AsHeld, OnlyTheActing, LentUnbroken, OnlyOneLent, LentThroughout, SixtyFourRecords, LentDemand1, LentEachNumber, LentMixed}
use Rattle.bounded_proof_lent.proofs.Padded.{as_held, sixty_four_records}
use Rattle.bounded_proof_lent.proofs.Acting.{only_the_acting, only_one_lent}
use Rattle.bounded_proof_lent.proofs.Throughout.{lent_throughout, lent_unbroken_still}
use Rattle.bounded_proof_lent.proofs.Refusals.{lent_demand1}
use Rattle.bounded_proof_lent.proofs.EachNumber.{lent_each_number}
use Rattle.bounded_proof_lent.proofs.Mixed.{lent_mixed}
use Rattle.bounded_proof_lent_slips.specs.Slips.{Faithful, Stands}

pub faithful : Faithful
faithful = record { lending = refl; promise = refl }

pub stands : Stands
stands = (
  subst AsHeld (sym faithful.lending) as_held,
  subst OnlyTheActing (sym faithful.lending) only_the_acting,
  subst LentUnbroken (sym faithful.lending) lent_unbroken_still,
  subst OnlyOneLent (sym faithful.promise) only_one_lent,
  subst LentThroughout (sym faithful.lending) lent_throughout,
  subst SixtyFourRecords (sym faithful.lending) sixty_four_records,
  subst LentDemand1 (sym faithful.lending) lent_demand1,
  subst LentEachNumber (sym faithful.lending) lent_each_number,
  subst LentMixed (sym faithful.lending) lent_mixed,
)
