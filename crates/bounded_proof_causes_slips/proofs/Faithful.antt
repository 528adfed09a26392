-- With no slip planted the causes are those named, and the statements stand.
use mathlib.Core.Path.{refl, sym, subst}
use mathlib.Core.List.{List}
use Rattle.queue_entries.specs.Limits.{workers_most}
use Rattle.bounded_words.specs.declared.Width.TheVariants.{Sixteen, SixtyFour}
use Rattle.bounded_machine.specs.declared.Event.{Event}
use Rattle.bounded_causes.specs.declared.Causes.{Causes}
use Rattle.bounded_orders.specs.Orders.{records_most}
use Rattle.bounded_demands.specs.Notions.{with_records, of_width, document01}
use Rattle.bounded_demands.specs.Demands.{EveryRetryHasACause, EachNeeded, RetriesUnderEverySchedule, RetriesInWindow}
use Rattle.bounded_demands.proofs.Retries.{each_needed}
use Rattle.bounded_proof_causes.proofs.Causes.{every_retry}
use Rattle.bounded_proof_causes.proofs.Alone.{retries_always, retries_in_window}
use Rattle.bounded_proof_causes_slips.specs.Slips.{Faithful, Stands}

pub faithful : Faithful
faithful = refl

pub stands : Stands
stands = (
  subst (EveryRetryHasACause document01) (sym faithful) every_retry,
  subst (λ (name : List Event → Event → Causes). EachNeeded name 1) (sym faithful) each_needed.0,
  subst (λ (name : List Event → Event → Causes). EachNeeded name 2) (sym faithful) each_needed.1,
  subst (RetriesUnderEverySchedule (with_records records_most SixtyFour)) (sym faithful) (retries_always records_most),
  subst (RetriesInWindow (of_width Sixteen)) (sym faithful) (retries_in_window Sixteen workers_most),
)
