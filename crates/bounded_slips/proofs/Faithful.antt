-- With no slip planted the tables are document 01's, row by row, and the demands stand.
use mathlib.Core.Bool.{Bool}
use mathlib.Core.Path.{◌≡◌, refl, sym, ap, subst}
use Rattle.queue_entries.specs.Limits.{workers_most}
use Rattle.bounded_words.specs.declared.Fixed.{Fixed}
use Rattle.bounded_words.specs.declared.Width.TheVariants.{SixtyFour}
use Rattle.bounded_places.specs.declared.Slot.{Slot}
use Rattle.bounded_places.specs.declared.Ends.{Ends}
use Rattle.bounded_places.specs.declared.Place.{Place}
use Rattle.bounded_places.specs.declared.Place.TheVariants.{Idle, P1, P2, P3, P4, P5, P6, F6, F7, F8, F9, O1, O2, O3, O4, O5, O6, Len1, Len2, Len3, Empty1, Empty2, Full1, Full2, Close1, IsClosed1}
use Rattle.bounded_acts.specs.Acts.{act_of}
use Rattle.bounded_demands.specs.Notions.{Definition, by_table, document01}
use Rattle.bounded_demands.specs.Demands.{UnderEverySchedule, NothingWraps, ActByAct, WholeSchedules, LenTrue, ScheduledAlone, StockUnderEverySchedule}
use Rattle.bounded_demands.specs.Demands.{LossesUnderEverySchedule, CountsAside, CloseHolds, ClosedIsLast, AnswersPlain, OneStep, OneStepUnderEverySchedule}
use Rattle.bounded_proof_demand2.proofs.Demand2.{demand2, nothing_wraps, act_by_act, whole_schedules}
use Rattle.bounded_proof_demand2.proofs.Lens.{len_true}
use Rattle.bounded_proof_demand2.proofs.Stock.{stock_stands}
use Rattle.bounded_proof_demand2.proofs.Losses.{losses}
use Rattle.bounded_proof_demand2.proofs.Aside.{counts_aside}
use Rattle.bounded_proof_demand2.proofs.Closing.{close_holds, closed_is_last}
use Rattle.bounded_proof_demand3.proofs.Demand3.{demand3}
use Rattle.bounded_proof_plain.proofs.Plain.{answers_plain}
use Rattle.bounded_proof_plain.proofs.Linearizable.{one_step_lem}
use Rattle.bounded_proof_plain.proofs.Unlooked.{others}
use Rattle.bounded_slips.specs.Slips.{planted, act_with, given_stock, Faithful, Stands}

-- every row
same_act : (f : Fixed) (e : Ends) (s : Slot) (p : Place) (lose : Bool) → act_with planted f e s p lose ≡ act_of SixtyFour f e s p lose
same_act f e s (Idle a) lose = refl
same_act f e s (P1 k x) lose = refl
same_act f e s (P2 k t x) lose = refl
same_act f e s (P3 k t x) lose = refl
same_act f e s (P4 t x) lose = refl
same_act f e s (P5 t) lose = refl
same_act f e s (P6 t x) lose = refl
same_act f e s (F6 t x) lose = refl
same_act f e s (F7 t x) lose = refl
same_act f e s (F8 t x) lose = refl
same_act f e s (F9 t x) lose = refl
same_act f e s O1 lose = refl
same_act f e s (O2 h) lose = refl
same_act f e s (O3 h) lose = refl
same_act f e s (O4 h) lose = refl
same_act f e s (O5 h v) lose = refl
same_act f e s (O6 h) lose = refl
same_act f e s Len1 lose = refl
same_act f e s (Len2 t) lose = refl
same_act f e s (Len3 t h) lose = refl
same_act f e s Empty1 lose = refl
same_act f e s (Empty2 h) lose = refl
same_act f e s Full1 lose = refl
same_act f e s (Full2 t) lose = refl
same_act f e s Close1 lose = refl
same_act f e s IsClosed1 lose = refl

pub faithful : Faithful
faithful = (ap (by_table SixtyFour) (λ i f e s p lose. same_act f e s p lose i), refl)

pub stands : Stands
stands = (
  subst UnderEverySchedule (sym faithful.0) (demand2 workers_most),
  subst NothingWraps (sym faithful.0) (nothing_wraps workers_most),
  subst ActByAct (sym faithful.0) (act_by_act SixtyFour),
  subst WholeSchedules (sym faithful.0) (whole_schedules SixtyFour),
  subst LenTrue (sym faithful.0) (len_true workers_most),
  subst ScheduledAlone (sym faithful.0) (demand3 workers_most),
  subst (λ (d : Definition). StockUnderEverySchedule d given_stock) (sym faithful.0) (subst (StockUnderEverySchedule document01) (sym faithful.1) (stock_stands workers_most)),
  subst LossesUnderEverySchedule (sym faithful.0) (losses SixtyFour workers_most),
  subst CountsAside (sym faithful.0) (counts_aside SixtyFour),
  subst CloseHolds (sym faithful.0) (close_holds workers_most),
  subst ClosedIsLast (sym faithful.0) (closed_is_last workers_most),
  subst AnswersPlain (sym faithful.0) (answers_plain workers_most),
  subst OneStep (sym faithful.0) (one_step_lem workers_most),
  subst OneStepUnderEverySchedule (sym faithful.0) (others workers_most),
)
