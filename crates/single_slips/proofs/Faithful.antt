-- With no slip planted the table is the source's, row by row, and the demands stand.
use mathlib.Core.Path.{◌≡◌, refl, sym, ap, subst}
use Rattle.single_places.specs.declared.Single.{Single}
use Rattle.single_places.specs.declared.Place.{Place}
use Rattle.single_places.specs.declared.Place.TheVariants.{Idle, A1, A2, A3, B1, B2, B3, B4, B5, C1, C2, C3, Len1, Empty1, Full1, Close1, IsClosed1}
use Rattle.single_acts.specs.Acts.{act_of}
use Rattle.single_demands.specs.Notions.{by_table}
use Rattle.single_demands.specs.Demands.{AnswersPlain, UnderEverySchedule, ActByAct, WholeSchedules, ScheduledAlone}
use Rattle.single_proof_demand2.proofs.Demand2.{demand2, act_by_act, whole_schedules}
use Rattle.single_proof_demand3.proofs.Demand3.{demand3}
use Rattle.single_proof_plain.proofs.Plain.{answers_plain}
use Rattle.single_slips.specs.Slips.{planted, act_with, Faithful, FaithfulFace, Stands}

-- every row
same_act : (s : Single) (p : Place) → act_with planted s p ≡ act_of s p
same_act s (Idle a) = refl
same_act s (A1 x) = refl
same_act s (A2 x) = refl
same_act s A3 = refl
same_act s (B1 e x) = refl
same_act s (B2 x) = refl
same_act s B3 = refl
same_act s (B4 x) = refl
same_act s (B5 old) = refl
same_act s (C1 e) = refl
same_act s C2 = refl
same_act s (C3 v) = refl
same_act s Len1 = refl
same_act s Empty1 = refl
same_act s Full1 = refl
same_act s Close1 = refl
same_act s IsClosed1 = refl

pub faithful : Faithful
faithful = ap by_table (λ i s p. same_act s p i)

pub faithful_face : FaithfulFace
faithful_face = refl

pub stands : Stands
stands = (
  subst AnswersPlain (sym faithful) answers_plain,
  subst UnderEverySchedule (sym faithful) demand2,
  subst ActByAct (sym faithful) act_by_act,
  subst WholeSchedules (sym faithful) whole_schedules,
  subst ScheduledAlone (sym faithful) demand3,
)
