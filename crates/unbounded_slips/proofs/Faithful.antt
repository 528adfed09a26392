-- With no slip planted the table is request 12's, row by row, and the statements stand.
use Prim.Native.Nat.{ℕ}
use mathlib.Core.Bool.{Bool}
use mathlib.Core.Path.{◌≡◌, refl, sym, ap, subst}
use Rattle.unbounded_words.specs.Words.{Sizes, sizes}
use Rattle.unbounded_places.specs.declared.Slot.{Slot}
use Rattle.unbounded_places.specs.declared.Block.{Block}
use Rattle.unbounded_places.specs.declared.Ends.{Ends}
use Rattle.unbounded_places.specs.declared.Place.{Place}
use Rattle.unbounded_places.specs.declared.Place.TheVariants.{Idle, U1, U2, U3, U4, U5, U6, U7, U8, U9, U10, U11, U12, U13, U14, U15, V1, V2, V3, V4, V5, V6}
use Rattle.unbounded_places.specs.declared.Place.TheVariants.{V7, V8, V9, V10, V11, V12, V13, V14, V15, Len1, Len2, Len3, Empty1, Empty2, Full1, Close1}
use Rattle.unbounded_places.specs.declared.Place.TheVariants.{IsClosed1}
use Rattle.unbounded_acts.specs.Acts.{act_of}
use Rattle.unbounded_demands.specs.Notions.{definition}
use Rattle.unbounded_demands.specs.Demands.{AnswersPlain, ClosesAndClaims, UnderEverySchedule, ActByAct, WholeSchedules, NoBlock}
use Rattle.unbounded_demands.proofs.Blocks.{blocks_run_out}
use Rattle.unbounded_proof_demand2.proofs.Demand2.{demand2, act_by_act, whole_schedules}
use Rattle.unbounded_proof_plain.proofs.Plain.{answers_plain}
use Rattle.unbounded_proof_plain.proofs.Closing.{closes_and_claims}
use Rattle.unbounded_slips.specs.Slips.{planted, act_with, Faithful, Stands}

-- every row
same_act : (z : Sizes) (e : Ends) (k : ℕ) (g : Block) (s : Slot) (p : Place) (lose : Bool) → act_with planted z e k g s p lose ≡ act_of z e k g s p lose
same_act z e k g s (Idle a) lose = refl
same_act z e k g s (U1 n x) lose = refl
same_act z e k g s (U2 n t x) lose = refl
same_act z e k g s (U3 t b x) lose = refl
same_act z e k g s (U4 n t x) lose = refl
same_act z e k g s (U5 n t new x) lose = refl
same_act z e k g s (U6 n t new x) lose = refl
same_act z e k g s (U7 n t b x) lose = refl
same_act z e k g s (U8 n t x) lose = refl
same_act z e k g s (U9 n t b x) lose = refl
same_act z e k g s (U10 n t b x) lose = refl
same_act z e k g s (U11 n t b x) lose = refl
same_act z e k g s (U12 n t b x) lose = refl
same_act z e k g s (U13 n t b) lose = refl
same_act z e k g s (U14 n a) lose = refl
same_act z e k g s (U15 n new x) lose = refl
same_act z e k g s V1 lose = refl
same_act z e k g s (V2 h) lose = refl
same_act z e k g s (V3 h b) lose = refl
same_act z e k g s (V4 h b new) lose = refl
same_act z e k g s (V5 h) lose = refl
same_act z e k g s (V6 h b new) lose = refl
same_act z e k g s (V7 h b new next) lose = refl
same_act z e k g s (V8 h b next i) lose = refl
same_act z e k g s (V9 h b i) lose = refl
same_act z e k g s (V10 h b) lose = refl
same_act z e k g s (V11 h b) lose = refl
same_act z e k g s (V12 h b v) lose = refl
same_act z e k g s (V13 b i v) lose = refl
same_act z e k g s (V14 b i v) lose = refl
same_act z e k g s (V15 b v) lose = refl
same_act z e k g s Len1 lose = refl
same_act z e k g s (Len2 t) lose = refl
same_act z e k g s (Len3 t h) lose = refl
same_act z e k g s Empty1 lose = refl
same_act z e k g s (Empty2 h) lose = refl
same_act z e k g s Full1 lose = refl
same_act z e k g s Close1 lose = refl
same_act z e k g s IsClosed1 lose = refl

pub faithful : Faithful
faithful = ap (definition sizes) (λ i z e k g s p lose. same_act z e k g s p lose i)

pub stands : Stands
stands = (
  subst AnswersPlain (sym faithful) answers_plain,
  subst ClosesAndClaims (sym faithful) closes_and_claims,
  subst UnderEverySchedule (sym faithful) demand2,
  subst ActByAct (sym faithful) act_by_act,
  subst WholeSchedules (sym faithful) whole_schedules,
  subst NoBlock (sym faithful) blocks_run_out,
)
