-- In a step only the acting record may change; a refused step changes nothing, and a refused making no record.
use Prim.Native.Nat.{ℕ, ◌/◌}
use mathlib.Core.Path.{◌≡◌, refl, sym, ap, ◌∙◌}
use mathlib.Core.Logic.{◌≢◌}
use mathlib.Core.List.{List}
use lib.Dec.{ltb, eqb}
use lib.ListN.{length}
use lib.Seq.{get_or-set_other}
use borrow.Author.Tests.{ne_eqb}
use Rattle.queue_entries.specs.declared.Entry.{Entry}
use Rattle.queue_entries.specs.declared.Entry.TheVariants.{Unreadable, Asks}
use Rattle.queue_entries.specs.declared.Verdict.{Verdict}
use Rattle.queue_entries.specs.declared.Verdict.TheVariants.{Refuse, Start, Move}
use Rattle.queue_entries.specs.Entries.{entry_of}
use Rattle.bounded_words.specs.declared.Width.TheVariants.{SixtyFour}
use Rattle.bounded_places.specs.declared.Worker.{Worker}
use Rattle.bounded_machine.specs.declared.Machine.{Machine}
use Rattle.bounded_machine.specs.declared.Did.{Did}
use Rattle.bounded_machine.specs.Machine.{record_of_worker, place_of, idler, fresh_with, blank, refused, accepted}
use Rattle.bounded_machine.specs.Turn.{verdict_of, begun, stored, acted_by, carried, turn, turn_of, turn_of_by}
use Rattle.bounded_machine.proofs.Kept.{either}
use Rattle.bounded_orders.specs.declared.Metered.{Metered}
use Rattle.bounded_orders.specs.Orders.{make_refusal, metered_of}
use Rattle.bounded_lent.specs.Lent.{held, broken_lent, Lent, lent, lent_of, turn_lent, step_lent, make_lent}
use Rattle.bounded_step_record.proofs.Back.{Who, who}
use Rattle.bounded_lent.proofs.Running.{turned_whole, unchanged}
use Rattle.bounded_demands.specs.Lending.{item11, promised}
use Rattle.bounded_demands.specs.Demands.{OnlyTheActing, OnlyOneLent}

-- ---- the others
module _ (m : Machine) (v : ℕ) where
  abbrev Kept : Did → Type 0
  Kept d = record_of_worker d.machine.workers v ≡ record_of_worker m.workers v

  carried_kept : (w : ℕ) → v ≢ w → (d : Verdict) → Kept (carried SixtyFour m w (place_of m.workers w) d)
  unfolding refused accepted begun acted_by stored
  carried_kept w ne (Refuse k) = refl
  carried_kept w ne (Start c) = get_or-set_other m.workers w v _ idler ne
  carried_kept w ne (Move lose) = get_or-set_other m.workers w v _ idler ne

  turn_kept : (n : ℕ) → v ≢ n → (x : Entry) → Who n x → Kept (turn SixtyFour m x)
  unfolding refused
  turn_kept n ne Unreadable h = refl
  turn_kept n ne (Asks w o) h =
      either Kept (ltb w m.count) (carried SixtyFour m w (place_of m.workers w) (verdict_of m.meter (place_of m.workers w) o)) (refused 3 m)
      (λ b. carried_kept w (λ e. ne (e ∙ h)) (verdict_of m.meter (place_of m.workers w) o)) (λ b. refl)

  turned_kept : (first second : ℕ) → v ≢ first / 16 → Kept (turn_of m first second)
  unfolding turn_of_by
  turned_kept first second ne = turn_kept (first / 16) ne (entry_of first second) (who first second)

-- ---- a step
module _ (l : Metered) (ys : List Worker) (first second : ℕ) where
  -- what holds of a refusal 6 and of an entry holds of a step
  stepped : (P : Lent → Type 0) → P (lent 6 l ys) → P (turn_lent l ys first second) → P (step_lent l ys first second)
  unfolding step_lent
  stepped P six turned = either P (broken_lent l ys) (lent 6 l ys) (turn_lent l ys first second) (λ b. six) (λ b. turned)

  others : (w : ℕ) → (w ≡ first / 16 → ⊥) → record_of_worker (step_lent l ys first second).records w ≡ record_of_worker ys w
  others w ne = stepped (λ x. record_of_worker x.records w ≡ record_of_worker ys w) refl (turned_kept (held l ys) w first second ne)

  many : length (step_lent l ys first second).records ≡ length ys
  many = stepped (λ x. length x.records ≡ length ys) refl (turned_whole (length ys) (held l ys) (refl, refl) first second).0

  unmoved : ((step_lent l ys first second).answer ≡ 0 → ⊥) → ((step_lent l ys first second).ring ≡ l) × ((step_lent l ys first second).records ≡ ys)
  unmoved =
      stepped (λ x. (x.answer ≡ 0 → ⊥) → (x.ring ≡ l) × (x.records ≡ ys)) (λ h. (refl, refl))
      (λ h. let same = unchanged (held l ys) first second (ne_eqb _ 0 h) in (ap metered_of same, ap (λ (m : Machine). m.workers) same))

unmade : (ys : List Worker) (capacity edition : ℕ) → ((make_lent ys capacity edition).answer ≡ 0 → ⊥) → (make_lent ys capacity edition).records ≡ ys
unfolding make_lent accepted
unmade ys capacity edition =
    either (λ (x : Lent). (x.answer ≡ 0 → ⊥) → x.records ≡ ys) (eqb (make_refusal (length ys) capacity edition) 0) (lent_of (accepted (fresh_with (length ys) capacity (length ys) edition)))
    (lent (make_refusal (length ys) capacity edition) (metered_of blank) ys) (λ b h. absurd (h refl)) (λ b h. refl)

pub only_the_acting : OnlyTheActing item11
only_the_acting = record { others = others; many = many; refused = unmoved; unmade = unmade }

-- ---- one answer
one : {A : Type 0} (d x y : A) → x ≡ d → y ≡ d → x ≡ y
one d x y p q = p ∙ sym q

pub only_one_lent : OnlyOneLent (promised item11)
only_one_lent = record {
  make = (λ ys c e. one _);
  step = (λ l ys a b. one _);
  run = (λ l ys s. one _);
  capacity = (λ l ys. one _);
  contents = (λ l ys before. one _);
  broken = (λ l ys. one _);
}
