-- What the face answers, from what it asks of the parts.
use Prim.Native.Nat.{ℕ}
use mathlib.Core.Path.{◌≡◌, sym, ap, ◌∙◌}
use mathlib.Core.Bool.{Bool, true, false}
use mathlib.Core.List.{List}
use lib.ListN.{length}
use Rattle.queue_entries.specs.Limits.{workers_most}
use Rattle.std.specs.Prelude.{Result}
use Rattle.queue_entries.specs.Told.{told}
use Rattle.bounded_machine.specs.declared.Machine.{Machine}
use Rattle.bounded_machine.specs.declared.Did.{Did}
use Rattle.bounded_machine.specs.Machine.{fresh_of, blank, refused, accepted, fixed_on, ends_on}
use Rattle.bounded_machine.specs.Broken.{ring_fits, broken_of, all_idle}
use Rattle.bounded_machine.specs.Contents.{capacity_refusal, count_in, contents_refusal, written, capacity_of}
use Rattle.bounded_machine.proofs.Kept.{unbroken_of, ring_in}
use Rattle.bounded_orders.specs.Orders.{make_refusal_with, capacity_told, Filled, filled, contents_by}
use Rattle.bounded_orders.proofs.Making.{made_unrefused, refused_by}
use Rattle.bounded.specs.Bounded.{make_of}

-- ---- making
module _ (capacity workers edition number : ℕ) (e : number ≡ make_refusal_with workers_most capacity workers edition) (m : Machine) (r : Did) where
  pub made : number ≡ 0 → m ≡ fresh_of capacity workers edition → r ≡ accepted m → r ≡ make_of capacity workers edition
  unfolding make_of
  made z q h =
      h ∙ ap accepted q ∙ made_unrefused (λ (n : ℕ). refused n blank) (accepted (fresh_of capacity workers edition)) workers_most capacity workers edition number e z

  pub turned : (number ≡ 0 → ⊥) → m ≡ blank → r ≡ refused number m → r ≡ make_of capacity workers edition
  unfolding make_of
  turned z q h =
      h ∙ ap (refused number) q ∙ refused_by (λ (n : ℕ). refused n blank) (accepted (fresh_of capacity workers edition)) workers_most capacity workers edition number e z

-- ---- capacity
pub capacity_is : (m : Machine) (b : Bool) (r : Result ℕ ℕ) → b ≡ broken_of m → r ≡ capacity_told b m.ring.capacity → r ≡ capacity_of m
unfolding capacity_refusal capacity_of capacity_told
capacity_is m b r e h = h ∙ ap (λ (x : Bool). capacity_told x m.ring.capacity) e

-- ---- contents
pub ring_sound : (m : Machine) (b : Bool) → b ≡ broken_of m → b ≡ false → ring_fits (fixed_on m.ring) (ends_on m.ring) ≡ true
ring_sound m b e h = ring_in m (unbroken_of m (sym e ∙ h))

module _ (m : Machine) (before after : List ℕ) (r : Result ℕ ℕ) (b idle : Bool) (eb : b ≡ broken_of m) (ei : idle ≡ all_idle m.workers)
    (h : filled r after ≡ contents_by b idle m.ring before) where
  whole : filled r after ≡ filled (told (contents_refusal m (length before)) (count_in m)) (written m before)
  unfolding contents_by contents_refusal written
  whole = h ∙ (λ i. contents_by (eb i) (ei i) m.ring before)

  pub answers : (r ≡ told (contents_refusal m (length before)) (count_in m)) × (after ≡ written m before)
  answers = (ap (λ (x : Filled). x.answer) whole, ap (λ (x : Filled). x.buffer) whole)
