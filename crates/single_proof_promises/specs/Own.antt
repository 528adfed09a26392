-- That only one answer meets the promise of each function, as its `ensures` says it in its code. (`OnlyOne` of
-- crates/single_demands/specs/Demands.antt writes these promises out anew; here they are read out of the functions' own contracts, so that one that says less is refused here.)
use Rattle.std.specs.Prelude.{ℕ, Bool, List, ◌≡◌, Result}
use base.Fml.{Lft, GName}
use Rattle.std.specs.Borrow.{Bor, MutBor}
use Rattle.single_machine.specs.declared.Machine.{Machine}
use Rattle.single_machine.specs.declared.Did.{Did}
use Rattle.single_machine.specs.declared.Ran.{Ran}
use Rattle.single.proofs.make.Reads as make
use Rattle.single.proofs.step.Reads as step
use Rattle.single.proofs.begin.Reads as begin
use Rattle.single.proofs.act.Reads as act
use Rattle.single.proofs.run.Reads as run
use Rattle.single.proofs.contents.Reads as contents
use Rattle.single.proofs.capacity.Reads as capacity
use Rattle.single.proofs.broken.Reads as broken

-- A slice that is lent for this long, lies here and has this name: no promise speaks of these three.
abbrev pub slice : ℕ × ℕ → GName → List ℕ → MutBor (List ℕ)
slice ptr name l = record { ref_ptr = ptr; ghost_name = name; now = l }

pub record OnlyOneOwn : Type 0 where
  pub of_make : (workers : ℕ) (x y : Did) → make.Post tt (workers, tt) x (workers, tt) → make.Post tt (workers, tt) y (workers, tt) → x ≡ y
  pub of_step : (m : Machine) (first second : ℕ) (x y : Did)
      → step.Post tt (m, (first, (second, tt))) x (m, (first, (second, tt))) → step.Post tt (m, (first, (second, tt))) y (m, (first, (second, tt))) → x ≡ y
  pub of_begin : (m : Machine) (first second : ℕ) (x y : Did)
      → begin.Post tt (m, (first, (second, tt))) x (m, (first, (second, tt))) → begin.Post tt (m, (first, (second, tt))) y (m, (first, (second, tt))) → x ≡ y
  pub of_act : (m : Machine) (first second : ℕ) (x y : Did)
      → act.Post tt (m, (first, (second, tt))) x (m, (first, (second, tt))) → act.Post tt (m, (first, (second, tt))) y (m, (first, (second, tt))) → x ≡ y
  pub of_run : (κ : Lft) (r : Bor (List ℕ)) (m : Machine) (x y : Ran) → run.Post (κ, tt) (m, (r, tt)) x (m, (r, tt)) → run.Post (κ, tt) (m, (r, tt)) y (m, (r, tt)) → x ≡ y
  pub of_contents : (κ : Lft) (ptr : ℕ × ℕ) (name : GName) (m : Machine) (before : List ℕ) (x y : Result ℕ ℕ) (a b : List ℕ)
      → contents.Post (κ, tt) (m, (slice ptr name before, tt)) x (m, (slice ptr name a, tt)) → contents.Post (κ, tt) (m, (slice ptr name before, tt)) y (m, (slice ptr name b, tt)) → (x ≡ y) × (a ≡ b)
  pub of_capacity : (m : Machine) (x y : Result ℕ ℕ) → capacity.Post tt (m, tt) x (m, tt) → capacity.Post tt (m, tt) y (m, tt) → x ≡ y
  pub of_broken : (m : Machine) (x y : Bool) → broken.Post tt (m, tt) x (m, tt) → broken.Post tt (m, tt) y (m, tt) → x ≡ y
