-- Which answers meet the promise of each function, as its `ensures` says it in its code, and that only one does. (`OnlyOne` of crates/bounded_demands/specs/Demands.antt writes these promises out
-- anew; here they are read out of the functions' own contracts, so that one that says less is refused here.)
use Rattle.std.specs.Prelude.{ℕ, Bool, List, ◌≡◌, Result}
use base.Fml.{Lft, GName}
use Rattle.std.specs.Borrow.{Bor, MutBor}
use Rattle.bounded_places.specs.declared.Loss.{Loss}
use Rattle.bounded_places.specs.declared.Place.{Place}
use Rattle.bounded_places.specs.declared.Moved.{Moved}
use Rattle.bounded_places.specs.declared.Stand.{Stand}
use Rattle.bounded_machine.specs.declared.Machine.{Machine}
use Rattle.bounded_machine.specs.declared.Did.{Did}
use Rattle.bounded_machine.specs.declared.Ran.{Ran}
use Rattle.bounded_machine.specs.declared.Tally.{Tally}
use Rattle.bounded_sixteen_bits.specs.declared.Machine as widths
use Rattle.bounded_sixteen_bits.specs.declared.Did as widths_did
use Rattle.bounded_sixteen_bits.specs.declared.Ran as widths_ran
use Rattle.queue_walks.specs.declared.Walked.{Walked}
use Rattle.bounded_causes.specs.declared.Watches.{Watches}
use Rattle.bounded_causes.specs.declared.Named.{Named}
use Rattle.bounded_moments.specs.declared.Moments.{Moments}
use Rattle.bounded_moments.specs.declared.Named.{Named as NamedMoment}
use Rattle.bounded.proofs.make.Reads as make
use Rattle.bounded.proofs.step.Reads as step
use Rattle.bounded.proofs.begin.Reads as begin
use Rattle.bounded.proofs.act.Reads as act
use Rattle.bounded.proofs.run.Reads as run
use Rattle.bounded.proofs.contents.Reads as contents
use Rattle.bounded.proofs.capacity.Reads as capacity
use Rattle.bounded.proofs.broken.Reads as broken
use Rattle.bounded_narrow.proofs.make.Reads as narrow_make
use Rattle.bounded_narrow.proofs.step.Reads as narrow_step
use Rattle.bounded_narrow.proofs.begin.Reads as narrow_begin
use Rattle.bounded_narrow.proofs.act.Reads as narrow_act
use Rattle.bounded_narrow.proofs.run.Reads as narrow_run
use Rattle.bounded_narrow.proofs.contents.Reads as narrow_contents
use Rattle.bounded_narrow.proofs.capacity.Reads as narrow_capacity
use Rattle.bounded_narrow.proofs.broken.Reads as narrow_broken
use Rattle.bounded_walks.proofs.walk.Reads as walk
use Rattle.bounded_walks.proofs.size.Reads as size
use Rattle.bounded_stock.proofs.moved_by.Reads as stock_moved_by
use Rattle.bounded_stock.proofs.reads_at.Reads as stock_reads_at
use Rattle.bounded_stock.proofs.tally.Reads as stock_tally
use Rattle.bounded_stock.proofs.stock.Reads as stock_stock
use Rattle.bounded_causes.proofs.stand_of.Reads as causes_stand_of
use Rattle.bounded_causes.proofs.goes_back.Reads as causes_goes_back
use Rattle.bounded_causes.proofs.claims_tail.Reads as causes_claims_tail
use Rattle.bounded_causes.proofs.claims_head.Reads as causes_claims_head
use Rattle.bounded_causes.proofs.start.Reads as causes_start
use Rattle.bounded_causes.proofs.name_causes.Reads as causes_name_causes
use Rattle.bounded_moments.proofs.start.Reads as moments_start
use Rattle.bounded_moments.proofs.begun.Reads as moments_begun
use Rattle.bounded_moments.proofs.name_moment.Reads as moments_name_moment
use Rattle.bounded_demands.specs.Notions.{sixty_four, sixteen, Promises, promises_of}
use Rattle.bounded_demands.specs.Demands.{OnlyOneMeets}

-- A slice that is lent for this long, lies here and has this name: no promise speaks of these three.
module _ (κ : Lft) (ptr : ℕ × ℕ) (name : GName) where
  abbrev pub slice : List ℕ → MutBor (List ℕ)
  slice l = record { ref_ptr = ptr; ghost_name = name; now = l }

  -- one that is only read has no name
  abbrev pub read_slice : List ℕ → Bor (List ℕ)
  read_slice l = record { ref_ptr = ptr; now = l }

  abbrev pub own_sixty_four : Promises Machine Did Ran
  own_sixty_four =
      record {
        make = λ capacity workers edition x. make.Post tt (capacity, (workers, (edition, tt))) x (capacity, (workers, (edition, tt)));
        step = λ m first second x. step.Post tt (m, (first, (second, tt))) x (m, (first, (second, tt)));
        begin = λ m first second x. begin.Post tt (m, (first, (second, tt))) x (m, (first, (second, tt)));
        act = λ m first second x. act.Post tt (m, (first, (second, tt))) x (m, (first, (second, tt)));
        run = λ m s x. run.Post (κ, tt) (m, (read_slice s, tt)) x (m, (read_slice s, tt));
        contents = λ m before x after. contents.Post (κ, tt) (m, (slice before, tt)) x (m, (slice after, tt));
        capacity = λ m x. capacity.Post tt (m, tt) x (m, tt);
        broken = λ m x. broken.Post tt (m, tt) x (m, tt);
      }

  abbrev pub own_sixteen : Promises widths.Machine widths_did.Did widths_ran.Ran
  own_sixteen =
      record {
        make = λ capacity workers edition x. narrow_make.Post tt (capacity, (workers, (edition, tt))) x (capacity, (workers, (edition, tt)));
        step = λ m first second x. narrow_step.Post tt (m, (first, (second, tt))) x (m, (first, (second, tt)));
        begin = λ m first second x. narrow_begin.Post tt (m, (first, (second, tt))) x (m, (first, (second, tt)));
        act = λ m first second x. narrow_act.Post tt (m, (first, (second, tt))) x (m, (first, (second, tt)));
        run = λ m s x. narrow_run.Post (κ, tt) (m, (read_slice s, tt)) x (m, (read_slice s, tt));
        contents = λ m before x after. narrow_contents.Post (κ, tt) (m, (slice before, tt)) x (m, (slice after, tt));
        capacity = λ m x. narrow_capacity.Post tt (m, tt) x (m, tt);
        broken = λ m x. narrow_broken.Post tt (m, tt) x (m, tt);
      }

-- They are the promises that are written out there.
pub record AsWritten : Type 1 where
  pub of_sixty_four : (κ : Lft) (ptr : ℕ × ℕ) (name : GName) → own_sixty_four κ ptr name ≡ promises_of sixty_four
  pub of_sixteen : (κ : Lft) (ptr : ℕ × ℕ) (name : GName) → own_sixteen κ ptr name ≡ promises_of sixteen

-- Only one answer meets each; of walks, and of what is counted along a run, too.
pub record OnlyOneOwn : Type 0 where
  pub of_sixty_four : (κ : Lft) (ptr : ℕ × ℕ) (name : GName) → OnlyOneMeets (own_sixty_four κ ptr name)
  pub of_sixteen : (κ : Lft) (ptr : ℕ × ℕ) (name : GName) → OnlyOneMeets (own_sixteen κ ptr name)
  pub of_walk : (κ : Lft) (ptr : ℕ × ℕ) (name : GName) (m : Machine) (depth : ℕ) (before : List ℕ) (x y : Result ℕ ℕ) (a b : List ℕ)
      → walk.Post (κ, tt) (m, (depth, (slice κ ptr name before, tt))) x (m, (depth, (slice κ ptr name a, tt)))
      → walk.Post (κ, tt) (m, (depth, (slice κ ptr name before, tt))) y (m, (depth, (slice κ ptr name b, tt))) → (x ≡ y) × (a ≡ b)
  pub of_size : (m : Machine) (depth : ℕ) (x y : Result Walked ℕ) → size.Post tt (m, (depth, tt)) x (m, (depth, tt)) → size.Post tt (m, (depth, tt)) y (m, (depth, tt)) → x ≡ y
  pub of_moved_by : (p : Place) (x y : Moved) → stock_moved_by.Post tt (p, tt) x (p, tt) → stock_moved_by.Post tt (p, tt) y (p, tt) → x ≡ y
  pub of_reads_at : (p : Place) (x y : Bool) → stock_reads_at.Post tt (p, tt) x (p, tt) → stock_reads_at.Post tt (p, tt) y (p, tt) → x ≡ y
  pub of_tally : (t : Tally) (p q : Place) (x y : Tally) → stock_tally.Post tt (t, (p, (q, tt))) x (t, (p, (q, tt))) → stock_tally.Post tt (t, (p, (q, tt))) y (t, (p, (q, tt))) → x ≡ y
  pub of_stock : (t : Tally) (x y : ℕ) → stock_stock.Post tt (t, tt) x (t, tt) → stock_stock.Post tt (t, tt) y (t, tt) → x ≡ y
  pub of_causes_start : (x y : Watches) → causes_start.Post tt tt x tt → causes_start.Post tt tt y tt → x ≡ y
  pub of_name_causes : (ws : Watches) (w : ℕ) (p q : Place) (l : Loss) (x y : Named)
      → causes_name_causes.Post tt (ws, (w, (p, (q, (l, tt))))) x (ws, (w, (p, (q, (l, tt))))) → causes_name_causes.Post tt (ws, (w, (p, (q, (l, tt))))) y (ws, (w, (p, (q, (l, tt))))) → x ≡ y
  pub of_stand_of : (p : Place) (x y : Stand) → causes_stand_of.Post tt (p, tt) x (p, tt) → causes_stand_of.Post tt (p, tt) y (p, tt) → x ≡ y
  pub of_goes_back : (s t : Stand) (x y : Bool) → causes_goes_back.Post tt (s, (t, tt)) x (s, (t, tt)) → causes_goes_back.Post tt (s, (t, tt)) y (s, (t, tt)) → x ≡ y
  pub of_claims_tail : (m : Moved) (x y : Bool) → causes_claims_tail.Post tt (m, tt) x (m, tt) → causes_claims_tail.Post tt (m, tt) y (m, tt) → x ≡ y
  pub of_claims_head : (m : Moved) (x y : Bool) → causes_claims_head.Post tt (m, tt) x (m, tt) → causes_claims_head.Post tt (m, tt) y (m, tt) → x ≡ y
  pub of_moments_start : (capacity : ℕ) (x y : Moments) → moments_start.Post tt (capacity, tt) x (capacity, tt) → moments_start.Post tt (capacity, tt) y (capacity, tt) → x ≡ y
  pub of_begun : (ms : Moments) (x y : Moments) → moments_begun.Post tt (ms, tt) x (ms, tt) → moments_begun.Post tt (ms, tt) y (ms, tt) → x ≡ y
  pub of_name_moment : (ms : Moments) (w : ℕ) (p q : Place) (x y : NamedMoment)
      → moments_name_moment.Post tt (ms, (w, (p, (q, tt)))) x (ms, (w, (p, (q, tt)))) → moments_name_moment.Post tt (ms, (w, (p, (q, tt)))) y (ms, (w, (p, (q, tt)))) → x ≡ y
