-- What the machine's functions rest on.
use Prim.Native.Nat.{ℕ, ◌+◌, ◌*◌}
use mathlib.Core.Path.{◌≡◌, refl, sym, ap, ◌∙◌}
use mathlib.Core.Bool.{Bool, true, false, not}
use mathlib.Core.List.{List}
use lib.Dec.{eqb}
use borrow.Author.Tests.{eqb-true}
use lib.ListN.{replicate}
use Rattle.queue_entries.specs.Limits.{workers_most, in_limits}
use Rattle.queue_entries.proofs.Pick.{yes, no, on, off, equal, other, both_left, both_right}
use Rattle.queue_entries.proofs.Limits.{limit_some, limit_most}
use Rattle.bounded_words.specs.declared.Stamp.{Stamp}
use Rattle.bounded_words.specs.declared.Fixed.{Fixed}
use Rattle.bounded_words.specs.Limits.{slots_most, editions_most}
use Rattle.bounded_words.specs.Words.{mark_of, lap_of, Indexed, Fair}
use Rattle.bounded_words.proofs.Marks.{Ruled, ruled, fair}
use Rattle.bounded_places.specs.declared.Ends.{Ends}
use Rattle.bounded_places.specs.declared.Loss.{Loss}
use Rattle.bounded_places.specs.declared.Place.{Place}
use Rattle.bounded_places.specs.declared.Worker.{Worker}
use Rattle.bounded_places.specs.declared.Held.{Held}
use Rattle.bounded_places.specs.declared.Held.TheVariants as held
use Rattle.bounded_places.specs.declared.View.{View}
use Rattle.bounded_places.specs.Places.{view_of, fits_of}
use Rattle.bounded_places.specs.declared.Slot.{Slot}
use Rattle.bounded_machine.specs.declared.Machine.{Machine}
use Rattle.bounded_machine.specs.Broken.{by_rule, ends_fit, ring_fits, place_fits, records_fit, broken_with, broken_of}
use Rattle.bounded_machine.specs.Turn.{spot_of, by_words, by_schedule, record_after}
use Rattle.bounded_machine.specs.Machine.{machine_of, starts, fresh_slots, fresh_with, fresh_of, idler, idlers, fixed_on, ends_on}

-- mark and lap by rule
module _ (f : Fixed) (m : ℕ) (e : m ≡ mark_of f.capacity) where
  pub ruled_lap : f.mark ≡ m → eqb f.lap (2 * m) ≡ by_rule f
  unfolding by_rule
  ruled_lap h = rw e (equal f.mark (mark_of f.capacity) _ _ _ (h ∙ e) refl)

  pub unruled : (f.mark ≡ m → ⊥) → false ≡ by_rule f
  unfolding by_rule
  unruled h = other f.mark (mark_of f.capacity) _ _ _ (λ k. h (k ∙ sym e)) refl

-- what is read off a place
module _ (p : Place) (v : View) (e : v ≡ view_of p) where
  module _ (f : Fixed) (counted : Bool) where
    pub idle_fits : v.busy ≡ false → true ≡ place_fits f p counted
    unfolding place_fits
    idle_fits h = rw (← e) (off v.busy _ _ _ h refl)

    pub past_fits : v.busy ≡ true → counted ≡ false → false ≡ place_fits f p counted
    unfolding place_fits
    past_fits h k = rw (← e) (on v.busy _ _ _ h (off counted _ _ _ k refl))

    pub word_fits : (r : Bool) → v.busy ≡ true → counted ≡ true → r ≡ fits_of f v.held → r ≡ place_fits f p counted
    unfolding place_fits
    word_fits r h k q = rw (← e) (on v.busy _ _ _ h (on counted _ _ _ k q))

-- the record after an act, by what was lost
pub after_loss : (r : Worker) (p : Place) (l k : Loss) (d f : ℕ) → l ≡ k → d ≡ r.differed + by_words k → f ≡ r.failed + by_schedule k
    → record { place = p; differed = d; failed = f } ≡ record_after r p l
unfolding record_after
after_loss r p l k d f h x y = rw (x, y, h)

-- the slot of an end's word
pub spot_at : (f : Fixed) (h : Held) (w : Stamp) (i : ℕ) → h ≡ held.End w → Indexed f w i → i ≡ spot_of f h
spot_at f h w i e x = x.is ∙ ap (spot_of f) (sym e)

-- constants, from the tests to the facts
pub rule_facts : (f : Fixed) → by_rule f ≡ true → (f.mark ≡ mark_of f.capacity) × (f.lap ≡ lap_of f.capacity)
unfolding by_rule
rule_facts f h = (
  eqb-true f.mark (mark_of f.capacity) (both_left (eqb f.mark (mark_of f.capacity)) (eqb f.lap (lap_of f.capacity)) h),
  eqb-true f.lap (lap_of f.capacity) (both_right (eqb f.mark (mark_of f.capacity)) (eqb f.lap (lap_of f.capacity)) h),
)

pub ruled_of : (f : Fixed) → in_limits f.capacity slots_most ≡ true → by_rule f ≡ true → Ruled f
ruled_of f l r =
    let k = rule_facts f r in
    ruled f (limit_some f.capacity slots_most true (sym l) refl) (limit_most f.capacity slots_most true (sym l) refl) k.0 k.1

pub fair_of : (f : Fixed) (b d : Bool) → b ≡ in_limits f.capacity slots_most → b ≡ true → d ≡ by_rule f → d ≡ true → Fair f
fair_of f b d e h k l = fair f (ruled_of f (sym e ∙ h) (sym k ∙ l))

-- a ring fits or not, by the first test that fails
module _ (f : Fixed) (e : Ends) (x : Bool) (ex : x ≡ in_limits f.edition editions_most) where
  pub no_edition : x ≡ false → false ≡ ring_fits f e
  unfolding ring_fits
  no_edition h = no _ x _ _ _ ex h refl

  module _ (hx : x ≡ true) (a : Bool) (ea : a ≡ in_limits f.capacity slots_most) where
    pub no_capacity : a ≡ false → false ≡ ring_fits f e
    unfolding ring_fits
    no_capacity h = yes _ x _ _ _ ex hx (no _ a _ _ _ ea h refl)

    module _ (ha : a ≡ true) (d : Bool) (ed : d ≡ by_rule f) where
      pub no_rule : d ≡ false → false ≡ ring_fits f e
      unfolding ring_fits
      no_rule h = yes _ x _ _ _ ex hx (yes _ a _ _ _ ea ha (no _ d _ _ _ ed h refl))

      pub by_ends : (r : Bool) → d ≡ true → r ≡ ends_fit f e → r ≡ ring_fits f e
      unfolding ring_fits
      by_ends r h q = yes _ x _ _ _ ex hx (yes _ a _ _ _ ea ha (yes _ d _ _ _ ed h q))

-- what a ring that fits has passed
pub record Fitting (f : Fixed) (e : Ends) : Type 0 where
  pub edition : in_limits f.edition editions_most ≡ true
  pub capacity : in_limits f.capacity slots_most ≡ true
  pub rule : by_rule f ≡ true
  pub ends : ends_fit f e ≡ true

pub fitting : (f : Fixed) (e : Ends) → ring_fits f e ≡ true → Fitting f e
unfolding ring_fits
fitting f e h =
    let past-edition = both_right (in_limits f.edition editions_most) _ h in
    let past-capacity = both_right (in_limits f.capacity slots_most) _ past-edition in
    record {
      edition = both_left (in_limits f.edition editions_most) _ h;
      capacity = both_left (in_limits f.capacity slots_most) _ past-edition;
      rule = both_left (by_rule f) _ past-capacity;
      ends = both_right (by_rule f) _ past-capacity;
    }

pub ring_fair : (f : Fixed) (e : Ends) → ring_fits f e ≡ true → Fair f
ring_fair f e h = let o = fitting f e h in fair f (ruled_of f o.capacity o.rule)

pub fair_by : (f : Fixed) (e : Ends) (b : Bool) → b ≡ ring_fits f e → b ≡ true → Fair f
fair_by f e b k h = ring_fair f e (sym k ∙ h)

-- broken, by the first test that fails, or unbroken
module _ (m : Machine) (x : Bool) (ex : x ≡ ring_fits (fixed_on m.ring) (ends_on m.ring)) where
  pub broken_ring : x ≡ false → true ≡ broken_of m
  unfolding broken_with
  broken_ring h = no _ x _ _ _ ex h refl

  module _ (hx : x ≡ true) (b : Bool) (eb : b ≡ in_limits m.count workers_most) where
    pub broken_count : b ≡ false → true ≡ broken_of m
    unfolding broken_with
    broken_count h = yes _ x _ _ _ ex hx (no _ b _ _ _ eb h refl)

    broken_records : (k : Bool) → b ≡ true → k ≡ records_fit workers_most (fixed_on m.ring) m.count m.meter m.workers → not k ≡ broken_of m
    unfolding broken_with
    broken_records k h e = yes _ x _ _ _ ex hx (yes _ b _ _ _ eb h (ap not e))

    pub broken_record : (k : Bool) → b ≡ true → k ≡ records_fit workers_most (fixed_on m.ring) m.count m.meter m.workers → k ≡ false → true ≡ broken_of m
    broken_record k h e l = sym (ap not l) ∙ broken_records k h e

    pub unbroken : (k : Bool) → b ≡ true → k ≡ records_fit workers_most (fixed_on m.ring) m.count m.meter m.workers → k ≡ true → false ≡ broken_of m
    unbroken k h e l = sym (ap not l) ∙ broken_records k h e

-- a fresh machine, from its mark and its slots
pub fresh_is : (capacity workers edition m : ℕ) (s : List Slot) → m ≡ mark_of capacity → s ≡ fresh_slots capacity
    → machine_of (record { mark = m; lap = 2 * m; capacity = capacity; edition = edition }) starts s
    (replicate workers_most idler) workers 0 ≡ fresh_of capacity workers edition
unfolding fresh_with idlers
fresh_is capacity workers edition m s e h = rw (e, h)
