-- What a walk that is not refused rests on, and what its numbers and its bytes are.
use Prim.Native.Nat.{ℕ, ◌+◌, ◌-◌, ◌^◌, ◌<◌, ◌≤◌}
use mathlib.Core.Path.{◌≡◌, refl, sym, ap, ◌∙◌, subst}
use mathlib.Core.Bool.{Bool, true, false, cond, true≢false}
use mathlib.Core.List.{List, [], ◌∷◌, ◌++◌}
use native.Mathlib.Omega.{arith}
use lib.Dec.{ltb, eqb}
use native.Mathlib.Numerals.{add-one}
use lib.ListN.{length, take, drop, set, get_or, replicate, length-map, get_or-map}
use lib.Seq.{sets, sets-eq, take-suc, take-suc-set, take_all}
use borrow.Author.Tests.{ltb-true, ltb-false, eqb-true, eq-eqb, ne_eqb, lt-ltb, le-ltb}
use Rattle.queue_entries.specs.Limits.{workers_most, meter_most, all}
use Rattle.queue_entries.proofs.Pick.{yes, no, below, above}
use Rattle.queue_entries.specs.Told.{told}
use Rattle.std.specs.Prelude.{Ok, Err, Result}
use Rattle.queue_entries.specs.declared.Entry.{Entry}
use Rattle.queue_entries.specs.declared.Entry.TheVariants.{Unreadable, Asks}
use Rattle.queue_entries.specs.declared.Verdict.{Verdict}
use Rattle.queue_entries.specs.declared.Verdict.TheVariants.{Refuse, Start, Move}
use Rattle.queue_entries.specs.Entries.{entry_of}
use Rattle.queue_walks.specs.declared.Walked.{Walked}
use Rattle.queue_walks.specs.Walks.{walkers_most, depth_most, after}
use Rattle.queue_walks.specs.Listed.{bytes_of, walked, counted, Room}
use Rattle.queue_walks.proofs.Sizes.{most, most_bytes, sizes}
use Rattle.bounded_words.specs.declared.Width.TheVariants.{SixtyFour}
use Rattle.bounded_words.specs.Limits.{slots_most}
use Rattle.bounded_places.specs.declared.Slot.{Slot}
use Rattle.bounded_places.specs.declared.Place.{Place}
use Rattle.bounded_places.specs.declared.Worker.{Worker}
use Rattle.bounded_machine.specs.declared.Machine.{Machine}
use Rattle.bounded_machine.specs.declared.Did.{Did}
use Rattle.bounded_machine.specs.Machine.{slot, machine_of, record_of_worker, place_of, refused, accepted, fixed_on, ends_on}
use Rattle.bounded_machine.specs.Broken.{broken_of, all_idle}
use Rattle.bounded_machine.specs.Turn.{verdict_of, begun, stored, acted_by, carried, turn, turn_of, turn_of_by}
use Rattle.bounded_machine.proofs.Kept.{either, every, Unbroken, unbroken_of, of_unbroken}
use Rattle.bounded_sequences.specs.declared.State.{State}
use Rattle.bounded_sequences.specs.Sequences.{walk_of, slots_of, machine_in, walk_from, Sound}
use Rattle.bounded_walks.proofs.Cutting.{walk_cut, cut_fits}
use Rattle.bounded_walks.specs.Walks.{all_busy, size_refusal, walk_refusal, walk_told, listed, size_of, number_of, row_of}

-- ---- no entry changes the number of workers
abbrev Counts : Machine → Did → Type 0
Counts m d = d.machine.count ≡ m.count

refused_counts : (m : Machine) (k : ℕ) → Counts m (refused k m)
unfolding refused
refused_counts m k = refl

carried_counts : (m : Machine) (w : ℕ) (p : Place) (v : Verdict) → Counts m (carried SixtyFour m w p v)
unfolding refused accepted begun stored acted_by
carried_counts m w p (Refuse k) = refl
carried_counts m w p (Start c) = refl
carried_counts m w p (Move lose) = refl

pub turn_counts : (m : Machine) (first second : ℕ) → Counts m (turn_of m first second)
unfolding turn_of_by
turn_counts m first second = by (entry_of first second)
  where
    by : (x : Entry) → Counts m (turn SixtyFour m x)
    by Unreadable = refused_counts m 9
    by (Asks w o) =
        either (Counts m) (ltb w m.count) (carried SixtyFour m w (place_of m.workers w) (verdict_of m.meter (place_of m.workers w) o)) (refused 3 m)
        (λ b. carried_counts m w (place_of m.workers w) (verdict_of m.meter (place_of m.workers w) o)) (λ b. refused_counts m 3)

-- ---- not refused
passed : (b : Bool) (k rest : ℕ) → (k ≡ 0 → ⊥) → cond b k rest ≡ 0 → (b ≡ false) × (rest ≡ 0)
passed true k rest h e = absurd (h e)
passed false k rest h e = (refl, e)

met : (b : Bool) (k rest : ℕ) → (k ≡ 0 → ⊥) → cond b rest k ≡ 0 → rest ≡ 0
met true k rest h e = e
met false k rest h e = absurd (h e)

module _ (m : Machine) (depth : ℕ) (ok : size_refusal m depth ≡ 0) where
  parts : (broken_of m ≡ false) × ((m.count ≤ walkers_most) × ((depth ≤ depth_most) × (depth ≤ meter_most - m.meter)))
  unfolding size_refusal
  parts =
      let a = passed (broken_of m) 6 _ (λ z. omega arith) ok in
      let b = passed (ltb walkers_most m.count) 19 _ (λ z. omega arith) a.1 in
      let c = passed (ltb depth_most depth) 19 _ (λ z. omega arith) b.1 in
      let d = met (all_busy m) 20 _ (λ z. omega arith) c.1 in
      let e = passed (ltb (meter_most - m.meter) depth) 21 0 (λ z. omega arith) d in
      (a.0, (ltb-false walkers_most m.count b.0, (ltb-false depth_most depth c.0, ltb-false (meter_most - m.meter) depth e.0)))

  -- at most 6 ^ 12 sequences of at most 13 bytes
  bound : (ltb (most depth) (2 ^ 64) ≡ true) × (ltb (most_bytes depth) (2 ^ 64) ≡ true)
  unfolding most most_bytes all
  bound = (
    every 13 0 (λ (d : ℕ). ltb (most d) (2 ^ 64)) refl depth (omega arith) (omega (arith, parts.1.1.0)),
    every 13 0 (λ (d : ℕ). ltb (most_bytes d) (2 ^ 64)) refl depth (omega arith) (omega (arith, parts.1.1.0)),
  )

  fits : (length (walk_of depth m) < 2 ^ 64) × (length (bytes_of (walk_of depth m)) < 2 ^ 64)
  fits =
      let small = sizes (λ (d : Did). d.refusal) (λ (d : Did). d.machine) turn_of (λ (x : Machine). x.count) (λ (x : Machine). all_idle x.workers)
      (λ (x : Machine). x.count ≤ walkers_most) (λ x h. h) (λ x first h. subst (λ (k : ℕ). k ≤ walkers_most) (sym (turn_counts x first 0)) h) depth m parts.1.0 in
      (omega (arith, small.sequences, ltb-true (most depth) (2 ^ 64) bound.0), omega (arith, small.bytes, ltb-true (most_bytes depth) (2 ^ 64) bound.1))

  -- ---- the walker's state is the machine, but for records that take no part
  abbrev state : List Worker → State
  state three = record { fixed = fixed_on m.ring; ends = ends_on m.ring; workers = three; count = m.count; meter = m.meter }

  cut_whole : (stamps values : List ℕ) → Unbroken (machine_in (state (take walkers_most m.workers)) stamps values)
  cut_whole stamps values =
      let u = unbroken_of m parts.0 in
      record { capacity = u.capacity; count = u.count; edition = u.edition; rule = u.rule; ends = u.ends; fits = cut_fits m u }

  cut_sound : Sound (state (take walkers_most m.workers)) 0 depth
  cut_sound = record {
    few = parts.1.0;
    whole = λ stamps values. of_unbroken (machine_in (state (take walkers_most m.workers)) stamps values) (cut_whole stamps values);
    depth = omega (arith, parts.1.1.0);
    meter = parts.1.1.1;
  }

  slots_of_lem : (l : List Slot) → slots_of (row_of false l) (row_of true l) ≡ l
  unfolding slots_of
  slots_of_lem [] = refl
  slots_of_lem (s ∷ l) = ap (λ (x : List Slot). s ∷ x) (slots_of_lem l)

  after_none : (x : List (List ℕ)) → after [] x ≡ x
  unfolding after
  after_none [] = refl
  after_none (s ∷ x) = ap (λ (y : List (List ℕ)). s ∷ y) (after_none x)

  module _ (three : List Worker) (first : three ≡ take walkers_most m.workers) (long : length m.workers ≡ workers_most) where
    pub sound : Sound (state three) 0 depth
    sound = subst (λ (x : List Worker). Sound (state x) 0 depth) (sym first) cut_sound

    module _ (path stamps values : List ℕ) (p : stamps ≡ row_of false m.ring.slots) (q : values ≡ row_of true m.ring.slots) where
      pub same_walk : walk_from (state three) stamps values path 0 depth ≡ walk_of depth m
      same_walk =
          after_none (walk_of depth (machine_in (state three) stamps values))
          ∙ ap (λ (x : List Worker). walk_of depth (machine_in (state x) stamps values)) first
          ∙ ap (λ (x : List ℕ). walk_of depth (machine_in (state (take walkers_most m.workers)) x values)) p
          ∙ ap (λ (x : List ℕ). walk_of depth (machine_in (state (take walkers_most m.workers)) (row_of false m.ring.slots) x)) q
          ∙ ap (λ (x : List Slot). walk_of depth (machine_of (fixed_on m.ring) (ends_on m.ring) x (take walkers_most m.workers) m.count m.meter)) (slots_of_lem m.ring.slots)
          ∙ sym (walk_cut depth m (record { whole = unbroken_of m parts.0; few = parts.1.0; long = omega (arith, long); meter = parts.1.1.1 }))

      pub room : Room (walked 0 0) (walk_from (state three) stamps values path 0 depth)
      room = subst (Room (walked 0 0)) (sym same_walk) (record { sequences = omega (arith, fits.0); bytes = omega (arith, fits.1) })

-- ---- the records that a walk can use
pub first_three : (ws : List Worker) → length ws ≡ workers_most → set (set (replicate walkers_most (record_of_worker ws 0)) 1 (record_of_worker ws 1)) 2 (record_of_worker ws 2) ≡ take walkers_most ws
first_three [] h = absurd (omega (arith, h))
first_three (a ∷ []) h = absurd (omega (arith, h))
first_three (a ∷ b ∷ []) h = absurd (omega (arith, h))
first_three (a ∷ b ∷ c ∷ rest) h = refl

-- ---- refused
module _ (m : Machine) (depth : ℕ) (b : Bool) (eb : b ≡ broken_of m) where
  pub refused_6 : b ≡ true → 6 ≡ size_refusal m depth
  unfolding size_refusal
  refused_6 h = yes (broken_of m) b 6 6 _ eb h refl

  module _ (whole : b ≡ false) where
    pub refused_19 : walkers_most < m.count → 19 ≡ size_refusal m depth
    unfolding size_refusal
    refused_19 h = no (broken_of m) b 19 6 _ eb whole (below walkers_most m.count 19 19 _ h refl)

    module _ (few : m.count ≤ walkers_most) where
      pub refused_deep : depth_most < depth → 19 ≡ size_refusal m depth
      unfolding size_refusal
      refused_deep h = no (broken_of m) b 19 6 _ eb whole (above walkers_most m.count 19 19 _ few (below depth_most depth 19 19 _ h refl))

      module _ (flat : depth ≤ depth_most) (a : Bool) (ea : a ≡ all_busy m) where
        pub refused_20 : a ≡ false → 20 ≡ size_refusal m depth
        unfolding size_refusal
        refused_20 h = no (broken_of m) b 20 6 _ eb whole (above walkers_most m.count 20 19 _ few (above depth_most depth 20 19 _ flat (no (all_busy m) a 20 _ 20 ea h refl)))

        module _ (busy : a ≡ true) (k : ℕ) (ek : k ≡ meter_most - m.meter) where
          late : (r : ℕ) → r ≡ cond (ltb (meter_most - m.meter) depth) 21 0 → r ≡ size_refusal m depth
          unfolding size_refusal
          late r h = no (broken_of m) b r 6 _ eb whole (above walkers_most m.count r 19 _ few (above depth_most depth r 19 _ flat (yes (all_busy m) a r _ 20 ea busy h)))

          pub refused_21 : k < depth → 21 ≡ size_refusal m depth
          refused_21 h = late 21 (below (meter_most - m.meter) depth 21 21 0 (subst (λ (x : ℕ). x < depth) ek h) refl)

          pub refused_0 : depth ≤ k → 0 ≡ size_refusal m depth
          refused_0 h = late 0 (above (meter_most - m.meter) depth 0 21 0 (subst (λ (x : ℕ). depth ≤ x) ek h) refl)

-- ---- a row filled from the front
module _ (slots : List Slot) (value : Bool) (many : length slots ≡ slots_most) where
  row_long : length (row_of value slots) ≡ slots_most
  row_long = length-map slots (number_of value) ∙ many

  pub row_more : (row : List ℕ) (i x : ℕ) → length row ≡ slots_most → i < slots_most → x ≡ number_of value (get_or slots i (slot 0 0)) → take i row ≡ take i (row_of value slots)
      → take (i + 1) (set row i x) ≡ take (i + 1) (row_of value slots)
  row_more row i x long l e h =
      ap (λ (k : ℕ). take k (set row i x)) (add-one i)
      ∙ take-suc-set row i x (omega arith)
      ∙ ap (λ (y : List ℕ). y ++ (x ∷ [])) h
      ∙ ap (λ (y : ℕ). take i (row_of value slots) ++ (y ∷ [])) (e ∙ sym (get_or-map (number_of value) slots i (slot 0 0)))
      ∙ sym (take-suc (row_of value slots) i (number_of value (slot 0 0)) (omega (arith, row_long)))
      ∙ ap (λ (k : ℕ). take k (row_of value slots)) (sym (add-one i))

  pub row_whole : (row : List ℕ) (i : ℕ) → length row ≡ slots_most → slots_most ≤ i → take i row ≡ take i (row_of value slots) → row ≡ row_of value slots
  row_whole row i long l h = sym (take_all i row (omega arith)) ∙ h ∙ take_all i (row_of value slots) (omega (arith, row_long))

-- ---- the face
module _ (m : Machine) (depth : ℕ) where
  module _ (k : ℕ) (e : k ≡ size_refusal m depth) where
    pub size_refused : (k ≡ 0 → ⊥) → Err k ≡ size_of m depth
    unfolding size_of
    size_refused h = ap Err e ∙ sym (simp (ne_eqb (size_refusal m depth) 0 (λ z. h (e ∙ z))))

    pub size_told : k ≡ 0 → (r : Walked) → r ≡ counted (walked 0 0) (walk_of depth m) → Ok r ≡ size_of m depth
    unfolding size_of counted
    size_told h r q =
        ap Ok q
        ∙ ap (λ (x : ℕ). Ok (walked x (0 + length (bytes_of (walk_of depth m))))) (plain (length (walk_of depth m)))
        ∙ ap (λ (x : ℕ). Ok (walked (length (walk_of depth m)) x)) (plain (length (bytes_of (walk_of depth m))))
        ∙ sym (simp (eq-eqb (size_refusal m depth) 0 (sym e ∙ h)))
      where
        plain : (x : ℕ) → 0 + x ≡ x
        plain x = omega arith

  -- what a size tells
  abbrev Tells : Result Walked ℕ → Type 0
  Tells (Ok x) = (size_refusal m depth ≡ 0) × ((x.sequences ≡ length (walk_of depth m)) × (x.bytes ≡ length (bytes_of (walk_of depth m))))
  Tells (Err k) = (k ≡ size_refusal m depth) × (k ≡ 0 → ⊥)

  tells : Tells (size_of m depth)
  unfolding size_of
  tells = by (eqb (size_refusal m depth) 0) refl
    where
      by : (b : Bool) → eqb (size_refusal m depth) 0 ≡ b → Tells (cond b (Ok (walked (length (walk_of depth m)) (length (bytes_of (walk_of depth m))))) (Err (size_refusal m depth)))
      by true e = (eqb-true (size_refusal m depth) 0 e, (refl, refl))
      by false e = (refl, λ z. true≢false (sym (eq-eqb (size_refusal m depth) 0 z) ∙ e))

  -- a buffer of as many bytes is long enough
  pub told_fits : (sequences bytes : ℕ) → size_of m depth ≡ Ok (walked sequences bytes) → walk_refusal m depth bytes ≡ 0
  unfolding walk_refusal
  told_fits sequences bytes h =
      let t = subst Tells h tells in
      let enough : length (bytes_of (walk_of depth m)) ≤ bytes = omega (arith, t.1.1) in
      simp (eq-eqb (size_refusal m depth) 0 t.0, le-ltb bytes (length (bytes_of (walk_of depth m))) enough)

  module _ (r : Result Walked ℕ) (e : r ≡ size_of m depth) where
    pub told_refused : (k : ℕ) → r ≡ Err k → (buffer : List ℕ) → (Err k ≡ walk_told m depth buffer) × (buffer ≡ listed m depth buffer)
    unfolding walk_refusal told listed
    told_refused k h buffer =
        let t = subst Tells (sym e ∙ h) tells in
        let off = ne_eqb (size_refusal m depth) 0 (λ z. t.1 (t.0 ∙ z)) in
        (ap Err t.0 ∙ sym (simp off), sym (simp off))

    module _ (found : Walked) (h : r ≡ Ok found) where
      known : Tells (Ok found)
      known = subst Tells (sym e ∙ h) tells

      pub told_ok : size_refusal m depth ≡ 0
      told_ok = known.0

      pub told_short : (buffer : List ℕ) → length buffer < found.bytes → (Err 22 ≡ walk_told m depth buffer) × (buffer ≡ listed m depth buffer)
      unfolding walk_refusal told listed
      told_short buffer l =
          let less : length buffer < length (bytes_of (walk_of depth m)) = subst (λ (x : ℕ). length buffer < x) known.1.1 l in (
            sym (simp (eq-eqb (size_refusal m depth) 0 known.0, lt-ltb (length buffer) (length (bytes_of (walk_of depth m))) less)),
            sym (simp (eq-eqb (size_refusal m depth) 0 known.0, lt-ltb (length buffer) (length (bytes_of (walk_of depth m))) less)),
          )

      pub told_listed : (buffer after-it : List ℕ) (x : Walked) → found.bytes ≤ length buffer → x ≡ counted (walked 0 0) (walk_of depth m) → after-it ≡ sets buffer 0 (bytes_of (walk_of depth m))
          → (Ok x.sequences ≡ walk_told m depth buffer) × (after-it ≡ listed m depth buffer)
      unfolding walk_refusal told listed counted
      told_listed buffer after-it x l q w =
          let enough : length (bytes_of (walk_of depth m)) ≤ length buffer = subst (λ (y : ℕ). y ≤ length buffer) known.1.1 l in
          let on = eq-eqb (size_refusal m depth) 0 known.0 in
          let off = le-ltb (length buffer) (length (bytes_of (walk_of depth m))) enough in (
            ap (λ (y : Walked). Ok y.sequences) q ∙ ap Ok (plain (length (walk_of depth m))) ∙ sym (simp (on, off)),
            w ∙ sets-eq (bytes_of (walk_of depth m)) buffer 0 (omega arith)
                ∙ ap (λ (y : ℕ). bytes_of (walk_of depth m) ++ drop y buffer) (plain (length (bytes_of (walk_of depth m)))) ∙ sym (simp (on, off)),
          )
        where
          plain : (x : ℕ) → 0 + x ≡ x
          plain x = omega arith
