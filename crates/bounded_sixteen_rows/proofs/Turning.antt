-- One entry on words of sixteen bits that stand for a ring and records that are not broken: what it leaves fits in sixteen bits, and is what the entry leaves of the ring and the records.
use Prim.Native.Nat.{ℕ, zero, suc, ◌+◌, ◌*◌, ◌/◌, ◌<◌}
use mathlib.Core.Path.{◌≡◌, refl, sym, ap, ◌∙◌, subst}
use mathlib.Core.Bool.{true, false}
use mathlib.Core.List.{List}
use native.Mathlib.Omega.{arith}
use lib.Dec.{leb}
use lib.ListN.{length, get_or, set, replicate, length-set}
use lib.Seq.{get_or-set_same}
use Rattle.bounded_words.specs.declared.Stamp.{Stamp}
use Rattle.bounded_words.specs.declared.Fixed.{Fixed}
use Rattle.bounded_words.specs.declared.Width.TheVariants.{Sixteen}
use Rattle.bounded_words.specs.Limits.{narrow}
use Rattle.bounded_words.specs.Words.{Fair}
use Rattle.bounded_words.proofs.Marks.{Ruled}
use Rattle.bounded_places.specs.declared.Ends.{Ends}
use Rattle.bounded_places.specs.declared.Held.{Held}
use Rattle.bounded_places.specs.declared.Held.TheVariants as held_in
use Rattle.bounded_places.specs.declared.Slot.{Slot}
use Rattle.bounded_places.specs.declared.Worker.{Worker}
use Rattle.bounded_places.specs.Places.{view_of, fits_of}
use Rattle.bounded_machine.specs.declared.Machine.{Machine}
use Rattle.bounded_machine.specs.declared.Did.{Did}
use Rattle.bounded_machine.specs.Machine.{slot, idler, machine_of, record_of_worker}
use Rattle.bounded_machine.specs.Broken.{record_fits}
use Rattle.bounded_machine.specs.Turn.{spot_of, turn_at}
use Rattle.bounded_machine.proofs.Kept.{UnbrokenWith, either, placed, fits_plain, of_record, ruled_in}
use Rattle.bounded_machine.proofs.Turns.{turn_of_unbroken}
use Rattle.bounded_orders.specs.Orders.{records_most}
use Rattle.bounded_step_record.specs.declared.Turned.{Turned}
use Rattle.bounded_step_record.specs.Entries.{worker_of, slot_of_ring, turned_of}
use Rattle.bounded_step_record.proofs.Resting.{worker_below}
use Rattle.bounded_step_record.proofs.Back.{put_back, put_back_lem}
use Rattle.bounded_lent.specs.Lent.{held, broken_lent, lent_of}
use Rattle.bounded_lent.proofs.Turning.{unbroken_lent, lent_unbroken, few_lent, some_record, fair_lent, record_fits_lem}
use Rattle.bounded_sixteen_bits.specs.SixteenBits.{Short}
use Rattle.bounded_narrow.proofs.Shorts.{entry_short}
use Rattle.bounded_rows.specs.Rows.{fixed_in, ends_in, record_at, with_record, records_in}
use Rattle.bounded_rows.proofs.Lists.{many, room, get, put, long_record}
use Rattle.bounded_sixteen_rows.specs.SixteenRows.{Shorts, shorts, with_ends, metered_in, stand, after, after_of, turn_shorts}
use Rattle.bounded_sixteen_rows.proofs.Lists.{get_slot, put_slot, same_fixed, new_ends, Standing, standing, stands, still_standing, as_words}

-- ---- what an entry leaves fits in sixteen bits, where what it is handed does: from the machine that has no other record and no other slot
abbrev Fit : Stamp → Type 0
Fit x = x.0 < narrow

one_more : {A : Type 0} (n : ℕ) (x : A) → length (replicate n x) ≡ n
one_more zero x = refl
one_more (suc n) x = ap suc (one_more n x)

zeros_short : (n i : ℕ) → (get_or (replicate n (slot 0 0)) i (slot 0 0)).stamp.0 < narrow
zeros_short zero i = omega arith
zeros_short (suc n) zero = omega arith
zeros_short (suc n) (suc i) = zeros_short n i

module _ (f : Fixed) (e : Ends) (s : Slot) (r : Worker) (m count first second w k : ℕ) (t : Turned) (fh : e.head.0 < narrow) (ft : e.tail.0 < narrow) (fs : s.stamp.0 < narrow)
    (ew : w ≡ worker_of first count) (ek : k ≡ slot_of_ring f r) (et : t ≡ turned_of Sixteen f e s r m count first second) where
  abbrev those : List Slot
  those = replicate (suc k) (slot 0 0)

  abbrev team : List Worker
  team = replicate (suc w) idler

  abbrev alone : Machine
  alone = machine_of f e (set those k s) (set team w r) count m

  in_those : k < length those
  in_those = omega (arith, one_more (suc k) (slot 0 0))

  that_slot : get_or (set those k s) k (slot 0 0) ≡ s
  that_slot = get_or-set_same those k s (slot 0 0) in_those

  that_record : record_of_worker (set team w r) w ≡ r
  that_record = get_or-set_same team w r idler (omega (arith, one_more (suc w) idler))

  alone_short : Short alone
  alone_short = record { head = fh; tail = ft; slots = λ i. placed those k i s (slot 0 0) (λ (z : Slot). z.stamp.0 < narrow) (λ q. fs) (zeros_short (suc k) i) }

  left_short : Short (put_back alone w k t).machine
  left_short =
      subst (λ (d : Did). Short d.machine)
      (sym (put_back_lem Sixteen alone w k count t first second refl ew (ek ∙ ap (slot_of_ring f) (sym that_record))
      (et ∙ (λ i. turned_of Sixteen f e (sym that_slot i) (sym that_record i) m count first second))))
      (entry_short alone alone_short first second)

  pub ends_short : (t.ends.head.0 < narrow) × (t.ends.tail.0 < narrow)
  ends_short = (left_short.head, left_short.tail)

  pub slot_short : t.slot.stamp.0 < narrow
  slot_short =
      subst (λ (z : Slot). z.stamp.0 < narrow)
      (get_or-set_same (set those k s) k t.slot (slot 0 0) (omega (arith, in_those, length-set those k s))) (left_short.slots k)

-- ---- the slot of a record that fits is below the capacity
module _ (f : Fixed) (ruled : Ruled f) (meter : ℕ) (r : Worker) (h : record_fits f meter r true ≡ true) where
  spot_low : (d : Held) → fits_of f d ≡ true → spot_of f d < f.capacity
  spot_low held_in.Nothing q = ruled.some
  spot_low (held_in.End t) q = (fits_plain f t q).low
  spot_low (held_in.Tail t) q = ruled.some
  spot_low (held_in.Both t d) q = ruled.some

  slot_low : slot_of_ring f r < f.capacity
  slot_low =
      either (λ (k : ℕ). k < f.capacity) (view_of r.place).busy (spot_of f (view_of r.place).held) 0
      (λ e. spot_low (view_of r.place).held (of_record f meter r true h e)) (λ e. ruled.some)

module _ (h : List ℕ) (m : ℕ) (ss vs rs : List ℕ) (sound : broken_lent (metered_in (shorts h m ss vs rs)) (records_in rs) ≡ false) (stood : stand (shorts h m ss vs rs) ≡ true) where
  abbrev before : Machine
  before = held (metered_in (shorts h m ss vs rs)) (records_in rs)

  whole : UnbrokenWith (length (records_in rs)) before
  whole = unbroken_lent (metered_in (shorts h m ss vs rs)) (records_in rs) sound

  known : Standing (shorts h m ss vs rs)
  known = standing (shorts h m ss vs rs) stood

  pub seven_words : length h ≡ 7
  seven_words = known.seven

  module _ (first second w : ℕ) (ew : w ≡ worker_of first (length rs / 5)) where
    low : w < length (records_in rs)
    low = subst (λ (v : ℕ). v < length (records_in rs)) (sym (ew ∙ ap (worker_of first) (sym (many rs))))
        (worker_below first (length (records_in rs)) (some_record (metered_in (shorts h m ss vs rs)) (records_in rs) whole))

    pub record_room : w * 5 + 4 < length rs
    record_room = room rs w low

    module _ (f : Fixed) (ef : f ≡ fixed_in h) (r : Worker) (er : r ≡ record_at rs w) where
      pub fair : Fair f
      fair = subst Fair (sym ef) (fair_lent (metered_in (shorts h m ss vs rs)) (records_in rs) whole)

      in_list : record_of_worker (records_in rs) w ≡ r
      in_list = get rs w low ∙ sym er

      pub fits : record_fits f m r true ≡ true
      fits =
          (λ i. record_fits (ef i) m (sym in_list i) true)
          ∙ record_fits_lem (metered_in (shorts h m ss vs rs)) (records_in rs) whole w low

      module _ (k : ℕ) (ek : k ≡ slot_of_ring f r) where
        below : k < get_or h 2 0
        unfolding fixed_in
        below =
            subst (λ (x : Fixed). k < x.capacity) ef
            (subst (λ (j : ℕ). j < f.capacity) (sym ek) (slot_low f (subst Ruled (sym ef) (ruled_in before whole)) m r fits))

        pub slot_room : (k < length ss) × (k < length vs)
        slot_room = (omega (arith, below, known.all_stamps), omega (arith, below, known.all_values))

        module _ (e : Ends) (ee : e ≡ ends_in h) (s : Slot) (es : s ≡ slot (get_or ss k 0) (get_or vs k 0)) (t : Turned) (et : t ≡ turned_of Sixteen f e s r m (length rs / 5) first second) where
          turns : put_back before w k t ≡ turn_at Sixteen before first second
          turns =
              put_back_lem Sixteen before w k (length rs / 5) t first second (sym (many rs)) ew (ek ∙ (λ i. slot_of_ring (ef i) (sym in_list i)))
              (et ∙ (λ i. turned_of Sixteen (ef i) (ee i) ((es ∙ sym (get_slot ss vs k slot_room.0 slot_room.1)) i) (sym in_list i) m (length rs / 5) first second))

          abbrev left : Shorts
          left = shorts (with_ends h t.ends) t.meter (set ss k t.slot.stamp.0) (set vs k t.slot.value) (with_record rs w t.worker)

          as_many : length (records_in (with_record rs w t.worker)) ≡ length (records_in rs)
          as_many = many (with_record rs w t.worker) ∙ ap (λ (n : ℕ). n / 5) (long_record rs w t.worker) ∙ sym (many rs)

          left_is : record { refusal = t.refusal; machine = held (metered_in left) (records_in left.records) } ≡ turn_at Sixteen before first second
          left_is =
              (λ i. record {
                refusal = t.refusal;
                machine = machine_of (same_fixed h t.ends i) (new_ends h t.ends seven_words i) (put_slot ss vs k t.slot i) (put rs w t.worker low i) (as_many i) t.meter;
              })
              ∙ turns

          -- the entry answers its refusal and leaves these words, which are as sound as what it was handed
          abbrev pub Leaves : ℕ → Shorts → Type 0
          Leaves n x =
              (after n x ≡ after_of (turn_shorts (shorts h m ss vs rs) first second)) × (broken_lent (metered_in x) (records_in x.records) ≡ false) × (stand x ≡ true)

          leaves : Leaves t.refusal left
          leaves =
              let s' = still_standing h m ss vs rs known t.ends t.meter k t.slot w t.worker low in (
                as_words t.refusal left s' _ (ap lent_of left_is),
                lent_unbroken (metered_in left) (records_in left.records)
                    (ap (λ (c : ℕ). leb c records_most) as_many ∙ few_lent (metered_in (shorts h m ss vs rs)) (records_in rs) sound)
                    (subst (λ (c : ℕ). UnbrokenWith c (held (metered_in left) (records_in left.records))) (sym as_many)
                    (subst (UnbrokenWith (length (records_in rs))) (sym (ap (λ (x : Did). x.machine) left_is)) (turn_of_unbroken Sixteen before whole first second))),
                stands left s',
              )

          pub turned : (h' ss' vs' rs' : List ℕ) → h' ≡ with_ends h t.ends → ss' ≡ set ss k t.slot.stamp.0 → vs' ≡ set vs k t.slot.value → rs' ≡ with_record rs w t.worker
              → Leaves t.refusal (shorts h' t.meter ss' vs' rs')
          turned h' ss' vs' rs' eh es' ev er' = subst (Leaves t.refusal) (λ i. shorts (sym eh i) t.meter (sym es' i) (sym ev i) (sym er' i)) leaves
