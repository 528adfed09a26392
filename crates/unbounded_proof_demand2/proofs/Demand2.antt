-- Demand 2 of the unbounded queue, proved.
use Prim.Native.Nat.{ℕ, zero, suc, ◌+◌, ◌*◌, ◌/◌, ◌%◌, ◌<◌}
use mathlib.Core.Path.{◌≡◌, refl, sym, ap, ◌∙◌, subst}
use mathlib.Core.Bool.{Bool, true, false, cond, not, true≢false}
use mathlib.Core.List.{List, [], ◌∷◌, ◌++◌}
use native.Mathlib.Omega.{arith}
use native.Mathlib.Decide.{dec_lt}
use lib.Dec.{eqb, ltb, leb}
use lib.ListN.{length, get_or, drop, replicate, length-replicate}
use borrow.Author.Tests.{eq-eqb, ne_eqb, lt-ltb, le-leb}
use Rattle.queue_entries.specs.Limits.{workers_most, in_limits}
use Rattle.queue_entries.specs.declared.Order.TheVariants.{Act}
use Rattle.queue_entries.specs.declared.Entry.{Entry}
use Rattle.queue_entries.specs.declared.Entry.TheVariants.{Unreadable, Asks}
use Rattle.queue_entries.specs.Entries.{entry_of, entry_but}
use Rattle.queue_schedules.proofs.Schedules.{either, schedule_odd, schedule_read}
use Rattle.queue_schedules.proofs.Histories.{entries_lead, one_more}
use Rattle.queue_schedules.proofs.Splits.{no_split}
use Rattle.queue_schedules.proofs.Records.{every, all_of}
use Rattle.queue_rows.proofs.Alike.{all_alike}
use Rattle.unbounded_words.specs.declared.Index.{Index}
use Rattle.unbounded_words.specs.declared.Pointer.{Pointer}
use Rattle.unbounded_words.specs.declared.Pointer.TheVariants.{None, To}
use Rattle.unbounded_words.specs.Words.{sizes, wide, number_of, offset_of}
use Rattle.unbounded_places.specs.declared.Slot.{Slot}
use Rattle.unbounded_places.specs.declared.Block.{Block}
use Rattle.unbounded_places.specs.declared.Ends.{Ends}
use Rattle.unbounded_places.specs.declared.Worker.{Worker}
use Rattle.unbounded_places.specs.declared.Answer.{Answer}
use Rattle.unbounded_places.specs.declared.Answer.TheVariants.{Nothing}
use Rattle.unbounded_places.specs.declared.Uses.{Uses}
use Rattle.unbounded_places.specs.declared.Uses.TheVariants as uses
use Rattle.unbounded_places.specs.declared.Place.{Place}
use Rattle.unbounded_places.specs.declared.Place.TheVariants.{Idle}
use Rattle.unbounded_places.specs.Places.{view_of}
use Rattle.unbounded_acts.specs.Acts.{has, new_block, act_of}
use Rattle.unbounded_machine.specs.declared.Machine.{Machine}
use Rattle.unbounded_machine.specs.declared.Did.{Did}
use Rattle.unbounded_machine.specs.declared.Ran.{Ran}
use Rattle.unbounded_machine.specs.declared.Event.{Event}
use Rattle.unbounded_machine.specs.Machine.{slot, block_at, slot_at, free_block, free_blocks, empty_slots, idler, idlers, fresh_of, live, accepted}
use Rattle.unbounded_machine.specs.Drop.{walk_of, items_of}
use Rattle.unbounded_machine.specs.Broken.{uses_fit, record_fits, records_fit, all_idle, drop_fits, broken_in, broken_of}
use Rattle.unbounded_machine.specs.Contents.{contents_of}
use Rattle.unbounded_machine.specs.Turn.{entry_here, cleared, lowest_free, block_used, slot_used, stored, acted_at, used_by, taken_by, turn_with}
use Rattle.unbounded_machine.specs.History.{events_of}
use Rattle.unbounded_demands.proofs.Refusals.{unbounded_queue, ran_machine}
use Rattle.unbounded_demands.specs.Notions.{Definition, definition, Allowed, machine_after, acts_of, Acts, Pushing, push9, push10, push11, push12, push13}
use Rattle.unbounded_demands.specs.Notions.{Popping, pop6, pop7, pop8, pop9, pop10, pop11, pop12, Reads, read11, value_at, state_at, takers_of, takings_of}
use Rattle.unbounded_demands.specs.Notions.{freeings_of, LatestIn, ItemIn, waiting, Fifo, start, position, Truth, chained}
use Rattle.unbounded_demands.specs.Notions as notions
use Rattle.unbounded_demands.specs.Demands.{OneHand, ReadsWritten, NoneFree, AnswersTrue, TakenChained, ContentsWait, Demand2, UnderEverySchedule, ActByAct, WholeSchedules}
use Rattle.unbounded_proof_invariant.proofs.Queue.{Ptr, none, to, Hand, Own, Chain, Shared}
use Rattle.unbounded_proof_invariant.proofs.Kept as kept
use Rattle.unbounded_proof_invariant.proofs.Views.{Seen, Rest, Reading, SeenOk}
use Rattle.unbounded_proof_invariant.proofs.Own.{push_of, pop_of, Good}
use Rattle.unbounded_proof_words.proofs.Words.{bit, word, half, offset_word}
use Rattle.unbounded_proof_words.proofs.Stands.{place_of, ends_of_ring, is_done, read_bit, state_of, SlotRep, Stands, idle, u9, u10, u11, u12, u13, v6, v7, v8, v9, v10, v11, v12, Standing, Sim}
use Rattle.unbounded_proof_words.proofs.Frames.{get_same, write_said}
use Rattle.unbounded_proof_words.proofs.Live.{UsesOk, none_free, one_push, one_pop, none_unwritten, pop_live}
use Rattle.unbounded_proof_words.proofs.Loads.{back_some}
use Rattle.unbounded_proof_words.proofs.Blocks.{start_good}
use Rattle.unbounded_proof_each_act.proofs.Step.{counted, held, tale_of, TellsTrue, standing, Step}
use Rattle.unbounded_proof_each_act.proofs.Takings.{lowest_free_lem}
use Rattle.unbounded_proof_demand2.proofs.Turns.{stood, Turned, began, used, took, turned}
use Rattle.unbounded_proof_demand2.proofs.Dealings.{live_is}
use Rattle.unbounded_proof_demand2.proofs.Reached.{Reached, turned_reached, idle_good, used_steps, took_steps}
use Rattle.unbounded_proof_demand2.proofs.Walk.{whole_walk, chain_is, last_chained, no_walk, none_taken}

abbrev pub table : Definition
table = definition sizes act_of

-- ---- the fresh machine
all_free : (n k : ℕ) → k < n → get_or (replicate n free_block) k new_block ≡ free_block
all_free zero k l = absurd (omega arith)
all_free (suc n) zero l = refl
all_free (suc n) (suc k) l = all_free n k (omega arith)

pub fresh_stood : (w : ℕ) → place_of idlers w ≡ Idle Nothing
unfolding idlers
fresh_stood w = ap (λ (x : Worker). x.place) (all_alike workers_most w idler)

free_at : (k : ℕ) → k < 64 → (block_at (free_blocks sizes) k).free ≡ true
unfolding free_blocks
free_at k l = ap (λ (g : Block). g.free) (all_free 64 k l)

fresh_long : (length (free_blocks sizes) ≡ 64) × (length (empty_slots sizes) ≡ 1984) × (length idlers ≡ workers_most)
unfolding free_blocks empty_slots idlers
fresh_long = (length-replicate 64 free_block, length-replicate 1984 (slot 0 0), length-replicate workers_most idler)

fresh_even : (k : ℕ) → k < 64 → takings_of k [] ≡ freeings_of sizes k [] + cond (live sizes (free_blocks sizes) k) 1 0
unfolding takings_of freeings_of
fresh_even k l = let e = ap {B = ℕ} (λ (t : Bool). cond t 1 0) (live_is (free_blocks sizes) k l ∙ ap not (free_at k l)) in omega arith

pub fresh_reached : (workers : ℕ) → Reached workers (fresh_of sizes workers) []
unfolding fresh_of notions.items_of takers_of
fresh_reached workers =
    record {
      queue = kept.start;
      sim =
          record {
            inv = kept.start_ok;
            ends = refl;
            headers = (λ b l. free_at b l);
            cells = (λ b i l k. tt);
            pool = (λ b n. absurd (n refl));
            blank = (λ p e. refl);
            places = (λ w. subst (Standing kept.start w) (sym (fresh_stood w)) (standing kept.start w (Idle Nothing) idle (start_good w)));
            blocks_long = fresh_long.0;
            slots_long = fresh_long.1;
            workers_long = fresh_long.2;
            metered = omega arith;
          };
      team = refl;
      meter = refl;
      in_time = omega arith;
      past = (λ i l. ap (λ (p : Place). (view_of sizes p).busy) (fresh_stood i));
      logged =
          record {
            items_long = refl;
            items_at = (λ p l k. absurd (omega arith));
            takers_long = refl;
            claim_slot = (λ w z. absurd (true≢false (sym z ∙ ap (λ (p : Place). held (tale_of p)) (fresh_stood w))));
            latest = (λ w z. absurd (true≢false (sym z ∙ ap (λ (p : Place). held (tale_of p)) (fresh_stood w))));
            spent = (λ w z. absurd (true≢false (sym z ∙ ap (λ (p : Place). held (tale_of p)) (fresh_stood w))));
            rule = (λ xs ys act v e o. absurd (no_split xs act ys e));
            once = (λ xs between ys act again v u k e. absurd (no_split (xs ++ act ∷ between) again ys e));
            fifo = start;
          };
      even = fresh_even;
    }

-- ---- every schedule
pub reached : (workers : ℕ) → Allowed workers → (s : List ℕ) → Reached workers (machine_after table workers s) (acts_of table workers s)
reached workers a s =
    entries_lead unbounded_queue events_of (Reached workers) (λ m h x y r e. turned_reached workers a.worker_most m h r (entry_of x y) _ (turned m x y e)) s
    (fresh_of sizes workers) [] 0 (fresh_reached workers)

-- ---- what a reached machine has
module _ (workers : ℕ) (allowed : Allowed workers) (m : Machine) (h : List Event) (r : Reached workers m h) where
  abbrev s : Shared
  s = r.queue

  uses_fit_lem : (u : Uses) → UsesOk m.blocks u → uses_fit sizes m.blocks u ≡ true
  uses_fit_lem uses.Nothing o = refl
  uses_fit_lem (uses.Block k) o = live_is m.blocks k o.0 ∙ ap not o.1
  uses_fit_lem (uses.Slot k i) o = ap (λ (t : Bool). cond t (live sizes m.blocks k) false) (lt-ltb i 31 o.0) ∙ live_is m.blocks k o.1 ∙ ap not o.2

  none_free_used : NoneFree table m
  none_free_used w = uses_fit_lem (view_of sizes (stood m w)).uses (none_free m.ends m.blocks m.slots m.workers m.meter s r.sim w)

  -- ---- with all idle
  idle_all : all_idle sizes m.workers ≡ true → (w : ℕ) → Good s w none none Rest
  unfolding all_idle
  idle_all z w =
      let o = r.sim.places w in
      idle_good workers allowed.worker_most m h r (stood m w) o.aside o.new o.seen o.at (not_busy (view_of sizes (stood m w)).busy (dec_lt w workers_most)) o.good
    where
      no_not : (t : Bool) → not t ≡ true → t ≡ false
      no_not true e = absurd (true≢false (sym e))
      no_not false e = refl

      not_busy : (t : Bool) → Dec (w < workers_most) → (view_of sizes (stood m w)).busy ≡ false
      not_busy t (yes l) = no_not (view_of sizes (stood m w)).busy (every workers_most 0 (λ (i : ℕ). not (view_of sizes (stood m i)).busy) z w (omega arith) (omega arith))
      not_busy t (no l) = r.past w (omega (arith, allowed.worker_most))

  sim_here : Sim (ends_of_ring s) m.blocks m.slots m.workers m.meter s
  sim_here = subst (λ (e : Ends). Sim e m.blocks m.slots m.workers m.meter s) r.sim.ends r.sim

  few : 2 * s.tail + 3 < wide
  few = omega (arith, r.sim.metered, r.in_time)

  -- the walk, whether a block was installed or not
  walk_whole : all_idle sizes m.workers ≡ true → ((walk_of sizes m.ends m.blocks).sound ≡ true) × (items_of sizes m.ends m.blocks m.slots ≡ waiting h)
  walk_whole z =
      subst (λ (e : Ends). ((walk_of sizes e m.blocks).sound ≡ true) × (items_of sizes e m.blocks m.slots ≡ waiting h)) (sym r.sim.ends) (go (dec_lt 0 s.blocks))
    where
      go : Dec (0 < s.blocks) → ((walk_of sizes (ends_of_ring s) m.blocks).sound ≡ true) × (items_of sizes (ends_of_ring s) m.blocks m.slots ≡ waiting h)
      go (yes l) =
          let w = whole_walk (ends_of_ring s) m.blocks m.slots m.workers m.meter s sim_here few (idle_all z) l (notions.items_of h) r.logged.items_long r.logged.items_at in
          (w.0, w.1 ∙ ap (λ (n : ℕ). drop n (notions.items_of h)) (sym r.logged.takers_long))
      go (no l) =
          let w = no_walk (ends_of_ring s) m.blocks m.slots m.workers m.meter s sim_here few (idle_all z) (omega arith) in
          let none_yet : length (notions.items_of h) ≡ 0 = omega (arith, r.logged.items_long, r.sim.inv.ends.none_yet (omega arith)) in
          (w.0, w.1 ∙ sym (dropped (notions.items_of h) (length (takers_of h)) none_yet))
        where
          dropped : (l : List ℕ) (n : ℕ) → length l ≡ 0 → drop n l ≡ []
          dropped [] zero e = refl
          dropped [] (suc n) e = refl
          dropped (x ∷ l) n e = absurd (omega arith)

  contents_wait : ContentsWait table m h
  unfolding contents_of
  contents_wait z = (walk_whole z).1

  taken_chained : TakenChained table m
  taken_chained z =
      subst (λ (e : Ends). ((k : ℕ) → k < 64 → live sizes m.blocks k ≡ chained 64 m.blocks e.front k)
      × ((b : ℕ) → e.back ≡ To b → (chained 64 m.blocks e.front b ≡ true) × ((block_at m.blocks b).next ≡ None)))
      (sym r.sim.ends) (go (dec_lt 0 s.blocks))
    where
      go : Dec (0 < s.blocks)
          → ((k : ℕ) → k < 64 → live sizes m.blocks k ≡ chained 64 m.blocks (ends_of_ring s).front k)
          × ((b : ℕ) → (ends_of_ring s).back ≡ To b → (chained 64 m.blocks (ends_of_ring s).front b ≡ true) × ((block_at m.blocks b).next ≡ None))
      go (yes b) = (
        chain_is (ends_of_ring s) m.blocks m.slots m.workers m.meter s sim_here few (idle_all z) b (notions.items_of h) r.logged.items_long r.logged.items_at,
        last_chained (ends_of_ring s) m.blocks m.slots m.workers m.meter s sim_here few (idle_all z) b (notions.items_of h) r.logged.items_long r.logged.items_at,
      )
      go (no b) = (
        none_taken (ends_of_ring s) m.blocks m.slots m.workers m.meter s sim_here few (idle_all z) (omega arith),
        (λ c y. absurd (omega (arith, (back_some s.blocks s.phys c y).0))),
      )

  -- ---- not broken
  records_fit_lem : records_fit sizes m.blocks m.count m.workers ≡ true
  unfolding records_fit record_fits
  records_fit_lem =
      all_of workers_most 0 (λ (i : ℕ). record_fits sizes m.blocks (stood m i) (ltb i m.count))
      (λ i a b. either (λ (t : Bool). t ≡ true) (view_of sizes (stood m i)).busy (cond (ltb i m.count) (uses_fit sizes m.blocks (view_of sizes (stood m i)).uses) false) true
      (λ busy. ap (λ (t : Bool). cond t (uses_fit sizes m.blocks (view_of sizes (stood m i)).uses) false)
      (lt-ltb i m.count (counted_in i busy (dec_lt i workers))) ∙ none_free_used i) (λ idle. refl))
    where
      counted_in : (i : ℕ) → (view_of sizes (stood m i)).busy ≡ true → Dec (i < workers) → i < m.count
      counted_in i busy (yes l) = omega (arith, r.team)
      counted_in i busy (no l) = absurd (true≢false (sym busy ∙ r.past i (omega arith)))

  drop_fits_lem : drop_fits sizes m.ends m.blocks m.workers ≡ true
  unfolding drop_fits
  drop_fits_lem = either (λ (t : Bool). t ≡ true) (all_idle sizes m.workers) (walk_of sizes m.ends m.blocks).sound true (λ z. (walk_whole z).0) (λ z. refl)

  pub unbroken : broken_of sizes m ≡ false
  unfolding broken_in in_limits
  unbroken =
      ap (λ (t : Bool). cond (cond t false (leb m.count workers_most))
      (cond (records_fit sizes m.blocks m.count m.workers) (not (drop_fits sizes m.ends m.blocks m.workers)) true) true)
      (ne_eqb m.count 0 (λ e. omega (arith, r.team, allowed.worker_some)))
      ∙ ap (λ (t : Bool). cond t (cond (records_fit sizes m.blocks m.count m.workers) (not (drop_fits sizes m.ends m.blocks m.workers)) true)
      true) (le-leb m.count workers_most (omega (arith, r.team, allowed.worker_most)))
      ∙ ap (λ (t : Bool). cond t (not (drop_fits sizes m.ends m.blocks m.workers)) true) records_fit_lem ∙ ap not drop_fits_lem

  -- ---- hands
  position_is : (t : Index) (p : ℕ) (b : Bool) → t ≡ word p b → position t ≡ p
  position_is t p b e = ap (λ (i : Index). i.0 / 2) e ∙ half p b

  push_at : (p : Place) (a n : Ptr) (x : Seen) (t : Index) → Pushing p t → Stands p a n x → push_of x ≡ to (position t)
  push_at p a n x t push9 (u9 {p = i} en et ed) = ap to (sym (position_is t i false et))
  push_at p a n x t push10 (u10 {p = i} en et ed) = ap to (sym (position_is t i false et))
  push_at p a n x t push11 (u11 {p = i} en et ed) = ap to (sym (position_is t i false et))
  push_at p a n x t push12 (u12 {p = i} en et ed) = ap to (sym (position_is t i false et))
  push_at p a n x t push13 (u13 {p = i} en et ed) = ap to (sym (position_is t i false et))

  pop_at : (p : Place) (a n : Ptr) (x : Seen) (t : Index) → Popping p t → Stands p a n x → pop_of x ≡ to (position t)
  pop_at p a n x t pop6 (v6 {p = i} k l eh ed ew) = ap to (sym (position_is t i k eh))
  pop_at p a n x t pop7 (v7 {p = i} k l eh ed ew ec) = ap to (sym (position_is t i k eh))
  pop_at p a n x t pop8 (v8 {p = i} k eh ed ec ew) = ap to (sym (position_is t i k eh))
  pop_at p a n x t pop9 (v9 {p = i} k eh ed ew) = ap to (sym (position_is t i k eh))
  pop_at p a n x t pop10 (v10 {p = i} k eh ed) = ap to (sym (position_is t i k eh))
  pop_at p a n x t pop11 (v11 {p = i} k eh ed) = ap to (sym (position_is t i k eh))
  pop_at p a n x t pop12 (v12 {p = i} k eh ed) = ap to (sym (position_is t i k eh))

  -- what a worker at V11 relies on
  pub record ReadsAt (x : Seen) (b : Pointer) (t : Index) : Type 0 where
    pub at : ℕ
    pub block : ℕ
    pub mark : Bool
    pub is : x ≡ Reading at block
    pub word_is : t ≡ word at mark
    pub to_block : b ≡ To block

  reads_at : (p : Place) (a n : Ptr) (x : Seen) (b : Pointer) (t : Index) → Reads p b t → Stands p a n x → ReadsAt x b t
  reads_at p a n x b t read11 (v11 {p = i} {b = k} l eh ed) = record { at = i; block = k; mark = l; is = refl; word_is = eh; to_block = ed }

  stands : (w : ℕ) → Standing s w (stood m w)
  stands w = r.sim.places w

  one_hand : OneHand m
  one_hand = (
    (λ v w t u a b e. one_push s v w (stands v).aside (stands v).new (stands w).aside (stands w).new (stands v).seen (stands w).seen (stands v).good (stands w).good (position t)
        (push_at (stood m v) (stands v).aside (stands v).new (stands v).seen t a (stands v).at)
        (push_at (stood m w) (stands w).aside (stands w).new (stands w).seen u b (stands w).at ∙ ap to (sym e))),
    (λ v w t u a b e. one_pop s v w (stands v).aside (stands v).new (stands w).aside (stands w).new (stands v).seen (stands w).seen (stands v).good (stands w).good (position t)
        (pop_at (stood m v) (stands v).aside (stands v).new (stands v).seen t a (stands v).at)
        (pop_at (stood m w) (stands w).aside (stands w).new (stands w).seen u b (stands w).at ∙ ap to (sym e))),
    (λ v w t u b a c e. let q = reads_at (stood m w) (stands w).aside (stands w).new (stands w).seen b u c (stands w).at in
        let p : position t ≡ q.at = e ∙ position_is u q.at q.mark q.word_is in
        none_unwritten s v w (stands v).aside (stands v).new (stands w).aside (stands w).new (stands v).seen (stands w).seen (stands v).good (stands w).good (position t) q.block
        (push_at (stood m v) (stands v).aside (stands v).new (stands v).seen t a (stands v).at) (q.is ∙ ap (λ (i : ℕ). Reading i q.block) (sym p))),
  )

  -- ---- what V11 reads
  reads_held : (p : Place) (b : Pointer) (t : Index) → Reads p b t → held (tale_of p) ≡ true
  reads_held p b t read11 = refl

  reads_written : ReadsWritten table m h
  unfolding has
  reads_written w b t c = (
    counted (s.got w),
    r.logged.latest w (reads_held (stood m w) b t c),
    record {
      made = omega (arith, r.logged.items_long, low, r.logged.claim_slot w (reads_held (stood m w) b t c));
      is = r.logged.items_at (s.got w) (omega (arith, low)) (r.logged.claim_slot w (reads_held (stood m w) b t c)) ∙ ap s.item o.0.4
          ∙ sym (r.sim.inv.items q.at o.2) ∙ sym value_is;
    },
    eq-eqb (state_at sizes m b t / 1 % 2) 1 state_is,
  )
    where
      q : ReadsAt (stands w).seen b t
      q = reads_at (stood m w) (stands w).aside (stands w).new (stands w).seen b t c (stands w).at

      o : SeenOk s w (Reading q.at q.block)
      o = subst (SeenOk s w) q.is (stands w).good.seen

      low : s.got w < s.tail
      low = omega (arith, o.0.1, o.0.4, r.sim.inv.ends.low)

      own : s.own q.block ≡ Chain (q.at / 32)
      own = pop_live s r.sim.inv w q.at q.block o.0

      cell : slot_at sizes m.slots q.block (q.at % 32) ≡ slot
          (state_of (is_done (s.push (32 * (q.at / 32) + q.at % 32))) (read_bit (q.at % 32) (s.pop (32 * (q.at / 32) + q.at % 32)))
          (s.destroy (q.at / 32) (q.at % 32))) (s.val (32 * (q.at / 32) + q.at % 32))
      cell = subst (λ (x : Own). SlotRep s.push s.pop s.destroy s.val x (q.at % 32) (slot_at sizes m.slots q.block (q.at % 32))) own
          (r.sim.cells q.block (q.at % 32) (r.sim.pool q.block (λ z. kept.free_not_chain (s.own q.block) (q.at / 32) z own)) o.0.2)

      back : 32 * (q.at / 32) + q.at % 32 ≡ q.at
      back = omega arith

      here : slot_at sizes m.slots (number_of sizes b) (offset_of sizes t) ≡ slot_at sizes m.slots q.block (q.at % 32)
      here = ap (λ (d : Pointer). slot_at sizes m.slots (number_of sizes d) (offset_of sizes t)) q.to_block
          ∙ ap (λ (y : ℕ). slot_at sizes m.slots q.block y) (ap (offset_of sizes) q.word_is ∙ offset_word q.at q.mark)

      value_is : value_at sizes m b t ≡ s.val q.at
      value_is = ap (λ (x : Slot). x.value) (here ∙ cell) ∙ ap s.val back

      state_is : state_at sizes m b t / 1 % 2 ≡ 1
      state_is =
          ap (λ (x : Slot). x.state / 1 % 2) (here ∙ cell)
          ∙ write_said (is_done (s.push (32 * (q.at / 32) + q.at % 32))) (read_bit (q.at % 32) (s.pop (32 * (q.at / 32) + q.at % 32))) (s.destroy (q.at / 32) (q.at % 32))
          ∙ ap (λ (p : ℕ). bit (is_done (s.push p))) back ∙ ap (λ (x : Hand). bit (is_done x)) o.2

  -- ---- answers
  told : (w : ℕ) (lose : Bool) (k i : ℕ) (l : List Slot) → w < workers_most
      → Step m.blocks m.slots m.workers m.meter s w (stood m w) k i l (act_of sizes m.ends k (block_at m.blocks k) (slot_at sizes l k i) (stood m w) lose)
      → (a : Answer) → place_of (stored sizes m w l k i (act_of sizes m.ends k (block_at m.blocks k) (slot_at sizes l k i) (stood m w) lose)).workers w ≡ Idle a → Truth m.ends a
  unfolding stored
  told w lose k i l known d a e =
      let at : (act_of sizes m.ends k (block_at m.blocks k) (slot_at sizes l k i) (stood m w) lose).place ≡ Idle a =
      sym (ap (λ (x : Worker). x.place) (get_same m.workers w (record
      { place = (act_of sizes m.ends k (block_at m.blocks k) (slot_at sizes l k i) (stood m w) lose).place }) _ (omega (arith, r.sim.workers_long))))
      ∙ e in
      subst (λ (x : Ends). Truth x a) (sym r.sim.ends) (subst (λ (p : Place). TellsTrue (ends_of_ring s) (tale_of p)) at d.truth)

  asks_one : (v w : ℕ) (a b : Bool) → Asks v (Act a) ≡ Asks w (Act b) → v ≡ w
  asks_one v w a b e = cc

  answered : (x : Entry) (next : Machine) → Turned m x next → (w : ℕ) (asked : Bool) → x ≡ Asks w (Act asked) → (a : Answer) → place_of next.workers w ≡ Idle a → Truth m.ends a
  unfolding acted_at
  answered x next (began v c l b) w asked e a z = absurd (let o : ◌≡◌ {A = ℕ} 0 1 = cc in omega arith)
  answered x next (used v given lose b t) w asked e a z =
      told v lose (block_used (view_of sizes (stood m v)).uses) (slot_used (view_of sizes (stood m v)).uses) m.slots
      (omega (arith, r.team, b.known, allowed.worker_most)) (used_steps workers allowed.worker_most m h r v lose b t) a
      (ap (place_of (used_by sizes act_of m v (stood m v) lose).workers) (asks_one v w given asked e) ∙ z)
  answered x next (took v given lose b t l) w asked e a z =
      told v lose (lowest_free sizes m.blocks) 0 (cleared sizes m.slots (lowest_free sizes m.blocks)) (omega (arith, r.team, b.known, allowed.worker_most))
      (took_steps workers allowed.worker_most m h r v lose b t (lowest_free sizes m.blocks) l (lowest_free_lem m.blocks l)) a
      (ap (place_of (taken_by sizes act_of m v (stood m v) lose (lowest_free sizes m.blocks)).workers) (asks_one v w given asked e) ∙ z)

  -- an entry that asks for an act is read so by both readers
  read_so : (f g : ℕ) (w : ℕ) (lose : Bool) → entry_here f g ≡ Asks w (Act lose) → entry_of f g ≡ Asks w (Act lose)
  unfolding entry_but
  read_so f g w lose = either (λ (x : Entry). x ≡ Asks w (Act lose) → entry_of f g ≡ Asks w (Act lose)) (eqb (f % 16) 1) Unreadable (entry_of f g)
      (λ c e. absurd (let o : ◌≡◌ {A = ℕ} 0 1 = cc in omega arith)) (λ c e. e)

  answers_true : AnswersTrue table m
  unfolding accepted
  answers_true w next a acts z =
      let none : (turn_with sizes act_of m acts.first acts.second).refusal ≡ 0 = ap (λ (d : Did). d.refusal) acts.done in
      let t = turned m acts.first acts.second none in
      answered (entry_of acts.first acts.second) next (subst (λ (d : Did). Turned m (entry_of acts.first acts.second) d.machine) acts.done t) w
      acts.lose (read_so acts.first acts.second w acts.lose acts.asks) a z

  demanded : Demand2 table workers m h
  demanded =
      record {
        team = r.team;
        meter = r.meter;
        unbroken = unbroken;
        claim_rule = r.logged.rule;
        once_out = r.logged.once;
        one_hand = one_hand;
        reads = reads_written;
        none_free = none_free_used;
        answers = answers_true;
        freed_once = r.even;
        chained = taken_chained;
        contents = contents_wait;
        fifo = r.logged.fifo;
      }

pub demand2 : UnderEverySchedule table
demand2 workers a s = demanded workers a (machine_after table workers s) (acts_of table workers s) (reached workers a s)

pub act_by_act : ActByAct table
act_by_act m s first second even e taken = one_more unbounded_queue events_of s m first second even e taken

pub whole_schedules : WholeSchedules table
whole_schedules workers a s =
    let u : broken_of sizes (fresh_of sizes workers) ≡ false = unbroken workers a (fresh_of sizes workers) [] (fresh_reached workers) in (
      λ even read. schedule_read unbounded_queue (broken_of sizes) (fresh_of sizes workers) s u (λ o. omega arith) read,
      λ odd. ap (λ (x : Ran). x.machine) (schedule_odd unbounded_queue (broken_of sizes) (fresh_of sizes workers) s u odd) ∙ ran_machine 11 0 (fresh_of sizes workers),
    )
