-- The effects that change words of a block or of a slot, on the machine's own lists.
use Prim.Native.Nat.{ℕ, ◌+◌, ◌*◌, ◌<◌}
use mathlib.Core.Path.{◌≡◌, refl, sym, ap, ◌∙◌, subst}
use mathlib.Core.Logic.{◌≢◌}
use mathlib.Core.Bool.{Bool, true, false, cond}
use mathlib.Core.List.{List}
use native.Mathlib.Omega.{arith}
use native.Mathlib.Decide.{ℕ_discrete}
use borrow.Author.Tests.{lt-ltb}
use lib.ListN.{length, set, length-set}
use Rattle.queue_entries.specs.Limits.{workers_most}
use Rattle.queue_schedules.proofs.Upd.{upd, upd_same, upd_else, upd_at}
use Rattle.unbounded_words.specs.declared.Pointer.{Pointer}
use Rattle.unbounded_words.specs.declared.Pointer.TheVariants.{None, To}
use Rattle.unbounded_places.specs.declared.Slot.{Slot}
use Rattle.unbounded_places.specs.declared.Block.{Block}
use Rattle.unbounded_places.specs.declared.Ends.{Ends}
use Rattle.unbounded_places.specs.declared.Place.{Place}
use Rattle.unbounded_places.specs.declared.Worker.{Worker}
use Rattle.unbounded_proof_invariant.proofs.Queue.{Hand, Open, Done, By, Dest, Own, Free, Aside, Chain, Shared, Inv}
use Rattle.unbounded_proof_invariant.proofs.Kept.{at_or_else, hand_by_open, hand_open_done, free_not_chain}
use Rattle.unbounded_proof_invariant.proofs.Kept.{ties, writes, sets, reads, reads_on}
use Rattle.unbounded_proof_invariant.proofs.Kept.{destroy_bits, destroys}
use Rattle.unbounded_proof_invariant.proofs.Views.{Rely}
use Rattle.unbounded_proof_words.proofs.Stands.{new_block, slot, block_at, slot_at, place_of, is_done, HeadRep, read_bit, state_of, SlotRep, Standing, Sim}
use Rattle.unbounded_proof_words.proofs.Frames.{get_same, get_other, others_stand, cell_same, write_bit, read_bit_lem, destroy_bit}

-- ---- one header, and one slot, is set
module _ (link : ℕ → Bool) (phys : ℕ → ℕ) (own : ℕ → Own) (blocks : List Block) (b : ℕ) (g : Block) (long : b < length blocks) where
  pub header_set : HeadRep link phys (own b) g → ((c : ℕ) → c ≢ b → c < 64 → HeadRep link phys (own c) (block_at blocks c)) → (c : ℕ) → c < 64 → HeadRep link phys (own c) (block_at (set blocks b g) c)
  header_set new old c l = go (ℕ_discrete c b)
    where
      go : Dec (c ≡ b) → HeadRep link phys (own c) (block_at (set blocks b g) c)
      go (yes e) = rw e (subst (HeadRep link phys (own b)) (sym (get_same blocks b g new_block long)) new)
      go (no n) = subst (HeadRep link phys (own c)) (sym (get_other blocks b c g new_block n)) (old c n l)

module _ (push pop : ℕ → Hand) (destroy : ℕ → ℕ → Bool) (val : ℕ → ℕ) (own : ℕ → Own) (slots : List Slot) (b i : ℕ) (x : Slot) (small : i < 31) (long : b * 31 + i < length slots) where
  cell_set : SlotRep push pop destroy val (own b) i x → ((c k : ℕ) → ((c ≡ b) × (k ≡ i) → ⊥) → c < 64 → k < 31 → SlotRep push pop destroy val (own c) k (slot_at slots c k))
      → (c k : ℕ) → c < 64 → k < 31 → SlotRep push pop destroy val (own c) k (slot_at (set slots (b * 31 + i) x) c k)
  cell_set new old c k l m = go (ℕ_discrete (c * 31 + k) (b * 31 + i))
    where
      go : Dec (c * 31 + k ≡ b * 31 + i) → SlotRep push pop destroy val (own c) k (slot_at (set slots (b * 31 + i) x) c k)
      go (yes e) =
          let p : c ≡ b = omega arith in
          let q : k ≡ i = omega arith in
          rw (p, q) (subst (SlotRep push pop destroy val (own b) i) (sym (get_same slots (b * 31 + i) x (slot 0 0) long)) new)
      go (no n) = subst (SlotRep push pop destroy val (own c) k) (sym (get_other slots (b * 31 + i) (c * 31 + k) x (slot 0 0) n))
          (old c k (λ z. n (ap (λ (y : ℕ). y * 31 + k) z.0 ∙ ap (λ (y : ℕ). b * 31 + y) z.1)) l m)

module _ (e : Ends) (blocks : List Block) (slots : List Slot) (workers : List Worker) (meter : ℕ) (s : Shared) (sim : Sim e blocks slots workers meter s)
    (w : ℕ) (here : w < workers_most) (q : Place) where
  abbrev after : List Worker
  after = set workers w (record { place = q })

  long : length after ≡ workers_most
  long = length-set workers w (record { place = q }) ∙ sim.workers_long

  stand : (u : Shared) → ((v : ℕ) → v ≢ w → Rely s u v) → Standing u w q → (v : ℕ) → Standing u v (place_of after v)
  stand u r n = others_stand s u w workers q sim.inv r sim.places (omega (arith, sim.workers_long)) n

  -- U11: block j's next
  pub sim_ties : (b j : ℕ) (d : Pointer) → s.own b ≡ Chain j → d ≡ To (s.phys (j + 1)) → Inv (ties j s) → ((v : ℕ) → v ≢ w → Rely s (ties j s) v) → Standing (ties j s) w q
      → Sim e (set blocks b (record { next = d; free = (block_at blocks b).free })) slots after (meter + 1) (ties j s)
  sim_ties b j d own ed inv' r n =
      let small = sim.pool b (λ z. free_not_chain (s.own b) j z own) in
      record {
        inv = inv';
        ends = sim.ends;
        headers = header_set (upd s.link j true) s.phys s.own blocks b (record { next = d; free = (block_at blocks b).free })
            (omega (arith, sim.blocks_long)) this (λ c m l. that c (s.own c) m refl (sim.headers c l));
        cells = sim.cells;
        pool = sim.pool;
        blank = sim.blank;
        places = stand (ties j s) r n;
        blocks_long = length-set blocks b _ ∙ sim.blocks_long;
        slots_long = sim.slots_long;
        workers_long = long;
        metered = omega (arith, sim.metered);
      }
    where
      this : HeadRep (upd s.link j true) s.phys (s.own b) (record { next = d; free = (block_at blocks b).free })
      this =
          let small = sim.pool b (λ z. free_not_chain (s.own b) j z own) in
          let g = subst (λ (o : Own). HeadRep s.link s.phys o (block_at blocks b)) own (sim.headers b small) in
          subst (λ (o : Own). HeadRep (upd s.link j true) s.phys o (record { next = d; free = (block_at blocks b).free })) (sym own)
          (rw (ed, upd_same s.link j true) (ap (λ (y : Block). record { next = To (s.phys (j + 1)); free = y.free }) g))

      that : (c : ℕ) (o : Own) → c ≢ b → s.own c ≡ o → HeadRep s.link s.phys o (block_at blocks c) → HeadRep (upd s.link j true) s.phys o (block_at blocks c)
      that c Free m z h = h
      that c (Aside v) m z h = h
      that c (Chain k) m z h =
          h ∙ ap (λ (t : Bool). record { next = cond t (To (s.phys (k + 1))) None; free = false })
          (sym (upd_else s.link j k true (λ y. m (sym (sim.inv.owns.chain c k z).2 ∙ ap s.phys y ∙ (sim.inv.owns.chain b j own).2))))

  -- another slot than that of position 32 j + i, where block b is the j-th
  other_place : (b j i : ℕ) → s.own b ≡ Chain j → (c k m : ℕ) → s.own c ≡ Chain m → ((c ≡ b) × (k ≡ i) → ⊥) → k < 31 → i < 31 → 32 * m + k ≢ 32 * j + i
  other_place b j i own c k m o n l h z =
      let p : m ≡ j = omega arith in
      let t : k ≡ i = omega arith in
      n (sym (sim.inv.owns.chain c m o).2 ∙ ap s.phys p ∙ (sim.inv.owns.chain b j own).2, t)

  pub small_at : (b j : ℕ) → s.own b ≡ Chain j → b < 64
  small_at b j own = sim.pool b (λ z. free_not_chain (s.own b) j z own)

  pub cell_at : (b j i : ℕ) → s.own b ≡ Chain j → i < 31 → slot_at slots b i ≡ slot (state_of (is_done (s.push (32 * j + i))) (read_bit i (s.pop (32 * j + i))) (s.destroy j i)) (s.val (32 * j + i))
  cell_at b j i own l = subst (λ (o : Own). SlotRep s.push s.pop s.destroy s.val o i (slot_at slots b i)) own (sim.cells b i (small_at b j own) l)

  -- U12: a value
  pub sim_writes : (b j i : ℕ) → s.own b ≡ Chain j → i < 31 → (x w' : ℕ) → s.push (32 * j + i) ≡ By w' → Inv (writes (32 * j + i) x s)
      → ((v : ℕ) → v ≢ w → Rely s (writes (32 * j + i) x s) v) → Standing (writes (32 * j + i) x s) w q
      → Sim e blocks (set slots (b * 31 + i) (record { state = (slot_at slots b i).state; value = x })) after (meter + 1) (writes (32 * j + i) x s)
  sim_writes b j i own l x w' mine inv' r n = record {
    inv = inv';
    ends = sim.ends;
    headers = sim.headers;
    cells = cell_set s.push s.pop s.destroy (upd s.val (32 * j + i) x) s.own slots b i (record { state = (slot_at slots b i).state; value = x }) l
        (let t = small_at b j own in omega (arith, sim.slots_long)) this
        (λ c k z a m. cell_same s.push s.push s.pop s.pop s.destroy s.destroy s.val (upd s.val (32 * j + i) x) (s.own c) k
        (slot_at slots c k) (λ f o. let ne = other_place b j i own c k f o z m l in (refl, refl, refl, upd_else s.val (32 * j + i) (32 * f + k) x ne))
        (sim.cells c k a m));
    pool = sim.pool;
    blank = (λ p z. upd_else s.val (32 * j + i) p x (λ y. hand_by_open (s.push (32 * j + i)) w' mine (ap s.push (sym y) ∙ z)) ∙ sim.blank p z);
    places = stand (writes (32 * j + i) x s) r n;
    blocks_long = sim.blocks_long;
    slots_long = length-set slots (b * 31 + i) _ ∙ sim.slots_long;
    workers_long = long;
    metered = omega (arith, sim.metered);
  }
    where
      this : SlotRep s.push s.pop s.destroy (upd s.val (32 * j + i) x) (s.own b) i (record { state = (slot_at slots b i).state; value = x })
      this = subst (λ (o : Own). SlotRep s.push s.pop s.destroy (upd s.val (32 * j + i) x) o i
          (record { state = (slot_at slots b i).state; value = x })) (sym own)
          (rw (upd_same s.val (32 * j + i) x) (ap (λ (y : Slot). record { state = y.state; value = x }) (cell_at b j i own l)))

  -- U13: WRITE
  pub sim_sets : (b j i : ℕ) → s.own b ≡ Chain j → i < 31 → (w' : ℕ) → s.push (32 * j + i) ≡ By w' → Inv (sets (32 * j + i) s)
      → ((v : ℕ) → v ≢ w → Rely s (sets (32 * j + i) s) v) → Standing (sets (32 * j + i) s) w q
      → Sim e blocks (set slots (b * 31 + i) (record { state = (slot_at slots b i).state + 1; value = (slot_at slots b i).value })) after (meter + 1) (sets (32 * j + i) s)
  sim_sets b j i own l w' mine inv' r n = record {
    inv = inv';
    ends = sim.ends;
    headers = sim.headers;
    cells = cell_set (upd s.push (32 * j + i) Done) s.pop s.destroy s.val s.own slots b i
        (record { state = (slot_at slots b i).state + 1; value = (slot_at slots b i).value }) l (let t = small_at b j own in omega (arith, sim.slots_long)) this
        (λ c k z a m. cell_same s.push (upd s.push (32 * j + i) Done) s.pop s.pop s.destroy s.destroy s.val s.val (s.own c) k
        (slot_at slots c k) (λ f o. let ne = other_place b j i own c k f o z m l in
        (ap is_done (upd_else s.push (32 * j + i) (32 * f + k) Done ne), refl, refl, refl)) (sim.cells c k a m));
    pool = sim.pool;
    blank = (λ p. at_or_else (λ (h : Hand). h ≡ Open → s.val p ≡ 0) s.push (32 * j + i) p Done (λ z k. absurd (hand_open_done Done k refl)) (λ z k. sim.blank p k));
    places = stand (sets (32 * j + i) s) r n;
    blocks_long = sim.blocks_long;
    slots_long = length-set slots (b * 31 + i) _ ∙ sim.slots_long;
    workers_long = long;
    metered = omega (arith, sim.metered);
  }
    where
      this : SlotRep (upd s.push (32 * j + i) Done) s.pop s.destroy s.val (s.own b) i (record { state = (slot_at slots b i).state + 1; value = (slot_at slots b i).value })
      this = subst (λ (o : Own). SlotRep (upd s.push (32 * j + i) Done) s.pop s.destroy s.val o i
          (record { state = (slot_at slots b i).state + 1; value = (slot_at slots b i).value })) (sym own)
          (rw (upd_same s.push (32 * j + i) Done) (ap (λ (y : Slot). record { state = y.state + 1; value = y.value })
          (cell_at b j i own l ∙ ap (λ (h : Hand). slot (state_of (is_done h) (read_bit i (s.pop (32 * j + i))) (s.destroy j i)) (s.val (32 * j + i))) mine)
          ∙ ap (λ (k : ℕ). slot k (s.val (32 * j + i))) (write_bit (read_bit i (s.pop (32 * j + i))) (s.destroy j i))))

  -- V12: READ
  pub sim_reads : (b j i : ℕ) → s.own b ≡ Chain j → i < 31 → (w' : ℕ) → i < 30 → s.pop (32 * j + i) ≡ By w' → Inv (reads (32 * j + i) s)
      → ((v : ℕ) → v ≢ w → Rely s (reads (32 * j + i) s) v) → Standing (reads (32 * j + i) s) w q
      → Sim e blocks (set slots (b * 31 + i) (record { state = (slot_at slots b i).state + 2; value = (slot_at slots b i).value })) after (meter + 1) (reads (32 * j + i) s)
  sim_reads b j i own l w' small mine inv' r n = record {
    inv = inv';
    ends = sim.ends;
    headers = sim.headers;
    cells = cell_set s.push (upd s.pop (32 * j + i) Done) s.destroy s.val s.own slots b i
        (record { state = (slot_at slots b i).state + 2; value = (slot_at slots b i).value }) l (let t = small_at b j own in omega (arith, sim.slots_long)) this
        (λ c k z a m. cell_same s.push s.push s.pop (upd s.pop (32 * j + i) Done) s.destroy s.destroy s.val s.val (s.own c) k
        (slot_at slots c k) (λ f o. let ne = other_place b j i own c k f o z m l in
        (refl, ap (read_bit k) (upd_else s.pop (32 * j + i) (32 * f + k) Done ne), refl, refl)) (sim.cells c k a m));
    pool = sim.pool;
    blank = sim.blank;
    places = stand (reads (32 * j + i) s) r n;
    blocks_long = sim.blocks_long;
    slots_long = length-set slots (b * 31 + i) _ ∙ sim.slots_long;
    workers_long = long;
    metered = omega (arith, sim.metered);
  }
    where
      this : SlotRep s.push (upd s.pop (32 * j + i) Done) s.destroy s.val (s.own b) i (record { state = (slot_at slots b i).state + 2; value = (slot_at slots b i).value })
      this = subst (λ (o : Own). SlotRep s.push (upd s.pop (32 * j + i) Done) s.destroy s.val o i
          (record { state = (slot_at slots b i).state + 2; value = (slot_at slots b i).value })) (sym own)
          (rw (upd_same s.pop (32 * j + i) Done, lt-ltb i 30 small)
          (ap (λ (y : Slot). record { state = y.state + 2; value = y.value })
          (cell_at b j i own l ∙ ap (λ (h : Hand). slot (state_of (is_done (s.push (32 * j + i))) (read_bit i h) (s.destroy j i)) (s.val (32 * j + i))) mine
          ∙ ap (λ (t : Bool). slot (state_of (is_done (s.push (32 * j + i))) (cond t false false) (s.destroy j i)) (s.val (32 * j + i))) (lt-ltb i 30 small))
          ∙ ap (λ (k : ℕ). slot k (s.val (32 * j + i))) (read_bit_lem (is_done (s.push (32 * j + i))) (s.destroy j i))))

  -- V12 where a destroyer is parked: READ
  pub sim_reads_on : (b j i : ℕ) → s.own b ≡ Chain j → i < 31 → (w' : ℕ) → i < 30 → s.pop (32 * j + i) ≡ By w' → Inv (reads_on w j i s)
      → ((v : ℕ) → v ≢ w → Rely s (reads_on w j i s) v) → Standing (reads_on w j i s) w q
      → Sim e blocks (set slots (b * 31 + i) (record { state = (slot_at slots b i).state + 2; value = (slot_at slots b i).value })) after (meter + 1) (reads_on w j i s)
  sim_reads_on b j i own l w' small mine inv' r n = record {
    inv = inv';
    ends = sim.ends;
    headers = sim.headers;
    cells = cell_set s.push (upd s.pop (32 * j + i) Done) s.destroy s.val s.own slots b i
        (record { state = (slot_at slots b i).state + 2; value = (slot_at slots b i).value }) l (let t = small_at b j own in omega (arith, sim.slots_long)) this
        (λ c k z a m. cell_same s.push s.push s.pop (upd s.pop (32 * j + i) Done) s.destroy s.destroy s.val s.val (s.own c) k
        (slot_at slots c k) (λ f o. let ne = other_place b j i own c k f o z m l in
        (refl, ap (read_bit k) (upd_else s.pop (32 * j + i) (32 * f + k) Done ne), refl, refl)) (sim.cells c k a m));
    pool = sim.pool;
    blank = sim.blank;
    places = stand (reads_on w j i s) r n;
    blocks_long = sim.blocks_long;
    slots_long = length-set slots (b * 31 + i) _ ∙ sim.slots_long;
    workers_long = long;
    metered = omega (arith, sim.metered);
  }
    where
      this : SlotRep s.push (upd s.pop (32 * j + i) Done) s.destroy s.val (s.own b) i (record { state = (slot_at slots b i).state + 2; value = (slot_at slots b i).value })
      this = subst (λ (o : Own). SlotRep s.push (upd s.pop (32 * j + i) Done) s.destroy s.val o i
          (record { state = (slot_at slots b i).state + 2; value = (slot_at slots b i).value })) (sym own)
          (rw (upd_same s.pop (32 * j + i) Done, lt-ltb i 30 small)
          (ap (λ (y : Slot). record { state = y.state + 2; value = y.value })
          (cell_at b j i own l ∙ ap (λ (h : Hand). slot (state_of (is_done (s.push (32 * j + i))) (read_bit i h) (s.destroy j i)) (s.val (32 * j + i))) mine
          ∙ ap (λ (t : Bool). slot (state_of (is_done (s.push (32 * j + i))) (cond t false false) (s.destroy j i)) (s.val (32 * j + i))) (lt-ltb i 30 small))
          ∙ ap (λ (k : ℕ). slot k (s.val (32 * j + i))) (read_bit_lem (is_done (s.push (32 * j + i))) (s.destroy j i))))

  -- V14: DESTROY
  pub sim_destroys : (d : Dest) (b j i : ℕ) → s.own b ≡ Chain j → i < 31 → s.destroy j i ≡ false → Inv (destroys d j i s)
      → ((v : ℕ) → v ≢ w → Rely s (destroys d j i s) v) → Standing (destroys d j i s) w q
      → Sim e blocks (set slots (b * 31 + i) (record { state = (slot_at slots b i).state + 4; value = (slot_at slots b i).value })) after (meter + 1) (destroys d j i s)
  sim_destroys d b j i own l clear inv' r n = record {
    inv = inv';
    ends = sim.ends;
    headers = sim.headers;
    cells = cell_set s.push s.pop (destroy_bits j i s) s.val s.own slots b i
        (record { state = (slot_at slots b i).state + 4; value = (slot_at slots b i).value }) l (let t = small_at b j own in omega (arith, sim.slots_long)) this
        (λ c k z a m. cell_same s.push s.push s.pop s.pop s.destroy (destroy_bits j i s) s.val s.val (s.own c) k (slot_at slots c k)
        (λ f o. let ne = other_place b j i own c k f o z m l in (refl, refl, other_bit f k ne, refl)) (sim.cells c k a m));
    pool = sim.pool;
    blank = sim.blank;
    places = stand (destroys d j i s) r n;
    blocks_long = sim.blocks_long;
    slots_long = length-set slots (b * 31 + i) _ ∙ sim.slots_long;
    workers_long = long;
    metered = omega (arith, sim.metered);
  }
    where
      this : SlotRep s.push s.pop (destroy_bits j i s) s.val (s.own b) i (record { state = (slot_at slots b i).state + 4; value = (slot_at slots b i).value })
      this = subst (λ (o : Own). SlotRep s.push s.pop (destroy_bits j i s) s.val o i
          (record { state = (slot_at slots b i).state + 4; value = (slot_at slots b i).value })) (sym own)
          (rw (upd_same s.destroy j (upd (s.destroy j) i true), upd_same (s.destroy j) i true)
          (ap (λ (y : Slot). record { state = y.state + 4; value = y.value })
          (cell_at b j i own l ∙ ap (λ (t : Bool). slot (state_of (is_done (s.push (32 * j + i))) (read_bit i (s.pop (32 * j + i))) t) (s.val (32 * j + i)))
          clear) ∙ ap (λ (k : ℕ). slot k (s.val (32 * j + i))) (destroy_bit (is_done (s.push (32 * j + i))) (read_bit i (s.pop (32 * j + i))))))

      other_bit : (f k : ℕ) → 32 * f + k ≢ 32 * j + i → (destroy_bits j i s) f k ≡ s.destroy f k
      other_bit f k ne = go (ℕ_discrete f j)
        where
          go : Dec (f ≡ j) → (destroy_bits j i s) f k ≡ s.destroy f k
          go (yes y) = ap (λ (h : ℕ → Bool). h k) (upd_at s.destroy j f (upd (s.destroy j) i true) y)
              ∙ upd_else (s.destroy j) i k true (λ z. ne (ap (λ (m : ℕ). 32 * m + k) y ∙ ap (λ (m : ℕ). 32 * j + m) z))
              ∙ ap (λ (m : ℕ). s.destroy m k) (sym y)
          go (no y) = ap (λ (h : ℕ → Bool). h k) (upd_else s.destroy j f (upd (s.destroy j) i true) y)
