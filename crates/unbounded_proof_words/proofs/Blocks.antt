-- Blocks that change hands: taken, set in the chain, freed; on the machine's own lists. And the fresh machine.
use Prim.Native.Nat.{ℕ, ◌+◌, ◌*◌, ◌-◌, ◌<◌, ◌≤◌}
use mathlib.Core.Path.{◌≡◌, refl, sym, ap, ◌∙◌, subst}
use mathlib.Core.Logic.{◌≢◌}
use mathlib.Core.Bool.{Bool, true, false, cond}
use mathlib.Core.List.{List}
use native.Mathlib.Omega.{arith}
use borrow.Author.Tests.{ne_eqb}
use lib.ListN.{length, set, length-set}
use Rattle.queue_entries.specs.Limits.{workers_most}
use Rattle.queue_schedules.proofs.Upd.{upd, upd_same, upd_else, upd_at}
use Rattle.unbounded_words.specs.declared.Pointer.{Pointer}
use Rattle.unbounded_words.specs.declared.Pointer.TheVariants.{None, To}
use Rattle.unbounded_places.specs.declared.Slot.{Slot}
use Rattle.unbounded_places.specs.declared.Block.{Block}
use Rattle.unbounded_places.specs.declared.Ends.{Ends}
use Rattle.unbounded_places.specs.declared.Place.{Place}
use Rattle.unbounded_places.specs.declared.Worker.{Worker}
use Rattle.unbounded_proof_invariant.proofs.Queue.{none, Open, Dest, Wait, Walk, Own, Free, Aside, Chain, Shared, Inv}
use Rattle.unbounded_proof_invariant.proofs.Kept.{at_or_else, hand_by_open, hand_open_done, installs}
use Rattle.unbounded_proof_invariant.proofs.Kept.{appends}
use Rattle.unbounded_proof_invariant.proofs.Kept.{owned, frees, start}
use Rattle.unbounded_proof_invariant.proofs.Views.{Rest, Rely}
use Rattle.unbounded_proof_invariant.proofs.Own.{Good, none_not_to}
use Rattle.unbounded_proof_words.proofs.Cells.{header_set}
use Rattle.unbounded_proof_words.proofs.Words.{word}
use Rattle.unbounded_proof_words.proofs.Stands.{new_block, slot, block_at, slot_at, place_of, ptr, back_of, HeadRep, SlotRep, Standing, Sim}
use Rattle.unbounded_proof_words.proofs.Frames.{others_stand, fresh_cell, fresh_header}

-- a bit that cannot be set is clear
clear : (t : Bool) → (t ≡ true → ⊥) → t ≡ false
clear true n = absurd (n refl)
clear false n = refl

module _ (e : Ends) (blocks : List Block) (slots : List Slot) (workers : List Worker) (meter : ℕ) (s : Shared) (sim : Sim e blocks slots workers meter s)
    (w : ℕ) (here : w < workers_most) (q : Place) where
  abbrev after : List Worker
  after = set workers w (record { place = q })

  long : length after ≡ workers_most
  long = length-set workers w (record { place = q }) ∙ sim.workers_long

  stand : (u : Shared) → ((v : ℕ) → v ≢ w → Rely s u v) → Standing u w q → (v : ℕ) → Standing u v (place_of after v)
  stand u r n = others_stand s u w workers q sim.inv r sim.places (omega (arith, sim.workers_long)) n

  aside_taken : (b v : ℕ) → s.own b ≡ Aside v → s.own b ≢ Free
  aside_taken b v p z = let k : ◌≡◌ {A = ℕ} 0 1 = cc in omega arith

  -- nothing of a block past tail is popped, so nobody destroys it, and its next is not stored
  waits_past : (j : ℕ) → s.tail ≤ 32 * j + 30 → s.dest j ≡ Wait
  waits_past j l = sim.inv.dests.waits j (λ d. hand_open_done (s.pop (32 * j + 30)) (sim.inv.hands.pop_open (32 * j + 30) (omega (arith, sim.inv.ends.low))) d)

  untied : (j : ℕ) → s.tail < 32 * (j + 1) → s.link j ≡ false
  untied j l = clear (s.link j) (λ t. let a = sim.inv.hands.linked j t in omega arith)

  -- w's block b becomes the j-th of the chain
  module _ (b j : ℕ) (mine : s.own b ≡ Aside w) (past : s.tail ≤ 32 * j) (next : (k : ℕ) → s.link k ≡ true → k + 1 ≢ j) where
    chain_headers : (c : ℕ) → c < 64 → HeadRep s.link (upd s.phys j b) (upd s.own b (Chain j) c) (block_at blocks c)
    chain_headers c l =
        at_or_else (λ (o : Own). HeadRep s.link (upd s.phys j b) o (block_at blocks c)) s.own b c (Chain j)
        (λ z. subst (λ (o : Own). HeadRep s.link s.phys o (block_at blocks c)) (ap s.own z ∙ mine) (sim.headers c l) ∙ fresh_header s.link (upd s.phys j b) j (untied j (omega arith)))
        (λ z. same (s.own c) (sim.headers c l))
      where
        same_next : (k : ℕ) (t : Bool) → s.link k ≡ t → cond t (To (s.phys (k + 1))) None ≡ cond t (To (upd s.phys j b (k + 1))) None
        same_next k true z = ap To (sym (upd_else s.phys j (k + 1) b (next k z)))
        same_next k false z = refl

        same : (o : Own) → HeadRep s.link s.phys o (block_at blocks c) → HeadRep s.link (upd s.phys j b) o (block_at blocks c)
        same Free h = h
        same (Aside v) h = h
        same (Chain k) h = h ∙ ap (λ (d : Pointer). record { next = d; free = false }) (same_next k (s.link k) refl)

    chain_cells : (c i : ℕ) → c < 64 → i < 31 → SlotRep s.push s.pop s.destroy s.val (upd s.own b (Chain j) c) i (slot_at slots c i)
    chain_cells c i l k =
        at_or_else (λ (o : Own). SlotRep s.push s.pop s.destroy s.val o i (slot_at slots c i)) s.own b c (Chain j)
        (λ z. subst (λ (o : Own). SlotRep s.push s.pop s.destroy s.val o i (slot_at slots c i)) (ap s.own z ∙ mine) (sim.cells c i l k)
        ∙ fresh_cell s sim.inv sim.blank j i (omega arith) k (waits_past j (omega arith)))
        (λ z. sim.cells c i l k)

    chain_pool : (c : ℕ) → upd s.own b (Chain j) c ≢ Free → c < 64
    chain_pool c = at_or_else (λ (o : Own). o ≢ Free → c < 64) s.own b c (Chain j) (λ z k. rw z (sim.pool b (aside_taken b w mine))) (λ z k. sim.pool c k)

  -- U5
  pub sim_installs : (b : ℕ) (d : Pointer) → d ≡ To b → s.blocks ≡ 0 → s.own b ≡ Aside w → Inv (installs w b s) → ((v : ℕ) → v ≢ w → Rely s (installs w b s) v) → Standing (installs w b s) w q
      → Sim (record { head = e.head; front = e.front; tail = e.tail; back = d }) blocks slots after (meter + 1) (installs w b s)
  sim_installs b d ed empty mine inv' r n =
      let z : s.tail ≡ 0 = sim.inv.ends.none_yet empty in
      record {
        inv = inv';
        ends = (rw ed (ap (λ (x : Ends). record { head = x.head; front = x.front; tail = x.tail; back = To b }) sim.ends
            ∙ ap (λ (k : ℕ). record { head = word s.head s.mark; front = ptr s.front; tail = word s.tail s.closed; back = To k })
            (sym (upd_same s.phys 0 b))));
        headers = chain_headers b 0 mine (omega arith) (λ k t y. omega arith);
        cells = chain_cells b 0 mine (omega arith) (λ k t y. omega arith);
        pool = chain_pool b 0 mine (omega arith) (λ k t y. omega arith);
        blank = sim.blank;
        places = stand (installs w b s) r n;
        blocks_long = sim.blocks_long;
        slots_long = sim.slots_long;
        workers_long = long;
        metered = omega (arith, sim.metered);
      }

  -- U9
  pub sim_appends : (b : ℕ) (d : Pointer) → d ≡ To b → 0 < s.blocks → s.own b ≡ Aside w → Inv (appends b s) → ((v : ℕ) → v ≢ w → Rely s (appends b s) v) → Standing (appends b s) w q
      → Sim (record { head = e.head; front = e.front; tail = e.tail; back = d }) blocks slots after (meter + 1) (appends b s)
  sim_appends b d ed some mine inv' r n =
      let a = sim.inv.ends.some some in
      record {
        inv = inv';
        ends = (rw ed (ap (λ (x : Ends). record { head = x.head; front = x.front; tail = x.tail; back = To b }) sim.ends
            ∙ ap (λ (p : Pointer). record { head = word s.head s.mark; front = ptr s.front; tail = word s.tail s.closed; back = p }) back_is));
        headers = chain_headers b s.blocks mine (omega arith) not_last;
        cells = chain_cells b s.blocks mine (omega arith) not_last;
        pool = chain_pool b s.blocks mine (omega arith) not_last;
        blank = sim.blank;
        places = stand (appends b s) r n;
        blocks_long = sim.blocks_long;
        slots_long = sim.slots_long;
        workers_long = long;
        metered = omega (arith, sim.metered);
      }
    where
      not_last : (k : ℕ) → s.link k ≡ true → k + 1 ≢ s.blocks
      not_last k t y = let l = sim.inv.hands.linked k t in let a = sim.inv.ends.some some in omega arith

      back_is : To b ≡ back_of (s.blocks + 1) (upd s.phys s.blocks b)
      back_is =
          let k : s.blocks + 1 - 1 ≡ s.blocks = omega arith in
          ap To (sym (ap (upd s.phys s.blocks b) k ∙ upd_same s.phys s.blocks b))
          ∙ ap (λ (t : Bool). cond t None (To (upd s.phys s.blocks b (s.blocks + 1 - 1)))) (sym (ne_eqb (s.blocks + 1) 0 (λ y. omega arith)))

  -- U3 and U4: block b is taken, with its slots as `Block::new` makes them
  pub sim_takes_block : (b : ℕ) (clean : List Slot) → s.own b ≡ Free → b < 64 → length clean ≡ 1984 → ((i : ℕ) → i < 31 → slot_at clean b i ≡ slot 0 0)
      → ((c i : ℕ) → c ≢ b → i < 31 → slot_at clean c i ≡ slot_at slots c i)
      → Inv (owned b (Aside w) s) → ((v : ℕ) → v ≢ w → Rely s (owned b (Aside w) s) v) → Standing (owned b (Aside w) s) w q
      → Sim e (set blocks b new_block) clean after (meter + 1) (owned b (Aside w) s)
  sim_takes_block b clean free small size fresh rest inv' r n = record {
    inv = inv';
    ends = sim.ends;
    headers = header_set s.link s.phys (upd s.own b (Aside w)) blocks b new_block (omega (arith, sim.blocks_long))
        (subst (λ (o : Own). HeadRep s.link s.phys o new_block) (sym (upd_same s.own b (Aside w))) refl)
        (λ c k l. subst (λ (o : Own). HeadRep s.link s.phys o (block_at blocks c)) (sym (upd_else s.own b c (Aside w) k)) (sim.headers c l));
    cells = (λ c i l k. at_or_else (λ (o : Own). SlotRep s.push s.pop s.destroy s.val o i (slot_at clean c i)) s.own b c (Aside w)
        (λ z. ap (λ (x : ℕ). slot_at clean x i) z ∙ fresh i k) (λ z. subst (SlotRep s.push s.pop s.destroy s.val (s.own c) i) (sym (rest c i z k))
        (sim.cells c i l k)));
    pool = (λ c. at_or_else (λ (o : Own). o ≢ Free → c < 64) s.own b c (Aside w) (λ z k. rw z small) (λ z k. sim.pool c k));
    blank = sim.blank;
    places = stand (owned b (Aside w) s) r n;
    blocks_long = length-set blocks b new_block ∙ sim.blocks_long;
    slots_long = size;
    workers_long = long;
    metered = omega (arith, sim.metered);
  }

  -- U14 and U15: a block set aside is freed
  pub sim_gives_back : (b : ℕ) → b < 64 → Inv (owned b Free s) → ((v : ℕ) → v ≢ w → Rely s (owned b Free s) v) → Standing (owned b Free s) w q
      → Sim e (set blocks b (record { next = (block_at blocks b).next; free = true })) slots after (meter + 1) (owned b Free s)
  sim_gives_back b small inv' r n = record {
    inv = inv';
    ends = sim.ends;
    headers = header_set s.link s.phys (upd s.own b Free) blocks b (record { next = (block_at blocks b).next; free = true })
        (omega (arith, sim.blocks_long)) (subst (λ (o : Own). HeadRep s.link s.phys o (record { next = (block_at blocks b).next; free = true }))
        (sym (upd_same s.own b Free)) refl) (λ c k l. subst (λ (o : Own). HeadRep s.link s.phys o (block_at blocks c))
        (sym (upd_else s.own b c Free (k))) (sim.headers c l));
    cells = (λ c i l k. at_or_else (λ (o : Own). SlotRep s.push s.pop s.destroy s.val o i (slot_at slots c i)) s.own b c Free (λ z. tt) (λ z. sim.cells c i l k));
    pool = (λ c. at_or_else (λ (o : Own). o ≢ Free → c < 64) s.own b c Free (λ z k. absurd (k refl)) (λ z k. sim.pool c k));
    blank = sim.blank;
    places = stand (owned b Free s) r n;
    blocks_long = length-set blocks b _ ∙ sim.blocks_long;
    slots_long = sim.slots_long;
    workers_long = long;
    metered = omega (arith, sim.metered);
  }

  -- V15: a block of the chain is freed
  pub sim_frees : (b : ℕ) → b < 64 → (j : ℕ) → b ≡ s.phys j → Inv (frees j s) → ((v : ℕ) → v ≢ w → Rely s (frees j s) v) → Standing (frees j s) w q
      → Sim e (set blocks b (record { next = (block_at blocks b).next; free = true })) slots after (meter + 1) (frees j s)
  sim_frees b small j at inv' r n = record {
    inv = inv';
    ends = sim.ends;
    headers = header_set s.link s.phys (upd s.own (s.phys j) Free) blocks b (record { next = (block_at blocks b).next; free = true })
        (omega (arith, sim.blocks_long)) (subst (λ (o : Own). HeadRep s.link s.phys o (record { next = (block_at blocks b).next; free = true }))
        (sym (upd_at s.own (s.phys j) b Free at)) refl) (λ c k l. subst (λ (o : Own). HeadRep s.link s.phys o (block_at blocks c))
        (sym (upd_else s.own (s.phys j) c Free (λ y. k (y ∙ sym at)))) (sim.headers c l));
    cells = (λ c i l k. at_or_else (λ (o : Own). SlotRep s.push s.pop s.destroy s.val o i (slot_at slots c i)) s.own (s.phys j) c Free (λ z. tt) (λ z. sim.cells c i l k));
    pool = (λ c. at_or_else (λ (o : Own). o ≢ Free → c < 64) s.own (s.phys j) c Free (λ z k. absurd (k refl)) (λ z k. sim.pool c k));
    blank = sim.blank;
    places = stand (frees j s) r n;
    blocks_long = length-set blocks b _ ∙ sim.blocks_long;
    slots_long = sim.slots_long;
    workers_long = long;
    metered = omega (arith, sim.metered);
  }

-- ---- the fresh machine stands for the empty queue
pub start_good : (w : ℕ) → Good start w none none Rest
start_good w = record {
  aside = (λ b e. absurd (none_not_to none b refl e));
  new = (λ b e. absurd (none_not_to none b refl e));
  apart = (λ b e f. none_not_to none b refl e);
  seen = tt;
  pushes = (λ p e. absurd (hand_by_open Open w e refl));
  pops = (λ p e. absurd (hand_by_open Open w e refl));
  firsts = (λ e. absurd (hand_by_open Open w e refl));
  walks = (λ j i e. absurd (wait_walk Wait w i refl e));
  asides = (λ b e. absurd (free_aside Free w refl e));
}
  where
    wait_walk : (x : Dest) (v i : ℕ) → x ≡ Wait → x ≡ Walk v i → ⊥
    wait_walk x v i p q = let z : ◌≡◌ {A = ℕ} 0 1 = cc in omega arith

    free_aside : (x : Own) (v : ℕ) → x ≡ Free → x ≡ Aside v → ⊥
    free_aside x v p q = let z : ◌≡◌ {A = ℕ} 0 1 = cc in omega arith
