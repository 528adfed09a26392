-- Each kind of effect on the machine's own words: what stood for a queue over positions stands for the queue after it.
use Prim.Native.Nat.{ℕ, ◌+◌, ◌*◌, ◌<◌, ◌≤◌}
use mathlib.Core.Path.{◌≡◌, refl, ap, ◌∙◌}
use mathlib.Core.Logic.{◌≢◌}
use mathlib.Core.Bool.{Bool, true, false}
use mathlib.Core.List.{List}
use native.Mathlib.Omega.{arith}
use lib.ListN.{length, set, length-set}
use Rattle.queue_entries.specs.Limits.{workers_most}
use Rattle.queue_schedules.proofs.Upd.{upd}
use Rattle.unbounded_words.specs.declared.Pointer.{Pointer}
use Rattle.unbounded_words.specs.declared.Pointer.TheVariants.{To}
use Rattle.unbounded_words.specs.declared.Index.{Index}
use Rattle.unbounded_words.specs.Words.{wide, later, with_mark}
use Rattle.unbounded_places.specs.declared.Slot.{Slot}
use Rattle.unbounded_places.specs.declared.Block.{Block}
use Rattle.unbounded_places.specs.declared.Ends.{Ends}
use Rattle.unbounded_places.specs.declared.Place.{Place}
use Rattle.unbounded_places.specs.declared.Worker.{Worker}
use Rattle.unbounded_proof_invariant.proofs.Queue.{Hand, Open, Done, By, Shared, Inv}
use Rattle.unbounded_proof_invariant.proofs.Kept.{at_or_else, hand_by_open, claims, fronts, moves, steps}
use Rattle.unbounded_proof_invariant.proofs.Kept.{takes, heads, reads_last, walks, closes}
use Rattle.unbounded_proof_invariant.proofs.Views.{Rely}
use Rattle.unbounded_proof_words.proofs.Words.{word, later_word, with_mark_word}
use Rattle.unbounded_proof_words.proofs.Stands.{slot_at, place_of, Standing, Sim}
use Rattle.unbounded_proof_words.proofs.Frames.{others_stand, cell_same, claimed_done, claimed_read, last_read}

pub rely_still : (s : Shared) (w : ℕ) → Rely s s w
rely_still s w = record {
  tail_up = omega arith;
  head_up = omega arith;
  blocks_up = omega arith;
  phys_old = (λ j l. refl);
  link_on = (λ j e. e);
  item_old = (λ p l. refl);
  push_mine = (λ p e. e);
  push_only = (λ p e. e);
  push_done = (λ p e. e);
  pop_mine = (λ p e. e);
  pop_only = (λ p e. e);
  first_mine = (λ e. e);
  first_only = (λ e. e);
  first_done = (λ e. e);
  walk_mine = (λ j i e. e);
  walk_only = (λ j i e. e);
  aside_mine = (λ b e. e);
  aside_only = (λ b e. e);
  chain_mine = (λ b j i e q. e);
  val_mine = (λ p e. refl);
  got_mine = refl;
  closed_on = (λ e. e);
  tail_still = (λ p e k q. (refl, refl));
  head_still = (λ p e k q. (refl, refl));
}

module _ (e : Ends) (blocks : List Block) (slots : List Slot) (workers : List Worker) (meter : ℕ) (s : Shared) (sim : Sim e blocks slots workers meter s)
    (w : ℕ) (here : w < workers_most) (q : Place) where
  here_too : w < length workers
  here_too = omega (arith, sim.workers_long)

  abbrev after : List Worker
  after = set workers w (record { place = q })

  long : length after ≡ workers_most
  long = length-set workers w (record { place = q }) ∙ sim.workers_long

  stand : (u : Shared) → ((v : ℕ) → v ≢ w → Rely s u v) → Standing u w q → (v : ℕ) → Standing u v (place_of after v)
  stand u r n = others_stand s u w workers q sim.inv r sim.places here_too n

  -- no word changes (a beginning leaves the meter too)
  pub sim_still : (later : ℕ) → meter ≤ later → Standing s w q → Sim e blocks slots after later s
  sim_still later l n = record {
    inv = sim.inv;
    ends = sim.ends;
    headers = sim.headers;
    cells = sim.cells;
    pool = sim.pool;
    blank = sim.blank;
    places = stand s (λ v k. rely_still s v) n;
    blocks_long = sim.blocks_long;
    slots_long = sim.slots_long;
    workers_long = long;
    metered = omega (arith, sim.metered);
  }

  pub sim_claims : (x : ℕ) → s.closed ≡ false → 2 * s.tail + 3 < wide → Inv (claims w x s) → ((v : ℕ) → v ≢ w → Rely s (claims w x s) v)
      → Standing (claims w x s) w q → Sim (record { head = e.head; front = e.front; tail = later e.tail; back = e.back }) blocks slots after (meter + 1)
      (claims w x s)
  sim_claims x open' small inv' r n = record {
    inv = inv';
    ends = (let k : later e.tail ≡ word (s.tail + 1) s.closed = ap (λ (x : Ends). later x.tail) sim.ends
        ∙ later_word s.tail s.closed small in rw k (ap (λ (x : Ends). record
        { head = x.head; front = x.front; tail = word (s.tail + 1) s.closed; back = x.back }) sim.ends));
    headers = sim.headers;
    cells = (λ b i l k. cell_same s.push (upd s.push s.tail (By w)) s.pop s.pop s.destroy s.destroy s.val s.val (s.own b) i
        (slot_at slots b i) (λ j z. (claimed_done s.push s.tail w (sim.inv.hands.push_open s.tail (omega arith)) (32 * j + i), refl, refl, refl))
        (sim.cells b i l k));
    pool = sim.pool;
    blank = (λ p. at_or_else (λ (h : Hand). h ≡ Open → s.val p ≡ 0) s.push s.tail p (By w) (λ z k. absurd (hand_by_open (By w) w refl k)) (λ z k. sim.blank p k));
    places = stand (claims w x s) r n;
    blocks_long = sim.blocks_long;
    slots_long = sim.slots_long;
    workers_long = long;
    metered = omega (arith, sim.metered);
  }

  pub sim_takes : (m : Bool) (h : Index) → h ≡ word (s.head + 1) m → Inv (takes w m s) → ((v : ℕ) → v ≢ w → Rely s (takes w m s) v)
      → Standing (takes w m s) w q → Sim (record { head = h; front = e.front; tail = e.tail; back = e.back }) blocks slots after (meter + 1) (takes w m s)
  sim_takes m h eh inv' r n = record {
    inv = inv';
    ends = (rw eh (ap (λ (x : Ends). record { head = word (s.head + 1) m; front = x.front; tail = x.tail; back = x.back }) sim.ends));
    headers = sim.headers;
    cells = (λ b i l k. cell_same s.push s.push s.pop (upd s.pop s.head (By w)) s.destroy s.destroy s.val s.val (s.own b) i
        (slot_at slots b i) (λ j z. (refl, claimed_read s.pop s.head w i (sim.inv.hands.pop_open s.head (omega arith)) (32 * j + i), refl, refl))
        (sim.cells b i l k));
    pool = sim.pool;
    blank = sim.blank;
    places = stand (takes w m s) r n;
    blocks_long = sim.blocks_long;
    slots_long = sim.slots_long;
    workers_long = long;
    metered = omega (arith, sim.metered);
  }

  pub sim_steps : 2 * s.tail + 3 < wide → Inv (steps s) → ((v : ℕ) → v ≢ w → Rely s (steps s) v) → Standing (steps s) w q
      → Sim (record { head = e.head; front = e.front; tail = later e.tail; back = e.back }) blocks slots after (meter + 1) (steps s)
  sim_steps small inv' r n = record {
    inv = inv';
    ends = (let k : later e.tail ≡ word (s.tail + 1) s.closed = ap (λ (x : Ends). later x.tail) sim.ends
        ∙ later_word s.tail s.closed small in rw k (ap (λ (x : Ends). record
        { head = x.head; front = x.front; tail = word (s.tail + 1) s.closed; back = x.back }) sim.ends));
    headers = sim.headers;
    cells = sim.cells;
    pool = sim.pool;
    blank = sim.blank;
    places = stand (steps s) r n;
    blocks_long = sim.blocks_long;
    slots_long = sim.slots_long;
    workers_long = long;
    metered = omega (arith, sim.metered);
  }

  pub sim_heads : (m : Bool) (h : Index) → h ≡ word (s.head + 1) m → Inv (heads m s) → ((v : ℕ) → v ≢ w → Rely s (heads m s) v) → Standing (heads m s) w q
      → Sim (record { head = h; front = e.front; tail = e.tail; back = e.back }) blocks slots after (meter + 1) (heads m s)
  sim_heads m h eh inv' r n = record {
    inv = inv';
    ends = (rw eh (ap (λ (x : Ends). record { head = word (s.head + 1) m; front = x.front; tail = x.tail; back = x.back }) sim.ends));
    headers = sim.headers;
    cells = sim.cells;
    pool = sim.pool;
    blank = sim.blank;
    places = stand (heads m s) r n;
    blocks_long = sim.blocks_long;
    slots_long = sim.slots_long;
    workers_long = long;
    metered = omega (arith, sim.metered);
  }

  pub sim_fronts : (b : ℕ) (d : Pointer) → d ≡ To b → Inv (fronts b s) → ((v : ℕ) → v ≢ w → Rely s (fronts b s) v) → Standing (fronts b s) w q
      → Sim (record { head = e.head; front = d; tail = e.tail; back = e.back }) blocks slots after (meter + 1) (fronts b s)
  sim_fronts b d ed inv' r n = record {
    inv = inv';
    ends = (rw ed (ap (λ (x : Ends). record { head = x.head; front = To b; tail = x.tail; back = x.back }) sim.ends));
    headers = sim.headers;
    cells = sim.cells;
    pool = sim.pool;
    blank = sim.blank;
    places = stand (fronts b s) r n;
    blocks_long = sim.blocks_long;
    slots_long = sim.slots_long;
    workers_long = long;
    metered = omega (arith, sim.metered);
  }

  pub sim_moves : (b : ℕ) (d : Pointer) → d ≡ To b → Inv (moves b s) → ((v : ℕ) → v ≢ w → Rely s (moves b s) v) → Standing (moves b s) w q
      → Sim (record { head = e.head; front = d; tail = e.tail; back = e.back }) blocks slots after (meter + 1) (moves b s)
  sim_moves b d ed inv' r n = record {
    inv = inv';
    ends = (rw ed (ap (λ (x : Ends). record { head = x.head; front = To b; tail = x.tail; back = x.back }) sim.ends));
    headers = sim.headers;
    cells = sim.cells;
    pool = sim.pool;
    blank = sim.blank;
    places = stand (moves b s) r n;
    blocks_long = sim.blocks_long;
    slots_long = sim.slots_long;
    workers_long = long;
    metered = omega (arith, sim.metered);
  }

  pub sim_reads_last : (j : ℕ) → Inv (reads_last w j s) → ((v : ℕ) → v ≢ w → Rely s (reads_last w j s) v) → Standing (reads_last w j s) w q → Sim e blocks slots after (meter + 1) (reads_last w j s)
  sim_reads_last j inv' r n = record {
    inv = inv';
    ends = sim.ends;
    headers = sim.headers;
    cells = (λ b i l k. cell_same s.push s.push s.pop (upd s.pop (32 * j + 30) Done) s.destroy s.destroy s.val s.val (s.own b) i
        (slot_at slots b i) (λ c z. (refl, last_read s.pop j c i k, refl, refl)) (sim.cells b i l k));
    pool = sim.pool;
    blank = sim.blank;
    places = stand (reads_last w j s) r n;
    blocks_long = sim.blocks_long;
    slots_long = sim.slots_long;
    workers_long = long;
    metered = omega (arith, sim.metered);
  }

  pub sim_walks : (j i : ℕ) → Inv (walks s.destroy w j i s) → ((v : ℕ) → v ≢ w → Rely s (walks s.destroy w j i s) v)
      → Standing (walks s.destroy w j i s) w q → Sim e blocks slots after (meter + 1) (walks s.destroy w j i s)
  sim_walks j i inv' r n = record {
    inv = inv';
    ends = sim.ends;
    headers = sim.headers;
    cells = sim.cells;
    pool = sim.pool;
    blank = sim.blank;
    places = stand (walks s.destroy w j i s) r n;
    blocks_long = sim.blocks_long;
    slots_long = sim.slots_long;
    workers_long = long;
    metered = omega (arith, sim.metered);
  }

  pub sim_closes : Inv (closes s) → ((v : ℕ) → v ≢ w → Rely s (closes s) v) → Standing (closes s) w q
      → Sim (record { head = e.head; front = e.front; tail = with_mark e.tail; back = e.back }) blocks slots after (meter + 1) (closes s)
  sim_closes inv' r n = record {
    inv = inv';
    ends = (let k : with_mark e.tail ≡ word s.tail true = ap (λ (x : Ends). with_mark x.tail) sim.ends ∙ with_mark_word s.tail s.closed in
        rw k (ap (λ (x : Ends). record { head = x.head; front = x.front; tail = word s.tail true; back = x.back }) sim.ends));
    headers = sim.headers;
    cells = sim.cells;
    pool = sim.pool;
    blank = sim.blank;
    places = stand (closes s) r n;
    blocks_long = sim.blocks_long;
    slots_long = sim.slots_long;
    workers_long = long;
    metered = omega (arith, sim.metered);
  }
