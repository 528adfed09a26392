-- What is said of the pool under every schedule.
use Prim.Native.Nat.{ℕ, ◌/◌, ◌%◌}
use mathlib.Core.Path.{◌≡◌, sym, ap, ◌∙◌}
use mathlib.Core.Bool.{Bool, false, true≢false}
use mathlib.Core.List.{List, []}
use native.Mathlib.Omega.{arith}
use Rattle.queue_entries.specs.Entries.{entry_of}
use Rattle.queue_schedules.proofs.Histories.{entries_lead}
use Rattle.unbounded_words.specs.declared.Pointer.{Pointer}
use Rattle.unbounded_words.specs.declared.Pointer.TheVariants.{None, To}
use Rattle.unbounded_words.specs.declared.Index.{Index}
use Rattle.unbounded_words.specs.Words.{sizes, offset_of}
use Rattle.unbounded_places.specs.declared.Place.{Place}
use Rattle.unbounded_acts.specs.Acts.{act_of}
use Rattle.unbounded_machine.specs.declared.Machine.{Machine}
use Rattle.unbounded_machine.specs.declared.Event.{Event}
use Rattle.unbounded_machine.specs.Machine.{fresh_of}
use Rattle.unbounded_machine.specs.History.{events_of}
use Rattle.unbounded_demands.proofs.Refusals.{unbounded_queue}
use Rattle.unbounded_demands.specs.Notions.{definition, Allowed, machine_after, acts_of, Reads, read11}
use Rattle.unbounded_demands.specs.Waiting.{PushingIn, in9, in10, in11, in12, in13, PoppingIn, out6, out7, out8, out9, out10, out11, out12, OneSlot}
use Rattle.unbounded_demands.specs.Demands.{OneHandInPool, PoolUnderEverySchedule}
use Rattle.unbounded_proof_invariant.proofs.Queue.{Ptr, Hand, By, Done, Chain, Shared}
use Rattle.unbounded_proof_invariant.proofs.Kept.{hand_by_done, chain_number}
use Rattle.unbounded_proof_invariant.proofs.Views.{Seen, PushIn, PopIn, SeenOk}
use Rattle.unbounded_proof_words.proofs.Words.{word, offset_word}
use Rattle.unbounded_proof_words.proofs.Stands.{Stands, u9, u10, u11, u12, u13, v6, v7, v8, v9, v10, v11, v12, Standing}
use Rattle.unbounded_proof_words.proofs.Live.{push_live, pop_live}
use Rattle.unbounded_proof_demand2.proofs.Turns.{stood, turned}
use Rattle.unbounded_proof_demand2.proofs.Reached.{Reached, turned_reached}
use Rattle.unbounded_proof_demand2.proofs.Demand2.{fresh_stood, fresh_reached}
use Rattle.unbounded_proof_pool.proofs.Aside.{fine, AllFine, turned_fine}

-- ---- no second block is set aside
abbrev pub Both : ℕ → Machine → List Event → Type 0
Both workers m h = Reached workers m h × AllFine m

fresh_fine : (workers : ℕ) → AllFine (fresh_of sizes workers)
unfolding fresh_of
fresh_fine workers v = ap (fine None) (fresh_stood v)

pub both_reached : (workers : ℕ) → Allowed workers → (s : List ℕ) → Both workers (machine_after (definition sizes act_of) workers s) (acts_of (definition sizes act_of) workers s)
both_reached workers a s =
    entries_lead unbounded_queue events_of (Both workers)
    (λ m h x y r e. (
      turned_reached workers a.worker_most m h r.0 (entry_of x y) _ (turned m x y e),
      turned_fine m r.0.queue r.0.sim r.1 (entry_of x y) _ (turned m x y e) (λ w l. omega (arith, r.0.team, a.worker_most, r.0.sim.workers_long)),
    )) s (fresh_of sizes workers) [] 0 (fresh_reached workers, fresh_fine workers)

-- ---- one hand on a slot of the pool
-- a push, and a pop, in hand at a slot of block b
pub record PushAt (s : Shared) (w : ℕ) (b : Pointer) (t : Index) : Type 0 where
  pub at : ℕ
  pub block : ℕ
  pub mark : Bool
  pub to_block : b ≡ To block
  pub word_is : t ≡ word at mark
  pub held : PushIn s w at block

pub record PopAt (s : Shared) (w : ℕ) (b : Pointer) (t : Index) : Type 0 where
  pub at : ℕ
  pub block : ℕ
  pub mark : Bool
  pub to_block : b ≡ To block
  pub word_is : t ≡ word at mark
  pub held : PopIn s w at block

module _ (s : Shared) (w : ℕ) where
  push_at : (p : Place) (a n : Ptr) (x : Seen) (b : Pointer) (t : Index) → PushingIn p b t → Stands p a n x → SeenOk s w x → PushAt s w b t
  push_at p a n x b t in9 (u9 {p = i} {b = k} en et ed) o = record { at = i; block = k; mark = false; to_block = ed; word_is = et; held = o.0 }
  push_at p a n x b t in10 (u10 {p = i} {b = k} en et ed) o = record { at = i; block = k; mark = false; to_block = ed; word_is = et; held = o.0 }
  push_at p a n x b t in11 (u11 {p = i} {b = k} en et ed) o = record { at = i; block = k; mark = false; to_block = ed; word_is = et; held = o.0 }
  push_at p a n x b t in12 (u12 {p = i} {b = k} en et ed) o = record { at = i; block = k; mark = false; to_block = ed; word_is = et; held = o.0 }
  push_at p a n x b t in13 (u13 {p = i} {b = k} en et ed) o = record { at = i; block = k; mark = false; to_block = ed; word_is = et; held = o.0 }

  pop_at : (p : Place) (a n : Ptr) (x : Seen) (b : Pointer) (t : Index) → PoppingIn p b t → Stands p a n x → SeenOk s w x → PopAt s w b t
  pop_at p a n x b t out6 (v6 {p = i} {b = k} m l eh ed ew) o = record { at = i; block = k; mark = m; to_block = ed; word_is = eh; held = o.0 }
  pop_at p a n x b t out7 (v7 {p = i} {b = k} m l eh ed ew ec) o = record { at = i; block = k; mark = m; to_block = ed; word_is = eh; held = o.0 }
  pop_at p a n x b t out8 (v8 {p = i} {b = k} m eh ed ec ew) o = record { at = i; block = k; mark = m; to_block = ed; word_is = eh; held = o.0 }
  pop_at p a n x b t out9 (v9 {p = i} {b = k} m eh ed ew) o = record { at = i; block = k; mark = m; to_block = ed; word_is = eh; held = o.0 }
  pop_at p a n x b t out10 (v10 {p = i} {b = k} m eh ed) o = record { at = i; block = k; mark = m; to_block = ed; word_is = eh; held = o.0 }
  pop_at p a n x b t out11 (v11 {p = i} {b = k} m eh ed) o = record { at = i; block = k; mark = m; to_block = ed; word_is = eh; held = o.0 }
  pop_at p a n x b t out12 (v12 {p = i} {b = k} m eh ed) o = record { at = i; block = k; mark = m; to_block = ed; word_is = eh; held = o.0 }

  reads_at : (p : Place) (a n : Ptr) (x : Seen) (b : Pointer) (t : Index) → Reads p b t → Stands p a n x → SeenOk s w x → (q : PopAt s w b t) × (s.push q.at ≡ Done)
  reads_at p a n x b t read11 (v11 {p = i} {b = k} m eh ed) o = (record { at = i; block = k; mark = m; to_block = ed; word_is = eh; held = o.0 }, o.2)

to_one : (a b : ℕ) → To a ≡ To b → a ≡ b
to_one a b e = cc

by_one : (x : Hand) (v w : ℕ) → x ≡ By v → x ≡ By w → v ≡ w
by_one x v w p q = cc

-- a slot of a block that is in the chain is that of one position
one_position : (s : Shared) (b c : Pointer) (t u : Index) (i j k l : ℕ) (m n : Bool) → b ≡ To k → c ≡ To l → t ≡ word i m → u ≡ word j n
    → s.own k ≡ Chain (i / 32) → s.own l ≡ Chain (j / 32) → OneSlot sizes b t c u → i ≡ j
one_position s b c t u i j k l m n eb ec et eu oi oj o =
    let same : k ≡ l = to_one k l (sym eb ∙ o.0 ∙ ec) in
    let blocks : i / 32 ≡ j / 32 = chain_number (i / 32) (j / 32) (sym oi ∙ ap s.own same ∙ oj) in
    let offsets : i % 32 ≡ j % 32 = sym (ap (offset_of sizes) et ∙ offset_word i m) ∙ o.1 ∙ ap (offset_of sizes) eu ∙ offset_word j n in
    omega arith

module _ (workers : ℕ) (m : Machine) (h : List Event) (r : Reached workers m h) where
  abbrev s : Shared
  s = r.queue

  stands : (w : ℕ) → Standing s w (stood m w)
  stands w = r.sim.places w

  pushed : (w : ℕ) (b : Pointer) (t : Index) → PushingIn (stood m w) b t → PushAt s w b t
  pushed w b t a = push_at s w (stood m w) (stands w).aside (stands w).new (stands w).seen b t a (stands w).at (stands w).good.seen

  popped : (w : ℕ) (b : Pointer) (t : Index) → PoppingIn (stood m w) b t → PopAt s w b t
  popped w b t a = pop_at s w (stood m w) (stands w).aside (stands w).new (stands w).seen b t a (stands w).at (stands w).good.seen

  push_own : (w : ℕ) (b : Pointer) (t : Index) (q : PushAt s w b t) → s.own q.block ≡ Chain (q.at / 32)
  push_own w b t q = push_live s r.sim.inv w q.at q.block q.held

  pop_own : (w : ℕ) (b : Pointer) (t : Index) (q : PopAt s w b t) → s.own q.block ≡ Chain (q.at / 32)
  pop_own w b t q = pop_live s r.sim.inv w q.at q.block q.held

  one_hand : OneHandInPool (definition sizes act_of) m
  one_hand = (
    (λ v w b c t u x y o. let p = pushed v b t x in let q = pushed w c u y in
        let e = one_position s b c t u p.at q.at p.block q.block p.mark q.mark p.to_block q.to_block p.word_is q.word_is (push_own v b t p) (push_own w c u q) o in
        by_one (s.push p.at) v w p.held.0 (ap s.push e ∙ q.held.0)),
    (λ v w b c t u x y o. let p = popped v b t x in let q = popped w c u y in
        let e = one_position s b c t u p.at q.at p.block q.block p.mark q.mark p.to_block q.to_block p.word_is q.word_is (pop_own v b t p) (pop_own w c u q) o in
        by_one (s.pop p.at) v w p.held.0 (ap s.pop e ∙ q.held.0)),
    (λ v w b c t u x y o. let p = pushed v b t x in
        let z = reads_at s w (stood m w) (stands w).aside (stands w).new (stands w).seen c u y (stands w).at (stands w).good.seen in let q = z.0 in
        let e = one_position s b c t u p.at q.at p.block q.block p.mark q.mark p.to_block q.to_block p.word_is q.word_is (push_own v b t p) (pop_own w c u q) o in
        hand_by_done (s.push p.at) v p.held.0 (ap s.push e ∙ z.1)),
  )

pub pool_kept : PoolUnderEverySchedule (definition sizes act_of)
pool_kept workers a s =
    let b = both_reached workers a s in
    record {
      one_aside = λ w n new x e. true≢false (sym (b.1 w) ∙ ap (fine (machine_after (definition sizes act_of) workers s).ends.back) e);
      one_hand = one_hand workers (machine_after (definition sizes act_of) workers s) (acts_of (definition sizes act_of) workers s) b.0;
    }
