-- A push with a slot in hand ends within five acts of its own, whatever entries of others come between.
use Prim.Native.Nat.{ℕ, zero, suc, ◌+◌, ◌<◌, ◌≤◌}
use mathlib.Core.Path.{◌≡◌, refl, sym, ap, ◌∙◌, subst}
use mathlib.Core.Logic.{◌≢◌}
use mathlib.Core.Bool.{Bool, true, false, cond, true≢false}
use mathlib.Core.List.{List, [], ◌∷◌}
use native.Mathlib.Omega.{arith}
use native.Mathlib.Decide.{ℕ_discrete}
use lib.Dec.{eqb}
use lib.ListN.{length, set}
use borrow.Author.Tests.{eq-eqb, ne_eqb, eqb-true, eqb-false}
use Rattle.queue_entries.specs.declared.Entry.{Entry}
use Rattle.queue_entries.specs.Entries.{entry_of}
use Rattle.queue_schedules.specs.Alone.{act_by}
use Rattle.queue_schedules.proofs.Alone.{Was, others, its_own, its_last, part, goes}
use Rattle.unbounded_words.specs.declared.Pointer.{Pointer}
use Rattle.unbounded_words.specs.declared.Pointer.TheVariants.{None, To}
use Rattle.unbounded_words.specs.declared.Index.{Index}
use Rattle.unbounded_words.specs.Words.{sizes}
use Rattle.unbounded_places.specs.declared.Slot.{Slot}
use Rattle.unbounded_places.specs.declared.Block.{Block}
use Rattle.unbounded_places.specs.declared.Ends.{Ends}
use Rattle.unbounded_places.specs.declared.Worker.{Worker}
use Rattle.unbounded_places.specs.declared.Answer.TheVariants.{Pushed}
use Rattle.unbounded_places.specs.declared.Place.{Place}
use Rattle.unbounded_places.specs.declared.Place.TheVariants.{Idle, U9, U10, U11, U12, U13, U14}
use Rattle.unbounded_places.specs.Places.{view_of, begin_of}
use Rattle.unbounded_acts.specs.Acts.{leave, answered, act_of}
use Rattle.unbounded_machine.specs.declared.Machine.{Machine}
use Rattle.unbounded_machine.specs.Machine.{block_at, slot_at, place_of}
use Rattle.unbounded_machine.specs.Turn.{lowest_free, block_used, slot_used, begun, stored, acted_at, used_by, taken_by, turn_with}
use Rattle.unbounded_demands.proofs.Refusals.{unbounded_queue, turn_kept}
use Rattle.unbounded_demands.specs.Notions.{definition, Pushing, push9, push10, push11, push12, push13}
use Rattle.unbounded_demands.specs.Waiting.{push_left}
use Rattle.unbounded_demands.specs.Demands.{PushEnds}
use Rattle.unbounded_proof_words.proofs.Frames.{get_same, get_other}
use Rattle.unbounded_proof_demand2.proofs.Turns.{stood, Turned, began, used, took, turned}

-- with a slot in hand, or at U14 behind it
data Ending : Place → Type 0 where
  end9 : {n b : Pointer} {t : Index} {x : ℕ} → Ending (U9 n t b x)
  end10 : {n b : Pointer} {t : Index} {x : ℕ} → Ending (U10 n t b x)
  end11 : {n b : Pointer} {t : Index} {x : ℕ} → Ending (U11 n t b x)
  end12 : {n b : Pointer} {t : Index} {x : ℕ} → Ending (U12 n t b x)
  end13 : {n b : Pointer} {t : Index} → Ending (U13 n t b)
  end14 : {n : Pointer} → Ending (U14 n Pushed)

of_hand : (p : Place) (t : Index) → Pushing p t → Ending p
of_hand p t push9 = end9
of_hand p t push10 = end10
of_hand p t push11 = end11
of_hand p t push12 = end12
of_hand p t push13 = end13

ending_busy : (p : Place) → Ending p → ((view_of sizes p).busy ≡ true) × ((view_of sizes p).takes ≡ false)
ending_busy p end9 = (refl, refl)
ending_busy p end10 = (refl, refl)
ending_busy p end11 = (refl, refl)
ending_busy p end12 = (refl, refl)
ending_busy p end13 = (refl, refl)
ending_busy p end14 = (refl, refl)

left_some : (p : Place) → Ending p → 0 < push_left p
left_some p end9 = omega arith
left_some p end10 = omega arith
left_some p end11 = omega arith
left_some p (end12 {n = None}) = omega arith
left_some p (end12 {n = To c}) = omega arith
left_some p (end13 {n = None}) = omega arith
left_some p (end13 {n = To c}) = omega arith
left_some p end14 = omega arith

-- its own act: one step nearer, or the last
data Nearer (p q : Place) : Type 0 where
  on : Ending q → push_left q + 1 ≡ push_left p → Nearer p q
  over : q ≡ Idle Pushed → push_left p ≡ 1 → Nearer p q

nearer : (e : Ends) (k : ℕ) (g : Block) (c : Slot) (lose : Bool) (p : Place) → Ending p → Nearer p (act_of sizes e k g c p lose).place
unfolding leave answered
nearer e k g c lose p end9 = on end10 refl
nearer e k g c lose p end10 = on end11 refl
nearer e k g c lose p end11 = on end12 refl
nearer e k g c lose p (end12 {n = None}) = on end13 refl
nearer e k g c lose p (end12 {n = To d}) = on end13 refl
nearer e k g c lose p (end13 {n = None}) = over refl refl
nearer e k g c lose p (end13 {n = To d}) = on end14 refl
nearer e k g c lose p end14 = over refl refl

-- a busy worker has a record
pub recorded : (ws : List Worker) (w : ℕ) → (view_of sizes (place_of ws w)).busy ≡ true → w < length ws
recorded [] w b = absurd (true≢false (sym b))
recorded (x ∷ ws) zero b = omega arith
recorded (x ∷ ws) (suc w) b = let l = recorded ws w b in omega arith

module _ (w : ℕ) where
  abbrev In : Machine → Type 0
  In m = Ending (place_of m.workers w)

  abbrev Out : Machine → Type 0
  Out m = place_of m.workers w ≡ Idle Pushed

  abbrev most : Machine → ℕ
  most m = push_left (place_of m.workers w)

  abbrev Told : Machine → Machine → ℕ → Type 0
  Told m next n = Was unbounded_queue w In Out most m next n

  -- another's entry
  apart : (m next : Machine) → In m → place_of next.workers w ≡ place_of m.workers w → (n : ℕ) → n ≡ 0 → Told m next n
  apart m next i same n z = others (subst Ending (sym same) i) (ap push_left same) z

  other_place : (ws : List Worker) (v : ℕ) (q : Place) → w ≢ v → place_of (set ws v (record { place = q })) w ≡ place_of ws w
  other_place ws v q n = ap (λ (x : Worker). x.place) (get_other ws v w (record { place = q }) _ n)

  not_mine : (v : ℕ) → w ≢ v → ◌≡◌ {A = ℕ} (cond (eqb v w) 1 0) 0
  not_mine v n = ap {B = ℕ} (λ (t : Bool). cond t 1 0) (ne_eqb v w (λ e. n (sym e)))

  mine : (v : ℕ) → v ≡ w → ◌≡◌ {A = ℕ} (cond (eqb v w) 1 0) 1
  mine v e = ap {B = ℕ} (λ (t : Bool). cond t 1 0) (eq-eqb v w e)

  own : (m : Machine) → In m → (k i : ℕ) (l : List Slot) (lose : Bool) (n : ℕ) → n ≡ 1
      → Told m (stored sizes m w l k i (act_of sizes m.ends k (block_at m.blocks k) (slot_at sizes l k i) (place_of m.workers w) lose)) n
  unfolding stored
  own m i k j l lose n one = go (nearer m.ends k (block_at m.blocks k) (slot_at sizes l k j) lose (place_of m.workers w) i)
    where
      q : Place
      q = (act_of sizes m.ends k (block_at m.blocks k) (slot_at sizes l k j) (place_of m.workers w) lose).place

      there : place_of (set m.workers w (record { place = q })) w ≡ q
      there = ap (λ (x : Worker). x.place) (get_same m.workers w (record { place = q }) _ (recorded m.workers w (ending_busy (place_of m.workers w) i).0))

      go : Nearer (place_of m.workers w) q → Told m (stored sizes m w l k j (act_of sizes m.ends k (block_at m.blocks k) (slot_at sizes l k j) (place_of m.workers w) lose)) n
      go (on e less) = its_own (subst Ending (sym there) e) (ap (λ (p : Place). push_left p + 1) there ∙ less) one
      go (over e last) = its_last (there ∙ e) last one

  turned_told : (m : Machine) (x : Entry) (next : Machine) → In m → Turned m x next → Told m next (act_by w x)
  unfolding begun acted_at stored
  turned_told m x next i (began v c l idle) = go (ℕ_discrete w v)
    where
      go : Dec (w ≡ v) → Told m (begun m v (begin_of c)) 0
      go (yes e) = absurd (true≢false (sym (ending_busy (place_of m.workers w) i).0 ∙ ap (λ (u : ℕ). (view_of sizes (place_of m.workers u)).busy) e ∙ idle))
      go (no n) = apart m (begun m v (begin_of c)) i (other_place m.workers v (begin_of c) n) 0 refl
  turned_told m x next i (used v asked lose b t) = go (ℕ_discrete v w)
    where
      go : Dec (v ≡ w) → Told m (used_by sizes act_of m v (stood m v) lose) (cond (eqb v w) 1 0)
      go (yes e) =
          subst (λ (u : ℕ). Told m (used_by sizes act_of m u (stood m u) lose) (cond (eqb v w) 1 0)) (sym e)
          (own m i (block_used (view_of sizes (stood m w)).uses) (slot_used (view_of sizes (stood m w)).uses) m.slots lose (cond (eqb v w) 1 0) (mine v e))
      go (no n) = apart m (used_by sizes act_of m v (stood m v) lose) i (other_place m.workers v _ (λ e. n (sym e))) (cond (eqb v w) 1 0) (not_mine v (λ e. n (sym e)))
  turned_told m x next i (took v asked lose b t l) = go (ℕ_discrete v w)
    where
      go : Dec (v ≡ w) → Told m (taken_by sizes act_of m v (stood m v) lose (lowest_free sizes m.blocks)) (cond (eqb v w) 1 0)
      go (yes e) = absurd (true≢false (sym t ∙ ap (λ (u : ℕ). (view_of sizes (place_of m.workers u)).takes) e ∙ (ending_busy (place_of m.workers w) i).1))
      go (no n) =
          apart m (taken_by sizes act_of m v (stood m v) lose (lowest_free sizes m.blocks)) i (other_place m.workers v _ (λ e. n (sym e))) (cond (eqb v w) 1 0) (not_mine v (λ e. n (sym e)))

  each : (m : Machine) (a b : ℕ) → In m → Told m (turn_with sizes act_of m a b).machine (part unbounded_queue w In Out most m a b)
  each m a b i = go (eqb (turn_with sizes act_of m a b).refusal 0) refl
    where
      go : (t : Bool) → eqb (turn_with sizes act_of m a b).refusal 0 ≡ t → Told m (turn_with sizes act_of m a b).machine (cond t (act_by w (entry_of a b)) 0)
      go true e = turned_told m (entry_of a b) (turn_with sizes act_of m a b).machine i (turned m a b (eqb-true _ 0 e))
      go false e = apart m (turn_with sizes act_of m a b).machine i (ap (λ (x : Machine). place_of x.workers w) (turn_kept m a b (eqb-false _ 0 e))) 0 refl

left_most : (p : Place) (t : Index) → Pushing p t → push_left p ≤ 5
left_most p t push9 = omega arith
left_most p t push10 = omega arith
left_most p t push11 = omega arith
left_most p t (push12 {n = None}) = omega arith
left_most p t (push12 {n = To c}) = omega arith
left_most p t (push13 {n = None}) = omega arith
left_most p t (push13 {n = To c}) = omega arith

pub push_ends : PushEnds (definition sizes act_of)
push_ends =
    record {
      ends = λ m w t entries h enough.
          let g = goes unbounded_queue w (In w) (Out w) (most w) (λ m i. left_some (place_of m.workers w) i) (each w) entries m (of_hand (place_of m.workers w) t h) enough in
          record { before = g.before; after = g.after; split = g.split; count = g.count; ends = g.out };
      most = left_most;
    }
