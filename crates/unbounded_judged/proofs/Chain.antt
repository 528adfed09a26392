-- Blocks that are linked from head's to tail's: `Drop`'s walk is sound.
use Prim.Native.Nat.{ℕ, zero, suc, ◌+◌, ◌*◌, ◌-◌, ◌/◌, ◌%◌, ◌^◌, ◌<◌, ◌≤◌}
use mathlib.Core.Path.{◌≡◌, refl, sym, ap, ◌∙◌, subst}
use mathlib.Core.Bool.{Bool, true, false, cond, not, true≢false}
use mathlib.Core.List.{List}
use native.Mathlib.Omega.{arith}
use lib.Dec.{ltb, eqb}
use borrow.Author.Tests.{lt-ltb, eq-eqb, ne_eqb, eqb-true, ltb-true}
use Rattle.queue_entries.proofs.Pick.{both_left, both_right}
use Rattle.unbounded_words.specs.declared.Index.{Index}
use Rattle.unbounded_words.specs.declared.Pointer.{Pointer}
use Rattle.unbounded_words.specs.declared.Pointer.TheVariants.{None, To}
use Rattle.unbounded_words.specs.Words.{sizes, index, past_slots, unmarked_of, later, same, number_of}
use Rattle.unbounded_places.specs.declared.Block.{Block}
use Rattle.unbounded_places.specs.declared.Ends.{Ends}
use Rattle.unbounded_acts.specs.Acts.{new_block}
use Rattle.unbounded_machine.specs.Machine.{live, block_at}
use Rattle.unbounded_machine.specs.Drop.{last_fits, without, walk_from, walk_of}
use Rattle.unbounded_judged.specs.Judged.{lap_of, ahead_of, next_of, linked_from}
use Rattle.unbounded_judged.proofs.Judged.{get_other}

-- ---- what blocks that are linked have
module _ (l : List Block) where
  pub linked_live : (d k : ℕ) → linked_from sizes d l k ≡ true → live sizes l k ≡ true
  unfolding linked_from
  linked_live zero k h = both_left (live sizes l k) _ h
  linked_live (suc d) k h = both_left (live sizes l k) _ h

  linked_next : (d k : ℕ) → linked_from sizes (suc d) l k ≡ true → linked_from sizes d l (next_of sizes l k) ≡ true
  unfolding linked_from
  linked_next d k h = both_right (live sizes l k) _ h

  live_low : (k : ℕ) → live sizes l k ≡ true → k < 64
  unfolding live
  live_low k h = ltb-true k 64 (both_left (ltb k 64) _ h)

  no_next : (k : ℕ) → linked_from sizes zero l k ≡ true → next_of sizes l k < 64 → ⊥
  unfolding linked_from
  no_next k h lt =
      let p : not (ltb (next_of sizes l k) 64) ≡ true = both_right (live sizes l k) _ h in
      true≢false (sym p ∙ ap not (lt-ltb _ _ lt))

  -- the end stands at one distance
  one_way : (d c k : ℕ) → linked_from sizes d l k ≡ true → linked_from sizes c l k ≡ true → d ≡ c
  one_way zero zero k p q = refl
  one_way zero (suc c) k p q = absurd (no_next k p (live_low (next_of sizes l k) (linked_live c (next_of sizes l k) (linked_next c k q))))
  one_way (suc d) zero k p q = absurd (no_next k q (live_low (next_of sizes l k) (linked_live d (next_of sizes l k) (linked_next d k p))))
  one_way (suc d) (suc c) k p q = ap suc (one_way d c (next_of sizes l k) (linked_next d k p) (linked_next c k q))

-- ---- the walk's steps
later_is : (h : Index) → h.0 + 2 < 2 ^ 64 → (later h).0 ≡ h.0 + 2
unfolding later
later_is h lt = omega arith

last_live : (l : List Block) (b : Pointer) → live sizes l (number_of sizes b) ≡ true → last_fits sizes l b ≡ true
unfolding last_fits
last_live l None h = refl
last_live l (To k) h = h

module _ (l : List Block) (b : Pointer) (t : Index) (left : ℕ) (h : Index) (n : ℕ) where
  stops : h.0 ≡ t.0 → (walk_from sizes (suc left) l b h t n).sound ≡ last_fits sizes l b
  unfolding walk_from same
  stops e = simp (eq-eqb h.0 t.0 e)

  module _ (e : h.0 ≡ t.0 → ⊥) (f : live sizes l (number_of sizes b) ≡ true) where
    meets : (h.0 / 2 % 32 ≡ 31 → ⊥) → (walk_from sizes (suc left) l b h t n).sound ≡ (walk_from sizes left l b (later h) t (n + 1)).sound
    unfolding walk_from same past_slots
    meets p = simp (ne_eqb h.0 t.0 e, f, ne_eqb (h.0 / 2 % 32) 31 p)

    drops : h.0 / 2 % 32 ≡ 31
        → (walk_from sizes (suc left) l b h t n).sound ≡ (walk_from sizes left (without sizes l b) (block_at l (number_of sizes b)).next (later h) t n).sound
    unfolding walk_from same past_slots
    drops p = simp (ne_eqb h.0 t.0 e, f, eq-eqb (h.0 / 2 % 32) 31 p)

-- ---- the walk drops blocks behind it, and none that it has still to meet
module _ (l : List Block) (t : Index) (u : t.0 < 2 ^ 64) where
  abbrev Ahead : ℕ → List Block → Type 0
  Ahead d now = (c k : ℕ) → c ≤ d → linked_from sizes c l k ≡ true → block_at now k ≡ block_at l k

  live_ahead : (d : ℕ) (now : List Block) → Ahead d now → (k : ℕ) → linked_from sizes d l k ≡ true → live sizes now k ≡ true
  unfolding live
  live_ahead d now a k h = ap (λ (x : Block). cond (ltb k 64) (not x.free) false) (a d k (omega arith) h) ∙ linked_live l d k h

  past : (d : ℕ) (now : List Block) (b : Pointer) → Ahead (suc d) now → linked_from sizes (suc d) l (number_of sizes b) ≡ true → Ahead d (without sizes now b)
  unfolding without
  past d now b a h c k le q =
      get_other now (number_of sizes b) k _ new_block (λ z. off (one_way l c (suc d) k q (subst (λ (x : ℕ). linked_from sizes (suc d) l x ≡ true) (sym z) h)))
      ∙ a c k (omega arith) q
    where
      off : c ≡ suc d → ⊥
      off z = omega arith

  -- one step: to the next slot, or past a block's end to the next block
  module _ (left : ℕ) (now : List Block) (b : Pointer) (h : Index) (n : ℕ) (lt : h.0 + 2 ≤ t.0) where
    abbrev Rest : Type 0
    Rest =
        (d : ℕ) (now : List Block) (b : Pointer) (n : ℕ) → (later h).0 / 64 + d ≡ t.0 / 64 → linked_from sizes d l (number_of sizes b) ≡ true → Ahead d now
        → (walk_from sizes left now b (later h) t n).sound ≡ true

    ne : h.0 ≡ t.0 → ⊥
    ne q = omega arith

    z : (later h).0 ≡ h.0 + 2
    z = later_is h (omega arith)

    same_lap : (d : ℕ) → h.0 / 64 + d ≡ t.0 / 64 → (h.0 / 2 % 32 ≡ 31 → ⊥) → (later h).0 / 64 + d ≡ t.0 / 64
    same_lap d s p = by h.0 (later h).0 z s p
      where
        by : (x y : ℕ) → y ≡ x + 2 → x / 64 + d ≡ t.0 / 64 → (x / 2 % 32 ≡ 31 → ⊥) → y / 64 + d ≡ t.0 / 64
        by x y e s p = omega arith

    next_lap : (d : ℕ) → h.0 / 64 + suc d ≡ t.0 / 64 → h.0 / 2 % 32 ≡ 31 → (later h).0 / 64 + d ≡ t.0 / 64
    next_lap d s p = by h.0 (later h).0 z s p
      where
        by : (x y : ℕ) → y ≡ x + 2 → x / 64 + suc d ≡ t.0 / 64 → x / 2 % 32 ≡ 31 → y / 64 + d ≡ t.0 / 64
        by x y e s p = omega arith

    in_lap : h.0 / 64 + 0 ≡ t.0 / 64 → h.0 / 2 % 32 ≡ 31 → ⊥
    in_lap s p = omega arith

    step : (x : Bool) → eqb (h.0 / 2 % 32) 31 ≡ x → (d : ℕ) → h.0 / 64 + d ≡ t.0 / 64 → linked_from sizes d l (number_of sizes b) ≡ true → Ahead d now → Rest
        → (walk_from sizes (suc left) now b h t n).sound ≡ true
    step false q d s f a rest =
        let p : (h.0 / 2 % 32 ≡ 31 → ⊥) = λ p. true≢false (sym (eq-eqb (h.0 / 2 % 32) 31 p) ∙ q) in
        meets now b t left h n ne (live_ahead d now a (number_of sizes b) f) p ∙ rest d now b (n + 1) (same_lap d s p) f a
    step true q zero s f a rest = absurd (in_lap s (eqb-true (h.0 / 2 % 32) 31 q))
    step true q (suc d) s f a rest =
        let p : h.0 / 2 % 32 ≡ 31 = eqb-true (h.0 / 2 % 32) 31 q in
        drops now b t left h n ne (live_ahead (suc d) now a (number_of sizes b) f) p
        ∙ rest d (without sizes now b) (block_at now (number_of sizes b)).next n (next_lap d s p)
        (subst (λ (x : Block). linked_from sizes d l (number_of sizes x.next) ≡ true) (sym (a (suc d) (number_of sizes b) (omega arith) f)) (linked_next l d (number_of sizes b) f))
        (past d now b a f)

  sound_from : (steps d left : ℕ) (now : List Block) (b : Pointer) (h : Index) (n : ℕ) → t.0 ≡ h.0 + 2 * steps → h.0 / 64 + d ≡ t.0 / 64 → steps < left
      → linked_from sizes d l (number_of sizes b) ≡ true → Ahead d now → (walk_from sizes left now b h t n).sound ≡ true
  sound_from steps d zero now b h n e s r f a = absurd (omega arith)
  sound_from zero d (suc left) now b h n e s r f a =
      stops now b t left h n (omega arith) ∙ last_live now b (live_ahead d now a (number_of sizes b) f)
  sound_from (suc steps) d (suc left) now b h n e s r f a =
      let z : (later h).0 ≡ h.0 + 2 = later_is h (omega arith) in
      step left now b h n (omega arith) (eqb (h.0 / 2 % 32) 31) refl d s f a
      (λ d now b n s f a. sound_from steps d left now b (later h) n (omega (arith, z)) s (omega arith) f a)

pub linked_sound : (e : Ends) (l : List Block) → (unmarked_of e.head).0 ≤ (unmarked_of e.tail).0 → lap_of e.tail < 288230376151711744 → ahead_of e < 64
    → linked_from sizes (ahead_of e) l (number_of sizes e.front) ≡ true → (walk_of sizes e l).sound ≡ true
unfolding walk_of unmarked_of
linked_sound e l o u r f =
    sound_from l (index t) (omega arith) ((t - h) / 2) (t / 64 - h / 64) 2080 l e.front (index h) 0 (omega arith) (omega arith) (omega arith) f (λ c k le q. refl)
  where
    h : ℕ
    h = e.head.0 - e.head.0 % 2

    t : ℕ
    t = e.tail.0 - e.tail.0 % 2
