-- Blocks taken and freed: what each row of the table does with the header that it is handed, and that a block is freed once for each taking.
use Prim.Native.Nat.{ℕ, ◌+◌, ◌<◌}
use mathlib.Core.Path.{◌≡◌, refl, sym, ap, ◌∙◌}
use mathlib.Core.Logic.{◌≢◌}
use mathlib.Core.Bool.{Bool, true, false, cond, not}
use mathlib.Core.List.{List, [], ◌∷◌, ◌++◌}
use native.Mathlib.Omega.{arith}
use native.Mathlib.Decide.{ℕ_discrete}
use lib.Dec.{eqb}
use lib.ListN.{length, set}
use borrow.Author.Tests.{eq-eqb, ne_eqb, lt-ltb}
use Rattle.queue_schedules.proofs.Schedules.{picked}
use Rattle.unbounded_words.specs.declared.Pointer.{Pointer}
use Rattle.unbounded_words.specs.declared.Pointer.TheVariants.{None, To}
use Rattle.unbounded_words.specs.Words.{sizes, none_of, number_of, marked_of, same, same_position}
use Rattle.unbounded_places.specs.declared.Slot.{Slot}
use Rattle.unbounded_places.specs.declared.Block.{Block}
use Rattle.unbounded_places.specs.declared.Ends.{Ends}
use Rattle.unbounded_places.specs.declared.Place.{Place}
use Rattle.unbounded_places.specs.declared.Place.TheVariants.{Idle, U1, U2, U3, U4, U5, U6, U7, U8, U9, U10, U11, U12, U13, U14, U15, V1, V2, V3, V4, V5, V6}
use Rattle.unbounded_places.specs.declared.Place.TheVariants.{V7, V8, V9, V10, V11, V12, V13, V14, V15, Len1, Len2, Len3, Empty1, Empty2, Full1, Close1}
use Rattle.unbounded_places.specs.declared.Place.TheVariants.{IsClosed1}
use Rattle.unbounded_places.specs.declared.Uses.TheVariants as uses
use Rattle.unbounded_places.specs.Places.{view_of}
use Rattle.unbounded_acts.specs.declared.Acted.{Acted}
use Rattle.unbounded_acts.specs.Acts.{leave, next_to, freed, first_or, new_block, has, act_of}
use Rattle.unbounded_machine.specs.declared.Event.{Event}
use Rattle.unbounded_machine.specs.Machine.{block_at, live}
use Rattle.unbounded_demands.specs.Notions.{Dealing, Leaves, Takes, Frees, dealing_of, new_of, is_to, takes_block, frees_block, takings_of, freeings_of}
use Rattle.unbounded_proof_words.proofs.Frames.{get_same, get_other}

module _ (e : Ends) (k : ℕ) (g : Block) (s : Slot) (lose : Bool) where
  abbrev pub Dealt : Place → Dealing → Type 0
  Dealt p Leaves = ((view_of sizes p).takes ≡ false) × ((act_of sizes e k g s p lose).block.free ≡ g.free)
  Dealt p Takes = ((view_of sizes p).takes ≡ true) × ((act_of sizes e k g s p lose).block.free ≡ false) × (new_of (act_of sizes e k g s p lose).place ≡ To k)
  Dealt p (Frees b) = ((view_of sizes p).takes ≡ false) × ((view_of sizes p).uses ≡ uses.Block (number_of sizes b)) × ((act_of sizes e k g s p lose).block.free ≡ true)

  abbrev Kept : Acted → Type 0
  Kept a = a.block.free ≡ g.free

  pub dealt : (p : Place) → Dealt p (dealing_of p)
  unfolding leave next_to freed first_or
  dealt (Idle a) = (refl, refl)
  dealt (U1 n x) = (refl, refl)
  dealt (U2 n t x) = (refl, refl)
  dealt (U3 t None x) = (refl, refl, refl)
  dealt (U3 t (To b) x) = (refl, refl, refl)
  dealt (U4 n t x) = (refl, refl, refl)
  dealt (U5 n t new x) = (refl, picked Kept (none_of e.back) _ _ refl refl)
  dealt (U6 n t new x) = (refl, refl)
  dealt (U7 n t b x) = (refl, picked Kept (same e.tail t) _ _ (picked Kept lose _ _ refl refl) refl)
  dealt (U8 n t x) = (refl, refl)
  dealt (U9 n t b x) = (refl, refl)
  dealt (U10 n t b x) = (refl, refl)
  dealt (U11 n t b x) = (refl, refl)
  dealt (U12 n t b x) = (refl, refl)
  dealt (U13 n t b) = (refl, refl)
  dealt (U14 n a) = (refl, refl, refl)
  dealt (U15 n new x) = (refl, refl, refl)
  dealt V1 = (refl, refl)
  dealt (V2 h) = (refl, refl)
  dealt (V3 h b) = (refl, picked Kept (same_position h e.tail) _ _ (picked Kept (marked_of e.tail) _ _ refl refl) refl)
  dealt (V4 h b new) = (refl, picked Kept (same e.head h) _ _ (picked Kept lose _ _ refl refl) refl)
  dealt (V5 h) = (refl, refl)
  dealt (V6 h b new) = (refl, picked Kept (none_of g.next) _ _ refl refl)
  dealt (V7 h b new next) = (refl, refl)
  dealt (V8 h b next i) = (refl, refl)
  dealt (V9 h b i) = (refl, refl)
  dealt (V10 h b) = (refl, picked Kept (has 1 s.state) _ _ refl refl)
  dealt (V11 h b) = (refl, refl)
  dealt (V12 h b v) = (refl, refl)
  dealt (V13 b i v) = (refl, picked Kept (has 2 s.state) _ _ refl refl)
  dealt (V14 b i v) = (refl, refl)
  dealt (V15 b v) = (refl, refl, refl)
  dealt Len1 = (refl, refl)
  dealt (Len2 t) = (refl, refl)
  dealt (Len3 t h) = (refl, picked Kept (same e.tail t) _ _ refl refl)
  dealt Empty1 = (refl, refl)
  dealt (Empty2 h) = (refl, refl)
  dealt Full1 = (refl, refl)
  dealt Close1 = (refl, picked Kept (marked_of e.tail) _ _ refl refl)
  dealt IsClosed1 = (refl, refl)

-- ---- the pool after an act
pub live_is : (l : List Block) (k : ℕ) → k < 64 → live sizes l k ≡ not (block_at l k).free
unfolding live
live_is l k small = ap (λ (t : Bool). cond t (not (block_at l k).free) false) (lt-ltb k 64 small)

takings_more : (k : ℕ) (h : List Event) (e : Event) → takings_of k (h ++ e ∷ []) ≡ takings_of k h + cond (takes_block k (dealing_of e.before) e.after) 1 0
unfolding takings_of
takings_more k [] e = omega arith
takings_more k (x ∷ h) e = let i = takings_more k h e in omega arith

freeings_more : (k : ℕ) (h : List Event) (e : Event) → freeings_of sizes k (h ++ e ∷ []) ≡ freeings_of sizes k h + cond (frees_block sizes k (dealing_of e.before)) 1 0
unfolding freeings_of
freeings_more k [] e = omega arith
freeings_more k (x ∷ h) e = let i = freeings_more k h e in omega arith

abbrev pub Even : List Block → List Event → Type 0
Even l h = (k : ℕ) → k < 64 → takings_of k h ≡ freeings_of sizes k h + cond (live sizes l k) 1 0

-- one act: the header of block b becomes g
module _ (l : List Block) (b : ℕ) (g : Block) (small : b < 64) (long : length l ≡ 64) (h : List Event) (e : Event) (old : Even l h) where
  flag : (k : ℕ) → k < 64 → (k ≡ b → live sizes (set l b g) k ≡ not g.free) × (k ≢ b → live sizes (set l b g) k ≡ live sizes l k)
  flag k s = (
    (λ q. live_is (set l b g) k s ∙ ap (λ (x : Block). not x.free) (ap (λ (i : ℕ). block_at (set l b g) i) q ∙ get_same l b g new_block (omega arith))),
    (λ q. live_is (set l b g) k s ∙ ap (λ (x : Block). not x.free) (get_other l b k g new_block q) ∙ sym (live_is l k s)),
  )

  -- as many as before, so far as block k goes
  counts : (k : ℕ) → k < 64 → (t f was is : Bool) → takes_block k (dealing_of e.before) e.after ≡ t → frees_block sizes k (dealing_of e.before) ≡ f
      → live sizes l k ≡ was → live sizes (set l b g) k ≡ is
      → cond was 1 0 + cond t 1 0 ≡ cond f 1 0 + cond is 1 0 → takings_of k (h ++ e ∷ []) ≡ freeings_of sizes k (h ++ e ∷ []) + cond (live sizes (set l b g) k) 1 0
  counts k s t f was is et ef ew ei sum =
      let a = takings_more k h e ∙ ap (λ (x : Bool). takings_of k h + cond x 1 0) et in
      let c = freeings_more k h e ∙ ap (λ (x : Bool). freeings_of sizes k h + cond x 1 0) ef in
      let d = old k s ∙ ap (λ (x : Bool). freeings_of sizes k h + cond x 1 0) ew in
      let i = ap {B = ℕ} (λ (x : Bool). cond x 1 0) ei in
      omega (arith, a, c, d, i, sum)

  -- the header keeps its flag; it is taken, being free; it is freed, being taken
  pub even_kept : dealing_of e.before ≡ Leaves → g.free ≡ (block_at l b).free → Even (set l b g) (h ++ e ∷ [])
  even_kept d f k s = go (ℕ_discrete k b)
    where
      same : live sizes (set l b g) k ≡ live sizes l k → takings_of k (h ++ e ∷ []) ≡ freeings_of sizes k (h ++ e ∷ []) + cond (live sizes (set l b g) k) 1 0
      same q =
          counts k s false false (live sizes l k) (live sizes l k) (ap (λ (x : Dealing). takes_block k x e.after) d) (ap (frees_block sizes k) d) refl q (omega arith)

      go : Dec (k ≡ b) → takings_of k (h ++ e ∷ []) ≡ freeings_of sizes k (h ++ e ∷ []) + cond (live sizes (set l b g) k) 1 0
      go (yes q) = same ((flag k s).0 q ∙ ap not f ∙ ap (λ (i : ℕ). not (block_at l i).free) (sym q) ∙ sym (live_is l k s))
      go (no q) = same ((flag k s).1 q)

  pub even_taken : dealing_of e.before ≡ Takes → new_of e.after ≡ To b → g.free ≡ false → (block_at l b).free ≡ true → Even (set l b g) (h ++ e ∷ [])
  even_taken d new f was k s = go (ℕ_discrete k b)
    where
      takes_is : (t : Bool) → eqb b k ≡ t → takes_block k (dealing_of e.before) e.after ≡ t
      takes_is t q = ap (λ (x : Dealing). takes_block k x e.after) d ∙ ap (λ (x : Pointer). is_to x k) new ∙ q

      go : Dec (k ≡ b) → takings_of k (h ++ e ∷ []) ≡ freeings_of sizes k (h ++ e ∷ []) + cond (live sizes (set l b g) k) 1 0
      go (yes q) =
          counts k s true false false true (takes_is true (eq-eqb b k (sym q))) (ap (frees_block sizes k) d)
          (live_is l k s ∙ ap (λ (i : ℕ). not (block_at l i).free) q ∙ ap not was) ((flag k s).0 q ∙ ap not f) (omega arith)
      go (no q) =
          counts k s false false (live sizes l k) (live sizes l k) (takes_is false (ne_eqb b k (λ z. q (sym z)))) (ap (frees_block sizes k) d) refl ((flag k s).1 q) (omega arith)

  pub even_freed : (c : Pointer) → dealing_of e.before ≡ Frees c → number_of sizes c ≡ b → g.free ≡ true → (block_at l b).free ≡ false → Even (set l b g) (h ++ e ∷ [])
  even_freed c d is f was k s = go (ℕ_discrete k b)
    where
      frees_is : (t : Bool) → eqb b k ≡ t → frees_block sizes k (dealing_of e.before) ≡ t
      frees_is t q = ap (frees_block sizes k) d ∙ ap (λ (i : ℕ). eqb i k) is ∙ q

      go : Dec (k ≡ b) → takings_of k (h ++ e ∷ []) ≡ freeings_of sizes k (h ++ e ∷ []) + cond (live sizes (set l b g) k) 1 0
      go (yes q) =
          counts k s false true true false (ap (λ (x : Dealing). takes_block k x e.after) d) (frees_is true (eq-eqb b k (sym q)))
          (live_is l k s ∙ ap (λ (i : ℕ). not (block_at l i).free) q ∙ ap not was) ((flag k s).0 q ∙ ap not f) (omega arith)
      go (no q) =
          counts k s false false (live sizes l k) (live sizes l k) (ap (λ (x : Dealing). takes_block k x e.after) d) (frees_is false (ne_eqb b k (λ z. q (sym z)))) refl ((flag k s).1 q) (omega arith)
