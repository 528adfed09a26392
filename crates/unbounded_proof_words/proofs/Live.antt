-- No act touches a free block, and nothing is in two hands.
use Prim.Native.Nat.{ℕ, ◌+◌, ◌-◌, ◌*◌, ◌/◌, ◌%◌, ◌<◌}
use mathlib.Core.Path.{◌≡◌, refl, sym, ap, ◌∙◌, subst}
use mathlib.Core.Logic.{◌≢◌}
use mathlib.Core.Bool.{Bool, false}
use mathlib.Core.List.{List}
use native.Mathlib.Omega.{arith}
use native.Mathlib.Decide.{dec_lt}
use Rattle.unbounded_words.specs.declared.Pointer.{Pointer}
use Rattle.unbounded_words.specs.declared.Pointer.TheVariants.{To}
use Rattle.unbounded_words.specs.declared.Index.{Index}
use Rattle.unbounded_words.specs.Words.{sizes, offset_of, number_of}
use Rattle.unbounded_places.specs.declared.Block.{Block}
use Rattle.unbounded_places.specs.declared.Slot.{Slot}
use Rattle.unbounded_places.specs.declared.Ends.{Ends}
use Rattle.unbounded_places.specs.declared.Worker.{Worker}
use Rattle.unbounded_places.specs.declared.Place.{Place}
use Rattle.unbounded_places.specs.declared.Uses.{Uses}
use Rattle.unbounded_places.specs.declared.Uses.TheVariants as uses
use Rattle.unbounded_places.specs.Places.{view_of}
use Rattle.unbounded_proof_invariant.proofs.Queue.{Ptr, none, to, Hand, Done, By, Freed, Own, Free, Aside, Chain, Shared, DestOk, Inv}
use Rattle.unbounded_proof_invariant.proofs.Kept.{hand_open_done, hand_by_done, wait_not_freed, free_not_chain}
use Rattle.unbounded_proof_invariant.proofs.Views.{Seen, Rest, Installing, Tail, Claiming, Fronting, Back, Adding, Tying, Writing, Setting, Head, Looking}
use Rattle.unbounded_proof_invariant.proofs.Views.{Taking, Going, Gone, Leading, Heading, Awaiting, Reading, Popped, Destroying, PushIn, PopIn, SeenOk}
use Rattle.unbounded_proof_invariant.proofs.Own.{push_of, pop_of, Good, none_not_to}
use Rattle.unbounded_proof_words.proofs.Words.{word, offset_word}
use Rattle.unbounded_proof_words.proofs.Stands.{block_at, place_of, HeadRep, Stands, idle, u1, u2, u3, u4, u5, u6, u7, u8, u9, u10, u11, u12, u13, u14}
use Rattle.unbounded_proof_words.proofs.Stands.{u15, v1, v2, v3, v4, v5, v6, v7, v8, v9, v10, v11, v12, v13, v14, v15, len1, len2, len3, empty1, empty2}
use Rattle.unbounded_proof_words.proofs.Stands.{full1, close1, closed1, Sim}

to_ptr : (p q : ℕ) → to p ≡ to q → p ≡ q
to_ptr p q e = cc

by_one : (x : Hand) (v w : ℕ) → x ≡ By v → x ≡ By w → v ≡ w
by_one x v w p q = cc

-- ---- one hand
pub push_held : (s : Shared) (w q : ℕ) (x : Seen) → SeenOk s w x → push_of x ≡ to q → s.push q ≡ By w
push_held s w q Rest o e = absurd (none_not_to none q refl e)
push_held s w q Installing o e = absurd (none_not_to none q refl e)
push_held s w q (Tail p m) o e = absurd (none_not_to none q refl e)
push_held s w q (Claiming p b) o e = absurd (none_not_to none q refl e)
push_held s w q (Fronting b) o e = absurd (none_not_to none q refl e)
push_held s w q (Back p b x) o e = subst (λ (i : ℕ). s.push i ≡ By w) (to_ptr p q e) o.0.0
push_held s w q (Adding p b n x) o e = subst (λ (i : ℕ). s.push i ≡ By w) (to_ptr p q e) o.0.0
push_held s w q (Tying p b n x) o e = subst (λ (i : ℕ). s.push i ≡ By w) (to_ptr p q e) o.0.0
push_held s w q (Writing p b x) o e = subst (λ (i : ℕ). s.push i ≡ By w) (to_ptr p q e) o.0.0
push_held s w q (Setting p b) o e = subst (λ (i : ℕ). s.push i ≡ By w) (to_ptr p q e) o.0.0
push_held s w q (Head p m) o e = absurd (none_not_to none q refl e)
push_held s w q (Looking p b) o e = absurd (none_not_to none q refl e)
push_held s w q (Taking p b m) o e = absurd (none_not_to none q refl e)
push_held s w q (Going p b) o e = absurd (none_not_to none q refl e)
push_held s w q (Gone p b n) o e = absurd (none_not_to none q refl e)
push_held s w q (Leading p b n m) o e = absurd (none_not_to none q refl e)
push_held s w q (Heading p b m) o e = absurd (none_not_to none q refl e)
push_held s w q (Awaiting p b) o e = absurd (none_not_to none q refl e)
push_held s w q (Reading p b) o e = absurd (none_not_to none q refl e)
push_held s w q (Popped p b v) o e = absurd (none_not_to none q refl e)
push_held s w q (Destroying b i v) o e = absurd (none_not_to none q refl e)

pub pop_held : (s : Shared) (w q : ℕ) (x : Seen) → SeenOk s w x → pop_of x ≡ to q → s.pop q ≡ By w
pop_held s w q Rest o e = absurd (none_not_to none q refl e)
pop_held s w q Installing o e = absurd (none_not_to none q refl e)
pop_held s w q (Tail p m) o e = absurd (none_not_to none q refl e)
pop_held s w q (Claiming p b) o e = absurd (none_not_to none q refl e)
pop_held s w q (Fronting b) o e = absurd (none_not_to none q refl e)
pop_held s w q (Back p b x) o e = absurd (none_not_to none q refl e)
pop_held s w q (Adding p b n x) o e = absurd (none_not_to none q refl e)
pop_held s w q (Tying p b n x) o e = absurd (none_not_to none q refl e)
pop_held s w q (Writing p b x) o e = absurd (none_not_to none q refl e)
pop_held s w q (Setting p b) o e = absurd (none_not_to none q refl e)
pop_held s w q (Head p m) o e = absurd (none_not_to none q refl e)
pop_held s w q (Looking p b) o e = absurd (none_not_to none q refl e)
pop_held s w q (Taking p b m) o e = absurd (none_not_to none q refl e)
pop_held s w q (Going p b) o e = subst (λ (i : ℕ). s.pop i ≡ By w) (to_ptr p q e) o.0.0
pop_held s w q (Gone p b n) o e = subst (λ (i : ℕ). s.pop i ≡ By w) (to_ptr p q e) o.0.0
pop_held s w q (Leading p b n m) o e = subst (λ (i : ℕ). s.pop i ≡ By w) (to_ptr p q e) o.0.0
pop_held s w q (Heading p b m) o e = subst (λ (i : ℕ). s.pop i ≡ By w) (to_ptr p q e) o.0.0
pop_held s w q (Awaiting p b) o e = subst (λ (i : ℕ). s.pop i ≡ By w) (to_ptr p q e) o.0.0
pop_held s w q (Reading p b) o e = subst (λ (i : ℕ). s.pop i ≡ By w) (to_ptr p q e) o.0.0
pop_held s w q (Popped p b v) o e = subst (λ (i : ℕ). s.pop i ≡ By w) (to_ptr p q e) o.0.0
pop_held s w q (Destroying b i v) o e = absurd (none_not_to none q refl e)

-- no position's push, nor its pop, is in two hands; and a value is read only once it is written
module _ (s : Shared) (v w : ℕ) (a b c d : Ptr) (x y : Seen) (g : Good s v a b x) (h : Good s w c d y) (p : ℕ) where
  pub one_push : push_of x ≡ to p → push_of y ≡ to p → v ≡ w
  one_push e f = by_one (s.push p) v w (push_held s v p x g.seen e) (push_held s w p y h.seen f)

  pub one_pop : pop_of x ≡ to p → pop_of y ≡ to p → v ≡ w
  one_pop e f = by_one (s.pop p) v w (pop_held s v p x g.seen e) (pop_held s w p y h.seen f)

  pub none_unwritten : (k : ℕ) → push_of x ≡ to p → y ≡ Reading p k → ⊥
  none_unwritten k e f = hand_by_done (s.push p) v (push_held s v p x g.seen e) (subst (SeenOk s w) f h.seen).2

-- ---- a block in hand is one of the chain
module _ (s : Shared) (inv : Inv s) (w : ℕ) where
  in_chain : (p : ℕ) → p < s.tail → p / 32 < s.blocks
  in_chain p l = go (dec_lt 0 s.blocks)
    where
      go : Dec (0 < s.blocks) → p / 32 < s.blocks
      go (yes k) = let a = inv.ends.some k in omega arith
      go (no n) = absurd (omega (arith, inv.ends.none_yet (omega arith)))

  -- a slot that is not both written and read keeps its block
  unfreed : (p : ℕ) → p % 32 < 31 → s.pop p ≢ Done → s.dest (p / 32) ≢ Freed
  unfreed p l n e =
      let q : 32 * (p / 32) + p % 32 ≡ p = omega arith in
      n (ap s.pop (sym q) ∙ subst (DestOk (s.destroy (p / 32)) s.pop (p / 32)) e (inv.dests.dests (p / 32)) (p % 32) l)

  pub push_live : (p b : ℕ) → PushIn s w p b → s.own b ≡ Chain (p / 32)
  push_live p b o =
      ap s.own o.3 ∙ inv.owns.chained (p / 32) (in_chain p o.1) (unfreed p o.2 (λ d. hand_by_done (s.push p) w o.0 (inv.hands.order p d)))

  pub pop_live : (p b : ℕ) → PopIn s w p b → s.own b ≡ Chain (p / 32)
  pop_live p b o =
      ap s.own o.3 ∙ inv.owns.chained (p / 32) (in_chain p (omega (arith, o.1, inv.ends.low))) (unfreed p o.2 (λ d. hand_by_done (s.pop p) w o.0 d))

  -- the block after head's
  pub next_live : (p c : ℕ) → p % 32 ≡ 30 → s.head ≡ p + 1 → s.head < s.tail → c ≡ s.phys (p / 32 + 1) → s.own c ≡ Chain (p / 32 + 1)
  next_live p c l h t e =
      let k : p / 32 + 1 < s.blocks = (let a = in_chain (s.tail - 1) (omega arith) in let b = inv.ends.some (omega arith) in omega arith) in
      ap s.own e ∙ inv.owns.chained (p / 32 + 1) k (λ d. wait_not_freed (s.dest (p / 32 + 1))
      (inv.dests.waits (p / 32 + 1) (λ z. hand_open_done (s.pop (32 * (p / 32 + 1) + 30))
      (inv.hands.pop_open (32 * (p / 32 + 1) + 30) (omega arith)) z)) d)

-- ---- no act touches a free block, no block or a slot past 30
abbrev pub UsesOk : List Block → Uses → Type 0
UsesOk l uses.Nothing = Unit {0}
UsesOk l (uses.Block k) = (k < 64) × ((block_at l k).free ≡ false)
UsesOk l (uses.Slot k i) = (i < 31) × (k < 64) × ((block_at l k).free ≡ false)

module _ (e : Ends) (blocks : List Block) (slots : List Slot) (workers : List Worker) (meter : ℕ) (s : Shared) (sim : Sim e blocks slots workers meter s) (w : ℕ) where
  not_free : (o : Own) (b : Block) → o ≢ Free → HeadRep s.link s.phys o b → b.free ≡ false
  not_free Free b n r = absurd (n refl)
  not_free (Aside v) b n r = ap (λ (x : Block). x.free) r
  not_free (Chain j) b n r = ap (λ (x : Block). x.free) r

  taken : (b : ℕ) → s.own b ≢ Free → (b < 64) × ((block_at blocks b).free ≡ false)
  taken b n = (sim.pool b n, not_free (s.own b) (block_at blocks b) n (sim.headers b (sim.pool b n)))

  of_aside : (b : ℕ) → s.own b ≡ Aside w → s.own b ≢ Free
  of_aside b q z = let k : ◌≡◌ {A = ℕ} 0 1 = cc in omega arith

  of_chain : (b j : ℕ) → s.own b ≡ Chain j → s.own b ≢ Free
  of_chain b j q z = free_not_chain (s.own b) j z q

  on_block : (d : Pointer) (b : ℕ) → d ≡ To b → s.own b ≢ Free → UsesOk blocks (uses.Block (number_of sizes d))
  on_block d b q n = subst (λ (x : Pointer). UsesOk blocks (uses.Block (number_of sizes x))) (sym q) (taken b n)

  on_slot : (d : Pointer) (b i : ℕ) → d ≡ To b → i < 31 → s.own b ≢ Free → UsesOk blocks (uses.Slot (number_of sizes d) i)
  on_slot d b i q l n = subst (λ (x : Pointer). UsesOk blocks (uses.Slot (number_of sizes x) i)) (sym q) (l, (taken b n).0, (taken b n).1)

  on_word : (d : Pointer) (t : Index) (b p : ℕ) (m : Bool) → d ≡ To b → t ≡ word p m → p % 32 < 31 → s.own b ≢ Free → UsesOk blocks (uses.Slot (number_of sizes d) (offset_of sizes t))
  on_word d t b p m q h l n =
      subst (λ (i : ℕ). UsesOk blocks (uses.Slot (number_of sizes d) i)) (sym (ap (offset_of sizes) h ∙ offset_word p m)) (on_slot d b (p % 32) q l n)

  uses_live : (q : Place) (a n : Ptr) (x : Seen) → Stands q a n x → Good s w a n x → UsesOk blocks (view_of sizes q).uses
  uses_live q a n x idle g = tt
  uses_live q a n x (u1 en) g = tt
  uses_live q a n x (u2 en et) g = tt
  uses_live q a n x (u3 et ed l) g = tt
  uses_live q a n x (u4 en et) g = tt
  uses_live q a n x (u5 en et ed) g = tt
  uses_live q a n x (u6 en et ed) g = tt
  uses_live q a n x (u7 en et ed l) g = tt
  uses_live q a n x (u8 en et) g = tt
  uses_live q a n x (u9 {c = c} en et ed) g = on_block _ c en (of_aside c (g.aside c refl))
  uses_live q a n x (u10 en et ed) g = tt
  uses_live q a n x (u11 {p = p} {b = b} en et ed) g = on_block _ b ed (of_chain b (p / 32) (push_live s sim.inv w p b g.seen.0))
  uses_live q a n x (u12 {p = p} {b = b} en et ed) g = on_word _ _ b p false ed et g.seen.0.2 (of_chain b (p / 32) (push_live s sim.inv w p b g.seen.0))
  uses_live q a n x (u13 {p = p} {b = b} en et ed) g = on_word _ _ b p false ed et g.seen.0.2 (of_chain b (p / 32) (push_live s sim.inv w p b g.seen.0))
  uses_live q a n x (u14 {c = c} en said) g = on_block _ c en (of_aside c (g.aside c refl))
  uses_live q a n x (u15 {c = c} en ed) g = on_block _ c en (of_aside c (g.aside c refl))
  uses_live q a n x v1 g = tt
  uses_live q a n x (v2 eh) g = tt
  uses_live q a n x (v3 eh ed) g = tt
  uses_live q a n x (v4 m eh ed ew) g = tt
  uses_live q a n x (v5 eh) g = tt
  uses_live q a n x (v6 {p = p} {b = b} m k eh ed ew) g = on_block _ b ed (of_chain b (p / 32) (pop_live s sim.inv w p b g.seen.0))
  uses_live q a n x (v7 {p = p} {c = c} m k eh ed ew ec) g = on_block _ c ec (of_chain c (p / 32 + 1) (next_live s sim.inv w p c g.seen.1 g.seen.2 g.seen.3 g.seen.4))
  uses_live q a n x (v8 m eh ed ec ew) g = tt
  uses_live q a n x (v9 m eh ed ew) g = tt
  uses_live q a n x (v10 {p = p} {b = b} m eh ed) g = on_word _ _ b p m ed eh g.seen.0.2 (of_chain b (p / 32) (pop_live s sim.inv w p b g.seen.0))
  uses_live q a n x (v11 {p = p} {b = b} m eh ed) g = on_word _ _ b p m ed eh g.seen.0.2 (of_chain b (p / 32) (pop_live s sim.inv w p b g.seen.0))
  uses_live q a n x (v12 {p = p} {b = b} m eh ed) g = on_word _ _ b p m ed eh g.seen.0.2 (of_chain b (p / 32) (pop_live s sim.inv w p b g.seen.0))
  uses_live q a n x (v13 {b = b} {i = i} ed l) g = on_slot _ b i ed (omega arith) (of_chain b g.seen.0 g.seen.2)
  uses_live q a n x (v14 {b = b} {i = i} ed l) g = on_slot _ b i ed (omega arith) (of_chain b g.seen.0 g.seen.2)
  uses_live q a n x (v15 {b = b} ed) g = on_block _ b ed (of_chain b g.seen.0 g.seen.2)
  uses_live q a n x len1 g = tt
  uses_live q a n x len2 g = tt
  uses_live q a n x len3 g = tt
  uses_live q a n x empty1 g = tt
  uses_live q a n x empty2 g = tt
  uses_live q a n x full1 g = tt
  uses_live q a n x close1 g = tt
  uses_live q a n x closed1 g = tt

  -- what stands for a queue over positions touches no free block next
  pub none_free : UsesOk blocks (view_of sizes (place_of workers w)).uses
  none_free = let o = sim.places w in uses_live (place_of workers w) o.aside o.new o.seen o.at o.good
