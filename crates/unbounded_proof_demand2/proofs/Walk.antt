-- With all workers idle: the blocks from head's to tail's fit into the pool, `Drop`'s walk over them is sound and meets the items between the ends, and they
-- are the taken ones.
use Prim.Native.Nat.{ℕ, zero, suc, ◌+◌, ◌*◌, ◌-◌, ◌/◌, ◌%◌, ◌<◌, ◌≤◌}
use mathlib.Core.Path.{◌≡◌, refl, sym, ap, ◌∙◌, subst}
use mathlib.Core.Logic.{◌≢◌}
use mathlib.Core.Bool.{Bool, true, false, cond, not, true≢false}
use mathlib.Core.List.{List, [], ◌∷◌}
use native.Mathlib.Omega.{arith}
use native.Mathlib.Decide.{ℕ_discrete, dec_lt}
use lib.Dec.{eqb}
use lib.ListN.{length, get_or, set, drop, length-set}
use lib.Seq.{drop-cons, drop-length}
use borrow.Author.Tests.{eq-eqb, ne_eqb, eqb-true, lt-ltb}
use Rattle.unbounded_words.specs.declared.Pointer.{Pointer}
use Rattle.unbounded_words.specs.declared.Pointer.TheVariants.{None, To}
use Rattle.unbounded_words.specs.declared.Index.{Index}
use Rattle.unbounded_words.specs.Words.{sizes, wide, past_slots, unmarked_of, later, same, number_of, offset_of}
use Rattle.unbounded_places.specs.declared.Slot.{Slot}
use Rattle.unbounded_places.specs.declared.Block.{Block}
use Rattle.unbounded_places.specs.declared.Ends.{Ends}
use Rattle.unbounded_places.specs.declared.Worker.{Worker}
use Rattle.unbounded_machine.specs.declared.Dropped.{Dropped}
use Rattle.unbounded_machine.specs.Machine.{live}
use Rattle.unbounded_machine.specs.Drop.{walked, last_fits, without, walk_from, items_from, walk_of, items_of}
use Rattle.unbounded_demands.specs.Notions.{chained}
use Rattle.unbounded_proof_invariant.proofs.Queue.{Ptr, none, to, Hand, Open, Done, By, Own, Free, Aside, Chain, Shared, Inv}
use Rattle.unbounded_proof_invariant.proofs.Kept.{done_or_not, hand_open_done, chain_number, free_not_chain}
use Rattle.unbounded_proof_invariant.proofs.Views.{Rest}
use Rattle.unbounded_proof_invariant.proofs.Own.{Good, none_not_to}
use Rattle.unbounded_proof_invariant.proofs.Idle.{tail_slot, head_slot, tied, taken_is, is_taken, none_aside, value_is}
use Rattle.unbounded_proof_words.proofs.Words.{word, offset_word, past_word, unmarked_word, later_word}
use Rattle.unbounded_proof_words.proofs.Stands.{new_block, block_at, slot_at, ptr, back_of, ends_of_ring, next_of, HeadRep, SlotRep, Sim}
use Rattle.unbounded_proof_words.proofs.Frames.{get_other}
use Rattle.unbounded_proof_words.proofs.Loads.{back_some}
use Rattle.unbounded_proof_each_act.proofs.Step.{counted}

-- ---- so many headers as a list has that are not free
taken_in : List Block → ℕ
taken_in [] = 0
taken_in (x ∷ l) = cond x.free 0 1 + taken_in l

taken_most : (l : List Block) → taken_in l ≤ length l
unfolding taken_in
taken_most [] = omega arith
taken_most (x ∷ l) = go x.free (taken_most l)
  where
    go : (f : Bool) → taken_in l ≤ length l → cond f 0 1 + taken_in l ≤ suc (length l)
    go true i = omega arith
    go false i = omega arith

taken_less : (l : List Block) (k : ℕ) (x : Block) → k < length l → (block_at l k).free ≡ false → x.free ≡ true → taken_in (set l k x) + 1 ≡ taken_in l
unfolding taken_in
taken_less [] k x b f e = absurd (omega arith)
taken_less (y ∷ l) zero x b f e = let i = ap {B = ℕ} (λ (t : Bool). cond t 0 1) f in let j = ap {B = ℕ} (λ (t : Bool). cond t 0 1) e in omega arith
taken_less (y ∷ l) (suc k) x b f e = let i = taken_less l k x (omega arith) f e in omega arith

-- different numbers of headers that are not free are no more than there are such headers
fits_in : (phys : ℕ → ℕ) (n j : ℕ) (l : List Block) → ((i : ℕ) → j ≤ i → i < j + n → (phys i < length l) × ((block_at l (phys i)).free ≡ false))
    → ((i k : ℕ) → j ≤ i → i < j + n → j ≤ k → k < j + n → phys i ≡ phys k → i ≡ k) → n ≤ taken_in l
fits_in phys zero j l alive one = omega arith
fits_in phys (suc n) j l alive one =
    let o = alive j (omega arith) (omega arith) in
    let c = taken_less l (phys j) (record { next = None; free = true }) o.0 o.1 refl in
    let i = fits_in phys n (j + 1) (set l (phys j) (record { next = None; free = true }))
    (λ i a b. let p = alive i (omega arith) (omega arith) in (
      omega (arith, length-set l (phys j) (record { next = None; free = true }), p.0),
      ap (λ (y : Block). y.free) (get_other l (phys j) (phys i) (record { next = None; free = true }) new_block (λ e. apart i a b e)) ∙ p.1,
    ))
    (λ i k a b c d e. one i k (omega arith) (omega arith) (omega arith) (omega arith) e) in
    omega arith
  where
    apart : (i : ℕ) → j + 1 ≤ i → i < j + 1 + n → phys i ≡ phys j → ⊥
    apart i a b e = let z = one i j (omega arith) (omega arith) (omega arith) (omega arith) e in omega arith

same_word : (p q : ℕ) → p ≡ q → same (word p false) (word q false) ≡ true
unfolding same
same_word p q e = eq-eqb (2 * p + 0) (2 * q + 0) (omega arith)

other_word : (p q : ℕ) → p ≢ q → same (word p false) (word q false) ≡ false
unfolding same
other_word p q n = ne_eqb (2 * p + 0) (2 * q + 0) (λ e. n (omega arith))

live_yes : (l : List Block) (k : ℕ) → k < 64 → (block_at l k).free ≡ false → live sizes l k ≡ true
unfolding live
live_yes l k a f = ap (λ (t : Bool). cond t (not (block_at l k).free) false) (lt-ltb k 64 a) ∙ ap not f

live_no : (l : List Block) (k : ℕ) → k < 64 → (block_at l k).free ≡ true → live sizes l k ≡ false
unfolding live
live_no l k a f = ap (λ (t : Bool). cond t (not (block_at l k).free) false) (lt-ltb k 64 a) ∙ ap not f

clear : (t : Bool) → (t ≡ true → ⊥) → t ≡ false
clear true n = absurd (n refl)
clear false n = refl

-- ---- one step of the walk: it stops, drops a block, or meets an item
module _ (left n : ℕ) (l : List Block) (b : Pointer) (h t : Index) where
  walk_stops : same h t ≡ true → walk_from sizes (suc left) l b h t n ≡ walked (last_fits sizes l b) n
  unfolding walk_from
  walk_stops x = simp x

  walk_drops : same h t ≡ false → live sizes l (number_of sizes b) ≡ true → past_slots sizes h ≡ true
      → walk_from sizes (suc left) l b h t n ≡ walk_from sizes left (without sizes l b) (block_at l (number_of sizes b)).next (later h) t n
  unfolding walk_from
  walk_drops x y z = simp (x, y, z)

  walk_meets : same h t ≡ false → live sizes l (number_of sizes b) ≡ true → past_slots sizes h ≡ false → walk_from sizes (suc left) l b h t n ≡ walk_from sizes left l b (later h) t (n + 1)
  unfolding walk_from
  walk_meets x y z = simp (x, y, z)

  module _ (slots : List Slot) where
    items_stop : same h t ≡ true → items_from sizes slots (suc left) l b h t ≡ []
    unfolding items_from
    items_stop x = simp x

    items_dropped : same h t ≡ false → past_slots sizes h ≡ true → items_from sizes slots (suc left) l b h t ≡ items_from sizes slots left (without sizes l b)
        (block_at l (number_of sizes b)).next (later h) t
    unfolding items_from
    items_dropped x y = simp (x, y)

    items_met : same h t ≡ false → past_slots sizes h ≡ false
        → items_from sizes slots (suc left) l b h t ≡ (slot_at slots (number_of sizes b) (offset_of sizes h)).value ∷ items_from sizes slots left l b (later h) t
    unfolding items_from
    items_met x y = simp (x, y)

last_is : (l : List Block) (k : ℕ) → last_fits sizes l (To k) ≡ live sizes l k
unfolding last_fits
last_is l k = refl

module _ (e : Ends) (blocks : List Block) (slots : List Slot) (ws : List Worker) (meter : ℕ) (s : Shared) (sim : Sim e blocks slots ws meter s) (few : 2 * s.tail + 3 < wide)
    (idle : (w : ℕ) → Good s w none none Rest) where
  inv : Inv s
  inv = sim.inv

  -- ---- the blocks from head's to the last
  own_at : (j : ℕ) → s.head / 32 ≤ j → j < s.blocks → s.own (s.phys j) ≡ Chain j
  own_at j a b = is_taken s inv idle j a b

  small_at : (j : ℕ) → s.head / 32 ≤ j → j < s.blocks → s.phys j < 64
  small_at j a b = sim.pool (s.phys j) (λ z. free_not_chain (s.own (s.phys j)) j z (own_at j a b))

  header_at : (j : ℕ) → s.head / 32 ≤ j → j < s.blocks → block_at blocks (s.phys j) ≡ record { next = next_of s.link s.phys j; free = false }
  header_at j a b = subst (λ (o : Own). HeadRep s.link s.phys o (block_at blocks (s.phys j))) (own_at j a b) (sim.headers (s.phys j) (small_at j a b))

  one_block : (i j : ℕ) → s.head / 32 ≤ i → i < s.blocks → s.head / 32 ≤ j → j < s.blocks → s.phys i ≡ s.phys j → i ≡ j
  one_block i j a b c d z = chain_number i j (sym (own_at i a b) ∙ ap s.own z ∙ own_at j c d)

  pool_holds : s.blocks ≤ s.head / 32 + 64
  pool_holds = go (dec_lt (s.head / 32) s.blocks)
    where
      go : Dec (s.head / 32 < s.blocks) → s.blocks ≤ s.head / 32 + 64
      go (no z) = omega arith
      go (yes z) =
          let n : s.head / 32 + (s.blocks - s.head / 32) ≡ s.blocks = omega arith in
          let a = fits_in s.phys (s.blocks - s.head / 32) (s.head / 32) blocks
          (λ i x y. (omega (arith, small_at i x (omega arith), sim.blocks_long), ap (λ (g : Block). g.free) (header_at i x (omega arith))))
          (λ i k x y u v w. one_block i k x (omega arith) u (omega arith) w) in
          omega (arith, taken_most blocks, sim.blocks_long)

  -- ---- the walk, at position p: the blocks from its own on stand as they stood
  abbrev Whole : ℕ → List Block → Type 0
  Whole j l = (i : ℕ) → j ≤ i → i < s.blocks → block_at l (s.phys i) ≡ record { next = next_of s.link s.phys i; free = false }

  next_at : (j : ℕ) → 32 * (j + 1) ≤ s.tail → (l : List Block) → block_at l (s.phys j) ≡ record { next = next_of s.link s.phys j; free = false }
      → (block_at l (s.phys j)).next ≡ To (s.phys (j + 1))
  next_at j t l g = ap (λ (x : Block). x.next) g ∙ ap (λ (b : Bool). cond b (To (s.phys (j + 1))) None) (tied s inv idle j t)

  value_at : (p : ℕ) → s.head ≤ p → p < s.tail → p % 32 < 31 → p / 32 < s.blocks → (slot_at slots (s.phys (p / 32)) (p % 32)).value ≡ s.item p
  value_at p a b c d =
      let k : 32 * (p / 32) + p % 32 ≡ p = omega arith in
      ap (λ (x : Slot). x.value) (subst (λ (o : Own). SlotRep s.push s.pop s.destroy s.val o (p % 32) (slot_at slots (s.phys (p / 32)) (p % 32)))
      (own_at (p / 32) (omega arith) d) (sim.cells (s.phys (p / 32)) (p % 32) (small_at (p / 32) (omega arith) d) c))
      ∙ ap s.val k ∙ value_is s inv idle p b c

  module _ (some : 0 < s.blocks) (items : List ℕ) (long : length items ≡ counted s.tail) (item_at_lem : (p : ℕ) → p < s.tail → p % 32 < 31 → get_or items (counted p) 0 ≡ s.item p) where
    last_block : s.blocks ≡ s.tail / 32 + 1
    last_block = inv.ends.one some (tail_slot s inv idle)

    pub record Walked (left p n : ℕ) (l : List Block) : Type 0 where
      pub sound : (walk_from sizes left l (To (s.phys (p / 32))) (word p false) (word s.tail false) n).sound ≡ true
      pub met : items_from sizes slots left l (To (s.phys (p / 32))) (word p false) (word s.tail false) ≡ drop (counted p) items

    pub walks : (left p n : ℕ) (l : List Block) → s.tail < p + left → s.head ≤ p → p ≤ s.tail → length l ≡ 64 → Whole (p / 32) l → Walked left p n l
    unfolding without
    walks zero p n l fuel low high size whole = absurd (omega arith)
    walks (suc left) p n l fuel low high size whole =
        go (ℕ_discrete p s.tail)
        (λ (a : p < s.tail). walks left (p + 1) n (without sizes l (To (s.phys (p / 32)))) (omega arith) (omega arith) (omega arith))
        (λ (a : p < s.tail). walks left (p + 1) (n + 1) l (omega arith) (omega arith) (omega arith) size)
      where
        j : ℕ
        j = p / 32

        here : j < s.blocks
        here = omega (arith, last_block)

        alive : live sizes l (s.phys (p / 32)) ≡ true
        alive = live_yes l (s.phys (p / 32)) (small_at (p / 32) (omega arith) here) (ap (λ (g : Block). g.free) (whole (p / 32) (omega arith) here))

        on : later (word p false) ≡ word (p + 1) false
        on = later_word p false (omega arith)

        end : p ≡ s.tail → Walked (suc left) p n l
        end z =
            record {
              sound = ap (λ (d : Dropped). d.sound) (walk_stops left n l (To (s.phys (p / 32))) (word p false) (word s.tail false)
                  (same_word p s.tail z)) ∙ last_is l (s.phys (p / 32)) ∙ alive;
              met = items_stop left n l (To (s.phys (p / 32))) (word p false) (word s.tail false) slots (same_word p s.tail z)
                  ∙ sym (ap (λ (i : ℕ). drop i items) (ap counted z ∙ sym long) ∙ drop-length items);
            }

        go : Dec (p ≡ s.tail)
            → (p < s.tail → length (without sizes l (To (s.phys (p / 32)))) ≡ 64 → Whole ((p + 1) / 32) (without sizes l (To (s.phys (p / 32))))
            → Walked left (p + 1) n (without sizes l (To (s.phys (p / 32)))))
            → (p < s.tail → Whole ((p + 1) / 32) l → Walked left (p + 1) (n + 1) l) → Walked (suc left) p n l
        go (yes z) gap on_slot = end z
        go (no z) gap on_slot = by (ℕ_discrete (p % 32) 31)
          where
            before : p < s.tail
            before = omega arith

            by : Dec (p % 32 ≡ 31) → Walked (suc left) p n l
            by (yes g) = crossing (gap before (length-set l (s.phys (p / 32)) _ ∙ size) left_whole)
              where
                next_j : (p + 1) / 32 ≡ p / 32 + 1
                next_j = omega arith

                left_whole : Whole ((p + 1) / 32) (without sizes l (To (s.phys (p / 32))))
                left_whole i a b =
                    get_other l (s.phys (p / 32)) (s.phys i) _ new_block (λ q. let y = one_block i (p / 32) (omega arith) b (omega arith) here q in omega arith) ∙ whole i (omega arith) b

                crossing : Walked left (p + 1) n (without sizes l (To (s.phys (p / 32)))) → Walked (suc left) p n l
                crossing r =
                    let passed : counted (p + 1) ≡ counted p = omega arith in
                    let follow : (block_at l (s.phys (p / 32))).next ≡ To (s.phys ((p + 1) / 32)) = next_at (p / 32) (omega arith) l
                    (whole (p / 32) (omega arith) here) ∙ ap (λ (i : ℕ). To (s.phys i)) (sym next_j) in
                    record {
                      sound = ap (λ (d : Dropped). d.sound) (walk_drops left n l (To (s.phys (p / 32))) (word p false) (word s.tail false)
                          (other_word p s.tail z) alive (past_word p false ∙ eq-eqb (p % 32) 31 g))
                          ∙ ap (λ (d : Pointer). (walk_from sizes left (without sizes l (To (s.phys (p / 32)))) d (later (word p false)) (word s.tail false) n).sound) follow
                          ∙ ap (λ (i : Index). (walk_from sizes left (without sizes l (To (s.phys (p / 32)))) (To (s.phys ((p + 1) / 32))) i (word s.tail false) n).sound) on ∙ r.sound;
                      met = items_dropped left n l (To (s.phys (p / 32))) (word p false) (word s.tail false) slots (other_word p s.tail z) (past_word p false ∙ eq-eqb (p % 32) 31 g)
                          ∙ ap (λ (d : Pointer). items_from sizes slots left (without sizes l (To (s.phys (p / 32)))) d (later (word p false)) (word s.tail false)) follow
                          ∙ ap (λ (i : Index). items_from sizes slots left (without sizes l (To (s.phys (p / 32)))) (To (s.phys ((p + 1) / 32))) i (word s.tail false)) on ∙ r.met
                          ∙ ap (λ (i : ℕ). drop i items) passed;
                    }
            by (no g) = inside (on_slot before (λ i a b. whole i (omega arith) b))
              where
                same_j : (p + 1) / 32 ≡ p / 32
                same_j = omega arith

                inside : Walked left (p + 1) (n + 1) l → Walked (suc left) p n l
                inside r =
                    let less : counted p < length items = omega (arith, long) in
                    let step : suc (counted p) ≡ counted (p + 1) = omega arith in
                    record {
                      sound = ap (λ (d : Dropped). d.sound) (walk_meets left n l (To (s.phys (p / 32))) (word p false) (word s.tail false)
                          (other_word p s.tail z) alive (past_word p false ∙ ne_eqb (p % 32) 31 g))
                          ∙ ap (λ (i : Index). (walk_from sizes left l (To (s.phys (p / 32))) i (word s.tail false) (n + 1)).sound) on
                          ∙ ap (λ (i : ℕ). (walk_from sizes left l (To (s.phys i)) (word (p + 1) false) (word s.tail false) (n + 1)).sound) (sym same_j) ∙ r.sound;
                      met = items_met left n l (To (s.phys (p / 32))) (word p false) (word s.tail false) slots (other_word p s.tail z) (past_word p false ∙ ne_eqb (p % 32) 31 g)
                          ∙ ap (λ (i : ℕ). (slot_at slots (s.phys (p / 32)) i).value ∷ items_from sizes slots left l (To (s.phys (p / 32)))
                          (later (word p false)) (word s.tail false)) (offset_word p false)
                          ∙ ap (λ (v : ℕ). v ∷ items_from sizes slots left l (To (s.phys (p / 32))) (later (word p false)) (word s.tail false))
                          (value_at p low before (omega arith) here ∙ sym (item_at_lem p before (omega arith)))
                          ∙ ap (λ (i : Index). get_or items (counted p) 0 ∷ items_from sizes slots left l (To (s.phys (p / 32))) i (word s.tail false)) on
                          ∙ ap (λ (i : ℕ). get_or items (counted p) 0 ∷ items_from sizes slots left l (To (s.phys i)) (word (p + 1) false) (word s.tail false)) (sym same_j)
                          ∙ ap (λ (y : List ℕ). get_or items (counted p) 0 ∷ y) (r.met ∙ ap (λ (i : ℕ). drop i items) (sym step)) ∙ sym (drop-cons items (counted p) 0 less);
                    }

    front_at : s.front ≡ to (s.phys (s.head / 32))
    front_at = inv.ends.at_head (begun (done_or_not s.first)) (head_slot s inv idle)
      where
        begun : Dec (s.first ≡ Done) → s.first ≡ Done
        begun (yes z) = z
        begun (no z) = absurd (none_first s.first refl z)
          where
            none_first : (f : Hand) → s.first ≡ f → s.first ≢ Done → ⊥
            none_first Open z n = omega (arith, inv.ends.opens z)
            none_first Done z n = n z
            none_first (By v) z n = let f = (idle v).firsts z in none_not_to none f.0 refl f.1

    -- the walk of the machine's own words
    pub whole_walk : ((walk_of sizes (ends_of_ring s) blocks).sound ≡ true) × (items_of sizes (ends_of_ring s) blocks slots ≡ drop (counted s.head) items)
    unfolding walk_of items_of
    whole_walk =
        let w = walks 2080 s.head 0 blocks (omega (arith, pool_holds, last_block)) (omega arith) inv.ends.low sim.blocks_long (λ i a b. header_at i a b) in (
          ap (λ (d : Pointer). (walk_from sizes 2080 blocks d (unmarked_of (word s.head s.mark)) (unmarked_of (word s.tail s.closed)) 0).sound) (ap ptr front_at)
              ∙ ap (λ (i : Index). (walk_from sizes 2080 blocks (To (s.phys (s.head / 32))) i (unmarked_of (word s.tail s.closed)) 0).sound) (unmarked_word s.head s.mark)
              ∙ ap (λ (i : Index). (walk_from sizes 2080 blocks (To (s.phys (s.head / 32))) (word s.head false) i 0).sound) (unmarked_word s.tail s.closed) ∙ w.sound,
          ap (λ (d : Pointer). items_from sizes slots 2080 blocks d (unmarked_of (word s.head s.mark)) (unmarked_of (word s.tail s.closed))) (ap ptr front_at)
              ∙ ap (λ (i : Index). items_from sizes slots 2080 blocks (To (s.phys (s.head / 32))) i (unmarked_of (word s.tail s.closed))) (unmarked_word s.head s.mark)
              ∙ ap (λ (i : Index). items_from sizes slots 2080 blocks (To (s.phys (s.head / 32))) (word s.head false) i) (unmarked_word s.tail s.closed) ∙ w.met,
        )

    -- ---- the taken blocks are those that head's leads to
    chain_step : (n k b : ℕ) → eqb k b ≡ false → chained (suc n) blocks (To k) b ≡ chained n blocks (block_at blocks k).next b
    unfolding chained
    chain_step n k b z = simp z

    chain_found : (n k b : ℕ) → eqb k b ≡ true → chained (suc n) blocks (To k) b ≡ true
    unfolding chained
    chain_found n k b z = simp z

    chain_yes : (n j i : ℕ) → s.head / 32 ≤ j → j ≤ i → i < s.blocks → i < j + n → chained n blocks (To (s.phys j)) (s.phys i) ≡ true
    chain_yes zero j i a b c d = absurd (omega arith)
    chain_yes (suc n) j i a b c d = go (eqb (s.phys j) (s.phys i)) refl (λ (l : j < i). chain_yes n (j + 1) i (omega arith) (omega arith) c (omega arith))
      where
        go : (t : Bool) → eqb (s.phys j) (s.phys i) ≡ t → (j < i → chained n blocks (To (s.phys (j + 1))) (s.phys i) ≡ true) → chained (suc n) blocks (To (s.phys j)) (s.phys i) ≡ true
        go true z more = chain_found n (s.phys j) (s.phys i) z
        go false z more =
            let l : j < i = by (ℕ_discrete j i) in
            chain_step n (s.phys j) (s.phys i) z ∙ ap (λ (d : Pointer). chained n blocks d (s.phys i)) (next_at j (omega (arith, last_block)) blocks (header_at j a (omega arith))) ∙ more l
          where
            by : Dec (j ≡ i) → j < i
            by (yes y) = absurd (true≢false (sym (eq-eqb (s.phys j) (s.phys i) (ap s.phys y)) ∙ z))
            by (no y) = omega arith

    chain_ends : (n : ℕ) (b : ℕ) → chained n blocks None b ≡ false
    unfolding chained
    chain_ends zero b = refl
    chain_ends (suc n) b = refl

    chain_none : (n b : ℕ) (d : Pointer) → chained zero blocks d b ≡ false
    unfolding chained
    chain_none n b d = refl

    chain_no : (n j b : ℕ) → s.head / 32 ≤ j → j < s.blocks → chained n blocks (To (s.phys j)) b ≡ true → (i : ℕ) × (s.head / 32 ≤ i) × (i < s.blocks) × (s.phys i ≡ b)
    chain_no zero j b a c z = absurd (true≢false (sym z ∙ chain_none 0 b (To (s.phys j))))
    chain_no (suc n) j b a c z = go (eqb (s.phys j) b) refl (dec_lt (j + 1) s.blocks) (λ (l : j + 1 < s.blocks). chain_no n (j + 1) b (omega arith) l)
      where
        go : (t : Bool) → eqb (s.phys j) b ≡ t → Dec (j + 1 < s.blocks)
            → (j + 1 < s.blocks → chained n blocks (To (s.phys (j + 1))) b ≡ true → (i : ℕ) × (s.head / 32 ≤ i) × (i < s.blocks) × (s.phys i ≡ b))
            → (i : ℕ) × (s.head / 32 ≤ i) × (i < s.blocks) × (s.phys i ≡ b)
        go true y more again = (j, a, c, eqb-true (s.phys j) b y)
        go false y (yes l) again =
            again l (sym (ap (λ (d : Pointer). chained n blocks d b) (next_at j (omega (arith, last_block)) blocks (header_at j a c))) ∙ sym (chain_step n (s.phys j) b y) ∙ z)
        go false y (no l) again =
            let untied : s.link j ≡ false = clear (s.link j) (λ t. let k = inv.hands.linked j t in omega (arith, last_block)) in
            let stop : (block_at blocks (s.phys j)).next ≡ None = ap (λ (x : Block). x.next) (header_at j a c) ∙ ap (λ (t : Bool). cond t (To (s.phys (j + 1))) None) untied in
            absurd (true≢false (sym z ∙ chain_step n (s.phys j) b y ∙ ap (λ (d : Pointer). chained n blocks d b) stop ∙ chain_ends n b))

    pub chain_is : (k : ℕ) → k < 64 → live sizes blocks k ≡ chained 64 blocks (ends_of_ring s).front k
    chain_is k small = go (s.own k) refl (sim.headers k small) ∙ ap (λ (d : Pointer). chained 64 blocks d k) (sym (ap ptr front_at))
      where
        go : (o : Own) → s.own k ≡ o → HeadRep s.link s.phys o (block_at blocks k) → live sizes blocks k ≡ chained 64 blocks (To (s.phys (s.head / 32))) k
        go Free z g = live_no blocks k small g ∙ sym (clear (chained 64 blocks (To (s.phys (s.head / 32))) k)
            (λ t. let c = chain_no 64 (s.head / 32) k (omega arith) (omega (arith, last_block, inv.ends.low)) t in
            free_not_chain (s.own k) c.0 z (ap s.own (sym c.3) ∙ own_at c.0 c.1 c.2)))
        go (Aside v) z g = absurd (none_aside s inv idle k v z)
        go (Chain j) z g =
            let c = taken_is s inv idle k j z in
            live_yes blocks k small (ap (λ (x : Block). x.free) g) ∙ sym
            (ap (chained 64 blocks (To (s.phys (s.head / 32)))) (sym c.2)
            ∙ chain_yes 64 (s.head / 32) j (omega arith) c.0 c.1 (omega (arith, pool_holds)))

    -- and tail's is the last
    pub last_chained : (b : ℕ) → back_of s.blocks s.phys ≡ To b → (chained 64 blocks (ends_of_ring s).front b ≡ true) × ((block_at blocks b).next ≡ None)
    last_chained b z =
        let at = (back_some s.blocks s.phys b z).1 in
        let j : s.tail / 32 ≡ s.blocks - 1 = omega (arith, last_block) in
        let k : s.head / 32 ≤ s.blocks - 1 = omega (arith, inv.ends.low) in
        let untied : s.link (s.blocks - 1) ≡ false = clear (s.link (s.blocks - 1)) (λ t. let l = inv.hands.linked (s.blocks - 1) t in omega (arith, last_block)) in (
          ap (λ (d : Ptr). chained 64 blocks (ptr d) b) front_at ∙ ap (chained 64 blocks (To (s.phys (s.head / 32)))) at
              ∙ chain_yes 64 (s.head / 32) (s.blocks - 1) (omega arith) k (omega arith) (omega (arith, pool_holds)),
          ap (λ (i : ℕ). (block_at blocks i).next) at ∙ ap (λ (x : Block). x.next) (header_at (s.blocks - 1) k (omega arith))
              ∙ ap (λ (t : Bool). cond t (To (s.phys (s.blocks - 1 + 1))) None) untied,
        )

  -- ---- and where no block was installed yet
  module _ (empty : s.blocks ≡ 0) where
    nothing : (s.tail ≡ 0) × (s.head ≡ 0) × (s.front ≡ none)
    nothing =
        let t = inv.ends.none_yet empty in
        let f = inv.ends.opened empty in
        (t, omega (arith, inv.ends.low), (inv.ends.unfronted (λ d. hand_open_done s.first f d)).0)

    pub no_walk : ((walk_of sizes (ends_of_ring s) blocks).sound ≡ true) × (items_of sizes (ends_of_ring s) blocks slots ≡ [])
    unfolding walk_of items_of last_fits
    no_walk =
        let both : same (unmarked_of (word s.head s.mark)) (unmarked_of (word s.tail s.closed)) ≡ true = ap
        (λ (i : Index). same i (unmarked_of (word s.tail s.closed))) (unmarked_word s.head s.mark)
        ∙ ap (same (word s.head false)) (unmarked_word s.tail s.closed) ∙ same_word s.head s.tail (nothing.1 ∙ sym nothing.0) in (
          ap (λ (d : Dropped). d.sound) (walk_stops 2079 0 blocks (ptr s.front) (unmarked_of (word s.head s.mark))
              (unmarked_of (word s.tail s.closed)) both) ∙ ap (λ (d : Ptr). last_fits sizes blocks (ptr d)) nothing.2,
          items_stop 2079 0 blocks (ptr s.front) (unmarked_of (word s.head s.mark)) (unmarked_of (word s.tail s.closed)) slots both,
        )

    pub none_taken : (k : ℕ) → k < 64 → live sizes blocks k ≡ chained 64 blocks (ends_of_ring s).front k
    unfolding chained
    none_taken k small = go (s.own k) refl (sim.headers k small) ∙ sym (ap (λ (d : Ptr). chained 64 blocks (ptr d) k) nothing.2)
      where
        go : (o : Own) → s.own k ≡ o → HeadRep s.link s.phys o (block_at blocks k) → live sizes blocks k ≡ false
        go Free z g = live_no blocks k small g
        go (Aside v) z g = absurd (none_aside s inv idle k v z)
        go (Chain j) z g = absurd (omega (arith, (inv.owns.chain k j z).0))
