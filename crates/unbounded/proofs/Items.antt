-- What contents rests on: a walk that is sound meets as many items as it counts, one a step.
use Prim.Native.Nat.{ℕ, zero, suc, ◌+◌, ◌-◌, ◌<◌, ◌≤◌}
use mathlib.Core.Path.{◌≡◌, refl, sym, ap, ◌∙◌, subst}
use mathlib.Core.Bool.{Bool, true, false, cond, true≢false}
use mathlib.Core.List.{List, [], ◌∷◌, ◌++◌, append_assoc}
use native.Mathlib.Omega.{arith}
use native.Mathlib.Numerals.{add-one}
use lib.ListN.{get_or, set, length, take, drop, length-drop}
use lib.Seq.{drop-cons, take-suc, take_all, length-take-le, set_at}
use Rattle.std.specs.Prelude.{Result, Ok, Err}
use Rattle.queue_entries.specs.Told.{told}
use Rattle.queue_entries.proofs.Pick.{yes, no, below, above, other}
use Rattle.unbounded_words.specs.declared.Index.{Index}
use Rattle.unbounded_words.specs.declared.Pointer.{Pointer}
use Rattle.unbounded_words.specs.Words.{sizes, offset_of, past_slots, unmarked_of, later, same, number_of}
use Rattle.unbounded_places.specs.declared.Slot.{Slot}
use Rattle.unbounded_places.specs.declared.Block.{Block}
use Rattle.unbounded_acts.specs.Acts.{freed}
use Rattle.unbounded_machine.specs.declared.Machine.{Machine}
use Rattle.unbounded_machine.specs.declared.Dropped.{Dropped}
use Rattle.unbounded_machine.specs.Machine.{block_at, slot_at, live}
use Rattle.unbounded_machine.specs.Drop.{walked, last_fits, without, walk_from, walk_of, items_from, items_of}
use Rattle.unbounded_machine.specs.Broken.{broken_of, all_idle}
use Rattle.unbounded_machine.specs.Contents.{count_in, contents_of, contents_refusal, written}
use Rattle.unbounded_machine.proofs.Fits.{live_below, unbroken_walk}

-- a sound walk that is not at its end stands on a block that is not free
sound_parts : (s v p : Bool) (end : Bool) (n m : ℕ) (a b : Dropped) → s ≡ false → cond s (walked end n) (cond v (cond p a b) (walked false n)) ≡ walked true m
    → (v ≡ true) × (cond p a b ≡ walked true m)
sound_parts true v p end n m a b h e = absurd (true≢false h)
sound_parts false true p end n m a b h e = (refl, e)
sound_parts false false p end n m a b h e = absurd (true≢false (sym (ap (λ (d : Dropped). d.sound) e)))

module _ (left : ℕ) (l : List Block) (b : Pointer) (h t : Index) (n m : ℕ) (back : walk_from sizes left l b h t n ≡ walked true m) (some : 0 < left) (hs : same h t ≡ false) where
  parts : (live sizes l (number_of sizes b) ≡ true) × (cond (past_slots sizes h)
      (walk_from sizes (left - 1) (without sizes l b) (block_at l (number_of sizes b)).next (later h) t n)
      (walk_from sizes (left - 1) l b (later h) t (n + 1)) ≡ walked true m)
  unfolding walk_from
  parts =
      let q : left ≡ suc (left - 1) = omega arith in
      sound_parts (same h t) (live sizes l (number_of sizes b)) (past_slots sizes h) (last_fits sizes l b) n m _ _ hs (ap (λ (k : ℕ). walk_from sizes k l b h t n) (sym q) ∙ back)

  pub on_block : (k : ℕ) → k ≡ number_of sizes b → k < 64
  on_block k e = subst (λ (x : ℕ). x < 64) (sym e) (live_below l (number_of sizes b) parts.0)

  module _ (s : List Slot) (p : Bool) (ep : p ≡ past_slots sizes h) where
    gap : p ≡ true → (walk_from sizes (left - 1) (without sizes l b) (block_at l (number_of sizes b)).next (later h) t n ≡ walked true m)
        × (items_from sizes s left l b h t ≡ items_from sizes s (left - 1) (without sizes l b) (block_at l (number_of sizes b)).next (later h) t)
    unfolding items_from
    gap hp =
        let q : left ≡ suc (left - 1) = omega arith in (
          yes (past_slots sizes h) p _ _ _ ep hp refl ∙ parts.1,
          ap (λ (k : ℕ). items_from sizes s k l b h t) q ∙ sym (no (same h t) false _ [] _ (sym hs) refl (yes (past_slots sizes h) p _ _ _ ep hp refl)),
        )

    at_slot : p ≡ false → (walk_from sizes (left - 1) l b (later h) t (n + 1) ≡ walked true m)
        × (items_from sizes s left l b h t ≡ (slot_at sizes s (number_of sizes b) (offset_of sizes h)).value ∷ items_from sizes s (left - 1) l b (later h) t)
    unfolding items_from
    at_slot hp =
        let q : left ≡ suc (left - 1) = omega arith in (
          no (past_slots sizes h) p _ _ _ ep hp refl ∙ parts.1,
          ap (λ (k : ℕ). items_from sizes s k l b h t) q ∙ sym (no (same h t) false _ [] _ (sym hs) refl (no (past_slots sizes h) p _ _ _ ep hp refl)),
        )

items_end : (s : List Slot) (left : ℕ) (l : List Block) (b : Pointer) (h t : Index) → same h t ≡ true → items_from sizes s left l b h t ≡ []
unfolding items_from
items_end s zero l b h t e = refl
items_end s (suc left) l b h t e = sym (yes (same h t) true [] [] _ (sym e) refl refl)

module _ (s : List Slot) (left : ℕ) (l : List Block) (b : Pointer) (h t : Index) (e : same h t ≡ false) where
  items_gap : past_slots sizes h ≡ true → items_from sizes s (suc left) l b h t ≡ items_from sizes s left (without sizes l b) (block_at l (number_of sizes b)).next (later h) t
  unfolding items_from
  items_gap q = sym (no (same h t) false _ [] _ (sym e) refl (yes (past_slots sizes h) true _ _ _ (sym q) refl refl))

  items_slot : past_slots sizes h ≡ false → items_from sizes s (suc left) l b h t ≡ (slot_at sizes s (number_of sizes b) (offset_of sizes h)).value ∷ items_from sizes s left l b (later h) t
  unfolding items_from
  items_slot q = sym (no (same h t) false _ [] _ (sym e) refl (no (past_slots sizes h) false _ _ _ (sym q) refl refl))

-- as many items as are counted
pub counts : (s : List Slot) (left : ℕ) (l : List Block) (b : Pointer) (h t : Index) (n m : ℕ) → walk_from sizes left l b h t n ≡ walked true m → m ≡ n + length (items_from sizes s left l b h t)
unfolding walk_from items_from
counts s zero l b h t n m back = absurd (true≢false (sym (zero_unsound back)))
  where
    zero_unsound : walk_from sizes 0 l b h t n ≡ walked true m → false ≡ true
    zero_unsound e = ap (λ (d : Dropped). d.sound) e
counts s (suc left) l b h t n m back =
    let e : suc left - 1 ≡ left = omega arith in
    go (same h t) refl (past_slots sizes h) refl
    (λ g p. counts s left (without sizes l b) (block_at l (number_of sizes b)).next (later h) t n m
    (subst (λ (k : ℕ). walk_from sizes k (without sizes l b) (block_at l (number_of sizes b)).next (later h) t n ≡ walked true m) e
    (gap (suc left) l b h t n m back (omega arith) g s true (sym p) refl).0))
    (λ g p. counts s left l b (later h) t (n + 1) m (subst (λ (k : ℕ). walk_from sizes k l b (later h) t (n + 1) ≡ walked true m) e
    (at_slot (suc left) l b h t n m back (omega arith) g s false (sym p) refl).0))
  where
    go : (d : Bool) → same h t ≡ d → (p : Bool) → past_slots sizes h ≡ p
        → (same h t ≡ false → past_slots sizes h ≡ true → m ≡ n + length (items_from sizes s left (without sizes l b) (block_at l (number_of sizes b)).next (later h) t))
        → (same h t ≡ false → past_slots sizes h ≡ false → m ≡ n + 1 + length (items_from sizes s left l b (later h) t))
        → m ≡ n + length (items_from sizes s (suc left) l b h t)
    go true e p q f g =
        let z : m ≡ n = sym (ap (λ (d : Dropped). d.count) (yes (same h t) true (walked (last_fits sizes l b) n) (walked (last_fits sizes l b) n) _ (sym e) refl refl ∙ back)) in
        omega (arith, ap length (items_end s (suc left) l b h t e))
    go false e true q f g = omega (arith, f e q, ap length (items_gap s left l b h t e q))
    go false e false q f g = omega (arith, g e q, ap length (items_slot s left l b h t e q))

-- ---- the walk and the buffer, `met` items on: `all` is the whole list and n its length
pub record Walking (all : List ℕ) (n : ℕ) (s : List Slot) (left : ℕ) (l : List Block) (b : Pointer) (h t : Index) (met : ℕ) : Type 0 where
  pub walk : walk_from sizes left l b h t met ≡ walked true n
  pub items : items_from sizes s left l b h t ≡ drop met all
  pub room : left + met ≤ 2080

module _ (all : List ℕ) (n : ℕ) (s : List Slot) (left : ℕ) (l : List Block) (b : Pointer) (h t : Index) (met : ℕ) (w : Walking all n s left l b h t met) where
  remain : n ≡ met + (length all - met)
  remain = counts s left l b h t met n w.walk ∙ ap (λ (k : ℕ). met + k) (ap length w.items ∙ length-drop met all)

  module _ (before after : List ℕ) (size : length after ≡ length before) (full : n ≤ length before) (so_far : after ≡ take met all ++ drop met before) where
    pub listed : same h t ≡ true → met ≤ length all → (n ≡ length all) × (after ≡ all ++ drop (length all) before)
    listed e le =
        let z : length all - met ≡ 0 = sym (length-drop met all) ∙ ap length (sym w.items ∙ items_end s left l b h t e) in
        let q : met ≡ length all = omega arith in
        (omega (arith, remain), so_far ∙ ap (λ (x : List ℕ). x ++ drop met before) (take_all met all (omega arith)) ∙ ap (λ (k : ℕ). all ++ drop k before) q)

    module _ (some : 0 < left) (hs : same h t ≡ false) (p : Bool) (ep : p ≡ past_slots sizes h) (h' : Index) (eh : h' ≡ later h) (k : ℕ) (ek : k ≡ number_of sizes b) where
      pub pass_gap : p ≡ true → Walking all n s (left - 1) (set l k (record { next = (block_at l k).next; free = true })) (block_at l k).next h' t met
      unfolding without freed
      pass_gap hp =
          let g = gap left l b h t met n w.walk some hs s p ep hp in
          rw (ek, eh) (record { walk = g.0; items = sym g.1 ∙ w.items; room = omega (arith, w.room) })

      module _ (hp : p ≡ false) (v : ℕ) (ev : v ≡ (slot_at sizes s k (offset_of sizes h)).value) where
        front : drop met all ≡ v ∷ items_from sizes s (left - 1) l b (later h) t
        front = sym w.items ∙ (at_slot left l b h t met n w.walk some hs s p ep hp).1
            ∙ ap (λ (x : ℕ). x ∷ items_from sizes s (left - 1) l b (later h) t) (sym (ev ∙ ap (λ (x : ℕ). (slot_at sizes s x (offset_of sizes h)).value) ek))

        inside : met < length all
        inside = let z : length all - met ≡ suc (length (items_from sizes s (left - 1) l b (later h) t)) = sym (length-drop met all) ∙ ap length front in omega arith

        head_is : v ≡ get_or all met 0
        head_is = let e : v ∷ items_from sizes s (left - 1) l b (later h) t ≡ get_or all met 0 ∷ drop (suc met) all = sym front ∙ drop-cons all met 0 inside in cc

        tail_is : items_from sizes s (left - 1) l b (later h) t ≡ drop (suc met) all
        tail_is = let e : v ∷ items_from sizes s (left - 1) l b (later h) t ≡ get_or all met 0 ∷ drop (suc met) all = sym front ∙ drop-cons all met 0 inside in cc

        pub fits_buffer : met < length after
        fits_buffer = let i = inside in omega (arith, remain)

        pub within_all : met + 1 ≤ length all
        within_all = let i = inside in omega arith

        pub pass_slot : Walking all n s (left - 1) l b h' t (met + 1)
        pass_slot =
            rw eh (record { walk = (at_slot left l b h t met n w.walk some hs s p ep hp).0; items = tail_is ∙ ap (λ (x : ℕ). drop x all) (sym (add-one met)); room = omega (arith, w.room) })

        pub written_on : set after met v ≡ take (met + 1) all ++ drop (met + 1) before
        written_on =
            let i = inside in
            ap (λ (x : List ℕ). set x met v) (so_far ∙ ap (λ (x : List ℕ). take met all ++ x) (drop-cons before met 0 (omega (arith, remain))))
            ∙ set_at (take met all) (get_or before met 0) (drop (suc met) before) v met (length-take-le met all (omega arith))
            ∙ ap (λ (x : ℕ). take met all ++ x ∷ drop (suc met) before) head_is
            ∙ sym (append_assoc (take met all) (get_or all met 0 ∷ []) (drop (suc met) before))
            ∙ ap (λ (x : List ℕ). x ++ drop (suc met) before) (sym (take-suc all met 0 inside))
            ∙ ap (λ (x : ℕ). take x all ++ drop x before) (sym (add-one met))

-- ---- which refusal, the answer and the buffer
abbrev pub Answers : Machine → List ℕ → List ℕ → Result ℕ ℕ → Type 0
Answers m before after r = (r ≡ told (contents_refusal sizes m (length before)) (count_in sizes m)) × (after ≡ written sizes m before)

turned : (m : Machine) (buffer : List ℕ) (n : ℕ) → 0 < n → n ≡ contents_refusal sizes m (length buffer) → Answers m buffer buffer (Err n)
unfolding told written
turned m buffer n pos e = (rw (← e) (other n 0 _ _ _ (λ z. omega arith) refl), rw (← e) (other n 0 _ _ _ (λ z. omega arith) refl))

module _ (m : Machine) (buffer : List ℕ) (b : Bool) (eb : b ≡ broken_of sizes m) where
  pub turned_6 : b ≡ true → Answers m buffer buffer (Err 6)
  unfolding contents_refusal
  turned_6 h = turned m buffer 6 (omega arith) (yes _ b _ _ _ eb h refl)

  module _ (hb : b ≡ false) (d : Bool) (ed : d ≡ all_idle sizes m.workers) where
    pub turned_4 : d ≡ false → Answers m buffer buffer (Err 4)
    unfolding contents_refusal
    turned_4 h = turned m buffer 4 (omega arith) (no _ b _ _ _ eb hb (no _ d _ _ _ ed h refl))

    module _ (hd : d ≡ true) (r : Dropped) (er : r ≡ walk_of sizes m.ends m.blocks) where
      pub turned_10 : length buffer < r.count → Answers m buffer buffer (Err 10)
      unfolding contents_refusal count_in
      turned_10 h = turned m buffer 10 (omega arith) (no _ b _ _ _ eb hb
          (yes _ d _ _ _ ed hd (below (length buffer) (walk_of sizes m.ends m.blocks).count _ _ _
          (subst (λ (x : Dropped). length buffer < x.count) er h) refl)))

      -- what the loop begins with
      pub begins : (h t : Index) → h ≡ unmarked_of m.ends.head → t ≡ unmarked_of m.ends.tail
          → Walking (items_from sizes m.slots 2080 m.blocks m.ends.front h t) r.count m.slots 2080 m.blocks m.ends.front h t 0
      unfolding walk_of
      begins h t eh et =
          record {
            walk = rw (eh, et) (sym er ∙ ap (λ (x : Bool). walked x r.count) (ap (λ (x : Dropped). x.sound) er ∙ unbroken_walk m (sym eb ∙ hb) (sym ed ∙ hd)));
            items = refl;
            room = omega arith;
          }

      pub told_all : (h t : Index) (after : List ℕ) → h ≡ unmarked_of m.ends.head → t ≡ unmarked_of m.ends.tail → r.count ≤ length buffer
          → r.count ≡ length (items_from sizes m.slots 2080 m.blocks m.ends.front h t)
          → after ≡ items_from sizes m.slots 2080 m.blocks m.ends.front h t ++ drop (length (items_from sizes m.slots 2080 m.blocks m.ends.front h t)) buffer
          → Answers m buffer after (Ok r.count)
      unfolding told written contents_of items_of count_in contents_refusal
      told_all h t after eh et full count e =
          let c : r.count ≡ (walk_of sizes m.ends m.blocks).count = ap (λ (x : Dropped). x.count) er in
          let z : 0 ≡ contents_refusal sizes m (length buffer) = no _ b _ _ _ eb hb
          (yes _ d _ _ _ ed hd (above (length buffer) (walk_of sizes m.ends m.blocks).count 0 10 0 (omega arith) refl)) in
          (rw (← z) (ap Ok c), rw (← z, ← c, count) (e ∙ rw (eh, et)))

-- the walk does not run out of steps
pub ends_within : (all : List ℕ) (n : ℕ) (s : List Slot) (left : ℕ) (l : List Block) (b : Pointer) (h t : Index) (met : ℕ) → Walking all n s left l b h t met → left ≤ 0 → ⊥
unfolding walk_from
ends_within all n s left l b h t met w e =
    let z : left ≡ 0 = omega arith in
    true≢false (sym (ap (λ (d : Dropped). d.sound) (ap (λ (k : ℕ). walk_from sizes k l b h t met) (sym z) ∙ w.walk)))
