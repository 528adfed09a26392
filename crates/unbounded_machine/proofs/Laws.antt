-- What the machine's functions rest on.
use Prim.Native.Nat.{ℕ, suc, ◌+◌, ◌-◌, ◌*◌, ◌<◌, ◌≤◌}
use mathlib.Core.Path.{◌≡◌, refl, sym, ap, ◌∙◌}
use mathlib.Core.Bool.{Bool, true, false, not}
use mathlib.Core.List.{List}
use native.Mathlib.Omega.{arith}
use lib.ListN.{set, replicate}
use Rattle.queue_entries.specs.Limits.{workers_most, in_limits}
use Rattle.queue_entries.proofs.Pick.{along, yes, no, on, off, below, above}
use Rattle.unbounded_words.specs.declared.Index.{Index}
use Rattle.unbounded_words.specs.declared.Pointer.{Pointer}
use Rattle.unbounded_words.specs.Words.{sizes, past_slots, unmarked_of, later, same, number_of}
use Rattle.unbounded_places.specs.declared.Slot.{Slot}
use Rattle.unbounded_places.specs.declared.Block.{Block}
use Rattle.unbounded_places.specs.declared.Ends.{Ends}
use Rattle.unbounded_places.specs.declared.Place.{Place}
use Rattle.unbounded_places.specs.declared.Uses.{Uses}
use Rattle.unbounded_places.specs.declared.View.{View}
use Rattle.unbounded_places.specs.declared.Worker.{Worker}
use Rattle.unbounded_places.specs.Places.{view_of}
use Rattle.unbounded_acts.specs.Acts.{freed}
use Rattle.unbounded_machine.specs.declared.Machine.{Machine}
use Rattle.unbounded_machine.specs.declared.Dropped.{Dropped}
use Rattle.unbounded_machine.specs.Machine.{slot, block_at, live, free_block, free_blocks, empty_slots, idler, idlers, starts, machine_of, fresh_of, blank}
use Rattle.unbounded_machine.specs.Drop.{walked, last_fits, without, walk_from, walk_of}
use Rattle.unbounded_machine.specs.Broken.{uses_fit, record_fits, records_fit, all_idle, drop_fits, broken_in}
use Rattle.unbounded_machine.specs.Turn.{lowest_from, cleared_from, block_used, slot_used}

pub fresh_is : (workers : ℕ) → machine_of starts (replicate 64 free_block) (replicate 1984 (slot 0 0)) (replicate workers_most idler) workers 0 ≡ fresh_of sizes workers
unfolding fresh_of free_blocks empty_slots idlers
fresh_is workers = refl

pub blank_is : (m : Machine) → m ≡ fresh_of sizes 0 → m ≡ blank sizes
unfolding blank
blank_is m e = e

-- ---- a block that is not free
module _ (l : List Block) (k : ℕ) where
  pub live_by : k < 64 → not (block_at l k).free ≡ live sizes l k
  unfolding live
  live_by h = below k 64 _ _ _ h refl

  pub live_free : k < 64 → (block_at l k).free ≡ true → false ≡ live sizes l k
  unfolding live
  live_free h f = below k 64 _ _ _ h (ap not (sym f))

  pub live_not : k < 64 → (block_at l k).free ≡ false → true ≡ live sizes l k
  unfolding live
  live_not h f = below k 64 _ _ _ h (ap not (sym f))

  pub live_past : 64 ≤ k → false ≡ live sizes l k
  unfolding live
  live_past h = above k 64 _ _ _ h refl

-- ---- what is used
pub along_fits : (l : List Block) (p q : Uses) (r : Bool) → p ≡ q → r ≡ uses_fit sizes l q → r ≡ uses_fit sizes l p
along_fits l = along (uses_fit sizes l)

pub along_block : (p q : Uses) (r : ℕ) → p ≡ q → r ≡ block_used q → r ≡ block_used p
along_block = along block_used

pub along_slot : (p q : Uses) (r : ℕ) → p ≡ q → r ≡ slot_used q → r ≡ slot_used p
along_slot = along slot_used

module _ (p : Place) (v : View) (e : v ≡ view_of sizes p) (l : List Block) (counted : Bool) where
  pub idle_fits : v.busy ≡ false → true ≡ record_fits sizes l p counted
  unfolding record_fits
  idle_fits h = rw (← e) (off v.busy _ _ _ h refl)

  pub past_fits : v.busy ≡ true → counted ≡ false → false ≡ record_fits sizes l p counted
  unfolding record_fits
  past_fits h k = rw (← e) (on v.busy _ _ _ h (off counted _ _ _ k refl))

  pub used_fits : (r : Bool) → v.busy ≡ true → counted ≡ true → r ≡ uses_fit sizes l v.uses → r ≡ record_fits sizes l p counted
  unfolding record_fits
  used_fits r h k q = rw (← e) (on v.busy _ _ _ h (on counted _ _ _ k q))

pub last_is : (l : List Block) (b : Pointer) (k : ℕ) (r : Bool) → k ≡ number_of sizes b → r ≡ live sizes l k → r ≡ live sizes l (number_of sizes b)
last_is l b k r e q = q ∙ ap (live sizes l) e

-- ---- one step of `Drop`'s walk, from what is left of it
module _ (left : ℕ) (l : List Block) (b : Pointer) (h t : Index) (n : ℕ) (whole : Dropped) (back : walk_from sizes left l b h t n ≡ whole) (some : 0 < left) where
  one_step_lem : (m : ℕ) → left ≡ suc m → walk_from sizes (suc m) l b h t n ≡ whole
  one_step_lem m e = ap (λ (k : ℕ). walk_from sizes k l b h t n) (sym e) ∙ back

  module _ (s : Bool) (es : s ≡ same h t) where
    pub walk_end : (r : Bool) → s ≡ true → r ≡ last_fits sizes l b → walked r n ≡ whole
    unfolding walk_from
    walk_end r hs e =
        let q : left ≡ suc (left - 1) = omega arith in
        yes (same h t) s (walked r n) (walked (last_fits sizes l b) n) _ es hs (ap (λ (x : Bool). walked x n) e) ∙ one_step_lem (left - 1) q

    module _ (hs : s ≡ false) (k : ℕ) (ek : k ≡ number_of sizes b) where
      stuck : false ≡ live sizes l k → walked false n ≡ whole
      unfolding walk_from
      stuck e =
          let q : left ≡ suc (left - 1) = omega arith in
          no (same h t) s (walked false n) (walked (last_fits sizes l b) n) _ es hs
          (no (live sizes l (number_of sizes b)) false (walked false n) _ (walked false n) (e ∙ ap (live sizes l) ek) refl refl)
          ∙ one_step_lem (left - 1) q

      pub walk_none : 64 ≤ k → walked false n ≡ whole
      walk_none g = stuck (live_past l k g)

      pub walk_free : k < 64 → (block_at l k).free ≡ true → walked false n ≡ whole
      walk_free g f = stuck (live_free l k g f)

      module _ (g : k < 64) (f : (block_at l k).free ≡ false) (p : Bool) (ep : p ≡ past_slots sizes h) (h' : Index) (eh : h' ≡ later h) where
        pub walk_slot : p ≡ false → walk_from sizes (left - 1) l b h' t (n + 1) ≡ whole
        unfolding walk_from
        walk_slot hp =
            let q : left ≡ suc (left - 1) = omega arith in
            no (same h t) s _ (walked (last_fits sizes l b) n) _ es hs
            (yes (live sizes l (number_of sizes b)) true _ _ (walked false n) (live_not l k g f ∙ ap (live sizes l) ek) refl
            (no (past_slots sizes h) p _ (walk_from sizes (left - 1) (without sizes l b) (block_at l (number_of sizes b)).next (later h) t n) (walk_from sizes (left - 1) l b (later h) t (n + 1)) ep hp
            (ap (λ (x : Index). walk_from sizes (left - 1) l b x t (n + 1)) eh)))
            ∙ one_step_lem (left - 1) q

        pub walk_gap : p ≡ true → walk_from sizes (left - 1) (set l k (record { next = (block_at l k).next; free = true })) (block_at l k).next h' t n ≡ whole
        unfolding walk_from without freed
        walk_gap hp =
            let q : left ≡ suc (left - 1) = omega arith in
            no (same h t) s _ (walked (last_fits sizes l b) n) _ es hs
            (yes (live sizes l (number_of sizes b)) true _ _ (walked false n) (live_not l k g f ∙ ap (live sizes l) ek) refl
            (yes (past_slots sizes h) p _ (walk_from sizes (left - 1) (without sizes l b) (block_at l (number_of sizes b)).next (later h) t n) (walk_from sizes (left - 1) l b (later h) t (n + 1)) ep hp
            (ap (λ (x : ℕ). walk_from sizes (left - 1) (set l x (record { next = (block_at l x).next; free = true })) (block_at l x).next h' t n) ek
            ∙ ap (λ (x : Index). walk_from sizes (left - 1) (without sizes l b) (block_at l (number_of sizes b)).next x t n) eh)))
            ∙ one_step_lem (left - 1) q

pub walk_out : (left : ℕ) (l : List Block) (b : Pointer) (h t : Index) (n : ℕ) (whole : Dropped) → walk_from sizes left l b h t n ≡ whole → left ≤ 0 → walked false n ≡ whole
unfolding walk_from
walk_out left l b h t n whole back e =
    let z : left ≡ 0 = omega arith in ap (λ (k : ℕ). walk_from sizes k l b h t n) (sym z) ∙ back

-- ---- with all idle, and broken
module _ (e : Ends) (l : List Block) (ws : List Worker) (a : Bool) (ea : a ≡ all_idle sizes ws) where
  pub drop_walks : (d : Dropped) → a ≡ true → d ≡ walk_of sizes e l → d.sound ≡ drop_fits sizes e l ws
  unfolding drop_fits
  drop_walks d h q = yes _ a _ _ _ ea h (ap (λ (x : Dropped). x.sound) q)

  pub drop_later : a ≡ false → true ≡ drop_fits sizes e l ws
  unfolding drop_fits
  drop_later h = no _ a _ _ _ ea h refl

module _ (e : Ends) (l : List Block) (ws : List Worker) (count : ℕ) (a : Bool) (ea : a ≡ in_limits count workers_most) where
  pub broken_count : a ≡ false → true ≡ broken_in sizes e l ws count
  unfolding broken_in
  broken_count h = no _ a _ _ _ ea h refl

  module _ (ha : a ≡ true) (b : Bool) (eb : b ≡ records_fit sizes l count ws) where
    pub broken_record : b ≡ false → true ≡ broken_in sizes e l ws count
    unfolding broken_in
    broken_record h = yes _ a _ _ _ ea ha (no _ b _ _ _ eb h refl)

    module _ (hb : b ≡ true) (d : Bool) (ed : d ≡ drop_fits sizes e l ws) where
      pub broken_drops : not d ≡ broken_in sizes e l ws count
      unfolding broken_in
      broken_drops = yes _ a _ _ _ ea ha (yes _ b _ _ _ eb hb (ap not ed))

-- ---- the lowest free block, from what is left to look at
module _ (l : List Block) (k whole : ℕ) (back : lowest_from (64 - k) k l ≡ whole) where
  pub lowest_here : k < 64 → (block_at l k).free ≡ true → k ≡ whole
  unfolding lowest_from
  lowest_here h f =
      let q : 64 - k ≡ suc (64 - (k + 1)) = omega arith in
      on (block_at l k).free k k _ f refl ∙ (rw q at back)

  pub lowest_on : k < 64 → (block_at l k).free ≡ false → lowest_from (64 - (k + 1)) (k + 1) l ≡ whole
  unfolding lowest_from
  lowest_on h f =
      let q : 64 - k ≡ suc (64 - (k + 1)) = omega arith in
      off (block_at l k).free _ k _ f refl ∙ (rw q at back)

  pub lowest_none : 64 ≤ k → k ≡ whole
  unfolding lowest_from
  lowest_none h = let q : 64 - k ≡ 0 = omega arith in rw q at back

-- ---- one slot more is cleared
module _ (k i : ℕ) (l whole : List Slot) (back : cleared_from (31 - i) (k * 31 + i) l ≡ whole) where
  pub clears : i < 31 → cleared_from (31 - (i + 1)) (k * 31 + (i + 1)) (set l (k * 31 + i) (slot 0 0)) ≡ whole
  unfolding cleared_from
  clears h =
      let q : 31 - i ≡ suc (31 - (i + 1)) = omega arith in
      let p : k * 31 + (i + 1) ≡ k * 31 + i + 1 = omega arith in
      ap (λ (x : ℕ). cleared_from (31 - (i + 1)) x (set l (k * 31 + i) (slot 0 0))) p ∙ (rw q at back)

  pub clear_done : 31 ≤ i → l ≡ whole
  unfolding cleared_from
  clear_done h = let q : 31 - i ≡ 0 = omega arith in rw q at back

-- the walk from head's words
pub walk_all : (e : Ends) (l : List Block) (h t : Index) → h ≡ unmarked_of e.head → t ≡ unmarked_of e.tail → walk_from sizes 2080 l e.front h t 0 ≡ walk_of sizes e l
unfolding walk_of
walk_all e l h t eh et = rw (eh, et)
