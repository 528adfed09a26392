-- What the functions rest on that a run of entries keeps.
use Prim.Native.Nat.{ℕ, zero, suc, ◌+◌, ◌-◌, ◌/◌, ◌<◌, ◌≤◌}
use mathlib.Core.Path.{◌≡◌, refl, sym, ap, ◌∙◌}
use mathlib.Core.Bool.{Bool, true, false, cond, not}
use mathlib.Core.List.{List}
use native.Mathlib.Omega.{arith}
use lib.Dec.{ltb, leb, eqb}
use borrow.Author.Tests.{lt-ltb, le-ltb, leb-true, leb-false}
use Rattle.queue_entries.specs.Limits.{workers_most}
use Rattle.queue_entries.proofs.Pick.{yes, no, on, off, below, above, equal, other}
use Rattle.unbounded_words.specs.declared.Index.{Index}
use Rattle.unbounded_words.specs.Words.{sizes, unmarked_of, number_of}
use Rattle.unbounded_places.specs.declared.Block.{Block}
use Rattle.unbounded_places.specs.declared.Ends.{Ends}
use Rattle.unbounded_places.specs.declared.View.{View}
use Rattle.unbounded_places.specs.declared.Worker.{Worker}
use Rattle.unbounded_places.specs.Places.{view_of}
use Rattle.unbounded_machine.specs.declared.Dropped.{Dropped}
use Rattle.unbounded_machine.specs.Machine.{live, block_at, place_of}
use Rattle.unbounded_machine.specs.Drop.{walk_of}
use Rattle.unbounded_machine.proofs.Laws.{live_past, live_free, live_not}
use Rattle.unbounded_judged.specs.declared.Known.{Known}
use Rattle.unbounded_judged.specs.Judged.{busy_from, busy_in, unknown, in_order, same_laps, same_front, still_of, due_of, next_of, linked_from, linked_of, noted, rest_of}

pub first_count : (ws : List Worker) → 0 + busy_from sizes (workers_most - 0) 0 ws ≡ busy_in sizes ws
unfolding busy_in
first_count ws = plus_none (busy_from sizes (workers_most - 0) 0 ws)
  where
    plus_none : (n : ℕ) → 0 + n ≡ n
    plus_none n = omega arith

module _ (ws : List Worker) (i n whole : ℕ) (back : n + busy_from sizes (workers_most - i) i ws ≡ whole) where
  module _ (lt : i < workers_most) (v : View) (ev : v ≡ view_of sizes (place_of ws i)) where
    step : busy_from sizes (workers_most - i) i ws ≡ cond v.busy (1 + busy_from sizes (workers_most - (i + 1)) (i + 1) ws) (busy_from sizes (workers_most - (i + 1)) (i + 1) ws)
    unfolding busy_from
    step =
        let q : workers_most - i ≡ suc (workers_most - (i + 1)) = omega arith in
        ap (λ (k : ℕ). busy_from sizes k i ws) q ∙ (rw (← ev))

    pub one_more : v.busy ≡ true → n + 1 + busy_from sizes (workers_most - (i + 1)) (i + 1) ws ≡ whole
    one_more h = let s : busy_from sizes (workers_most - i) i ws ≡ 1 + busy_from sizes (workers_most - (i + 1)) (i + 1) ws = step ∙ simp h in omega (arith, s, back)

    pub none_more : v.busy ≡ false → n + busy_from sizes (workers_most - (i + 1)) (i + 1) ws ≡ whole
    none_more h = let s : busy_from sizes (workers_most - i) i ws ≡ busy_from sizes (workers_most - (i + 1)) (i + 1) ws = step ∙ simp h in omega (arith, s, back)

  pub all_counted : workers_most ≤ i → n ≡ whole
  unfolding busy_from
  all_counted ge =
      let q : workers_most - i ≡ 0 = omega arith in
      let s : busy_from sizes (workers_most - i) i ws ≡ 0 = ap (λ (k : ℕ). busy_from sizes k i ws) q in
      omega (arith, s, back)

-- ---- ends, test by test
module _ (e : Ends) (h t : Index) (eh : h ≡ unmarked_of e.head) (et : t ≡ unmarked_of e.tail) where
  pub behind : t.0 < h.0 → false ≡ in_order e
  unfolding in_order
  behind lt = rw (← eh, ← et) (sym (simp (lt-ltb t.0 h.0 lt)))

  pub ahead : h.0 ≤ t.0 → true ≡ in_order e
  unfolding in_order
  ahead le = rw (← eh, ← et) (sym (simp (le-ltb t.0 h.0 le)))

  pub ordered : leb h.0 t.0 ≡ in_order e
  ordered = go (leb h.0 t.0) refl
    where
      go : (b : Bool) → leb h.0 t.0 ≡ b → b ≡ in_order e
      go true q = ahead (leb-true h.0 t.0 q)
      go false q = behind (leb-false h.0 t.0 q)

  module _ (known : Known) where
    pub laps_by : (r : Bool) → h.0 / 64 ≡ known.head → r ≡ eqb (t.0 / 64) known.tail → r ≡ same_laps known e
    unfolding same_laps
    laps_by r q er = rw (← eh, ← et) (equal (h.0 / 64) known.head _ _ _ q er)

    pub laps_other : (h.0 / 64 ≡ known.head → ⊥) → false ≡ same_laps known e
    unfolding same_laps
    laps_other n = rw (← eh, ← et) (other (h.0 / 64) known.head _ _ _ n refl)

module _ (known : Known) (e : Ends) where
  pub front_by : (k : ℕ) → k ≡ number_of sizes e.front → (r : Bool) → known.sure ≡ true → r ≡ eqb k known.front → r ≡ same_front sizes known e
  unfolding same_front
  front_by k ek r s er = on known.sure _ _ _ s (er ∙ ap (λ (x : ℕ). eqb x known.front) ek)

  pub front_unsure : known.sure ≡ false → false ≡ same_front sizes known e
  unfolding same_front
  front_unsure s = off known.sure _ _ _ s refl

  module _ (a : Bool) (ea : a ≡ same_front sizes known e) where
    pub still_front : a ≡ false → false ≡ still_of sizes known e
    unfolding still_of
    still_front h = no _ a _ _ _ ea h refl

    module _ (ha : a ≡ true) (b : Bool) (eb : b ≡ same_laps known e) where
      pub still_laps : b ≡ false → false ≡ still_of sizes known e
      unfolding still_of
      still_laps h = yes _ a _ _ _ ea ha (no _ b _ _ _ eb h refl)

      pub still_by : b ≡ true → (r : Bool) → r ≡ in_order e → r ≡ still_of sizes known e
      unfolding still_of
      still_by h r er = yes _ a _ _ _ ea ha (yes _ b _ _ _ eb h er)

  module _ (busy : ℕ) where
    pub some_busy : (busy ≡ 0 → ⊥) → false ≡ due_of sizes busy known e
    unfolding due_of
    some_busy n = other busy 0 _ _ _ n refl

    module _ (z : busy ≡ 0) (b : Bool) (eb : b ≡ still_of sizes known e) where
      pub due_by : not b ≡ due_of sizes busy known e
      unfolding due_of
      due_by = equal busy 0 _ _ _ z (ap not eb)

-- ---- blocks that are linked, from what is left to look at
stuck_last : (l : List Block) (k : ℕ) → live sizes l k ≡ false → false ≡ linked_from sizes zero l k
unfolding linked_from
stuck_last l k h = off (live sizes l k) _ _ _ h refl

stuck_more : (n : ℕ) (l : List Block) (k : ℕ) → live sizes l k ≡ false → false ≡ linked_from sizes (suc n) l k
unfolding linked_from
stuck_more n l k h = off (live sizes l k) _ _ _ h refl

module _ (left : ℕ) (l : List Block) (k : ℕ) (whole : Bool) (back : linked_from sizes left l k ≡ whole) where
  stuck : live sizes l k ≡ false → false ≡ whole
  stuck h = by left ∙ back
    where
      by : (n : ℕ) → false ≡ linked_from sizes n l k
      by zero = stuck_last l k h
      by (suc n) = stuck_more n l k h

  pub linked_none : 64 ≤ k → false ≡ whole
  linked_none h = stuck (sym (live_past l k h))

  pub linked_free : k < 64 → (block_at l k).free ≡ true → false ≡ whole
  linked_free h f = stuck (sym (live_free l k h f))

  pub linked_on : 0 < left → k < 64 → (block_at l k).free ≡ false → (n : ℕ) → n ≡ next_of sizes l k → linked_from sizes (left - 1) l n ≡ whole
  unfolding linked_from
  linked_on lt h f n en =
      let q : left ≡ suc (left - 1) = omega arith in
      yes (live sizes l k) true _ _ false (live_not l k h f) refl (ap (linked_from sizes (left - 1) l) en) ∙ ap (λ (x : ℕ). linked_from sizes x l k) (sym q) ∙ back

  module _ (z : left ≤ 0) (h : k < 64) (f : (block_at l k).free ≡ false) (n : ℕ) (en : n ≡ next_of sizes l k) where
    last : (r : Bool) → r ≡ not (ltb n 64) → r ≡ whole
    unfolding linked_from
    last r er =
        let q : left ≡ 0 = omega arith in
        yes (live sizes l k) true _ _ false (live_not l k h f) refl (er ∙ ap (λ (x : ℕ). not (ltb x 64)) en) ∙ ap (λ (x : ℕ). linked_from sizes x l k) (sym q) ∙ back

    linked_further : n < 64 → false ≡ whole
    linked_further lt = last false (sym (ap not (lt-ltb n 64 lt)))

    linked_end : 64 ≤ n → true ≡ whole
    linked_end le = last true (sym (ap not (le-ltb n 64 le)))

    pub linked_last : leb 64 n ≡ whole
    linked_last = go (leb 64 n) refl
      where
        go : (b : Bool) → leb 64 n ≡ b → b ≡ whole
        go true q = linked_end (leb-true 64 n q)
        go false q = linked_further (leb-false 64 n q)

module _ (e : Ends) (l : List Block) (h t : Index) (eh : h ≡ unmarked_of e.head) (et : t ≡ unmarked_of e.tail) where
  pub linked_behind : t.0 < h.0 → false ≡ linked_of sizes e l
  unfolding linked_of
  linked_behind lt = rw (← eh, ← et) (below t.0 h.0 _ _ _ lt refl)

  module _ (le : h.0 ≤ t.0) where
    pub linked_wraps : 288230376151711744 ≤ t.0 / 64 → false ≡ linked_of sizes e l
    unfolding linked_of
    linked_wraps w = rw (← eh, ← et) (above t.0 h.0 _ _ _ le (above (t.0 / 64) 288230376151711744 _ _ _ w refl))

    module _ (w : t.0 / 64 < 288230376151711744) where
      pub linked_far : 64 ≤ t.0 / 64 - h.0 / 64 → false ≡ linked_of sizes e l
      unfolding linked_of
      linked_far g = rw (← eh, ← et) (above t.0 h.0 _ _ _ le (below (t.0 / 64) 288230376151711744 _ _ _ w (above (t.0 / 64 - h.0 / 64) 64 _ _ _ g refl)))

      pub linked_by : t.0 / 64 - h.0 / 64 < 64 → (k : ℕ) → k ≡ number_of sizes e.front → (r : Bool) → r ≡ linked_from sizes (t.0 / 64 - h.0 / 64) l k → r ≡ linked_of sizes e l
      unfolding linked_of
      linked_by g k ek r er =
          rw (← eh, ← et)
          (above t.0 h.0 _ _ _ le (below (t.0 / 64) 288230376151711744 _ _ _ w (below (t.0 / 64 - h.0 / 64) 64 _ _ _ g (er ∙ ap (linked_from sizes (t.0 / 64 - h.0 / 64) l) ek))))

pub noted_is : (e : Ends) (h t : Index) → h ≡ unmarked_of e.head → t ≡ unmarked_of e.tail → (k : ℕ) → k ≡ number_of sizes e.front
    → record { sure = true; front = k; head = h.0 / 64; tail = t.0 / 64 } ≡ noted sizes e
noted_is e h t eh et k ek = rw (ek, eh, et)

module _ (e : Ends) (l : List Block) (b : Bool) (eb : b ≡ linked_of sizes e l) where
  pub rest_linked : b ≡ true → (k : Known) → k ≡ noted sizes e → record { sound = true; known = k } ≡ rest_of sizes e l
  unfolding rest_of
  rest_linked h k q = yes _ b _ _ _ eb h (rw q)

  pub rest_walked : b ≡ false → (d : Dropped) → d ≡ walk_of sizes e l → (k : Known) → k ≡ unknown → record { sound = d.sound; known = k } ≡ rest_of sizes e l
  unfolding rest_of
  rest_walked h d q k p = no _ b _ _ _ eb h (rw (q, p))
