-- What is known of `Drop`'s walk: with these headers it is sound for all ends that the note fits.
use Prim.Native.Nat.{ℕ, ◌<◌, ◌≤◌}
use mathlib.Core.Path.{◌≡◌, refl, sym, ap, ◌∙◌, subst}
use mathlib.Core.Bool.{Bool, true, false, cond, not, true≢false}
use mathlib.Core.List.{List}
use lib.Dec.{ltb, eqb}
use borrow.Author.Tests.{eqb-true, ltb-true, ltb-false}
use Rattle.queue_entries.proofs.Pick.{both_left, both_right}
use Rattle.unbounded_words.specs.Words.{sizes, unmarked_of, number_of}
use Rattle.unbounded_places.specs.declared.Block.{Block}
use Rattle.unbounded_places.specs.declared.Ends.{Ends}
use Rattle.unbounded_places.specs.declared.Worker.{Worker}
use Rattle.unbounded_machine.specs.Broken.{all_idle, drop_fits}
use Rattle.unbounded_machine.specs.Drop.{walk_of}
use Rattle.unbounded_judged.specs.declared.Known.{Known}
use Rattle.unbounded_judged.specs.declared.Rest.{Rest}
use Rattle.unbounded_judged.specs.Judged.{busy_in, unknown, lap_of, ahead_of, in_order, same_laps, same_front, still_of, due_of, linked_from, linked_of, noted, rest_of}
use Rattle.unbounded_judged.proofs.Judged.{idle_told}
use Rattle.unbounded_judged.proofs.Chain.{linked_sound}

abbrev pub Knows : Known → List Block → Type 0
Knows k l = (e : Ends) → still_of sizes k e ≡ true → (walk_of sizes e l).sound ≡ true

pub knows_nothing : (k : Known) (l : List Block) → k ≡ unknown → Knows k l
unfolding still_of same_front
knows_nothing k l q e h = absurd (true≢false (sym h ∙ ap (λ (x : Known). still_of sizes x e) q))

-- ---- what the tests have told
order_told : (e : Ends) → in_order e ≡ true → (unmarked_of e.head).0 ≤ (unmarked_of e.tail).0
unfolding in_order
order_told e h = ltb-false _ _ (back (ltb (unmarked_of e.tail).0 (unmarked_of e.head).0) h)
  where
    back : (b : Bool) → not b ≡ true → b ≡ false
    back true p = absurd (true≢false (sym p))
    back false p = refl

module _ (e : Ends) (l : List Block) (h : linked_of sizes e l ≡ true) where
  first_test : (a b : Bool) → cond a false b ≡ true → a ≡ false
  first_test true b p = absurd (true≢false (sym p))
  first_test false b p = refl

  rest_tests : (a b : Bool) → cond a false b ≡ true → b ≡ true
  rest_tests true b p = absurd (true≢false (sym p))
  rest_tests false b p = p

  ordered : (unmarked_of e.head).0 ≤ (unmarked_of e.tail).0
  unfolding linked_of
  ordered = ltb-false _ _ (first_test (ltb (unmarked_of e.tail).0 (unmarked_of e.head).0) _ h)

  after_order : cond (ltb (lap_of e.tail) 288230376151711744) (cond (ltb (ahead_of e) 64) (linked_from sizes (ahead_of e) l (number_of sizes e.front)) false) false ≡ true
  unfolding linked_of
  after_order = rest_tests (ltb (unmarked_of e.tail).0 (unmarked_of e.head).0) _ h

  no_wrap : lap_of e.tail < 288230376151711744
  no_wrap = ltb-true _ _ (both_left (ltb (lap_of e.tail) 288230376151711744) _ after_order)

  after_wrap : cond (ltb (ahead_of e) 64) (linked_from sizes (ahead_of e) l (number_of sizes e.front)) false ≡ true
  after_wrap = both_right (ltb (lap_of e.tail) 288230376151711744) _ after_order

  few : ahead_of e < 64
  few = ltb-true _ _ (both_left (ltb (ahead_of e) 64) _ after_wrap)

  chain : linked_from sizes (ahead_of e) l (number_of sizes e.front) ≡ true
  chain = both_right (ltb (ahead_of e) 64) _ after_wrap

  sound_here : (walk_of sizes e l).sound ≡ true
  sound_here = linked_sound e l ordered no_wrap few chain

  knows_here : Knows (noted sizes e) l
  unfolding still_of same_front same_laps
  knows_here f s =
      let front : number_of sizes f.front ≡ number_of sizes e.front = eqb-true _ _ (both_left (eqb (number_of sizes f.front) (number_of sizes e.front)) _ s) in
      let tests = both_right (eqb (number_of sizes f.front) (number_of sizes e.front)) _ s in
      let laps = both_left (cond (eqb (lap_of f.head) (lap_of e.head)) (eqb (lap_of f.tail) (lap_of e.tail)) false) (in_order f) tests in
      let order = order_told f (both_right (cond (eqb (lap_of f.head) (lap_of e.head)) (eqb (lap_of f.tail) (lap_of e.tail)) false) (in_order f) tests) in
      let head : lap_of f.head ≡ lap_of e.head = eqb-true _ _ (both_left (eqb (lap_of f.head) (lap_of e.head)) _ laps) in
      let tail : lap_of f.tail ≡ lap_of e.tail = eqb-true _ _ (both_right (eqb (lap_of f.head) (lap_of e.head)) _ laps) in
      let ahead : ahead_of f ≡ ahead_of e = rw (head, tail) in
      linked_sound f l order (subst (λ (x : ℕ). x < 288230376151711744) (sym tail) no_wrap) (subst (λ (x : ℕ). x < 64) (sym ahead) few)
      (subst (λ (x : ℕ). linked_from sizes x l (number_of sizes f.front) ≡ true) (sym ahead) (subst (λ (x : ℕ). linked_from sizes (ahead_of e) l x ≡ true) (sym front) chain))

-- ---- the walk by blocks is the walk
module _ (e : Ends) (l : List Block) where
  abbrev rest_by : Bool → Rest
  rest_by b = cond b (record { sound = true; known = noted sizes e }) (record { sound = (walk_of sizes e l).sound; known = unknown })

  pub rest_sound : (rest_of sizes e l).sound ≡ (walk_of sizes e l).sound
  unfolding rest_of
  rest_sound = by (linked_of sizes e l) refl
    where
      by : (b : Bool) → linked_of sizes e l ≡ b → (rest_by b).sound ≡ (walk_of sizes e l).sound
      by true h = sym (sound_here e l h)
      by false h = refl

  pub rest_knows : Knows (rest_of sizes e l).known l
  unfolding rest_of
  rest_knows = by (linked_of sizes e l) refl
    where
      by : (b : Bool) → linked_of sizes e l ≡ b → Knows (rest_by b).known l
      by true h = knows_here e l h
      by false h = knows_nothing unknown l refl

-- ---- `Drop`'s walk after an entry: judged where it is due
module _ (e : Ends) (l : List Block) (ws : List Worker) (known : Known) (k : Knows known l) (busy : ℕ) (b : busy ≡ busy_in sizes ws) where
  idle : eqb busy 0 ≡ all_idle sizes ws
  idle = ap (λ (n : ℕ). eqb n 0) b ∙ sym (idle_told ws)

  pub not_due : due_of sizes busy known e ≡ false → drop_fits sizes e l ws ≡ true
  unfolding due_of drop_fits
  not_due h = ap (λ (x : Bool). cond x (walk_of sizes e l).sound true) (sym idle) ∙ by (eqb busy 0) (still_of sizes known e) refl h
    where
      by : (i s : Bool) → still_of sizes known e ≡ s → cond i (not s) false ≡ false → cond i (walk_of sizes e l).sound true ≡ true
      by true true q z = k e q
      by true false q z = absurd (true≢false z)
      by false s q z = refl

  pub is_due : due_of sizes busy known e ≡ true → (r : Rest) → r ≡ rest_of sizes e l → r.sound ≡ drop_fits sizes e l ws
  unfolding due_of drop_fits
  is_due h r q =
      ap (λ (x : Rest). x.sound) q ∙ rest_sound e l
      ∙ sym (ap (λ (x : Bool). cond x (walk_of sizes e l).sound true) (sym idle) ∙ by (eqb busy 0) (still_of sizes known e) h)
    where
      by : (i s : Bool) → cond i (not s) false ≡ true → cond i (walk_of sizes e l).sound true ≡ (walk_of sizes e l).sound
      by true s z = refl
      by false s z = absurd (true≢false (sym z))
