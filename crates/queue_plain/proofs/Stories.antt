-- Laws of every story: one element more; what was known is known; what came in is what went out and what waits.
use Prim.Native.Nat.{ℕ, zero, suc, ◌+◌, ◌≤◌}
use native.Mathlib.Omega.{arith}
use mathlib.Core.Bool.{Bool, true, false, cond}
use mathlib.Core.List.{List, [], ◌∷◌, ◌++◌, map, append_assoc, append-nil}
use mathlib.Core.Path.{◌≡◌, refl, sym, ap, ◌∙◌}
use lib.Dec.{eqb}
use mathlib.Core.Logic.{◌≢◌}
use lib.ListN.{length, take, drop}
use borrow.Author.Tests.{eq-eqb, ne_eqb}
use Rattle.queue_entries.specs.declared.Call.{Call}
use Rattle.queue_entries.specs.declared.Order.TheVariants.{Begin, Act}
use Rattle.queue_entries.specs.declared.Entry.{Entry}
use Rattle.queue_entries.specs.declared.Entry.TheVariants.{Unreadable, Asks}
use Rattle.queue_entries.specs.Entries.{entry_of}
use Rattle.queue_entries.specs.Schedules.{history_by}
use Rattle.queue_plain.specs.Story.{Element, Begun, Does, Story, begun_in, elements_by, Change, beginning, doing_with, Known, fresh, changed_by, items_of}
use Rattle.queue_plain.specs.Story.{act_in, acts_in, known_with, known_from, known, queue_at, came_from, went_from, followed_from}

pub acts_end : {E : Type 0} (s : Story E) (x : Element E) → acts_in (s ++ x ∷ []) ≡ acts_in s ++ act_in x
unfolding acts_in
acts_end [] x = append-nil (act_in x)
acts_end (y ∷ s) x = rw (acts_end s x) (sym (append_assoc (act_in y) (acts_in s) (act_in x)))

-- the story of a schedule is that of its acts
acts_map : {E : Type 0} (l : List E) (s : Story E) → acts_in (map Does l ++ s) ≡ l ++ acts_in s
unfolding acts_in
acts_map [] s = refl
acts_map (e ∷ l) s = ap (λ (z : List _). e ∷ z) (acts_map l s)

acts_begun : {E : Type 0} (asked : Entry) (l : List E) (s : Story E) → acts_in ((begun_in asked ++ map Does l) ++ s) ≡ l ++ acts_in s
unfolding acts_in
acts_begun Unreadable l s = acts_map l s
acts_begun (Asks w (Begin c)) l s = acts_map l s
acts_begun (Asks w (Act lose)) l s = acts_map l s

module _ {M D E : Type 0} (refusal : D → ℕ) (machine : D → M) (turn : M → ℕ → ℕ → D) (acts : M → Entry → M → List E) where
  pub acts_story : (s : List ℕ) (m : M) → acts_in (history_by refusal machine turn (elements_by acts) m s) ≡ history_by refusal machine turn acts m s
  unfolding history_by acts_in
  acts_story [] m = refl
  acts_story (a ∷ []) m = refl
  acts_story (a ∷ b ∷ s) m = go (acts_story s (machine (turn m a b))) (eqb (refusal (turn m a b)) 0)
    where
      go : acts_in (history_by refusal machine turn (elements_by acts) (machine (turn m a b)) s) ≡ history_by refusal machine turn acts (machine (turn m a b)) s → (z : Bool)
          → acts_in (cond z (elements_by acts m (entry_of a b) (machine (turn m a b)) ++ history_by refusal machine turn (elements_by acts) (machine (turn m a b)) s) [])
          ≡ cond z (acts m (entry_of a b) (machine (turn m a b)) ++ history_by refusal machine turn acts (machine (turn m a b)) s) []
      go e true =
          acts_begun (entry_of a b) (acts m (entry_of a b) (machine (turn m a b))) (history_by refusal machine turn (elements_by acts) (machine (turn m a b)) s)
          ∙ ap (λ (l : List E). acts m (entry_of a b) (machine (turn m a b)) ++ l) e
      go e false = refl

-- a beginning of a list is one of a longer list
pub take_more : {A : Type 0} (n : ℕ) (l : List A) (x : A) → n ≤ length l → take n (l ++ x ∷ []) ≡ take n l
take_more zero l x h = refl
take_more (suc n) [] x h = absurd (omega arith)
take_more (suc n) (y ∷ l) x h = ap (λ (z : List _). y ∷ z) (take_more n l x (omega arith))

pub take_whole : {A : Type 0} (l : List A) → take (length l) l ≡ l
take_whole [] = refl
take_whole (x ∷ l) = ap (λ (z : List _). x ∷ z) (take_whole l)

module _ {E : Type 0} (worker : E → ℕ) (change : E → Change) where
  pub known_end : (k : Known) (s : Story E) (x : Element E) → known_from worker change k (s ++ x ∷ []) ≡ known_with worker change (known_from worker change k s) x
  unfolding known_from
  known_end k [] x = refl
  known_end k (y ∷ s) x = known_end (known_with worker change k y) s x

  counted : (k : Known) (s : Story E) → (known_from worker change k s).count ≡ k.count + length s
  unfolding known_from
  counted k [] = omega arith
  counted k (Begun w c ∷ s) = omega (arith, counted (known_with worker change k (Begun w c)) s)
  counted k (Does e ∷ s) = omega (arith, counted (known_with worker change k (Does e)) s)

  pub known_count : (capacity : ℕ) (s : Story E) → (known worker change capacity s).count ≡ length s
  known_count capacity s = counted (fresh capacity) s ∙ omega arith

  -- a moment that has been stays as it was
  pub queue_past : (capacity n : ℕ) (s : Story E) (x : Element E) → n ≤ length s → queue_at worker change capacity n (s ++ x ∷ []) ≡ queue_at worker change capacity n s
  queue_past capacity n s x h = ap (λ (z : Story E). (known worker change capacity z).queue) (take_more n s x h)

  pub queue_now : (capacity : ℕ) (s : Story E) → queue_at worker change capacity (length s) s ≡ (known worker change capacity s).queue
  queue_now capacity s = ap (λ (z : Story E). (known worker change capacity z).queue) (take_whole s)

  -- the room stays as it was made
  capacity_from : (k : Known) (s : Story E) → (known_from worker change k s).queue.capacity ≡ k.queue.capacity
  unfolding known_from
  capacity_from k [] = refl
  capacity_from k (Begun w c ∷ s) = capacity_from (known_with worker change k (Begun w c)) s
  capacity_from k (Does e ∷ s) = capacity_from (known_with worker change k (Does e)) s

  pub capacity_is : (capacity : ℕ) (s : Story E) → (known worker change capacity s).queue.capacity ≡ capacity
  capacity_is capacity s = capacity_from (fresh capacity) s

  -- what is followed along it, one element more
  pub followed_end : {T : Type 0} (next : Known → T → Element E → T) (k : Known) (was : T) (s : Story E) (x : Element E)
      → followed_from worker change next k was (s ++ x ∷ []) ≡ next (known_from worker change k s) (followed_from worker change next k was s) x
  unfolding followed_from known_from
  followed_end next k was [] x = refl
  followed_end next k was (y ∷ s) x = followed_end next (known_with worker change k y) (next k was y) s x

  -- ---- what is known after one element more
  module _ (capacity : ℕ) (s : Story E) where
    abbrev before : Known
    before = known worker change capacity s

    module _ (e : E) where
      abbrev after_act : Known
      after_act = known worker change capacity (s ++ Does e ∷ [])

      pub known_act : after_act ≡ known_with worker change before (Does e)
      known_act = known_end (fresh capacity) s (Does e)

      pub each_own : after_act.each (worker e) ≡ doing_with (change e) before.queue (before.each (worker e))
      each_own =
          ap (λ (k : Known). k.each (worker e)) known_act
          ∙ ap (λ (b : Bool). cond b (doing_with (change e) before.queue (before.each (worker e))) (before.each (worker e))) (eq-eqb (worker e) (worker e) refl)

      pub each_else : (j : ℕ) → j ≢ worker e → after_act.each j ≡ before.each j
      each_else j ne =
          ap (λ (k : Known). k.each j) known_act
          ∙ ap (λ (b : Bool). cond b (doing_with (change e) before.queue (before.each j)) (before.each j)) (ne_eqb j (worker e) ne)

      pub queue_act : after_act.queue ≡ changed_by (change e) (items_of (before.each (worker e)).calls) before.queue
      queue_act = ap (λ (k : Known). k.queue) known_act

    module _ (w : ℕ) (c : Call) where
      abbrev after_begin : Known
      after_begin = known worker change capacity (s ++ Begun w c ∷ [])

      known_begun : after_begin ≡ known_with worker change before (Begun w c)
      known_begun = known_end (fresh capacity) s (Begun w c)

      pub each_begun : after_begin.each w ≡ beginning c before.count
      each_begun = ap (λ (k : Known). k.each w) known_begun ∙ ap (λ (b : Bool). cond b (beginning c before.count) (before.each w)) (eq-eqb w w refl)

      pub each_unbegun : (j : ℕ) → j ≢ w → after_begin.each j ≡ before.each j
      each_unbegun j ne = ap (λ (k : Known). k.each j) known_begun ∙ ap (λ (b : Bool). cond b (beginning c before.count) (before.each j)) (ne_eqb j w ne)

      pub queue_begun : after_begin.queue ≡ before.queue
      queue_begun = ap (λ (k : Known). k.queue) known_begun

  -- what came in, in order, is what went out, in order, and then what waits
  front : (b : Bool) (l rest : List ℕ) → l ++ rest ≡ cond b (take 1 l) [] ++ (cond b (drop 1 l) l ++ rest)
  front true [] rest = refl
  front true (x ∷ l) rest = refl
  front false l rest = refl

  in_order_from : (k : Known) (s : Story E)
      → k.queue.items ++ came_from worker change k s ≡ went_from worker change k s ++ (known_from worker change k s).queue.items
  unfolding known_from came_from went_from
  in_order_from k [] = append-nil _
  in_order_from k (Begun w c ∷ s) = in_order_from (known_with worker change k (Begun w c)) s
  in_order_from k (Does e ∷ s) =
      let next = known_with worker change k (Does e) in
      let out = cond (change e).takes (take 1 k.queue.items) [] in
      let in_now = cond (change e).puts (items_of (k.each (worker e)).calls) [] in
      front (change e).takes k.queue.items (in_now ++ came_from worker change next s)
      ∙ ap (λ (l : List ℕ). out ++ l) (sym (append_assoc (cond (change e).takes (drop 1 k.queue.items) k.queue.items) in_now (came_from worker change next s)) ∙ in_order_from next s)
      ∙ sym (append_assoc out (went_from worker change next s) (known_from worker change next s).queue.items)

  pub in_order : (capacity : ℕ) (s : Story E)
      → came_from worker change (fresh capacity) s ≡ went_from worker change (fresh capacity) s ++ (known worker change capacity s).queue.items
  in_order capacity s = in_order_from (fresh capacity) s
