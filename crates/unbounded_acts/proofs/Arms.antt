-- What `search` is given at the returns of an act: the parts of what it leaves, one at a time.
use Prim.Native.Nat.{ℕ, ◌+◌, ◌/◌, ◌%◌, ◌<◌, ◌≤◌}
use mathlib.Core.Path.{◌≡◌, refl, sym, ap, ◌∙◌}
use mathlib.Core.Bool.{Bool, true, false}
use native.Mathlib.Omega.{arith}
use Rattle.queue_entries.proofs.Pick.{below, above, equal, other}
use Rattle.unbounded_words.specs.declared.Index.{Index}
use Rattle.unbounded_words.specs.declared.Pointer.{Pointer}
use Rattle.unbounded_words.specs.Words.{sizes, later, with_mark}
use Rattle.unbounded_places.specs.declared.Slot.{Slot}
use Rattle.unbounded_places.specs.declared.Block.{Block}
use Rattle.unbounded_places.specs.declared.Ends.{Ends}
use Rattle.unbounded_places.specs.declared.Place.{Place}
use Rattle.unbounded_places.specs.declared.Place.TheVariants.{Idle, V8, V13, V15}
use Rattle.unbounded_places.specs.declared.Answer.TheVariants.{Len, Yes, No}
use Rattle.unbounded_acts.specs.declared.Acted.{Acted}
use Rattle.unbounded_acts.specs.Acts.{leave, tail_to, state_to, has, with, take_or, destroy_from, destroy_if, yes_no}

pub ends : (e e' : Ends) (g : Block) (s : Slot) (p : Place) (r : Acted) → r ≡ leave e' g s p → e' ≡ e → r ≡ leave e g s p
ends e e' g s p r q h = q ∙ ap (λ (x : Ends). leave x g s p) h

pub blocks : (e : Ends) (g g' : Block) (s : Slot) (p : Place) (r : Acted) → r ≡ leave e g' s p → g' ≡ g → r ≡ leave e g s p
blocks e g g' s p r q h = q ∙ ap (λ (x : Block). leave e x s p) h

pub slots : (e : Ends) (g : Block) (s s' : Slot) (p : Place) (r : Acted) → r ≡ leave e g s' p → s' ≡ s → r ≡ leave e g s p
slots e g s s' p r q h = q ∙ ap (λ (x : Slot). leave e g x p) h

pub places : (e : Ends) (g : Block) (s : Slot) (p p' : Place) (r : Acted) → r ≡ leave e g s p' → p' ≡ p → r ≡ leave e g s p
places e g s p p' r q h = q ∙ ap (λ (x : Place). leave e g s x) h

pub ruleset parts = (ends, blocks, slots, places)

-- a word of an end, of a pointer or of a place that was computed
pub tail_is : (e : Ends) (w v : Index) (r : Ends) → r ≡ tail_to e w → w ≡ v → r ≡ tail_to e v
tail_is e w v r q h = q ∙ ap (tail_to e) h

pub take_is : (h : Index) (b : Pointer) (w v : Index) (r : Place) → r ≡ take_or h b w → w ≡ v → r ≡ take_or h b v
take_is h b w v r q k = q ∙ ap (take_or h b) k

pub eighth_is : (h : Index) (b next : Pointer) (w v : Index) → w ≡ v → V8 h b next w ≡ V8 h b next v
eighth_is h b next w v k = ap (V8 h b next) k

pub marked_is : (w v r : Index) → r ≡ with_mark w → w ≡ v → r ≡ with_mark v
marked_is w v r q h = q ∙ ap with_mark h

pub later_is : (w v r : Index) → r ≡ later w → w ≡ v → r ≡ later v
later_is w v r q h = q ∙ ap later h

pub destroy_is : (d d' : Bool) (b : Pointer) (i i' v : ℕ) (r : Place) → r ≡ destroy_if sizes d b i v → d ≡ d' → i ≡ i' → r ≡ destroy_if sizes d' b i' v
destroy_is d d' b i i' v r q h k = q ∙ rw (h, k)

-- a bit that was set, and one that was clear
pub bit_kept : (bit n : ℕ) → n / bit % 2 ≡ 1 → n ≡ with bit n
unfolding with has
bit_kept bit n h = equal (n / bit % 2) 1 _ _ _ h refl

pub bit_set : (bit n : ℕ) → (n / bit % 2 ≡ 1 → ⊥) → n + bit ≡ with bit n
unfolding with has
bit_set bit n h = other (n / bit % 2) 1 _ _ _ h refl

pub state_is : (s : Slot) (n k : ℕ) → n ≡ k → record { state = n; value = s.value } ≡ state_to s k
unfolding state_to
state_is s n k h = ap (state_to s) h

pub destroy_on : (b : Pointer) (i v : ℕ) → i < 29 → V13 b (i + 1) v ≡ destroy_from sizes b (i + 1) v
unfolding destroy_from
destroy_on b i v h = below (i + 1 + 1) 31 _ _ _ (omega arith) refl

pub destroy_done : (b : Pointer) (i v : ℕ) → 29 ≤ i → V15 b v ≡ destroy_from sizes b (i + 1) v
unfolding destroy_from
destroy_done b i v h = above (i + 1 + 1) 31 _ _ _ (omega arith) refl

pub destroy_all : (b : Pointer) (v : ℕ) → V13 b 0 v ≡ destroy_from sizes b 0 v
unfolding destroy_from
destroy_all b v = refl

-- the answer that a looker gives
module _ (e : Ends) (g : Block) (s : Slot) where
  pub told_yes : (b : Bool) (r : Acted) → b ≡ true → r ≡ leave e g s (Idle Yes) → r ≡ leave e g s (Idle (yes_no b))
  told_yes b r h k = k ∙ ap (λ (x : Bool). leave e g s (Idle (yes_no x))) (sym h)

  pub told_no : (b : Bool) (r : Acted) → b ≡ false → r ≡ leave e g s (Idle No) → r ≡ leave e g s (Idle (yes_no b))
  told_no b r h k = k ∙ ap (λ (x : Bool). leave e g s (Idle (yes_no x))) (sym h)

  pub told_is : (b c : Bool) (r : Acted) → r ≡ leave e g s (Idle (yes_no b)) → b ≡ c → r ≡ leave e g s (Idle (yes_no c))
  told_is b c r k h = k ∙ ap (λ (x : Bool). leave e g s (Idle (yes_no x))) h

  pub len_is : (n k : ℕ) (r : Acted) → r ≡ leave e g s (Idle (Len n)) → n ≡ k → r ≡ leave e g s (Idle (Len k))
  len_is n k r q h = q ∙ ap (λ (x : ℕ). leave e g s (Idle (Len x))) h
