-- What the functions on words and pointers rest on.
use Rattle.std.proofs.Common.{◌≡◌, ℕ, ◌+◌, ◌*◌, ◌/◌, ◌%◌, ◌<◌, Bool, true, false, eqb, refl, ap, ◌∙◌, arith}
use Rattle.queue_entries.proofs.Pick.{along, yes, no}
use Rattle.unbounded_words.specs.declared.Index.{Index}
use Rattle.unbounded_words.specs.declared.Pointer.{Pointer}
use Rattle.unbounded_words.specs.Words.{sizes, wide, offset_of, past_slots, last_slot, unmarked_of, later, minus, settled, behind, count_of, none_of, number_of}

pub past_is : (w : Index) (n : ℕ) → n ≡ offset_of sizes w → eqb n 31 ≡ past_slots sizes w
unfolding past_slots
past_is w n e = ap (λ (k : ℕ). eqb k 31) e

pub last_is : (w : Index) (n : ℕ) → n ≡ offset_of sizes w → eqb (n + 1) 31 ≡ last_slot sizes w
unfolding last_slot
last_is w n e = ap (λ (k : ℕ). eqb (k + 1) 31) e

pub minus_is : (r a b : ℕ) → r < wide → b < wide → (r + b) % wide ≡ a → r ≡ minus a b
unfolding minus
minus_is r a b hr hb e = omega arith

module _ (w u r : Index) (b : Bool) (eu : u ≡ unmarked_of w) (eb : b ≡ past_slots sizes u) where
  pub settled_next : b ≡ true → r ≡ later u → r ≡ settled sizes w
  unfolding settled
  settled_next h e = rw (← eu) (yes _ b _ _ _ eb h e)

  pub settled_here : b ≡ false → u ≡ settled sizes w
  unfolding settled
  settled_here h = rw (← eu) (no (past_slots sizes u) b u (later u) u eb h refl)

pub behind_is : (t h d r : ℕ) → d ≡ minus t h → r ≡ minus d (t / 32) → r ≡ behind sizes t h
unfolding behind
behind_is t h d r ed er = er ∙ ap (λ (k : ℕ). minus k (t / 32)) ed

pub count_is : (t h tail head : Index) (a b r : ℕ) → tail ≡ settled sizes t → head ≡ settled sizes h
    → a ≡ minus tail.0 (head.0 / 2 / 32 * 32 * 2) → b ≡ minus head.0 (head.0 / 2 / 32 * 32 * 2)
    → r ≡ behind sizes (a / 2) (b / 2) → r ≡ count_of sizes t h
unfolding count_of
count_is t h tail head a b r et eh ea eb er = rw (← et, ← eh) (er ∙ rw (ea, eb))

pub along_none : (p q : Pointer) (r : Bool) → p ≡ q → r ≡ none_of q → r ≡ none_of p
along_none = along none_of

pub along_number : (p q : Pointer) (r : ℕ) → p ≡ q → r ≡ number_of sizes q → r ≡ number_of sizes p
along_number = along (number_of sizes)
