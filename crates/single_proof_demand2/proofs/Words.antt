-- The state word by its three bits.
use Prim.Native.Nat.{◌+◌}
use mathlib.Core.Path.{◌≡◌, refl, sym, ap, ◌∙◌}
use mathlib.Core.Bool.{Bool, true, false, cond}
use borrow.Author.Tests.{eqb-true}
use Rattle.single_words.specs.declared.State.{State}
use Rattle.single_words.specs.Words.{state, same, locked_in, pushed_in, closed_in, unlocked, taken_of, closed_of_word}

-- LOCKED, PUSHED, CLOSED
abbrev pub word : Bool → Bool → Bool → State
word l b c = state (cond l 1 0 + (cond b 2 0 + cond c 4 0))

pub locked_bit : (l b c : Bool) → locked_in (word l b c) ≡ l
unfolding locked_in
locked_bit true true true = refl
locked_bit true true false = refl
locked_bit true false true = refl
locked_bit true false false = refl
locked_bit false true true = refl
locked_bit false true false = refl
locked_bit false false true = refl
locked_bit false false false = refl

pub pushed_bit : (l b c : Bool) → pushed_in (word l b c) ≡ b
unfolding pushed_in
pushed_bit true true true = refl
pushed_bit true true false = refl
pushed_bit true false true = refl
pushed_bit true false false = refl
pushed_bit false true true = refl
pushed_bit false true false = refl
pushed_bit false false true = refl
pushed_bit false false false = refl

pub closed_bit : (l b c : Bool) → closed_in (word l b c) ≡ c
unfolding closed_in
closed_bit true true true = refl
closed_bit true true false = refl
closed_bit true false true = refl
closed_bit true false false = refl
closed_bit false true true = refl
closed_bit false true false = refl
closed_bit false false true = refl
closed_bit false false false = refl

pub unlocked_word : (l b c : Bool) → unlocked (word l b c) ≡ word false b c
unfolding unlocked
unlocked_word true true true = refl
unlocked_word true true false = refl
unlocked_word true false true = refl
unlocked_word true false false = refl
unlocked_word false true true = refl
unlocked_word false true false = refl
unlocked_word false false true = refl
unlocked_word false false false = refl

pub taken_word : (l b c : Bool) → taken_of (word l b c) ≡ word true false c
unfolding taken_of
taken_word true true true = refl
taken_word true true false = refl
taken_word true false true = refl
taken_word true false false = refl
taken_word false true true = refl
taken_word false true false = refl
taken_word false false true = refl
taken_word false false false = refl

pub shut_word : (l b c : Bool) → closed_of_word (word l b c) ≡ word l b true
unfolding closed_of_word closed_in
shut_word true true true = refl
shut_word true true false = refl
shut_word true false true = refl
shut_word true false false = refl
shut_word false true true = refl
shut_word false true false = refl
shut_word false false true = refl
shut_word false false false = refl

-- words that are the same have the same bits
pub same_is : (a b : State) → same a b ≡ true → a ≡ b
unfolding same
same_is a b h = ap state (eqb-true a.0 b.0 h)

module _ (s : State) (l b c : Bool) (e : s ≡ word l b c) where
  pub locked_of : locked_in s ≡ l
  locked_of = ap locked_in e ∙ locked_bit l b c

  pub pushed_of : pushed_in s ≡ b
  pushed_of = ap pushed_in e ∙ pushed_bit l b c

  pub closed_of : closed_in s ≡ c
  closed_of = ap closed_in e ∙ closed_bit l b c

  module _ (l' b' c' : Bool) (d : s ≡ word l' b' c') where
    pub same_locked : l ≡ l'
    same_locked = sym (locked_of) ∙ ap locked_in d ∙ locked_bit l' b' c'

    pub same_pushed : b ≡ b'
    same_pushed = sym (pushed_of) ∙ ap pushed_in d ∙ pushed_bit l' b' c'

    pub same_closed : c ≡ c'
    same_closed = sym (closed_of) ∙ ap closed_in d ∙ closed_bit l' b' c'
