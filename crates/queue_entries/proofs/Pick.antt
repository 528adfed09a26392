-- What `search` is given where a definition picks by a test: the way that the code took.
use Prim.Native.Nat.{ℕ, ◌<◌, ◌≤◌}
use mathlib.Core.Path.{◌≡◌, refl, sym, ap, ◌∙◌}
use mathlib.Core.Bool.{Bool, true, false, cond}
use lib.Dec.{ltb, eqb}
use borrow.Author.Tests.{lt-ltb, le-ltb, eq-eqb, ne_eqb}

module _ {A : Type 0} where
  -- a test that a function made
  pub yes : (b t : Bool) (r x y : A) → t ≡ b → t ≡ true → r ≡ x → r ≡ cond b x y
  yes b t r x y p q e = e ∙ simp (sym p ∙ q)

  pub no : (b t : Bool) (r x y : A) → t ≡ b → t ≡ false → r ≡ y → r ≡ cond b x y
  no b t r x y p q e = e ∙ simp (sym p ∙ q)

  -- a test of a parameter
  pub on : (b : Bool) (r x y : A) → b ≡ true → r ≡ x → r ≡ cond b x y
  on b r x y q e = e ∙ simp q

  pub off : (b : Bool) (r x y : A) → b ≡ false → r ≡ y → r ≡ cond b x y
  off b r x y q e = e ∙ simp q

  -- a test of two numbers
  pub below : (a b : ℕ) (r x y : A) → a < b → r ≡ x → r ≡ cond (ltb a b) x y
  below a b r x y h e = e ∙ simp (lt-ltb a b h)

  pub above : (a b : ℕ) (r x y : A) → b ≤ a → r ≡ y → r ≡ cond (ltb a b) x y
  above a b r x y h e = e ∙ simp (le-ltb a b h)

  pub equal : (a b : ℕ) (r x y : A) → a ≡ b → r ≡ x → r ≡ cond (eqb a b) x y
  equal a b r x y h e = e ∙ simp (eq-eqb a b h)

  pub other : (a b : ℕ) (r x y : A) → (a ≡ b → ⊥) → r ≡ y → r ≡ cond (eqb a b) x y
  other a b r x y h e = e ∙ simp (ne_eqb a b h)

pub ruleset picks = (yes, no, on, off, below, above, equal, other)

-- both of two tests
pub both_left : (a b : Bool) → cond a b false ≡ true → a ≡ true
both_left true b h = refl
both_left false b h = h

pub both_right : (a b : Bool) → cond a b false ≡ true → b ≡ true
both_right true b h = h
both_right false true h = refl
both_right false false h = h

-- a function of an enum, at a case that is known
pub along : {A B : Type 0} (f : A → B) (p q : A) (r : B) → p ≡ q → r ≡ f q → r ≡ f p
along f p q r h e = e ∙ ap f (sym h)
