-- A code of a place and a place of a code, at a case that is known.
use Prim.Native.Nat.{ℕ, ◌-◌, ◌≤◌, ◌<◌}
use mathlib.Core.Path.{◌≡◌, sym, ap}
use native.Mathlib.Omega.{arith}
use native.Mathlib.Decide.{dec_lt}
use lib.ListN.{get_or-eq_default}
use Rattle.queue_entries.proofs.Pick.{along, below, above}
use Rattle.single_places.specs.declared.Answer.{Answer}
use Rattle.single_places.specs.declared.Answer.TheVariants as answer
use Rattle.single_places.specs.declared.Place.{Place}
use Rattle.single_places.specs.declared.Place.TheVariants as place
use Rattle.single_codes.specs.declared.Coded.{Coded}
use Rattle.single_codes.specs.Codes.{answer_code, code_of, answers, answer_in, places, held_in, place_in}

pub along_answer_code : (p q : Answer) (r : Coded) → p ≡ q → r ≡ answer_code q → r ≡ answer_code p
along_answer_code = along answer_code

pub along_code : (p q : Place) (r : Coded) → p ≡ q → r ≡ code_of q → r ≡ code_of p
along_code = along code_of

pub along_answer : (n k x : ℕ) (r : Answer) → n ≡ k → r ≡ answer_in k x → r ≡ answer_in n x
along_answer n k x = along (λ (i : ℕ). answer_in i x) n k

pub along_held : (n k a b : ℕ) (r : Place) → n ≡ k → r ≡ held_in k a b → r ≡ held_in n a b
along_held n k a b = along (λ (i : ℕ). held_in i a b) n k

pub last_answer : (n x : ℕ) → 10 ≤ n → answer.Len x ≡ answer_in n x
last_answer n x h = go (dec_lt 10 n)
  where
    go : Dec (10 < n) → answer.Len x ≡ answer_in n x
    go (yes l) = sym (get_or-eq_default (answers x) (answer.Len x) l)
    go (no k) = let e : n ≡ 10 = omega arith in ap (λ (i : ℕ). answer_in i x) (sym e)

pub last_held : (n a b : ℕ) → 15 ≤ n → place.IsClosed1 ≡ held_in n a b
last_held n a b h = go (dec_lt 15 n)
  where
    go : Dec (15 < n) → place.IsClosed1 ≡ held_in n a b
    go (yes l) = sym (get_or-eq_default (places a b) place.IsClosed1 l)
    go (no k) = let e : n ≡ 15 = omega arith in ap (λ (i : ℕ). held_in i a b) (sym e)

module _ (c a b : ℕ) where
  pub idle_in : (r : Answer) → c < 11 → r ≡ answer_in c a → place.Idle r ≡ place_in c a b
  unfolding place_in
  idle_in r h e = below c 11 _ _ _ h (ap place.Idle e)

  pub busy_in : (r : Place) → 11 ≤ c → r ≡ held_in (c - 11) a b → r ≡ place_in c a b
  unfolding place_in
  busy_in r h e = above c 11 _ _ _ h e
