-- A code of a place and a place of a code, at a case that is known.
use Prim.Native.Nat.{ℕ, ◌-◌, ◌≤◌, ◌<◌}
use mathlib.Core.Path.{◌≡◌, refl, sym, ap, ◌∙◌}
use native.Mathlib.Omega.{arith}
use native.Mathlib.Decide.{dec_lt}
use lib.ListN.{get_or-eq_default}
use borrow.Author.Tests.{eq-eqb, ne_eqb}
use Rattle.queue_entries.proofs.Pick.{along, below, above}
use Rattle.unbounded_words.specs.declared.Pointer.{Pointer}
use Rattle.unbounded_words.specs.declared.Pointer.TheVariants.{None, To}
use Rattle.unbounded_places.specs.declared.Answer.{Answer}
use Rattle.unbounded_places.specs.declared.Answer.TheVariants as answer
use Rattle.unbounded_places.specs.declared.Place.{Place}
use Rattle.unbounded_places.specs.declared.Place.TheVariants as place
use Rattle.unbounded_codes.specs.declared.Coded.{Coded}
use Rattle.unbounded_codes.specs.Codes.{with_answer, answer_code, code_of, pointer_in, answers, answer_in, pushes, push_in, pops, pop_in, looks, look_in, place_in}

pub along_answer_code : (p q : Answer) (r : Coded) → p ≡ q → r ≡ answer_code q → r ≡ answer_code p
along_answer_code = along answer_code

pub along_code : (p q : Place) (r : Coded) → p ≡ q → r ≡ code_of q → r ≡ code_of p
along_code = along code_of

pub answer_told : (r : Coded) (n : ℕ) (p : Pointer) (a : Answer) (x : Coded) → x ≡ answer_code a → r ≡ with_answer n p x → r ≡ with_answer n p (answer_code a)
answer_told r n p a x h e = e ∙ ap (with_answer n p) h

-- ---- and back
pub no_block : (n : ℕ) → n ≡ 64 → None ≡ pointer_in n
unfolding pointer_in
no_block n e = sym (rw (eq-eqb n 64 e) refl)

pub a_block : (n : ℕ) → (n ≡ 64 → ⊥) → To n ≡ pointer_in n
unfolding pointer_in
a_block n h = sym (rw (ne_eqb n 64 h) refl)

pub along_answer : (n k x : ℕ) (r : Answer) → n ≡ k → r ≡ answer_in k x → r ≡ answer_in n x
along_answer n k x = along (λ (i : ℕ). answer_in i x) n k

pub last_answer : (n x : ℕ) → 10 ≤ n → answer.Len x ≡ answer_in n x
last_answer n x h = go (dec_lt 10 n)
  where
    go : Dec (10 < n) → answer.Len x ≡ answer_in n x
    go (yes l) = sym (get_or-eq_default (answers x) (answer.Len x) l)
    go (no k) = let e : n ≡ 10 = omega arith in ap (λ (i : ℕ). answer_in i x) (sym e)

module _ (a b c d : ℕ) (pa pb pc : Pointer) where
  pub along_push : (w : Answer) (n k : ℕ) (r : Place) → n ≡ k → r ≡ push_in k a b c d pa pb pc w → r ≡ push_in n a b c d pa pb pc w
  along_push w n k = along (λ (i : ℕ). push_in i a b c d pa pb pc w) n k

  pub last_push : (w : Answer) (n : ℕ) → 14 ≤ n → place.U15 pa pb c ≡ push_in n a b c d pa pb pc w
  last_push w n h = go (dec_lt 14 n)
    where
      go : Dec (14 < n) → place.U15 pa pb c ≡ push_in n a b c d pa pb pc w
      go (yes l) = sym (get_or-eq_default (pushes a b c d pa pb pc w) (place.U15 pa pb c) l)
      go (no k) = let e : n ≡ 14 = omega arith in ap (λ (i : ℕ). push_in i a b c d pa pb pc w) (sym e)

  pub along_pop : (pd : Pointer) (n k : ℕ) (r : Place) → n ≡ k → r ≡ pop_in k a b c d pa pb pc pd → r ≡ pop_in n a b c d pa pb pc pd
  along_pop pd n k = along (λ (i : ℕ). pop_in i a b c d pa pb pc pd) n k

  pub last_pop : (pd : Pointer) (n : ℕ) → 14 ≤ n → place.V15 pa b ≡ pop_in n a b c d pa pb pc pd
  last_pop pd n h = go (dec_lt 14 n)
    where
      go : Dec (14 < n) → place.V15 pa b ≡ pop_in n a b c d pa pb pc pd
      go (yes l) = sym (get_or-eq_default (pops a b c d pa pb pc pd) (place.V15 pa b) l)
      go (no k) = let e : n ≡ 14 = omega arith in ap (λ (i : ℕ). pop_in i a b c d pa pb pc pd) (sym e)

pub along_look : (a b n k : ℕ) (r : Place) → n ≡ k → r ≡ look_in k a b → r ≡ look_in n a b
along_look a b n k = along (λ (i : ℕ). look_in i a b) n k

pub last_look : (a b n : ℕ) → 7 ≤ n → place.IsClosed1 ≡ look_in n a b
last_look a b n h = go (dec_lt 7 n)
  where
    go : Dec (7 < n) → place.IsClosed1 ≡ look_in n a b
    go (yes l) = sym (get_or-eq_default (looks a b) place.IsClosed1 l)
    go (no k) = let e : n ≡ 7 = omega arith in ap (λ (i : ℕ). look_in i a b) (sym e)

module _ (n a b c d : ℕ) where
  pub idle_in : (r : Answer) → n < 11 → r ≡ answer_in n a → place.Idle r ≡ place_in n a b c d
  unfolding place_in
  idle_in r h e = below n 11 _ _ _ h (ap place.Idle e)

  pub looks_in : (r : Place) → 41 ≤ n → r ≡ look_in (n - 41) a b → r ≡ place_in n a b c d
  unfolding place_in
  looks_in r h e = above n 11 _ _ _ (omega (arith, h)) (above n 41 _ _ _ h e)

  module _ (pa pb pc : Pointer) (ea : pa ≡ pointer_in a) (eb : pb ≡ pointer_in b) (ec : pc ≡ pointer_in c) (from : 11 ≤ n) (to : n < 41) where
    pub pushes_in : (r : Place) (w : Answer) → n < 26 → w ≡ answer_in b c → r ≡ push_in (n - 11) a b c d pa pb pc w → r ≡ place_in n a b c d
    unfolding place_in
    pushes_in r w h ew e =
        above n 11 _ _ _ from (below n 41 _ _ _ to (below n 26 _ _ _ h (e ∙ (λ i. push_in (n - 11) a b c d (ea i) (eb i) (ec i) (ew i)))))

    pub pops_in : (r : Place) (pd : Pointer) → 26 ≤ n → pd ≡ pointer_in d → r ≡ pop_in (n - 26) a b c d pa pb pc pd → r ≡ place_in n a b c d
    unfolding place_in
    pops_in r pd h ed e =
        above n 11 _ _ _ from (below n 41 _ _ _ to (above n 26 _ _ _ h (e ∙ (λ i. pop_in (n - 26) a b c d (ea i) (eb i) (ec i) (ed i)))))
