-- Words and places are one to one: beside `read_back`.
use Prim.Native.Nat.{ℕ}
use mathlib.Core.Path.{◌≡◌, refl, sym, ap, ◌∙◌}
use mathlib.Core.Bool.{Bool, true, false, ◌&&◌, cond}
use lib.Dec.{eqb}
use borrow.Author.Tests.{eq-eqb, ne_eqb, eqb-true}
use Rattle.queue_entries.proofs.Pick.{both_left, both_right}
use Rattle.unbounded_places.specs.declared.Place.{Place}
use Rattle.unbounded_codes.specs.declared.Coded.{Coded}
use Rattle.unbounded_codes.specs.Codes.{five, code_of, place_in, same_as, stands_for, SaidOf}
use Rattle.unbounded_codes.proofs.Codes.{read_back}

-- words that stand for a place are its words
pub written_back : (n a b c d : ℕ) → stands_for n a b c d ≡ true → code_of (place_in n a b c d) ≡ five n a b c d
unfolding stands_for five
written_back n a b c d h =
    let x = code_of (place_in n a b c d) in
    let h1 = both_right (eqb x.code n) _ h in
    let h2 = both_right (eqb x.first a) _ h1 in
    let h3 = both_right (eqb x.second b) _ h2 in
    let en = eqb-true x.code n (both_left (eqb x.code n) _ h) in
    let ea = eqb-true x.first a (both_left (eqb x.first a) _ h1) in
    let eb = eqb-true x.second b (both_left (eqb x.second b) _ h2) in
    let ec = eqb-true x.third c (both_left (eqb x.third c) _ h3) in
    let ed = eqb-true x.fourth d (both_right (eqb x.third c) _ h3) in
    λ i. record { code = en i; first = ea i; second = eb i; third = ec i; fourth = ed i }

-- and the words of a place stand for one
same_itself : (x : Coded) → same_as x x.code x.first x.second x.third x.fourth ≡ true
same_itself x =
    rw (
      eq-eqb x.code x.code refl,
      eq-eqb x.first x.first refl,
      eq-eqb x.second x.second refl,
      eq-eqb x.third x.third refl,
      eq-eqb x.fourth x.fourth refl,
    )
    refl

pub written_stands : (p : Place) → SaidOf p → stands_for (code_of p).code (code_of p).first (code_of p).second (code_of p).third (code_of p).fourth ≡ true
unfolding stands_for
written_stands p h =
    ap (λ (q : Place). same_as (code_of q) (code_of p).code (code_of p).first (code_of p).second (code_of p).third (code_of p).fourth) (read_back p h) ∙ same_itself (code_of p)

-- how the code finds it out: the place that they are read as, and its words
module _ (n a b c d : ℕ) (p : Place) (x : Coded) (is : p ≡ place_in n a b c d) (e : x ≡ code_of p) where
  asked : same_as x n a b c d ≡ stands_for n a b c d
  unfolding stands_for
  asked = ap (λ (y : Coded). same_as y n a b c d) (e ∙ ap code_of is)

  pub by_words : (t : Coded) → t ≡ five n a b c d → (r : Bool)
      → r ≡ (eqb x.code t.code && (eqb x.first t.first && (eqb x.second t.second && (eqb x.third t.third && eqb x.fourth t.fourth)))) → r ≡ stands_for n a b c d
  unfolding five
  by_words t u r h =
      h ∙ ap (λ (y : Coded). eqb x.code y.code && (eqb x.first y.first && (eqb x.second y.second && (eqb x.third y.third && eqb x.fourth y.fourth)))) u
      ∙ shape (eqb x.code n) (eqb x.first a) (eqb x.second b) (eqb x.third c) (eqb x.fourth d) ∙ asked
    where
      shape : (f g h k l : Bool) → (f && (g && (h && (k && l)))) ≡ cond f (cond g (cond h (cond k l false) false) false) false
      shape false g h k l = refl
      shape true false h k l = refl
      shape true true false k l = refl
      shape true true true false l = refl
      shape true true true true l = refl
