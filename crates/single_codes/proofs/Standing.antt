-- Words and places are one to one: beside `read_back`.
use Prim.Native.Nat.{ℕ}
use mathlib.Core.Path.{◌≡◌, refl, ap, ◌∙◌}
use mathlib.Core.Bool.{◌&&◌, Bool, true, false, cond}
use lib.Dec.{eqb}
use borrow.Author.Tests.{eq-eqb, eqb-true}
use Rattle.queue_entries.proofs.Pick.{both_left, both_right}
use Rattle.single_places.specs.declared.Place.{Place}
use Rattle.single_codes.specs.declared.Coded.{Coded}
use Rattle.single_codes.specs.Codes.{triple, code_of, place_in, same_as, stands_for}
use Rattle.single_codes.proofs.Codes.{read_back}

-- the words of a place stand for it
pub written_stands : (p : Place) → stands_for (code_of p).code (code_of p).first (code_of p).second ≡ true
unfolding stands_for
written_stands p = ap (λ (q : Place). same_as (code_of q) (code_of p).code (code_of p).first (code_of p).second) (read_back p) ∙ itself (code_of p)
  where
    itself : (x : Coded) → same_as x x.code x.first x.second ≡ true
    itself x = rw (eq-eqb x.code x.code refl, eq-eqb x.first x.first refl, eq-eqb x.second x.second refl) refl

-- and words that stand for a place are its words
pub written_back : (n a b : ℕ) → stands_for n a b ≡ true → code_of (place_in n a b) ≡ triple n a b
unfolding stands_for triple
written_back n a b h =
    let x = code_of (place_in n a b) in
    let rest = both_right (eqb x.code n) _ h in
    let ec = eqb-true x.code n (both_left (eqb x.code n) _ h) in
    let ea = eqb-true x.first a (both_left (eqb x.first a) _ rest) in
    let eb = eqb-true x.second b (both_right (eqb x.first a) _ rest) in
    λ i. record { code = ec i; first = ea i; second = eb i }

-- how the code finds it out: the place that they are read as, and its words
module _ (n a b : ℕ) (p : Place) (x : Coded) (is : p ≡ place_in n a b) (e : x ≡ code_of p) where
  asked : same_as x n a b ≡ stands_for n a b
  unfolding stands_for
  asked = ap (λ (y : Coded). same_as y n a b) (e ∙ ap code_of is)

  pub by_words : (t : Coded) → t ≡ triple n a b → (r : Bool) → r ≡ (eqb x.code t.code && (eqb x.first t.first && eqb x.second t.second)) → r ≡ stands_for n a b
  unfolding triple
  by_words t u r h =
      h ∙ ap (λ (y : Coded). eqb x.code y.code && (eqb x.first y.first && eqb x.second y.second)) u
      ∙ ap (λ (d : Bool). eqb x.code n && d) (both (eqb x.first a) _) ∙ both (eqb x.code n) _ ∙ asked
    where
      both : (d q : Bool) → (d && q) ≡ cond d q false
      both true q = refl
      both false q = refl
