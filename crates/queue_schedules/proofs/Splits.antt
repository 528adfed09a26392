-- Where an element stands in a list: two splits of one list compared, and a list with one element more.
use Prim.Native.Nat.{◌<◌}
use mathlib.Core.Path.{◌≡◌, refl, sym, ap, ◌∙◌}
use mathlib.Core.List.{List, [], ◌∷◌, ◌++◌}
use native.Mathlib.Omega.{arith}
use lib.ListN.{length, length-append}

-- ---- lists that are equal have equal parts
module _ {A : Type 0} (d : A) where
  first_of : List A → A
  first_of [] = d
  first_of (x ∷ xs) = x

rest_of : {A : Type 0} → List A → List A
rest_of [] = []
rest_of (x ∷ xs) = xs

pub cons_first : {A : Type 0} {x y : A} {xs ys : List A} → x ∷ xs ≡ y ∷ ys → x ≡ y
unfolding first_of
cons_first {x = x} e = ap (first_of x) e

pub cons_rest : {A : Type 0} {x y : A} {xs ys : List A} → x ∷ xs ≡ y ∷ ys → xs ≡ ys
unfolding rest_of
cons_rest e = ap rest_of e

pub no_cons : {A : Type 0} {x : A} {xs : List A} → [] ≡ x ∷ xs → ⊥
no_cons e = let q = ap length e in omega arith

pub no_split : {A : Type 0} (xs : List A) (x : A) (ys : List A) → [] ≡ xs ++ x ∷ ys → ⊥
no_split [] x ys e = no_cons e
no_split (z ∷ xs) x ys e = no_cons e

-- ---- two elements of one list: the one before the other, or the same
pub data Order {A : Type 0} (xs : List A) (a : A) (ys us : List A) (b : A) (vs : List A) : Type 0 where
  earlier : (zs : List A) → us ≡ xs ++ a ∷ zs → ys ≡ zs ++ b ∷ vs → Order xs a ys us b vs
  same : xs ≡ us → a ≡ b → ys ≡ vs → Order xs a ys us b vs
  later : (zs : List A) → xs ≡ us ++ b ∷ zs → vs ≡ zs ++ a ∷ ys → Order xs a ys us b vs

pub order : {A : Type 0} (xs : List A) (a : A) (ys us : List A) (b : A) (vs : List A) → xs ++ a ∷ ys ≡ us ++ b ∷ vs → Order xs a ys us b vs
order [] a ys [] b vs e = same refl (cons_first e) (cons_rest e)
order [] a ys (u ∷ us) b vs e = earlier us (ap (λ (z : _). z ∷ us) (sym (cons_first e))) (cons_rest e)
order (x ∷ xs) a ys [] b vs e = later xs (ap (λ (z : _). z ∷ xs) (cons_first e)) (sym (cons_rest e))
order (x ∷ xs) a ys (u ∷ us) b vs e = go (order xs a ys us b vs (cons_rest e))
  where
    go : Order xs a ys us b vs → Order (x ∷ xs) a ys (u ∷ us) b vs
    go (earlier zs p q) = earlier zs (ap (λ (z : _). z ∷ us) (sym (cons_first e)) ∙ ap (λ (l : List _). x ∷ l) p) q
    go (same p q r) = same (ap (λ (z : _). z ∷ xs) (cons_first e) ∙ ap (λ (l : List _). u ∷ l) p) q r
    go (later zs p q) = later zs (ap (λ (z : _). z ∷ xs) (cons_first e) ∙ ap (λ (l : List _). u ∷ l) p) q

-- the one at the lower place comes first
pub at_lower : {A : Type 0} (xs : List A) (a : A) (ys us : List A) (b : A) (vs : List A) → xs ++ a ∷ ys ≡ us ++ b ∷ vs → length xs < length us
    → (zs : List A) × (us ≡ xs ++ a ∷ zs) × (ys ≡ zs ++ b ∷ vs)
at_lower xs a ys us b vs e l = go (order xs a ys us b vs e)
  where
    go : Order xs a ys us b vs → (zs : List _) × (us ≡ xs ++ a ∷ zs) × (ys ≡ zs ++ b ∷ vs)
    go (earlier zs p q) = (zs, p, q)
    go (same p q r) = absurd (omega (arith, ap length p))
    go (later zs p q) = absurd (omega (arith, ap length p, length-append us (b ∷ zs)))

-- ---- one element more
pub one_more : {A : Type 0} (h : List A) (e : A) (xs ys : List A) (a : A) → h ++ e ∷ [] ≡ xs ++ a ∷ ys
    → Order xs a ys h e []
one_more h e xs ys a q = order xs a ys h e [] (sym q)
