-- Rows by their places: what a loop reads into a row, and what it writes there.
use Prim.Native.Nat.{ℕ, zero, suc, ◌+◌, ◌<◌, ◌≤◌}
use mathlib.Core.Path.{◌≡◌, refl, sym, ap, ◌∙◌, subst}
use mathlib.Core.List.{List, [], ◌∷◌}
use native.Mathlib.Omega.{arith}
use native.Mathlib.Decide.{ℕ_discrete, dec_lt}
use lib.ListN.{length, get_or, set, length-set}
use lib.Seq.{get_or-set_same, get_or-set_other}
use Rattle.unbounded_rows.specs.Rows.{from, row}

module _ {A : Type 0} (d : A) where
  pub same_row : (xs ys : List A) → length xs ≡ length ys → ((j : ℕ) → j < length xs → get_or xs j d ≡ get_or ys j d) → xs ≡ ys
  same_row [] [] e h = refl
  same_row [] (y ∷ ys) e h = absurd (omega (arith, e))
  same_row (x ∷ xs) [] e h = absurd (omega (arith, e))
  same_row (x ∷ xs) (y ∷ ys) e h =
      let first : x ≡ y = h 0 (omega arith) in
      let rest : xs ≡ ys = same_row xs ys (omega (arith, e)) (λ j l. h (suc j) (omega (arith, l))) in
      λ i. first i ∷ rest i

  pub long_from : (n i : ℕ) (f : ℕ → A) → length (from n i f) ≡ n
  unfolding from
  long_from zero i f = refl
  long_from (suc n) i f = ap suc (long_from n (i + 1) f)

  get_from : (n i j : ℕ) (f : ℕ → A) → j < n → get_or (from n i f) j d ≡ f (i + j)
  unfolding from
  get_from zero i j f l = absurd (omega (arith, l))
  get_from (suc n) i zero f l = let e : i ≡ i + 0 = omega arith in ap f e
  get_from (suc n) i (suc j) f l = let e : i + 1 + j ≡ i + suc j = omega arith in get_from n (i + 1) j f (omega (arith, l)) ∙ ap f e

  pub get_row : (n j : ℕ) (f : ℕ → A) → j < n → get_or (row n f) j d ≡ f j
  get_row n j f l = let e : 0 + j ≡ j = omega arith in get_from n 0 j f l ∙ ap f e

  pub is_row : (n : ℕ) (f : ℕ → A) (xs : List A) → length xs ≡ n → ((j : ℕ) → j < n → get_or xs j d ≡ f j) → xs ≡ row n f
  is_row n f xs e h =
      same_row xs (row n f) (e ∙ sym (long_from n 0 f)) (λ j l. let m : j < n = omega (arith, l, e) in h j m ∙ sym (get_row n j f m))

  -- ---- a row that is filled from its start
  pub record Taken (n : ℕ) (f : ℕ → A) (i : ℕ) (all : List A) : Type 0 where
    pub low : i ≤ n
    pub long : length all ≡ n
    pub so_far : (j : ℕ) → j < i → get_or all j d ≡ f j

  pub none_taken : (n : ℕ) (f : ℕ → A) (all : List A) → length all ≡ n → Taken n f 0 all
  none_taken n f all e = record { low = omega arith; long = e; so_far = λ j l. absurd (omega (arith, l)) }

  module _ (n : ℕ) (f : ℕ → A) (i : ℕ) (all : List A) (z : Taken n f i all) where
    pub taken_long : i < n → i < length all
    taken_long l = omega (arith, l, z.long)

    pub one_taken : i < n → (x : A) → x ≡ f i → Taken n f (i + 1) (set all i x)
    one_taken l x e = record {
      low = omega (arith, l);
      long = length-set all i x ∙ z.long;
      so_far = λ j m. go j m (ℕ_discrete j i);
    }
      where
        go : (j : ℕ) → j < i + 1 → Dec (j ≡ i) → get_or (set all i x) j d ≡ f j
        go j m (yes h) = subst (λ (k : ℕ). get_or (set all i x) k d ≡ f k) (sym h) (get_or-set_same all i x d (taken_long l) ∙ e)
        go j m (no h) = get_or-set_other all i j x d h ∙ z.so_far j (earlier (dec_lt j i))
          where
            earlier : Dec (j < i) → j < i
            earlier (yes a) = a
            earlier (no a) = absurd (h (omega (arith, a, m)))

    pub all_taken : n ≤ i → all ≡ row n f
    all_taken h = is_row n f all z.long (λ j l. z.so_far j (omega (arith, l, h)))

-- ---- words that are right where they stand, by what each is to be
module _ (g : ℕ → ℕ) where
  abbrev pub Right : List ℕ → ℕ → Type 0
  Right zs p = get_or zs p 0 ≡ g p

  pub here : (zs : List ℕ) (q v : ℕ) → q < length zs → v ≡ g q → (p : ℕ) → p ≡ q → Right (set zs q v) p
  here zs q v l e p h = subst (Right (set zs q v)) (sym h) (get_or-set_same zs q v 0 l ∙ e)

  pub still : (zs : List ℕ) (q v : ℕ) → q < length zs → v ≡ g q → (p : ℕ) → Right zs p → Right (set zs q v) p
  still zs q v l e p r = go (ℕ_discrete p q)
    where
      go : Dec (p ≡ q) → Right (set zs q v) p
      go (yes h) = here zs q v l e p h
      go (no h) = get_or-set_other zs q p v 0 h ∙ r

pub still_in : (l : List ℕ) (j i a : ℕ) → j < length l → j < length (set l i a)
still_in l j i a = subst (λ (n : ℕ). j < n) (sym (length-set l i a))
