-- A tape field by field: what is heard, and what is left of it.
use Prim.Native.Nat.{ℕ, zero, suc, ◌+◌, ◌*◌, ◌/◌, ◌%◌, ◌-◌, ◌<◌, ◌≤◌}
use mathlib.Core.Path.{◌≡◌, refl, sym, ap, ap₂, ◌∙◌}
use mathlib.Core.Bool.{Bool, true, false, cond}
use mathlib.Core.List.{List, [], ◌∷◌, ◌++◌, append_assoc}
use native.Mathlib.Omega.{arith}
use lib.Dec.{eqb}
use lib.ListN.{length, take, drop, set, length-drop, length-append}
use lib.Seq.{take_all, drop-drop, take-add, length-take-le}
use borrow.Author.Tests.{eq-eqb, ne_eqb}
use Rattle.tapes_numbers.specs.declared.Variant.{Variant}
use Rattle.tapes_fields.specs.declared.Field.{Field}
use Rattle.tapes_fields.specs.declared.Field.TheVariants as field
use Rattle.tapes_fields.specs.Fields.{size_of, over}
use Rattle.tapes_fields.specs.Judged.{field_in}
use Rattle.tapes_fields.proofs.Reading.{entry_whole, end_read}
use Rattle.tapes_fields.proofs.Writing.{over_none, over_byte}
use Rattle.tapes.specs.declared.Scan.{Scan}
use Rattle.tapes.specs.declared.Scan.TheVariants as scan
use Rattle.tapes.specs.Heard.{Heard, stopped, heard, joined, long_of, heard_by, hear_from, hear_in, count_in, words_in}

-- so many words passed, and those of what is heard after them
abbrev pub count_from : ℕ → Heard → Scan
count_from n (stopped number at) = scan.Fault number at
count_from n (heard words) = scan.Words (n + length words)

pub count_all : (h : Heard) → count_from 0 h ≡ count_in h
unfolding count_in
count_all (stopped number at) = refl
count_all (heard words) = let e : 0 + length words ≡ length words = omega arith in ap scan.Words e

count_joined : (n first item : ℕ) (h : Heard) → count_from n (joined first item h) ≡ count_from (n + 2) h
unfolding joined
count_joined n first item (stopped number at) = refl
count_joined n first item (heard words) = let e : n + suc (suc (length words)) ≡ n + 2 + length words = omega arith in ap scan.Words e

-- the bytes from a place on, as the reader lends them
pub rest_of : (s : List ℕ) (at : ℕ) → take (length s - at) (drop at s) ≡ drop at s
rest_of s at = take_all (length s - at) (drop at s) (omega (arith, length-drop at s))

-- ---- the first pass
module _ (v : Variant) (s : List ℕ) (at n : ℕ) (f : Field) (whole : Scan) (in_it : at ≤ length s) (low : 7 + 2 * n ≤ at)
    (is : f ≡ field_in v (take (length s - at) (drop at s))) (back : count_from n (hear_from (length s - n / 2) v at (drop at s)) ≡ whole) where
  field_is : field_in v (drop at s) ≡ f
  field_is = sym (is ∙ ap (field_in v) (rest_of s at))

  one_field : count_from n (heard_by at (drop at s) f (hear_from (length s - (n + 2) / 2) v (at + long_of f) (drop (long_of f) (drop at s)))) ≡ whole
  unfolding hear_from
  one_field =
      let fuel : length s - n / 2 ≡ suc (length s - (n + 2) / 2) = omega arith in
      ap (λ (g : Field). count_from n (heard_by at (drop at s) g (hear_from (length s - (n + 2) / 2) v (at + long_of g) (drop (long_of g) (drop at s))))) (sym field_is)
      ∙ (rw fuel at back)

  pub scan_fault : (number : ℕ) → f ≡ field.Fault number → scan.Fault number at ≡ whole
  unfolding heard_by
  scan_fault number e = rw e at one_field

  pub scan_end : f ≡ field.End → length s - at ≡ 3 → scan.Words n ≡ whole
  unfolding heard_by
  scan_end e h =
      let test : eqb (length (drop at s)) 3 ≡ true = eq-eqb _ _ (length-drop at s ∙ h) in
      let none : n ≡ n + 0 = omega arith in
      ap scan.Words none ∙ (rw test at (rw e at one_field))

  pub scan_after : f ≡ field.End → (length s - at ≡ 3 → ⊥) → scan.Fault 15 (at + 3) ≡ whole
  unfolding heard_by
  scan_after e h =
      let test : eqb (length (drop at s)) 3 ≡ false = ne_eqb _ _ (λ k. h (sym (length-drop at s) ∙ k)) in
      rw test at (rw e at one_field)

  pub end_inside : f ≡ field.End → at + 3 ≤ length s
  end_inside e = omega (arith, (end_read v (drop at s) (field_is ∙ e)).0, length-drop at s)

  module _ (first item k : ℕ) (e : f ≡ field.Entry first item) (k-is : k ≡ size_of first) where
    pub entry_inside : at + k ≤ length s
    entry_inside = omega (arith, entry_whole v (drop at s) first item (field_is ∙ e), length-drop at s)

    pub scan_more : count_from (n + 2) (hear_from (length s - (n + 2) / 2) v (at + k) (drop (at + k) s)) ≡ whole
    unfolding heard_by long_of
    scan_more =
        ap₂ (λ (j : ℕ) (l : List ℕ). count_from (n + 2) (hear_from (length s - (n + 2) / 2) v (at + j) l)) k-is (sym (drop-drop k at s) ∙ ap (λ (j : ℕ). drop j (drop at s)) k-is)
        ∙ sym (count_joined n first item (hear_from (length s - (n + 2) / 2) v (at + size_of first) (drop (size_of first) (drop at s))))
        ∙ (rw e at one_field)

pub none_scanned : (v : Variant) (s : List ℕ) → count_from 0 (hear_from (length s - 0 / 2) v 7 (drop 7 s)) ≡ count_in (hear_in v s)
unfolding hear_in
none_scanned v s = let z : length s - 0 / 2 ≡ length s = omega arith in rw z (count_all (hear_from (length s) v 7 (drop 7 s)))

-- ---- the second pass
joined_words : (first item : ℕ) (h : Heard) → 0 < length (words_in (joined first item h)) → words_in (joined first item h) ≡ first ∷ item ∷ words_in h
unfolding joined words_in
joined_words first item (stopped number at) l = absurd (omega arith)
joined_words first item (heard words) l = refl

module _ (v : Variant) (at : ℕ) (r : List ℕ) (f : Field) (is : field_in v r ≡ f) where
  no_words_fault : (number : ℕ) → f ≡ field.Fault number → (more : ℕ) → words_in (hear_from more v at r) ≡ []
  unfolding hear_from heard_by words_in
  no_words_fault number e zero = refl
  no_words_fault number e (suc more) = ap (λ (g : Field). words_in (heard_by at r g (hear_from more v (at + long_of g) (drop (long_of g) r)))) (is ∙ e)

  no_words_end : f ≡ field.End → (more : ℕ) → words_in (hear_from more v at r) ≡ []
  unfolding hear_from heard_by words_in
  no_words_end e zero = refl
  no_words_end e (suc more) =
      ap (λ (g : Field). words_in (heard_by at r g (hear_from more v (at + long_of g) (drop (long_of g) r)))) (is ∙ e) ∙ either (eqb (length r) 3)
    where
      either : (b : Bool) → words_in (cond b (heard []) (stopped 15 (at + 3))) ≡ []
      either true = refl
      either false = refl

  words_entry : (first item : ℕ) → f ≡ field.Entry first item → (more : ℕ) → 0 < length (words_in (hear_from more v at r))
      → words_in (hear_from more v at r) ≡ first ∷ item ∷ words_in (hear_from (more - 1) v (at + size_of first) (drop (size_of first) r))
  unfolding hear_from heard_by long_of words_in
  words_entry first item e zero l = absurd (omega arith)
  words_entry first item e (suc more) l =
      let fuel : suc more - 1 ≡ more = omega arith in
      let step = ap (λ (g : Field). words_in (heard_by at r g (hear_from more v (at + long_of g) (drop (long_of g) r)))) (is ∙ e) in
      step ∙ joined_words first item (hear_from more v (at + size_of first) (drop (size_of first) r)) (omega (arith, ap length step))
      ∙ ap (λ (m : ℕ). first ∷ item ∷ words_in (hear_from m v (at + size_of first) (drop (size_of first) r))) (sym fuel)

module _ (v : Variant) (s w : List ℕ) (at k : ℕ) (f : Field) (in_it : at ≤ length s) (more : k < length w)
    (is : f ≡ field_in v (take (length s - at) (drop at s))) (left : words_in (hear_from (length s - k / 2) v at (drop at s)) ≡ drop k w) where
  field_there : field_in v (drop at s) ≡ f
  field_there = sym (is ∙ ap (field_in v) (rest_of s at))

  some_left : 0 < length (words_in (hear_from (length s - k / 2) v at (drop at s)))
  some_left = omega (arith, ap length left, length-drop k w)

  no_fault : (number : ℕ) → f ≡ field.Fault number → ⊥
  no_fault number e = omega (arith, some_left, ap length (no_words_fault v at (drop at s) f field_there number e (length s - k / 2)))

  no_end : f ≡ field.End → ⊥
  no_end e = omega (arith, some_left, ap length (no_words_end v at (drop at s) f field_there e (length s - k / 2)))

  pub no_other : ((first item : ℕ) → f ≡ field.Entry first item → ⊥) → ⊥
  no_other h = by f refl
    where
      by : (g : Field) → f ≡ g → ⊥
      by (field.Fault number) e = no_fault number e
      by field.End e = no_end e
      by (field.Entry first item) e = h first item e

  module _ (first item : ℕ) (e : f ≡ field.Entry first item) where
    two_left : drop k w ≡ first ∷ item ∷ words_in (hear_from (length s - k / 2 - 1) v (at + size_of first) (drop (size_of first) (drop at s)))
    two_left = sym left ∙ words_entry v at (drop at s) f field_there first item e (length s - k / 2) some_left

    pub two_inside : k + 2 ≤ length w
    two_inside = omega (arith, ap length two_left, length-drop k w)

    pub entry_there : (j : ℕ) → j ≡ size_of first → at + j ≤ length s
    entry_there j j-is = omega (arith, entry_whole v (drop at s) first item (field_there ∙ e), length-drop at s)

    pub words_left : (j : ℕ) → j ≡ size_of first → words_in (hear_from (length s - (k + 2) / 2) v (at + j) (drop (at + j) s)) ≡ drop (k + 2) w
    words_left j j-is =
        let fuel : length s - (k + 2) / 2 ≡ length s - k / 2 - 1 = omega arith in
        rw fuel
        (ap₂ (λ (i : ℕ) (l : List ℕ). words_in (hear_from (length s - k / 2 - 1) v (at + i) l)) j-is (sym (drop-drop j at s) ∙ ap (λ (i : ℕ). drop i (drop at s)) j-is)
        ∙ sym (sym (drop-drop 2 k w) ∙ ap (drop 2) two_left))

    -- what is written
    pub two_written : (b x : List ℕ) → length w ≤ length b → x ≡ over (take k w) b → set (set x k first) (k + 1) item ≡ over (take (k + 2) w) b
    two_written b x fits x-is =
        let long : k ≡ length (take k w) = sym (length-take-le k w (omega arith)) in
        let long-1 : k + 1 ≡ length (take k w ++ (first ∷ [])) = omega (arith, length-append (take k w) (first ∷ []), long) in
        let taken : take (k + 2) w ≡ take k w ++ (first ∷ item ∷ []) = take-add k 2 w ∙ ap (λ (l : List ℕ). take k w ++ take 2 l) two_left in
        ap (λ (l : List ℕ). set l (k + 1) item) (ap (λ (l : List ℕ). set l k first) x-is ∙ over_byte (take k w) b first k long (omega (arith, two_inside)))
        ∙ over_byte (take k w ++ (first ∷ [])) b item (k + 1) long-1 (omega (arith, two_inside))
        ∙ ap (λ (l : List ℕ). over l b) (append_assoc (take k w) (first ∷ []) (item ∷ []) ∙ sym taken)

pub none_copied : (v : Variant) (s b : List ℕ) → (b ≡ over (take 0 (words_in (hear_in v s))) b) × (words_in (hear_from (length s - 0 / 2) v 7 (drop 7 s)) ≡ drop 0 (words_in (hear_in v s)))
unfolding hear_in
none_copied v s b = let z : length s - 0 / 2 ≡ length s = omega arith in (sym (over_none b), ap (λ (m : ℕ). words_in (hear_from m v 7 (drop 7 s))) z)

pub all_copied : (w b x : List ℕ) (k : ℕ) → length w ≤ k → x ≡ over (take k w) b → x ≡ over w b
all_copied w b x k h e = e ∙ ap (λ (l : List ℕ). over l b) (take_all k w h)

-- the words come in twos
even_joined : (first item : ℕ) (h : Heard) → length (words_in h) % 2 ≡ 0 → length (words_in (joined first item h)) % 2 ≡ 0
unfolding joined words_in
even_joined first item (stopped number at) e = refl
even_joined first item (heard words) e = omega arith

even_by : (at : ℕ) (r : List ℕ) (f : Field) (h : Heard) → length (words_in h) % 2 ≡ 0 → length (words_in (heard_by at r f h)) % 2 ≡ 0
unfolding heard_by words_in
even_by at r (field.Fault number) h e = refl
even_by at r field.End h e = either (eqb (length r) 3)
  where
    either : (b : Bool) → length (words_in (cond b (heard []) (stopped 15 (at + 3)))) % 2 ≡ 0
    either true = refl
    either false = refl
even_by at r (field.Entry first item) h e = even_joined first item h e

even_from : (more : ℕ) (v : Variant) (at : ℕ) (r : List ℕ) → length (words_in (hear_from more v at r)) % 2 ≡ 0
unfolding hear_from words_in
even_from zero v at r = refl
even_from (suc more) v at r = even_by at r (field_in v r) _ (even_from more v (at + long_of (field_in v r)) (drop (long_of (field_in v r)) r))

pub even_words : (v : Variant) (s : List ℕ) → length (words_in (hear_in v s)) % 2 ≡ 0
unfolding hear_in
even_words v s = even_from (length s) v 7 (drop 7 s)
