-- The way that a field is written: bytes after what stands written at a buffer's start.
use Prim.Native.Nat.{ℕ, suc, ◌+◌, ◌-◌, ◌%◌, ◌<◌, ◌≤◌}
use mathlib.Core.Path.{◌≡◌, refl, sym, ap, ap₂, ◌∙◌}
use mathlib.Core.List.{List, [], ◌∷◌, ◌++◌, append_assoc, append-nil}
use native.Mathlib.Omega.{arith}
use lib.ListN.{length, get_or, take, drop, set, length-append, length-drop, drop_of_length-le}
use lib.Seq.{take_all, take_at, drop_at, drop-drop, drop-cons, set_at, length-take-le}
use borrow.Rule.Slice.PartMut.{put_mid, mid_of}
use Rattle.tapes_numbers.specs.declared.Variant.{Variant}
use Rattle.tapes_numbers.specs.Numbers.{tag_of, bytes_of}
use Rattle.tapes_numbers.proofs.Orders.{length_bytes}
use Rattle.tapes_fields.specs.Fields.{opening_of, field_of, head_of, swapped, tag_for, item_long, body_of, entry_field_of, end_of, over, size_of}

pub length_opening : (v : Variant) (tag long : ℕ) → length (opening_of v tag long) ≡ 3
unfolding opening_of
length_opening v tag long = ap suc (length_bytes v 2 long)

pub over_none : (b : List ℕ) → over [] b ≡ b
unfolding over
over_none b = refl

module _ (w b : List ℕ) where
  pub length_over : length w ≤ length b → length (over w b) ≡ length b
  unfolding over
  length_over h = length-append w (drop (length w) b) ∙ ap (λ (k : ℕ). length w + k) (length-drop (length w) b) ∙ (omega arith)

  -- a byte more
  pub over_byte : (x at : ℕ) → at ≡ length w → at < length b → set (over w b) at x ≡ over (w ++ (x ∷ [])) b
  unfolding over
  over_byte x at e h =
      let low : length w < length b = omega arith in
      let long : length (w ++ (x ∷ [])) ≡ suc (length w) = length-append w (x ∷ []) ∙ (omega arith) in
      ap (λ (l : List ℕ). set (w ++ l) at x) (drop-cons b (length w) 0 low)
      ∙ set_at w (get_or b (length w) 0) (drop (suc (length w)) b) x at (sym e)
      ∙ sym (append_assoc w (x ∷ []) (drop (length (w ++ (x ∷ []))) b) ∙ ap (λ (k : ℕ). w ++ (x ∷ drop k b)) long)

  -- some bytes more
  pub over_part : (z : List ℕ) (at count : ℕ) → at ≡ length w → count ≡ length z → put_mid at count (over w b) z ≡ over (w ++ z) b
  unfolding over
  over_part z at count e k =
      let before : take at (w ++ drop (length w) b) ≡ w = take_at w (drop (length w) b) at (sym e) in
      let after : drop at (w ++ drop (length w) b) ≡ drop (length w) b = drop_at w (drop (length w) b) at (sym e) in
      let long : length w + count ≡ length (w ++ z) = ap (λ (n : ℕ). length w + n) k ∙ sym (length-append w z) in
      ap₂ (λ (l r : List ℕ). l ++ (z ++ drop count r)) before after
      ∙ ap (λ (l : List ℕ). w ++ (z ++ l)) (drop-drop count (length w) b ∙ ap (λ (n : ℕ). drop n b) long)
      ∙ sym (append_assoc w z (drop (length (w ++ z)) b))

-- a part that is within a list
part_long : (at count : ℕ) (xs : List ℕ) → at + count ≤ length xs → length (mid_of at count xs) ≡ count
part_long at count xs h = length-take-le count (drop at xs) (rw length-drop (omega arith))

-- a number more, in so many bytes
module _ (v : Variant) (w b x : List ℕ) (at count n : ℕ) (is : x ≡ over w b) (long : at ≡ length w) (fits : at + count ≤ length b) where
  length_written : length x ≡ length b
  length_written = ap length is ∙ length_over w b (omega arith)

  pub number_more : (z : List ℕ) → z ≡ bytes_of v (length (mid_of at count x)) n → put_mid at count x z ≡ over (w ++ bytes_of v count n) b
  number_more z e =
      let z-is : z ≡ bytes_of v count n = e ∙ ap (λ (k : ℕ). bytes_of v k n) (part_long at count x (omega (arith, length_written))) in
      ap₂ (λ (l m : List ℕ). put_mid at count l m) is z-is ∙ over_part w b (bytes_of v count n) at count long (sym (length_bytes v count n))

-- what `put_opening` writes
pub opened : (v : Variant) (tag long : ℕ) (b : List ℕ) (t : ℕ) (z : List ℕ) → 3 ≤ length b → t ≡ tag_of v tag → z ≡ bytes_of v (length (mid_of 1 2 (set b 0 t))) long
    → put_mid 1 2 (set b 0 t) z ≡ over (opening_of v tag long) b
unfolding opening_of
opened v tag long b t z h e k =
    number_more v (t ∷ []) b (set b 0 t) 1 2 long (ap (λ (l : List ℕ). set l 0 t) (sym (over_none b)) ∙ over_byte [] b t 0 refl (omega arith)) refl (omega arith) z k
    ∙ ap (λ (i : ℕ). over (i ∷ bytes_of v 2 long) b) e

-- a field's opening says its body's length
pub field_long : (v : Variant) (tag long : ℕ) (body : List ℕ) → length body ≡ long → field_of v tag body ≡ opening_of v tag long ++ body
unfolding field_of
field_long v tag long body e = ap (λ (k : ℕ). opening_of v tag k ++ body) e

pub ended : (v : Variant) → opening_of v 4 0 ≡ end_of v
unfolding end_of
ended v = sym (field_long v 4 0 [] refl ∙ append-nil (opening_of v 4 0))

-- what `put_head` writes
module _ (v : Variant) (capacity workers : ℕ) (b o : List ℕ) (fits : 7 ≤ length b) (is : o ≡ over (opening_of v 1 4) b) where
  pub headed : (y z : List ℕ) → y ≡ bytes_of v (length (mid_of 3 2 o)) capacity → z ≡ bytes_of v (length (mid_of 5 2 (put_mid 3 2 o y))) workers
      → put_mid 5 2 (put_mid 3 2 o y) z ≡ over (head_of v capacity workers) b
  unfolding head_of
  headed y z p q =
      let c : List ℕ = bytes_of v 2 capacity in
      let w : List ℕ = bytes_of v 2 workers in
      let five : 5 ≡ length (opening_of v 1 4 ++ c) = omega (arith, length-append (opening_of v 1 4) c, length_opening v 1 4, length_bytes v 2 capacity) in
      let four : length (c ++ w) ≡ 4 = omega (arith, length-append c w, length_bytes v 2 capacity, length_bytes v 2 workers) in
      number_more v (opening_of v 1 4 ++ c) b (put_mid 3 2 o y) 5 2 workers
      (number_more v (opening_of v 1 4) b o 3 2 capacity is (sym (length_opening v 1 4)) (omega arith) y p) five (omega arith) z q
      ∙ ap (λ (l : List ℕ). over l b) (append_assoc (opening_of v 1 4) c w ∙ sym (field_long v 1 4 (c ++ w) four))

-- what `put_entry` writes
module _ (v : Variant) (first item n : ℕ) (b o : List ℕ) (fits : size_of first ≤ length b) (n-is : n ≡ item_long (first % 16)) (t : ℕ)
    (t-is : t ≡ tag_for (first % 16)) (is : o ≡ over (opening_of v t (1 + n)) b) where
  pub entry_fits : 4 + n ≤ length b
  unfolding size_of
  entry_fits = omega arith

  pub entered : (x : ℕ) (z : List ℕ) → x ≡ swapped first → z ≡ bytes_of v (length (mid_of 4 (4 + n - 4) (set o 3 x))) item
      → put_mid 4 (4 + n - 4) (set o 3 x) z ≡ over (entry_field_of v first item) b
  unfolding entry_field_of body_of
  entered x z p q =
      let op : List ℕ = opening_of v t (1 + n) in
      let three : 3 ≡ length op = sym (length_opening v t (1 + n)) in
      let four : 4 ≡ length (op ++ (x ∷ [])) = omega (arith, length-append op (x ∷ []), three) in
      let low : 3 < length b = omega (arith, entry_fits) in
      let high : 4 + (4 + n - 4) ≤ length b = omega (arith, entry_fits) in
      let less : 4 + n - 4 ≡ n = omega arith in
      let long : length (swapped first ∷ bytes_of v (item_long (first % 16)) item) ≡ 1 + n = omega (arith, length_bytes v (item_long (first % 16)) item) in
      number_more v (op ++ (x ∷ [])) b (set o 3 x) 4 (4 + n - 4) item (ap (λ (l : List ℕ). set l 3 x) is ∙ over_byte op b x 3 three low) four high z q
      ∙ ap (λ (l : List ℕ). over l b)
      (append_assoc op (x ∷ []) (bytes_of v (4 + n - 4) item)
      ∙ ap₂ (λ (i k : ℕ). op ++ (i ∷ bytes_of v k item)) p (less ∙ n-is)
      ∙ ap (λ (i : ℕ). opening_of v i (1 + n) ++ (swapped first ∷ bytes_of v (item_long (first % 16)) item)) t-is
      ∙ sym (field_long v (tag_for (first % 16)) (1 + n) (swapped first ∷ bytes_of v (item_long (first % 16)) item) long))

pub length_entry : (v : Variant) (first item : ℕ) → length (entry_field_of v first item) ≡ size_of first
unfolding entry_field_of field_of body_of size_of
length_entry v first item =
    let body : List ℕ = swapped first ∷ bytes_of v (item_long (first % 16)) item in
    omega (arith, length-append (opening_of v (tag_for (first % 16)) (length body)) body, length_opening v (tag_for (first % 16)) (length body), length_bytes v (item_long (first % 16)) item)

pub swapped_fits : (b : ℕ) → b < 256 → swapped b < 256
unfolding swapped
swapped_fits b h = omega arith

-- a field more, written at the start of the rest of the buffer
pub field_more : (w b x f : List ℕ) (at : ℕ) (z : List ℕ) → x ≡ over w b → at ≡ length w → at + length f ≤ length b → z ≡ over f (mid_of at (length x - at) x)
    → put_mid at (length x - at) x z ≡ over (w ++ f) b
unfolding over
field_more w b x f at z is long fits e =
    let same : length x ≡ length b = ap length is ∙ length_over w b (omega arith) in
    let before : take at x ≡ w = ap (take at) is ∙ take_at w (drop (length w) b) at (sym long) in
    let after : drop at x ≡ drop at b = ap (drop at) is ∙ drop_at w (drop (length w) b) at (sym long) ∙ ap (λ (k : ℕ). drop k b) (sym long) in
    let rest : List ℕ = drop at x in
    let rest-long : length rest ≡ length x - at = length-drop at x in
    let all : take (length x - at) rest ≡ rest = take_all (length x - at) rest (omega arith) in
    let none : drop (length x - at) rest ≡ [] = drop_of_length-le rest {i = length x - at} (omega arith) in
    let there : at + length f ≡ length (w ++ f) = omega (arith, length-append w f) in
    let further : drop (length f) rest ≡ drop (length (w ++ f)) b = ap (drop (length f)) after ∙ drop-drop (length f) at b ∙ ap (λ (k : ℕ). drop k b) there in
    ap₂ (λ (l r : List ℕ). l ++ (z ++ r)) before none
    ∙ ap (λ (l : List ℕ). w ++ l) (append-nil z ∙ e ∙ ap (λ (l : List ℕ). f ++ drop (length f) l) all ∙ ap (λ (l : List ℕ). f ++ l) further)
    ∙ sym (append_assoc w f (drop (length (w ++ f)) b))

pub length_head : (v : Variant) (capacity workers : ℕ) → length (head_of v capacity workers) ≡ 7
unfolding head_of field_of
length_head v capacity workers =
    let body : List ℕ = bytes_of v 2 capacity ++ bytes_of v 2 workers in
    omega (
      arith,
      length-append (opening_of v 1 (length body)) body,
      length_opening v 1 (length body),
      length-append (bytes_of v 2 capacity) (bytes_of v 2 workers),
      length_bytes v 2 capacity,
      length_bytes v 2 workers,
    )

pub length_end : (v : Variant) → length (end_of v) ≡ 3
length_end v = ap length (sym (ended v)) ∙ length_opening v 4 0
