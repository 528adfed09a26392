-- A field that was written is read, and a field that was read is the one that is written.
use Prim.Native.Nat.{ℕ, zero, suc, ◌+◌, ◌/◌, ◌%◌, ◌-◌, ◌^◌, ◌<◌, ◌≤◌}
use mathlib.Core.Path.{◌≡◌, refl, sym, ap, ap₂, ◌∙◌}
use mathlib.Core.Bool.{Bool, true, false, cond, not}
use mathlib.Core.List.{List, [], ◌∷◌, ◌++◌, append_assoc}
use mathlib.Core.Logic.{◌⊎◌, inl, inr, ⊎_elim}
use native.Mathlib.Omega.{arith}
use lib.Dec.{ltb, eqb}
use lib.ListN.{length, get_or, take, drop, length-append, length-drop, take-append-drop}
use lib.Seq.{drop-drop, drop-cons, length-take-le, take_at, drop_at, get_or_at}
use borrow.Author.Tests.{lt-ltb, le-ltb, eq-eqb, ne_eqb, ltb-true, ltb-false, eqb-true}
use Rattle.queue_entries.specs.declared.Order.TheVariants.{Begin, Act}
use Rattle.queue_entries.specs.declared.Entry.TheVariants.{Unreadable, Asks}
use Rattle.queue_entries.specs.Entries.{call_of, stray_of, order_of, entry_of}
use Rattle.queue_entries.proofs.Pick.{both_left, both_right}
use Rattle.tapes_numbers.specs.declared.Variant.{Variant}
use Rattle.tapes_numbers.specs.declared.Variant.TheVariants.{BigEndian, LittleEndian}
use Rattle.tapes_numbers.specs.Numbers.{tag_of, in_order, value_of, bytes_of, number_of}
use Rattle.tapes_numbers.proofs.Orders.{length_bytes}
use Rattle.tapes_fields.specs.declared.Head.TheVariants as head
use Rattle.tapes_fields.specs.declared.Field.TheVariants as field
use Rattle.tapes_fields.specs.Fields.{opening_of, head_of, swapped, tag_for, item_long, body_of, entry_field_of, end_of, size_of}
use Rattle.tapes_fields.specs.Judged.{opens, allowed, head_by, head_in, entry_by, field_in, carried_by, carried}
use Rattle.tapes_fields.proofs.Writing.{length_opening, length_entry, length_end, length_head, ended, field_long, swapped_fits}
use Rattle.tapes_fields.proofs.Reading.{Carried, EntryRead, entry_read, entry_code, HeadRead, end_read}
use Rattle.tapes_demands.specs.Notions.{Below}
use Rattle.tapes_proof_round_trip.proofs.Numbers.{below_take, below_drop, number_bytes, bytes_number, number_below}

-- ---- an opening
tag_one : (v : Variant) (a b : ℕ) → tag_of v a ≡ tag_of v b → a ≡ b
tag_one BigEndian a b e = e
tag_one LittleEndian a b e = omega arith

module _ (v u : Variant) (tag long : ℕ) (rest : List ℕ) where
  pub opens_same : long < 65536 → opens v tag long (opening_of v tag long ++ rest) ≡ true
  unfolding opens opening_of
  opens_same h =
      let body : take 2 (bytes_of v 2 long ++ rest) ≡ bytes_of v 2 long = take_at (bytes_of v 2 long) rest 2 (length_bytes v 2 long) in
      let is : number_of v (take 2 (bytes_of v 2 long ++ rest)) ≡ long = ap (number_of v) body ∙ number_bytes v 2 long h in
      simp (eq-eqb (tag_of v tag) (tag_of v tag) refl, eq-eqb _ long is)

  pub opens_other : (t n : ℕ) → (tag_of u tag ≡ tag_of v t → ⊥) → opens v t n (opening_of u tag long ++ rest) ≡ false
  unfolding opens opening_of
  opens_other t n h = simp (ne_eqb (tag_of u tag) (tag_of v t) h)

tag_and_long : (code : ℕ) → ((tag_for code ≡ 2) × (item_long code ≡ 8)) ⊎ ((tag_for code ≡ 3) × (item_long code ≡ 0))
unfolding tag_for item_long
tag_and_long code = go (ltb code 2)
  where
    go : (b : Bool) → (◌≡◌ {A = ℕ} (cond b 2 3) 2 × ◌≡◌ {A = ℕ} (cond b 8 0) 8) ⊎ (◌≡◌ {A = ℕ} (cond b 2 3) 3 × ◌≡◌ {A = ℕ} (cond b 8 0) 0)
    go true = inl (refl, refl)
    go false = inr (refl, refl)

size_of_lem : (first : ℕ) → size_of first ≡ 4 + item_long (first % 16)
unfolding size_of
size_of_lem first = refl

-- ---- written, then read
pub end_found : (v : Variant) (rest : List ℕ) → field_in v (end_of v ++ rest) ≡ field.End
unfolding field_in
end_found v rest =
    let s : List ℕ = end_of v ++ rest in
    let s_is : s ≡ opening_of v 4 0 ++ rest = ap (λ (l : List ℕ). l ++ rest) (sym (ended v)) in
    let long : ltb (length s) 3 ≡ false = le-ltb (length s) 3 (omega (arith, length-append (end_of v) rest, length_end v)) in
    let other : (t n : ℕ) → (4 ≡ t → ⊥) → opens v t n s ≡ false = λ t n h. ap (opens v t n) s_is ∙ opens_other v v 4 0 rest t n (λ e. h (tag_one v 4 t e)) in
    simp (long, other 2 9 (λ e. omega arith), other 3 1 (λ e. omega arith), ap (opens v 4 0) s_is ∙ opens_same v v 4 0 rest (omega arith))

entry_is : (v : Variant) (first item : ℕ) (rest : List ℕ) → entry_field_of v first item ++ rest ≡ opening_of v (tag_for (first % 16)) (1 + item_long (first % 16)) ++
    (swapped first ∷ (bytes_of v (item_long (first % 16)) item ++ rest))
unfolding entry_field_of body_of
entry_is v first item rest =
    let body : List ℕ = swapped first ∷ bytes_of v (item_long (first % 16)) item in
    let long : length body ≡ 1 + item_long (first % 16) = omega (arith, length_bytes v (item_long (first % 16)) item) in
    ap (λ (l : List ℕ). l ++ rest) (field_long v (tag_for (first % 16)) (1 + item_long (first % 16)) body long)
    ∙ append_assoc (opening_of v (tag_for (first % 16)) (1 + item_long (first % 16))) body rest

module _ (v : Variant) (first item : ℕ) (rest : List ℕ) (k : Carried first item) (word : item < 2 ^ 64) where
  item_fits : item < 256 ^ item_long (first % 16)
  unfolding item_long
  item_fits = go (ltb (first % 16) 2) refl
    where
      go : (b : Bool) → ltb (first % 16) 2 ≡ b → item < 256 ^ cond b 8 0
      go true e = word
      go false e = omega (arith, k.plain (omega (arith, ltb-false (first % 16) 2 e)))

  entry_byte : get_or (entry_field_of v first item ++ rest) 3 0 ≡ swapped first
  entry_byte = ap (λ (l : List ℕ). get_or l 3 0) (entry_is v first item rest)
      ∙ get_or_at (opening_of v (tag_for (first % 16)) (1 + item_long (first % 16))) (swapped first) (bytes_of v (item_long (first % 16)) item ++ rest) 0 3
      (length_opening v (tag_for (first % 16)) (1 + item_long (first % 16)))

  entry_item : drop 4 (entry_field_of v first item ++ rest) ≡ bytes_of v (item_long (first % 16)) item ++ rest
  entry_item =
      let op : List ℕ = opening_of v (tag_for (first % 16)) (1 + item_long (first % 16)) in
      let four : length (op ++ (swapped first ∷ [])) ≡ 4 = omega (arith, length-append op (swapped first ∷ []), length_opening v (tag_for (first % 16)) (1 + item_long (first % 16))) in
      ap (drop 4) (entry_is v first item rest ∙ sym (append_assoc op (swapped first ∷ []) (bytes_of v (item_long (first % 16)) item ++ rest)))
      ∙ drop_at (op ++ (swapped first ∷ [])) (bytes_of v (item_long (first % 16)) item ++ rest) 4 four

  code_is : swapped first / 16 ≡ first % 16
  unfolding swapped
  code_is = omega (arith, k.byte)

  back_is : swapped (swapped first) ≡ first
  unfolding swapped
  back_is = omega (arith, k.byte)

  -- under the tag and the length that it was written with
  entry_under : (tag long : ℕ) → tag ≡ tag_for (first % 16) → long ≡ 1 + item_long (first % 16) → entry_by v tag long (entry_field_of v first item ++ rest) ≡ field.Entry first item
  unfolding entry_by allowed
  entry_under tag long t l =
      let s : List ℕ = entry_field_of v first item ++ rest in
      let whole : ltb (length s) (3 + long) ≡ false = le-ltb (length s) (3 + long) (omega (arith, length-append (entry_field_of v first item) rest, length_entry v first item, size_is)) in
      let code : get_or s 3 0 / 16 ≡ first % 16 = ap (λ (b : ℕ). b / 16) entry_byte ∙ code_is in
      let low : ltb (get_or s 3 0 / 16) 10 ≡ true = lt-ltb (get_or s 3 0 / 16) 10 (omega (arith, code, k.code)) in
      let tag_is : eqb tag (tag_for (get_or s 3 0 / 16)) ≡ true = eq-eqb tag (tag_for (get_or s 3 0 / 16)) (t ∙ ap tag_for (sym code)) in
      let less : long - 1 ≡ item_long (first % 16) = omega arith in
      let number : number_of v (take (long - 1) (drop 4 s)) ≡ item =
      ap₂ (λ (n : ℕ) (l : List ℕ). number_of v (take n l)) less entry_item
      ∙ ap (number_of v) (take_at (bytes_of v (item_long (first % 16)) item) rest (item_long (first % 16)) (length_bytes v (item_long (first % 16)) item))
      ∙ number_bytes v (item_long (first % 16)) item item_fits in
      simp (whole, low, tag_is) (ap₂ field.Entry (ap swapped entry_byte ∙ back_is) number)
    where
      size_is : size_of first ≡ 4 + item_long (first % 16)
      size_is = size_of_lem first

  pub entry_found : field_in v (entry_field_of v first item ++ rest) ≡ field.Entry first item
  unfolding field_in
  entry_found =
      let s : List ℕ = entry_field_of v first item ++ rest in
      let tail : List ℕ = swapped first ∷ (bytes_of v (item_long (first % 16)) item ++ rest) in
      let whole : ltb (length s) 3 ≡ false = le-ltb (length s) 3 (omega (arith, length-append (entry_field_of v first item) rest, length_entry v first item, size_of_lem first)) in
      let same : (tag long : ℕ) → tag ≡ tag_for (first % 16) → long ≡ 1 + item_long (first % 16) → long < 65536 → opens v tag long s ≡ true =
      λ tag long t l h. ap₂ (λ (i j : ℕ). opens v i j s) t l ∙ ap (opens v (tag_for (first % 16)) (1 + item_long (first % 16))) (entry_is v first item rest)
      ∙ opens_same v v (tag_for (first % 16)) (1 + item_long (first % 16)) tail (omega arith) in
      ⊎_elim
      (λ w. simp (whole, same 2 9 (sym w.0) (omega (arith, w.1)) (omega arith)) (entry_under 2 9 (sym w.0) (omega (arith, w.1))))
      (λ w.
      let other : opens v 2 9 s ≡ false =
      ap (opens v 2 9) (entry_is v first item rest)
      ∙ opens_other v v (tag_for (first % 16)) (1 + item_long (first % 16)) tail 2 9 (λ e. omega (arith, tag_one v (tag_for (first % 16)) 2 e, w.0)) in
      simp (whole, other, same 3 1 (sym w.0) (omega (arith, w.1)) (omega arith)) (entry_under 3 1 (sym w.0) (omega (arith, w.1))))
      (tag_and_long (first % 16))

head_is : (v : Variant) (capacity workers : ℕ) (rest : List ℕ) → head_of v capacity workers ++ rest ≡ opening_of v 1 4 ++ (bytes_of v 2 capacity ++ (bytes_of v 2 workers ++ rest))
unfolding head_of
head_is v capacity workers rest =
    let body : List ℕ = bytes_of v 2 capacity ++ bytes_of v 2 workers in
    let long : length body ≡ 4 = omega (arith, length-append (bytes_of v 2 capacity) (bytes_of v 2 workers), length_bytes v 2 capacity, length_bytes v 2 workers) in
    ap (λ (l : List ℕ). l ++ rest) (field_long v 1 4 body long)
    ∙ append_assoc (opening_of v 1 4) body rest
    ∙ ap (λ (l : List ℕ). opening_of v 1 4 ++ l) (append_assoc (bytes_of v 2 capacity) (bytes_of v 2 workers) rest)

module _ (v : Variant) (capacity workers : ℕ) (rest : List ℕ) (narrow : capacity < 65536) (few : workers < 65536) where
  capacity_at : drop 3 (head_of v capacity workers ++ rest) ≡ bytes_of v 2 capacity ++ (bytes_of v 2 workers ++ rest)
  capacity_at = ap (drop 3) (head_is v capacity workers rest) ∙ drop_at (opening_of v 1 4) (bytes_of v 2 capacity ++ (bytes_of v 2 workers ++ rest)) 3 (length_opening v 1 4)

  workers_at : drop 5 (head_of v capacity workers ++ rest) ≡ bytes_of v 2 workers ++ rest
  workers_at =
      sym (drop-drop 2 3 (head_of v capacity workers ++ rest)) ∙ ap (drop 2) capacity_at
      ∙ drop_at (bytes_of v 2 capacity) (bytes_of v 2 workers ++ rest) 2 (length_bytes v 2 capacity)

  head_under : head_by v (head_of v capacity workers ++ rest) ≡ head.Makes v capacity workers
  unfolding head_by
  head_under =
      let s : List ℕ = head_of v capacity workers ++ rest in
      let whole : ltb (length s) 7 ≡ false = le-ltb (length s) 7 (omega (arith, length-append (head_of v capacity workers) rest, length_head v capacity workers)) in
      let c : number_of v (take 2 (drop 3 s)) ≡ capacity =
      ap (λ (l : List ℕ). number_of v (take 2 l)) capacity_at
      ∙ ap (number_of v) (take_at (bytes_of v 2 capacity) (bytes_of v 2 workers ++ rest) 2 (length_bytes v 2 capacity)) ∙ number_bytes v 2 capacity narrow in
      let w : number_of v (take 2 (drop 5 s)) ≡ workers =
      ap (λ (l : List ℕ). number_of v (take 2 l)) workers_at
      ∙ ap (number_of v) (take_at (bytes_of v 2 workers) rest 2 (length_bytes v 2 workers)) ∙ number_bytes v 2 workers few in
      simp whole (ap₂ (head.Makes v) c w)

  head_opens : opens v 1 4 (head_of v capacity workers ++ rest) ≡ true
  head_opens = ap (opens v 1 4) (head_is v capacity workers rest) ∙ opens_same v v 1 4 (bytes_of v 2 capacity ++ (bytes_of v 2 workers ++ rest)) (omega arith)

  head_long : ltb (length (head_of v capacity workers ++ rest)) 3 ≡ false
  head_long = le-ltb (length (head_of v capacity workers ++ rest)) 3 (omega (arith, length-append (head_of v capacity workers) rest, length_head v capacity workers))

pub head_found : (v : Variant) (capacity workers : ℕ) (rest : List ℕ) → capacity < 65536 → workers < 65536 → head_in (head_of v capacity workers ++ rest) ≡ head.Makes v capacity workers
unfolding head_in
head_found BigEndian capacity workers rest narrow few =
    simp (head_long BigEndian capacity workers rest narrow few, head_opens BigEndian capacity workers rest narrow few) (head_under BigEndian capacity workers rest narrow few)
head_found LittleEndian capacity workers rest narrow few =
    let other : opens BigEndian 1 4 (head_of LittleEndian capacity workers ++ rest) ≡ false =
    ap (opens BigEndian 1 4) (head_is LittleEndian capacity workers rest)
    ∙ opens_other BigEndian LittleEndian 1 4 (bytes_of LittleEndian 2 capacity ++ (bytes_of LittleEndian 2 workers ++ rest)) 1 4 (λ e. omega arith) in
    simp (head_long LittleEndian capacity workers rest narrow few, other, head_opens LittleEndian capacity workers rest narrow few) (head_under LittleEndian capacity workers rest narrow few)

-- ---- read, then written
pub opening_back : (v : Variant) (tag long : ℕ) (s : List ℕ) → 3 ≤ length s → Below 256 s → opens v tag long s ≡ true → s ≡ opening_of v tag long ++ drop 3 s
unfolding opens opening_of
opening_back v tag long [] h p o = absurd (omega arith)
opening_back v tag long (x ∷ []) h p o = absurd (omega arith)
opening_back v tag long (x ∷ y ∷ []) h p o = absurd (omega arith)
opening_back v tag long (x ∷ y ∷ z ∷ s) h p o =
    let tag_is : x ≡ tag_of v tag = eqb-true x (tag_of v tag) (both_left (eqb x (tag_of v tag)) (eqb (number_of v (y ∷ z ∷ [])) long) o) in
    let long-is : number_of v (y ∷ z ∷ []) ≡ long = eqb-true _ long (both_right (eqb x (tag_of v tag)) (eqb (number_of v (y ∷ z ∷ [])) long) o) in
    let bytes : y ∷ z ∷ [] ≡ bytes_of v 2 long = sym (ap (bytes_of v 2) (sym long-is) ∙ bytes_number v (y ∷ z ∷ []) 2 refl (p.1.0, (p.1.1.0, tt))) in
    ap₂ (λ (t : ℕ) (l : List ℕ). t ∷ (l ++ s)) tag_is bytes

pub end_back : (v : Variant) (s : List ℕ) → Below 256 s → field_in v s ≡ field.End → s ≡ end_of v ++ drop 3 s
end_back v s p h = let r = end_read v s h in opening_back v 4 0 s r.0 p r.1 ∙ ap (λ (l : List ℕ). l ++ drop 3 s) (ended v)

no_number : (v : Variant) → number_of v [] ≡ 0
unfolding number_of value_of in_order
no_number BigEndian = refl
no_number LittleEndian = refl

long_none : (code : ℕ) → 1 < code → item_long code ≡ 0
unfolding item_long
long_none code h = simp (le-ltb code 2 (omega arith))

-- a part of a list and what is after it
around : (s : List ℕ) (k n : ℕ) → drop k s ≡ take n (drop k s) ++ drop (k + n) s
around s k n = sym (take-append-drop n (drop k s)) ∙ ap (λ (l : List ℕ). take n (drop k s) ++ l) (drop-drop n k s)

part_back : (v : Variant) (s : List ℕ) (k n : ℕ) → k + n ≤ length s → Below 256 s → bytes_of v n (number_of v (take n (drop k s))) ≡ take n (drop k s)
part_back v s k n h p = bytes_number v (take n (drop k s)) n (length-take-le n (drop k s) (omega (arith, length-drop k s))) (below_take 256 n (drop k s) (below_drop 256 k s p))

part_below : (v : Variant) (s : List ℕ) (k n : ℕ) → k + n ≤ length s → Below 256 s → number_of v (take n (drop k s)) < 256 ^ n
part_below v s k n h p = number_below v (take n (drop k s)) n (length-take-le n (drop k s) (omega (arith, length-drop k s))) (below_take 256 n (drop k s) (below_drop 256 k s p))

below_at : (bound : ℕ) (s : List ℕ) (i : ℕ) → i < length s → Below bound s → get_or s i 0 < bound
below_at bound [] i h p = absurd (omega arith)
below_at bound (x ∷ s) zero h p = p.0
below_at bound (x ∷ s) (suc i) h p = below_at bound s i (omega arith) p.1

module _ (s : List ℕ) (v : Variant) (capacity workers : ℕ) (p : Below 256 s) (h : HeadRead v s capacity workers) where
  pub head_back : s ≡ head_of v capacity workers ++ drop 7 s
  head_back =
      opening_back v 1 4 s (omega (arith, h.whole)) p h.opened
      ∙ ap (λ (l : List ℕ). opening_of v 1 4 ++ l)
      (around s 3 2 ∙ ap₂ (λ (l m : List ℕ). l ++ m) (sym (part_back v s 3 2 (omega (arith, h.whole)) p) ∙ ap (bytes_of v 2) (sym h.capacity_is))
      (around s 5 2 ∙ ap (λ (l : List ℕ). l ++ drop 7 s) (sym (part_back v s 5 2 (omega (arith, h.whole)) p) ∙ ap (bytes_of v 2) (sym h.workers_is))))
      ∙ sym (head_is v capacity workers (drop 7 s))

  pub head_narrow : (capacity < 65536) × (workers < 65536)
  head_narrow = (omega (arith, h.capacity_is, part_below v s 3 2 (omega (arith, h.whole)) p), omega (arith, h.workers_is, part_below v s 5 2 (omega (arith, h.whole)) p))

module _ (s : List ℕ) (v : Variant) (first item : ℕ) (p : Below 256 s) (h : field_in v s ≡ field.Entry first item) where
  r : EntryRead v s first item (get_or s 3 0 / 16)
  r = entry_read v s first item h

  byte_below : get_or s 3 0 < 256
  byte_below = below_at 256 s 3 (omega (arith, r.whole)) p

  byte_back : get_or s 3 0 ≡ swapped first
  unfolding swapped
  byte_back = omega (arith, r.first_is, byte_below)

  code_back : get_or s 3 0 / 16 ≡ first % 16
  code_back = sym (entry_code v s first item r)

  item_back : take (item_long (first % 16)) (drop 4 s) ≡ bytes_of v (item_long (first % 16)) item
  item_back =
      sym (part_back v s 4 (item_long (first % 16)) (omega (arith, r.whole, ap item_long code_back)) p)
      ∙ ap (bytes_of v (item_long (first % 16))) (sym (r.item_is ∙ ap (λ (k : ℕ). number_of v (take (item_long k) (drop 4 s))) code_back))

  pub entry_back : s ≡ entry_field_of v first item ++ drop (size_of first) s
  entry_back =
      let three : 3 ≤ length s = omega (arith, r.whole) in
      opening_back v (tag_for (get_or s 3 0 / 16)) (1 + item_long (get_or s 3 0 / 16)) s three p r.opened
      ∙ ap (λ (k : ℕ). opening_of v (tag_for k) (1 + item_long k) ++ drop 3 s) code_back
      ∙ ap (λ (l : List ℕ). opening_of v (tag_for (first % 16)) (1 + item_long (first % 16)) ++ l)
      (drop-cons s 3 0 (omega (arith, r.whole))
      ∙ ap₂ (λ (b : ℕ) (l : List ℕ). b ∷ l) byte_back
      (around s 4 (item_long (first % 16)) ∙ ap₂ (λ (l m : List ℕ). l ++ m) item_back (ap (λ (k : ℕ). drop k s) (sym (size_of_lem first)))))
      ∙ sym (entry_is v first item (drop (size_of first) s))

  pub entry_word : item < 2 ^ 64
  entry_word =
      let low : number_of v (take (item_long (get_or s 3 0 / 16)) (drop 4 s)) < 256 ^ item_long (get_or s 3 0 / 16) = part_below v s 4 (item_long (get_or s 3 0 / 16)) (omega (arith, r.whole)) p in
      ⊎_elim
      (λ w. omega (arith, low, r.item_is, ap (λ (k : ℕ). 256 ^ k) w.1))
      (λ w. omega (arith, low, r.item_is, ap (λ (k : ℕ). 256 ^ k) w.1))
      (tag_and_long (get_or s 3 0 / 16))

  pub entry_carried : Carried first item
  entry_carried = record {
    byte = omega (arith, r.first_is, swapped_fits (get_or s 3 0) byte_below);
    code = omega (arith, r.low, code_back);
    plain = λ k. r.item_is ∙ ap (λ (n : ℕ). number_of v (take n (drop 4 s))) (no_item k) ∙ no_number v;
  }
    where
      no_item : 1 < first % 16 → item_long (get_or s 3 0 / 16) ≡ 0
      no_item k = ap item_long code_back ∙ long_none (first % 16) k

pub carried_back : (first item : ℕ) → Carried first item → carried first item ≡ true
unfolding carried carried_by entry_of order_of stray_of
carried_back first item c = go (ltb 1 (first % 16)) refl (ltb (first % 16) 8)
  where
    worker : ltb (first / 16) 16 ≡ true
    worker = lt-ltb (first / 16) 16 (omega (arith, c.byte))

    code : ltb (first % 16) 10 ≡ true
    code = lt-ltb (first % 16) 10 c.code

    none : ltb 1 (first % 16) ≡ true → eqb item 0 ≡ true
    none e = eq-eqb item 0 (c.plain (ltb-true 1 (first % 16) e))

    go : (b : Bool) → ltb 1 (first % 16) ≡ b → (d : Bool)
        → carried_by (cond (cond b (not (eqb item 0)) false) Unreadable
        (cond d (Asks (first / 16) (Begin (call_of (first % 16) item)))
        (cond (ltb (first % 16) 10) (Asks (first / 16) (Act (eqb (first % 16) 9))) Unreadable))) ≡ true
    go true e true = simp (none e, worker)
    go true e false = simp (none e, code, worker)
    go false e true = worker
    go false e false = simp (code, worker)
