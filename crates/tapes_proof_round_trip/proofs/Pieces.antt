-- A tape in two pieces.
use Prim.Native.Nat.{ℕ, zero, suc, ◌+◌, ◌%◌, ◌-◌, ◌^◌, ◌≤◌}
use mathlib.Core.Path.{◌≡◌, refl, sym, ap, ap₂, ◌∙◌}
use mathlib.Core.Bool.{Bool, true, false, cond}
use mathlib.Core.List.{List, [], ◌∷◌, ◌++◌, append_assoc}
use native.Mathlib.Omega.{arith}
use lib.Dec.{ltb, eqb}
use lib.ListN.{length, take, drop, length-append, length-drop}
use lib.Seq.{take_at, drop_at}
use borrow.Author.Tests.{le-ltb}
use Rattle.tapes_numbers.specs.declared.Variant.{Variant}
use Rattle.tapes_numbers.specs.declared.Variant.TheVariants.{BigEndian, LittleEndian}
use Rattle.tapes_numbers.specs.Numbers.{in_order, digits_of, bytes_of}
use Rattle.tapes_fields.specs.declared.Head.TheVariants as head
use Rattle.tapes_fields.specs.declared.Field.{Field}
use Rattle.tapes_fields.specs.declared.Field.TheVariants as field
use Rattle.tapes_fields.specs.Fields.{opening_of, field_of, head_of, entry_field_of, end_of, size_of}
use Rattle.tapes_fields.specs.Judged.{head_in, field_in}
use Rattle.tapes_fields.proofs.Writing.{length_head, length_entry}
use Rattle.tapes_fields.proofs.Reading.{carried_means}
use Rattle.tapes.specs.declared.Load.TheVariants.{Bytes}
use Rattle.tapes.specs.declared.Reading.TheVariants as reading
use Rattle.tapes.specs.Written.{entries_of, tape_of, load_from}
use Rattle.tapes.specs.Heard.{Heard, stopped, heard, joined, long_of, heard_by, hear_from, hear_in, count_in, read_by, read_after, read_of, read_into}
use Rattle.tapes_demands.specs.Notions.{Below}
use Rattle.tapes_demands.specs.Demands.{WrittenByPieces, ReadByPieces, ReadingByPieces}
use Rattle.tapes_proof_round_trip.proofs.Fields.{entry_found, head_found}
use Rattle.tapes_proof_round_trip.proofs.Tapes.{load_first}
use Rattle.tapes_proof_round_trip.proofs.Back.{Accepted, Got, read_means, words_taken, words_low, tape_is, tape_accepted}

-- ---- written
pub entries_join : (v : Variant) (words more : List ℕ) → length words % 2 ≡ 0 → entries_of v (words ++ more) ≡ entries_of v words ++ entries_of v more
unfolding entries_of
entries_join v [] more h = refl
entries_join v (x ∷ []) more h = absurd (omega arith)
entries_join v (first ∷ item ∷ words) more h =
    ap (λ (l : List ℕ). entry_field_of v first item ++ l) (entries_join v words more (omega arith))
    ∙ sym (append_assoc (entry_field_of v first item) (entries_of v words) (entries_of v more))

pub written_by_pieces : WrittenByPieces
unfolding tape_of
written_by_pieces v capacity workers words more h =
    ap (λ (l : List ℕ). head_of v capacity workers ++ l ++ end_of v) (entries_join v words more h)
    ∙ ap (λ (l : List ℕ). l ++ end_of v) (sym (append_assoc (head_of v capacity workers) (entries_of v words) (entries_of v more)))

-- ---- what is heard of the second piece alone, with the words of the first before it and so many bytes further on
abbrev after : List ℕ → ℕ → Heard → Heard
after words k (stopped number at) = stopped number (at + k)
after words k (heard more) = heard (words ++ more)

joined_after : (first item : ℕ) (words : List ℕ) (k : ℕ) (h : Heard) → joined first item (after words k h) ≡ after (first ∷ item ∷ words) k h
unfolding joined
joined_after first item words k (stopped number at) = refl
joined_after first item words k (heard more) = refl

after_joined : (first item k : ℕ) (h : Heard) → joined first item (after [] k h) ≡ after [] k (joined first item h)
unfolding joined
after_joined first item k (stopped number at) = refl
after_joined first item k (heard more) = refl

four : (first : ℕ) → 4 ≤ size_of first
unfolding size_of
four first = omega arith

-- ---- heard with as many fields allowed as there are bytes, or more, from another byte on
no_bytes : (v : Variant) → field_in v [] ≡ field.Fault 12
unfolding field_in
no_bytes v = refl

hear_none : (more : ℕ) (v : Variant) (at : ℕ) → hear_from more v at [] ≡ stopped 12 at
unfolding hear_from heard_by
hear_none zero v at = refl
hear_none (suc more) v at = ap (λ (f : Field). heard_by at [] f (hear_from more v (at + long_of f) (drop (long_of f) []))) (no_bytes v)

end_shift : (at k : ℕ) (b : Bool) → cond b (heard []) (stopped 15 (at + k + 3)) ≡ after [] k (cond b (heard []) (stopped 15 (at + 3)))
end_shift at k true = refl
end_shift at k false = let e : at + k + 3 ≡ at + 3 + k = omega arith in ap (stopped 15) e

hear_shift : (more m : ℕ) (v : Variant) (at k : ℕ) (s : List ℕ) → length s ≤ more → length s ≤ m → hear_from more v (at + k) s ≡ after [] k (hear_from m v at s)
unfolding hear_from heard_by long_of
hear_shift zero m v at k [] h l = sym (ap (after [] k) (hear_none m v at))
hear_shift zero m v at k (x ∷ s) h l = absurd (omega arith)
hear_shift (suc more) zero v at k [] h l = hear_none (suc more) v (at + k)
hear_shift (suc more) zero v at k (x ∷ s) h l = absurd (omega arith)
hear_shift (suc more) (suc m) v at k s h l = go (field_in v s) (λ j a b. hear_shift more m v (at + j) k (drop j s) a b)
  where
    go : (f : Field)
        → ((j : ℕ) → length (drop j s) ≤ more → length (drop j s) ≤ m → hear_from more v (at + j + k) (drop j s) ≡ after [] k (hear_from m v (at + j) (drop j s)))
        → heard_by (at + k) s f (hear_from more v (at + k + long_of f) (drop (long_of f) s)) ≡ after [] k (heard_by at s f (hear_from m v (at + long_of f) (drop (long_of f) s)))
    go (field.Fault number) ih = refl
    go field.End ih = end_shift at k (eqb (length s) 3)
    go (field.Entry first item) ih =
        let place : at + k + size_of first ≡ at + size_of first + k = omega arith in
        ap (λ (a : ℕ). joined first item (hear_from more v a (drop (size_of first) s))) place
        ∙ ap (joined first item) (ih (size_of first) (omega (arith, length-drop (size_of first) s, four first)) (omega (arith, length-drop (size_of first) s, four first)))
        ∙ after_joined first item k (hear_from m v (at + size_of first) (drop (size_of first) s))

-- ---- heard past the entries of the first piece
hear_past : (v : Variant) (rest words : List ℕ) (more m at start k place long n : ℕ) → Below (2 ^ 64) words → (length words % 2 ≡ 1 → ⊥) → load_from place long words ≡ Bytes n
    → length (entries_of v words ++ rest) ≤ more → length rest ≤ m → at + length (entries_of v words) ≡ start + k
    → hear_from more v at (entries_of v words ++ rest) ≡ after words k (hear_from m v start rest)
unfolding hear_from heard_by long_of entries_of
hear_past v rest [] more m at start k place long n p even load h l e =
    let same : at ≡ start + k = omega arith in
    ap (λ (a : ℕ). hear_from more v a rest) same ∙ hear_shift more m v start k rest h l
hear_past v rest (x ∷ []) more m at start k place long n p even load h l e = absurd (even refl)
hear_past v rest (first ∷ item ∷ words) zero m at start k place long n p even load h l e =
    absurd (omega (arith, length-append (entry_field_of v first item ++ entries_of v words) rest, length-append (entry_field_of v first item) (entries_of v words), length_entry v first item, four first))
hear_past v rest (first ∷ item ∷ words) (suc more) m at start k place long n p even load h l e =
    let c = load_first place long n first item words load in
    let left : List ℕ = entries_of v words ++ rest in
    let s_is : (entry_field_of v first item ++ entries_of v words) ++ rest ≡ entry_field_of v first item ++ left = append_assoc (entry_field_of v first item) (entries_of v words) rest in
    let is : field_in v (entry_field_of v first item ++ left) ≡ field.Entry first item = entry_found v first item left (carried_means first item c.0) p.1.0 in
    let past : drop (size_of first) (entry_field_of v first item ++ left) ≡ left = drop_at (entry_field_of v first item) left (size_of first) (length_entry v first item) in
    let even-rest : length words % 2 ≡ 1 → ⊥ = λ o. even (omega arith) in
    let short : length left ≤ more =
    omega (arith, ap length s_is, length-append (entry_field_of v first item) left, length_entry v first item, four first) in
    let sum : at + size_of first + length (entries_of v words) ≡ start + k = omega (arith, length-append (entry_field_of v first item) (entries_of v words), length_entry v first item) in
    ap (hear_from (suc more) v at) s_is
    ∙ ap (λ (f : Field). heard_by at (entry_field_of v first item ++ left) f (hear_from more v (at + long_of f) (drop (long_of f) (entry_field_of v first item ++ left)))) is
    ∙ ap (λ (r : List ℕ). joined first item (hear_from more v (at + size_of first) r)) past
    ∙ ap (joined first item) (hear_past v rest words more m (at + size_of first) start k (place + 1) (long + size_of first) n p.1.1 even-rest c.1 short l sum)
    ∙ joined_after first item words k (hear_from m v start rest)

-- ---- read
end_below : (v : Variant) → Below 256 (end_of v)
unfolding end_of field_of opening_of bytes_of in_order digits_of
end_below BigEndian = (omega arith, (omega arith, (omega arith, tt)))
end_below LittleEndian = (omega arith, (omega arith, (omega arith, tt)))

below_append : (bound : ℕ) (xs ys : List ℕ) → Below bound xs → Below bound ys → Below bound (xs ++ ys)
below_append bound [] ys p q = q
below_append bound (x ∷ xs) ys p q = (p.0, below_append bound xs ys p.1 q)

module _ (s rest : List ℕ) (v : Variant) (capacity workers : ℕ) (lent : List ℕ) (n : ℕ) (p : Below 256 s)
    (h : read_of (s ++ end_of v) (length lent) ≡ reading.Schedule v capacity workers n) (words : List ℕ) (g : Got (s ++ end_of v) (length lent) v capacity workers n words) where
  whole_below : Below 256 (s ++ end_of v)
  whole_below = below_append 256 s (end_of v) p (end_below v)

  fits : Accepted capacity workers words (length (s ++ end_of v)) (length (s ++ end_of v))
  fits = tape_accepted (s ++ end_of v) (length lent) v capacity workers n words whole_below g (length (s ++ end_of v)) (omega arith)

  s_is : s ≡ head_of v capacity workers ++ entries_of v words
  unfolding tape_of
  s_is =
      let first : List ℕ = head_of v capacity workers ++ entries_of v words in
      let is : s ++ end_of v ≡ first ++ end_of v = tape_is (s ++ end_of v) (length lent) v capacity workers n words whole_below g in
      let long : length first ≡ length s = omega (arith, ap length is, length-append s (end_of v), length-append first (end_of v)) in
      sym (take_at s (end_of v) (length s) refl) ∙ ap (take (length s)) is ∙ take_at first (end_of v) (length s) long

  pub s_long : length s ≡ 7 + length (entries_of v words)
  s_long = ap length s_is ∙ length-append (head_of v capacity workers) (entries_of v words) ∙ ap (λ (k : ℕ). k + length (entries_of v words)) (length_head v capacity workers)

  whole_is : s ++ rest ≡ head_of v capacity workers ++ (entries_of v words ++ rest)
  whole_is = ap (λ (l : List ℕ). l ++ rest) s_is ∙ append_assoc (head_of v capacity workers) (entries_of v words) rest

  makes : (r : List ℕ) → head_in (head_of v capacity workers ++ r) ≡ head.Makes v capacity workers
  makes r = head_found v capacity workers r fits.narrow fits.few

  pub past_head : (r : List ℕ) → drop 7 (head_of v capacity workers ++ r) ≡ r
  past_head r = drop_at (head_of v capacity workers) r 7 (length_head v capacity workers)

  heard_whole : hear_in v (s ++ rest) ≡ after words (length s - 7) (hear_in v (head_of v capacity workers ++ rest))
  unfolding hear_in
  heard_whole =
      let all : List ℕ = head_of v capacity workers ++ (entries_of v words ++ rest) in
      let tail : List ℕ = head_of v capacity workers ++ rest in
      let sum : 7 + length (entries_of v words) ≡ 7 + (length s - 7) = omega (arith, s_long) in
      ap (λ (l : List ℕ). hear_from (length l) v 7 (drop 7 l)) whole_is
      ∙ ap (hear_from (length all) v 7) (past_head (entries_of v words ++ rest))
      ∙ hear_past v rest words (length all) (length tail) 7 7 (length s - 7) 0 10 (length (s ++ end_of v)) (words_low (s ++ end_of v) (length lent) v capacity workers n words whole_below g)
      fits.even fits.load (omega (arith, length-append (head_of v capacity workers) (entries_of v words ++ rest))) (omega (arith, length-append (head_of v capacity workers) rest)) sum
      ∙ ap (λ (l : List ℕ). after words (length s - 7) (hear_from (length tail) v 7 l)) (sym (past_head rest))

  whole_read : (room : ℕ) → read_of (s ++ rest) room ≡ read_by room v capacity workers (count_in (after words (length s - 7) (hear_in v (head_of v capacity workers ++ rest))))
  unfolding read_of read_after
  whole_read room =
      ap (read_after (s ++ rest) room) (ap head_in whole_is ∙ makes (entries_of v words ++ rest)) ∙ ap (λ (x : Heard). read_by room v capacity workers (count_in x)) heard_whole

  pub rest_read : (room : ℕ) → read_of (head_of v capacity workers ++ rest) room ≡ read_by room v capacity workers (count_in (hear_in v (head_of v capacity workers ++ rest)))
  unfolding read_of read_after
  rest_read room = ap (read_after (head_of v capacity workers ++ rest) room) (makes rest)

  refused_alike : (room number byte k : ℕ) → (number ≡ 16 → ⊥) → (x : Heard) → read_by room v capacity workers (count_in x) ≡ reading.Refused number byte
      → read_by room v capacity workers (count_in (after words k x)) ≡ reading.Refused number (byte + k)
  unfolding read_by count_in
  refused_alike room number byte k ne (stopped fault at) e =
      let a : fault ≡ number = cc in
      let b : at ≡ byte = cc in
      ap₂ (λ (i j : ℕ). reading.Refused i (j + k)) a b
  refused_alike room number byte k ne (heard ws) e = go (ltb room (length ws)) e
    where
      go : (b : Bool) → cond b (reading.Refused 16 (length ws)) (reading.Schedule v capacity workers (length ws)) ≡ reading.Refused number byte
          → cond (ltb room (length (words ++ ws))) (reading.Refused 16 (length (words ++ ws))) (reading.Schedule v capacity workers (length (words ++ ws))) ≡ reading.Refused number (byte + k)
      go true q = let z : number ≡ 16 = cc in absurd (ne z)
      go false q = let z : ◌≡◌ {A = ℕ} 0 1 = cc in absurd (omega arith)

  module _ (buffer : List ℕ) (m : ℕ) (q : read_of (head_of v capacity workers ++ rest) (length buffer) ≡ reading.Schedule v capacity workers m) (whole : List ℕ) (room : n + m ≤ length whole)
      (ws : List ℕ) (b : Got (head_of v capacity workers ++ rest) (length buffer) v capacity workers m ws) where
    all_heard : hear_in v (s ++ rest) ≡ heard (words ++ ws)
    all_heard = heard_whole ∙ ap (after words (length s - 7)) b.hears

    long : length (words ++ ws) ≡ n + m
    long = omega (arith, length-append words ws, g.count, b.count)

    answer : read_of (s ++ rest) (length whole) ≡ reading.Schedule v capacity workers (n + m)
    unfolding read_by count_in
    answer =
        whole_read (length whole) ∙ ap (λ (x : Heard). read_by (length whole) v capacity workers (count_in (after words (length s - 7) x))) b.hears
        ∙ simp (le-ltb (length whole) (length (words ++ ws)) (omega (arith, long))) (ap (reading.Schedule v capacity workers) long)

    got : Got (s ++ rest) (length whole) v capacity workers (n + m) (words ++ ws)
    got = record { makes = ap head_in whole_is ∙ makes (entries_of v words ++ rest); hears = all_heard; count = sym long }

    same_words : take (n + m) (read_into (s ++ rest) whole) ≡ take n (read_into (s ++ end_of v) lent) ++ take m (read_into (head_of v capacity workers ++ rest) buffer)
    same_words =
        words_taken (s ++ rest) whole v capacity workers (n + m) (words ++ ws) answer got
        ∙ sym
        (ap₂ (λ (i j : List ℕ). i ++ j) (words_taken (s ++ end_of v) lent v capacity workers n words h g)
        (words_taken (head_of v capacity workers ++ rest) buffer v capacity workers m ws q b))

  read_alike : (buffer : List ℕ) (m : ℕ) → read_of (head_of v capacity workers ++ rest) (length buffer) ≡ reading.Schedule v capacity workers m → (whole : List ℕ) → n + m ≤ length whole
      → (read_of (s ++ rest) (length whole) ≡ reading.Schedule v capacity workers (n + m))
      × (take (n + m) (read_into (s ++ rest) whole) ≡ take n (read_into (s ++ end_of v) lent) ++ take m (read_into (head_of v capacity workers ++ rest) buffer))
  read_alike buffer m q whole room =
      let w = read_means (head_of v capacity workers ++ rest) (length buffer) v capacity workers m q in
      (answer buffer m q whole room w.0 w.1, same_words buffer m q whole room w.0 w.1)

  by_pieces : ReadByPieces s rest v capacity workers lent n
  by_pieces = record {
    refused = λ room number byte ne q. whole_read room ∙ refused_alike room number byte (length s - 7) ne (hear_in v (head_of v capacity workers ++ rest)) (sym (rest_read room) ∙ q);
    read = read_alike;
  }

pub reading_by_pieces : ReadingByPieces
reading_by_pieces s rest v capacity workers lent n p h =
    let w = read_means (s ++ end_of v) (length lent) v capacity workers n h in
    by_pieces s rest v capacity workers lent n p h w.0 w.1
