-- What `write` and `read` answer, by the tests that were made.
use Prim.Native.Nat.{ℕ, ◌+◌, ◌%◌, ◌<◌, ◌≤◌}
use mathlib.Core.Path.{◌≡◌, refl, sym, ap, ◌∙◌}
use mathlib.Core.Bool.{Bool, true, false, cond}
use mathlib.Core.List.{List, [], ◌∷◌}
use native.Mathlib.Omega.{arith}
use lib.ListN.{length, length-append}
use Rattle.queue_entries.proofs.Pick.{below, above, equal, other}
use Rattle.tapes_numbers.specs.declared.Variant.{Variant}
use Rattle.tapes_fields.specs.Fields.{entry_field_of, size_of, over}
use Rattle.tapes_fields.specs.Judged.{carried}
use Rattle.tapes_fields.proofs.Writing.{length_entry, over_none}
use Rattle.tapes_fields.specs.declared.Head.{Head}
use Rattle.tapes_fields.specs.declared.Head.TheVariants as head
use Rattle.tapes_fields.specs.Judged.{head_in}
use Rattle.tapes_fields.proofs.Reading.{head_read}
use Rattle.tapes.specs.declared.Scan.{Scan}
use Rattle.tapes.specs.declared.Scan.TheVariants as scan
use Rattle.tapes.specs.declared.Reading.{Reading}
use Rattle.tapes.specs.declared.Reading.TheVariants as reading
use Rattle.tapes.specs.Heard.{Heard, stopped, heard, hear_in, count_in, words_in, read_by, read_after, read_of, taken, read_into}
use Rattle.tapes.specs.declared.Load.{Load}
use Rattle.tapes.specs.declared.Load.TheVariants.{Unfit, Bytes}
use Rattle.tapes.specs.declared.Writing.{Writing}
use Rattle.tapes.specs.declared.Writing.TheVariants.{Refused, Tape}
use Rattle.tapes.specs.Written.{entries_of, tape_of, load_from, fitted, write_of, accepted, written_of}
use Rattle.tapes.proofs.Fills.{length_tape}

-- the load is the tape's length
entries_long_lem : (v : Variant) (n place long : ℕ) (l : List ℕ) → load_from place long l ≡ Bytes n → n ≡ long + length (entries_of v l)
unfolding load_from entries_of
entries_long_lem v n place long [] h = let e : n ≡ long = cc in omega arith
entries_long_lem v n place long (a ∷ []) h = let e : n ≡ long = cc in omega arith
entries_long_lem v n place long (first ∷ item ∷ l) h = go (carried first item) h (entries_long_lem v n (place + 1) (long + size_of first) l)
  where
    go : (b : Bool) → cond b (load_from (place + 1) (long + size_of first) l) (Unfit place) ≡ Bytes n
        → (load_from (place + 1) (long + size_of first) l ≡ Bytes n → n ≡ long + size_of first + length (entries_of v l))
        → n ≡ long + length (entries_of v (first ∷ item ∷ l))
    go true q f = omega (arith, f q, length-append (entry_field_of v first item) (entries_of v l), length_entry v first item)
    go false q f = let z : ◌≡◌ {A = ℕ} 0 1 = cc in omega arith

pub load_long : (v : Variant) (capacity workers : ℕ) (words : List ℕ) (n : ℕ) → load_from 0 10 words ≡ Bytes n → n ≡ length (tape_of v capacity workers words)
load_long v capacity workers words n h = omega (arith, entries_long_lem v n 0 10 words h, length_tape v capacity workers words)

-- what `fill` asks
pub fillable : (v : Variant) (capacity workers : ℕ) (words : List ℕ) (room : ℕ) (l : Load) (n : ℕ) → l ≡ load_from 0 10 words → l ≡ Bytes n → n ≤ room
    → (load_from 0 10 words ≡ Bytes (length (tape_of v capacity workers words))) × (length (tape_of v capacity workers words) ≤ room)
fillable v capacity workers words room l n is e h =
    let long : n ≡ length (tape_of v capacity workers words) = load_long v capacity workers words n (sym is ∙ e) in
    (sym is ∙ e ∙ ap Bytes long, omega arith)

module _ (capacity workers : ℕ) (words : List ℕ) (room : ℕ) where
  pub odd : length words % 2 ≡ 1 → Refused 11 0 ≡ write_of capacity workers words room
  unfolding write_of
  odd h = equal _ _ _ _ _ h refl

  module _ (even : length words % 2 ≡ 1 → ⊥) where
    pub wide_capacity : 65535 < capacity → Refused 17 0 ≡ write_of capacity workers words room
    unfolding write_of
    wide_capacity h = other _ _ _ _ _ even (below _ _ _ _ _ h refl)

    module _ (narrow : capacity ≤ 65535) where
      pub wide_workers : 65535 < workers → Refused 17 0 ≡ write_of capacity workers words room
      unfolding write_of
      wide_workers h = other _ _ _ _ _ even (above _ _ _ _ _ narrow (below _ _ _ _ _ h refl))

      module _ (few : workers ≤ 65535) (l : Load) (is : l ≡ load_from 0 10 words) where
        judged : fitted room l ≡ write_of capacity workers words room
        unfolding write_of
        judged = other _ _ _ _ _ even (above _ _ _ _ _ narrow (above _ _ _ _ _ few (ap (fitted room) is)))

        pub unfit : (place : ℕ) → l ≡ Unfit place → Refused 17 place ≡ write_of capacity workers words room
        unfolding fitted
        unfit place e = sym (ap (fitted room) e) ∙ judged

        pub short : (n : ℕ) → l ≡ Bytes n → room < n → Refused 16 n ≡ write_of capacity workers words room
        unfolding fitted
        short n e h = below _ _ _ _ _ h refl ∙ sym (ap (fitted room) e) ∙ judged

        pub whole : (n : ℕ) → l ≡ Bytes n → n ≤ room → Tape n ≡ write_of capacity workers words room
        unfolding fitted
        whole n e h = above _ _ _ _ _ h refl ∙ sym (ap (fitted room) e) ∙ judged

-- with the buffer
module _ (v : Variant) (capacity workers : ℕ) (words b : List ℕ) where
  pub refused : (number value : ℕ) → Refused number value ≡ write_of capacity workers words (length b)
      → (Refused number value ≡ write_of capacity workers words (length b)) × (b ≡ written_of v capacity workers words b)
  unfolding written_of accepted
  refused number value e = (e, sym (over_none b) ∙ ap (λ (r : Writing). over (accepted r (tape_of v capacity workers words)) b) e)

  pub written : (n : ℕ) (z : List ℕ) → z ≡ over (tape_of v capacity workers words) b → Tape n ≡ write_of capacity workers words (length b)
      → (Tape n ≡ write_of capacity workers words (length b)) × (z ≡ written_of v capacity workers words b)
  unfolding written_of accepted
  written n z is e = (e, is ∙ ap (λ (r : Writing). over (accepted r (tape_of v capacity workers words)) b) e)

-- ---- the reader
count_words : (h : Heard) (n : ℕ) → count_in h ≡ scan.Words n → n ≡ length (words_in h)
unfolding count_in words_in
count_words (stopped number at) n e = let z : ◌≡◌ {A = ℕ} 0 1 = cc in absurd (omega arith)
count_words (heard words) n e = cc

module _ (s b : List ℕ) where
  read_answer : (number value : ℕ) → read_of s (length b) ≡ reading.Refused number value
      → (reading.Refused number value ≡ read_of s (length b)) × (b ≡ read_into s b)
  unfolding read_into taken
  read_answer number value e = (sym e, sym (over_none b) ∙ sym (ap (λ (r : Reading). over (taken r s) b) e))

  module _ (h : Head) (is : h ≡ head_in s) where
    pub head_fault : (number : ℕ) → h ≡ head.Fault number → (reading.Refused number 0 ≡ read_of s (length b)) × (b ≡ read_into s b)
    unfolding read_of read_after
    head_fault number e = read_answer number 0 (ap (read_after s (length b)) (sym is ∙ e))

    module _ (v : Variant) (capacity workers : ℕ) (e : h ≡ head.Makes v capacity workers) where
      pub head_whole : 7 ≤ length s
      head_whole = (head_read s v capacity workers (sym is ∙ e)).whole

      module _ (x : Scan) (x-is : x ≡ count_in (hear_in v s)) where
        scanned_by : read_of s (length b) ≡ read_by (length b) v capacity workers x
        unfolding read_of read_after
        scanned_by = ap (read_after s (length b)) (sym is ∙ e) ∙ ap (read_by (length b) v capacity workers) (sym x-is)

        pub later_fault : (number at : ℕ) → x ≡ scan.Fault number at → (reading.Refused number at ≡ read_of s (length b)) × (b ≡ read_into s b)
        unfolding read_by
        later_fault number at k = read_answer number at (scanned_by ∙ ap (read_by (length b) v capacity workers) k)

        module _ (n : ℕ) (k : x ≡ scan.Words n) where
          pub no_room : length b < n → (reading.Refused 16 n ≡ read_of s (length b)) × (b ≡ read_into s b)
          unfolding read_by
          no_room l = read_answer 16 n (scanned_by ∙ ap (read_by (length b) v capacity workers) k ∙ sym (below _ _ _ _ _ l refl))

          pub copyable : n ≤ length b → (7 ≤ length s) × (n ≡ length (words_in (hear_in v s))) × (n ≤ length b)
          copyable l = (head_whole, count_words (hear_in v s) n (sym x-is ∙ k), l)

          pub all_read : (z : List ℕ) → n ≤ length b → z ≡ over (words_in (hear_in v s)) b
              → (reading.Schedule v capacity workers n ≡ read_of s (length b)) × (z ≡ read_into s b)
          unfolding read_by read_into taken
          all_read z l q =
              let answer : read_of s (length b) ≡ reading.Schedule v capacity workers n = scanned_by ∙ ap (read_by (length b) v capacity workers) k ∙ sym (above _ _ _ _ _ l refl) in
              (sym answer, q ∙ sym (ap (λ (r : Reading). over (taken r s) b) answer))
