-- Reading what was written, writing what was read, and what follows.
use Prim.Native.Nat.{ℕ, ◌+◌, ◌/◌, ◌%◌, ◌^◌, ◌<◌, ◌≤◌}
use mathlib.Core.Path.{◌≡◌, refl, sym, ap, ap₂, ◌∙◌}
use mathlib.Core.Bool.{Bool, true, false, cond}
use mathlib.Core.List.{List, [], ◌∷◌, ◌++◌, append_assoc}
use native.Mathlib.Omega.{arith}
use lib.Dec.{ltb, eqb}
use lib.ListN.{length, take, drop, length-append}
use lib.Seq.{take_at, drop_at}
use borrow.Author.Tests.{lt-ltb, le-ltb, ltb-false, eqb-false, ne_eqb}
use Rattle.tapes_numbers.specs.declared.Variant.{Variant}
use Rattle.tapes_fields.specs.declared.Head.{Head}
use Rattle.tapes_fields.specs.declared.Head.TheVariants as head
use Rattle.tapes_fields.specs.Fields.{head_of, entry_field_of, end_of, item_long, size_of, over}
use Rattle.tapes_fields.specs.Judged.{head_in}
use Rattle.tapes_fields.proofs.Writing.{length_entry}
use Rattle.tapes_fields.proofs.Reading.{head_read}
use Rattle.tapes.specs.declared.Load.{Load}
use Rattle.tapes.specs.declared.Load.TheVariants.{Unfit, Bytes}
use Rattle.tapes.specs.declared.Writing.{Writing}
use Rattle.tapes.specs.declared.Writing.TheVariants.{Refused, Tape}
use Rattle.tapes.specs.declared.Reading.{Reading}
use Rattle.tapes.specs.declared.Reading.TheVariants as reading
use Rattle.tapes.specs.Written.{most, entries_of, tape_of, load_from, fitted, write_of, accepted, written_of}
use Rattle.tapes.specs.Heard.{Heard, stopped, heard, hear_from, hear_in, count_in, words_in, read_by, read_after, read_of, taken, read_into}
use Rattle.tapes.proofs.Fills.{head_past, length_tape}
use Rattle.tapes.proofs.Answers.{load_long}
use Rattle.tapes_demands.specs.Notions.{Below, entries_long}
use Rattle.tapes_demands.specs.Demands.{Length, ReadingWhatWasWritten, WritingWhatWasRead, DifferentTapes}
use Rattle.tapes_proof_round_trip.proofs.Numbers.{below_drop}
use Rattle.tapes_proof_round_trip.proofs.Fields.{head_found, head_back, head_narrow}
use Rattle.tapes_proof_round_trip.proofs.Tapes.{hear_written, Heard-back, hear_back}

-- ---- what it takes to be written
pub record Accepted (capacity workers : ℕ) (words : List ℕ) (room n : ℕ) : Type 0 where
  pub even : length words % 2 ≡ 1 → ⊥
  pub narrow : capacity < 65536
  pub few : workers < 65536
  pub load : load_from 0 10 words ≡ Bytes n
  pub room_is : n ≤ room

pub accepted_means : (capacity workers : ℕ) (words : List ℕ) (room n : ℕ) → write_of capacity workers words room ≡ Tape n → Accepted capacity workers words room n
unfolding write_of fitted
accepted_means capacity workers words room n = go (eqb (length words % 2) 1) refl (ltb most capacity) refl (ltb most workers) refl (load_from 0 10 words) refl
  where
    fits : (k : ℕ) (d : Bool) → ltb room k ≡ d → cond d (Refused 16 k) (Tape k) ≡ Tape n → (k ≡ n) × (k ≤ room)
    fits k true e h = let z : ◌≡◌ {A = ℕ} 0 1 = cc in absurd (omega arith)
    fits k false e h = (cc, ltb-false room k e)

    go : (a : Bool) → eqb (length words % 2) 1 ≡ a → (b : Bool) → ltb most capacity ≡ b → (c : Bool) → ltb most workers ≡ c → (l : Load) → load_from 0 10 words ≡ l
        → cond a (Refused 11 0) (cond b (Refused 17 0) (cond c (Refused 17 0) (fitted room l))) ≡ Tape n → Accepted capacity workers words room n
    go true p b q c r l e h = let z : ◌≡◌ {A = ℕ} 0 1 = cc in absurd (omega arith)
    go false p true q c r l e h = let z : ◌≡◌ {A = ℕ} 0 1 = cc in absurd (omega arith)
    go false p false q true r l e h = let z : ◌≡◌ {A = ℕ} 0 1 = cc in absurd (omega arith)
    go false p false q false r (Unfit place) e h = let z : ◌≡◌ {A = ℕ} 0 1 = cc in absurd (omega arith)
    go false p false q false r (Bytes k) e h =
        let f = fits k (ltb room k) refl h in
        record {
          even = eqb-false (length words % 2) 1 p;
          narrow = omega (arith, ltb-false most capacity q);
          few = omega (arith, ltb-false most workers r);
          load = e ∙ ap Bytes f.0;
          room_is = omega (arith, f.0, f.1);
        }

pub accepted_back : (capacity workers : ℕ) (words : List ℕ) (room n : ℕ) → Accepted capacity workers words room n → write_of capacity workers words room ≡ Tape n
unfolding write_of fitted
accepted_back capacity workers words room n a =
    simp (ne_eqb (length words % 2) 1 a.even, le-ltb most capacity (omega (arith, a.narrow)), le-ltb most workers (omega (arith, a.few)), a.load, le-ltb room n a.room_is)

-- ---- the length
entries_long_lem : (v : Variant) (words : List ℕ) → length (entries_of v words) ≡ entries_long words
unfolding entries_of entries_long size_of item_long
entries_long_lem v [] = refl
entries_long_lem v (x ∷ []) = refl
entries_long_lem v (first ∷ item ∷ rest) = length-append (entry_field_of v first item) (entries_of v rest) ∙ ap₂ ◌+◌ (length_entry v first item ∙ size (ltb (first % 16) 2)) (entries_long_lem v rest)
  where
    size : (b : Bool) → 4 + cond b 8 0 ≡ cond b 12 4
    size true = refl
    size false = refl

entries_many : (v : Variant) (words : List ℕ) → length words / 2 ≤ length (entries_of v words)
unfolding entries_of size_of
entries_many v [] = omega arith
entries_many v (x ∷ []) = omega arith
entries_many v (first ∷ item ∷ rest) =
    omega (arith, entries_many v rest, length-append (entry_field_of v first item) (entries_of v rest), length_entry v first item)

pub written_is : (v : Variant) (capacity workers : ℕ) (words buffer : List ℕ) (n : ℕ) → write_of capacity workers words (length buffer) ≡ Tape n
    → written_of v capacity workers words buffer ≡ tape_of v capacity workers words ++ drop (length (tape_of v capacity workers words)) buffer
unfolding written_of accepted over
written_is v capacity workers words buffer n h = ap (λ (r : Writing). over (accepted r (tape_of v capacity workers words)) buffer) h

pub lengths : Length
lengths v capacity workers words buffer n h =
    let a = accepted_means capacity workers words (length buffer) n h in
    let long : n ≡ length (tape_of v capacity workers words) = load_long v capacity workers words n a.load in (
      long,
      long ∙ length_tape v capacity workers words ∙ ap (λ (k : ℕ). 10 + k) (entries_long_lem v words),
      a.room_is,
      ap (take n) (written_is v capacity workers words buffer n h) ∙ take_at (tape_of v capacity workers words) _ n (sym long),
      ap (drop n) (written_is v capacity workers words buffer n h) ∙ drop_at (tape_of v capacity workers words) _ n (sym long) ∙ ap (λ (k : ℕ). drop k buffer) (sym long),
    )

-- ---- reading what was written
module _ (v : Variant) (capacity workers : ℕ) (words : List ℕ) (room n : ℕ) (p : Below (2 ^ 64) words) (a : Accepted capacity workers words room n) where
  tape_head : head_in (tape_of v capacity workers words) ≡ head.Makes v capacity workers
  unfolding tape_of
  tape_head = ap head_in (append_assoc (head_of v capacity workers) (entries_of v words) (end_of v)) ∙ head_found v capacity workers (entries_of v words ++ end_of v) a.narrow a.few

  tape_heard : hear_in v (tape_of v capacity workers words) ≡ heard words
  unfolding hear_in
  tape_heard =
      ap (hear_from (length (tape_of v capacity workers words)) v 7) (head_past v capacity workers words)
      ∙ hear_written v words (length (tape_of v capacity workers words)) 7 0 10 n p a.even a.load (omega (arith, length_tape v capacity workers words, entries_many v words))

  tape_read : (space : ℕ) → read_of (tape_of v capacity workers words) space ≡ cond (ltb space (length words)) (reading.Refused 16 (length words)) (reading.Schedule v capacity workers (length words))
  unfolding read_of read_after read_by count_in
  tape_read space =
      ap (read_after (tape_of v capacity workers words) space) tape_head ∙ ap (λ (h : Heard). read_by space v capacity workers (count_in h)) tape_heard

  tape_answer : (space : ℕ) → length words ≤ space → read_of (tape_of v capacity workers words) space ≡ reading.Schedule v capacity workers (length words)
  tape_answer space h = tape_read space ∙ simp (le-ltb space (length words) h)

  tape_words : (lent : List ℕ) → length words ≤ length lent → read_into (tape_of v capacity workers words) lent ≡ words ++ drop (length words) lent
  unfolding read_into taken over words_in
  tape_words lent h =
      ap (λ (r : Reading). over (taken r (tape_of v capacity workers words)) lent) (tape_answer (length lent) h)
      ∙ ap (λ (x : Heard). over (words_in x) lent) tape_heard

pub reading_written : ReadingWhatWasWritten
reading_written v capacity workers words buffer n p h =
    let a = accepted_means capacity workers words (length buffer) n h in
    let is : take n (written_of v capacity workers words buffer) ≡ tape_of v capacity workers words = (lengths v capacity workers words buffer n h).3 in
    record {
      fits = λ lent l.
          let got : read_into (take n (written_of v capacity workers words buffer)) lent ≡ words ++ drop (length words) lent =
          ap (λ (s : List ℕ). read_into s lent) is ∙ tape_words v capacity workers words (length buffer) n p a lent l in (
            ap (λ (s : List ℕ). read_of s (length lent)) is ∙ tape_answer v capacity workers words (length buffer) n p a (length lent) l,
            ap (take (length words)) got ∙ take_at words (drop (length words) lent) (length words) refl,
            ap (drop (length words)) got ∙ drop_at words (drop (length words) lent) (length words) refl,
          );
      short = λ room l. ap (λ (s : List ℕ). read_of s room) is ∙ tape_read v capacity workers words (length buffer) n p a room ∙ simp (lt-ltb room (length words) l);
    }

-- ---- two schedules with one tape
pub different_tapes : DifferentTapes
different_tapes v u capacity size workers team words others room space n m p q h k same =
    let a = accepted_means capacity workers words room n h in
    let b = accepted_means size team others space m k in
    let makes : head.Makes v capacity workers ≡ head.Makes u size team = sym (tape_head v capacity workers words room n p a) ∙ ap head_in same ∙ tape_head u size team others space m q b in
    let variant : v ≡ u = cc in
    let listen : heard words ≡ heard others =
    sym (tape_heard v capacity workers words room n p a) ∙ ap₂ hear_in variant same ∙ tape_heard u size team others space m q b in
    (variant, cc, cc, cc)

-- ---- what it takes to be read
pub record Got (s : List ℕ) (room : ℕ) (v : Variant) (capacity workers n : ℕ) (words : List ℕ) : Type 0 where
  pub makes : head_in s ≡ head.Makes v capacity workers
  pub hears : hear_in v s ≡ heard words
  pub count : n ≡ length words

pub read_means : (s : List ℕ) (room : ℕ) (v : Variant) (capacity workers n : ℕ) → read_of s room ≡ reading.Schedule v capacity workers n → (words : List ℕ) × Got s room v capacity workers n words
unfolding read_of read_after read_by count_in
read_means s room v capacity workers n = first (head_in s) refl
  where
    fits : (u : Variant) (c w : ℕ) (words : List ℕ) → head_in s ≡ head.Makes u c w → hear_in u s ≡ heard words → (b : Bool)
        → cond b (reading.Refused 16 (length words)) (reading.Schedule u c w (length words)) ≡ reading.Schedule v capacity workers n
        → (words : List ℕ) × Got s room v capacity workers n words
    fits u c w words e k true h = let z : ◌≡◌ {A = ℕ} 0 1 = cc in absurd (omega arith)
    fits u c w words e k false h =
        let same : u ≡ v = cc in
        (words, record { makes = cc; hears = ap (λ (x : Variant). hear_in x s) (sym same) ∙ k; count = cc })

    later : (u : Variant) (c w : ℕ) → head_in s ≡ head.Makes u c w → (x : Heard) → hear_in u s ≡ x
        → read_by room u c w (count_in x) ≡ reading.Schedule v capacity workers n → (words : List ℕ) × Got s room v capacity workers n words
    later u c w e (stopped number at) k h = let z : ◌≡◌ {A = ℕ} 0 1 = cc in absurd (omega arith)
    later u c w e (heard words) k h = fits u c w words e k (ltb room (length words)) h

    first : (h : Head) → head_in s ≡ h → read_after s room h ≡ reading.Schedule v capacity workers n → (words : List ℕ) × Got s room v capacity workers n words
    first (head.Fault number) e h = let z : ◌≡◌ {A = ℕ} 0 1 = cc in absurd (omega arith)
    first (head.Makes u c w) e h = later u c w e (hear_in u s) refl h

pub words_taken : (s lent : List ℕ) (v : Variant) (capacity workers n : ℕ) (words : List ℕ) → read_of s (length lent) ≡ reading.Schedule v capacity workers n
    → Got s (length lent) v capacity workers n words → take n (read_into s lent) ≡ words
unfolding read_into taken over words_in
words_taken s lent v capacity workers n words h g =
    ap (λ (r : Reading). take n (over (taken r s) lent)) h ∙ ap (λ (x : Heard). take n (over (words_in x) lent)) g.hears
    ∙ take_at words (drop (length words) lent) n (sym g.count)

-- ---- writing what was read
module _ (s : List ℕ) (room : ℕ) (v : Variant) (capacity workers n : ℕ) (words : List ℕ) (p : Below 256 s) (g : Got s room v capacity workers n words) where
  rest : Heard-back v (drop 7 s) words
  unfolding hear_in
  rest = hear_back (length s) v 7 (drop 7 s) words (below_drop 256 7 s p) g.hears

  pub words_low : Below (2 ^ 64) words
  words_low = rest.low

  pub tape_is : s ≡ tape_of v capacity workers words
  unfolding tape_of
  tape_is =
      head_back s v capacity workers p (head_read s v capacity workers g.makes) ∙ ap (λ (l : List ℕ). head_of v capacity workers ++ l) rest.is
      ∙ sym (append_assoc (head_of v capacity workers) (entries_of v words) (end_of v))

  pub tape_accepted : (space : ℕ) → length s ≤ space → Accepted capacity workers words space (length s)
  tape_accepted space h =
      let low = head_narrow s v capacity workers p (head_read s v capacity workers g.makes) in
      record {
        even = λ e. omega (arith, rest.even);
        narrow = low.0;
        few = low.1;
        load = rest.load 0 10 ∙ ap Bytes (sym (ap length tape_is ∙ length_tape v capacity workers words));
        room_is = h;
      }

pub writing_read : WritingWhatWasRead
writing_read s lent v capacity workers n p h buffer fits = again (read_means s (length lent) v capacity workers n h)
  where
    words_are : (words : List ℕ) → Got s (length lent) v capacity workers n words → take n (read_into s lent) ≡ words
    words_are words g = words_taken s lent v capacity workers n words h g

    again : ((words : List ℕ) × Got s (length lent) v capacity workers n words)
        → (write_of capacity workers (take n (read_into s lent)) (length buffer) ≡ Tape (length s))
        × (take (length s) (written_of v capacity workers (take n (read_into s lent)) buffer) ≡ s)
    again w =
        let same : take n (read_into s lent) ≡ w.0 = words_are w.0 w.1 in
        let a = tape_accepted s (length lent) v capacity workers n w.0 p w.1 (length buffer) fits in
        let answer : write_of capacity workers w.0 (length buffer) ≡ Tape (length s) = accepted_back capacity workers w.0 (length buffer) (length s) a in (
          ap (λ (l : List ℕ). write_of capacity workers l (length buffer)) same ∙ answer,
          ap (λ (l : List ℕ). take (length s) (written_of v capacity workers l buffer)) same
              ∙ (lengths v capacity workers w.0 buffer (length s) answer).3 ∙ sym (tape_is s (length lent) v capacity workers n w.0 p w.1),
        )
