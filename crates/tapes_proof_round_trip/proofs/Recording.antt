-- A tape recorded entry by entry is the tape of the whole.
use Prim.Native.Nat.{ℕ, suc, ◌+◌, ◌*◌, ◌-◌, ◌/◌, ◌%◌, ◌<◌, ◌≤◌}
use mathlib.Core.Path.{◌≡◌, refl, sym, ap, ap₂, ◌∙◌, subst}
use mathlib.Core.Bool.{Bool, true, false, cond}
use mathlib.Core.List.{List, [], ◌∷◌, ◌++◌, append_assoc, append-nil}
use mathlib.Core.Logic.{inl, inr}
use native.Mathlib.Omega.{arith}
use lib.Dec.{ltb, eqb}
use lib.ListN.{length, take, drop, length-append, length-drop}
use lib.Seq.{take_at, drop_at, drop-drop, length-take-le}
use borrow.Author.Tests.{lt-ltb, le-ltb, le-leb, ltb-true, ltb-false, eq-eqb, eqb-true, ne_eqb}
use Rattle.tapes_numbers.specs.declared.Variant.{Variant}
use Rattle.tapes_numbers.specs.declared.Variant.TheVariants.{BigEndian, LittleEndian}
use Rattle.tapes_fields.specs.Fields.{head_of, entry_field_of, end_of, item_long, size_of, over}
use Rattle.tapes_fields.specs.Judged.{carried}
use Rattle.tapes_fields.proofs.Writing.{length_head, length_entry, length_end}
use Rattle.tapes.specs.declared.Load.{Load}
use Rattle.tapes.specs.declared.Load.TheVariants.{Unfit, Bytes}
use Rattle.tapes.specs.declared.Writing.{Writing}
use Rattle.tapes.specs.declared.Writing.TheVariants.{Refused, Tape}
use Rattle.tapes.specs.Written.{most, entries_of, tape_of, load_from, fitted, write_of, written_of}
use Rattle.tapes.specs.Written as writer
use Rattle.tapes.proofs.Answers.{load_long}
use Rattle.tapes_host.specs.declared.Reply.{Reply}
use Rattle.tapes_host.specs.declared.Recorder.{Recorder}
use Rattle.tapes_host.specs.declared.Recorder.TheVariants.{Broken, At}
use Rattle.tapes_host.specs.Host.{reply, name_of, Written, written, writing_reply, written_by, write_tape}
use Rattle.tapes_host.specs.Recorder.{Recorded, recorded, recorder_of, entries_can, stands, stands_by, recorder_by, recorder_in, begun_by, begin_tape, put_at, append_at}
use Rattle.tapes_host.specs.Recorder.{append_by, append_tape, end_at, end_by, end_tape}
use Rattle.tapes_demands.specs.Notions.{OneOf}
use Rattle.tapes_demands.specs.Recording.{recorders, Use, entry, end, used_by, uses_by, taken_by, taken_all, entries_in, AsWritten, RecordsAsWritten, Refuses}
use Rattle.tapes_demands.proofs.Refusals.{refused_unchanged}
use Rattle.tapes_proof_round_trip.proofs.Tapes.{load_first}
use Rattle.tapes_proof_round_trip.proofs.Back.{Accepted, accepted_means, accepted_back, written_is}
use Rattle.tapes_proof_round_trip.proofs.Pieces.{entries_join}

-- ---- loads in two pieces
load_join : (place long n : ℕ) (words more : List ℕ) → length words % 2 ≡ 0 → load_from place long words ≡ Bytes n
    → load_from place long (words ++ more) ≡ load_from (place + length words / 2) n more
unfolding load_from
load_join place long n [] more even h = ap₂ (λ (i j : ℕ). load_from i j more) (let q : place ≡ place + 0 / 2 = omega arith in q) (let q : long ≡ n = cc in q)
load_join place long n (x ∷ []) more even h = let q : ◌≡◌ {A = ℕ} (1 % 2) 0 = even in absurd (omega (arith, q))
load_join place long n (first ∷ item ∷ rest) more even h =
    let l = load_first place long n first item rest h in
    ap (λ (b : Bool). cond b (load_from (place + 1) (long + size_of first) (rest ++ more)) (Unfit place)) l.0
    ∙ load_join (place + 1) (long + size_of first) n rest more (let q : suc (suc (length rest)) % 2 ≡ 0 = even in omega (arith, q)) l.1
    ∙ ap (λ (i : ℕ). load_from i n more) (let q : place + 1 + length rest / 2 ≡ place + suc (suc (length rest)) / 2 = omega arith in q)

load_grows : (place long n : ℕ) (words : List ℕ) → load_from place long words ≡ Bytes n → long ≤ n
unfolding load_from
load_grows place long n [] h = let q : long ≡ n = cc in omega arith
load_grows place long n (x ∷ []) h = let q : long ≡ n = cc in omega arith
load_grows place long n (first ∷ item ∷ rest) h =
    let l = load_first place long n first item rest h in omega (arith, load_grows (place + 1) (long + size_of first) n rest l.1)

load_start : (place long n : ℕ) (words more : List ℕ) → length words % 2 ≡ 0 → load_from place long (words ++ more) ≡ Bytes n
    → (m : ℕ) × (load_from place long words ≡ Bytes m) × (m ≤ n)
unfolding load_from
load_start place long n [] more even h = (long, refl, load_grows place long n more h)
load_start place long n (x ∷ []) more even h = let q : ◌≡◌ {A = ℕ} (1 % 2) 0 = even in absurd (omega (arith, q))
load_start place long n (first ∷ item ∷ rest) more even h =
    let l = load_first place long n first item (rest ++ more) h in
    let r = load_start (place + 1) (long + size_of first) n rest more (let q : suc (suc (length rest)) % 2 ≡ 0 = even in omega (arith, q)) l.1 in
    (r.0, ap (λ (b : Bool). cond b (load_from (place + 1) (long + size_of first) rest) (Unfit place)) l.0 ∙ r.1, r.2)

-- ---- the writer, by the variant's name
write_named : (v : Variant) (capacity workers : ℕ) (words tape : List ℕ) → write_tape (name_of v) capacity workers words tape ≡ written_by v capacity workers words tape
unfolding write_tape
write_named BigEndian capacity workers words tape = refl
write_named LittleEndian capacity workers words tape = refl

name_stands : (v : Variant) (long count : ℕ) → stands_by (name_of v) long count ≡ At v long count
unfolding stands_by
name_stands BigEndian long count = refl
name_stands LittleEndian long count = refl

items_in : (count items : ℕ) → items ≤ count → entries_can (4 * count + 8 * items) count ≡ true
unfolding entries_can
items_in count items h =
    let bytes : ℕ = 4 * count + 8 * items in
    let left : 4 * count + 8 * items - 4 * count ≡ 8 * items = omega arith in
    simp
    (le-ltb (4 * count + 8 * items) (4 * count) (omega arith), eq-eqb ((4 * count + 8 * items - 4 * count) % 8) 0 (omega arith), le-leb ((4 * count + 8 * items - 4 * count) / 8) count (omega arith))

stands_so : (room long count items : ℕ) → long ≡ 7 + 4 * count + 8 * items → items ≤ count → long + 3 ≤ room → stands room long count ≡ true
unfolding stands
stands_so room long count items e h fits =
    let less : long - 7 ≡ 4 * count + 8 * items = omega arith in
    let can : entries_can (long - 7) count ≡ true = ap (λ (n : ℕ). entries_can n count) less ∙ items_in count items h in
    simp (le-ltb long 7 (omega arith), le-ltb room (long + 3) fits, can)

-- ---- a field at a place
module _ (f x : List ℕ) (at : ℕ) (fits : at + length f ≤ length x) where
  put_start : take at (put_at at f x) ≡ take at x
  unfolding put_at
  put_start = take_at (take at x) (over f (drop at x)) at (length-take-le at x (omega arith))

  put_past : drop at (put_at at f x) ≡ f ++ drop (at + length f) x
  unfolding put_at over
  put_past = drop_at (take at x) (over f (drop at x)) at (length-take-le at x (omega arith)) ∙ ap (λ (l : List ℕ). f ++ l) (drop-drop (length f) at x)

  put_is : put_at at f x ≡ take at x ++ (f ++ drop (at + length f) x)
  unfolding put_at over
  put_is = ap (λ (l : List ℕ). take at x ++ (f ++ l)) (drop-drop (length f) at x)

  put_long : length (put_at at f x) ≡ length x
  put_long =
      ap length put_is ∙ length-append (take at x) (f ++ drop (at + length f) x)
      ∙ omega (arith, length-take-le at x (let q : at ≤ length x = omega arith in q), length-append f (drop (at + length f) x), length-drop (at + length f) x)

  put_more : take (at + length f) (put_at at f x) ≡ take at x ++ f
  put_more =
      ap (take (at + length f)) (put_is ∙ sym (append_assoc (take at x) f (drop (at + length f) x)))
      ∙ take_at (take at x ++ f) (drop (at + length f) x) (at + length f)
      (length-append (take at x) f ∙ ap (λ (n : ℕ). n + length f) (length-take-le at x (omega arith)))

  put_after : (k : ℕ) → drop (at + length f + k) (put_at at f x) ≡ drop (at + length f + k) x
  put_after k =
      sym (drop-drop k (at + length f) (put_at at f x))
      ∙ ap (drop k)
      (ap (drop (at + length f)) (put_is ∙ sym (append_assoc (take at x) f (drop (at + length f) x)))
      ∙ drop_at (take at x ++ f) (drop (at + length f) x) (at + length f)
      (length-append (take at x) f ∙ ap (λ (n : ℕ). n + length f) (length-take-le at x (omega arith))))
      ∙ drop-drop k (at + length f) x

-- ---- a recorder in use: this schedule is recorded
record Holds (v : Variant) (capacity workers : ℕ) (o words recorder tape : List ℕ) : Type 0 where
  pub long : ℕ
  pub items : ℕ
  pub narrow : capacity < 65536
  pub few : workers < 65536
  pub even : length words % 2 ≡ 0
  pub load : load_from 0 10 words ≡ Bytes (long + 3)
  pub room : long + 3 ≤ length o
  pub is : recorder ≡ recorder_of (name_of v) long (length words / 2)
  pub sum : long ≡ 7 + 4 * (length words / 2) + 8 * items
  pub fewer : items ≤ length words / 2
  pub same : length tape ≡ length o
  pub start : take long tape ≡ head_of v capacity workers ++ entries_of v words
  pub rest : drop (long + 3) tape ≡ drop (long + 3) o

module _ (v : Variant) (capacity workers : ℕ) (o words recorder tape : List ℕ) (h : Holds v capacity workers o words recorder tape) where
  it_stands : recorder_in (length tape) recorder ≡ At v h.long (length words / 2)
  unfolding recorder_in recorder_by
  it_stands =
      ap (recorder_in (length tape)) h.is
      ∙ simp (stands_so (length tape) h.long (length words / 2) h.items h.sum h.fewer (omega (arith, h.room, h.same))) (name_stands v h.long (length words / 2))

  taken_so : Accepted capacity workers words (length o) (h.long + 3)
  taken_so = record { even = λ e. omega (arith, e, h.even); narrow = h.narrow; few = h.few; load = h.load; room_is = h.room }

  answer_so : write_of capacity workers words (length o) ≡ Tape (h.long + 3)
  answer_so = accepted_back capacity workers words (length o) (h.long + 3) taken_so

  end_fits : h.long + length (end_of v) ≤ length tape
  end_fits = omega (arith, length_end v, h.room, h.same)

  ended : put_at h.long (end_of v) tape ≡ written_of v capacity workers words o
  unfolding tape_of
  ended =
      put_is (end_of v) tape h.long end_fits
      ∙ ap₂ (λ (l m : List ℕ). l ++ (end_of v ++ m)) h.start (ap (λ (k : ℕ). drop (h.long + k) tape) (length_end v) ∙ h.rest)
      ∙ sym (append_assoc (head_of v capacity workers ++ entries_of v words) (end_of v) (drop (h.long + 3) o))
      ∙ ap (λ (k : ℕ). tape_of v capacity workers words ++ drop k o) (load_long v capacity workers words (h.long + 3) h.load)
      ∙ sym (written_is v capacity workers words o (h.long + 3) answer_so)

  end_told : end_tape recorder tape ≡ written (reply 0 (h.long + 3)) (put_at h.long (end_of v) tape)
  unfolding end_tape end_by end_at
  end_told = ap (λ (x : Recorder). end_by x tape) it_stands

  -- an end is the writer's
  end_is : end_tape recorder tape ≡ write_tape (name_of v) capacity workers words o
  unfolding writer.number_in writer.value_in
  end_is =
      end_told
      ∙ ap₂ (λ (w : Writing) (l : List ℕ). written (writing_reply w) l) (sym answer_so) ended
      ∙ sym (write_named v capacity workers words o)

  end_holds : Holds v capacity workers o words recorder (end_tape recorder tape).tape
  end_holds =
      subst (λ (w : Written). Holds v capacity workers o words recorder w.tape) (sym end_told)
      record {
        long = h.long;
        items = h.items;
        narrow = h.narrow;
        few = h.few;
        even = h.even;
        load = h.load;
        room = h.room;
        is = h.is;
        sum = h.sum;
        fewer = h.fewer;
        same = put_long (end_of v) tape h.long end_fits ∙ h.same;
        start = put_start (end_of v) tape h.long end_fits ∙ h.start;
        rest = after;
      }
    where
      after : drop (h.long + 3) (put_at h.long (end_of v) tape) ≡ drop (h.long + 3) o
      after =
          let three : h.long + 3 ≡ h.long + length (end_of v) + 0 = omega (arith, length_end v) in
          ap (λ (k : ℕ). drop k (put_at h.long (end_of v) tape)) three
          ∙ put_after (end_of v) tape h.long end_fits 0 ∙ ap (λ (k : ℕ). drop k tape) (sym three) ∙ h.rest

  -- ---- one entry more
  module _ (first item : ℕ) where
    longer : List ℕ
    longer = words ++ first ∷ item ∷ []

    longer_even : length longer % 2 ≡ 0
    unfolding longer
    longer_even = omega (arith, length-append words (first ∷ item ∷ []), h.even)

    longer_count : length longer / 2 ≡ length words / 2 + 1
    unfolding longer
    longer_count = omega (arith, length-append words (first ∷ item ∷ []), h.even)

    load_by : (b : Bool) → carried first item ≡ b → load_from 0 10 longer ≡ cond b (Bytes (h.long + 3 + size_of first)) (Unfit (length words / 2))
    unfolding longer load_from
    load_by b e =
        load_join 0 10 (h.long + 3) words (first ∷ item ∷ []) h.even h.load
        ∙ ap (λ (c : Bool). cond c (Bytes (h.long + 3 + size_of first)) (Unfit (0 + length words / 2))) e
        ∙ ap (λ (k : ℕ). cond b (Bytes (h.long + 3 + size_of first)) (Unfit k)) (let q : 0 + length words / 2 ≡ length words / 2 = omega arith in q)

    write_by : (l : Load) → load_from 0 10 longer ≡ l → (write_tape (name_of v) capacity workers longer o).answer ≡ writing_reply (fitted (length o) l)
    unfolding write_of
    write_by l e =
        ap (λ (w : Written). w.answer) (write_named v capacity workers longer o)
        ∙ ap writing_reply
        (simp
        (ne_eqb (length longer % 2) 1 (λ k. omega (arith, k, longer_even)), le-ltb most capacity (omega (arith, h.narrow)), le-ltb most workers (omega (arith, h.few)), e))

    append_told : append_tape recorder first item tape ≡ append_at v h.long (length words / 2) recorder first item tape
    unfolding append_tape append_by
    append_told = ap (λ (x : Recorder). append_by x recorder first item tape) it_stands

    Stepped : Recorded → Type 0
    Stepped r =
        (r.answer ≡ (write_tape (name_of v) capacity workers longer o).answer)
        × Holds v capacity workers o (cond (eqb (write_tape (name_of v) capacity workers longer o).answer.refusal 0) longer words) r.recorder r.tape

    left_out : (number value : ℕ) → (number ≡ 0 → ⊥) → (write_tape (name_of v) capacity workers longer o).answer ≡ reply number value → Stepped (recorded (reply number value) recorder tape)
    unfolding Stepped
    left_out number value ne e = (
      sym e,
      subst (λ (a : Reply). Holds v capacity workers o (cond (eqb a.refusal 0) longer words) recorder tape) (sym e)
          (subst (λ (b : Bool). Holds v capacity workers o (cond b longer words) recorder tape) (sym (ne_eqb number 0 ne)) h),
    )

    module _ (fit : carried first item ≡ true) (fits : h.long + size_of first + 3 ≤ length tape) where
      field : List ℕ
      field = entry_field_of v first item

      field_long : length field ≡ size_of first
      unfolding field
      field_long = length_entry v first item

      field_fits : h.long + length field ≤ length tape
      field_fits = omega (arith, field_long, fits)

      more_items : (k : ℕ) × (h.long + size_of first ≡ 7 + 4 * (length words / 2 + 1) + 8 * k) × (k ≤ length words / 2 + 1)
      unfolding size_of item_long
      more_items = go (ltb (first % 16) 2)
        where
          go : (b : Bool) → (k : ℕ) × (h.long + (4 + cond b 8 0) ≡ 7 + 4 * (length words / 2 + 1) + 8 * k) × (k ≤ length words / 2 + 1)
          go true = (h.items + 1, omega (arith, h.sum), omega (arith, h.fewer))
          go false = (h.items, omega (arith, h.sum), omega (arith, h.fewer))

      step_load : load_from 0 10 longer ≡ Bytes (h.long + size_of first + 3)
      step_load = load_by true fit ∙ ap Bytes (let q : h.long + 3 + size_of first ≡ h.long + size_of first + 3 = omega arith in q)

      step_start : take (h.long + size_of first) (put_at h.long field tape) ≡ head_of v capacity workers ++ entries_of v longer
      unfolding longer field entries_of
      step_start =
          ap (λ (k : ℕ). take (h.long + k) (put_at h.long field tape)) (sym field_long)
          ∙ put_more field tape h.long field_fits
          ∙ ap (λ (l : List ℕ). l ++ field) h.start
          ∙ append_assoc (head_of v capacity workers) (entries_of v words) field
          ∙ ap (λ (l : List ℕ). head_of v capacity workers ++ l)
          (ap (λ (l : List ℕ). entries_of v words ++ l) (sym (append-nil field)) ∙ sym (entries_join v words (first ∷ item ∷ []) h.even))

      step_rest : drop (h.long + size_of first + 3) (put_at h.long field tape) ≡ drop (h.long + size_of first + 3) o
      step_rest =
          let there : h.long + size_of first + 3 ≡ h.long + length field + 3 = omega (arith, field_long) in
          let further : h.long + 3 + size_of first ≡ h.long + length field + 3 = omega (arith, field_long) in
          ap (λ (k : ℕ). drop k (put_at h.long field tape)) there
          ∙ put_after field tape h.long field_fits 3
          ∙ ap (λ (k : ℕ). drop k tape) (sym further)
          ∙ sym (drop-drop (size_of first) (h.long + 3) tape)
          ∙ ap (drop (size_of first)) h.rest
          ∙ drop-drop (size_of first) (h.long + 3) o
          ∙ ap (λ (k : ℕ). drop k o) (further ∙ sym there)

      step_holds : Holds v capacity workers o longer (recorder_of (name_of v) (h.long + size_of first) (length words / 2 + 1)) (put_at h.long field tape)
      step_holds = record {
        long = h.long + size_of first;
        items = more_items.0;
        narrow = h.narrow;
        few = h.few;
        even = longer_even;
        load = step_load;
        room = omega (arith, fits, h.same);
        is = ap (recorder_of (name_of v) (h.long + size_of first)) (sym longer_count);
        sum = more_items.1 ∙ ap (λ (k : ℕ). 7 + 4 * k + 8 * more_items.0) (sym longer_count);
        fewer = omega (arith, more_items.2, longer_count);
        same = put_long field tape h.long field_fits ∙ h.same;
        start = step_start;
        rest = step_rest;
      }

      step_answer : (write_tape (name_of v) capacity workers longer o).answer ≡ reply 0 (h.long + size_of first + 3)
      unfolding fitted writer.number_in writer.value_in
      step_answer =
          write_by (Bytes (h.long + size_of first + 3)) step_load
          ∙ ap (λ (b : Bool). writing_reply (cond b (Refused 16 (h.long + size_of first + 3)) (Tape (h.long + size_of first + 3))))
          (le-ltb (length o) (h.long + size_of first + 3) (omega (arith, fits, h.same)))

      taken_in : Stepped (recorded (reply 0 (h.long + size_of first + 3)) (recorder_of (name_of v) (h.long + size_of first) (length words / 2 + 1)) (put_at h.long field tape))
      unfolding Stepped
      taken_in = (
        sym step_answer,
        subst (λ (a : Reply). Holds v capacity workers o (cond (eqb a.refusal 0) longer words)
            (recorder_of (name_of v) (h.long + size_of first) (length words / 2 + 1)) (put_at h.long field tape)) (sym step_answer) step_holds,
      )

    short_answer : carried first item ≡ true → length tape < h.long + size_of first + 3
        → (write_tape (name_of v) capacity workers longer o).answer ≡ reply 16 (h.long + size_of first + 3)
    unfolding fitted writer.number_in writer.value_in
    short_answer fit l =
        write_by (Bytes (h.long + size_of first + 3))
        (load_by true fit ∙ ap Bytes (let q : h.long + 3 + size_of first ≡ h.long + size_of first + 3 = omega arith in q))
        ∙ ap (λ (b : Bool). writing_reply (cond b (Refused 16 (h.long + size_of first + 3)) (Tape (h.long + size_of first + 3))))
        (lt-ltb (length o) (h.long + size_of first + 3) (omega (arith, l, h.same)))

    unfit_answer : carried first item ≡ false → (write_tape (name_of v) capacity workers longer o).answer ≡ reply 17 (length words / 2)
    unfolding fitted writer.number_in writer.value_in
    unfit_answer unfit = write_by (Unfit (length words / 2)) (load_by false unfit)

    stepped_by : (b c : Bool) → carried first item ≡ b → ltb (length tape) (h.long + size_of first + 3) ≡ c
        → Stepped (cond b
        (cond c (recorded (reply 16 (h.long + size_of first + 3)) recorder tape)
        (recorded (reply 0 (h.long + size_of first + 3)) (recorder_of (name_of v) (h.long + size_of first) (length words / 2 + 1)) (put_at h.long (entry_field_of v first item) tape)))
        (recorded (reply 17 (length words / 2)) recorder tape))
    unfolding field
    stepped_by false c unfit e = left_out 17 (length words / 2) (λ k. omega (arith, k)) (unfit_answer unfit)
    stepped_by true true fit e = left_out 16 (h.long + size_of first + 3) (λ k. omega (arith, k)) (short_answer fit (ltb-true (length tape) (h.long + size_of first + 3) e))
    stepped_by true false fit e = taken_in fit (ltb-false (length tape) (h.long + size_of first + 3) e)

    stepped : Stepped (append_tape recorder first item tape)
    unfolding append_at
    stepped = subst Stepped (sym append_told) (stepped_by (carried first item) (ltb (length tape) (h.long + size_of first + 3)) refl refl)

-- ---- any use
module _ (v : Variant) (capacity workers : ℕ) (o : List ℕ) where
  abbrev writes : List ℕ → Written
  writes words = write_tape (name_of v) capacity workers words o

  used_holds : (words : List ℕ) (r : Recorded) → Holds v capacity workers o words r.recorder r.tape → (u : Use)
      → Holds v capacity workers o (taken_by writes words u) (used_by recorders u r).recorder (used_by recorders u r).tape
  unfolding Stepped longer
  used_holds words r h (entry first item) = (stepped v capacity workers o words r.recorder r.tape h first item).1
  used_holds words r h end = end_holds v capacity workers o words r.recorder r.tape h

  uses_hold : (us : List Use) (words : List ℕ) (r : Recorded) → Holds v capacity workers o words r.recorder r.tape
      → Holds v capacity workers o (taken_all writes words us) (uses_by recorders us r).recorder (uses_by recorders us r).tape
  uses_hold [] words r h = h
  uses_hold (u ∷ us) words r h = uses_hold us (taken_by writes words u) (used_by recorders u r) (used_holds words r h u)

-- ---- the begin, and the whole
named : (name capacity workers : ℕ) (words tape : List ℕ) → (write_tape name capacity workers words tape).answer.refusal ≡ 0 → (v : Variant) × (name ≡ name_of v)
unfolding write_tape
named name capacity workers words tape = go (eqb name 1) (eqb name 129) refl refl
  where
    go : (a b : Bool) → eqb name 1 ≡ a → eqb name 129 ≡ b
        → (cond a (written_by BigEndian capacity workers words tape) (cond b (written_by LittleEndian capacity workers words tape) (written (reply 13 0) tape))).answer.refusal ≡ 0
        → (v : Variant) × (name ≡ name_of v)
    go true b p q h = (BigEndian, eqb-true name 1 p)
    go false true p q h = (LittleEndian, eqb-true name 129 q)
    go false false p q h = absurd (omega (arith, h))

is_tape : (capacity workers : ℕ) (words : List ℕ) (room : ℕ) → writer.number_in (write_of capacity workers words room) ≡ 0 → (n : ℕ) × (write_of capacity workers words room ≡ Tape n)
unfolding write_of fitted writer.number_in
is_tape capacity workers words room = go (eqb (length words % 2) 1) (ltb most capacity) (ltb most workers) (load_from 0 10 words)
  where
    fits : (d : Bool) (k : ℕ) → writer.number_in (cond d (Refused 16 k) (Tape k)) ≡ 0 → (n : ℕ) × (cond d (Refused 16 k) (Tape k) ≡ Tape n)
    fits true k h = absurd (omega (arith, h))
    fits false k h = (k, refl)

    go : (a b c : Bool) (l : Load) → writer.number_in (cond a (Refused 11 0) (cond b (Refused 17 0) (cond c (Refused 17 0) (fitted room l)))) ≡ 0
        → (n : ℕ) × (cond a (Refused 11 0) (cond b (Refused 17 0) (cond c (Refused 17 0) (fitted room l))) ≡ Tape n)
    go true b c l h = absurd (omega (arith, h))
    go false true c l h = absurd (omega (arith, h))
    go false false true l h = absurd (omega (arith, h))
    go false false false (Unfit place) h = absurd (omega (arith, h))
    go false false false (Bytes k) h = fits (ltb room k) k h

module _ (v : Variant) (capacity workers : ℕ) (o : List ℕ) where
  taken_means : (words : List ℕ) → (writes v capacity workers o words).answer.refusal ≡ 0 → (n : ℕ) × Accepted capacity workers words (length o) n
  taken_means words e =
      let t = is_tape capacity workers words (length o) (ap (λ (w : Written). w.answer.refusal) (sym (write_named v capacity workers words o)) ∙ e) in
      (t.0, accepted_means capacity workers words (length o) t.0 t.1)

  taken_back : (words : List ℕ) (n : ℕ) → Accepted capacity workers words (length o) n → (writes v capacity workers o words).answer.refusal ≡ 0
  unfolding writer.number_in
  taken_back words n a =
      ap (λ (w : Written). w.answer.refusal) (write_named v capacity workers words o) ∙ ap writer.number_in (accepted_back capacity workers words (length o) n a)

  -- the first entries of a schedule that is taken are taken
  first_taken : (words more : List ℕ) (n : ℕ) → length words % 2 ≡ 0 → Accepted capacity workers (words ++ more) (length o) n → (m : ℕ) × Accepted capacity workers words (length o) m
  first_taken words more n even a =
      let l = load_start 0 10 n words more even a.load in
      (l.0, record { even = λ e. omega (arith, e, even); narrow = a.narrow; few = a.few; load = l.1; room_is = omega (arith, l.2, a.room_is) })

  all_taken : (words rest : List ℕ) (n : ℕ) → length words % 2 ≡ 0 → Accepted capacity workers (words ++ rest) (length o) n
      → taken_all (writes v capacity workers o) words (entries_in rest) ≡ words ++ rest
  all_taken words [] n even a = sym (append-nil words)
  all_taken words (x ∷ []) n even a = absurd (a.even (omega (arith, length-append words (x ∷ []), even)))
  all_taken words (first ∷ item ∷ rest) n even a =
      let longer : List ℕ = words ++ first ∷ item ∷ [] in
      let join : longer ++ rest ≡ words ++ first ∷ item ∷ rest = append_assoc words (first ∷ item ∷ []) rest in
      let again : Accepted capacity workers (longer ++ rest) (length o) n = subst (λ (l : List ℕ). Accepted capacity workers l (length o) n) (sym join) a in
      let both : length longer % 2 ≡ 0 = omega (arith, length-append words (first ∷ item ∷ []), even) in
      let now-taken = first_taken longer rest n both again in
      let kept : taken_by (writes v capacity workers o) words (entry first item) ≡ longer =
      ap (λ (b : Bool). cond b longer words) (eq-eqb (writes v capacity workers o longer).answer.refusal 0 (taken_back longer now-taken.0 now-taken.1)) in
      ap (λ (l : List ℕ). taken_all (writes v capacity workers o) l (entries_in rest)) kept ∙ all_taken longer rest n both again ∙ join

  module _ (n : ℕ) (a : Accepted capacity workers [] (length o) n) where
    ten : n ≡ 10
    unfolding load_from
    ten = let e : Bytes 10 ≡ Bytes n = a.load in cc

    tape_long : 10 ≡ length (tape_of v capacity workers [])
    tape_long = sym ten ∙ load_long v capacity workers [] n a.load

    first_is : written_of v capacity workers [] o ≡ tape_of v capacity workers [] ++ drop 10 o
    first_is =
        written_is v capacity workers [] o n (accepted_back capacity workers [] (length o) n a)
        ∙ ap (λ (k : ℕ). tape_of v capacity workers [] ++ drop k o) (sym tape_long)

    first_long : length (head_of v capacity workers ++ entries_of v []) ≡ 7
    unfolding entries_of
    first_long = ap length (append-nil (head_of v capacity workers)) ∙ length_head v capacity workers

    begun_start : take 7 (written_of v capacity workers [] o) ≡ head_of v capacity workers ++ entries_of v []
    unfolding tape_of
    begun_start =
        ap (take 7) (first_is ∙ append_assoc (head_of v capacity workers ++ entries_of v []) (end_of v) (drop 10 o))
        ∙ take_at (head_of v capacity workers ++ entries_of v []) (end_of v ++ drop 10 o) 7 first_long

    begun_holds : Holds v capacity workers o [] (recorder_of (name_of v) 7 0) (written_of v capacity workers [] o)
    unfolding load_from
    begun_holds = record {
      long = 7;
      items = 0;
      narrow = a.narrow;
      few = a.few;
      even = refl;
      load = refl;
      room = omega (arith, a.room_is, ten);
      is = refl;
      sum = refl;
      fewer = omega arith;
      same = ap length first_is ∙ length-append (tape_of v capacity workers []) (drop 10 o) ∙ omega (arith, tape_long, length-drop 10 o, a.room_is, ten);
      start = begun_start;
      rest = ap (drop 10) first_is ∙ drop_at (tape_of v capacity workers []) (drop 10 o) 10 (sym tape_long);
    }

  module _ (recorder : List ℕ) (three : length recorder ≡ 3) where
    begin_told : begin_tape (name_of v) capacity workers recorder o ≡ begun_by (name_of v) recorder (writes v capacity workers o [])
    unfolding begin_tape
    begin_told = simp (eq-eqb (length recorder) 3 three)

    begun_answer : (begin_tape (name_of v) capacity workers recorder o).answer.refusal ≡ (writes v capacity workers o []).answer.refusal
    unfolding begun_by
    begun_answer = ap (λ (r : Recorded). r.answer.refusal) begin_told

    begin_holds : (writes v capacity workers o []).answer.refusal ≡ 0
        → Holds v capacity workers o [] (begin_tape (name_of v) capacity workers recorder o).recorder (begin_tape (name_of v) capacity workers recorder o).tape
    unfolding begun_by
    begin_holds e =
        let t = taken_means [] e in
        let words : cond (eqb (writes v capacity workers o []).answer.refusal 0) (recorder_of (name_of v) 7 0) recorder ≡ recorder_of (name_of v) 7 0 =
        ap (λ (b : Bool). cond b (recorder_of (name_of v) 7 0) recorder) (eq-eqb (writes v capacity workers o []).answer.refusal 0 e) in
        let bytes : (writes v capacity workers o []).tape ≡ written_of v capacity workers [] o = ap (λ (w : Written). w.tape) (write_named v capacity workers [] o) in
        subst (λ (r : Recorded). Holds v capacity workers o [] r.recorder r.tape) (sym begin_told)
        (subst (λ (l : List ℕ). Holds v capacity workers o [] l (writes v capacity workers o []).tape) (sym words)
        (subst (Holds v capacity workers o [] (recorder_of (name_of v) 7 0)) (sym bytes) (begun_holds t.0 t.1)))

    abbrev begun : Recorded
    begun = begin_tape (name_of v) capacity workers recorder o

    module _ (e : (writes v capacity workers o []).answer.refusal ≡ 0) (us : List Use) where
      used : Holds v capacity workers o (taken_all (writes v capacity workers o) [] us) (uses_by recorders us begun).recorder (uses_by recorders us begun).tape
      used = uses_hold v capacity workers o us [] begun (begin_holds e)

      appended : (first item : ℕ)
          → (used_by recorders (entry first item) (uses_by recorders us begun)).answer
          ≡ (writes v capacity workers o (taken_all (writes v capacity workers o) [] us ++ first ∷ item ∷ [])).answer
      unfolding Stepped longer
      appended first item =
          (stepped v capacity workers o (taken_all (writes v capacity workers o) [] us) (uses_by recorders us begun).recorder (uses_by recorders us begun).tape used first item).0

      ends_so : end_tape (uses_by recorders us begun).recorder (uses_by recorders us begun).tape ≡ writes v capacity workers o (taken_all (writes v capacity workers o) [] us)
      ends_so = end_is v capacity workers o (taken_all (writes v capacity workers o) [] us) (uses_by recorders us begun).recorder (uses_by recorders us begun).tape used

    whole_so : (words : List ℕ) → (writes v capacity workers o words).answer.refusal ≡ 0
        → end_tape (uses_by recorders (entries_in words) begun).recorder (uses_by recorders (entries_in words) begun).tape ≡ writes v capacity workers o words
    whole_so words e =
        let t = taken_means words e in
        let none = first_taken [] words t.0 refl t.1 in
        ends_so (taken_back [] none.0 none.1) (entries_in words)
        ∙ ap (writes v capacity workers o) (all_taken [] words t.0 refl t.1)

    -- of the name that a variant has
    as_written : AsWritten recorders (writes v capacity workers o) begun
    unfolding begun_by
    as_written = record {
      begins = (ap (λ (r : Recorded). r.answer) begin_told, ap (λ (r : Recorded). r.tape) begin_told);
      appends = λ e us first item. appended (sym begun_answer ∙ e) us first item;
      ends = λ e us. ends_so (sym begun_answer ∙ e) us;
      whole = whole_so;
    }

pub records_as_written : RecordsAsWritten
unfolding begin_tape begun_by
records_as_written name capacity workers recorder o three = record {
  begins = (ap (λ (r : Recorded). r.answer) told, ap (λ (r : Recorded). r.tape) told);
  appends = λ e. (of_name [] (sym answer ∙ e)).appends e;
  ends = λ e. (of_name [] (sym answer ∙ e)).ends e;
  whole = λ words e. (of_name words e).whole words e;
}
  where
    told : begin_tape name capacity workers recorder o ≡ begun_by name recorder (write_tape name capacity workers [] o)
    told = simp (eq-eqb (length recorder) 3 three)

    answer : (begin_tape name capacity workers recorder o).answer.refusal ≡ (write_tape name capacity workers [] o).answer.refusal
    answer = ap (λ (r : Recorded). r.answer.refusal) told

    of_name : (words : List ℕ) → (write_tape name capacity workers words o).answer.refusal ≡ 0
        → AsWritten recorders (λ ws. write_tape name capacity workers ws o) (begin_tape name capacity workers recorder o)
    of_name words e =
        let n = named name capacity workers words o e in
        subst (λ (k : ℕ). AsWritten recorders (λ ws. write_tape k capacity workers ws o) (begin_tape k capacity workers recorder o)) (sym n.1)
        (as_written n.0 capacity workers o recorder three)

-- ---- refusals: their numbers, and that they change nothing
abbrev begins_by : List ℕ
begins_by = 0 ∷ 6 ∷ 13 ∷ 17 ∷ 16 ∷ []

none_number : (capacity workers room : ℕ) → OneOf (writer.number_in (write_of capacity workers [] room)) begins_by
unfolding write_of fitted load_from writer.number_in
none_number capacity workers room = go (ltb most capacity) (ltb most workers) (ltb room 10)
  where
    go : (b c d : Bool) → OneOf (writer.number_in (cond b (Refused 17 0) (cond c (Refused 17 0) (cond d (Refused 16 10) (Tape 10))))) begins_by
    go true c d = inr (inr (inr (inl refl)))
    go false true d = inr (inr (inr (inl refl)))
    go false false true = inr (inr (inr (inr (inl refl))))
    go false false false = inl refl

begin_number : (name capacity workers : ℕ) (recorder tape : List ℕ) → OneOf (begin_tape name capacity workers recorder tape).answer.refusal begins_by
unfolding begin_tape begun_by write_tape
begin_number name capacity workers recorder tape = go (eqb (length recorder) 3) (eqb name 1) (eqb name 129)
  where
    go : (a b c : Bool)
        → OneOf (cond a
        (begun_by name recorder (cond b (written_by BigEndian capacity workers [] tape) (cond c (written_by LittleEndian capacity workers [] tape) (written (reply 13 0) tape))))
        (recorded (reply 6 0) recorder tape)).answer.refusal begins_by
    go false b c = inr (inl refl)
    go true true c = none_number capacity workers (length tape)
    go true false true = none_number capacity workers (length tape)
    go true false false = inr (inr (inl refl))

write_unchanged : (name capacity workers : ℕ) (words tape : List ℕ) → ((write_tape name capacity workers words tape).answer.refusal ≡ 0 → ⊥)
    → (write_tape name capacity workers words tape).tape ≡ tape
unfolding write_tape
write_unchanged name capacity workers words tape = go (eqb name 1) (eqb name 129)
  where
    go : (b c : Bool)
        → ((cond b (written_by BigEndian capacity workers words tape) (cond c (written_by LittleEndian capacity workers words tape) (written (reply 13 0) tape))).answer.refusal ≡ 0 → ⊥)
        → (cond b (written_by BigEndian capacity workers words tape) (cond c (written_by LittleEndian capacity workers words tape) (written (reply 13 0) tape))).tape ≡ tape
    go true c ne = refused_unchanged.write BigEndian capacity workers words tape ne
    go false true ne = refused_unchanged.write LittleEndian capacity workers words tape ne
    go false false ne = refl

begin_unchanged : (name capacity workers : ℕ) (recorder tape : List ℕ) → ((begin_tape name capacity workers recorder tape).answer.refusal ≡ 0 → ⊥)
    → ((begin_tape name capacity workers recorder tape).recorder ≡ recorder) × ((begin_tape name capacity workers recorder tape).tape ≡ tape)
unfolding begin_tape begun_by
begin_unchanged name capacity workers recorder tape = go (eqb (length recorder) 3)
  where
    go : (a : Bool)
        → ((cond a (begun_by name recorder (write_tape name capacity workers [] tape)) (recorded (reply 6 0) recorder tape)).answer.refusal ≡ 0 → ⊥)
        → ((cond a (begun_by name recorder (write_tape name capacity workers [] tape)) (recorded (reply 6 0) recorder tape)).recorder ≡ recorder)
        × ((cond a (begun_by name recorder (write_tape name capacity workers [] tape)) (recorded (reply 6 0) recorder tape)).tape ≡ tape)
    go false ne = (refl, refl)
    go true ne =
        (ap (λ (b : Bool). cond b (recorder_of name 7 0) recorder) (ne_eqb (write_tape name capacity workers [] tape).answer.refusal 0 ne), write_unchanged name capacity workers [] tape ne)

append_number : (recorder : List ℕ) (first item : ℕ) (tape : List ℕ) (x : Recorder) → OneOf (append_by x recorder first item tape).answer.refusal (0 ∷ 6 ∷ 17 ∷ 16 ∷ [])
unfolding append_by append_at
append_number recorder first item tape Broken = inr (inl refl)
append_number recorder first item tape (At v long count) = go (carried first item) (ltb (length tape) (long + size_of first + 3))
  where
    go : (a b : Bool)
        → OneOf (cond a
        (cond b (recorded (reply 16 (long + size_of first + 3)) recorder tape)
        (recorded (reply 0 (long + size_of first + 3)) (recorder_of (name_of v) (long + size_of first) (count + 1)) (put_at long (entry_field_of v first item) tape)))
        (recorded (reply 17 count) recorder tape)).answer.refusal (0 ∷ 6 ∷ 17 ∷ 16 ∷ [])
    go false b = inr (inr (inl refl))
    go true true = inr (inr (inr (inl refl)))
    go true false = inl refl

appended_unchanged : (v : Variant) (long count : ℕ) (recorder : List ℕ) (first item : ℕ) (tape : List ℕ) → ((append_at v long count recorder first item tape).answer.refusal ≡ 0 → ⊥)
    → append_at v long count recorder first item tape ≡ recorded (append_at v long count recorder first item tape).answer recorder tape
unfolding append_at
appended_unchanged v long count recorder first item tape =
    go (carried first item) (ltb (length tape) (long + size_of first + 3)) (recorder_of (name_of v) (long + size_of first) (count + 1)) (put_at long (entry_field_of v first item) tape)
  where
    k : ℕ
    k = long + size_of first + 3

    go : (a b : Bool) (x y : List ℕ)
        → ((cond a (cond b (recorded (reply 16 k) recorder tape) (recorded (reply 0 k) x y)) (recorded (reply 17 count) recorder tape)).answer.refusal ≡ 0 → ⊥)
        → cond a (cond b (recorded (reply 16 k) recorder tape) (recorded (reply 0 k) x y)) (recorded (reply 17 count) recorder tape)
        ≡ recorded (cond a (cond b (recorded (reply 16 k) recorder tape) (recorded (reply 0 k) x y)) (recorded (reply 17 count) recorder tape)).answer recorder tape
    go false b x y ne = refl
    go true true x y ne = refl
    go true false x y ne = absurd (ne refl)

append_unchanged : (recorder : List ℕ) (first item : ℕ) (tape : List ℕ) (x : Recorder) → ((append_by x recorder first item tape).answer.refusal ≡ 0 → ⊥)
    → ((append_by x recorder first item tape).recorder ≡ recorder) × ((append_by x recorder first item tape).tape ≡ tape)
unfolding append_by
append_unchanged recorder first item tape Broken ne = (refl, refl)
append_unchanged recorder first item tape (At v long count) ne =
    let q = appended_unchanged v long count recorder first item tape ne in (ap (λ (r : Recorded). r.recorder) q, ap (λ (r : Recorded). r.tape) q)

end_number : (tape : List ℕ) (x : Recorder) → OneOf (end_by x tape).answer.refusal (0 ∷ 6 ∷ [])
unfolding end_by end_at
end_number tape Broken = inr (inl refl)
end_number tape (At v long count) = inl refl

end_unchanged : (tape : List ℕ) (x : Recorder) → ((end_by x tape).answer.refusal ≡ 0 → ⊥) → (end_by x tape).tape ≡ tape
unfolding end_by end_at
end_unchanged tape Broken ne = refl
end_unchanged tape (At v long count) ne = absurd (ne refl)

pub refuses : Refuses
unfolding append_tape end_tape
refuses = record {
  begin = begin_number;
  append = λ recorder first item tape. append_number recorder first item tape (recorder_in (length tape) recorder);
  end = λ recorder tape. end_number tape (recorder_in (length tape) recorder);
  begin_unchanged = begin_unchanged;
  append_unchanged = λ recorder first item tape. append_unchanged recorder first item tape (recorder_in (length tape) recorder);
  end_unchanged = λ recorder tape. end_unchanged tape (recorder_in (length tape) recorder);
}
