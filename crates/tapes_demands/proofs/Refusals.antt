-- Refusals are numbered and change nothing, only one answer meets a promise, and answers are known by their numbers and values.
use Prim.Native.Nat.{ℕ, zero, suc, ◌+◌, ◌%◌, ◌/◌}
use mathlib.Core.Path.{◌≡◌, refl, sym, ap, ◌∙◌}
use mathlib.Core.Bool.{Bool, true, false, cond}
use mathlib.Core.List.{List, [], ◌∷◌, ◌++◌}
use mathlib.Core.Logic.{inl, inr}
use native.Mathlib.Omega.{arith}
use lib.Dec.{ltb, eqb}
use lib.ListN.{length, drop, get_or}
use borrow.Author.Tests.{ne_eqb}
use Rattle.tapes_numbers.specs.declared.Variant.{Variant}
use Rattle.tapes_numbers.specs.declared.Variant.TheVariants.{BigEndian, LittleEndian}
use Rattle.tapes_fields.specs.declared.Head.{Head}
use Rattle.tapes_fields.specs.declared.Head.TheVariants as head
use Rattle.tapes_fields.specs.declared.Field.{Field}
use Rattle.tapes_fields.specs.declared.Field.TheVariants as field
use Rattle.tapes_fields.specs.Fields.{over}
use Rattle.tapes_fields.specs.Judged.{opens, allowed, head_by, head_in, entry_by, field_in}
use Rattle.tapes_fields.proofs.Writing.{over_none}
use Rattle.tapes.specs.declared.Load.{Load}
use Rattle.tapes.specs.declared.Load.TheVariants.{Unfit, Bytes}
use Rattle.tapes.specs.declared.Writing.{Writing}
use Rattle.tapes.specs.declared.Writing.TheVariants as write
use Rattle.tapes.specs.declared.Reading.{Reading}
use Rattle.tapes.specs.declared.Reading.TheVariants as read
use Rattle.tapes.specs.Written.{tape_of, most, load_from, fitted, write_of, accepted, written_of}
use Rattle.tapes.specs.Written as writing
use Rattle.tapes.specs.Heard.{Heard, stopped, heard, joined, long_of, heard_by, hear_from, hear_in, count_in, read_by, read_after, read_of, taken, read_into}
use Rattle.tapes.specs.Heard as reading
use Rattle.tapes_demands.specs.Notions.{OneOf, writing_of, about_of, reading_of}
use Rattle.tapes_demands.specs.Demands.{RefusedUnchanged, Numbered, OnlyOne, EnumsBothWays}

-- ---- one answer
one : {A : Type 0} (d x y : A) → x ≡ d → y ≡ d → x ≡ y
one d x y p q = p ∙ sym q

pub only_one : OnlyOne
only_one = record {
  write = (λ v capacity workers words before x y a b p q. (one _ x y p.0 q.0, one _ a b p.1 q.1));
  read = (λ s before x y a b p q. (one _ x y p.0 q.0, one _ a b p.1 q.1));
}

-- ---- unchanged
not_written : (r : Writing) (tape buffer : List ℕ) → (writing.number_in r ≡ 0 → ⊥) → over (accepted r tape) buffer ≡ buffer
unfolding accepted writing.number_in
not_written (write.Refused number value) tape buffer h = over_none buffer
not_written (write.Tape count) tape buffer h = absurd (h refl)

not_read : (r : Reading) (s buffer : List ℕ) → (reading.number_in r ≡ 0 → ⊥) → over (taken r s) buffer ≡ buffer
unfolding taken reading.number_in
not_read (read.Refused number value) s buffer h = over_none buffer
not_read (read.Schedule v capacity workers count) s buffer h = absurd (h refl)

pub refused_unchanged : RefusedUnchanged
unfolding written_of read_into
refused_unchanged = record {
  write = (λ v capacity workers words buffer. not_written (write_of capacity workers words (length buffer)) (tape_of v capacity workers words) buffer);
  read = (λ s buffer. not_read (read_of s (length buffer)) s buffer);
}

-- ---- numbers
either : {A : Type 0} (P : A → Type 0) (b : Bool) {x y : A} → P x → P y → P (cond b x y)
either P true p q = p
either P false p q = q

one_of_more : (n : ℕ) (xs more : List ℕ) → OneOf n xs → OneOf n (xs ++ more)
one_of_more n [] more p = absurd p
one_of_more n (x ∷ xs) more (inl e) = inl e
one_of_more n (x ∷ xs) more (inr p) = inr (one_of_more n xs more p)

abbrev WriteNumber : Writing → Type 0
WriteNumber r = OneOf (writing.number_in r) (0 ∷ 11 ∷ 17 ∷ 16 ∷ [])

fitted_number : (room : ℕ) (l : Load) → WriteNumber (fitted room l)
unfolding fitted writing.number_in
fitted_number room (Unfit place) = inr (inr (inl refl))
fitted_number room (Bytes long) = either WriteNumber (ltb room long) (inr (inr (inr (inl refl)))) (inl refl)

write_number : (capacity workers : ℕ) (words : List ℕ) (room : ℕ) → WriteNumber (write_of capacity workers words room)
unfolding write_of writing.number_in
write_number capacity workers words room =
    either WriteNumber (eqb (length words % 2) 1) (inr (inl refl))
    (either WriteNumber (ltb most capacity) (inr (inr (inl refl)))
    (either WriteNumber (ltb most workers) (inr (inr (inl refl)))
    (fitted_number room (load_from 0 10 words))))

-- of a first field, of a later one, and of what is heard
abbrev pub HeadNumber : Head → Type 0
HeadNumber (head.Fault number) = OneOf number (12 ∷ 13 ∷ [])
HeadNumber (head.Makes v capacity workers) = Unit {0}

abbrev pub FieldNumber : Field → Type 0
FieldNumber (field.Fault number) = OneOf number (12 ∷ 13 ∷ 14 ∷ [])
FieldNumber field.End = Unit {0}
FieldNumber (field.Entry first item) = Unit {0}

abbrev pub HeardNumber : Heard → Type 0
HeardNumber (stopped number at) = OneOf number (12 ∷ 13 ∷ 14 ∷ 15 ∷ [])
HeardNumber (heard words) = Unit {0}

pub head_number : (s : List ℕ) → HeadNumber (head_in s)
unfolding head_in head_by
head_number s =
    either HeadNumber (ltb (length s) 3) (inl refl)
    (either HeadNumber (opens BigEndian 1 4 s) (either HeadNumber (ltb (length s) 7) (inl refl) tt)
    (either HeadNumber (opens LittleEndian 1 4 s) (either HeadNumber (ltb (length s) 7) (inl refl) tt)
    (inr (inl refl))))

entry_number : (v : Variant) (tag long : ℕ) (s : List ℕ) → FieldNumber (entry_by v tag long s)
unfolding entry_by
entry_number v tag long s =
    either FieldNumber (ltb (length s) (3 + long)) (inl refl)
    (either FieldNumber (allowed tag (get_or s 3 0 / 16)) tt (inr (inr (inl refl))))

pub field_number : (v : Variant) (s : List ℕ) → FieldNumber (field_in v s)
unfolding field_in
field_number v s =
    either FieldNumber (ltb (length s) 3) (inl refl)
    (either FieldNumber (opens v 2 9 s) (entry_number v 2 9 s)
    (either FieldNumber (opens v 3 1 s) (entry_number v 3 1 s)
    (either FieldNumber (opens v 4 0 s) tt (inr (inl refl)))))

joined_number : (first item : ℕ) (h : Heard) → HeardNumber h → HeardNumber (joined first item h)
unfolding joined
joined_number first item (stopped number at) p = p
joined_number first item (heard words) p = tt

by_number : (at : ℕ) (s : List ℕ) (f : Field) (after : Heard) → FieldNumber f → HeardNumber after → HeardNumber (heard_by at s f after)
unfolding heard_by
by_number at s (field.Fault number) after p q = one_of_more number (12 ∷ 13 ∷ 14 ∷ []) (15 ∷ []) p
by_number at s field.End after p q = either HeardNumber (eqb (length s) 3) tt (inr (inr (inr (inl refl))))
by_number at s (field.Entry first item) after p q = joined_number first item after q

pub heard_number : (more : ℕ) (v : Variant) (at : ℕ) (s : List ℕ) → HeardNumber (hear_from more v at s)
unfolding hear_from
heard_number zero v at s = inl refl
heard_number (suc more) v at s =
    by_number at s (field_in v s) (hear_from more v (at + long_of (field_in v s)) (drop (long_of (field_in v s)) s)) (field_number v s)
    (heard_number more v (at + long_of (field_in v s)) (drop (long_of (field_in v s)) s))

abbrev ReadNumber : Reading → Type 0
ReadNumber r = OneOf (reading.number_in r) (0 ∷ 12 ∷ 13 ∷ 14 ∷ 15 ∷ 16 ∷ [])

scan_number : (room : ℕ) (v : Variant) (capacity workers : ℕ) (h : Heard) → HeardNumber h → ReadNumber (read_by room v capacity workers (count_in h))
unfolding read_by count_in reading.number_in
scan_number room v capacity workers (stopped number at) p = inr (one_of_more number (12 ∷ 13 ∷ 14 ∷ 15 ∷ []) (16 ∷ []) p)
scan_number room v capacity workers (heard words) p = either ReadNumber (ltb room (length words)) (inr (inr (inr (inr (inr (inl refl)))))) (inl refl)

after_number : (s : List ℕ) (room : ℕ) (h : Head) → HeadNumber h → ReadNumber (read_after s room h)
unfolding read_after hear_in reading.number_in
after_number s room (head.Fault number) p = inr (one_of_more number (12 ∷ 13 ∷ []) (14 ∷ 15 ∷ 16 ∷ []) p)
after_number s room (head.Makes v capacity workers) p = scan_number room v capacity workers (hear_from (length s) v 7 (drop 7 s)) (heard_number (length s) v 7 (drop 7 s))

pub numbered : Numbered
unfolding read_of
numbered = record { write = write_number; read = (λ s room. after_number s room (head_in s) (head_number s)) }

-- ---- there and back
nonzero : {A : Type 0} (n : ℕ) (x y : A) → (n ≡ 0 → ⊥) → cond (eqb n 0) x y ≡ y
nonzero n x y ne = simp (ne_eqb n 0 ne)

pub enums_both_ways : EnumsBothWays writing.number_in reading.number_in
unfolding writing.number_in writing.value_in reading.number_in reading.value_in
enums_both_ways = record { write = wrote; write_kept = write_kept; read = heard_again; read_kept = read_kept; about_kept = λ value about. refl }
  where
    wrote : (a : Writing) → ((value : ℕ) → a ≡ write.Refused 0 value → ⊥) → writing_of (writing.number_in a) (writing.value_in a) ≡ a
    wrote (write.Tape count) ne = refl
    wrote (write.Refused number value) ne = nonzero number _ _ (λ e. ne value (ap (λ (n : ℕ). write.Refused n value) e))

    write_kept : (number value : ℕ) → (writing.number_in (writing_of number value) ≡ number) × (writing.value_in (writing_of number value) ≡ value)
    write_kept zero value = (refl, refl)
    write_kept (suc number) value =
        let some = nonzero (suc number) (write.Tape value) (write.Refused (suc number) value) (λ e. omega arith) in
        (ap writing.number_in some, ap writing.value_in some)

    heard_again : (a : Reading) → ((value : ℕ) → a ≡ read.Refused 0 value → ⊥) → reading_of (reading.number_in a) (about_of a) (reading.value_in a) ≡ a
    heard_again (read.Schedule v capacity workers count) ne = refl
    heard_again (read.Refused number value) ne = nonzero number _ _ (λ e. ne value (ap (λ (n : ℕ). read.Refused n value) e))

    read_kept : (number value : ℕ) (about : Variant × ℕ × ℕ) → (reading.number_in (reading_of number about value) ≡ number) × (reading.value_in (reading_of number about value) ≡ value)
    read_kept zero value about = (refl, refl)
    read_kept (suc number) value about =
        let some = nonzero (suc number) (read.Schedule about.0 about.1 about.2 value) (read.Refused (suc number) value) (λ e. omega arith) in
        (ap reading.number_in some, ap reading.value_in some)
