-- The first fault, left to right.
use Prim.Native.Nat.{ℕ, suc, ◌+◌, ◌-◌}
use mathlib.Core.Path.{◌≡◌, refl, ap, ◌∙◌, subst}
use mathlib.Core.Bool.{Bool, true, false, cond}
use mathlib.Core.List.{List, [], ◌∷◌, ◌++◌}
use mathlib.Core.Logic.{inl, inr}
use native.Mathlib.Omega.{arith}
use lib.Dec.{ltb, eqb}
use lib.ListN.{length, drop, replicate, length-append, length-replicate}
use borrow.Author.Tests.{ne_eqb, le-ltb}
use Rattle.tapes_numbers.specs.declared.Variant.{Variant}
use Rattle.tapes_fields.specs.declared.Head.{Head}
use Rattle.tapes_fields.specs.declared.Head.TheVariants as head
use Rattle.tapes_fields.specs.declared.Field.{Field}
use Rattle.tapes_fields.specs.declared.Field.TheVariants as field
use Rattle.tapes_fields.specs.Fields.{head_of, end_of}
use Rattle.tapes_fields.specs.Judged.{head_in, field_in}
use Rattle.tapes_fields.proofs.Writing.{length_head, length_end}
use Rattle.tapes.specs.declared.Reading.TheVariants as reading
use Rattle.tapes.specs.Heard.{Heard, stopped, heard, long_of, heard_by, hear_from, hear_in, count_in, read_by, read_after, read_of}
use Rattle.tapes_demands.specs.Notions.{Below, OneOf}
use Rattle.tapes_demands.specs.Demands.{FirstFault}
use Rattle.tapes_demands.proofs.Refusals.{HeadNumber, FieldNumber, HeardNumber, head_number, field_number, heard_number}
use Rattle.tapes_proof_round_trip.proofs.Fields.{end_found}
use Rattle.tapes_proof_round_trip.proofs.Back.{Got, read_means}
use Rattle.tapes_proof_round_trip.proofs.Pieces.{s_long, past_head, rest_read, reading_by_pieces}

-- no fault of a field is 15 or 16
below_sixteen : (number : ℕ) → OneOf number (12 ∷ 13 ∷ 14 ∷ 15 ∷ []) → number ≡ 16 → ⊥
below_sixteen number (inl p) e = omega arith
below_sixteen number (inr (inl p)) e = omega arith
below_sixteen number (inr (inr (inl p))) e = omega arith
below_sixteen number (inr (inr (inr (inl p)))) e = omega arith
below_sixteen number (inr (inr (inr (inr x5)))) e = elim x5 [ ]

field_below : (number : ℕ) → OneOf number (12 ∷ 13 ∷ 14 ∷ []) → number ≡ 16 → ⊥
field_below number (inl p) e = omega arith
field_below number (inr (inl p)) e = omega arith
field_below number (inr (inr (inl p))) e = omega arith
field_below number (inr (inr (inr x4))) e = elim x4 [ ]

head_below : (number : ℕ) → OneOf number (12 ∷ 13 ∷ []) → number ≡ 16 → ⊥
head_below number (inl p) e = omega arith
head_below number (inr (inl p)) e = omega arith
head_below number (inr (inr x3)) e = elim x3 [ ]

-- what is heard where the next field is known, one field at least allowed
hear_next : (more : ℕ) (v : Variant) (at : ℕ) (s : List ℕ) (f : Field) → field_in v s ≡ f
    → hear_from (suc more) v at s ≡ heard_by at s f (hear_from more v (at + long_of f) (drop (long_of f) s))
unfolding hear_from
hear_next more v at s f e = ap (λ (x : Field). heard_by at s x (hear_from more v (at + long_of x) (drop (long_of x) s))) e

first_fault_first : (s : List ℕ) (room number : ℕ) → head_in s ≡ head.Fault number → read_of s room ≡ reading.Refused number 0
unfolding read_of read_after
first_fault_first s room number e = ap (read_after s room) e

-- a tape once an end is put behind it, and then these bytes
module _ (s rest : List ℕ) (v : Variant) (capacity workers space n room : ℕ) (p : Below 256 s) (h : read_of (s ++ end_of v) space ≡ reading.Schedule v capacity workers n) where
  abbrev lent : List ℕ
  lent = replicate space 0

  abbrev fresh : List ℕ
  fresh = head_of v capacity workers ++ rest

  ends : read_of (s ++ end_of v) (length lent) ≡ reading.Schedule v capacity workers n
  ends = ap (read_of (s ++ end_of v)) (length-replicate space 0) ∙ h

  got : (words : List ℕ) × Got (s ++ end_of v) (length lent) v capacity workers n words
  got = read_means (s ++ end_of v) (length lent) v capacity workers n ends

  long : 7 + (length s - 7) ≡ length s
  long = omega (arith, s_long s rest v capacity workers lent n p ends got.0 got.1)

  heard_first : (f : Field) → field_in v rest ≡ f → (more : Heard → Heard) → ((after : Heard) → heard_by 7 rest f after ≡ more after)
      → (x : Heard) → ((after : Heard) → more after ≡ x) → hear_in v fresh ≡ x
  unfolding hear_in
  heard_first f e more is x stops =
      let count : length fresh ≡ suc (6 + length rest) = omega (arith, length-append (head_of v capacity workers) rest, length_head v capacity workers) in
      ap (λ (l : List ℕ). hear_from (length fresh) v 7 l) (past_head s rest v capacity workers lent n p ends got.0 got.1 rest)
      ∙ ap (λ (k : ℕ). hear_from k v 7 rest) count ∙ hear_next (6 + length rest) v 7 rest f e ∙ is _ ∙ stops _

  told : (number at : ℕ) → (number ≡ 16 → ⊥) → hear_in v fresh ≡ stopped number at → read_of (s ++ rest) room ≡ reading.Refused number (at + (length s - 7))
  unfolding read_by count_in
  told number at ne x =
      (reading_by_pieces s rest v capacity workers lent n p ends).refused room number at ne
      (rest_read s rest v capacity workers lent n p ends got.0 got.1 room ∙ ap (λ (y : Heard). read_by room v capacity workers (count_in y)) x)

later : (s rest : List ℕ) (v : Variant) (capacity workers space n room number : ℕ) → Below 256 s → read_of (s ++ end_of v) space ≡ reading.Schedule v capacity workers n
    → field_in v rest ≡ field.Fault number → read_of (s ++ rest) room ≡ reading.Refused number (length s)
unfolding heard_by
later s rest v capacity workers space n room number p h e =
    told s rest v capacity workers space n room p h number 7 (field_below number (subst FieldNumber e (field_number v rest)))
    (heard_first s rest v capacity workers space n room p h (field.Fault number) e (λ after. stopped number 7) (λ after. refl) (stopped number 7) (λ after. refl))
    ∙ ap (reading.Refused number) (long s rest v capacity workers space n room p h)

past : (s more : List ℕ) (v : Variant) (capacity workers space n room b : ℕ) → Below 256 s → read_of (s ++ end_of v) space ≡ reading.Schedule v capacity workers n
    → read_of (s ++ (end_of v ++ b ∷ more)) room ≡ reading.Refused 15 (length s + 3)
unfolding heard_by
past s more v capacity workers space n room b p h =
    let rest : List ℕ = end_of v ++ b ∷ more in
    let extra : length rest ≡ 3 → ⊥ = λ e. omega (arith, length-append (end_of v) (b ∷ more), length_end v) in
    let sum : 10 + (length s - 7) ≡ length s + 3 = omega (arith, long s rest v capacity workers space n room p h) in
    told s rest v capacity workers space n room p h 15 10 (λ e. omega arith)
    (heard_first s rest v capacity workers space n room p h field.End (end_found v (b ∷ more)) (λ after. cond (eqb (length rest) 3) (heard []) (stopped 15 10)) (λ after. refl) (stopped 15 10)
    (λ after. simp (ne_eqb (length rest) 3 extra)))
    ∙ ap (reading.Refused 15) sum

-- 16 is given where all else is heard
short_heard : (room count : ℕ) (v : Variant) (capacity workers : ℕ) (x : Heard) → HeardNumber x → read_by room v capacity workers (count_in x) ≡ reading.Refused 16 count
    → read_by count v capacity workers (count_in x) ≡ reading.Schedule v capacity workers count
unfolding read_by count_in
short_heard room count v capacity workers (stopped number at) q e = let z : number ≡ 16 = cc in absurd (below_sixteen number q z)
short_heard room count v capacity workers (heard words) q e = go (ltb room (length words)) e
  where
    go : (b : Bool) → cond b (reading.Refused 16 (length words)) (reading.Schedule v capacity workers (length words)) ≡ reading.Refused 16 count
        → cond (ltb count (length words)) (reading.Refused 16 (length words)) (reading.Schedule v capacity workers (length words)) ≡ reading.Schedule v capacity workers count
    go true e = let z : length words ≡ count = cc in simp (le-ltb count (length words) (omega (arith, z))) (ap (reading.Schedule v capacity workers) z)
    go false e = let z : ◌≡◌ {A = ℕ} 0 1 = cc in absurd (omega arith)

short : (s : List ℕ) (room count : ℕ) → read_of s room ≡ reading.Refused 16 count → (v : Variant) × (capacity : ℕ) × (workers : ℕ) × (read_of s count ≡ reading.Schedule v capacity workers count)
unfolding read_of read_after hear_in
short s room count e = go (head_in s) (head_number s) e
  where
    go : (f : Head) → HeadNumber f → read_after s room f ≡ reading.Refused 16 count → (v : Variant) × (capacity : ℕ) × (workers : ℕ) × (read_after s count f ≡ reading.Schedule v capacity workers count)
    go (head.Fault number) q e = let z : number ≡ 16 = cc in absurd (head_below number q z)
    go (head.Makes v capacity workers) q e =
        (v, capacity, workers, short_heard room count v capacity workers (hear_from (length s) v 7 (drop 7 s)) (heard_number (length s) v 7 (drop 7 s)) e)

pub first_fault : FirstFault read_of
first_fault = record { first = first_fault_first; later = later; past = past; short = short }
