-- The writer's order, and that every tape of a schedule that can be carried is read.
use Prim.Native.Nat.{ℕ, suc, ◌+◌, ◌/◌, ◌%◌, ◌<◌, ◌≤◌}
use mathlib.Core.Path.{◌≡◌, refl, ap, ◌∙◌, subst}
use mathlib.Core.Bool.{Bool, true, false, cond}
use mathlib.Core.List.{List, [], ◌∷◌, ◌++◌}
use mathlib.Core.Logic.{◌⊎◌, inl, inr}
use native.Mathlib.Omega.{arith}
use lib.Dec.{ltb, eqb}
use lib.ListN.{length, take, length-append, replicate, length-replicate}
use borrow.Author.Tests.{lt-ltb, le-ltb, eq-eqb, ne_eqb}
use Rattle.tapes_fields.specs.Fields.{item_long, size_of}
use Rattle.tapes_fields.specs.Judged.{carried}
use Rattle.tapes.specs.declared.Load.TheVariants.{Unfit, Bytes}
use Rattle.tapes.specs.declared.Writing.TheVariants.{Refused, Tape}
use Rattle.tapes.specs.declared.Reading.TheVariants as reading
use Rattle.tapes.specs.Written.{most, tape_of, load_from, fitted, write_of, written_of}
use Rattle.tapes.specs.Heard.{read_of, read_into}
use Rattle.tapes_demands.specs.Notions.{entries_long, Carries}
use Rattle.tapes_demands.specs.Demands.{WriterOrder, EveryTapeRead}
use Rattle.tapes_proof_round_trip.proofs.Back.{lengths, reading_written}

size_is : (first : ℕ) → size_of first ≡ cond (ltb (first % 16) 2) 12 4
unfolding size_of item_long
size_is first = go (ltb (first % 16) 2)
  where
    go : (b : Bool) → 4 + cond b 8 0 ≡ cond b 12 4
    go true = refl
    go false = refl

-- the length of entries that are carried; and the place of the first that is not
loads : (place long : ℕ) (words : List ℕ) → Carries words → load_from place long words ≡ Bytes (long + entries_long words)
unfolding load_from entries_long
loads place long [] c = ap Bytes (let q : long ≡ long + 0 = omega arith in q)
loads place long (first ∷ []) c = ap Bytes (let q : long ≡ long + 0 = omega arith in q)
loads place long (first ∷ item ∷ rest) c =
    ap (λ (b : Bool). cond b (load_from (place + 1) (long + size_of first) rest) (Unfit place)) c.0
    ∙ loads (place + 1) (long + size_of first) rest c.1
    ∙ ap Bytes (let q : long + size_of first + entries_long rest ≡ long + (cond (ltb (first % 16) 2) 12 4 + entries_long rest) = omega (arith, size_is first) in q)

stops : (place long : ℕ) (words : List ℕ) (first item : ℕ) (rest : List ℕ) → length words % 2 ≡ 0 → Carries words → carried first item ≡ false
    → load_from place long (words ++ first ∷ item ∷ rest) ≡ Unfit (place + length words / 2)
unfolding load_from
stops place long [] first item rest even c h =
    ap (λ (b : Bool). cond b (load_from (place + 1) (long + size_of first) rest) (Unfit place)) h ∙ ap Unfit (let q : place ≡ place + 0 / 2 = omega arith in q)
stops place long (x ∷ []) first item rest even c h = let q : ◌≡◌ {A = ℕ} (1 % 2) 0 = even in absurd (omega (arith, q))
stops place long (x ∷ y ∷ words) first item rest even c h =
    ap (λ (b : Bool). cond b (load_from (place + 1) (long + size_of x) (words ++ first ∷ item ∷ rest)) (Unfit place)) c.0
    ∙ stops (place + 1) (long + size_of x) words first item rest (let q : suc (suc (length words)) % 2 ≡ 0 = even in omega (arith, q)) c.1 h
    ∙ ap Unfit (let q : place + 1 + length words / 2 ≡ place + suc (suc (length words)) / 2 = omega arith in q)

-- past the tests of the whole
module _ (capacity workers : ℕ) (words : List ℕ) (room : ℕ) where
  judged : length words % 2 ≡ 0 → capacity ≤ most → workers ≤ most → write_of capacity workers words room ≡ fitted room (load_from 0 10 words)
  unfolding write_of
  judged even narrow few = simp (ne_eqb (length words % 2) 1 (λ e. omega (arith, e, even)), le-ltb most capacity narrow, le-ltb most workers few)

  whole_odd : length words % 2 ≡ 1 → write_of capacity workers words room ≡ Refused 11 0
  unfolding write_of
  whole_odd odd = simp (eq-eqb (length words % 2) 1 odd)

  too_large : length words % 2 ≡ 0 → (most < capacity) ⊎ (most < workers) → write_of capacity workers words room ≡ Refused 17 0
  unfolding write_of
  too_large even (inl l) = simp (ne_eqb (length words % 2) 1 (λ e. omega (arith, e, even)), lt-ltb most capacity l)
  too_large even (inr l) = go (ltb most capacity) (eqb (length words % 2) 1) (ne_eqb (length words % 2) 1 (λ e. omega (arith, e, even))) (ltb most workers) (lt-ltb most workers l)
    where
      go : (b a : Bool) → a ≡ false → (c : Bool) → c ≡ true → cond a (Refused 11 0) (cond b (Refused 17 0) (cond c (Refused 17 0) (fitted room (load_from 0 10 words)))) ≡ Refused 17 0
      go true a p c q = rw p
      go false a p c q = rw (p, q)

too_short : (room long : ℕ) → room < long → fitted room (Bytes long) ≡ Refused 16 long
unfolding fitted
too_short room long l = simp (lt-ltb room long l)

long_enough : (room long : ℕ) → long ≤ room → fitted room (Bytes long) ≡ Tape long
unfolding fitted
long_enough room long l = simp (le-ltb room long l)

unfit : (room place : ℕ) → fitted room (Unfit place) ≡ Refused 17 place
unfolding fitted
unfit room place = refl

pub writer_order : WriterOrder
writer_order =
    record {
      odd = λ capacity workers words room. whole_odd capacity workers words room;
      large = λ capacity workers words room. too_large capacity workers words room;
      uncarried =
          λ capacity workers words first item rest room c even h.
          judged capacity workers (words ++ first ∷ item ∷ rest) room
          (let q : length (words ++ first ∷ item ∷ rest) ≡ length words + suc (suc (length rest)) = length-append words (first ∷ item ∷ rest) in omega (arith, q, c.whole, even)) c.narrow c.few
          ∙ ap (fitted room) (stops 0 10 words first item rest c.whole c.carries h) ∙ unfit room (0 + length words / 2)
          ∙ ap (Refused 17) (let q : 0 + length words / 2 ≡ length words / 2 = omega arith in q);
      short =
          λ capacity workers words room c l.
          judged capacity workers words room c.whole c.narrow c.few ∙ ap (fitted room) (loads 0 10 words c.carries) ∙ too_short room (10 + entries_long words) l;
      written =
          λ capacity workers words room c l.
          judged capacity workers words room c.whole c.narrow c.few ∙ ap (fitted room) (loads 0 10 words c.carries) ∙ long_enough room (10 + entries_long words) l;
    }

pub every_tape_read : EveryTapeRead
every_tape_read v capacity workers words lent c low fits =
    let buffer : List ℕ = replicate (10 + entries_long words) 0 in
    let long : 10 + entries_long words ≤ length buffer = omega (arith, length-replicate {A = ℕ} (10 + entries_long words) 0) in
    let h = writer_order.written capacity workers words (length buffer) c long in
    let back = reading_written v capacity workers words buffer (10 + entries_long words) low h in
    let is : take (10 + entries_long words) (written_of v capacity workers words buffer) ≡ tape_of v capacity workers words = (lengths v capacity workers words buffer (10 + entries_long words) h).3 in
    let r = back.fits lent fits in (
      subst (λ (s : List ℕ). read_of s (length lent) ≡ reading.Schedule v capacity workers (length words)) is r.0,
      subst (λ (s : List ℕ). take (length words) (read_into s lent) ≡ words) is r.1,
    )
