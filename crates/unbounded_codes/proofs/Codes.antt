-- A place's words are read back as the place, if each pointer that it holds has a word.
use Prim.Native.Nat.{ℕ}
use mathlib.Core.Path.{◌≡◌, refl, sym, ap, ◌∙◌, subst}
use mathlib.Core.Bool.{Bool, true, false}
use lib.Dec.{eqb}
use borrow.Author.Tests.{eqb-true, eqb-false}
use Rattle.unbounded_words.specs.declared.Pointer.{Pointer}
use Rattle.unbounded_words.specs.declared.Pointer.TheVariants.{None, To}
use Rattle.unbounded_words.specs.Words.{sizes, number_of}
use Rattle.unbounded_places.specs.declared.Answer.{Answer}
use Rattle.unbounded_places.specs.declared.Answer.TheVariants as answer
use Rattle.unbounded_places.specs.declared.Place.{Place}
use Rattle.unbounded_places.specs.declared.Place.TheVariants as place
use Rattle.unbounded_codes.specs.declared.Coded.{Coded}
use Rattle.unbounded_codes.specs.Codes.{five, answer_code, code_of, pointer_in, answer_in, place_in, Said, SaidOf}
use Rattle.unbounded_codes.proofs.Along.{no_block, a_block}

pub pointer_back : (p : Pointer) → Said p → pointer_in (number_of sizes p) ≡ p
unfolding pointer_in
pointer_back None h = refl
pointer_back (To k) h = sym (a_block k h)

pub word_back : (n : ℕ) → number_of sizes (pointer_in n) ≡ n
word_back n = go (eqb n 64) refl
  where
    go : (b : Bool) → eqb n 64 ≡ b → number_of sizes (pointer_in n) ≡ n
    go true e = ap (number_of sizes) (sym (no_block n (eqb-true n 64 e))) ∙ sym (eqb-true n 64 e)
    go false e = ap (number_of sizes) (sym (a_block n (eqb-false n 64 e)))

pub pointer_said : (n : ℕ) → Said (pointer_in n)
pointer_said n = go (eqb n 64) refl
  where
    go : (b : Bool) → eqb n 64 ≡ b → Said (pointer_in n)
    go true e = subst Said (no_block n (eqb-true n 64 e)) tt
    go false e = subst Said (a_block n (eqb-false n 64 e)) (eqb-false n 64 e)

answer_back : (a : Answer) → answer_in (answer_code a).code (answer_code a).first ≡ a
unfolding five
answer_back answer.Nothing = refl
answer_back answer.Pushed = refl
answer_back (answer.Closed x) = refl
answer_back (answer.Popped x) = refl
answer_back answer.Empty = refl
answer_back answer.PopClosed = refl
answer_back (answer.Len x) = refl
answer_back answer.Yes = refl
answer_back answer.No = refl

abbrev pub read_back_from : Coded → Place
read_back_from x = place_in x.code x.first x.second x.third x.fourth

pub read_back : (p : Place) → SaidOf p → read_back_from (code_of p) ≡ p
unfolding five place_in
read_back (place.Idle answer.Nothing) h = refl
read_back (place.Idle answer.Pushed) h = refl
read_back (place.Idle (answer.Closed x)) h = refl
read_back (place.Idle (answer.Popped x)) h = refl
read_back (place.Idle answer.Empty) h = refl
read_back (place.Idle answer.PopClosed) h = refl
read_back (place.Idle (answer.Len x)) h = refl
read_back (place.Idle answer.Yes) h = refl
read_back (place.Idle answer.No) h = refl
read_back (place.U1 a b) h = λ i. place.U1 (pointer_back a h.0 i) b
read_back (place.U2 a b c) h = λ i. place.U2 (pointer_back a h.0 i) b c
read_back (place.U3 a b c) h = λ i. place.U3 a (pointer_back b h.0 i) c
read_back (place.U4 a b c) h = λ i. place.U4 (pointer_back a h.0 i) b c
read_back (place.U5 a b c d) h = λ i. place.U5 (pointer_back a h.0 i) b (pointer_back c h.1 i) d
read_back (place.U6 a b c d) h = λ i. place.U6 (pointer_back a h.0 i) b (pointer_back c h.1 i) d
read_back (place.U7 a b c d) h = λ i. place.U7 (pointer_back a h.0 i) b (pointer_back c h.1 i) d
read_back (place.U8 a b c) h = λ i. place.U8 (pointer_back a h.0 i) b c
read_back (place.U9 a b c d) h = λ i. place.U9 (pointer_back a h.0 i) b (pointer_back c h.1 i) d
read_back (place.U10 a b c d) h = λ i. place.U10 (pointer_back a h.0 i) b (pointer_back c h.1 i) d
read_back (place.U11 a b c d) h = λ i. place.U11 (pointer_back a h.0 i) b (pointer_back c h.1 i) d
read_back (place.U12 a b c d) h = λ i. place.U12 (pointer_back a h.0 i) b (pointer_back c h.1 i) d
read_back (place.U13 a b c) h = λ i. place.U13 (pointer_back a h.0 i) b (pointer_back c h.1 i)
read_back (place.U14 a w) h = λ i. place.U14 (pointer_back a h.0 i) (answer_back w i)
read_back (place.U15 a b c) h = λ i. place.U15 (pointer_back a h.0 i) (pointer_back b h.1 i) c
read_back place.V1 h = refl
read_back (place.V2 a) h = refl
read_back (place.V3 a b) h = λ i. place.V3 a (pointer_back b h.0 i)
read_back (place.V4 a b c) h = λ i. place.V4 a (pointer_back b h.0 i) c
read_back (place.V5 a) h = refl
read_back (place.V6 a b c) h = λ i. place.V6 a (pointer_back b h.0 i) c
read_back (place.V7 a b c d) h = λ i. place.V7 a (pointer_back b h.0 i) c (pointer_back d h.1 i)
read_back (place.V8 a b c d) h = λ i. place.V8 a (pointer_back b h.0 i) (pointer_back c h.1 i) d
read_back (place.V9 a b c) h = λ i. place.V9 a (pointer_back b h.0 i) c
read_back (place.V10 a b) h = λ i. place.V10 a (pointer_back b h.0 i)
read_back (place.V11 a b) h = λ i. place.V11 a (pointer_back b h.0 i)
read_back (place.V12 a b c) h = λ i. place.V12 a (pointer_back b h.0 i) c
read_back (place.V13 a b c) h = λ i. place.V13 (pointer_back a h.0 i) b c
read_back (place.V14 a b c) h = λ i. place.V14 (pointer_back a h.0 i) b c
read_back (place.V15 a b) h = λ i. place.V15 (pointer_back a h.0 i) b
read_back place.Len1 h = refl
read_back (place.Len2 a) h = refl
read_back (place.Len3 a b) h = refl
read_back place.Empty1 h = refl
read_back (place.Empty2 a) h = refl
read_back place.Full1 h = refl
read_back place.Close1 h = refl
read_back place.IsClosed1 h = refl
