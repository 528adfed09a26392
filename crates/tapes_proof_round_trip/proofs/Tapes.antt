-- A tape that was written is heard, and a tape that was heard is the one that is written.
use Prim.Native.Nat.{ℕ, zero, suc, ◌+◌, ◌/◌, ◌%◌, ◌^◌, ◌<◌}
use mathlib.Core.Path.{◌≡◌, refl, sym, ap, ◌∙◌, subst}
use mathlib.Core.Bool.{Bool, true, false, cond}
use mathlib.Core.List.{List, [], ◌∷◌, ◌++◌, append_assoc, append-nil}
use native.Mathlib.Omega.{arith}
use lib.Dec.{eqb}
use lib.ListN.{length, drop, length-append, drop_of_length-le}
use lib.Seq.{drop_at}
use borrow.Author.Tests.{eq-eqb, eqb-true}
use Rattle.tapes_numbers.specs.declared.Variant.{Variant}
use Rattle.tapes_fields.specs.declared.Field.{Field}
use Rattle.tapes_fields.specs.declared.Field.TheVariants as field
use Rattle.tapes_fields.specs.Fields.{entry_field_of, end_of, size_of}
use Rattle.tapes_fields.specs.Judged.{field_in, carried}
use Rattle.tapes_fields.proofs.Writing.{length_entry, length_end}
use Rattle.tapes_fields.proofs.Reading.{carried_means}
use Rattle.tapes.specs.declared.Load.TheVariants.{Unfit, Bytes}
use Rattle.tapes.specs.Written.{entries_of, load_from}
use Rattle.tapes.specs.Heard.{Heard, stopped, heard, joined, long_of, heard_by, hear_from}
use Rattle.tapes_demands.specs.Notions.{Below}
use Rattle.tapes_proof_round_trip.proofs.Numbers.{below_drop}
use Rattle.tapes_proof_round_trip.proofs.Fields.{end_found, entry_found, end_back, entry_back, entry_carried, entry_word, carried_back}

-- ---- an accepted load: each entry is carried
pub load_first : (place long n first item : ℕ) (rest : List ℕ) → load_from place long (first ∷ item ∷ rest) ≡ Bytes n
    → (carried first item ≡ true) × (load_from (place + 1) (long + size_of first) rest ≡ Bytes n)
unfolding load_from
load_first place long n first item rest = go (carried first item)
  where
    go : (b : Bool) → cond b (load_from (place + 1) (long + size_of first) rest) (Unfit place) ≡ Bytes n → (b ≡ true) × (load_from (place + 1) (long + size_of first) rest ≡ Bytes n)
    go true h = (refl, h)
    go false h = let z : ◌≡◌ {A = ℕ} 0 1 = cc in absurd (omega arith)

-- ---- written, then heard
hear_end : (more : ℕ) (v : Variant) (at : ℕ) → hear_from (suc more) v at (end_of v) ≡ heard []
unfolding hear_from heard_by
hear_end more v at =
    let is : field_in v (end_of v) ≡ field.End = ap (field_in v) (sym (append-nil (end_of v))) ∙ end_found v [] in
    ap (λ (f : Field). heard_by at (end_of v) f (hear_from more v (at + long_of f) (drop (long_of f) (end_of v)))) is
    ∙ simp (eq-eqb (length (end_of v)) 3 (length_end v))

pub hear_written : (v : Variant) (words : List ℕ) (more at place long n : ℕ) → Below (2 ^ 64) words → (length words % 2 ≡ 1 → ⊥) → load_from place long words ≡ Bytes n
    → length words / 2 < more → hear_from more v at (entries_of v words ++ end_of v) ≡ heard words
unfolding hear_from heard_by long_of joined entries_of
hear_written v words zero at place long n p even load h = absurd (omega arith)
hear_written v [] (suc more) at place long n p even load h = hear_end more v at
hear_written v (x ∷ []) (suc more) at place long n p even load h = absurd (even refl)
hear_written v (first ∷ item ∷ rest) (suc more) at place long n p even load h =
    let l = load_first place long n first item rest load in
    let left : List ℕ = entries_of v rest ++ end_of v in
    let s_is : (entry_field_of v first item ++ entries_of v rest) ++ end_of v ≡ entry_field_of v first item ++ left = append_assoc (entry_field_of v first item) (entries_of v rest) (end_of v) in
    let is : field_in v (entry_field_of v first item ++ left) ≡ field.Entry first item = entry_found v first item left (carried_means first item l.0) p.1.0 in
    let past : drop (size_of first) (entry_field_of v first item ++ left) ≡ left = drop_at (entry_field_of v first item) left (size_of first) (length_entry v first item) in
    let even-rest : length rest % 2 ≡ 1 → ⊥ = λ e. even (omega arith) in
    ap (hear_from (suc more) v at) s_is
    ∙ ap (λ (f : Field). heard_by at (entry_field_of v first item ++ left) f (hear_from more v (at + long_of f) (drop (long_of f) (entry_field_of v first item ++ left)))) is
    ∙ ap (λ (l : List ℕ). joined first item (hear_from more v (at + size_of first) l)) past
    ∙ ap (joined first item) (hear_written v rest more (at + size_of first) (place + 1) (long + size_of first) n p.1.1 even-rest l.1 (omega arith))

-- ---- heard, then written
pub record Heard-back (v : Variant) (s words : List ℕ) : Type 0 where
  pub is : s ≡ entries_of v words ++ end_of v
  pub even : length words % 2 ≡ 0
  pub low : Below (2 ^ 64) words
  pub load : (place long : ℕ) → load_from place long words ≡ Bytes (long + length (entries_of v words))

back_none : (v : Variant) (s : List ℕ) → Below 256 s → field_in v s ≡ field.End → length s ≡ 3 → Heard-back v s []
unfolding entries_of load_from
back_none v s p f e = record {
  is = end_back v s p f ∙ ap (λ (l : List ℕ). end_of v ++ l) (drop_of_length-le s {i = 3} (omega arith)) ∙ append-nil (end_of v);
  even = refl;
  low = tt;
  load = λ place long. let z : long ≡ long + 0 = omega arith in ap Bytes z;
}

back_end : (v : Variant) (at : ℕ) (s words : List ℕ) → Below 256 s → field_in v s ≡ field.End → cond (eqb (length s) 3) (heard []) (stopped 15 (at + 3)) ≡ heard words → Heard-back v s words
back_end v at s words p f = go (eqb (length s) 3) refl words
  where
    go : (b : Bool) → eqb (length s) 3 ≡ b → (ws : List ℕ) → cond b (heard []) (stopped 15 (at + 3)) ≡ heard ws → Heard-back v s ws
    go true e [] h = back_none v s p f (eqb-true (length s) 3 e)
    go true e (w ∷ ws) h = let z : ◌≡◌ {A = ℕ} 0 1 = cc in absurd (omega arith)
    go false e ws h = let z : ◌≡◌ {A = ℕ} 0 1 = cc in absurd (omega arith)

back_more : (v : Variant) (s : List ℕ) (first item : ℕ) (ws : List ℕ) → Below 256 s → field_in v s ≡ field.Entry first item
    → Heard-back v (drop (size_of first) s) ws → Heard-back v s (first ∷ item ∷ ws)
unfolding entries_of load_from
back_more v s first item ws p f rest = record {
  is = entry_back s v first item p f ∙ ap (λ (l : List ℕ). entry_field_of v first item ++ l) rest.is ∙ sym (append_assoc (entry_field_of v first item) (entries_of v ws) (end_of v));
  even = omega (arith, rest.even);
  low = (omega (arith, (entry_carried s v first item p f).byte), (entry_word s v first item p f, rest.low));
  load = λ place long.
      let sum : long + size_of first + length (entries_of v ws) ≡ long + length (entry_field_of v first item ++ entries_of v ws) = omega
      (arith, length-append (entry_field_of v first item) (entries_of v ws), length_entry v first item) in
      simp (carried_back first item (entry_carried s v first item p f)) (rest.load (place + 1) (long + size_of first) ∙ ap Bytes sum);
}

back_entry : (v : Variant) (s : List ℕ) (first item : ℕ) (after : Heard) (words : List ℕ) → Below 256 s → field_in v s ≡ field.Entry first item
    → ((ws : List ℕ) → after ≡ heard ws → Heard-back v (drop (size_of first) s) ws) → joined first item after ≡ heard words → Heard-back v s words
unfolding joined
back_entry v s first item (stopped number at) words p f ih h = let z : ◌≡◌ {A = ℕ} 0 1 = cc in absurd (omega arith)
back_entry v s first item (heard ws) words p f ih h =
    let same : first ∷ item ∷ ws ≡ words = cc in
    subst (Heard-back v s) same (back_more v s first item ws p f (ih ws refl))

pub hear_back : (more : ℕ) (v : Variant) (at : ℕ) (s words : List ℕ) → Below 256 s → hear_from more v at s ≡ heard words → Heard-back v s words
unfolding hear_from heard_by long_of
hear_back zero v at s words p h = let z : ◌≡◌ {A = ℕ} 0 1 = cc in absurd (omega arith)
hear_back (suc more) v at s words p h = go (field_in v s) refl h (λ k ws. hear_back more v (at + k) (drop k s) ws (below_drop 256 k s p))
  where
    go : (f : Field) → field_in v s ≡ f → heard_by at s f (hear_from more v (at + long_of f) (drop (long_of f) s)) ≡ heard words
        → ((k : ℕ) (ws : List ℕ) → hear_from more v (at + k) (drop k s) ≡ heard ws → Heard-back v (drop k s) ws) → Heard-back v s words
    go (field.Fault number) e q ih = let z : ◌≡◌ {A = ℕ} 0 1 = cc in absurd (omega arith)
    go field.End e q ih = back_end v at s words p e q
    go (field.Entry first item) e q ih = back_entry v s first item (hear_from more v (at + size_of first) (drop (size_of first) s)) words p e (ih (size_of first)) q
