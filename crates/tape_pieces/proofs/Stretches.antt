-- A stretch of entries, an entry more at a time.
use Rattle.std.proofs.Common.{◌≡◌, ℕ, suc, ◌+◌, ◌-◌, ◌*◌, ◌/◌, ◌<◌, ◌≤◌, true, false, List, [], ◌∷◌, ◌++◌, length, take, drop, set, sym, refl, ap, ◌∙◌, ap₂, append_assoc, arith, length-append, length-drop, take-append-drop, length-take-le, drop-drop, take_at}
use Rattle.tapes_numbers.specs.declared.Variant.{Variant}
use Rattle.tapes_fields.specs.declared.Field.{Field}
use Rattle.tapes_fields.specs.declared.Field.TheVariants as field
use Rattle.tapes_fields.specs.Fields.{size_of, over}
use Rattle.tapes_fields.specs.Judged.{field_in}
use Rattle.tapes_fields.proofs.Reading.{entry_whole}
use Rattle.tapes_fields.proofs.Writing.{over_byte}
use Rattle.tapes.specs.Heard.{Heard, stopped, heard, joined, long_of, heard_by, hear_from}
use Rattle.tapes.proofs.Hears.{rest_of}
use Rattle.tape_pieces.specs.Stretches.{passed}

pub true_no_false : true ≡ false → ⊥
true_no_false q = let z : ◌≡◌ {A = ℕ} 0 1 = cc in omega arith

passed_none : (h : Heard) → passed [] h ≡ h
unfolding passed
passed_none (stopped number at) = refl
passed_none (heard more) = refl

passed_two : (w : List ℕ) (first item : ℕ) (h : Heard) → passed (w ++ (first ∷ item ∷ [])) h ≡ passed w (joined first item h)
unfolding passed joined
passed_two w first item (stopped number at) = refl
passed_two w first item (heard more) = ap heard (append_assoc w (first ∷ item ∷ []) more)

pub no_bytes : (v : Variant) (s : List ℕ) (at : ℕ) → length s < at → field.Fault 12 ≡ field_in v (drop at s)
unfolding field_in
no_bytes v s at h = none (drop at s) (omega (arith, length-drop at s))
  where
    none : (l : List ℕ) → length l ≡ 0 → field.Fault 12 ≡ field_in v l
    none [] e = refl
    none (x ∷ l) e = absurd (omega arith)

pub none_passed : (v : Variant) (s w : List ℕ) (from : ℕ) → passed (take 0 w) (hear_from (length s - 0 / 2) v from (drop from s)) ≡ hear_from (length s) v from (drop from s)
none_passed v s w from = let z : length s - 0 / 2 ≡ length s = omega arith in rw z (passed_none (hear_from (length s) v from (drop from s)))

module _ (v : Variant) (s : List ℕ) (at : ℕ) (f : Field) (is : f ≡ field_in v (take (length s - at) (drop at s))) where
  field_there : f ≡ field_in v (drop at s)
  field_there = is ∙ ap (field_in v) (rest_of s at)

  pub stop_there : (g : Field) → f ≡ g → g ≡ field_in v (drop at s)
  stop_there g e = sym e ∙ field_there

  module _ (first item k : ℕ) (e : f ≡ field.Entry first item) (k-is : k ≡ size_of first) (in_it : at ≤ length s) where
    entry_inside : at + k ≤ length s
    entry_inside = omega (arith, entry_whole v (drop at s) first item (sym field_there ∙ e), length-drop at s)

    pub entry_passed : (w : List ℕ) (from n : ℕ) (whole : Heard) → from + 2 * n ≤ at → n + 1 < length w
        → passed (take n w) (hear_from (length s - n / 2) v at (drop at s)) ≡ whole
        → passed (take (n + 2) (set (set w n first) (n + 1) item)) (hear_from (length s - (n + 2) / 2) v (at + k) (drop (at + k) s)) ≡ whole
    unfolding hear_from heard_by long_of size_of over
    entry_passed w from n whole low room back =
        let p : List ℕ = take n w in
        let long : n ≡ length p = sym (length-take-le n w (omega arith)) in
        let long-1 : n + 1 ≡ length (p ++ (first ∷ [])) = omega (arith, length-append p (first ∷ []), long) in
        let long-2 : length (p ++ (first ∷ item ∷ [])) ≡ n + 2 = omega (arith, length-append p (first ∷ item ∷ []), long) in
        let same : over p w ≡ w = ap (λ (i : ℕ). p ++ drop i w) (sym long) ∙ take-append-drop n w in
        let written : set (set w n first) (n + 1) item ≡ over (p ++ (first ∷ item ∷ [])) w
        = ap (λ (l : List ℕ). set (set l n first) (n + 1) item) (sym same)
        ∙ ap (λ (l : List ℕ). set l (n + 1) item) (over_byte p w first n long (omega arith))
        ∙ over_byte (p ++ (first ∷ [])) w item (n + 1) long-1 room
        ∙ ap (λ (l : List ℕ). over l w) (append_assoc p (first ∷ []) (item ∷ [])) in
        let taken : take (n + 2) (set (set w n first) (n + 1) item) ≡ p ++ (first ∷ item ∷ [])
        = ap (take (n + 2)) written ∙ take_at (p ++ (first ∷ item ∷ [])) (drop (length (p ++ (first ∷ item ∷ []))) w) (n + 2) long-2 in
        let fuel : length s - n / 2 ≡ suc (length s - (n + 2) / 2) = omega (arith, entry_inside, k-is) in
        let rest : Heard = hear_from (length s - (n + 2) / 2) v (at + size_of first) (drop (size_of first) (drop at s)) in
        let one : hear_from (length s - n / 2) v at (drop at s) ≡ joined first item rest
        = ap (λ (m : ℕ). hear_from m v at (drop at s)) fuel
        ∙ ap (λ (g : Field). heard_by at (drop at s) g (hear_from (length s - (n + 2) / 2) v (at + long_of g) (drop (long_of g) (drop at s)))) (sym field_there ∙ e) in
        ap (λ (l : List ℕ). passed l (hear_from (length s - (n + 2) / 2) v (at + k) (drop (at + k) s))) taken
        ∙ ap (passed (p ++ (first ∷ item ∷ [])))
        (ap₂ (λ (j : ℕ) (l : List ℕ). hear_from (length s - (n + 2) / 2) v (at + j) l) k-is (sym (drop-drop k at s) ∙ ap (λ (j : ℕ). drop j (drop at s)) k-is))
        ∙ passed_two p first item rest
        ∙ ap (passed p) (sym one)
        ∙ back
