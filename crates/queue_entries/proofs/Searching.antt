-- The search of a schedule for refusal 9, entry by entry.
use Prim.Native.Nat.{ℕ, suc, ◌+◌, ◌*◌, ◌/◌, ◌%◌, ◌<◌, ◌≤◌}
use mathlib.Core.Path.{◌≡◌, refl, sym, ap, ◌∙◌}
use mathlib.Core.List.{List, [], ◌∷◌}
use native.Mathlib.Omega.{arith}
use native.Mathlib.Numerals.{add-one}
use lib.ListN.{get_or, length, drop, length-drop}
use lib.Seq.{drop-cons}
use borrow.Author.Tests.{eq-eqb, ne_eqb}
use Rattle.queue_entries.specs.declared.Order.{Order}
use Rattle.queue_entries.specs.declared.Entry.{Entry}
use Rattle.queue_entries.specs.declared.Entry.TheVariants.{Unreadable, Asks}
use Rattle.std.specs.Prelude.{Option, Some, None}
use Rattle.queue_entries.specs.Entries.{entry_of, entry_but}
use Rattle.queue_entries.specs.Schedules.{stops_at, search_by}

-- the two words of the i-th entry come first
pub two_words : (s : List ℕ) (i : ℕ) → 2 * i + 1 < length s → drop (2 * i) s ≡ get_or s (2 * i) 0 ∷ get_or s (2 * i + 1) 0 ∷ drop (2 * (i + 1)) s
two_words s i l =
    let a : suc (2 * i) ≡ 2 * i + 1 = sym (add-one (2 * i)) in
    let b : suc (2 * i + 1) ≡ 2 * (i + 1) = omega arith in
    drop-cons s (2 * i) 0 (omega arith)
    ∙ ap (λ (r : List ℕ). get_or s (2 * i) 0 ∷ r)
    (ap (λ (k : ℕ). drop k s) a ∙ drop-cons s (2 * i + 1) 0 l ∙ ap (λ (k : ℕ). get_or s (2 * i + 1) 0 ∷ drop k s) b)

module _ (reading : ℕ → ℕ → Entry) (s : List ℕ) (n i : ℕ) (whole : Option ℕ) (back : search_by reading i (drop (2 * i) s) ≡ whole) (half : n ≡ length s / 2) where
  module _ (lt : i < n) (x : Entry) (ex : x ≡ reading (get_or s (2 * i) 0) (get_or s (2 * i + 1) 0)) where
    here : stops_at i x (search_by reading (i + 1) (drop (2 * (i + 1)) s)) ≡ whole
    unfolding search_by
    here = ap (λ (z : Entry). stops_at i z (search_by reading (i + 1) (drop (2 * (i + 1)) s))) ex ∙ sym (ap (search_by reading i) (two_words s i (omega arith))) ∙ back

    pub search_stops : x ≡ Unreadable → Some i ≡ whole
    search_stops h = sym (ap (λ (z : Entry). stops_at i z (search_by reading (i + 1) (drop (2 * (i + 1)) s))) h) ∙ here

    pub search_goes : (w : ℕ) (o : Order) → x ≡ Asks w o → search_by reading (i + 1) (drop (2 * (i + 1)) s) ≡ whole
    search_goes w o h = sym (ap (λ (z : Entry). stops_at i z (search_by reading (i + 1) (drop (2 * (i + 1)) s))) h) ∙ here

  short : (l : List ℕ) → length l ≤ 1 → search_by reading i l ≡ None
  unfolding search_by
  short [] e = refl
  short (a ∷ []) e = refl
  short (a ∷ b ∷ l) e = absurd (omega arith)

  pub search_ends : n ≤ i → None ≡ whole
  search_ends ge = sym (short (drop (2 * i) s) (omega (arith, length-drop (2 * i) s))) ∙ back

pub is_barred : (barred first second : ℕ) → first % 16 ≡ barred → Unreadable ≡ entry_but barred first second
unfolding entry_but
is_barred barred first second h = sym (simp (eq-eqb (first % 16) barred h))

pub not_barred : (barred first second : ℕ) (r : Entry) → (first % 16 ≡ barred → ⊥) → r ≡ entry_of first second → r ≡ entry_but barred first second
unfolding entry_but
not_barred barred first second r h e = e ∙ sym (simp (ne_eqb (first % 16) barred h))

-- no code is 16
all_calls : (first second : ℕ) → entry_but 16 first second ≡ entry_of first second
unfolding entry_but
all_calls first second = simp (ne_eqb (first % 16) 16 (λ e. omega arith))

pub search_all : (s : List ℕ) (i : ℕ) → search_by (entry_but 16) i s ≡ search_by entry_of i s
unfolding search_by
search_all [] i = refl
search_all (a ∷ []) i = refl
search_all (a ∷ b ∷ s) i =
    ap (λ (x : Entry). stops_at i x (search_by (entry_but 16) (i + 1) s)) (all_calls a b) ∙ ap (stops_at i (entry_of a b)) (search_all s (i + 1))
