-- Making, judging and telling, test by test.
use Prim.Native.Nat.{ℕ, suc, ◌+◌, ◌%◌, ◌/◌, ◌≤◌}
use mathlib.Core.Path.{◌≡◌, refl, sym, ap, ◌∙◌}
use mathlib.Core.Bool.{Bool, true, false, cond}
use mathlib.Core.List.{List, [], ◌∷◌}
use native.Mathlib.Omega.{arith}
use lib.Dec.{eqb}
use lib.ListN.{length}
use Rattle.queue_entries.specs.Limits.{in_limits}
use Rattle.queue_entries.specs.Schedules.{run_by, search_by, schedule_by}
use Rattle.queue_entries.specs.Entries.{entry_of}
use Rattle.std.specs.Prelude.{Option, Some, None, Ok, Err}
use Rattle.queue_entries.specs.Told.{told}
use Rattle.queue_entries.proofs.Pick.{yes, no, equal, other}
use Rattle.queue_entries.proofs.Limits.{limit_most}
use Rattle.bounded_words.specs.Limits.{slots_most, editions_most}
use Rattle.bounded_machine.specs.declared.Machine.{Machine}
use Rattle.bounded_machine.specs.Machine.{fresh_of, blank}
use Rattle.bounded_machine.proofs.Kept.{either}
use Rattle.bounded_orders.specs.declared.Made.{Made}
use Rattle.bounded_orders.specs.Orders.{make_by, make_refusal_with, make_refusal, made_from, made_of, unless_refused, report, read_through, judged_of, capacity_told}

module _ (most capacity workers edition : ℕ) (a : Bool) (ea : a ≡ in_limits capacity slots_most) where
  pub refuses_1 : a ≡ false → 1 ≡ make_refusal_with most capacity workers edition
  unfolding make_refusal_with
  refuses_1 h = no _ a _ _ _ ea h refl

  module _ (ha : a ≡ true) (b : Bool) (eb : b ≡ in_limits workers most) where
    pub refuses_2 : b ≡ false → 2 ≡ make_refusal_with most capacity workers edition
    unfolding make_refusal_with
    refuses_2 h = yes _ a _ _ _ ea ha (no _ b _ _ _ eb h refl)

    module _ (hb : b ≡ true) (c : Bool) (ec : c ≡ in_limits edition editions_most) where
      pub refuses_18 : c ≡ false → 18 ≡ make_refusal_with most capacity workers edition
      unfolding make_refusal_with
      refuses_18 h = yes _ a _ _ _ ea ha (yes _ b _ _ _ eb hb (no _ c _ _ _ ec h refl))

      pub refuses_none : c ≡ true → 0 ≡ make_refusal_with most capacity workers edition
      unfolding make_refusal_with
      refuses_none h = yes _ a _ _ _ ea ha (yes _ b _ _ _ eb hb (yes _ c _ _ _ ec h refl))

-- what is not refused has its slots
pub slots_few : (most capacity workers edition number : ℕ) → number ≡ make_refusal_with most capacity workers edition → number ≡ 0 → capacity ≤ slots_most
unfolding make_refusal_with
slots_few most capacity workers edition number e z =
    either (λ (n : ℕ). n ≡ 0 → capacity ≤ slots_most) (in_limits capacity slots_most) _ 1 (λ h k. limit_most capacity slots_most true (sym h) refl) (λ h k. absurd (omega arith)) (sym e ∙ z)

-- what is made, by the refusal's number
module _ {A : Type 0} (refuse : ℕ → A) (made : A) where
  by_tests : (a b c : Bool) → cond a (cond b (cond c made (refuse 18)) (refuse 2)) (refuse 1) ≡ cond (eqb (cond a (cond b (cond c 0 18) 2) 1) 0) made (refuse (cond a (cond b (cond c 0 18) 2) 1))
  by_tests false b c = refl
  by_tests true false c = refl
  by_tests true true false = refl
  by_tests true true true = refl

  module _ (most capacity workers edition number : ℕ) (e : number ≡ make_refusal_with most capacity workers edition) where
    numbered : make_by most refuse made capacity workers edition ≡ cond (eqb number 0) made (refuse number)
    unfolding make_refusal_with
    numbered = rw e (by_tests (in_limits capacity slots_most) (in_limits workers most) (in_limits edition editions_most))

    pub made_unrefused : number ≡ 0 → made ≡ make_by most refuse made capacity workers edition
    made_unrefused z = equal number 0 _ _ _ z refl ∙ sym numbered

    pub refused_by : (number ≡ 0 → ⊥) → refuse number ≡ make_by most refuse made capacity workers edition
    refused_by z = other number 0 _ _ _ z refl ∙ sym numbered

module _ (count capacity edition number : ℕ) (e : number ≡ make_refusal count capacity edition) (m : Machine) (r : Made) where
  pub fresh_made : number ≡ 0 → m ≡ fresh_of capacity count edition → r ≡ made_from 0 m → r ≡ made_of count capacity edition
  unfolding made_of
  fresh_made z q h = h ∙ ap (made_from 0) q ∙ equal (make_refusal count capacity edition) 0 _ _ _ (sym e ∙ z) refl

  pub blank_made : (number ≡ 0 → ⊥) → m ≡ blank → r ≡ made_from number m → r ≡ made_of count capacity edition
  unfolding made_of
  blank_made z q h = h ∙ ap (made_from number) q ∙ ap (λ (k : ℕ). made_from k blank) e ∙ other (make_refusal count capacity edition) 0 _ _ _ (λ k. z (e ∙ k)) refl

module _ (number count : ℕ) where
  pub not_refused : number ≡ 0 → count ≡ unless_refused number count
  unfolding unless_refused
  not_refused z = equal number 0 _ _ _ z refl

  pub is_refused : (number ≡ 0 → ⊥) → 0 ≡ unless_refused number count
  unfolding unless_refused
  is_refused z = other number 0 _ _ _ z refl

-- entries that do nothing are run to the end
runs_through : (s : List ℕ) (place : ℕ) → report 0 (place + length s / 2)
    ≡ run_by (λ (none : Unit {0}). 0) (λ none. none) (λ none first second. none) (λ number k none. report number k) tt place s
unfolding run_by
runs_through [] place = let e : place + 0 / 2 ≡ place = omega arith in ap (report 0) e
runs_through (x ∷ []) place = let e : place + 1 / 2 ≡ place = omega arith in ap (report 0) e
runs_through (x ∷ y ∷ rest) place =
    let e : place + suc (suc (length rest)) / 2 ≡ place + 1 + length rest / 2 = omega arith in ap (report 0) e ∙ runs_through rest (place + 1)

pub reads_through : (s : List ℕ) → report 0 (length s / 2) ≡ read_through s None
reads_through s = let e : length s / 2 ≡ 0 + length s / 2 = omega arith in ap (report 0) e ∙ runs_through s 0

module _ (broken : Bool) (s : List ℕ) where
  pub judged_6 : broken ≡ true → report 6 0 ≡ judged_of broken s
  unfolding judged_of schedule_by
  judged_6 h = yes _ broken _ _ _ refl h refl

  module _ (h : broken ≡ false) where
    pub judged_11 : length s % 2 ≡ 1 → report 11 0 ≡ judged_of broken s
    unfolding judged_of schedule_by
    judged_11 k = no _ broken _ _ _ refl h (equal (length s % 2) 1 _ _ _ k refl)

    module _ (k : length s % 2 ≡ 1 → ⊥) (f : Option ℕ) (g : f ≡ search_by entry_of 0 s) where
      found : read_through s f ≡ judged_of broken s
      unfolding judged_of schedule_by
      found = no _ broken _ _ _ refl h (other (length s % 2) 1 _ _ _ k (ap (read_through s) g))

      pub judged_9 : (i : ℕ) → f ≡ Some i → report 9 i ≡ judged_of broken s
      judged_9 i z = ap (read_through s) (sym z) ∙ found

      pub judged_read : f ≡ None → report 0 (length s / 2) ≡ judged_of broken s
      judged_read z = reads_through s ∙ ap (read_through s) (sym z) ∙ found

module _ (broken : Bool) (capacity : ℕ) where
  pub told_6 : broken ≡ true → Err 6 ≡ capacity_told broken capacity
  unfolding capacity_told told
  told_6 h = rw h refl

  pub told_capacity : broken ≡ false → Ok capacity ≡ capacity_told broken capacity
  unfolding capacity_told told
  told_capacity h = rw h refl
