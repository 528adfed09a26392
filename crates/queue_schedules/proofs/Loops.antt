-- One turn of a schedule's loop, from what is left of the run; what stands before and after the loop is in Schedules.antt.
use Prim.Native.Nat.{ℕ, ◌+◌, ◌*◌, ◌<◌, ◌≤◌}
use mathlib.Core.Path.{◌≡◌, sym, ap, ◌∙◌}
use mathlib.Core.List.{List, ◌∷◌}
use native.Mathlib.Omega.{arith}
use lib.ListN.{get_or, length, drop, drop_of_length-le}
use borrow.Author.Tests.{ne_eqb, eq-eqb}
use Rattle.queue_entries.proofs.Searching.{two_words}
use Rattle.queue_schedules.proofs.Schedules.{Queue, run_in, run_none, run_on, run_halt}

module _ {M D R : Type 0} (q : Queue M D R) (s : List ℕ) (n i : ℕ) (m : M) (whole : R) (back : run_in q m i (drop (2 * i) s) ≡ whole) (len : length s ≡ 2 * n) where
  pub loop_ended : n ≤ i → q.ran 0 i m ≡ whole
  loop_ended ge = sym (ap (run_in q m i) (drop_of_length-le s {i = 2 * i} (omega arith)) ∙ run_none q m i) ∙ back

  module _ (lt : i < n) where
    abbrev first : ℕ
    first = get_or s (2 * i) 0

    abbrev second : ℕ
    second = get_or s (2 * i + 1) 0

    whole_from : run_in q m i (first ∷ second ∷ drop (2 * (i + 1)) s) ≡ whole
    whole_from = sym (ap (run_in q m i) (two_words s i (omega arith))) ∙ back

    pub loop_stops : (k : ℕ) → 0 < k → q.refusal (q.turn m first second) ≡ k → q.ran k i m ≡ whole
    loop_stops k some e =
        ap (λ (r : ℕ). q.ran r i m) (sym e)
        ∙ sym (run_halt q m i first second _ (ne_eqb (q.refusal (q.turn m first second)) 0 (λ z. omega (arith, e)))) ∙ whole_from

    pub loop_goes : (next : M) → q.refusal (q.turn m first second) ≡ 0 → q.machine (q.turn m first second) ≡ next
        → run_in q next (i + 1) (drop (2 * (i + 1)) s) ≡ whole
    loop_goes next e g =
        ap (λ (x : M). run_in q x (i + 1) (drop (2 * (i + 1)) s)) (sym g)
        ∙ sym (run_on q m i first second _ (eq-eqb _ 0 e)) ∙ whole_from
