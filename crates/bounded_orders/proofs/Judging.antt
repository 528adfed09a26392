-- A whole schedule, of any machine, by what is reported of it before its first entry.
use Prim.Native.Nat.{ℕ, ◌*◌, ◌/◌, ◌%◌}
use mathlib.Core.Path.{◌≡◌, refl, sym, ap, ◌∙◌, subst}
use mathlib.Core.Bool.{Bool, true, false, cond}
use mathlib.Core.List.{List}
use native.Mathlib.Omega.{arith}
use lib.Dec.{eqb}
use lib.ListN.{length}
use borrow.Author.Tests.{eqb-false}
use Rattle.std.specs.Prelude.{Option, Some, None}
use Rattle.queue_entries.specs.Entries.{entry_of}
use Rattle.queue_entries.specs.Schedules.{run_by, search_by, searched, schedule_by}
use Rattle.bounded_orders.specs.declared.Report.{Report}
use Rattle.bounded_orders.specs.Orders.{report, read_through, judged_of}
use Rattle.bounded_orders.proofs.Making.{reads_through}

module _ {M D R : Type 0} (refusal : D → ℕ) (machine : D → M) (turn : M → ℕ → ℕ → D) (ran : ℕ → ℕ → M → R) (broken : M → Bool) (m : M) (s : List ℕ) where
  abbrev scheduled : R
  scheduled = schedule_by refusal machine turn ran broken entry_of m s

  -- nothing of it is run, or so many entries, which are all that there are
  data Judged (whole : Report) : Type 0 where
    stopped : (whole.refusal ≡ 0 → ⊥) → ran whole.refusal whole.place m ≡ scheduled → Judged whole
    running : whole.refusal ≡ 0 → broken m ≡ false → length s ≡ 2 * whole.place → run_by refusal machine turn ran m 0 s ≡ scheduled → Judged whole

  judged : (whole : Report) → whole ≡ judged_of (broken m) s → Judged whole
  unfolding judged_of schedule_by
  judged whole e = go (broken m) refl (eqb (length s % 2) 1) refl (search_by entry_of 0 s) refl
    where
      -- what is reported and what is run, by the three tests
      reports : Bool → Bool → Option ℕ → Report
      reports b o f = cond b (report 6 0) (cond o (report 11 0) (read_through s f))

      leaves : Bool → Bool → Option ℕ → R
      leaves b o f = cond b (ran 6 0 m) (cond o (ran 11 0 m) (searched refusal machine turn ran m s f))

      Met : Bool → Bool → Option ℕ → Type 0
      Met b o f = (whole ≡ reports b o f) × (leaves b o f ≡ scheduled)

      met : (b : Bool) → broken m ≡ b → (o : Bool) → eqb (length s % 2) 1 ≡ o → (f : Option ℕ) → search_by entry_of 0 s ≡ f → Met b o f
      met b eb o eo f ef =
          subst (λ (z : Bool). Met z o f) eb (subst (λ (z : Bool). Met (broken m) z f) eo (subst (λ (z : Option ℕ). Met (broken m) (eqb (length s % 2) 1) z) ef (e, refl)))

      stops : (number place : ℕ) → (number ≡ 0 → ⊥) → whole ≡ report number place → ran number place m ≡ scheduled → Judged whole
      stops number place ne is h =
          stopped (λ z. ne (sym (ap (λ (r : Report). r.refusal) is) ∙ z)) (ap (λ (r : Report). ran r.refusal r.place m) is ∙ h)

      go : (b : Bool) → broken m ≡ b → (o : Bool) → eqb (length s % 2) 1 ≡ o → (f : Option ℕ) → search_by entry_of 0 s ≡ f → Judged whole
      go true eb o eo f ef = let k = met true eb o eo f ef in stops 6 0 (λ z. absurd (omega arith)) k.0 k.1
      go false eb true eo f ef = let k = met false eb true eo f ef in stops 11 0 (λ z. absurd (omega arith)) k.0 k.1
      go false eb false eo (Some p) ef = let k = met false eb false eo (Some p) ef in stops 9 p (λ z. absurd (omega arith)) k.0 k.1
      go false eb false eo None ef =
          let k = met false eb false eo None ef in
          let through : whole ≡ report 0 (length s / 2) = k.0 ∙ sym (reads_through s) in
          let half : whole.place ≡ length s / 2 = ap (λ (r : Report). r.place) through in
          let odd = eqb-false (length s % 2) 1 eo in
          running (ap (λ (r : Report). r.refusal) through) eb (even_long half odd) k.1
        where
          even_long : whole.place ≡ length s / 2 → (length s % 2 ≡ 1 → ⊥) → length s ≡ 2 * whole.place
          even_long half odd = by (length s % 2) refl
            where
              by : (r : ℕ) → length s % 2 ≡ r → length s ≡ 2 * whole.place
              by r h = omega (arith, half, odd)

  pub record Goes (whole : Report) : Type 0 where
    pub sound : broken m ≡ false
    pub long : length s ≡ 2 * whole.place
    pub rest : run_by refusal machine turn ran m 0 s ≡ scheduled

  module _ (whole : Report) (e : whole ≡ judged_of (broken m) s) where
    pub judged_stops : (whole.refusal ≡ 0 → ⊥) → ran whole.refusal whole.place m ≡ scheduled
    judged_stops ne = go (judged whole e)
      where
        go : Judged whole → ran whole.refusal whole.place m ≡ scheduled
        go (stopped h k) = k
        go (running z h l k) = absurd (ne z)

    pub judged_goes : whole.refusal ≡ 0 → Goes whole
    judged_goes z = go (judged whole e)
      where
        go : Judged whole → Goes whole
        go (stopped h k) = absurd (h z)
        go (running y h l k) = record { sound = h; long = l; rest = k }
