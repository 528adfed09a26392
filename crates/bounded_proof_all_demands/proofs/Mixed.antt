-- Step, begin, act and run in any mixture are one schedule of the entries that were accepted: of the machine that holds its records, at either width.
use Prim.Native.Nat.{ℕ, ◌%◌}
use mathlib.Core.Path.{◌≡◌, refl, sym, ◌∙◌, subst}
use mathlib.Core.Bool.{Bool, true, false, cond}
use mathlib.Core.List.{List, [], ◌∷◌}
use native.Mathlib.Omega.{arith}
use lib.Dec.{eqb, ltb}
use borrow.Author.Tests.{eqb-false}
use Rattle.queue_entries.specs.Limits.{workers_most, in_limits}
use Rattle.queue_entries.specs.Entries.{entry_of}
use Rattle.queue_entries.specs.Schedules.{search_by}
use Rattle.queue_entries.proofs.Limits.{limit_some, limit_most}
use Rattle.bounded_words.specs.declared.Width.{Width}
use Rattle.bounded_words.specs.declared.Width.TheVariants.{Sixteen, SixtyFour}
use Rattle.bounded_words.specs.Limits.{slots_most, editions_most}
use Rattle.bounded_acts.specs.Acts.{act_of}
use Rattle.bounded_machine.specs.declared.Machine.{Machine}
use Rattle.bounded_machine.specs.declared.Did.{Did}
use Rattle.bounded_machine.specs.Machine.{fresh_of, blank, refused, accepted}
use Rattle.bounded_machine.specs.Broken.{broken_of}
use Rattle.bounded_machine.specs.Turn.{turn_at}
use Rattle.bounded_machine.specs.Run.{run_of_by}
use Rattle.bounded_machine.proofs.Kept.{either}
use Rattle.bounded_step_machine.specs.Steps.{step_of_by, begin_step_of_by, act_step_of_by}
use Rattle.bounded.specs.Bounded.{make_of}
use Rattle.bounded_sixteen_bits.specs.SixteenBits.{widened, narrowed}
use Rattle.bounded_sixteen_bits.proofs.Back.{again}
use Rattle.bounded_demands.specs.Notions.{Face, sixty_four, sixteen, of_width, document01, Allowed, ran_of, entry_unless, Asking, by_step, by_begin, by_act, by_run, left_by, taken_by, left_by_all, taken_by_all}
use Rattle.bounded_demands.specs.Demands.{AsOneSchedule, Mixed, MixedInWindow}
use Rattle.bounded_demands.proofs.Numbers.{picked}
use Rattle.bounded_demands.proofs.Refusals.{ring_queue, turn_kept}
use Rattle.bounded_demands.proofs.Mixtures.{Goes, goes_run, goes_on, schedule_goes}
use Rattle.bounded_proof_lent.proofs.Mixed.{throughout_in_window, throughout}

-- ---- what making accepts
fresh_made : (capacity workers edition : ℕ) → (make_of capacity workers edition).refusal ≡ 0
    → Allowed capacity workers edition × ((make_of capacity workers edition).machine ≡ fresh_of capacity workers edition)
unfolding make_of refused accepted
fresh_made c w e =
    either Made (in_limits c slots_most) _ (refused 1 blank)
    (λ hc. either Made (in_limits w workers_most) _ (refused 2 blank)
    (λ hw. either Made (in_limits e editions_most) (accepted (fresh_of c w e)) (refused 18 blank)
    (λ he z. (
      record {
        slot_some = limit_some c slots_most true (sym hc) refl;
        slot_most = limit_most c slots_most true (sym hc) refl;
        worker_some = limit_some w workers_most true (sym hw) refl;
        worker_most = limit_most w workers_most true (sym hw) refl;
        edition_some = limit_some e editions_most true (sym he) refl;
        edition_most = limit_most e editions_most true (sym he) refl;
      },
      refl,
    )) (λ he z. absurd (omega arith)))
    (λ hw z. absurd (omega arith)))
    (λ hc z. absurd (omega arith))
  where
    Made : Did → Type 0
    Made d = d.refusal ≡ 0 → Allowed c w e × (d.machine ≡ fresh_of c w e)

-- ---- one call, of the one machine at this width
module _ (bits : Width) where
  abbrev Leads : Machine → List ℕ → Machine → Type 0
  Leads = Goes (ring_queue bits)

  module _ (m : Machine) (first second : ℕ) where
    abbrev Led : Did → Type 0
    Led d = Leads m (entry_unless d.refusal first second) d.machine

    turn_leads : Led (turn_at bits m first second)
    turn_leads = go (eqb (turn_at bits m first second).refusal 0) refl
      where
        d : Did
        d = turn_at bits m first second

        go : (b : Bool) → eqb d.refusal 0 ≡ b → Led d
        go true e = subst (λ (b : Bool). Leads m (cond b (first ∷ second ∷ []) []) d.machine) (sym e) (e, refl)
        go false e = subst (λ (b : Bool). Leads m (cond b (first ∷ second ∷ []) []) d.machine) (sym e) (sym (turn_kept bits m first second (eqb-false d.refusal 0 e)))

    refused_leads : (k : ℕ) → eqb k 0 ≡ false → Led (refused k m)
    unfolding refused
    refused_leads k e = subst (λ (b : Bool). Leads m (cond b (first ∷ second ∷ []) []) m) (sym e) refl

    step_leads : Led (step_of_by (act_of bits) m first second)
    unfolding step_of_by
    step_leads = picked Led (broken_of m) (refused 6 m) (turn_at bits m first second) (refused_leads 6 refl) turn_leads

    begin_leads : Led (begin_step_of_by (act_of bits) m first second)
    unfolding begin_step_of_by
    begin_leads =
        picked Led (broken_of m) (refused 6 m) _ (refused_leads 6 refl)
        (picked Led (ltb (first % 16) 8) (turn_at bits m first second) (refused 9 m) turn_leads (refused_leads 9 refl))

    act_leads : Led (act_step_of_by (act_of bits) m first second)
    unfolding act_step_of_by
    act_leads =
        picked Led (broken_of m) (refused 6 m) _ (refused_leads 6 refl)
        (picked Led (ltb (first % 16) 8) (refused 9 m) (turn_at bits m first second) (refused_leads 9 refl) turn_leads)

    -- told otherwise
    moved : (d : Did) (refusal : ℕ) (z : Machine) → (refusal ≡ d.refusal) × (z ≡ d.machine) → Led d → Leads m (entry_unless refusal first second) z
    moved d refusal z e led =
        subst (Leads m (entry_unless refusal first second)) (sym e.1) (subst (λ (k : ℕ). Leads m (entry_unless k first second) d.machine) (sym e.0) led)

  -- ---- by a face that keeps the one machine's numbers
  pub record Keeps {M D R : Type 0} (f : Face M D R) : Type 0 where
    pub step : (m : M) (a b : ℕ) → (f.refusal (f.step m a b) ≡ (step_of_by (act_of bits) (f.wide m) a b).refusal) × (f.wide (f.left (f.step m a b)) ≡ (step_of_by (act_of bits) (f.wide m) a b).machine)
    pub begin : (m : M) (a b : ℕ) → (f.refusal (f.begin m a b) ≡ (begin_step_of_by (act_of bits) (f.wide m) a b).refusal)
        × (f.wide (f.left (f.begin m a b)) ≡ (begin_step_of_by (act_of bits) (f.wide m) a b).machine)
    pub act : (m : M) (a b : ℕ) → (f.refusal (f.act m a b) ≡ (act_step_of_by (act_of bits) (f.wide m) a b).refusal)
        × (f.wide (f.left (f.act m a b)) ≡ (act_step_of_by (act_of bits) (f.wide m) a b).machine)
    pub run : (m : M) (s : List ℕ) → (f.place_in (f.run m s) ≡ (run_of_by (act_of bits) (f.wide m) s).place) × (f.wide (f.left_in (f.run m s)) ≡ (run_of_by (act_of bits) (f.wide m) s).machine)
    pub made : (c w e : ℕ) → f.refusal (f.make c w e) ≡ 0 → ((make_of c w e).refusal ≡ 0) × (f.wide (f.left (f.make c w e)) ≡ (make_of c w e).machine)

  module _ {M D R : Type 0} (f : Face M D R) (keeps : Keeps f) where
    one : (y : Asking) (m : M) → Leads (f.wide m) (taken_by f m y) (f.wide (left_by f m y))
    one (by_step a b) m = moved (f.wide m) a b (step_of_by (act_of bits) (f.wide m) a b) _ _ (keeps.step m a b) (step_leads (f.wide m) a b)
    one (by_begin a b) m = moved (f.wide m) a b (begin_step_of_by (act_of bits) (f.wide m) a b) _ _ (keeps.begin m a b) (begin_leads (f.wide m) a b)
    one (by_act a b) m = moved (f.wide m) a b (act_step_of_by (act_of bits) (f.wide m) a b) _ _ (keeps.act m a b) (act_leads (f.wide m) a b)
    one (by_run s) m =
        subst (Leads (f.wide m) (taken_by f m (by_run s))) (sym (keeps.run m s).1)
        (subst (λ (k : ℕ). Leads (f.wide m) (ran_of (search_by entry_of 0 s) k s) (run_of_by (act_of bits) (f.wide m) s).machine) (sym (keeps.run m s).0)
        (schedule_goes (ring_queue bits) broken_of (f.wide m) s))

    mixed : (askings : List Asking) (m : M) → Leads (f.wide m) (taken_by_all f m askings) (f.wide (left_by_all f m askings))
    unfolding left_by_all taken_by_all
    mixed [] m = refl
    mixed (y ∷ rest) m =
        goes_on (ring_queue bits) (taken_by f m y) (taken_by_all f (left_by f m y) rest) (f.wide m) (f.wide (left_by f m y)) (f.wide (left_by_all f (left_by f m y) rest))
        (one y m) (mixed rest (left_by f m y))

    pub as_one : (capacity workers edition : ℕ) → f.refusal (f.make capacity workers edition) ≡ 0 → (askings : List Asking)
        → Allowed capacity workers edition
        × AsOneSchedule (of_width bits) capacity workers edition (f.wide (left_by_all f (f.left (f.make capacity workers edition)) askings))
        (taken_by_all f (f.left (f.make capacity workers edition)) askings)
    as_one capacity workers edition made askings =
        let first = f.left (f.make capacity workers edition) in
        let its = keeps.made capacity workers edition made in
        let fresh = fresh_made capacity workers edition its.0 in
        let left = f.wide (left_by_all f first askings) in
        let entries = taken_by_all f first askings in
        let so = goes_run (ring_queue bits) entries (fresh_of capacity workers edition) left 0 (subst (λ (m : Machine). Leads m entries left) (its.1 ∙ fresh.1) (mixed askings first)) in
        (fresh.0, record { accepted = so.0; machine = so.1 })

pub sixty_four_keeps : Keeps SixtyFour sixty_four
sixty_four_keeps =
    record { step = λ m a b. (refl, refl); begin = λ m a b. (refl, refl); act = λ m a b. (refl, refl); run = λ m s. (refl, refl); made = λ c w e h. (h, refl) }

pub sixteen_keeps : Keeps Sixteen sixteen
sixteen_keeps =
    record {
      step = λ m a b. (refl, again (step_of_by (act_of Sixteen) (widened m) a b).machine);
      begin = λ m a b. (refl, again (begin_step_of_by (act_of Sixteen) (widened m) a b).machine);
      act = λ m a b. (refl, again (act_step_of_by (act_of Sixteen) (widened m) a b).machine);
      run = λ m s. (refl, again (run_of_by (act_of Sixteen) (widened m) s).machine);
      made = λ c w e h. (h, again (make_of c w e).machine);
    }

pub any_mixture : Mixed sixty_four document01
any_mixture capacity workers edition made askings =
    let o = as_one SixtyFour sixty_four sixty_four_keeps capacity workers edition made askings in
    (o.1, throughout workers_most capacity workers edition o.0 (taken_by_all sixty_four (make_of capacity workers edition).machine askings))

pub any_mixture_in_window : MixedInWindow sixteen (of_width Sixteen)
any_mixture_in_window capacity workers edition made askings =
    let o = as_one Sixteen sixteen sixteen_keeps capacity workers edition made askings in
    (o.1, throughout_in_window Sixteen workers_most capacity workers edition o.0 (taken_by_all sixteen (narrowed (make_of capacity workers edition).machine) askings))
