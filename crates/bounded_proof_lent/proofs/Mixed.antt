-- Steps and schedules in any mixture are one schedule of the entries that were accepted.
use Prim.Native.Nat.{ℕ, suc, ◌%◌}
use mathlib.Core.Path.{◌≡◌, refl, sym, ap, ◌∙◌, subst}
use mathlib.Core.Bool.{Bool, true, false, cond}
use mathlib.Core.List.{List, [], ◌∷◌}
use native.Mathlib.Omega.{arith}
use lib.Dec.{eqb}
use lib.ListN.{length}
use Rattle.queue_schedules.proofs.Schedules.{schedule_keeps}
use Rattle.bounded_words.specs.declared.Width.{Width}
use Rattle.bounded_words.specs.declared.Width.TheVariants.{SixtyFour}
use Rattle.bounded_machine.specs.declared.Machine.{Machine}
use Rattle.bounded_machine.specs.Machine.{fresh_with}
use Rattle.bounded_lent.specs.Lent.{broken_lent, Lent, run_lent, make_lent}
use Rattle.bounded_lent.proofs.Running.{Whole, turned_whole, held_again}
use Rattle.bounded_demands.specs.Notions.{with_records, AllowedWith, window_length, widest_length}
use Rattle.bounded_demands.specs.Lending.{item11, steps, held_in, Doing, stepping, running, done_lent, left_lent, taken_lent, all_taken_lent}
use Rattle.bounded_demands.specs.Demands.{WithinWindowOf, Throughout, LentMixed}
use Rattle.bounded_demands.proofs.Refusals.{ring_queue}
use Rattle.bounded_demands.proofs.Mixtures.{Goes, goes_run, goes_on, schedule_goes}
use Rattle.bounded_proof_demand2.proofs.Always.{always, widens}
use Rattle.bounded_proof_demand2.proofs.Lens.{len_true}
use Rattle.bounded_proof_demand3.proofs.Demand3.{within_in}
use Rattle.bounded_proof_plain.proofs.Plain.{plain_in}
use Rattle.bounded_proof_plain.proofs.Linearizable.{one_step_in}
use Rattle.bounded_proof_plain.proofs.Unlooked.{others_in}
use Rattle.bounded_proof_causes.proofs.Alone.{retries_in}
use Rattle.bounded_proof_lent.proofs.Throughout.{next, next_is, held_next, sound_next, stays, allowed, held_fresh, sound_fresh}
use Rattle.bounded_proof_lent.proofs.Refusals.{by_lender, ran_lent, run_sound}

-- all that is said of every schedule, of any number of records
pub within_the_widest : (bits : Width) (records : ℕ) → WithinWindowOf widest_length (with_records records bits)
within_the_widest bits records capacity workers edition a s keeps =
    record {
      within = within_in bits records capacity workers edition a s keeps;
      plain = plain_in bits records capacity workers edition a s keeps;
      one_step_lem = one_step_in bits records capacity workers edition a s keeps;
      others_one_step = others_in bits records capacity workers edition a s keeps;
      retries = λ team. retries_in bits records capacity workers edition a team s keeps;
    }

pub throughout_in_window : (bits : Width) (records : ℕ) → WithinWindowOf window_length (with_records records bits)
throughout_in_window bits records capacity workers edition a s keeps =
    within_the_widest bits records capacity workers edition a s (widens (with_records records bits) (fresh_with records capacity workers edition) [] s keeps)

pub throughout : (records capacity workers edition : ℕ) → AllowedWith records capacity workers edition → (s : List ℕ) → Throughout (with_records records SixtyFour) capacity workers edition s
throughout records capacity workers edition a s =
    record {
      in_window = within_the_widest SixtyFour records capacity workers edition a s (always records capacity workers edition a s);
      len = len_true records capacity workers edition a s;
    }

abbrev Leads : Machine → List ℕ → Machine → Type 0
Leads = Goes (ring_queue SixtyFour)

-- entries that are accepted, as steps
pub goes_steps : (s : List ℕ) (x : Lent) (z : Machine) → broken_lent x.ring x.records ≡ false → Leads (held_in x) s z → (held_in (steps item11 x s) ≡ z) × (length s % 2 ≡ 0)
unfolding steps
goes_steps [] x z sound e = (e, refl)
goes_steps (first ∷ []) x z sound e = absurd e
goes_steps (first ∷ second ∷ rest) x z sound e =
    let more = goes_steps rest (next x sound first second) z (sound_next x sound first second) (subst (λ (m : Machine). Leads m rest z) (sym (held_next x sound first second)) e.1) in
    (more.0, two_more (length rest) more.1)
  where
    two_more : (n : ℕ) → n % 2 ≡ 0 → suc (suc n) % 2 ≡ 0
    two_more n h = omega (arith, h)

-- one doing
module _ (x : Lent) (sound : broken_lent x.ring x.records ≡ false) where
  step_leads : (first second : ℕ) → Leads (held_in x) (taken_lent item11 x (stepping first second)) (held_in (done_lent item11 x (stepping first second)))
  step_leads first second = go (eqb (next x sound first second).answer 0) refl
    where
      after : Machine
      after = held_in (next x sound first second)

      go : (b : Bool) → eqb (next x sound first second).answer 0 ≡ b → Leads (held_in x) (cond (eqb (next x sound first second).answer 0) (first ∷ second ∷ []) []) after
      go true e =
          subst (λ (b : Bool). Leads (held_in x) (cond b (first ∷ second ∷ []) []) after) (sym e)
          (ap (λ (z : Lent). eqb z.answer 0) (sym (next_is x sound first second)) ∙ e, sym (held_next x sound first second))
      go false e = subst (λ (b : Bool). Leads (held_in x) (cond b (first ∷ second ∷ []) []) after) (sym e) (sym (stays x sound first second e))

  run_leads : (s : List ℕ) → Leads (held_in x) (taken_lent item11 x (running s)) (held_in (done_lent item11 x (running s)))
  unfolding run_lent
  run_leads s =
      let whole = schedule_keeps (ring_queue SixtyFour) (by_lender x.ring x.records) (Whole (length x.records))
      (λ m a b u. turned_whole (length x.records) m u a b) (held_in x) s (refl, refl) in
      subst (Leads (held_in x) (taken_lent item11 x (running s))) (sym (held_again (ran_lent x.ring x.records s).machine (whole.1 ∙ sym whole.0)))
      (schedule_goes (ring_queue SixtyFour) (by_lender x.ring x.records) (held_in x) s)

  one : (y : Doing) → Leads (held_in x) (taken_lent item11 x y) (held_in (done_lent item11 x y)) × (broken_lent (done_lent item11 x y).ring (done_lent item11 x y).records ≡ false)
  one (stepping first second) = (step_leads first second, sound_next x sound first second)
  one (running s) = (run_leads s, run_sound x.ring x.records s sound)

mixed : (doings : List Doing) (x : Lent) → broken_lent x.ring x.records ≡ false → Leads (held_in x) (all_taken_lent item11 x doings) (held_in (left_lent item11 x doings))
unfolding left_lent all_taken_lent
mixed [] x sound = refl
mixed (y ∷ rest) x sound =
    let o = one x sound y in
    goes_on (ring_queue SixtyFour) (taken_lent item11 x y) (all_taken_lent item11 (done_lent item11 x y) rest) (held_in x) (held_in (done_lent item11 x y))
    (held_in (left_lent item11 (done_lent item11 x y) rest))
    o.0 (mixed rest (done_lent item11 x y) o.1)

pub lent_mixed : LentMixed item11
lent_mixed ys capacity edition made doings =
    let n = length ys in
    let x = make_lent ys capacity edition in
    let entries = all_taken_lent item11 x doings in
    let left = held_in (left_lent item11 x doings) in
    let leads = subst (λ (m : Machine). Leads m entries left) (held_fresh ys capacity edition made) (mixed doings x (sound_fresh ys capacity edition made)) in
    let so = goes_run (ring_queue SixtyFour) entries (fresh_with n capacity n edition) left 0 leads in
    (record { accepted = so.0; machine = so.1 }, throughout n capacity n edition (allowed ys capacity edition made) entries)
