-- One entry by itself.
use Prim.Native.Nat.{ℕ, ◌+◌, ◌%◌, ◌<◌, ◌≤◌}
use mathlib.Core.Path.{◌≡◌, refl, sym, ap, ◌∙◌}
use mathlib.Core.Bool.{Bool, true, false, cond, true≢false}
use mathlib.Core.List.{[], ◌∷◌}
use lib.Dec.{ltb, eqb}
use borrow.Author.Tests.{eqb-true}
use Rattle.queue_entries.specs.Limits.{workers_most, in_limits}
use Rattle.std.specs.Prelude.{None, Ok, Err}
use Rattle.queue_entries.specs.Schedules.{run_by, stops_at, search_by, searched, schedule_by}
use Rattle.queue_entries.proofs.Pick.{yes, no, below, above}
use Rattle.queue_entries.specs.declared.Entry.{Entry}
use Rattle.queue_entries.specs.declared.Entry.TheVariants.{Unreadable, Asks}
use Rattle.queue_entries.specs.declared.Verdict.{Verdict}
use Rattle.queue_entries.specs.declared.Verdict.TheVariants.{Refuse, Start, Move}
use Rattle.unbounded_words.specs.Words.{sizes}
use Rattle.unbounded_places.specs.declared.Place.{Place}
use Rattle.unbounded_places.specs.Places as places
use Rattle.unbounded_acts.specs.Acts as acts
use Rattle.unbounded_machine.specs.declared.Machine.{Machine}
use Rattle.unbounded_machine.specs.declared.Did.{Did}
use Rattle.unbounded_machine.specs.declared.Ran.{Ran}
use Rattle.unbounded_machine.specs.Machine.{place_of, fresh_of, blank, refused, accepted}
use Rattle.unbounded_machine.specs.Broken.{broken_of}
use Rattle.unbounded_machine.specs.Turn.{entry_here, verdict_of, lowest_free, begun, used_by, taken_by, moved_by, carried_by, turn_by, turn_with, turn_of}
use Rattle.unbounded_machine.specs.Run.{ran, run_of}
use Rattle.unbounded_machine.proofs.Fits.{either}
use Rattle.unbounded.specs.Unbounded.{make_of, step_of, begin_step_of, act_step_of, capacity_of}

-- ---- a refused entry changes nothing
abbrev pub Unchanged : Machine → Did → Type 0
Unchanged m d = eqb d.refusal 0 ≡ false → d.machine ≡ m

refused_unchanged : (m : Machine) (k : ℕ) → Unchanged m (refused k m)
unfolding refused
refused_unchanged m k h = refl

accepted_unchanged : (m next : Machine) → Unchanged m (accepted next)
unfolding accepted
accepted_unchanged m next h = absurd (true≢false h)

moved_unchanged : (m : Machine) (w : ℕ) (p : Place) (lose : Bool) → Unchanged m (moved_by sizes acts.act_of m w p lose)
unfolding moved_by
moved_unchanged m w p lose =
    either (Unchanged m) (places.view_of sizes p).takes _ (accepted (used_by sizes acts.act_of m w p lose))
    (λ t. either (Unchanged m) (ltb (lowest_free sizes m.blocks) 64) (accepted (taken_by sizes acts.act_of m w p lose (lowest_free sizes m.blocks))) (refused 23 m)
    (λ l. accepted_unchanged m _) (λ l. refused_unchanged m 23))
    (λ t. accepted_unchanged m _)

carried_unchanged : (m : Machine) (w : ℕ) (p : Place) (v : Verdict) → Unchanged m (carried_by sizes acts.act_of m w p v)
carried_unchanged m w p (Refuse k) = refused_unchanged m k
carried_unchanged m w p (Start c) = accepted_unchanged m (begun m w (places.begin_of c))
carried_unchanged m w p (Move lose) = moved_unchanged m w p lose

entry_unchanged : (m : Machine) (x : Entry) → Unchanged m (turn_by sizes acts.act_of m x)
entry_unchanged m Unreadable = refused_unchanged m 9
entry_unchanged m (Asks w o) =
    either (Unchanged m) (ltb w m.count) (carried_by sizes acts.act_of m w (place_of m.workers w) (verdict_of sizes m.meter (place_of m.workers w) o)) (refused 3 m)
    (λ b. carried_unchanged m w (place_of m.workers w) (verdict_of sizes m.meter (place_of m.workers w) o)) (λ b. refused_unchanged m 3)

pub turn_unchanged : (m : Machine) (first second : ℕ) → Unchanged m (turn_of sizes m first second)
unfolding turn_with
turn_unchanged m first second =
    either (Unchanged m) (broken_of sizes m) (refused 6 m) (turn_by sizes acts.act_of m (entry_here first second))
    (λ b. refused_unchanged m 6) (λ b. entry_unchanged m (entry_here first second))

-- ---- a schedule of one entry
abbrev whole : Ran → Did
whole r = record { refusal = r.refusal; machine = r.machine }

one : (m : Machine) (d : Did) → Unchanged m d → whole (cond (eqb d.refusal 0) (ran 0 (0 + 1) d.machine) (ran d.refusal 0 m)) ≡ d
unfolding ran
one m d h = go (eqb d.refusal 0) refl
  where
    go : (b : Bool) → eqb d.refusal 0 ≡ b → whole (cond b (ran 0 (0 + 1) d.machine) (ran d.refusal 0 m)) ≡ d
    go true e = ap (λ (k : ℕ). record { refusal = k; machine = d.machine }) (sym (eqb-true d.refusal 0 e))
    go false e = ap (λ (x : Machine). record { refusal = d.refusal; machine = x }) (sym (h e))

pub one_entry : (m : Machine) (first second : ℕ) (r : Ran) → r ≡ run_of sizes m (first ∷ second ∷ []) → whole r ≡ step_of sizes m first second
unfolding schedule_by search_by run_by ran turn_with refused
one_entry m first second r e = ap whole e ∙ go (broken_of sizes m) refl
  where
    after_search : Entry → Ran
    after_search x = searched (λ (d : Did). d.refusal) (λ (d : Did). d.machine) (turn_of sizes) ran m (first ∷ second ∷ []) (stops_at 0 x None)

    read : (x : Entry) → entry_here first second ≡ x → broken_of sizes m ≡ false → whole (after_search x) ≡ turn_of sizes m first second
    read Unreadable h q = no (broken_of sizes m) false _ (refused 6 m) _ (sym q) refl (sym (ap (turn_by sizes acts.act_of m) h))
    read (Asks w o) h q = one m (turn_of sizes m first second) (turn_unchanged m first second)

    go : (b : Bool) → broken_of sizes m ≡ b → whole (cond b (ran 6 0 m) (cond (eqb (2 % 2) 1) (ran 11 0 m) (after_search (entry_here first second)))) ≡ turn_of sizes m first second
    go true q = yes (broken_of sizes m) true _ (refused 6 m) _ (sym q) refl refl
    go false q = read (entry_here first second) refl q

-- ---- one that begins, one that acts
module _ (m : Machine) (first second : ℕ) (r : Did) (b : Bool) (e : b ≡ broken_of sizes m) where
  pub begin_6 : b ≡ true → r ≡ refused 6 m → r ≡ begin_step_of sizes m first second
  unfolding begin_step_of
  begin_6 h q = yes _ b _ _ _ e h q

  pub act_6 : b ≡ true → r ≡ refused 6 m → r ≡ act_step_of sizes m first second
  unfolding act_step_of
  act_6 h q = yes _ b _ _ _ e h q

  module _ (h : b ≡ false) where
    pub begin_9 : 8 ≤ first % 16 → r ≡ refused 9 m → r ≡ begin_step_of sizes m first second
    unfolding begin_step_of
    begin_9 g q = no _ b _ _ _ e h (above (first % 16) 8 _ _ _ g q)

    pub begin_step : first % 16 < 8 → r ≡ step_of sizes m first second → r ≡ begin_step_of sizes m first second
    unfolding begin_step_of
    begin_step g q = no _ b _ _ _ e h (below (first % 16) 8 _ _ _ g q)

    pub act_9 : first % 16 < 8 → r ≡ refused 9 m → r ≡ act_step_of sizes m first second
    unfolding act_step_of
    act_9 g q = no _ b _ _ _ e h (below (first % 16) 8 _ _ _ g q)

    pub act_step : 8 ≤ first % 16 → r ≡ step_of sizes m first second → r ≡ act_step_of sizes m first second
    unfolding act_step_of
    act_step g q = no _ b _ _ _ e h (above (first % 16) 8 _ _ _ g q)

-- ---- making and capacity
module _ (workers : ℕ) (a : Bool) (ea : a ≡ in_limits workers workers_most) (m : Machine) (r : Did) where
  pub make_2 : a ≡ false → m ≡ blank sizes → r ≡ refused 2 m → r ≡ make_of sizes workers
  unfolding make_of
  make_2 h q e = no _ a _ _ _ ea h (e ∙ ap (refused 2) q)

  pub make_0 : a ≡ true → m ≡ fresh_of sizes workers → r ≡ accepted m → r ≡ make_of sizes workers
  unfolding make_of
  make_0 h q e = yes _ a _ _ _ ea h (e ∙ ap accepted q)

module _ (m : Machine) (b : Bool) (e : b ≡ broken_of sizes m) where
  pub capacity_6 : b ≡ true → Err 6 ≡ capacity_of sizes m
  unfolding capacity_of
  capacity_6 h = yes _ b _ _ _ e h refl

  pub capacity_none : b ≡ false → Ok tt ≡ capacity_of sizes m
  unfolding capacity_of
  capacity_none h = no _ b _ _ _ e h refl
