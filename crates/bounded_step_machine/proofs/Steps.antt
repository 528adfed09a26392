-- One entry by itself, by any table.
use Prim.Native.Nat.{ℕ, ◌+◌, ◌%◌, ◌<◌, ◌≤◌}
use mathlib.Core.Path.{◌≡◌, refl, sym, ap, ◌∙◌}
use mathlib.Core.Bool.{Bool, true, false, cond, true≢false}
use mathlib.Core.List.{[], ◌∷◌}
use lib.Dec.{ltb, eqb}
use borrow.Author.Tests.{eqb-true}
use Rattle.std.specs.Prelude.{None}
use Rattle.queue_entries.specs.Schedules.{run_by, stops_at, search_by, searched, schedule_by}
use Rattle.queue_entries.proofs.Pick.{yes, no, below, above}
use Rattle.queue_entries.specs.declared.Entry.{Entry}
use Rattle.queue_entries.specs.declared.Entry.TheVariants.{Unreadable, Asks}
use Rattle.queue_entries.specs.Entries.{entry_of}
use Rattle.queue_entries.specs.declared.Verdict.{Verdict}
use Rattle.queue_entries.specs.declared.Verdict.TheVariants.{Refuse, Start, Move}
use Rattle.bounded_places.specs.declared.Place.{Place}
use Rattle.bounded_places.specs.Places as places
use Rattle.bounded_machine.specs.declared.Machine.{Machine}
use Rattle.bounded_machine.specs.declared.Did.{Did}
use Rattle.bounded_machine.specs.declared.Ran.{Ran}
use Rattle.bounded_machine.specs.Machine.{place_of, refused, accepted}
use Rattle.bounded_machine.specs.Broken.{broken_of}
use Rattle.bounded_machine.specs.Turn.{Table, verdict_of, carried_by, turn_by, turn_of_by, begun, acted_by}
use Rattle.bounded_machine.specs.Run.{ran, run_of_by}
use Rattle.bounded_machine.proofs.Kept.{either}
use Rattle.bounded_step_machine.specs.Steps.{step_of_by, begin_step_of_by, act_step_of_by}

-- ---- a refused entry changes nothing
abbrev Unchanged : Machine → Did → Type 0
Unchanged m d = eqb d.refusal 0 ≡ false → d.machine ≡ m

refused_unchanged : (m : Machine) (k : ℕ) → Unchanged m (refused k m)
unfolding refused
refused_unchanged m k h = refl

accepted_unchanged : (m next : Machine) → Unchanged m (accepted next)
unfolding accepted
accepted_unchanged m next h = absurd (true≢false h)

carried_unchanged : (table : Table) (m : Machine) (w : ℕ) (p : Place) (v : Verdict) → Unchanged m (carried_by table m w p v)
carried_unchanged table m w p (Refuse k) = refused_unchanged m k
carried_unchanged table m w p (Start c) = accepted_unchanged m (begun m w (places.begin_of c))
carried_unchanged table m w p (Move lose) = accepted_unchanged m (acted_by table m w p lose)

pub turn_unchanged : (table : Table) (m : Machine) (x : Entry) → Unchanged m (turn_by table m x)
turn_unchanged table m Unreadable = refused_unchanged m 9
turn_unchanged table m (Asks w o) =
    either (Unchanged m) (ltb w m.count) (carried_by table m w (place_of m.workers w) (verdict_of m.meter (place_of m.workers w) o)) (refused 3 m)
    (λ b. carried_unchanged table m w (place_of m.workers w) (verdict_of m.meter (place_of m.workers w) o)) (λ b. refused_unchanged m 3)

-- ---- a schedule of one entry
abbrev whole : Ran → Did
whole r = record { refusal = r.refusal; machine = r.machine }

one : (m : Machine) (d : Did) → Unchanged m d → whole (cond (eqb d.refusal 0) (ran 0 (0 + 1) d.machine) (ran d.refusal 0 m)) ≡ d
unfolding ran
one m d h =
    go (eqb d.refusal 0) refl
  where
    go : (b : Bool) → eqb d.refusal 0 ≡ b → whole (cond b (ran 0 (0 + 1) d.machine) (ran d.refusal 0 m)) ≡ d
    go true e = ap (λ (k : ℕ). record { refusal = k; machine = d.machine }) (sym (eqb-true d.refusal 0 e))
    go false e = ap (λ (x : Machine). record { refusal = d.refusal; machine = x }) (sym (h e))

pub one_entry : (table : Table) (m : Machine) (first second : ℕ) (r : Ran) → r ≡ run_of_by table m (first ∷ second ∷ []) → whole r ≡ step_of_by table m first second
unfolding schedule_by search_by run_by step_of_by refused turn_of_by ran
one_entry table m first second r e = ap whole e ∙ go (broken_of m)
  where
    after_search : Entry → Ran
    after_search x = searched (λ (d : Did). d.refusal) (λ (d : Did). d.machine) (turn_of_by table) ran m (first ∷ second ∷ []) (stops_at 0 x None)

    read : (x : Entry) → entry_of first second ≡ x → whole (after_search x) ≡ turn_of_by table m first second
    read Unreadable h = sym (ap (turn_by table m) h)
    read (Asks w o) h = one m (turn_of_by table m first second) (turn_unchanged table m (entry_of first second))

    go : (b : Bool) → whole (cond b (ran 6 0 m) (cond (eqb (2 % 2) 1) (ran 11 0 m) (after_search (entry_of first second)))) ≡ cond b (refused 6 m) (turn_of_by table m first second)
    go true = refl
    go false = read (entry_of first second) refl

-- ---- one that begins, one that acts
module _ (table : Table) (m : Machine) (first second : ℕ) (r : Did) (b : Bool) (e : b ≡ broken_of m) where
  pub begin_6 : b ≡ true → r ≡ refused 6 m → r ≡ begin_step_of_by table m first second
  unfolding begin_step_of_by
  begin_6 h q = yes _ b _ _ _ e h q

  pub act_6 : b ≡ true → r ≡ refused 6 m → r ≡ act_step_of_by table m first second
  unfolding act_step_of_by
  act_6 h q = yes _ b _ _ _ e h q

  module _ (h : b ≡ false) where
    steps : r ≡ step_of_by table m first second → r ≡ turn_of_by table m first second
    unfolding step_of_by
    steps q = q ∙ sym (no _ b _ _ _ e h refl)

    pub begin_9 : 8 ≤ first % 16 → r ≡ refused 9 m → r ≡ begin_step_of_by table m first second
    unfolding begin_step_of_by
    begin_9 g q = no _ b _ _ _ e h (above (first % 16) 8 _ _ _ g q)

    pub begin_step : first % 16 < 8 → r ≡ step_of_by table m first second → r ≡ begin_step_of_by table m first second
    unfolding begin_step_of_by
    begin_step g q = no _ b _ _ _ e h (below (first % 16) 8 _ _ _ g (steps q))

    pub act_9 : first % 16 < 8 → r ≡ refused 9 m → r ≡ act_step_of_by table m first second
    unfolding act_step_of_by
    act_9 g q = no _ b _ _ _ e h (below (first % 16) 8 _ _ _ g q)

    pub act_step : 8 ≤ first % 16 → r ≡ step_of_by table m first second → r ≡ act_step_of_by table m first second
    unfolding act_step_of_by
    act_step g q = no _ b _ _ _ e h (above (first % 16) 8 _ _ _ g (steps q))
