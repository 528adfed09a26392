-- No accepted begin or act breaks an unbroken machine, reached or not.
use Prim.Native.Nat.{ℕ, ◌+◌, ◌/◌, ◌%◌, ◌<◌, ◌≤◌}
use mathlib.Core.Path.{◌≡◌, refl, sym, ap}
use mathlib.Core.Bool.{Bool, true, false, cond, not, true≢false}
use native.Mathlib.Omega.{arith}
use lib.Dec.{leb, ltb}
use lib.ListN.{set}
use borrow.Author.Tests.{leb-true, le-leb, lt-ltb, eqb-true, eqb-false, not-false}
use Rattle.queue_entries.specs.Limits.{workers_most, in_limits}
use Rattle.queue_entries.proofs.Limits.{limit_most}
use Rattle.queue_entries.specs.declared.Call.{Call}
use Rattle.queue_schedules.proofs.Schedules.{either}
use Rattle.queue_schedules.proofs.Records.{every, all_of, placed}
use Rattle.single_words.specs.declared.State.{State}
use Rattle.single_words.specs.Words.{state_most, same, closed_in, filled, state, unlocked, taken_of, closed_of_word}
use Rattle.single_places.specs.declared.Single.{Single}
use Rattle.single_places.specs.declared.Place.{Place}
use Rattle.single_places.specs.declared.Place.TheVariants.{Idle, A1, A2, A3, B1, B2, B3, B4, B5, C1, C2, C3, Len1, Empty1, Full1, Close1, IsClosed1}
use Rattle.single_places.specs.declared.Worker.{Worker}
use Rattle.single_places.specs.Places.{view_of, begin_of}
use Rattle.single_acts.specs.declared.Acted.{Acted}
use Rattle.single_acts.specs.Acts.{goes, state_to, value_to, exchanged, unlocked_in, act_of}
use Rattle.single_machine.specs.declared.Machine.{Machine}
use Rattle.single_machine.specs.Machine.{place_of, idler}
use Rattle.single_machine.specs.Broken.{record_fits, idle_from, broken_of}
use Rattle.single_machine.specs.Turn.{begun, stored, acted, acted_by}

-- ---- an unbroken machine
pub record Unbroken (m : Machine) : Type 0 where
  pub low : m.single.state.0 ≤ state_most
  pub count : in_limits m.count workers_most ≡ true
  pub records : (i : ℕ) → i < workers_most → record_fits (place_of m.workers i) (ltb i m.count) ≡ true

-- a row of tests that must pass
passes : (a b : Bool) → cond a b true ≡ false → (a ≡ true) × (b ≡ false)
passes true b h = (refl, h)
passes false b h = absurd (true≢false h)

pub unbroken_of : (m : Machine) → broken_of m ≡ false → Unbroken m
unfolding broken_of idle_from
unbroken_of m h =
    let a = passes (leb m.single.state.0 state_most) _ h in
    let b = passes (in_limits m.count workers_most) _ a.1 in
    record {
      low = leb-true _ _ a.0;
      count = b.0;
      records = (λ i l. every workers_most 0 (λ (k : ℕ). record_fits (place_of m.workers k) (ltb k m.count)) (not-false _ b.1) i (omega arith) (omega arith));
    }

pub of_unbroken : (m : Machine) → Unbroken m → broken_of m ≡ false
unfolding broken_of idle_from
of_unbroken m u =
    rw (le-leb _ _ u.low, u.count)
    (ap not (all_of workers_most 0 (λ (k : ℕ). record_fits (place_of m.workers k) (ltb k m.count)) (λ k l g. u.records k (omega arith))))

pub few_workers : (m : Machine) → Unbroken m → m.count ≤ workers_most
few_workers m u = limit_most m.count workers_most true (sym u.count) refl

-- ---- an act leaves a word of the three bits
abbrev Low : Single → Type 0
Low s = s.state.0 ≤ state_most

module _ (s : Single) (low : Low s) where
  exchanged_low : (e w : State) → (s.state.0 ≡ e.0 → w.0 ≤ state_most) → Low (exchanged s e w)
  unfolding exchanged state_to same
  exchanged_low e w h = either Low (same s.state e) (state_to s w) s (λ b. h (eqb-true s.state.0 e.0 b)) (λ b. low)

  taken_low : (e : State) → Low (exchanged s e (taken_of e))
  unfolding taken_of
  taken_low e = exchanged_low e (taken_of e) (λ h. omega arith)

  filled_low : (e : State) → Low (exchanged s e filled)
  filled_low e = exchanged_low e filled (λ h. omega arith)

  unlocked_low : Low (unlocked_in s)
  unfolding unlocked_in state_to unlocked
  unlocked_low = omega arith

  closed_low : Low (state_to s (closed_of_word s.state))
  unfolding state_to closed_of_word closed_in
  closed_low =
      either (λ (w : State). w.0 ≤ state_most) (closed_in s.state) s.state (state (s.state.0 + 4)) (λ b. low)
      (λ b. let n = eqb-false (s.state.0 / 4 % 2) 1 b in omega arith)

  value_low : (v : ℕ) → Low (value_to s v)
  unfolding value_to
  value_low v = low

  pub act_low : (p : Place) → Low (act_of s p).single
  unfolding goes
  act_low (Idle a) = low
  act_low (A1 x) = filled_low (state 0)
  act_low (A2 x) = value_low x
  act_low A3 = unlocked_low
  act_low (B1 e x) = filled_low e
  act_low (B2 x) = value_low x
  act_low B3 = unlocked_low
  act_low (B4 x) = value_low x
  act_low (B5 old) = unlocked_low
  act_low (C1 e) = taken_low e
  act_low C2 = low
  act_low (C3 v) = unlocked_low
  act_low Len1 = low
  act_low Empty1 = low
  act_low Full1 = low
  act_low Close1 = closed_low
  act_low IsClosed1 = low

-- ---- the machine
module _ (m : Machine) (u : Unbroken m) (w : ℕ) (l : w < m.count) where
  records_with : (p : Place) (i : ℕ) → i < workers_most → record_fits (place_of (set m.workers w (record { place = p })) i) (ltb i m.count) ≡ true
  unfolding record_fits
  records_with p i g =
      placed m.workers w i (record { place = p }) idler (λ (x : Worker). record_fits x.place (ltb i m.count) ≡ true)
      (λ e. counted_fits (omega arith)) (u.records i g)
    where
      counted_fits : i < m.count → record_fits p (ltb i m.count) ≡ true
      counted_fits k = either (λ (b : Bool). b ≡ true) (view_of p).busy (ltb i m.count) true (λ b. lt-ltb i m.count k) (λ b. refl)

  pub begun_unbroken : (c : Call) → Unbroken (begun m w (begin_of c))
  unfolding begun
  begun_unbroken c = record { low = u.low; count = u.count; records = records_with (begin_of c) }

  pub stored_unbroken : (a : Acted) → Low a.single → Unbroken (stored m w a)
  unfolding stored
  stored_unbroken a k = record { low = k; count = u.count; records = records_with a.place }

  pub acted_unbroken : (p : Place) → Unbroken (acted m w p)
  unfolding acted_by
  acted_unbroken p = stored_unbroken (act_of m.single p) (act_low m.single u.low p)
