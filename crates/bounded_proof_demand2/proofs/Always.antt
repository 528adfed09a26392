-- Of 64 bits every schedule keeps the window: the meter ends long before a turn.
use mathlib.Core.Path.{◌≡◌, refl, ap, ◌∙◌, subst, sym}
use mathlib.Core.List.{List, [], ◌++◌, append-nil}
use Prim.Native.Nat.{ℕ, ◌+◌, ◌*◌, ◌-◌, ◌≤◌, ◌<◌}
use native.Mathlib.Omega.{arith}
use native.Mathlib.Nat.{mul-le-mul_right}
use lib.ListN.{length, length-append}
use Rattle.queue_entries.specs.Limits.{meter_most}
use Rattle.queue_entries.specs.declared.Entry.{Entry}
use Rattle.bounded_words.specs.declared.Fixed.{Fixed}
use Rattle.bounded_words.specs.declared.Width.{Width}
use Rattle.bounded_words.specs.declared.Width.TheVariants.{SixtyFour}
use Rattle.bounded_words.specs.Words.{mark_of}
use Rattle.bounded_machine.specs.declared.Machine.{Machine}
use Rattle.bounded_machine.specs.declared.Event.{Event}
use Rattle.bounded_machine.specs.Machine.{fresh_with, fixed_on}
use Rattle.bounded_machine.specs.Turn.{begun, acted_by, stored}
use Rattle.bounded_demands.specs.Notions.{Definition, document01, with_records, AllowedWith, machine_after, acts_of, tally, since, turn_length, InWindow, KeepsWindow, KeepsWidestWindow}
use Rattle.bounded_proof_each_act.proofs.Stamps.{fixed}
use Rattle.bounded_proof_demand2.proofs.Turns.{Turned, began, did}
use Rattle.bounded_proof_demand2.proofs.Window.{since_claims, turn_is}
use Rattle.bounded_proof_demand2.proofs.Pictured.{Base}
use Rattle.bounded_proof_demand2.proofs.Reached.{laps_of, base_of, long, along_any}

-- Who keeps document 02's window keeps the widest.
pub widens : (d : Definition) (m : Machine) (h : List Event) (s : List ℕ) → KeepsWindow d m h s → KeepsWidestWindow d m h s
widens d m h s keeps before after e w held = let k = keeps before after e w held in (omega (arith, k.0), omega (arith, k.1))

-- What is kept along any history.
pub record Metered (c : ℕ) (m : Machine) (h : List Event) : Type 0 where
  pub meter : m.meter ≡ length h
  pub few : m.meter ≤ meter_most
  pub rule : fixed_on m.ring ≡ fixed c (mark_of c) m.ring.edition

pub metered_kept : (bits : Width) (c : ℕ) (m : Machine) (h : List Event) (en : Entry) (next : Machine) (acts : List Event) → Metered c m h → Turned bits m en next acts
    → Metered c next (h ++ acts)
unfolding begun acted_by stored
metered_kept bits c m h en next acts o (began w call l idle) = record { meter = o.meter ∙ ap length (sym (append-nil h)); few = o.few; rule = o.rule }
metered_kept bits c m h en next acts o (did w lose l busy early) =
    record { meter = omega (arith, o.meter, length-append h acts); few = omega arith; rule = o.rule }

fresh_metered : (records c workers edition : ℕ) → Metered c (fresh_with records c workers edition) []
unfolding fresh_with
fresh_metered records c workers edition = record { meter = refl; few = omega arith; rule = refl }

-- after any schedule, at either width
pub metered_in : (bits : Width) (records c workers edition : ℕ) (s : List ℕ)
    → Metered c (machine_after (with_records records bits) c workers edition s) (acts_of (with_records records bits) c workers edition s)
metered_in bits records c workers edition s =
    along_any bits (Metered c) (metered_kept bits c) s (fresh_with records c workers edition) [] 0 (fresh_metered records c workers edition)

module _ (records c workers edition : ℕ) (a : AllowedWith records c workers edition) where
  abbrev n : ℕ
  n = laps_of SixtyFour c

  base : Base SixtyFour c (laps_of SixtyFour c) workers
  base = base_of SixtyFour records c workers edition a

  in_window : (m : Machine) (h : List Event) → Metered c m h → InWindow SixtyFour m h
  in_window m h o w held =
      let some : 1 ≤ c = a.slot_some in
      let wide : meter_most + 2 * c < laps_of SixtyFour c * c = omega (arith, mul-le-mul_right (laps_of SixtyFour c) some, long records c workers edition a, a.slot_most) in
      let q = since_claims w h in
      let turn = turn_is SixtyFour c (mark_of c) (laps_of SixtyFour c) m.ring.edition base.ground in
      subst (λ (f : Fixed). ((tally (since w h)).tail.0 < turn_length SixtyFour f - 2 * f.capacity) × ((tally (since w h)).head.0 < turn_length SixtyFour f - 2 * f.capacity)) (sym o.rule)
      (omega (arith, q.0, o.meter, o.few, turn), omega (arith, q.1, o.meter, o.few, turn))

  pub always_in_window : (m : Machine) (h : List Event) → Metered c m h → (s : List ℕ) → KeepsWindow document01 m h s
  always_in_window m h o s before after e =
      in_window _ _ (along_any SixtyFour (Metered c) (metered_kept SixtyFour c) before m h 0 o)

  pub always_from : (m : Machine) (h : List Event) → Metered c m h → (s : List ℕ) → KeepsWidestWindow document01 m h s
  always_from m h o s = widens document01 m h s (always_in_window m h o s)

  pub always : (s : List ℕ) → KeepsWidestWindow document01 (fresh_with records c workers edition) [] s
  always = always_from (fresh_with records c workers edition) [] (fresh_metered records c workers edition)
