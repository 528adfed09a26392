-- Records past those that a walk can have take no part in it: they are idle and stay so.
use Prim.Native.Nat.{ℕ, zero, suc, ◌+◌, ◌-◌, ◌<◌, ◌≤◌}
use mathlib.Core.Path.{◌≡◌, refl, sym, ap, ◌∙◌, subst}
use mathlib.Core.Bool.{Bool, true, false, cond, not, true≢false}
use mathlib.Core.List.{List, [], ◌∷◌}
use native.Mathlib.Omega.{arith}
use native.Mathlib.Decide.{dec_lt}
use lib.Dec.{ltb}
use lib.ListN.{length, get_or, set, take, length-set}
use lib.Seq.{get_or-take, take-set-lt}
use borrow.Author.Tests.{le-ltb}
use Rattle.queue_entries.specs.Limits.{workers_most, meter_most}
use Rattle.queue_walks.specs.Walks.{walkers_most, act_byte, after, in_turn, walk_by}
use Rattle.bounded_words.specs.declared.Width.TheVariants.{SixtyFour}
use Rattle.bounded_words.specs.declared.Fixed.{Fixed}
use Rattle.bounded_places.specs.declared.Place.{Place}
use Rattle.bounded_places.specs.declared.Worker.{Worker}
use Rattle.bounded_places.specs.Places.{view_of}
use Rattle.bounded_acts.specs.declared.Acted.{Acted}
use Rattle.bounded_acts.specs.Acts.{act_of}
use Rattle.bounded_machine.specs.declared.Machine.{Machine}
use Rattle.bounded_machine.specs.Machine.{machine_of, idler, record_of_worker, place_of, fixed_on, ends_on}
use Rattle.bounded_machine.specs.Broken.{place_fits, record_fits, all_idle}
use Rattle.bounded_machine.specs.Turn.{spot_of, record_after, act_at, stored, acted_by}
use Rattle.bounded_machine.proofs.Kept.{every, all_of, Unbroken, acted_unbroken}
use Rattle.bounded_sequences.specs.Sequences.{walk_of, choice_of, code_of, may_act}
use Rattle.bounded_sequences.proofs.Acting.{choice_moves, choice_stays, may_busy}
use Rattle.bounded_sequences.proofs.Lasting.{same_turns}

abbrev pub cut : Machine → Machine
cut m = machine_of (fixed_on m.ring) (ends_on m.ring) m.ring.slots (take walkers_most m.workers) m.count m.meter

-- ---- records that are kept, and those that are not
past : (n : ℕ) (ws : List Worker) (i : ℕ) → n ≤ i → get_or (take n ws) i idler ≡ idler
past zero ws i l = refl
past (suc n) [] i l = refl
past (suc n) (r ∷ ws) zero l = absurd (omega (arith, l))
past (suc n) (r ∷ ws) (suc i) l = past n ws i (omega (arith, l))

outside : (ws : List Worker) (i : ℕ) → length ws ≤ i → get_or ws i idler ≡ idler
outside [] i l = refl
outside (r ∷ ws) zero l = absurd (omega (arith, l))
outside (r ∷ ws) (suc i) l = outside ws i (omega (arith, l))

kept_record : (ws : List Worker) (w : ℕ) → w < walkers_most → record_of_worker (take walkers_most ws) w ≡ record_of_worker ws w
kept_record ws w l = get_or-take walkers_most ws w idler l

-- ---- all are idle
rests : Worker → Bool
rests r = not (view_of r.place).busy

module _ (ws : List Worker) where
  idle_each : all_idle ws ≡ true → (i : ℕ) → rests (record_of_worker ws i) ≡ true
  unfolding all_idle rests
  idle_each h i = by (dec_lt i (length ws))
    where
      by : Dec (i < length ws) → rests (record_of_worker ws i) ≡ true
      by (yes l) = every (length ws) 0 (λ (k : ℕ). not (view_of (place_of ws k)).busy) h i (omega arith) (omega (arith, l))
      by (no l) = ap rests (outside ws i (omega (arith, l)))

  idle_by_each : ((i : ℕ) → rests (record_of_worker ws i) ≡ true) → all_idle ws ≡ true
  unfolding all_idle rests
  idle_by_each h = all_of (length ws) 0 (λ (k : ℕ). not (view_of (place_of ws k)).busy) (λ k l g. h k)

alike : (a b : Bool) → (a ≡ true → b ≡ true) → (b ≡ true → a ≡ true) → a ≡ b
alike true b p q = sym (p refl)
alike false true p q = q refl
alike false false p q = refl

uncounted : (f : Fixed) (meter : ℕ) (r : Worker) → record_fits f meter r false ≡ true → rests r ≡ true
unfolding record_fits place_fits rests
uncounted f meter r h = by (ltb meter r.differed) (ltb meter r.failed) (view_of r.place).busy h
  where
    by : (a b c : Bool) → cond a false (cond b false (cond c false true)) ≡ true → not c ≡ true
    by true b c h = absurd (true≢false (sym h))
    by false true c h = absurd (true≢false (sym h))
    by false false true h = absurd (true≢false (sym h))
    by false false false h = refl

-- what a walk keeps of a machine: no more workers than it can have, no more records than there are, an act on the meter for each that is left
pub record Walks (more : ℕ) (m : Machine) : Type 0 where
  pub whole : Unbroken m
  pub few : m.count ≤ walkers_most
  pub long : length m.workers ≤ workers_most
  pub meter : more ≤ meter_most - m.meter

module _ (more : ℕ) (m : Machine) (g : Walks more m) where
  far_idle : (i : ℕ) → walkers_most ≤ i → rests (record_of_worker m.workers i) ≡ true
  unfolding rests
  far_idle i l = by (dec_lt i workers_most)
    where
      by : Dec (i < workers_most) → rests (record_of_worker m.workers i) ≡ true
      by (yes h) = uncounted (fixed_on m.ring) m.meter (record_of_worker m.workers i) (subst (λ (b : Bool). record_fits (fixed_on m.ring) m.meter (record_of_worker m.workers i) b ≡ true)
          (le-ltb i m.count (omega (arith, l, g.few))) (g.whole.fits i h))
      by (no h) = ap rests (outside m.workers i (omega (arith, h, g.long)))

  idle_cut : all_idle m.workers ≡ all_idle (take walkers_most m.workers)
  unfolding rests
  idle_cut = alike (all_idle m.workers) (all_idle (take walkers_most m.workers))
      (λ h. idle_by_each (take walkers_most m.workers) (λ i. kept i (idle_each m.workers h) (dec_lt i walkers_most)))
      (λ h. idle_by_each m.workers (λ i. all i (idle_each (take walkers_most m.workers) h) (dec_lt i walkers_most)))
    where
      kept : (i : ℕ) → ((k : ℕ) → rests (record_of_worker m.workers k) ≡ true) → Dec (i < walkers_most) → rests (record_of_worker (take walkers_most m.workers) i) ≡ true
      kept i h (yes l) = ap rests (kept_record m.workers i l) ∙ h i
      kept i h (no l) = ap rests (past walkers_most m.workers i (omega (arith, l)))

      all : (i : ℕ) → ((k : ℕ) → rests (record_of_worker (take walkers_most m.workers) k) ≡ true) → Dec (i < walkers_most) → rests (record_of_worker m.workers i) ≡ true
      all i h (yes l) = ap rests (sym (kept_record m.workers i l)) ∙ h i
      all i h (no l) = far_idle i (omega (arith, l))

-- ---- the cut machine is not broken
idler_fits : (f : Fixed) (meter : ℕ) (counted : Bool) → record_fits f meter idler counted ≡ true
unfolding record_fits place_fits
idler_fits f meter counted = simp (le-ltb meter 0 (omega arith))

pub cut_fits : (m : Machine) → Unbroken m → (i : ℕ) → i < workers_most → record_fits (fixed_on m.ring) m.meter (record_of_worker (take walkers_most m.workers) i) (ltb i m.count) ≡ true
cut_fits m u i l = by (dec_lt i walkers_most)
  where
    by : Dec (i < walkers_most) → record_fits (fixed_on m.ring) m.meter (record_of_worker (take walkers_most m.workers) i) (ltb i m.count) ≡ true
    by (yes h) = ap (λ (r : Worker). record_fits (fixed_on m.ring) m.meter r (ltb i m.count)) (kept_record m.workers i h) ∙ u.fits i l
    by (no h) = ap (λ (r : Worker). record_fits (fixed_on m.ring) m.meter r (ltb i m.count)) (past walkers_most m.workers i (omega (arith, h)))
        ∙ idler_fits (fixed_on m.ring) m.meter (ltb i m.count)

-- ---- an act of a kept record
acted_cut : (m : Machine) (w : ℕ) (p : Place) (lose : Bool) → w < walkers_most → cut (acted_by (act_of SixtyFour) m w p lose) ≡ acted_by (act_of SixtyFour) (cut m) w p lose
unfolding acted_by stored
acted_cut m w p lose l =
    ap (λ (x : List Worker). machine_of (fixed_on m.ring) a.ends (set m.ring.slots (spot_of (fixed_on m.ring) (view_of p).held) a.slot) x m.count (m.meter + 1))
    (take-set-lt walkers_most m.workers w (record_after (record_of_worker m.workers w) a.place a.loss) l
    ∙ ap (λ (r : Worker). set (take walkers_most m.workers) w (record_after r a.place a.loss)) (sym (kept_record m.workers w l)))
  where
    a : Acted
    a = act_at (act_of SixtyFour) m p lose

module _ (more : ℕ) (later : (x : Machine) → Walks more x → walk_of more x ≡ walk_of more (cut x)) (m : Machine) (g : Walks (more + 1) m) (w : ℕ) (l : w < m.count) (lose : Bool) where
  near : w < walkers_most
  near = omega (arith, l, g.few)

  time : m.meter < meter_most
  time = omega (arith, g.meter)

  next : Machine
  next = acted_by (act_of SixtyFour) m w (place_of m.workers w) lose

  walks_on : may_act (record_of_worker m.workers w) lose ≡ true → Walks more next
  unfolding next acted_by stored
  walks_on may = let a = act_at (act_of SixtyFour) m (place_of m.workers w) lose in record {
    whole = acted_unbroken m g.whole w l SixtyFour lose (may_busy (record_of_worker m.workers w) lose may);
    few = g.few;
    long = omega (arith, g.long, length-set m.workers w (record_after (record_of_worker m.workers w) a.place a.loss));
    meter = omega (arith, g.meter);
  }

  choice_cut : choice_of more m w (code_of lose) ≡ choice_of more (cut m) w (code_of lose)
  unfolding next
  choice_cut = by (may_act (record_of_worker m.workers w) lose) refl
    where
      there : (b : Bool) → may_act (record_of_worker m.workers w) lose ≡ b → may_act (record_of_worker (take walkers_most m.workers) w) lose ≡ b
      there b h = ap (λ (r : Worker). may_act r lose) (kept_record m.workers w near) ∙ h

      by : (b : Bool) → may_act (record_of_worker m.workers w) lose ≡ b → choice_of more m w (code_of lose) ≡ choice_of more (cut m) w (code_of lose)
      by true h =
          choice_moves m w l lose time more h
          ∙ ap (after (act_byte (code_of lose) w ∷ [])) (later next (walks_on h))
          ∙ ap (λ (x : Machine). after (act_byte (code_of lose) w ∷ []) (walk_of more x)) (acted_cut m w (place_of m.workers w) lose near)
          ∙ ap (λ (r : Worker). after (act_byte (code_of lose) w ∷ []) (walk_of more (acted_by (act_of SixtyFour) (cut m) w r.place lose))) (sym (kept_record m.workers w near))
          ∙ sym (choice_moves (cut m) w l lose time more (there true h))
      by false h = choice_stays m w l lose time more h ∙ sym (choice_stays (cut m) w l lose time more (there false h))

-- ---- the walk of a machine is the walk of what is kept of it
pub walk_cut : (more : ℕ) (m : Machine) → Walks more m → walk_of more m ≡ walk_of more (cut m)
unfolding walk_by
walk_cut zero m g = refl
walk_cut (suc more) m g = λ k. cond (idle_cut (suc more) m g k) ([] ∷ []) (turns (walk_cut more) k)
  where
    one : Walks (more + 1) m
    one = record { whole = g.whole; few = g.few; long = g.long; meter = omega (arith, g.meter) }

    turns : ((x : Machine) → Walks more x → walk_of more x ≡ walk_of more (cut x)) → in_turn (choice_of more m) m.count 0 ≡ in_turn (choice_of more (cut m)) m.count 0
    turns later =
        same_turns (choice_of more m) (choice_of more (cut m)) m.count 0
        (λ i l. (choice_cut more later m one i (omega (arith, l)) false, choice_cut more later m one i (omega (arith, l)) true))
