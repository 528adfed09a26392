-- A worker's act, on the machine whose slots are lent as two rows.
use Prim.Native.Nat.{ℕ, zero, suc, ◌+◌, ◌*◌, ◌/◌, ◌%◌, ◌<◌, ◌≤◌}
use mathlib.Core.Path.{◌≡◌, refl, sym, ap, ◌∙◌, subst}
use mathlib.Core.Logic.{◌⊎◌, inl, inr}
use mathlib.Core.Bool.{Bool, true, false, cond, not, true≢false}
use mathlib.Core.List.{List, [], ◌∷◌}
use native.Mathlib.Omega.{arith}
use lib.Dec.{eqb}
use lib.ListN.{length, get_or, set}
use borrow.Author.Tests.{lt-ltb}
use Rattle.queue_entries.specs.Limits.{meter_most, all}
use Rattle.queue_entries.proofs.Pick.{below, above, on, off, equal, other}
use Rattle.queue_entries.specs.declared.Order.TheVariants.{Act}
use Rattle.queue_entries.specs.declared.Entry.TheVariants.{Asks}
use Rattle.queue_entries.specs.declared.Verdict.{Verdict}
use Rattle.queue_entries.specs.declared.Verdict.TheVariants.{Refuse, Move}
use Rattle.queue_entries.specs.Entries.{stray_of, order_of, entry_of, verdict_for}
use Rattle.queue_walks.specs.Walks.{walkers_most, act_byte, after, choice_by}
use Rattle.bounded_words.specs.declared.Width.TheVariants.{SixtyFour}
use Rattle.bounded_words.specs.Limits.{slots_most}
use Rattle.bounded_places.specs.declared.Slot.{Slot}
use Rattle.bounded_places.specs.declared.View.{View}
use Rattle.bounded_places.specs.declared.Worker.{Worker}
use Rattle.bounded_places.specs.Places.{view_of}
use Rattle.bounded_acts.specs.declared.Acted.{Acted}
use Rattle.bounded_acts.specs.Acts.{act_of}
use Rattle.bounded_machine.specs.declared.Machine.{Machine}
use Rattle.bounded_machine.specs.declared.Did.{Did}
use Rattle.bounded_machine.specs.Machine.{slot, machine_of, record_of_worker, place_of, refused, accepted}
use Rattle.bounded_machine.specs.Broken.{broken_with, all_idle}
use Rattle.bounded_machine.specs.Turn.{verdict_of, record_after, stored, acted_by, carried, turn, turn_of, turn_of_by}
use Rattle.bounded_machine.proofs.Kept.{Unbroken, unbroken_of, of_unbroken, fair_in}
use Rattle.bounded_machine.proofs.Turns.{fits_in, spot_below, lost_below, moved_unbroken}
use Rattle.bounded_words.specs.Words.{Fair}
use Rattle.bounded_sequences.specs.declared.State.{State}
use Rattle.bounded_sequences.specs.Sequences.{walk_of, choice_of, code_of, slots_of, machine_in, may_act, spot_in, left, act_in, after_of, ends_here, ends_soon, Ready, Sound}

-- ---- the code of `may_act` and `act_on`
module _ (r : Worker) (v : View) (e : v ≡ view_of r.place) (lose : Bool) where
  pub may_idle : v.busy ≡ false → false ≡ may_act r lose
  unfolding may_act
  may_idle h = rw (← e) (off v.busy _ _ _ h refl)

  pub may_weak : v.busy ≡ true → lose ≡ true → v.weak ≡ may_act r lose
  unfolding may_act
  may_weak h k = rw (← e) (on v.busy _ _ _ h (on lose _ _ _ k refl))

  pub may_any : v.busy ≡ true → lose ≡ false → true ≡ may_act r lose
  unfolding may_act
  may_any h k = rw (← e) (on v.busy _ _ _ h (off lose _ _ _ k refl))

pub acted_so : (s : State) (y : Worker) (stamp value w : ℕ) (lose : Bool) (a : Acted) (r : Worker) → Ready s y w → a ≡ act_of SixtyFour s.fixed s.ends (slot stamp value) y.place lose
    → r ≡ record_after y a.place a.loss → left s w a r ≡ after_of s stamp value w lose
unfolding after_of
acted_so s y stamp value w lose a r g ea er =
    ap (left s w a) er
    ∙ ap (λ (x : Acted). left s w x (record_after y x.place x.loss)) ea
    ∙ ap (λ (z : Worker). left s w (act_of SixtyFour s.fixed s.ends (slot stamp value) z.place lose)
    (record_after z (act_of SixtyFour s.fixed s.ends (slot stamp value) z.place lose).place (act_of SixtyFour s.fixed s.ends (slot stamp value) z.place lose).loss)) g.own

-- what is seen of a worker is seen of its record
pub seen : (y r : Worker) (lose : Bool) → y ≡ r → (b x : Bool) → b ≡ may_act y lose → b ≡ x → may_act r lose ≡ x
seen y r lose e b x eb ex = ap (λ (z : Worker). may_act z lose) (sym e) ∙ sym eb ∙ ex

pub byte_9 : (w : ℕ) (lose : Bool) → lose ≡ true → 144 + w ≡ act_byte (code_of lose) w
byte_9 w lose h = ap (λ (b : Bool). act_byte (code_of b) w) (sym h)

pub byte_8 : (w : ℕ) (lose : Bool) → lose ≡ false → 128 + w ≡ act_byte (code_of lose) w
byte_8 w lose h = ap (λ (b : Bool). act_byte (code_of b) w) (sym h)

-- ---- the code of `none_busy`, `ends_here` and `ends_soon`
busy_may : (r : Worker) → may_act r false ≡ (view_of r.place).busy
unfolding may_act
busy_may r = same (view_of r.place).busy
  where
    same : (b : Bool) → cond b true false ≡ b
    same true = refl
    same false = refl

module _ (ws : List Worker) (long : length ws ≡ walkers_most) where
  three_idle : (x y z : Bool) → x ≡ may_act (record_of_worker ws 0) false → y ≡ may_act (record_of_worker ws 1) false → z ≡ may_act (record_of_worker ws 2) false
      → cond (not x) (cond (not y) (cond (not z) true false) false) false ≡ all_idle ws
  unfolding all_idle all
  three_idle x y z ex ey ez =
      (λ k. cond (not ((ex ∙ busy_may (record_of_worker ws 0)) k)) (cond (not ((ey ∙ busy_may (record_of_worker ws 1)) k)) (cond (not ((ez ∙ busy_may (record_of_worker ws 2)) k)) true false) false) false)
      ∙ ap (λ (n : ℕ). all n 0 (λ (i : ℕ). not (view_of (place_of ws i)).busy)) (sym long)

  module _ (x : Bool) (ex : x ≡ may_act (record_of_worker ws 0) false) where
    pub first_busy : x ≡ true → false ≡ all_idle ws
    first_busy h = three_idle true (may_act (record_of_worker ws 1) false) (may_act (record_of_worker ws 2) false) (sym h ∙ ex) refl refl

    module _ (not-x : x ≡ false) (y : Bool) (ey : y ≡ may_act (record_of_worker ws 1) false) where
      pub second_busy : y ≡ true → false ≡ all_idle ws
      second_busy h = three_idle false true (may_act (record_of_worker ws 2) false) (sym not-x ∙ ex) (sym h ∙ ey) refl

      pub third_busy : y ≡ false → (z : Bool) → z ≡ may_act (record_of_worker ws 2) false → not z ≡ all_idle ws
      third_busy h z ez = same (not z) ∙ three_idle false false z (sym not-x ∙ ex) (sym h ∙ ey) ez
        where
          same : (b : Bool) → b ≡ cond b true false
          same true = refl
          same false = refl

module _ (s : State) (more : ℕ) where
  pub soon_at_1 : more < 2 → true ≡ ends_soon s more
  unfolding ends_soon
  soon_at_1 h = below more 2 _ _ _ h refl

  pub soon_idle : (b : Bool) → 2 ≤ more → b ≡ all_idle s.workers → b ≡ ends_soon s more
  unfolding ends_soon
  soon_idle b h e = above more 2 _ _ _ h e

  pub ends_at_0 : more ≡ 0 → true ≡ ends_here s more
  unfolding ends_here
  ends_at_0 h = equal more 0 _ _ _ h refl

  pub ends_idle : (b : Bool) → (more ≡ 0 → ⊥) → b ≡ all_idle s.workers → b ≡ ends_here s more
  unfolding ends_here
  ends_idle b h e = other more 0 _ _ _ h e

-- ---- what a worker's entry gives
act_entry : (w : ℕ) (lose : Bool) → entry_of (16 * w + code_of lose) 0 ≡ Asks w (Act lose)
unfolding entry_of stray_of order_of
act_entry w false =
    let low : (16 * w + 8) % 16 ≡ 8 = omega arith in
    let top : (16 * w + 8) / 16 ≡ w = omega arith in
    rw (low, top)
act_entry w true =
    let low : (16 * w + 9) % 16 ≡ 9 = omega arith in
    let top : (16 * w + 9) / 16 ≡ w = omega arith in
    rw (low, top)

moves : (meter : ℕ) (busy weak lose : Bool) → cond busy (cond lose weak true) false ≡ true → meter < meter_most → verdict_for meter busy weak (Act lose) ≡ Move lose
moves meter true true true h l = simp (lt-ltb meter meter_most l)
moves meter true false true h l = absurd (true≢false (sym h))
moves meter true weak false h l = simp (lt-ltb meter meter_most l)
moves meter false weak lose h l = absurd (true≢false (sym h))

stays : (meter : ℕ) (busy weak lose : Bool) → cond busy (cond lose weak true) false ≡ false → meter < meter_most
    → (verdict_for meter busy weak (Act lose) ≡ Refuse 5) ⊎ (verdict_for meter busy weak (Act lose) ≡ Refuse 8)
stays meter true true true h l = absurd (true≢false h)
stays meter true false true h l = inr (simp (lt-ltb meter meter_most l))
stays meter true weak false h l = absurd (true≢false h)
stays meter false weak lose h l = inl refl

busy_of : (busy weak lose : Bool) → cond busy (cond lose weak true) false ≡ true → busy ≡ true
busy_of true weak lose h = refl
busy_of false weak lose h = h

act_turn : (m : Machine) (w : ℕ) (lose : Bool) (v : Verdict) → w < m.count → verdict_of m.meter (place_of m.workers w) (Act lose) ≡ v
    → turn_of m (16 * w + code_of lose) 0 ≡ carried SixtyFour m w (place_of m.workers w) v
unfolding turn_of_by
act_turn m w lose v l e = ap (turn SixtyFour m) (act_entry w lose) ∙ sym (below w m.count _ _ _ l refl) ∙ ap (carried SixtyFour m w (place_of m.workers w)) e

choice_at : (more : ℕ) (m : Machine) (w code : ℕ) (d : Did) → turn_of m (16 * w + code) 0 ≡ d
    → choice_of more m w code ≡ cond (eqb d.refusal 0) (after (act_byte code w ∷ []) (walk_of more d.machine)) []
unfolding choice_by
choice_at more m w code d h = ap (λ (x : Did). cond (eqb x.refusal 0) (after (act_byte code w ∷ []) (walk_of more x.machine)) []) h

-- ---- a worker's act of this code, on any machine with an act left on its meter
module _ (m : Machine) (w : ℕ) (l : w < m.count) (lose : Bool) (time : m.meter < meter_most) (more : ℕ) where
  pub choice_moves : may_act (record_of_worker m.workers w) lose ≡ true
      → choice_of more m w (code_of lose) ≡ after (act_byte (code_of lose) w ∷ []) (walk_of more (acted_by (act_of SixtyFour) m w (place_of m.workers w) lose))
  unfolding accepted may_act
  choice_moves may =
      choice_at more m w (code_of lose) (accepted (acted_by (act_of SixtyFour) m w (place_of m.workers w) lose))
      (act_turn m w lose (Move lose) l (moves m.meter (view_of (place_of m.workers w)).busy (view_of (place_of m.workers w)).weak lose may time))

  pub choice_stays : may_act (record_of_worker m.workers w) lose ≡ false → choice_of more m w (code_of lose) ≡ []
  unfolding refused may_act
  choice_stays may = by_verdict (stays m.meter (view_of (place_of m.workers w)).busy (view_of (place_of m.workers w)).weak lose may time)
    where
      by_verdict : (verdict_of m.meter (place_of m.workers w) (Act lose) ≡ Refuse 5) ⊎ (verdict_of m.meter (place_of m.workers w) (Act lose) ≡ Refuse 8)
          → choice_of more m w (code_of lose) ≡ []
      by_verdict (inl e) = choice_at more m w (code_of lose) (refused 5 _) (act_turn m w lose (Refuse 5) l e)
      by_verdict (inr e) = choice_at more m w (code_of lose) (refused 8 _) (act_turn m w lose (Refuse 8) l e)

pub may_busy : (r : Worker) (lose : Bool) → may_act r lose ≡ true → (view_of r.place).busy ≡ true
unfolding may_act
may_busy r lose may = busy_of (view_of r.place).busy (view_of r.place).weak lose may

-- ---- two rows as slots
slots_set : (stamps values : List ℕ) (k s v : ℕ) → slots_of (set stamps k s) (set values k v) ≡ set (slots_of stamps values) k (slot s v)
unfolding slots_of
slots_set [] values k s v = refl
slots_set (x ∷ stamps) [] zero s v = refl
slots_set (x ∷ stamps) [] (suc k) s v = refl
slots_set (x ∷ stamps) (y ∷ values) zero s v = refl
slots_set (x ∷ stamps) (y ∷ values) (suc k) s v = ap (λ (l : List Slot). slot x y ∷ l) (slots_set stamps values k s v)

slots_get : (stamps values : List ℕ) (k : ℕ) → k < length stamps → k < length values → get_or (slots_of stamps values) k (slot 0 0) ≡ slot (get_or stamps k 0) (get_or values k 0)
unfolding slots_of
slots_get [] values k h g = absurd (omega arith)
slots_get (x ∷ stamps) [] k h g = absurd (omega arith)
slots_get (x ∷ stamps) (y ∷ values) zero h g = refl
slots_get (x ∷ stamps) (y ∷ values) (suc k) h g = slots_get stamps values k (omega arith) (omega arith)

-- ---- a worker of a sound state
module _ (s : State) (n more : ℕ) (sound : Sound s n (more + 1)) (w : ℕ) (l : w < s.count) where
  pub in_time : s.meter < meter_most
  in_time = omega (arith, sound.meter)

  -- whatever slots are lent
  whole : (stamps values : List ℕ) → Unbroken (machine_in s stamps values)
  whole stamps values = unbroken_of (machine_in s stamps values) (sound.whole stamps values)

  pub low : w < walkers_most
  low = omega (arith, l, sound.few)

  pub fair : Fair s.fixed
  fair = fair_in (machine_in s [] []) (whole [] [])

  module _ (lose : Bool) (may : may_act (record_of_worker s.workers w) lose ≡ true) where
    busy : (view_of (place_of s.workers w)).busy ≡ true
    busy = may_busy (record_of_worker s.workers w) lose may

    own_ready : Ready s (record_of_worker s.workers w) w
    own_ready = record {
      low = low;
      own = refl;
      fits = fits_in (machine_in s [] []) (whole [] []) w l busy;
      differed = (lost_below (machine_in s [] []) (whole [] []) w l in_time).0;
      failed = (lost_below (machine_in s [] []) (whole [] []) w l in_time).1;
      meter = in_time;
    }

    pub ready : (r : Worker) → r ≡ record_of_worker s.workers w → Ready s r w
    ready r e = subst (λ (x : Worker). Ready s x w) (sym e) own_ready

    spot_low : spot_in s.fixed (record_of_worker s.workers w) < slots_most
    spot_low = spot_below (machine_in s [] []) (whole [] []) w l busy _ refl

    pub spot_here : (k : ℕ) → k ≡ spot_in s.fixed (record_of_worker s.workers w) → k < slots_most
    spot_here k e = subst (λ (i : ℕ). i < slots_most) (sym e) spot_low

    module _ (stamp value : ℕ) where
      pub sound_next : Sound (after_of s stamp value w lose).state (n + 1) more
      unfolding after_of broken_with
      sound_next = record {
        few = sound.few;
        whole = λ stamps values. of_unbroken _ (moved_unbroken (machine_in s stamps values) (whole stamps values) w l SixtyFour 0 (act_in s stamp value w lose) (slot stamp value) lose busy refl _ refl);
        depth = omega (arith, sound.depth);
        meter = omega (arith, sound.meter);
      }

    module _ (stamps values : List ℕ) (k : ℕ) (at : k ≡ spot_in s.fixed (record_of_worker s.workers w)) (many : length stamps ≡ slots_most) (as_many : length values ≡ slots_most) where
      here : k < slots_most
      here = spot_here k at

      pub next_machine : acted_by (act_of SixtyFour) (machine_in s stamps values) w (place_of s.workers w) lose
          ≡ machine_in (after_of s (get_or stamps k 0) (get_or values k 0) w lose).state (set stamps k (after_of s (get_or stamps k 0) (get_or values k 0) w lose).stamp)
          (set values k (after_of s (get_or stamps k 0) (get_or values k 0) w lose).value)
      unfolding acted_by stored after_of
      next_machine =
          ap (λ (i : ℕ). stored (machine_in s stamps values) w i (act_of SixtyFour s.fixed s.ends (get_or (slots_of stamps values) i (slot 0 0)) (place_of s.workers w) lose)) (sym at)
          ∙ ap (λ (x : Slot). stored (machine_in s stamps values) w k (act_of SixtyFour s.fixed s.ends x (place_of s.workers w) lose))
          (slots_get stamps values k (omega (arith, here)) (omega (arith, here)))
          ∙ ap (λ (x : List Slot). machine_of s.fixed a.ends x (set s.workers w (record_after (record_of_worker s.workers w) a.place a.loss)) s.count
          (s.meter + 1)) (sym (slots_set stamps values k a.slot.stamp.0 a.slot.value))
        where
          a : Acted
          a = act_in s (get_or stamps k 0) (get_or values k 0) w lose

      pub choice_on : choice_of more (machine_in s stamps values) w (code_of lose)
          ≡ after (act_byte (code_of lose) w ∷ []) (walk_of more (machine_in (after_of s (get_or stamps k 0) (get_or values k 0) w lose).state
          (set stamps k (after_of s (get_or stamps k 0) (get_or values k 0) w lose).stamp)
          (set values k (after_of s (get_or stamps k 0) (get_or values k 0) w lose).value)))
      choice_on =
          choice_moves (machine_in s stamps values) w l lose in_time more may
          ∙ ap (λ (x : Machine). after (act_byte (code_of lose) w ∷ []) (walk_of more x)) next_machine
