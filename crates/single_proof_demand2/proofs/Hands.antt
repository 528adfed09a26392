-- What the grip on the slot says of hands, of the word and of contents.
use Prim.Native.Nat.{ℕ, ◌<◌, ◌≤◌}
use mathlib.Core.Path.{◌≡◌, refl, sym, ap, ◌∙◌}
use mathlib.Core.Bool.{Bool, true, false, cond, true≢false}
use mathlib.Core.List.{List, [], ◌∷◌}
use native.Mathlib.Omega.{arith}
use native.Mathlib.Decide.{ℕ_discrete, dec_lt}
use lib.Dec.{ltb}
use lib.ListN.{length, get_or-eq_default}
use borrow.Author.Tests.{le-ltb}
use Rattle.queue_entries.specs.Limits.{workers_most}
use Rattle.queue_schedules.proofs.Records.{every}
use Rattle.single_words.specs.Words.{locked_in, pushed_in, closed_in}
use Rattle.single_places.specs.declared.Place.{Place}
use Rattle.single_places.specs.declared.Place.TheVariants.{Idle, A1, A2, A3, B1, B2, B3, B4, B5, C1, C2, C3, Len1, Empty1, Full1, Close1, IsClosed1}
use Rattle.single_places.specs.declared.Worker.{Worker}
use Rattle.single_places.specs.Places.{view_of}
use Rattle.single_acts.specs.Acts.{len_of}
use Rattle.single_machine.specs.declared.Machine.{Machine}
use Rattle.single_machine.specs.declared.Event.{Event}
use Rattle.single_machine.specs.Machine.{place_of, idler}
use Rattle.single_machine.specs.Broken.{record_fits, idle_from}
use Rattle.single_machine.specs.Contents.{contents_of}
use Rattle.single_demands.specs.Notions.{InHand, Popping, popping_c2, popping_c3, is_read, waiting}
use Rattle.single_demands.specs.Demands.{ReadsWritten, OneHand, LockedInHand, PushedWaits, ClosedHolds, ContentsWait}
use Rattle.single_proof_demand2.proofs.Words.{locked_of, pushed_of, closed_of}
use Rattle.single_proof_demand2.proofs.Effects.{Hand, free, putting, put, swapping, swapped, taking, took, hand_of_worker, fills, holding, access_by, hand_is, access_is}
use Rattle.single_proof_demand2.proofs.Grip.{Grip, loose, held, Standing, Rests, Does}
use Rattle.single_proof_demand2.proofs.Turns.{stood}
use Rattle.single_proof_demand2.proofs.Reached.{Reached, hands, idle_free}

-- ---- of a hand
pub hand_holds : (h : List Event) (v w : ℕ) (g : Hand) → Does h v w g → holding g ≡ true
hand_holds h v w free d = absurd d
hand_holds h v w (putting x) d = refl
hand_holds h v w put d = refl
hand_holds h v w (swapping x) d = refl
hand_holds h v w (swapped old) d = refl
hand_holds h v w taking d = refl
hand_holds h v w (took u) d = refl

hand_stands : (h : List Event) (v w : ℕ) (g : Hand) → is_read (access_by g) ≡ true → Does h v w g → Standing h v
hand_stands h v w free i d = absurd d
hand_stands h v w (putting x) i d = absurd (true≢false (sym i))
hand_stands h v w put i d = absurd (true≢false (sym i))
hand_stands h v w (swapping x) i d = d.1
hand_stands h v w (swapped old) i d = absurd (true≢false (sym i))
hand_stands h v w taking i d = d.1
hand_stands h v w (took u) i d = absurd (true≢false (sym i))

-- the item that waits while a hand is on the slot
hand_waits : (h : List Event) (v w : ℕ) (g : Hand) → Does h v w g → cond (fills g) 1 0 ≡ length (waiting h)
hand_waits h v w free d = absurd d
hand_waits h v w (putting x) d = sym (ap length d)
hand_waits h v w put d = sym (ap length d.0)
hand_waits h v w (swapping x) d = sym (ap length d.0)
hand_waits h v w (swapped old) d = sym (ap length d.0)
hand_waits h v w taking d = sym (ap length d.0)
hand_waits h v w (took u) d = sym (ap length d.0)

rests_waits : (h : List Event) (v : ℕ) (b : Bool) → Rests h v b → cond b 1 0 ≡ length (waiting h)
rests_waits h v true r = sym (ap length r.0)
rests_waits h v false r = sym (ap length r)

-- ---- of a place
pub popping_of : (p : Place) → fills (hand_of_worker p) ≡ false → Popping p
popping_of (Idle a) f = absurd (true≢false f)
popping_of (A1 x) f = absurd (true≢false f)
popping_of (A2 x) f = absurd (true≢false f)
popping_of A3 f = absurd (true≢false f)
popping_of (B1 e x) f = absurd (true≢false f)
popping_of (B2 x) f = absurd (true≢false f)
popping_of B3 f = absurd (true≢false f)
popping_of (B4 x) f = absurd (true≢false f)
popping_of (B5 old) f = absurd (true≢false f)
popping_of (C1 e) f = absurd (true≢false f)
popping_of C2 f = popping_c2
popping_of (C3 v) f = popping_c3
popping_of Len1 f = absurd (true≢false f)
popping_of Empty1 f = absurd (true≢false f)
popping_of Full1 f = absurd (true≢false f)
popping_of Close1 f = absurd (true≢false f)
popping_of IsClosed1 f = absurd (true≢false f)

in_hand : (p : Place) → InHand p → holding (hand_of_worker p) ≡ true
in_hand p i = sym (hand_is p) ∙ i

not_free : (p : Place) → InHand p → hand_of_worker p ≡ free → ⊥
not_free p i f = true≢false (sym (in_hand p i) ∙ ap holding f)

-- ---- of the machine
module _ (workers : ℕ) (m : Machine) (h : List Event) (r : Reached workers m h) where
  pub reads_written : ReadsWritten m h
  reads_written w i = go r.grip
    where
      reads_by : is_read (access_by (hands m w)) ≡ true
      reads_by = ap is_read (sym (access_is (stood m w))) ∙ i

      go : Grip (hands m) m.single h r.closed → Standing h m.single.value
      go (loose b is none s) = absurd (true≢false (sym reads_by ∙ ap (λ (g : Hand). is_read (access_by g)) (none w)))
      go (held u g hu is alone d) = by (ℕ_discrete w u)
        where
          by : Dec (w ≡ u) → Standing h m.single.value
          by (yes e) = hand_stands h m.single.value u g (ap (λ (x : Hand). is_read (access_by x)) (sym (ap (hands m) e ∙ hu)) ∙ reads_by) d
          by (no ne) = absurd (true≢false (sym reads_by ∙ ap (λ (x : Hand). is_read (access_by x)) (alone w ne)))

  pub one_hand : OneHand m
  one_hand v w iv iw = go r.grip
    where
      go : Grip (hands m) m.single h r.closed → v ≡ w
      go (loose b is none s) = absurd (not_free (stood m v) iv (none v))
      go (held u g hu is alone d) = by (ℕ_discrete v u) (ℕ_discrete w u)
        where
          by : Dec (v ≡ u) → Dec (w ≡ u) → v ≡ w
          by (yes a) (yes b) = a ∙ sym b
          by (no a) y = absurd (not_free (stood m v) iv (alone v a))
          by (yes a) (no b) = absurd (not_free (stood m w) iw (alone w b))

  pub locked : LockedInHand m
  locked = go r.grip
    where
      go : Grip (hands m) m.single h r.closed → LockedInHand m
      go (loose b is none s) =
          (λ l. absurd (true≢false (sym l ∙ locked_of m.single.state false b r.closed is)), λ i. absurd (not_free (stood m i.0) i.1 (none i.0)))
      go (held u g hu is alone d) = (
        λ l. (u, hand_is (stood m u) ∙ ap holding hu ∙ hand_holds h m.single.value u g d),
        λ i. locked_of m.single.state true (fills g) r.closed is,
      )

  pub pushed : PushedWaits m h
  pushed = go r.grip
    where
      len_of_lem : (b : Bool) → pushed_in m.single.state ≡ b → len_of m.single.state ≡ cond b 1 0
      len_of_lem b e = ap (λ (x : Bool). cond x 1 0) e

      go : Grip (hands m) m.single h r.closed → PushedWaits m h
      go (loose b is none s) = len_of_lem b (pushed_of m.single.state false b r.closed is) ∙ rests_waits h m.single.value b s
      go (held u g hu is alone d) = len_of_lem (fills g) (pushed_of m.single.state true (fills g) r.closed is) ∙ hand_waits h m.single.value u g d

  pub closed_holds : ClosedHolds m h
  closed_holds = go r.grip ∙ r.closed_is
    where
      go : Grip (hands m) m.single h r.closed → closed_in m.single.state ≡ r.closed
      go (loose b is none s) = closed_of m.single.state false b r.closed is
      go (held u g hu is alone d) = closed_of m.single.state true (fills g) r.closed is

  -- a pop is in progress where the word is locked and not pushed
  pub pop_in_progress : locked_in m.single.state ≡ true → pushed_in m.single.state ≡ false → (v : ℕ) × Popping (stood m v)
  pop_in_progress l n = go r.grip
    where
      go : Grip (hands m) m.single h r.closed → (v : ℕ) × Popping (stood m v)
      go (loose b is none s) = absurd (true≢false (sym l ∙ locked_of m.single.state false b r.closed is))
      go (held u g hu is alone d) =
          (u, popping_of (stood m u) (ap fills hu ∙ sym (pushed_of m.single.state true (fills g) r.closed is) ∙ n))

  -- ---- with all workers idle
  idle_one : idle_from 0 m.workers ≡ true → (v : ℕ) → (view_of (stood m v)).busy ≡ false
  unfolding idle_from record_fits
  idle_one a v = go (dec_lt v workers_most)
    where
      fits : (b : Bool) → cond b (ltb v 0) true ≡ true → b ≡ false
      fits true e = absurd (true≢false (sym e ∙ le-ltb v 0 (omega arith)))
      fits false e = refl

      go : Dec (v < workers_most) → (view_of (stood m v)).busy ≡ false
      go (yes l) =
          fits (view_of (stood m v)).busy
          (every workers_most 0 (λ (i : ℕ). cond (view_of (place_of m.workers i)).busy (ltb i 0) true) a v (omega arith) (omega arith))
      go (no l) =
          let past : length m.workers ≤ v = omega (arith, r.long) in
          ap (λ (x : Worker). (view_of x.place).busy) (get_or-eq_default m.workers idler past)

  pub contents_wait : ContentsWait m h
  unfolding contents_of
  contents_wait a = go r.grip
    where
      free_all : (v : ℕ) → hands m v ≡ free
      free_all v = idle_free (stood m v) (idle_one a v)

      here : (b : Bool) → Rests h m.single.value b → cond b (m.single.value ∷ []) [] ≡ waiting h
      here true s = sym s.0
      here false s = sym s

      go : Grip (hands m) m.single h r.closed → cond (pushed_in m.single.state) (m.single.value ∷ []) [] ≡ waiting h
      go (loose b is none s) =
          ap (λ (x : Bool). cond x (m.single.value ∷ []) []) (pushed_of m.single.state false b r.closed is) ∙ here b s
      go (held u g hu is alone d) = absurd (true≢false (sym (hand_holds h m.single.value u g d) ∙ ap holding (sym hu ∙ free_all u)))
