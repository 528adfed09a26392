-- Who holds the slot, and what stands in it: each kind of effect keeps that.
use Prim.Native.Nat.{ℕ}
use mathlib.Core.Path.{◌≡◌, refl, sym, ap, ◌∙◌, subst}
use mathlib.Core.Logic.{◌≢◌}
use mathlib.Core.Bool.{Bool, true, false, cond, true≢false}
use mathlib.Core.List.{List, [], ◌∷◌, ◌++◌}
use native.Mathlib.Decide.{ℕ_discrete}
use Rattle.single_places.specs.declared.Single.{Single}
use Rattle.single_places.specs.declared.Place.{Place}
use Rattle.single_acts.specs.declared.Acted.{Acted}
use Rattle.single_acts.specs.Acts.{goes, state_to, value_to}
use Rattle.single_machine.specs.declared.Event.{Event}
use Rattle.single_machine.specs.History.{event}
use Rattle.single_demands.specs.Notions.{Access, none, writes, swaps, reads, access_of, item_of, is_read, Holds, holds_c3, holds_b5, HandsOut, Stands, Came, Took}
use Rattle.single_demands.specs.Notions.{waits_after, waiting, OneSlot, enters, displaces, leaves, is_close}
use Rattle.single_demands.specs.Notions as notions
use Rattle.queue_schedules.proofs.Splits.{cons_first, no_cons}
use Rattle.single_proof_demand2.proofs.Log.{waiting_more, stands_more, new_stands, came_more, new_came, took_more, new_took}
use Rattle.single_proof_demand2.proofs.Words.{word}
use Rattle.single_proof_demand2.proofs.Effects.{Hand, free, putting, put, swapping, swapped, taking, took, hand_of_worker, fills, holding, access_by, access_is}
use Rattle.single_proof_demand2.proofs.Effects.{holding_busy, out_of, out_is, out_free, Opens, opens_put, opens_swap, opens_take, LetsOff, off_put}
use Rattle.single_proof_demand2.proofs.Effects.{off_swapped, off_took, Effect, rests, shuts, locks, puts, swaps_in, gets, unlocks}

abbrev pub Standing : List Event → ℕ → Type 0
Standing h v = (k : ℕ) × Stands h v k

abbrev pub Coming : List Event → ℕ → ℕ → Type 0
Coming h w v = (k : ℕ) × Came h w v k

-- An unlocked slot with the value v: where it is pushed, that is the item that waits, and stands there.
abbrev pub Rests : List Event → ℕ → Bool → Type 0
Rests h v true = (waiting h ≡ v ∷ []) × Standing h v
Rests h v false = waiting h ≡ []

-- A slot with the value v, in w's hand.
abbrev pub Does : List Event → ℕ → ℕ → Hand → Type 0
Does h v w free = ⊥
Does h v w (putting x) = waiting h ≡ x ∷ []
Does h v w put = (waiting h ≡ v ∷ []) × Standing h v
Does h v w (swapping x) = (waiting h ≡ x ∷ []) × Standing h v × Took h w v
Does h v w (swapped old) = (waiting h ≡ v ∷ []) × Standing h v × Coming h w old × Took h w old
Does h v w taking = (waiting h ≡ []) × Standing h v × Took h w v
Does h v w (took u) = (waiting h ≡ []) × Coming h w u × Took h w u

-- In nobody's hand and unlocked, or locked and in one hand.
pub data Grip (hands : ℕ → Hand) (s : Single) (h : List Event) (c : Bool) : Type 0 where
  loose : (b : Bool) → s.state ≡ word false b c → ((v : ℕ) → hands v ≡ free) → Rests h s.value b → Grip hands s h c
  held : (w : ℕ) (g : Hand) → hands w ≡ g → s.state ≡ word true (fills g) c → ((v : ℕ) → v ≢ w → hands v ≡ free) → Does h s.value w g → Grip hands s h c

-- What an act of w from p to q leads to.
pub record Led (hands : ℕ → Hand) (s : Single) (h : List Event) (c : Bool) (w : ℕ) (p q : Place) : Type 0 where
  pub grip : Grip hands s (h ++ event w p q ∷ []) c
  pub came : (v : ℕ) → HandsOut q v → Coming h w v
  pub took_it : (v : ℕ) → HandsOut q v → Took h w v
  pub stood : is_read (access_of p) ≡ true → (v k : ℕ) × Stands h v k × Holds q v
  pub plain : OneSlot h (waiting h) → OneSlot (h ++ event w p q ∷ []) (waiting (h ++ event w p q ∷ []))

-- ---- by the hand of a place
module _ (p : Place) (g : Hand) (e : hand_of_worker p ≡ g) where
  accesses : access_of p ≡ access_by g
  accesses = access_is p ∙ ap access_by e

  -- a hand that is on the slot hands nothing out
  keeps : holding g ≡ true → (v : ℕ) → HandsOut p v → ⊥
  keeps k v o = true≢false (sym k ∙ ap holding (sym e ∙ out_free p v o))

none_out : (p : Place) → out_of p ≡ [] → (v : ℕ) → HandsOut p v → ⊥
none_out p n v o = no_cons (sym n ∙ out_is p v o)

-- ---- an act that leaves the slot's value alone, and what waits
module _ (h : List Event) (w : ℕ) (p q : Place) (quiet_p : access_of p ≡ none) where
  stands_on : (v : ℕ) → Standing h v → Standing (h ++ event w p q ∷ []) v
  stands_on v s = (s.0, stands_more h (event w p q) v s.0 s.1 (ap item_of quiet_p) (ap is_read quiet_p))

  unread : is_read (access_of p) ≡ true → (v k : ℕ) × Stands h v k × Holds q v
  unread r = absurd (true≢false (sym r ∙ ap is_read quiet_p))

module _ (h : List Event) (w : ℕ) (p q : Place) (quiet_q : access_of q ≡ none) where
  waits_on : waiting (h ++ event w p q ∷ []) ≡ waiting h
  waits_on = waiting_more h (event w p q) ∙ ap (λ (a : Access). waits_after a (waiting h)) quiet_q

  plain_on : OneSlot h (waiting h) → OneSlot (h ++ event w p q ∷ []) (waiting (h ++ event w p q ∷ []))
  plain_on o = subst (OneSlot (h ++ event w p q ∷ [])) (sym waits_on) (notions.rests h (waiting h) (event w p q) o quiet_q)

module _ (h : List Event) (w : ℕ) (p q : Place) (quiet_p : access_of p ≡ none) (quiet_q : access_of q ≡ none) where
  rests_on : (v : ℕ) (b : Bool) → Rests h v b → Rests (h ++ event w p q ∷ []) v b
  rests_on v true r = (waits_on h w p q quiet_q ∙ r.0, stands_on h w p q quiet_p v r.1)
  rests_on v false r = waits_on h w p q quiet_q ∙ r

  -- to another's hand
  does_on : (v u : ℕ) (g : Hand) → u ≢ w → Does h v u g → Does (h ++ event w p q ∷ []) v u g
  does_on v u free ne d = d
  does_on v u (putting x) ne d = waits_on h w p q quiet_q ∙ d
  does_on v u put ne d = (waits_on h w p q quiet_q ∙ d.0, stands_on h w p q quiet_p v d.1)
  does_on v u (swapping x) ne d =
      (waits_on h w p q quiet_q ∙ d.0, stands_on h w p q quiet_p v d.1, took_more h (event w p q) u v d.2 (λ e. absurd (ne (sym e))))
  does_on v u (swapped old) ne d = (
    waits_on h w p q quiet_q ∙ d.0,
    stands_on h w p q quiet_p v d.1,
    (d.2.0, came_more h (event w p q) u old d.2.0 d.2.1 (λ e. ne (sym e))),
    took_more h (event w p q) u old d.3 (λ e. absurd (ne (sym e))),
  )
  does_on v u taking ne d =
      (waits_on h w p q quiet_q ∙ d.0, stands_on h w p q quiet_p v d.1, took_more h (event w p q) u v d.2 (λ e. absurd (ne (sym e))))
  does_on v u (took y) ne d = (
    waits_on h w p q quiet_q ∙ d.0,
    (d.1.0, came_more h (event w p q) u y d.1.0 d.1.1 (λ e. ne (sym e))),
    took_more h (event w p q) u y d.2 (λ e. absurd (ne (sym e))),
  )

-- ---- a hand takes hold
module _ (h : List Event) (w : ℕ) (p q : Place) (v : ℕ) (quiet_p : access_of p ≡ none) where
  abbrev after : List Event
  after = h ++ event w p q ∷ []

  waits_by : (a : Access) → access_of q ≡ a → waiting after ≡ waits_after a (waiting h)
  waits_by a e = waiting_more h (event w p q) ∙ ap (λ (x : Access). waits_after x (waiting h)) e

  opened : (b : Bool) (g : Hand) → access_of q ≡ access_by g → Opens b g → Rests h v b → Does after v w g
  opened b g e opens_put r = waits_by (access_by g) e
  opened b g e opens_swap r =
      (waits_by (access_by g) e, stands_on h w p q quiet_p v r.1, new_took h (event w p q) v r.0 (ap is_read e))
  opened b g e opens_take r =
      (waits_by (access_by g) e, stands_on h w p q quiet_p v r.1, new_took h (event w p q) v r.0 (ap is_read e))

  plain_opened : (b : Bool) (g : Hand) → access_of q ≡ access_by g → Opens b g → Rests h v b → OneSlot h (waiting h) → OneSlot after (waiting after)
  plain_opened b g e (opens_put {x = x}) r o =
      subst (OneSlot after) (sym (waits_by (access_by g) e)) (enters h (event w p q) x (subst (OneSlot h) r o) e)
  plain_opened b g e (opens_swap {x = x}) r o =
      subst (OneSlot after) (sym (waits_by (access_by g) e)) (displaces h (event w p q) x v (subst (OneSlot h) r.0 o) e)
  plain_opened b g e opens_take r o =
      subst (OneSlot after) (sym (waits_by (access_by g) e)) (leaves h (event w p q) v (subst (OneSlot h) r.0 o) e)

opens_holding : (b : Bool) (g : Hand) → Opens b g → holding g ≡ true
opens_holding b g opens_put = refl
opens_holding b g opens_swap = refl
opens_holding b g opens_take = refl

lets_off_holding : (g : Hand) (q : Place) → LetsOff g q → (holding g ≡ true) × (hand_of_worker q ≡ free) × (access_by g ≡ none)
lets_off_holding g q off_put = (refl, refl, refl)
lets_off_holding g q off_swapped = (refl, refl, refl)
lets_off_holding g q off_took = (refl, refl, refl)

-- ---- one act of w
module _ (hands hands' : ℕ → Hand) (s : Single) (h : List Event) (c : Bool) (w : ℕ) (p : Place)
    (at : hands w ≡ hand_of_worker p) (others : (v : ℕ) → v ≢ w → hands' v ≡ hands v) where
  -- a hand that is free, and one that is not
  clash : (g : Hand) → hand_of_worker p ≡ g → holding g ≡ true → hands w ≡ free → ⊥
  clash g e k f = true≢false (sym k ∙ ap holding (sym e ∙ sym at ∙ f))

  abbrev pub Leads : Acted → Type 0
  Leads a = hands' w ≡ hand_of_worker a.place → Led hands' a.single h (cond (is_close p) true c) w p a.place

  -- all hands free, after an act that leaves w's so
  all_free : ((v : ℕ) → v ≢ w → hands v ≡ free) → hands' w ≡ free → (v : ℕ) → hands' v ≡ free
  all_free f e v = go (ℕ_discrete v w)
    where
      go : Dec (v ≡ w) → hands' v ≡ free
      go (yes q) = subst (λ (x : ℕ). hands' x ≡ free) (sym q) e
      go (no ne) = others v ne ∙ f v ne

  still_open : is_close p ≡ false → c ≡ cond (is_close p) true c
  still_open n = sym (rw n)

  now_shut : is_close p ≡ true → true ≡ cond (is_close p) true c
  now_shut n = sym (rw n)

  -- on a slot in nobody's hand
  module _ (b : Bool) (is : s.state ≡ word false b c) (none_holds : (v : ℕ) → hands v ≡ free) (r : Rests h s.value b) where
    pub from_loose : (a : Acted) → Effect s false b c p a → Leads a
    unfolding goes state_to
    from_loose a (rests q f fq n o) e =
        let qp = accesses p free f in let qq = accesses q free fq in
        record {
          grip = loose b (is ∙ ap (word false b) (still_open n)) (all_free (λ v ne. none_holds v) (e ∙ fq)) (rests_on h w p q qp qq s.value b r);
          came = λ v out. absurd (none_out q o v out);
          took_it = λ v out. absurd (none_out q o v out);
          stood = unread h w p q qp;
          plain = plain_on h w p q qq;
        }
    from_loose a (shuts q f fq n o) e =
        let qp = accesses p free f in let qq = accesses q free fq in
        record {
          grip = loose b (ap (word false b) (now_shut n)) (all_free (λ v ne. none_holds v) (e ∙ fq)) (rests_on h w p q qp qq s.value b r);
          came = λ v out. absurd (none_out q o v out);
          took_it = λ v out. absurd (none_out q o v out);
          stood = unread h w p q qp;
          plain = plain_on h w p q qq;
        }
    from_loose a (locks q g f l hq k n) e =
        let qp = accesses p free f in let qq = accesses q g hq in let hold = opens_holding b g k in
        record {
          grip =
              held w g (e ∙ hq) (ap (word true (fills g)) (still_open n)) (λ v ne. others v ne ∙ none_holds v) (opened h w p q s.value qp b g qq k r);
          came = λ v out. absurd (keeps q g hq hold v out);
          took_it = λ v out. absurd (keeps q g hq hold v out);
          stood = unread h w p q qp;
          plain = plain_opened h w p q s.value qp b g qq k r;
        }
    from_loose a (puts q x f hq n) e = absurd (clash (putting x) f refl (none_holds w))
    from_loose a (swaps_in q x f hq n) e = absurd (clash (swapping x) f refl (none_holds w))
    from_loose a (gets q f hq n) e = absurd (clash taking f refl (none_holds w))
    from_loose a (unlocks q k n) e = absurd (clash (hand_of_worker p) refl (lets_off_holding (hand_of_worker p) q k).0 (none_holds w))

  -- on a slot in another's hand
  module _ (u : ℕ) (g : Hand) (hu : hands u ≡ g) (is : s.state ≡ word true (fills g) c) (alone : (v : ℕ) → v ≢ u → hands v ≡ free)
      (d : Does h s.value u g) (ne : u ≢ w) where
    own_free : hands w ≡ free
    own_free = alone w (λ e. ne (sym e))

    alone_yet : (e : hands' w ≡ free) (v : ℕ) → v ≢ u → hands' v ≡ free
    alone_yet e v nv = go (ℕ_discrete v w)
      where
        go : Dec (v ≡ w) → hands' v ≡ free
        go (yes q) = subst (λ (x : ℕ). hands' x ≡ free) (sym q) e
        go (no nw) = others v nw ∙ alone v nv

    pub from_other : (a : Acted) → Effect s true (fills g) c p a → Leads a
    unfolding goes state_to
    from_other a (rests q f fq n o) e =
        let qp = accesses p free f in let qq = accesses q free fq in
        record {
          grip =
              held u g (others u ne ∙ hu) (is ∙ ap (word true (fills g)) (still_open n)) (alone_yet (e ∙ fq)) (does_on h w p q qp qq s.value u g ne d);
          came = λ v out. absurd (none_out q o v out);
          took_it = λ v out. absurd (none_out q o v out);
          stood = unread h w p q qp;
          plain = plain_on h w p q qq;
        }
    from_other a (shuts q f fq n o) e =
        let qp = accesses p free f in let qq = accesses q free fq in
        record {
          grip =
              held u g (others u ne ∙ hu) (ap (word true (fills g)) (now_shut n)) (alone_yet (e ∙ fq)) (does_on h w p q qp qq s.value u g ne d);
          came = λ v out. absurd (none_out q o v out);
          took_it = λ v out. absurd (none_out q o v out);
          stood = unread h w p q qp;
          plain = plain_on h w p q qq;
        }
    from_other a (locks q k f l hq o n) e = absurd (true≢false l)
    from_other a (puts q x f hq n) e = absurd (clash (putting x) f refl own_free)
    from_other a (swaps_in q x f hq n) e = absurd (clash (swapping x) f refl own_free)
    from_other a (gets q f hq n) e = absurd (clash taking f refl own_free)
    from_other a (unlocks q k n) e = absurd (clash (hand_of_worker p) refl (lets_off_holding (hand_of_worker p) q k).0 own_free)

  -- on a slot in w's own hand
  module _ (g : Hand) (hw : hands w ≡ g) (is : s.state ≡ word true (fills g) c) (alone : (v : ℕ) → v ≢ w → hands v ≡ free) (d : Does h s.value w g) where
    mine : hand_of_worker p ≡ g
    mine = sym at ∙ hw

    -- what is known, of the hand that the place tells
    does_as : (k : Hand) → hand_of_worker p ≡ k → Does h s.value w k
    does_as k e = subst (Does h s.value w) (sym mine ∙ e) d

    word_as : (k : Hand) → hand_of_worker p ≡ k → s.state ≡ word true (fills k) c
    word_as k e = subst (λ (x : Hand). s.state ≡ word true (fills x) c) (sym mine ∙ e) is

    alone_still : (v : ℕ) → v ≢ w → hands' v ≡ free
    alone_still v ne = others v ne ∙ alone v ne

    -- what a hand lets off with
    off_does : (k : Hand) (q : Place) → hand_of_worker p ≡ k → LetsOff k q
        → Rests (h ++ event w p q ∷ []) s.value (fills k) × ((v : ℕ) → HandsOut q v → Coming h w v × Took h w v)
    off_does k q e off_put =
        let x = does_as put e in let qp = accesses p put e in
        ((waits_on h w p q refl ∙ x.0, stands_on h w p q qp s.value x.1), λ v out. absurd (none_out q refl v out))
    off_does k q e (off_swapped {old = old}) =
        let x = does_as (swapped old) e in let qp = accesses p (swapped old) e in (
          (waits_on h w p q refl ∙ x.0, stands_on h w p q qp s.value x.1),
          λ v out. let z = cons_first (out_is q v out) in (subst (Coming h w) z x.2, subst (Took h w) z x.3),
        )
    off_does k q e (off_took {v = y}) =
        let x = does_as (took y) e in (
          waits_on h w p q refl ∙ x.0,
          λ v out. let z = cons_first (out_is q v out) in (subst (Coming h w) z x.1, subst (Took h w) z x.2),
        )

    pub from_own : (a : Acted) → Effect s true (fills g) c p a → Leads a
    unfolding goes state_to value_to
    from_own a (rests q f fq n o) e = absurd (does_as free f)
    from_own a (shuts q f fq n o) e = absurd (does_as free f)
    from_own a (locks q k f l hq o n) e = absurd (does_as free f)
    from_own a (puts q x f hq n) e =
        let qp = accesses p (putting x) f in let qq = accesses q put hq in
        record {
          grip =
              held w put (e ∙ hq) (word_as (putting x) f ∙ ap (word true true) (still_open n)) alone_still
              (waits_on h w p q qq ∙ does_as (putting x) f, (_, new_stands h (event w p q) x (ap item_of qp)));
          came = λ v out. absurd (keeps q put hq refl v out);
          took_it = λ v out. absurd (keeps q put hq refl v out);
          stood = λ i. absurd (true≢false (sym i ∙ ap is_read qp));
          plain = plain_on h w p q qq;
        }
    from_own a (swaps_in q x f hq n) e =
        let qp = accesses p (swapping x) f in
        let hand : hand_of_worker q ≡ swapped s.value = ap hand_of_worker hq in
        let qq = accesses q (swapped s.value) hand in
        let y = does_as (swapping x) f in
        let got : Holds q s.value = subst (λ (z : Place). Holds z s.value) (sym hq) holds_b5 in
        record {
          grip =
              held w (swapped s.value) (e ∙ hand) (word_as (swapping x) f ∙ ap (word true true) (still_open n)) alone_still (
                waits_on h w p q qq ∙ y.0,
                (_, new_stands h (event w p q) x (ap item_of qp)),
                (y.1.0, new_came h (event w p q) s.value y.1.0 y.1.1.latest (ap is_read qp) got),
                took_more h (event w p q) w s.value y.2 (λ z. holding_busy q (ap holding hand)),
              );
          came = λ v out. absurd (keeps q (swapped s.value) hand refl v out);
          took_it = λ v out. absurd (keeps q (swapped s.value) hand refl v out);
          stood = λ i. (s.value, y.1.0, y.1.1, got);
          plain = plain_on h w p q qq;
        }
    from_own a (gets q f hq n) e =
        let qp = accesses p taking f in
        let hand : hand_of_worker q ≡ took s.value = ap hand_of_worker hq in
        let qq = accesses q (took s.value) hand in
        let y = does_as taking f in
        let got : Holds q s.value = subst (λ (z : Place). Holds z s.value) (sym hq) holds_c3 in
        record {
          grip =
              held w (took s.value) (e ∙ hand) (word_as taking f ∙ ap (word true false) (still_open n)) alone_still (
                waits_on h w p q qq ∙ y.0,
                (y.1.0, new_came h (event w p q) s.value y.1.0 y.1.1.latest (ap is_read qp) got),
                took_more h (event w p q) w s.value y.2 (λ z. holding_busy q (ap holding hand)),
              );
          came = λ v out. absurd (keeps q (took s.value) hand refl v out);
          took_it = λ v out. absurd (keeps q (took s.value) hand refl v out);
          stood = λ i. (s.value, y.1.0, y.1.1, got);
          plain = plain_on h w p q qq;
        }
    from_own a (unlocks q k n) e =
        let off = lets_off_holding (hand_of_worker p) q k in
        let x = off_does (hand_of_worker p) q refl k in
        let qp : access_of p ≡ none = access_is p ∙ off.2 in
        let qq = accesses q free off.1 in
        record {
          grip =
              loose (fills g) (ap (word false (fills g)) (still_open n)) (all_free alone (e ∙ off.1))
              (subst (λ (z : Hand). Rests (h ++ event w p q ∷ []) s.value (fills z)) mine x.0);
          came = λ v out. (x.1 v out).0;
          took_it = λ v out. (x.1 v out).1;
          stood = unread h w p q qp;
          plain = plain_on h w p q qq;
        }
