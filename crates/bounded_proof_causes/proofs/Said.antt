-- What is kept of each worker is what the history says.
use mathlib.Core.Path.{◌≡◌, refl, sym, ap, ◌∙◌, subst}
use mathlib.Core.Logic.{◌⊎◌, inl, inr}
use mathlib.Core.Bool.{Bool, true, false, cond, true≢false}
use native.Mathlib.Omega.{arith}
use mathlib.Core.List.{List, [], ◌∷◌, ◌++◌, append_assoc, append-nil}
use Prim.Native.Nat.{ℕ, ◌<◌}
use native.Mathlib.Decide.{ℕ_discrete}
use lib.Dec.{eqb}
use lib.ListN.{length, length-replicate}
use borrow.Author.Tests.{eq-eqb, ne_eqb}
use Rattle.queue_rows.proofs.Alike.{all_alike}
use Rattle.bounded_machine.specs.declared.Event.{Event}
use Rattle.bounded_causes.specs.declared.Deed.{Deed}
use Rattle.bounded_causes.specs.declared.Since.{Since}
use Rattle.bounded_causes.specs.declared.Watch.{Watch}
use Rattle.bounded_causes.specs.declared.Watches.{Watches}
use Rattle.bounded_causes.specs.Causes.{watched_most, untouched, since_with, own_act, other_act, unwatched, start, watch_of, others_hold, watched_of, named_of}
use Rattle.bounded_demands.specs.Notions.{watches_from, watches, other_hand, deed, NoneBy, DoneSince, LatestBy, Tells}
use Rattle.bounded_orders.specs.Orders.{records_most}
use Rattle.bounded_demands.specs.Demands.{Kept, KeptAsSaid, KeptOf}
use Rattle.bounded_proof_demand2.proofs.Lists.{Last, Earlier, split_end}
use Rattle.bounded_proof_demand2.proofs.Reached.{nil_split}
use Rattle.bounded_proof_causes.proofs.Folds.{watches_end, watched_long, watched_own, watched_else}

-- ---- lists that grow at their end

-- what holds of no acts, and with one act more, holds of all
grow : (Q : List Event → Type 0) → ((h : List Event) (e : Event) → Q h → Q (h ++ e ∷ [])) → (rest past : List Event) → Q past → Q (past ++ rest)
grow Q more [] past q = rw (append-nil past) q
grow Q more (e ∷ rest) past q = subst Q (append_assoc past (e ∷ []) rest) (grow Q more rest (past ++ e ∷ []) (more past e q))

none_more : (such : Deed → Bool) (w : ℕ) (h : List Event) (e : Event) → NoneBy such w h → (e.worker ≡ w → such (deed e) ≡ false) → NoneBy such w (h ++ e ∷ [])
none_more such w [] e n k = (k, tt)
none_more such w (a ∷ h) e n k = (n.0, none_more such w h e n.1 k)

none_less : (such : Deed → Bool) (w : ℕ) (h : List Event) (e : Event) → NoneBy such w (h ++ e ∷ []) → NoneBy such w h × (e.worker ≡ w → such (deed e) ≡ false)
none_less such w [] e n = (tt, n.0)
none_less such w (a ∷ h) e n = let z = none_less such w h e n.1 in ((n.0, z.0), z.1)

-- an act of w that did such
abbrev resets : (Deed → Bool) → ℕ → Event → Bool
resets such w e = cond (eqb e.worker w) (such (deed e)) false

reset_off : (such : Deed → Bool) (w : ℕ) (e : Event) → resets such w e ≡ false → e.worker ≡ w → such (deed e) ≡ false
reset_off such w e h q = sym (simp (eq-eqb e.worker w q)) ∙ h

reset_none : (such : Deed → Bool) (w : ℕ) (e : Event) → (e.worker ≡ w → such (deed e) ≡ false) → resets such w e ≡ false
reset_none such w e k = go (ℕ_discrete e.worker w)
  where
    go : Dec (e.worker ≡ w) → resets such w e ≡ false
    go (yes q) = simp (eq-eqb e.worker w q) (k q)
    go (no n) = simp (ne_eqb e.worker w n)

reset_on : (such : Deed → Bool) (w : ℕ) (e : Event) → resets such w e ≡ true → (e.worker ≡ w) × (such (deed e) ≡ true)
reset_on such w e h = go (ℕ_discrete e.worker w)
  where
    go : Dec (e.worker ≡ w) → (e.worker ≡ w) × (such (deed e) ≡ true)
    go (yes q) = (q, sym (simp (eq-eqb e.worker w q)) ∙ h)
    go (no n) = absurd (true≢false (sym h ∙ simp (ne_eqb e.worker w n)))

-- ---- done since

module _ (this such : Deed → Bool) (w : ℕ) (h : List Event) (e : Event) (b : Bool) (o : Tells b (DoneSince this such w h)) where
  -- by a reset, by an act that did this, or by an earlier one
  since_to : (r d : Bool) → resets such w e ≡ r → this (deed e) ≡ d → cond r false (cond d true b) ≡ true → DoneSince this such w (h ++ e ∷ [])
  since_to true d p q t = absurd (true≢false (sym t))
  since_to false true p q t = record { earlier = h; act = e; later = []; is = refl; so = q; since = (reset_off such w e p, tt) }
  since_to false false p q t =
      let z = o.0 t in
      record {
        earlier = z.earlier;
        act = z.act;
        later = z.later ++ e ∷ [];
        is = ap (λ (l : List Event). l ++ e ∷ []) z.is ∙ append_assoc z.earlier (z.act ∷ z.later) (e ∷ []);
        so = z.so;
        since = none_more such w (z.act ∷ z.later) e z.since (reset_off such w e p);
      }

  since_from : (r d : Bool) → resets such w e ≡ r → this (deed e) ≡ d → DoneSince this such w (h ++ e ∷ []) → cond r false (cond d true b) ≡ true
  since_from r d p q z = go (split_end h e z.earlier z.act z.later z.is)
    where
      none : (e.worker ≡ w → such (deed e) ≡ false) → r ≡ false
      none k = sym p ∙ reset_none such w e k

      done : r ≡ false → cond d true b ≡ true → cond r false (cond d true b) ≡ true
      done k t = rw k t

      go : Last h e z.earlier z.act z.later ⊎ Earlier h e z.earlier z.act z.later → cond r false (cond d true b) ≡ true
      go (inl l) =
          done (none (subst (λ (a : Event). a.worker ≡ w → such (deed a) ≡ false) l.one z.since.0))
          (ap (λ (y : Bool). cond y true b) (sym q ∙ subst (λ (a : Event). this (deed a) ≡ true) l.one z.so))
      go (inr l) =
          let n = none_less such w (z.act ∷ l.left) e (subst (λ (y : List Event). NoneBy such w (z.act ∷ y)) l.grown z.since) in
          done (none n.1) (late d (o.1 (record { earlier = z.earlier; act = z.act; later = l.left; is = l.was; so = z.so; since = n.0 })))
        where
          late : (d : Bool) → b ≡ true → cond d true b ≡ true
          late true t = refl
          late false t = t

  since_more : Tells (cond (resets such w e) false (cond (this (deed e)) true b)) (DoneSince this such w (h ++ e ∷ []))
  since_more = (since_to _ _ refl refl, since_from _ _ refl refl)

-- ---- at the latest

module _ (such : Deed → Bool) (w : ℕ) (so : List Event → Event → Type 0) (h : List Event) (e : Event) (b c : Bool) (now : Tells c (so h e)) (o : Tells b (LatestBy such w so h)) where
  latest_to : (r : Bool) → resets such w e ≡ r → cond r c b ≡ true → LatestBy such w so (h ++ e ∷ [])
  latest_to true p t =
      let z = reset_on such w e p in
      record { earlier = h; act = e; later = []; is = refl; by = z.0; did = z.1; holds = now.0 t; last = tt }
  latest_to false p t =
      let z = o.0 t in
      record {
        earlier = z.earlier;
        act = z.act;
        later = z.later ++ e ∷ [];
        is = ap (λ (l : List Event). l ++ e ∷ []) z.is ∙ append_assoc z.earlier (z.act ∷ z.later) (e ∷ []);
        by = z.by;
        did = z.did;
        holds = z.holds;
        last = none_more such w z.later e z.last (reset_off such w e p);
      }

  latest_from : LatestBy such w so (h ++ e ∷ []) → cond (resets such w e) c b ≡ true
  latest_from z = go (split_end h e z.earlier z.act z.later z.is)
    where
      go : Last h e z.earlier z.act z.later ⊎ Earlier h e z.earlier z.act z.later → cond (resets such w e) c b ≡ true
      go (inl l) =
          let q : e.worker ≡ w = subst (λ (a : Event). a.worker ≡ w) l.one z.by in
          let d : such (deed e) ≡ true = subst (λ (a : Event). such (deed a) ≡ true) l.one z.did in
          let s : so h e = subst (so h) l.one (subst (λ (y : List Event). so y z.act) l.whole z.holds) in
          simp (eq-eqb e.worker w q, d) (now.1 s)
      go (inr l) =
          let n = none_less such w l.left e (subst (NoneBy such w) l.grown z.last) in
          simp (reset_none such w e n.1)
          (o.1 (record { earlier = z.earlier; act = z.act; later = l.left; is = l.was; by = z.by; did = z.did; holds = z.holds; last = n.0 }))

  latest_more : Tells (cond (resets such w e) c b) (LatestBy such w so (h ++ e ∷ []))
  latest_more = (latest_to (resets such w e) refl, latest_from)

-- ---- one act more

-- what is kept of w after an act e, bit by bit
abbrev bits : ℕ → Event → List Watch → Watch
bits w e xs =
    record {
      word =
          record {
            tail = cond (resets (λ (d : Deed). d.word) w e) false (cond (deed e).tail true (watch_of xs w).word.tail);
            head = cond (resets (λ (d : Deed). d.word) w e) false (cond (deed e).head true (watch_of xs w).word.head);
            mark = cond (resets (λ (d : Deed). d.word) w e) false (cond (deed e).mark true (watch_of xs w).word.mark);
          };
      stamp =
          record {
            tail = cond (resets (λ (d : Deed). d.stamp) w e) false (cond (deed e).tail true (watch_of xs w).stamp.tail);
            head = cond (resets (λ (d : Deed). d.stamp) w e) false (cond (deed e).head true (watch_of xs w).stamp.head);
            mark = cond (resets (λ (d : Deed). d.stamp) w e) false (cond (deed e).mark true (watch_of xs w).stamp.mark);
          };
      others = cond (resets (λ (d : Deed). d.stamp) w e) (others_hold xs w) (watch_of xs w).others;
      hand = cond (resets (λ (d : Deed). true) w e) (deed e).hand (watch_of xs w).hand;
    }

own_bits : (b : Bool) (d : Deed) (s : Since)
    → cond b untouched (since_with d s)
    ≡ record { tail = cond b false (cond d.tail true s.tail); head = cond b false (cond d.head true s.head); mark = cond b false (cond d.mark true s.mark) }
unfolding since_with
own_bits true d s = refl
own_bits false d s = refl

own_kept : (o : Bool) (d : Deed) (x : Watch)
    → own_act o d x
    ≡ record {
      word = record {
        tail = cond d.word false (cond d.tail true x.word.tail);
        head = cond d.word false (cond d.head true x.word.head);
        mark = cond d.word false (cond d.mark true x.word.mark);
      };
      stamp = record {
        tail = cond d.stamp false (cond d.tail true x.stamp.tail);
        head = cond d.stamp false (cond d.head true x.stamp.head);
        mark = cond d.stamp false (cond d.mark true x.stamp.mark);
      };
      others = cond d.stamp o x.others;
      hand = d.hand;
    }
unfolding own_act
own_kept o d x = rw (own_bits d.word d x.word, own_bits d.stamp d x.stamp)

kept_more : (w : ℕ) → w < watched_most → (h : List Event) (e : Event) → length (watches h).each ≡ watched_most → watch_of (watches (h ++ e ∷ [])).each w ≡ bits w e (watches h).each
unfolding named_of other_act since_with
kept_more w few h e long = ap (λ (ws : Watches). watch_of ws.each w) (watches_end start h e) ∙ go (ℕ_discrete e.worker w)
  where
    go : Dec (e.worker ≡ w) → watch_of (watched_of e.worker (deed e) (watches h).each) w ≡ bits w e (watches h).each
    go (yes q) =
        subst (λ (v : ℕ). watch_of (watched_of v (deed e) (watches h).each) w ≡ bits w e (watches h).each) (sym q)
        (watched_own w (deed e) (watches h).each long few ∙ own_kept (others_hold (watches h).each w) (deed e) (watch_of (watches h).each w) ∙ simp (eq-eqb e.worker w q))
    go (no n) =
        watched_else e.worker (deed e) (watches h).each long w few (λ q. n (sym q)) ∙ simp (ne_eqb e.worker w n)

itself : (b : Bool) → Tells b (b ≡ true)
itself b = (λ h. h, λ h. h)

abbrev Said : ℕ → List Event → Type 0
Said w h = (length (watches h).each ≡ watched_most) × Kept watches h w

module _ (w : ℕ) (few : w < watched_most) where
  said_more : (h : List Event) (e : Event) → Said w h → Said w (h ++ e ∷ [])
  unfolding named_of
  said_more h e (long, k) =
      let now : watch_of (watches (h ++ e ∷ [])).each w ≡ bits w e (watches h).each = kept_more w few h e long in (
        ap (λ (ws : Watches). length ws.each) (watches_end start h e) ∙ watched_long e.worker (deed e) (watches h).each long,
        record {
          word_tail =
              subst (λ (y : Watch). Tells y.word.tail (DoneSince (λ (d : Deed). d.tail) (λ (d : Deed). d.word) w (h ++ e ∷ []))) (sym now)
              (since_more (λ (d : Deed). d.tail) (λ (d : Deed). d.word) w h e _ k.word_tail);
          word_head =
              subst (λ (y : Watch). Tells y.word.head (DoneSince (λ (d : Deed). d.head) (λ (d : Deed). d.word) w (h ++ e ∷ []))) (sym now)
              (since_more (λ (d : Deed). d.head) (λ (d : Deed). d.word) w h e _ k.word_head);
          word_mark =
              subst (λ (y : Watch). Tells y.word.mark (DoneSince (λ (d : Deed). d.mark) (λ (d : Deed). d.word) w (h ++ e ∷ []))) (sym now)
              (since_more (λ (d : Deed). d.mark) (λ (d : Deed). d.word) w h e _ k.word_mark);
          stamp_tail =
              subst (λ (y : Watch). Tells y.stamp.tail (DoneSince (λ (d : Deed). d.tail) (λ (d : Deed). d.stamp) w (h ++ e ∷ []))) (sym now)
              (since_more (λ (d : Deed). d.tail) (λ (d : Deed). d.stamp) w h e _ k.stamp_tail);
          stamp_head =
              subst (λ (y : Watch). Tells y.stamp.head (DoneSince (λ (d : Deed). d.head) (λ (d : Deed). d.stamp) w (h ++ e ∷ []))) (sym now)
              (since_more (λ (d : Deed). d.head) (λ (d : Deed). d.stamp) w h e _ k.stamp_head);
          others =
              subst (λ (y : Watch). Tells y.others (LatestBy (λ (d : Deed). d.stamp) w (λ earlier act. other_hand w earlier ≡ true) (h ++ e ∷ []))) (sym now)
              (latest_more (λ (d : Deed). d.stamp) w (λ earlier act. other_hand w earlier ≡ true) h e _ (other_hand w h) (itself (other_hand w h)) k.others);
          hand =
              subst (λ (y : Watch). Tells y.hand (LatestBy (λ (d : Deed). true) w (λ earlier act. (deed act).hand ≡ true) (h ++ e ∷ []))) (sym now)
              (latest_more (λ (d : Deed). true) w (λ earlier act. (deed act).hand ≡ true) h e _ (deed e).hand (itself (deed e).hand) k.hand);
        },
      )

  -- before the first act nothing is kept
  no_since : (this such : Deed → Bool) → Tells false (DoneSince this such w [])
  no_since this such = (λ t. absurd (true≢false (sym t)), λ z. absurd (nil_split z.earlier z.act z.later z.is))

  no_latest : (such : Deed → Bool) (so : List Event → Event → Type 0) → Tells false (LatestBy such w so [])
  no_latest such so = (λ t. absurd (true≢false (sym t)), λ z. absurd (nil_split z.earlier z.act z.later z.is))

  said_none : Said w []
  unfolding watches_from
  said_none =
      let q : watch_of (watches []).each w ≡ unwatched = all_alike watched_most w unwatched in (
        length-replicate watched_most unwatched,
        record {
          word_tail = subst (λ (y : Watch). Tells y.word.tail (DoneSince (λ (d : Deed). d.tail) (λ (d : Deed). d.word) w [])) (sym q) (no_since (λ (d : Deed). d.tail) (λ (d : Deed). d.word));
          word_head = subst (λ (y : Watch). Tells y.word.head (DoneSince (λ (d : Deed). d.head) (λ (d : Deed). d.word) w [])) (sym q) (no_since (λ (d : Deed). d.head) (λ (d : Deed). d.word));
          word_mark = subst (λ (y : Watch). Tells y.word.mark (DoneSince (λ (d : Deed). d.mark) (λ (d : Deed). d.word) w [])) (sym q) (no_since (λ (d : Deed). d.mark) (λ (d : Deed). d.word));
          stamp_tail = subst (λ (y : Watch). Tells y.stamp.tail (DoneSince (λ (d : Deed). d.tail) (λ (d : Deed). d.stamp) w [])) (sym q)
              (no_since (λ (d : Deed). d.tail) (λ (d : Deed). d.stamp));
          stamp_head = subst (λ (y : Watch). Tells y.stamp.head (DoneSince (λ (d : Deed). d.head) (λ (d : Deed). d.stamp) w [])) (sym q)
              (no_since (λ (d : Deed). d.head) (λ (d : Deed). d.stamp));
          others =
              subst (λ (y : Watch). Tells y.others (LatestBy (λ (d : Deed). d.stamp) w (λ earlier act. other_hand w earlier ≡ true) [])) (sym q)
              (no_latest (λ (d : Deed). d.stamp) (λ earlier act. other_hand w earlier ≡ true));
          hand =
              subst (λ (y : Watch). Tells y.hand (LatestBy (λ (d : Deed). true) w (λ earlier act. (deed act).hand ≡ true) [])) (sym q)
              (no_latest (λ (d : Deed). true) (λ earlier act. (deed act).hand ≡ true));
        },
      )

pub kept_of_records : KeptOf records_most
kept_of_records h w few = (grow (Said w) (said_more w few) h [] (said_none w few)).1

pub kept_as_said : KeptAsSaid watches
kept_as_said = record { more = λ h e. watches_end start h e; so = λ h w few. kept_of_records h w (omega arith) }
