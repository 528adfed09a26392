-- Every retry has a cause (document 02, item 9): what each worker knows, carried along a history beside the ring's picture.
use mathlib.Core.Path.{◌≡◌, refl, sym, ap, ◌∙◌, subst}
use mathlib.Core.Logic.{◌≢◌, ◌⊎◌, inl, inr}
use mathlib.Core.Bool.{Bool, true, false, true≢false}
use mathlib.Core.List.{List, [], ◌∷◌, ◌++◌, append-nil}
use Prim.Native.Nat.{ℕ, ◌+◌, ◌*◌, ◌%◌, ◌≤◌, ◌<◌}
use native.Mathlib.Omega.{arith}
use native.Mathlib.Decide.{ℕ_discrete}
use lib.ListN.{length, get_or, length-replicate}
use Rattle.queue_entries.specs.Limits.{workers_most}
use Rattle.queue_entries.specs.declared.Call.{Call}
use Rattle.queue_entries.specs.declared.Entry.{Entry}
use Rattle.queue_rows.proofs.Alike.{all_alike}
use Rattle.bounded_words.specs.declared.Stamp.{Stamp}
use Rattle.bounded_words.specs.declared.Fixed.{Fixed}
use Rattle.bounded_words.specs.declared.Width.{Width}
use Rattle.bounded_words.specs.declared.Width.TheVariants.{SixtyFour}
use Rattle.bounded_words.specs.Words.{mark_of, unmarked_of}
use Rattle.bounded_places.specs.declared.Slot.{Slot}
use Rattle.bounded_places.specs.declared.Ends.{Ends}
use Rattle.bounded_places.specs.declared.Kind.{Kind}
use Rattle.bounded_places.specs.declared.Loss.{Loss}
use Rattle.bounded_places.specs.declared.Place.{Place}
use Rattle.bounded_places.specs.declared.Place.TheVariants.{P2, O2, Len3}
use Rattle.bounded_places.specs.declared.Worker.{Worker}
use Rattle.bounded_places.specs.Places.{view_of, begin_of}
use Rattle.bounded_acts.specs.declared.Acted.{Acted}
use Rattle.bounded_machine.specs.declared.Machine.{Machine}
use Rattle.bounded_machine.specs.declared.Event.{Event}
use Rattle.bounded_machine.specs.Machine.{slot, idler, fresh_with, fixed_on, ends_on}
use Rattle.bounded_machine.specs.Turn.{spot_of, beginner, record_after, begun, stored, acted, acted_by}
use Rattle.bounded_machine.specs.History.{moved_of, loss_at}
use Rattle.bounded_machine.proofs.Kept.{few_workers}
use Rattle.bounded_causes.specs.declared.Deed.{Deed}
use Rattle.bounded_causes.specs.declared.Watch.{Watch}
use Rattle.bounded_causes.specs.declared.Watches.{Watches}
use Rattle.bounded_causes.specs.Causes.{watched_most, stand_of, goes_back_of, claims_tail, deed_of, own_act, other_act, unwatched, start, watch_of, others_hold, watched_of, causes_of, named_of}
use Rattle.bounded_demands.specs.Notions.{with_records, document01, AllowedWith, Allowed, KeepsWidestWindow, InWidestWindow, machine_after, acts_of, goes_back_at}
use Rattle.bounded_demands.specs.Notions.{WayBack, watches_from, watches, causes_in, Caused, by_schedule, by_own_end, by_other_end, by_hand}
use Rattle.bounded_demands.specs.Retries.{only_own}
use Rattle.bounded_demands.specs.Demands.{RetriesCaused, LenByOwnEnd, EveryRetryHasACause, WaysBack, EightWaysBack}
use Rattle.bounded_proof_invariant.proofs.Ring.{Mine, Shared}
use Rattle.bounded_proof_invariant.proofs.Effects.{Effect, Still, Tailed, Taken, Grabbed, Forced, Fills, Swaps, Frees, Gives, Loose, after}
use Rattle.bounded_proof_each_act.proofs.Stamps.{fixed, tail_word, word_slot, unmarked_tail}
use Rattle.bounded_proof_each_act.proofs.Sight.{look, HandAt, told, ends_of_ring, slot_of_ring, Stands, Recent}
use Rattle.bounded_proof_demand2.proofs.Lists.{Last, Earlier, split_end}
use Rattle.bounded_proof_demand2.proofs.Turns.{Turned, began, did, stood, event_of}
use Rattle.bounded_proof_demand2.proofs.Logged.{moved_by, shows}
use Rattle.bounded_proof_demand2.proofs.Pictured.{Base, Pictured, busy_counted, hand_busy, stepped, spot, spot_small, result, new_record, acted_stood}
use Rattle.bounded_proof_demand2.proofs.Reached.{Reached, laps_of, base_of, fresh_record, nil_split, along, recent_in, entered_in}
use Rattle.bounded_proof_demand2.proofs.Always.{always}
use Rattle.bounded_proof_demand2.proofs.Demand2.{fresh_reached}
use Rattle.bounded_proof_causes.proofs.Found.{SeesTail, SeesHead, loose_of, sees_tail, sees_head}
use Rattle.bounded_proof_causes.proofs.Rows as rows
use Rattle.bounded_proof_causes.proofs.Rows.{Knows, Row, row, way_goes, knows_else, begin_knows, begin_hand, idle_hand, hand_stands}
use Rattle.bounded_proof_causes.proofs.Folds.{placed_else, watches_end, others_free, watched_long, watched_own, watched_else}

-- without a claim at tail its number stays
tail_stays : (c : ℕ) (s : Shared) (w i : ℕ) (e : Effect) → claims_tail (moved_by (told e)) ≡ false → (after c w i e s).tail ≡ s.tail
tail_stays c s w i Still h = refl
tail_stays c s w i (Tailed x) h = absurd (true≢false h)
tail_stays c s w i Taken h = refl
tail_stays c s w i Grabbed h = refl
tail_stays c s w i (Forced k x) h = absurd (true≢false h)
tail_stays c s w i (Fills k a) h = refl
tail_stays c s w i (Swaps k a) h = refl
tail_stays c s w i (Frees k y) h = refl
tail_stays c s w i (Gives k y v) h = refl

-- of len's causes only its own end can hold
len_only : (t u : Stamp) (x y : Watch) (l : Loss) → Caused (causes_of (stand_of (Len3 t u)) x y l) → causes_of (stand_of (Len3 t u)) x y l ≡ only_own
unfolding causes_of
len_only t u x y l (by_schedule h) = absurd (true≢false (sym h))
len_only t u x y l (by_own_end h) = rw h
len_only t u x y l (by_other_end h) = absurd (true≢false (sym h))
len_only t u x y l (by_hand h) = absurd (true≢false (sym h))

-- what is kept of all workers after these acts
abbrev pub kept : List Event → List Watch
kept h = (watches h).each

module _ (bits : Width) (c n workers : ℕ) (base : Base bits c n workers) (team : workers ≤ watched_most) where
  pub record Causing (m : Machine) (h : List Event) : Type 0 where
    pub behind : Reached c n workers m h
    pub long : length (kept h) ≡ watched_most
    pub hands : (v : ℕ) → v < watched_most → (watch_of (kept h) v).hand ≡ (stand_of (stood m v)).hand
    pub knows : (v : ℕ) → v < watched_most → Knows bits (fixed_on m.ring) (ends_on m.ring) (watch_of (kept h) v) (stood m v)
    pub ways : WaysBack h
    pub caused : RetriesCaused causes_in h
    pub lens : LenByOwnEnd causes_in h

  module _ (m : Machine) (h : List Event) (o : Causing m h) (w : ℕ) (l : w < m.count) where
    abbrev pub ring : Shared
    ring = o.behind.ring

    abbrev pub pic : Pictured c n workers ring m
    pic = o.behind.pictured

    pub seat : w < length m.workers
    seat = omega (arith, pic.workers_long, few_workers m pic.unbroken)

    pub few : w < watched_most
    few = omega (arith, pic.count, team)

    -- a call begun
    module _ (q : Call) (idle : (view_of (stood m w)).busy ≡ false) where
      begun_hands : (v : ℕ) → v < watched_most → (watch_of (kept h) v).hand ≡ (stand_of (stood (begun m w (begin_of q)) v)).hand
      unfolding begun
      begun_hands =
          placed_else m.workers w (beginner (begin_of q)) idler (λ (v : ℕ) (z : Worker). v < watched_most → (watch_of (kept h) v).hand ≡ (stand_of z.place).hand) seat
          (λ b. o.hands w b ∙ idle_hand (stood m w) idle ∙ sym (begin_hand q)) (λ v ne. o.hands v)

      begun_knows : (v : ℕ) → v < watched_most → Knows bits (fixed_on m.ring) (ends_on m.ring) (watch_of (kept h) v) (stood (begun m w (begin_of q)) v)
      unfolding begun
      begun_knows =
          placed_else m.workers w (beginner (begin_of q)) idler (λ (v : ℕ) (z : Worker). v < watched_most → Knows bits (fixed_on m.ring) (ends_on m.ring) (watch_of (kept h) v) z.place) seat
          (λ b. begin_knows bits (fixed_on m.ring) (ends_on m.ring) (watch_of (kept h) w) q) (λ v ne. o.knows v)

      begun_causing : (en : Entry) → Reached c n workers (begun m w (begin_of q)) (h ++ []) → Causing (begun m w (begin_of q)) (h ++ [])
      unfolding begun
      begun_causing en r =
          record {
            behind = r;
            long = rw (append-nil h) o.long;
            hands = rw (append-nil h) begun_hands;
            knows = rw (append-nil h) begun_knows;
            ways = rw (append-nil h) o.ways;
            caused = rw (append-nil h) o.caused;
            lens = rw (append-nil h) o.lens;
          }

    -- an act
    module _ (lose : Bool) (busy : (view_of (stood m w)).busy ≡ true) (young : Recent c (mark_of c) n o.behind.ring (o.behind.pictured.ages w) (look c (stood m w))) where
      abbrev pub at : ℕ
      at = spot bits c n workers base ring m pic w l lose busy

      abbrev pub here : Slot
      here = get_or m.ring.slots at (slot 0 0)

      abbrev pub does : Acted
      does = result bits c n workers base ring m pic w l lose busy

      abbrev pub next : Machine
      next = acted bits m w (stood m w) lose

      abbrev pub new : Event
      new = event_of bits m w lose next

      abbrev pub x : Watch
      x = watch_of (kept h) w

      abbrev pub others : Bool
      others = others_hold (kept h) w

      abbrev pub now : Watch
      now = rows.after bits (fixed_on m.ring) (ends_on m.ring) here x others (stood m w) does.place

      small : at < c
      small = spot_small bits c n workers base ring m pic w l lose busy

      pub went : stood next w ≡ does.place
      went = acted_stood bits c n workers base ring m pic w l lose busy

      -- the slot of a stamp load is in nobody's hand, if no other has one
      loose : (HandAt (mark_of c) (look c (stood m w)) at → ⊥) → others ≡ false → Loose (ring.cell at)
      loose free none = loose_of (ring.cell at) (λ v mine. go v mine (ℕ_discrete v w))
        where
          go : (v : ℕ) → Mine v (ring.cell at) → Dec (v ≡ w) → ⊥
          go v mine (yes e) = free (subst (λ (z : ℕ). HandAt (mark_of c) (look c (stood m z)) at) e (pic.back at small v mine))
          go v mine (no ne) =
              let hand = pic.back at small v mine in
              let count : v < m.count = busy_counted c n workers ring m pic v (hand_busy c (mark_of c) at (stood m v) hand) in
              let low : v < watched_most = omega (arith, pic.count, team) in
              true≢false (sym (hand_stands c (mark_of c) at (stood m v) hand) ∙ sym (o.hands v low) ∙ others_free (kept h) w none v low ne)

      -- the slot of the act is that of the word's claim
      at_word : (p : Place) (t : Stamp) (k : ℕ) → stood m w ≡ p → spot_of (fixed_on m.ring) (view_of p).held ≡ t.0 % m.ring.mark → t.0 % mark_of c ≡ k % c → k % c ≡ at
      at_word p t k e i j =
          sym j ∙ ap (λ (f : Fixed). t.0 % f.mark) (sym pic.rule) ∙ sym i ∙ ap (λ (z : Place). spot_of (fixed_on m.ring) (view_of z).held) (sym e)

      tails : (k : Kind) (t : Stamp) (y : ℕ) → stood m w ≡ P2 k t y → others ≡ false → SeesTail bits (fixed_on m.ring) (ends_on m.ring) here t
      tails k t y e none =
          let z : Stands c (mark_of c) n ring w (pic.ages w) (look c (P2 k t y)) = subst (λ (p : Place). Stands c (mark_of c) n ring w (pic.ages w) (look c p)) e (pic.stands w) in
          let i : z.0 % c ≡ at = at_word (P2 k t y) t z.0 e refl (word_slot bits c (mark_of c) n base.ground t z.0 z.1) in
          let late : ring.tail + c < z.0 + n * c = omega (arith, (subst (λ (p : Place). Recent c (mark_of c) n ring (pic.ages w) (look c p)) e young refl).0, z.3) in
          let free = loose (λ a. true≢false (sym (subst (λ (p : Place). HandAt (mark_of c) (look c p) at) e a).0)) none in
          let seen = sees_tail bits c (mark_of c) n m.ring.edition base.ground ring pic.inv at z.0 (ring.val at) pic.shut i z.2 late
          (ring.cell at) (pic.inv.cells at small) free in
          subst (λ (f : Fixed). SeesTail bits f (ends_on m.ring) here t) (sym pic.rule)
          (subst (λ (u : Ends). SeesTail bits (fixed c (mark_of c) m.ring.edition) u here t) (sym pic.ends)
          (subst (λ (s : Slot). SeesTail bits (fixed c (mark_of c) m.ring.edition) (ends_of_ring c (mark_of c) n ring pic.shut) s t) (sym (pic.slots at small))
          (subst (SeesTail bits (fixed c (mark_of c) m.ring.edition) (ends_of_ring c (mark_of c) n ring pic.shut) (slot_of_ring c (mark_of c) n (ring.cell at) (ring.val at))) (sym z.1) seen)))

      heads : (t : Stamp) → stood m w ≡ O2 t → others ≡ false → SeesHead bits (fixed_on m.ring) (ends_on m.ring) here t
      heads t e none =
          let z : Stands c (mark_of c) n ring w (pic.ages w) (look c (O2 t)) = subst (λ (p : Place). Stands c (mark_of c) n ring w (pic.ages w) (look c p)) e (pic.stands w) in
          let i : z.0 % c ≡ at = at_word (O2 t) t z.0 e refl (word_slot bits c (mark_of c) n base.ground t z.0 z.1) in
          let late : ring.head + c < z.0 + n * c = omega (arith, (subst (λ (p : Place). Recent c (mark_of c) n ring (pic.ages w) (look c p)) e young refl).1, z.3) in
          let free = loose (λ a. true≢false (sym (subst (λ (p : Place). HandAt (mark_of c) (look c p) at) e a).0)) none in
          let seen = sees_head bits c (mark_of c) n m.ring.edition base.ground ring pic.inv at z.0 (ring.val at) pic.shut i z.2 late
          (ring.cell at) (pic.inv.cells at small) free in
          subst (λ (f : Fixed). SeesHead bits f (ends_on m.ring) here t) (sym pic.rule)
          (subst (λ (u : Ends). SeesHead bits (fixed c (mark_of c) m.ring.edition) u here t) (sym pic.ends)
          (subst (λ (s : Slot). SeesHead bits (fixed c (mark_of c) m.ring.edition) (ends_of_ring c (mark_of c) n ring pic.shut) s t) (sym (pic.slots at small))
          (subst (SeesHead bits (fixed c (mark_of c) m.ring.edition) (ends_of_ring c (mark_of c) n ring pic.shut) (slot_of_ring c (mark_of c) n (ring.cell at) (ring.val at))) (sym z.1) seen)))

      pub its_row : Row bits (fixed_on m.ring) (ends_on m.ring) here x others (stood m w) does
      its_row = row bits (fixed_on m.ring) (ends_on m.ring) here x others (stood m w) lose (o.knows w few) tails heads

      -- what is kept afterwards
      abbrev pub deed : Deed
      deed = deed_of (stand_of (stood m w)) (stand_of does.place) (moved_of does.place)

      pub kept_next : kept (h ++ new ∷ []) ≡ watched_of w deed (kept h)
      unfolding named_of
      kept_next =
          ap (λ (ws : Watches). ws.each) (watches_end start h new)
          ∙ ap (λ (q : Place). watched_of w (deed_of (stand_of (stood m w)) (stand_of q) (moved_of q)) (kept h)) went

      pub own_next : watch_of (kept (h ++ new ∷ [])) w ≡ now
      own_next = ap (λ (xs : List Watch). watch_of xs w) kept_next ∙ watched_own w deed (kept h) o.long few

      else_next : (v : ℕ) → v < watched_most → v ≢ w → watch_of (kept (h ++ new ∷ [])) v ≡ other_act deed (watch_of (kept h) v)
      else_next v low ne = ap (λ (xs : List Watch). watch_of xs v) kept_next ∙ watched_else w deed (kept h) o.long v low ne

      -- the unmarked tail stays where tail is not claimed
      bare : claims_tail (moved_of does.place) ≡ false → unmarked_of (fixed_on m.ring) does.ends.tail ≡ unmarked_of (fixed_on m.ring) m.ring.tail
      bare none =
          let st = stepped bits c n workers base ring m pic w l lose busy young in
          let f = fixed c (mark_of c) m.ring.edition in
          let told_so : moved_of does.place ≡ moved_by (told st.effect) = (shows c does.place).1 ∙ ap moved_by st.tells in
          let still : (after c w at st.effect ring).tail ≡ ring.tail = tail_stays c ring w at st.effect (ap claims_tail (sym told_so) ∙ none) in
          ap (λ (f : Fixed). unmarked_of f does.ends.tail) pic.rule
          ∙ ap (λ (u : Ends). unmarked_of f u.tail) st.ends
          ∙ unmarked_tail bits c (mark_of c) n base.ground m.ring.edition (after c w at st.effect ring).tail st.shut
          ∙ sym (unmarked_tail bits c (mark_of c) n base.ground m.ring.edition (after c w at st.effect ring).tail pic.shut)
          ∙ ap (λ (k : ℕ). unmarked_of f (tail_word c (mark_of c) n k pic.shut)) still
          ∙ ap (λ (u : Ends). unmarked_of f u.tail) (sym pic.ends)
          ∙ ap (λ (f : Fixed). unmarked_of f m.ring.tail) (sym pic.rule)

      hands_next : (v : ℕ) → v < watched_most → (watch_of (kept (h ++ new ∷ [])) v).hand ≡ (stand_of (stood next v)).hand
      unfolding acted_by stored record_after deed_of own_act other_act
      hands_next =
          placed_else m.workers w (new_record bits c n workers base ring m pic w l lose busy) idler
          (λ (v : ℕ) (z : Worker). v < watched_most → (watch_of (kept (h ++ new ∷ [])) v).hand ≡ (stand_of z.place).hand) seat
          (λ b. ap (λ (y : Watch). y.hand) own_next) (λ v ne b. ap (λ (y : Watch). y.hand) (else_next v b ne) ∙ o.hands v b)

      knows_next : (v : ℕ) → v < watched_most → Knows bits (fixed_on next.ring) (ends_on next.ring) (watch_of (kept (h ++ new ∷ [])) v) (stood next v)
      unfolding acted_by stored record_after deed_of
      knows_next =
          placed_else m.workers w (new_record bits c n workers base ring m pic w l lose busy) idler
          (λ (v : ℕ) (z : Worker). v < watched_most → Knows bits (fixed_on m.ring) does.ends (watch_of (kept (h ++ new ∷ [])) v) z.place) seat
          (λ b. subst (λ (y : Watch). Knows bits (fixed_on m.ring) does.ends y does.place) (sym own_next) its_row.knows)
          (λ v ne b. subst (λ (y : Watch). Knows bits (fixed_on m.ring) does.ends y (stood m v)) (sym (else_next v b ne))
          (knows_else bits (fixed_on m.ring) (ends_on m.ring) does.ends deed (watch_of (kept h) v) its_row.tail its_row.head bare (stood m v) (o.knows v b)))

      -- the causes of the act
      causes_are : causes_in h new ≡ causes_of (stand_of (stood m w)) x now (loss_at bits m w lose)
      unfolding named_of
      causes_are =
          ap (λ (q : Place). causes_of (stand_of (stood m w)) x (watch_of (watched_of w (deed_of (stand_of (stood m w)) (stand_of q) (moved_of q)) (kept h)) w) (loss_at bits m w lose)) went
          ∙ ap (λ (y : Watch). causes_of (stand_of (stood m w)) x y (loss_at bits m w lose)) (watched_own w deed (kept h) o.long few)

      pub goes : goes_back_at new ≡ goes_back_of (stand_of (stood m w)) (stand_of does.place)
      goes = ap (λ (q : Place). goes_back_of (stand_of (stood m w)) (stand_of q)) went

      new_caused : goes_back_at new ≡ true → Caused (causes_in h new)
      new_caused b = subst Caused (sym causes_are) (its_row.cause (sym goes ∙ b))

      new_len : (t u : Stamp) → stood m w ≡ Len3 t u → goes_back_at new ≡ true → causes_in h new ≡ only_own
      new_len t u e b =
          let k : causes_in h new ≡ causes_of (stand_of (Len3 t u)) x now (loss_at bits m w lose) =
          causes_are ∙ ap (λ (p : Place). causes_of (stand_of p) x now (loss_at bits m w lose)) e in
          k ∙ len_only t u x now (loss_at bits m w lose) (subst Caused k (new_caused b))

      new_way : goes_back_at new ≡ true → WayBack (stood m w) (stood next w)
      new_way b = subst (WayBack (stood m w)) (sym went) (its_row.way (sym goes ∙ b))

      ways_next : WaysBack (h ++ new ∷ [])
      ways_next earlier later act z = (λ b. go b (split_end h new earlier act later z), way_goes)
        where
          go : goes_back_at act ≡ true → Last h new earlier act later ⊎ Earlier h new earlier act later → WayBack act.before act.after
          go b (inl q) = subst (λ (y : Event). WayBack y.before y.after) (sym q.one) (new_way (ap goes_back_at (sym q.one) ∙ b))
          go b (inr q) = (o.ways earlier q.left act q.was).0 b

      caused_next : RetriesCaused causes_in (h ++ new ∷ [])
      caused_next earlier later act z b = go (split_end h new earlier act later z)
        where
          go : Last h new earlier act later ⊎ Earlier h new earlier act later → Caused (causes_in earlier act)
          go (inl q) = rw (q.whole, q.one) (new_caused (ap goes_back_at (sym q.one) ∙ b))
          go (inr q) = o.caused earlier q.left act q.was b

      lens_next : LenByOwnEnd causes_in (h ++ new ∷ [])
      lens_next earlier later act t u z b e = go (split_end h new earlier act later z)
        where
          go : Last h new earlier act later ⊎ Earlier h new earlier act later → causes_in earlier act ≡ only_own
          go (inl q) = rw (q.whole, q.one) (new_len t u (ap (λ (y : Event). y.before) (sym q.one) ∙ e) (ap goes_back_at (sym q.one) ∙ b))
          go (inr q) = o.lens earlier q.left act t u q.was b e

      acted_causing : Reached c n workers next (h ++ new ∷ []) → Causing next (h ++ new ∷ [])
      acted_causing r =
          record {
            behind = r;
            long = ap length kept_next ∙ watched_long w deed (kept h) o.long;
            hands = hands_next;
            knows = knows_next;
            ways = ways_next;
            caused = caused_next;
            lens = lens_next;
          }

  pub causing_kept : (m : Machine) (h : List Event) (en : Entry) (next : Machine) (acts : List Event) → Causing m h → InWidestWindow bits m h → Turned bits m en next acts → Causing next (h ++ acts)
  causing_kept m h en next acts o window (began w q l idle) =
      begun_causing m h o w l q idle en (entered_in bits c n workers base m h en next acts o.behind window (began w q l idle))
  causing_kept m h en next acts o window (did w lose l busy early) =
      acted_causing m h o w l lose busy (recent_in bits c n workers base m h o.behind window w)
      (entered_in bits c n workers base m h en next acts o.behind window (did w lose l busy early))

pub fresh_causing : (bits : Width) (records capacity workers edition : ℕ) (a : AllowedWith records capacity workers edition) (team : workers ≤ watched_most)
    → Causing bits capacity (laps_of bits capacity) workers (base_of bits records capacity workers edition a) team (fresh_with records capacity workers edition) []
unfolding watches_from
fresh_causing bits records capacity workers edition a team =
    let m = fresh_with records capacity workers edition in
    record {
      behind = fresh_reached bits records capacity workers edition a;
      long = length-replicate watched_most unwatched;
      hands = λ v b. ap (λ (y : Watch). y.hand) (all_alike watched_most v unwatched) ∙ sym (ap (λ (z : Worker). (stand_of z.place).hand) (fresh_record records capacity workers edition v));
      knows =
          λ v b.
          subst (λ (z : Worker). Knows bits (fixed_on m.ring) (ends_on m.ring) (watch_of (kept []) v) z.place) (sym (fresh_record records capacity workers edition v)) tt;
      ways = λ earlier later act e. absurd (nil_split earlier act later e);
      caused = λ earlier later act e. absurd (nil_split earlier act later e);
      lens = λ earlier later act t u e. absurd (nil_split earlier act later e);
    }

-- every schedule that keeps the window
pub reached_causing : (bits : Width) (records capacity workers edition : ℕ) (a : AllowedWith records capacity workers edition) (team : workers ≤ watched_most) (s : List ℕ)
    → KeepsWidestWindow (with_records records bits) (fresh_with records capacity workers edition) [] s
    → Causing bits capacity (laps_of bits capacity) workers (base_of bits records capacity workers edition a) team (machine_after (with_records records bits) capacity workers edition s)
    (acts_of (with_records records bits) capacity workers edition s)
reached_causing bits records capacity workers edition a team s keeps =
    let n = laps_of bits capacity in
    let base = base_of bits records capacity workers edition a in
    along bits (InWidestWindow bits) (Causing bits capacity n workers base team) (causing_kept bits capacity n workers base team) s (fresh_with records capacity workers edition) [] 0 keeps
    (fresh_causing bits records capacity workers edition a team)

-- of 64 bits every schedule, of the machine that holds its sixteen records
pub few_held : (capacity workers edition : ℕ) → Allowed capacity workers edition → workers ≤ watched_most
few_held capacity workers edition a = omega (arith, a.worker_most)

sixteen_records : (capacity workers edition : ℕ) (a : Allowed capacity workers edition) (s : List ℕ)
    → Causing SixtyFour capacity (laps_of SixtyFour capacity) workers (base_of SixtyFour workers_most capacity workers edition a) (few_held capacity workers edition a)
    (machine_after document01 capacity workers edition s)
    (acts_of document01 capacity workers edition s)
sixteen_records capacity workers edition a s =
    reached_causing SixtyFour workers_most capacity workers edition a (few_held capacity workers edition a) s (always workers_most capacity workers edition a s)

pub every_retry : EveryRetryHasACause document01 causes_in
every_retry capacity workers edition a s = let o = sixteen_records capacity workers edition a s in (o.caused, o.lens)

pub eight_ways : EightWaysBack document01
eight_ways capacity workers edition a s = (sixteen_records capacity workers edition a s).ways
