-- A close that holds (document 02, item 6): what the mark does along a history, and that nothing is claimed after a pop's Closed.
use mathlib.Core.Path.{◌≡◌, refl, sym, ap, ◌∙◌, subst}
use mathlib.Core.Bool.{Bool, true, false, cond, true≢false}
use mathlib.Core.List.{List, [], ◌∷◌, ◌++◌, append-nil}
use mathlib.Core.Logic.{◌⊎◌, inl, inr}
use Prim.Native.Nat.{ℕ, ◌%◌, ◌<◌}
use native.Mathlib.Omega.{arith}
use native.Mathlib.Nat.{add-mod_right}
use native.Mathlib.Decide.{ℕ_discrete}
use lib.ListN.{length, get_or, length-append}
use Rattle.queue_entries.specs.declared.Entry.{Entry}
use Rattle.bounded_words.specs.declared.Fixed.{Fixed}
use Rattle.bounded_words.specs.declared.Width.{Width}
use Rattle.bounded_words.specs.declared.Width.TheVariants.{SixtyFour}
use Rattle.bounded_words.specs.Words.{mark_of, marked_of, with_mark}
use Rattle.bounded_places.specs.declared.Slot.{Slot}
use Rattle.bounded_places.specs.declared.Ends.{Ends}
use Rattle.bounded_places.specs.declared.Answer.TheVariants.{Yes, No, PopClosed}
use Rattle.bounded_places.specs.declared.Place.{Place}
use Rattle.bounded_places.specs.declared.Place.TheVariants.{Idle, Close1}
use Rattle.bounded_places.specs.declared.Moved.TheVariants.{Neither}
use Rattle.bounded_places.specs.Places.{view_of}
use Rattle.bounded_acts.specs.declared.Acted.{Acted}
use Rattle.bounded_acts.specs.Acts.{goes, tail_to, act_of}
use Rattle.bounded_machine.specs.declared.Machine.{Machine}
use Rattle.bounded_machine.specs.declared.Event.{Event}
use Rattle.bounded_machine.specs.Machine.{slot, fresh_with, fixed_on, ends_on}
use Rattle.bounded_machine.specs.Turn.{acted}
use Rattle.bounded_machine.specs.History.{moved_of}
use Rattle.bounded_machine.proofs.Kept.{unbroken_of}
use Rattle.bounded_demands.specs.Notions.{with_records, AllowedWith, machine_after, acts_of, InWidestWindow, KeepsWidestWindow, ClosesYes, NoClaims}
use Rattle.bounded_demands.specs.Demands.{OnceClosed, OnceClosedAnywhere, YesOnce, NoneAfterClosed, CloseHolds, ClosedIsLast}
use Rattle.bounded_proof_invariant.proofs.Ring.{Filled, Grab, Swapped, Cell, Await, Hold, Hand, Shared, CellOk, Inv}
use Rattle.bounded_proof_invariant.proofs.Effects.{Effect, Still, Tailed, Taken, Grabbed, Forced, Fills, Swaps, Frees, Gives, Fits, Loose, after, ok_at}
use Rattle.bounded_proof_invariant.proofs.Upd.{upd, upd_at, upd_else}
use Rattle.bounded_proof_each_act.proofs.Stamps.{fixed, tail_word, marked_tail, with_mark_lem}
use Rattle.bounded_proof_each_act.proofs.Sight.{look, told, answer_in, Recent}
use Rattle.bounded_proof_each_act.proofs.Steps.{Latch, Says, Step}
use Rattle.bounded_proof_demand2.proofs.Lists.{Last, Earlier, split_end}
use Rattle.bounded_proof_demand2.proofs.Turns.{Turned, began, did, stood, event_of, turned_fixed}
use Rattle.bounded_proof_demand2.proofs.Logged.{moved_by, shows}
use Rattle.bounded_proof_demand2.proofs.Pictured.{Base, Pictured, stepped, spot, spot_small, result, acted_stood}
use Rattle.bounded_proof_demand2.proofs.Reached.{Reached, laps_of, base_of, nil_split, along, recent_in, entered_in, begun_behind, did_behind}
use Rattle.bounded_proof_demand2.proofs.Always.{always}
use Rattle.bounded_proof_demand2.proofs.Shut.{stays_shut}
use Rattle.bounded_proof_demand2.proofs.Demand2.{fresh_reached, demand2_in, same_fixed}

-- ---- lists that grow at their end

last_behind : {A : Type 0} (xs : List A) (y : A) (before : List A) (z : A) (behind : List A) → xs ++ y ∷ [] ≡ before ++ z ∷ behind → before ≡ xs → behind ≡ []
last_behind xs y before z [] e w = refl
last_behind xs y before z (b ∷ behind) e w =
    let p : length (xs ++ y ∷ []) ≡ length (before ++ z ∷ b ∷ behind) = ap length e in
    absurd (omega (arith, length-append xs (y ∷ []), length-append before (z ∷ b ∷ behind), ap length w))

claims_more : (h : List Event) (e : Event) → NoClaims h → moved_of e.after ≡ Neither → NoClaims (h ++ e ∷ [])
claims_more [] e n q = (q, tt)
claims_more (a ∷ h) e n q = (n.0, claims_more h e n.1 q)

-- ---- after a pop's Closed nothing can be claimed: the ring is empty, the mark is set, and no force_push stands between its two claims
abbrev Sealed : ℕ → Shared → Bool → Type 0
Sealed c s b = (s.tail ≡ s.head) × (b ≡ true) × ((i : ℕ) → i < c → (k w : ℕ) → s.cell i ≡ Hand Grab k w → ⊥)

seal : (c : ℕ) (s : Shared) (b : Bool) → Inv c s → s.tail ≡ s.head → b ≡ true → s.cell (s.tail % c) ≡ Await s.tail → Sealed c s b
seal c s b inv even shut waits = (even, shut, λ i l k w e. no_grab i k w e (subst (CellOk c s i) e (inv.cells i l)))
  where
    no_grab : (i k w : ℕ) → s.cell i ≡ Hand Grab k w → CellOk c s i (Hand Grab k w) → ⊥
    no_grab i k w e o =
        let at : s.tail % c ≡ i = ap (λ (z : ℕ). z % c) o.1.1 ∙ add-mod_right k c ∙ o.0 in
        subst Loose (sym waits ∙ ap s.cell at ∙ e) tt

module _ (c : ℕ) (s : Shared) (w i : ℕ) (small : i < c) (inv : Inv c s) (b shut : Bool) (ed : ℕ) (z : Sealed c s b) where
  slot_sealed : (y : Cell) → ((k v : ℕ) → y ≡ Hand Grab k v → ⊥) → (j : ℕ) → j < c → (k v : ℕ) → upd s.cell i y j ≡ Hand Grab k v → ⊥
  slot_sealed y other j l k v e = go (ℕ_discrete j i)
    where
      go : Dec (j ≡ i) → ⊥
      go (yes q) = other k v (sym (upd_at s.cell i j y q) ∙ e)
      go (no n) = z.2 j l k v (sym (upd_else s.cell i j y n) ∙ e)

  loose_other : (y : Cell) → Loose y → (k v : ℕ) → y ≡ Hand Grab k v → ⊥
  loose_other y l k v e = subst Loose e l

  -- no act claims, and it stays so
  quiet : (e : Effect) → Fits c s w i e → Latch ed b shut e → (moved_by (told e) ≡ Neither) × Sealed c (after c w i e s) shut
  quiet Still f latch = (refl, (z.0, latch z.1, z.2))
  quiet (Tailed x) f latch = absurd (true≢false (sym z.1 ∙ latch))
  quiet Taken f latch = absurd (omega (arith, z.0, (ok_at c s w i small inv (Hold s.head) f).2))
  quiet Grabbed f latch = absurd (omega (arith, z.0, (ok_at c s w i small inv (Hold s.head) f.0).2))
  quiet (Forced k x) f latch = absurd (z.2 i small k w f)
  quiet (Fills k a) f latch =
      (refl, (z.0, latch z.1, slot_sealed (Hand Filled k w) (λ j v e. let q : ◌≡◌ {A = ℕ} 0 1 = cc in omega arith)))
  quiet (Swaps k a) f latch =
      (refl, (z.0, latch z.1, slot_sealed (Hand Swapped k w) (λ j v e. let q : ◌≡◌ {A = ℕ} 0 1 = cc in omega arith)))
  quiet (Frees k y) f latch = (refl, (z.0, latch z.1, slot_sealed y (loose_other y f.3)))
  quiet (Gives k y v) f latch = (refl, (z.0, latch z.1, slot_sealed y (loose_other y f.0.3)))

-- In edition 2 the mark, once set, stays.
latched : (b shut : Bool) (ed : ℕ) (e : Effect) → Latch ed b shut e → ed ≡ 2 → b ≡ true → shut ≡ true
latched b shut ed Still l two t = l t
latched b shut ed (Tailed x) l two t = absurd (true≢false (sym t ∙ l))
latched b shut ed Taken l two t = l t
latched b shut ed Grabbed l two t = l t
latched b shut ed (Forced k x) l two t = l two t
latched b shut ed (Fills k a) l two t = l t
latched b shut ed (Swaps k a) l two t = l t
latched b shut ed (Frees k y) l two t = l t
latched b shut ed (Gives k y v) l two t = l t

-- An act of such a kind is among these.
pub record Said (P : Event → Type 0) (h : List Event) : Type 0 where
  pub earlier : List Event
  pub act : Event
  pub later : List Event
  pub is : h ≡ earlier ++ act ∷ later
  pub so : P act

-- one act more: it is that one, or it was said before
said_more : (P : Event → Type 0) (h : List Event) (e : Event) → Said P (h ++ e ∷ []) → P e ⊎ Said P h
said_more P h e o = go (split_end h e o.earlier o.act o.later o.is)
  where
    go : Last h e o.earlier o.act o.later ⊎ Earlier h e o.earlier o.act o.later → P e ⊎ Said P h
    go (inl l) = inl (subst P l.one o.so)
    go (inr r) = inr (record { earlier = o.earlier; act = o.act; later = r.left; is = r.was; so = o.so })

abbrev SaysClosed : Event → Type 0
SaysClosed e = e.after ≡ Idle PopClosed

module _ (bits : Width) (c n workers : ℕ) (base : Base bits c n workers) where
  -- What is kept along a history.
  record Closing (m : Machine) (h : List Event) : Type 0 where
    pub behind : Reached c n workers m h
    pub none : NoneAfterClosed h
    pub sealed : Said SaysClosed h → Sealed c behind.ring behind.pictured.shut

  module _ (m : Machine) (h : List Event) (r : Reached c n workers m h) (w : ℕ) (lose : Bool) (l : w < m.count) (busy : (view_of (stood m w)).busy ≡ true)
      (young : Recent c (mark_of c) n r.ring (r.pictured.ages w) (look c (stood m w))) where
    abbrev pic : Pictured c n workers r.ring m
    pic = r.pictured

    abbrev ed : ℕ
    ed = m.ring.edition

    abbrev st : Step bits c (mark_of c) n ed r.ring w (spot bits c n workers base r.ring m pic w l lose busy) (pic.ages w) pic.shut (stood m w)
        (result bits c n workers base r.ring m pic w l lose busy)
    st = stepped bits c n workers base r.ring m pic w l lose busy young

    abbrev new : Event
    new = event_of bits m w lose (acted bits m w (stood m w) lose)

    went : stood (acted bits m w (stood m w) lose) w ≡ (result bits c n workers base r.ring m pic w l lose busy).place
    went = acted_stood bits c n workers base r.ring m pic w l lose busy

    keeps_shut : ed ≡ 2 → pic.shut ≡ true → st.shut ≡ true
    keeps_shut = latched pic.shut st.shut ed st.effect st.latch

    -- on a sealed ring
    calm : Sealed c r.ring pic.shut
        → (moved_of new.after ≡ Neither) × Sealed c (after c w (spot bits c n workers base r.ring m pic w l lose busy) st.effect r.ring) st.shut
    calm z =
        let q = quiet c r.ring w _ (spot_small bits c n workers base r.ring m pic w l lose busy) pic.inv pic.shut st.shut ed z st.effect st.fits st.latch in
        (ap moved_of went ∙ (shows c (result bits c n workers base r.ring m pic w l lose busy).place).1 ∙ ap moved_by st.tells ∙ q.0, q.1)

    -- a pop that says Closed seals it
    closed : SaysClosed new → Sealed c r.ring pic.shut
    closed e =
        let p : (result bits c n workers base r.ring m pic w l lose busy).place ≡ Idle PopClosed = sym went ∙ e in
        let t : Says bits c (mark_of c) n ed r.ring pic.shut PopClosed =
        subst (λ (q : Place). Says bits c (mark_of c) n ed r.ring pic.shut (answer_in (look c q))) p st.says in
        seal c r.ring pic.shut pic.inv t.1 t.2 t.3

    none_more : NoneAfterClosed h → (Said SaysClosed h → Sealed c r.ring pic.shut) → NoneAfterClosed (h ++ new ∷ [])
    none_more none sealed earlier later act z e = go (split_end h new earlier act later z)
      where
        go : Last h new earlier act later ⊎ Earlier h new earlier act later → NoClaims later
        go (inl o) = rw (last_behind h new earlier act later z o.whole) tt
        go (inr o) =
            rw o.grown
            (claims_more o.left new (none earlier o.left act o.was e)
            (calm (sealed (record { earlier = earlier; act = act; later = o.left; is = o.was; so = e }))).0)

    sealed_more : (Said SaysClosed h → Sealed c r.ring pic.shut) → Said SaysClosed (h ++ new ∷ [])
        → Sealed c (after c w (spot bits c n workers base r.ring m pic w l lose busy) st.effect r.ring) st.shut
    sealed_more sealed o = go (said_more SaysClosed h new o)
      where
        go : SaysClosed new ⊎ Said SaysClosed h → Sealed c (after c w (spot bits c n workers base r.ring m pic w l lose busy) st.effect r.ring) st.shut
        go (inl e) = (calm (closed e)).1
        go (inr s) = (calm (sealed s)).1

    -- a close that says yes found the mark clear, and set it
    abbrev here : Slot
    here = get_or m.ring.slots (spot bits c n workers base r.ring m pic w l lose busy) (slot 0 0)

    module _ (y : ClosesYes new) where
      closes : result bits c n workers base r.ring m pic w l lose busy ≡ act_of bits (fixed_on m.ring) (ends_on m.ring) here Close1 lose
      closes = ap (λ (p : Place). act_of bits (fixed_on m.ring) (ends_on m.ring) here p lose) y.0

      unmarked : marked_of (fixed_on m.ring) m.ring.tail ≡ false
      unfolding goes
      unmarked = go (marked_of (fixed_on m.ring) m.ring.tail) refl (sym (ap (λ (a : Acted). a.place) closes) ∙ sym went ∙ y.1)
        where
          go : (b : Bool) → marked_of (fixed_on m.ring) m.ring.tail ≡ b
              → (cond (marked_of (fixed_on m.ring) m.ring.tail) (goes (ends_on m.ring) here (Idle No))
              (goes (tail_to (ends_on m.ring) (with_mark bits (fixed_on m.ring) m.ring.tail)) here (Idle Yes))).place ≡ Idle Yes
              → b ≡ false
          go true e said = let q : Idle No ≡ Idle Yes = rw e at said in absurd (let z : ◌≡◌ {A = ℕ} 0 1 = cc in omega arith)
          go false e said = refl

      was_open : pic.shut ≡ false
      was_open =
          sym (marked_tail bits c (mark_of c) n base.ground ed r.ring.tail pic.shut)
          ∙ sym (ap (λ (e : Ends). marked_of (fixed c (mark_of c) ed) e.tail) pic.ends)
          ∙ sym (ap (λ (f : Fixed). marked_of f m.ring.tail) pic.rule) ∙ unmarked

      now_shut : st.shut ≡ true
      unfolding goes tail_to
      now_shut =
          let u = after c w (spot bits c n workers base r.ring m pic w l lose busy) st.effect r.ring in
          let marked : (result bits c n workers base r.ring m pic w l lose busy).ends.tail ≡ tail_word c (mark_of c) n r.ring.tail true =
          ap (λ (a : Acted). a.ends.tail) closes ∙ rw unmarked
          (ap (λ (f : Fixed). with_mark bits f m.ring.tail) pic.rule
          ∙ ap (λ (e : Ends). with_mark bits (fixed c (mark_of c) ed) e.tail) pic.ends
          ∙ ap (λ (b : Bool). with_mark bits (fixed c (mark_of c) ed) (tail_word c (mark_of c) n r.ring.tail b)) was_open
          ∙ with_mark_lem bits c (mark_of c) n base.ground ed r.ring.tail) in
          sym (marked_tail bits c (mark_of c) n base.ground ed u.tail st.shut)
          ∙ ap (λ (e : Ends). marked_of (fixed c (mark_of c) ed) e.tail) (sym st.ends)
          ∙ ap (marked_of (fixed c (mark_of c) ed)) marked ∙ marked_tail bits c (mark_of c) n base.ground ed r.ring.tail true

  abbrev SealedRing : Shared × Bool → Type 0
  SealedRing z = Sealed c z.0 z.1

  closing_kept : (m : Machine) (h : List Event) (en : Entry) (next : Machine) (acts : List Event) → Closing m h → InWidestWindow bits m h → Turned bits m en next acts → Closing next (h ++ acts)
  closing_kept m h en next acts o window (began w call l idle) =
      record {
        behind = entered_in bits c n workers base m h en next acts o.behind window (began w call l idle);
        none = rw (append-nil h) o.none;
        sealed = λ s. subst SealedRing (sym (begun_behind bits c n workers base m h o.behind w l call idle)) (o.sealed (rw (append-nil h) at s));
      }
  closing_kept m h en next acts o window (did w lose l busy early) =
      record {
        behind = entered_in bits c n workers base m h en next acts o.behind window (did w lose l busy early);
        none = none_more m h o.behind w lose l busy (recent_in bits c n workers base m h o.behind window w) o.none o.sealed;
        sealed = λ s. subst SealedRing (sym (did_behind bits c n workers base m h o.behind w l lose busy
            (recent_in bits c n workers base m h o.behind window w) early))
            (sealed_more m h o.behind w lose l busy (recent_in bits c n workers base m h o.behind window w) o.sealed s);
      }

  -- Edition 2.
  record Shutting (m : Machine) (h : List Event) : Type 0 where
    pub behind : Reached c n workers m h
    pub second : m.ring.edition ≡ 2
    pub once : YesOnce h
    pub shut : Said ClosesYes h → behind.pictured.shut ≡ true

  shutting_kept : (m : Machine) (h : List Event) (en : Entry) (next : Machine) (acts : List Event) → Shutting m h → InWidestWindow bits m h → Turned bits m en next acts → Shutting next (h ++ acts)
  shutting_kept m h en next acts o window (began w call l idle) =
      record {
        behind = entered_in bits c n workers base m h en next acts o.behind window (began w call l idle);
        second = ap (λ (f : Fixed). f.edition) (turned_fixed bits m en next acts (began w call l idle)) ∙ o.second;
        once = rw (append-nil h) o.once;
        shut = λ s. ap (λ (z : Shared × Bool). z.1) (begun_behind bits c n workers base m h o.behind w l call idle) ∙ o.shut (rw (append-nil h) at s);
      }
  shutting_kept m h en next acts o window (did w lose l busy early) =
      record {
        behind = entered_in bits c n workers base m h en next acts o.behind window (did w lose l busy early);
        second = ap (λ (f : Fixed). f.edition) (turned_fixed bits m en next acts (did w lose l busy early)) ∙ o.second;
        once = once_more;
        shut = λ s. ap (λ (z : Shared × Bool). z.1) (did_behind bits c n workers base m h o.behind w l lose busy
            (recent_in bits c n workers base m h o.behind window w) early)
            ∙ go (said_more ClosesYes h (new m h o.behind w lose l busy (recent_in bits c n workers base m h o.behind window w)) s);
      }
    where
      go : ClosesYes (new m h o.behind w lose l busy (recent_in bits c n workers base m h o.behind window w)) ⊎ Said ClosesYes h
          → (st m h o.behind w lose l busy (recent_in bits c n workers base m h o.behind window w)).shut ≡ true
      go (inl y) = now_shut m h o.behind w lose l busy (recent_in bits c n workers base m h o.behind window w) y
      go (inr s) = keeps_shut m h o.behind w lose l busy (recent_in bits c n workers base m h o.behind window w) o.second (o.shut s)

      once_more : YesOnce (h ++ new m h o.behind w lose l busy (recent_in bits c n workers base m h o.behind window w) ∷ [])
      once_more earlier between later act again z y x = each (split_end h
          (new m h o.behind w lose l busy (recent_in bits c n workers base m h o.behind window w)) (earlier ++ act ∷ between) again later z)
        where
          each : Last h (new m h o.behind w lose l busy (recent_in bits c n workers base m h o.behind window w))
              (earlier ++ act ∷ between) again later ⊎ Earlier h (new m h o.behind w lose l busy (recent_in bits c n workers base m h o.behind window w))
              (earlier ++ act ∷ between) again later → ⊥
          each (inr e) = o.once earlier between e.left act again e.was y x
          each (inl e) =
              true≢false (sym (o.shut (record { earlier = earlier; act = act; later = between; is = sym e.whole; so = y }))
              ∙ was_open m h o.behind w lose l busy (recent_in bits c n workers base m h o.behind window w) (subst ClosesYes e.one x))

-- reached or not
pub once_closed_anywhere : (bits : Width) (records : ℕ) → OnceClosedAnywhere (with_records records bits)
once_closed_anywhere bits records m whole two marked =
    stays_shut bits m [] (record { records = records; unbroken = unbroken_of m whole; second = two; marked = marked })

module _ (bits : Width) (records capacity workers edition : ℕ) (a : AllowedWith records capacity workers edition) (s : List ℕ)
    (keeps : KeepsWidestWindow (with_records records bits) (fresh_with records capacity workers edition) [] s) where
  pub none_in : NoneAfterClosed (acts_of (with_records records bits) capacity workers edition s)
  none_in =
      (along bits (InWidestWindow bits) (Closing bits capacity (laps_of bits capacity) workers (base_of bits records capacity workers edition a))
      (closing_kept bits capacity (laps_of bits capacity) workers (base_of bits records capacity workers edition a)) s (fresh_with records capacity workers edition) [] 0 keeps
      (record {
        behind = fresh_reached bits records capacity workers edition a;
        none = λ earlier later act e. absurd (nil_split earlier act later e);
        sealed = λ o. absurd (nil_split o.earlier o.act o.later o.is);
      })
      ).none

  edition_of : (fresh_with records capacity workers edition).ring.edition ≡ edition
  unfolding fresh_with
  edition_of = refl

  pub yes_in : edition ≡ 2 → YesOnce (acts_of (with_records records bits) capacity workers edition s)
  yes_in two =
      (along bits (InWidestWindow bits) (Shutting bits capacity (laps_of bits capacity) workers (base_of bits records capacity workers edition a))
      (shutting_kept bits capacity (laps_of bits capacity) workers (base_of bits records capacity workers edition a)) s (fresh_with records capacity workers edition) [] 0 keeps
      (record {
        behind = fresh_reached bits records capacity workers edition a;
        second = edition_of ∙ two;
        once = λ earlier between later act again e. absurd (nil_split (earlier ++ act ∷ between) again later e);
        shut = λ o. absurd (nil_split o.earlier o.act o.later o.is);
      })
      ).once

  pub closed_in : edition ≡ 2 → OnceClosed (with_records records bits) (machine_after (with_records records bits) capacity workers edition s)
  closed_in two =
      once_closed_anywhere bits records (machine_after (with_records records bits) capacity workers edition s) (demand2_in bits records capacity workers edition a s keeps).unbroken
      (ap (λ (f : Fixed). f.edition) (same_fixed bits (fresh_with records capacity workers edition) s) ∙ edition_of ∙ two)

pub closed_is_last : (records : ℕ) → ClosedIsLast (with_records records SixtyFour)
closed_is_last records capacity workers edition a s = none_in SixtyFour records capacity workers edition a s (always records capacity workers edition a s)

pub close_holds : (records : ℕ) → CloseHolds (with_records records SixtyFour)
close_holds records capacity workers a s =
    let keeps = always records capacity workers 2 a s in
    (closed_in SixtyFour records capacity workers 2 a s keeps refl, yes_in SixtyFour records capacity workers 2 a s keeps refl)
