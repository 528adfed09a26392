-- The ring's counts, items and workers are those of the history, and the claim rule holds along it.
use mathlib.Core.Path.{◌≡◌, refl, sym, ap, ◌∙◌, subst}
use mathlib.Core.Logic.{◌≢◌, ◌⊎◌, inl, inr}
use mathlib.Core.Bool.{true, true≢false}
use mathlib.Core.List.{List, [], ◌∷◌, ◌++◌, append_assoc, append-nil}
use Prim.Native.Nat.{ℕ, suc, ◌+◌, ◌%◌, ◌≤◌, ◌<◌}
use native.Mathlib.Omega.{arith}
use native.Mathlib.Decide.{ℕ_discrete}
use lib.ListN.{length, get_or, drop, length-append}
use lib.Seq.{drop-append-le, drop-cons}
use Rattle.bounded_places.specs.Places.{view_of}
use Rattle.bounded_places.specs.declared.Answer.TheVariants.{Nothing, Pushed, Full, Closed, Displaced, Popped, Empty, PopClosed, Len, Yes, No}
use Rattle.bounded_places.specs.declared.Loss.{Loss}
use Rattle.bounded_places.specs.declared.Place.{Place}
use Rattle.bounded_places.specs.declared.Place.TheVariants.{Idle, P1, P2, P3, P4, P5, P6, F6, F7, F8, F9, O1, O2, O3, O4, O5, O6, Len1, Len2, Len3, Empty1, Empty2, Full1, Full2, Close1, IsClosed1}
use Rattle.bounded_places.specs.declared.Moved.{Moved}
use Rattle.bounded_places.specs.declared.Moved.TheVariants as end
use Rattle.bounded_machine.specs.declared.Event.{Event}
use Rattle.bounded_machine.specs.History.{event, moved_of}
use Rattle.bounded_demands.specs.Notions.{HandsOut, popped, displaced, Writes, item_in, tail_by, head_by, items_of, tailers_of, takers_of, LatestIn, ItemIn}
use Rattle.bounded_demands.specs.Notions.{WrittenIn, Unanswered, CallClaim, waiting, Fifo, enqueue, dequeue, rest}
use Rattle.bounded_proof_invariant.proofs.Upd.{upd_else, upd_same}
use Rattle.bounded_proof_invariant.proofs.Ring.{Stage, Fill, Filled, Take, Grab, Swap, Swapped, taking, Hold, Hand, Mine, number, Shared, Latest, Inv}
use Rattle.bounded_proof_invariant.proofs.Effects.{Effect, Still, Tailed, Taken, Grabbed, Forced, Fills, Swaps, Frees, Gives, after, Fits, loose_mine, Course}
use Rattle.bounded_proof_invariant.proofs.Effects.{same, moved, course, tail_course, cell_course, number_course, ok_at}
use Rattle.bounded_proof_each_act.proofs.Sight.{look, Tale, Quiet, Heading, Tailing, Giving, tale, told}
use Rattle.bounded_proof_each_act.proofs.Steps.{WritesBy}
use Rattle.bounded_proof_demand2.proofs.Counts.{tally_head}
use Rattle.bounded_proof_demand2.proofs.Lists.{Last, Earlier, split_end, Listed, listed_same, listed_more, latest_in, latest_one}

-- what a tale adds to the lists of a history
abbrev pub items_by : Tale → List ℕ
items_by Quiet = []
items_by Heading = []
items_by (Tailing x) = x ∷ []
items_by (Giving v) = []

abbrev pub moved_by : Tale → Moved
moved_by Quiet = end.Neither
moved_by Heading = end.Head
moved_by (Tailing x) = end.Tail
moved_by (Giving v) = end.Neither

-- the tale of a place is what the definitions of the history read off it
pub shows : (c : ℕ) (q : Place) → (item_in q ≡ items_by (tale (look c q))) × (moved_of q ≡ moved_by (tale (look c q)))
shows c (Idle Nothing) = (refl, refl)
shows c (Idle Pushed) = (refl, refl)
shows c (Idle (Full x)) = (refl, refl)
shows c (Idle (Closed x)) = (refl, refl)
shows c (Idle (Displaced v)) = (refl, refl)
shows c (Idle (Popped v)) = (refl, refl)
shows c (Idle Empty) = (refl, refl)
shows c (Idle PopClosed) = (refl, refl)
shows c (Idle (Len k)) = (refl, refl)
shows c (Idle Yes) = (refl, refl)
shows c (Idle No) = (refl, refl)
shows c (P1 k x) = (refl, refl)
shows c (P2 k t x) = (refl, refl)
shows c (P3 k t x) = (refl, refl)
shows c (P4 t x) = (refl, refl)
shows c (P5 t) = (refl, refl)
shows c (P6 t x) = (refl, refl)
shows c (F6 t x) = (refl, refl)
shows c (F7 t x) = (refl, refl)
shows c (F8 t x) = (refl, refl)
shows c (F9 t old) = (refl, refl)
shows c O1 = (refl, refl)
shows c (O2 h) = (refl, refl)
shows c (O3 h) = (refl, refl)
shows c (O4 h) = (refl, refl)
shows c (O5 h v) = (refl, refl)
shows c (O6 h) = (refl, refl)
shows c Len1 = (refl, refl)
shows c (Len2 t) = (refl, refl)
shows c (Len3 t h) = (refl, refl)
shows c Empty1 = (refl, refl)
shows c (Empty2 h) = (refl, refl)
shows c Full1 = (refl, refl)
shows c (Full2 t) = (refl, refl)
shows c Close1 = (refl, refl)
shows c IsClosed1 = (refl, refl)

out_giving : (c : ℕ) (q : Place) (v : ℕ) → HandsOut q v → tale (look c q) ≡ Giving v
out_giving c q v popped = refl
out_giving c q v displaced = refl

-- one act more
pub items_end : (h : List Event) (e : Event) → items_of (h ++ e ∷ []) ≡ items_of h ++ item_in e.after
unfolding items_of
items_end [] e = append-nil (item_in e.after)
items_end (a ∷ h) e = rw (items_end h e) (sym (append_assoc (item_in a.after) (items_of h) (item_in e.after)))

tailers_end : (h : List Event) (e : Event) → tailers_of (h ++ e ∷ []) ≡ tailers_of h ++ tail_by (moved_of e.after) e.worker
unfolding tailers_of
tailers_end [] e = append-nil (tail_by (moved_of e.after) e.worker)
tailers_end (a ∷ h) e =
    rw (tailers_end h e) (sym (append_assoc (tail_by (moved_of a.after) a.worker) (tailers_of h) (tail_by (moved_of e.after) e.worker)))

pub takers_end : (h : List Event) (e : Event) → takers_of (h ++ e ∷ []) ≡ takers_of h ++ head_by (moved_of e.after) e.worker
unfolding takers_of
takers_end [] e = append-nil (head_by (moved_of e.after) e.worker)
takers_end (a ∷ h) e =
    rw (takers_end h e) (sym (append_assoc (head_by (moved_of a.after) a.worker) (takers_of h) (head_by (moved_of e.after) e.worker)))

-- The claims as lists.
pub record Lists (s : Shared) (items tailers takers : List ℕ) : Type 0 where
  pub items_are : Listed items s.tail s.item
  pub tailers_are : Listed tailers s.tail s.tailer
  pub takers_are : Listed takers s.head s.taker

module _ (c : ℕ) (s : Shared) (w i : ℕ) (a b d : List ℕ) (l : Lists s a b d) where
  abbrev Grown : Effect → Type 0
  Grown e = Lists (after c w i e s) (a ++ items_by (told e)) (b ++ tail_by (moved_by (told e)) w) (d ++ head_by (moved_by (told e)) w)

  lists_after : (e : Effect) → Grown e
  lists_after Still =
      record { items_are = listed_same a _ _ l.items_are; tailers_are = listed_same b _ _ l.tailers_are; takers_are = listed_same d _ _ l.takers_are }
  lists_after (Tailed x) =
      record { items_are = listed_more a _ _ x l.items_are; tailers_are = listed_more b _ _ w l.tailers_are; takers_are = listed_same d _ _ l.takers_are }
  lists_after Taken =
      record { items_are = listed_same a _ _ l.items_are; tailers_are = listed_same b _ _ l.tailers_are; takers_are = listed_more d _ _ w l.takers_are }
  lists_after Grabbed =
      record { items_are = listed_same a _ _ l.items_are; tailers_are = listed_same b _ _ l.tailers_are; takers_are = listed_more d _ _ w l.takers_are }
  lists_after (Forced k x) =
      record { items_are = listed_more a _ _ x l.items_are; tailers_are = listed_more b _ _ w l.tailers_are; takers_are = listed_same d _ _ l.takers_are }
  lists_after (Fills k x) =
      record { items_are = listed_same a _ _ l.items_are; tailers_are = listed_same b _ _ l.tailers_are; takers_are = listed_same d _ _ l.takers_are }
  lists_after (Swaps k x) =
      record { items_are = listed_same a _ _ l.items_are; tailers_are = listed_same b _ _ l.tailers_are; takers_are = listed_same d _ _ l.takers_are }
  lists_after (Frees k y) =
      record { items_are = listed_same a _ _ l.items_are; tailers_are = listed_same b _ _ l.tailers_are; takers_are = listed_same d _ _ l.takers_are }
  lists_after (Gives k y v) =
      record { items_are = listed_same a _ _ l.items_are; tailers_are = listed_same b _ _ l.tailers_are; takers_are = listed_same d _ _ l.takers_are }

pub record Logged (c : ℕ) (s : Shared) (h : List Event) : Type 0 where
  pub lists : Lists s (items_of h) (tailers_of h) (takers_of h)
  pub written : (k : ℕ) → s.written k ≡ true → (k < s.tail) × WrittenIn h k (s.item k)
  -- a slot in hand by a head claim was claimed in the call that its worker is in
  pub calls : (i : ℕ) → i < c → (st : Stage) (k w : ℕ) → s.cell i ≡ Hand st k w → taking st ≡ true → CallClaim h w k
  pub fifo : Fifo h (waiting h)
  -- what went out was the item of its worker's latest head claim
  pub rule : (earlier later : List Event) (act : Event) (v : ℕ) → h ≡ earlier ++ act ∷ later → HandsOut act.after v
      → (k : ℕ) × CallClaim earlier act.worker k × LatestIn (takers_of earlier) act.worker k × ItemIn earlier k v
  -- and its slot is by now past that claim
  pub past : (earlier later : List Event) (act : Event) (v k : ℕ) → h ≡ earlier ++ act ∷ later → HandsOut act.after v
      → LatestIn (takers_of earlier) act.worker k → k + c ≤ number (s.cell (k % c))
  pub once : (earlier between later : List Event) (act again : Event) (v u k : ℕ) → h ≡ earlier ++ act ∷ between ++ again ∷ later
      → HandsOut act.after v → HandsOut again.after u
      → LatestIn (takers_of earlier) act.worker k → LatestIn (takers_of (earlier ++ act ∷ between)) again.worker k → ⊥

-- what an effect that hands out a value had in hand
record Given (c : ℕ) (s : Shared) (w i v : ℕ) (u : Shared) : Type 0 where
  claim : ℕ
  stage : Stage
  hand : s.cell i ≡ Hand stage claim w
  takes : taking stage ≡ true
  latest : Latest s.taker s.head w claim
  is : v ≡ s.item claim
  made : claim < s.tail
  here : claim % c ≡ i
  left : claim + c ≤ number (u.cell i)

given : (c : ℕ) (s : Shared) (w i v : ℕ) → i < c → Inv c s → (e : Effect) → Fits c s w i e → told e ≡ Giving v → Given c s w i v (after c w i e s)
given c s w i v small inv Still f e = absurd (let q : ◌≡◌ {A = ℕ} 0 1 = cc in omega arith)
given c s w i v small inv (Tailed x) f e = absurd (let q : ◌≡◌ {A = ℕ} 0 1 = cc in omega arith)
given c s w i v small inv Taken f e = absurd (let q : ◌≡◌ {A = ℕ} 0 1 = cc in omega arith)
given c s w i v small inv Grabbed f e = absurd (let q : ◌≡◌ {A = ℕ} 0 1 = cc in omega arith)
given c s w i v small inv (Forced k x) f e = absurd (let q : ◌≡◌ {A = ℕ} 0 1 = cc in omega arith)
given c s w i v small inv (Fills k x) f e = absurd (let q : ◌≡◌ {A = ℕ} 0 1 = cc in omega arith)
given c s w i v small inv (Swaps k x) f e = absurd (let q : ◌≡◌ {A = ℕ} 0 1 = cc in omega arith)
given c s w i v small inv (Frees k y) f e = absurd (let q : ◌≡◌ {A = ℕ} 0 1 = cc in omega arith)
given c s w i v small inv (Gives k y x) f e =
    let same_value : v ≡ x = cc in
    record {
      claim = k;
      stage = f.0.0;
      hand = f.0.1;
      takes = f.1;
      latest = f.5;
      is = same_value ∙ f.3;
      made = f.4;
      here = (ok_at c s w i small inv (Hand f.0.0 k w) f.0.1).0;
      left = rw (upd_same s.cell i y) f.2;
    }

-- where a hand on the slot, by a head claim, comes from: that claim was just made, or it was there before
data Came (s : Shared) (w i : ℕ) (e : Effect) (k v : ℕ) : Type 0 where
  claims : told e ≡ Heading → v ≡ w → k ≡ s.head → Came s w i e k v
  stays : (st : Stage) → s.cell i ≡ Hand st k v → taking st ≡ true → Came s w i e k v

came : (c : ℕ) (s : Shared) (w i : ℕ) (e : Effect) → Fits c s w i e → (st : Stage) (k v : ℕ) → (after c w i e s).cell i ≡ Hand st k v → taking st ≡ true
    → Came s w i e k v
came c s w i Still f st k v q t = stays st q t
came c s w i (Tailed x) f st k v q t =
    let z : Hand Fill s.tail w ≡ Hand st k v = sym (upd_same s.cell i (Hand Fill s.tail w)) ∙ q in
    let y : Fill ≡ st = cc in
    absurd (true≢false (sym (ap taking y ∙ t)))
came c s w i Taken f st k v q t =
    let z : Hand Take s.head w ≡ Hand st k v = sym (upd_same s.cell i (Hand Take s.head w)) ∙ q in
    claims refl (cc) (cc)
came c s w i Grabbed f st k v q t =
    let z : Hand Grab s.head w ≡ Hand st k v = sym (upd_same s.cell i (Hand Grab s.head w)) ∙ q in
    claims refl (cc) (cc)
came c s w i (Forced j x) f st k v q t =
    let z : Hand Swap j w ≡ Hand st k v = sym (upd_same s.cell i (Hand Swap j w)) ∙ q in
    let a : j ≡ k = cc in
    let b : w ≡ v = cc in
    stays Grab (f ∙ rw (a, b)) refl
came c s w i (Fills j x) f st k v q t =
    let z : Hand Filled j w ≡ Hand st k v = sym (upd_same s.cell i (Hand Filled j w)) ∙ q in
    let y : Filled ≡ st = cc in
    absurd (true≢false (sym (ap taking y ∙ t)))
came c s w i (Swaps j x) f st k v q t =
    let z : Hand Swapped j w ≡ Hand st k v = sym (upd_same s.cell i (Hand Swapped j w)) ∙ q in
    let a : j ≡ k = cc in
    let b : w ≡ v = cc in
    stays Swap (f.0 ∙ rw (a, b)) refl
came c s w i (Frees j y) f st k v q t =
    absurd (loose_mine v y f.3 (subst (Mine v) (sym q ∙ upd_same s.cell i y) refl))
came c s w i (Gives j y x) f st k v q t =
    absurd (loose_mine v y f.0.3 (subst (Mine v) (sym q ∙ upd_same s.cell i y) refl))

-- a head claim finds an item
heading : (c : ℕ) (s : Shared) (w i : ℕ) → i < c → Inv c s → (e : Effect) → Fits c s w i e → told e ≡ Heading → s.head < s.tail
heading c s w i small inv Still f e = absurd (let q : ◌≡◌ {A = ℕ} 0 1 = cc in omega arith)
heading c s w i small inv (Tailed x) f e = absurd (let q : ◌≡◌ {A = ℕ} 0 1 = cc in omega arith)
heading c s w i small inv Taken f e = (ok_at c s w i small inv (Hold s.head) f).2
heading c s w i small inv Grabbed f e = (ok_at c s w i small inv (Hold s.head) f.0).2
heading c s w i small inv (Forced k x) f e = absurd (let q : ◌≡◌ {A = ℕ} 0 1 = cc in omega arith)
heading c s w i small inv (Fills k x) f e = absurd (let q : ◌≡◌ {A = ℕ} 0 1 = cc in omega arith)
heading c s w i small inv (Swaps k x) f e = absurd (let q : ◌≡◌ {A = ℕ} 0 1 = cc in omega arith)
heading c s w i small inv (Frees k y) f e = absurd (let q : ◌≡◌ {A = ℕ} 0 1 = cc in omega arith)
heading c s w i small inv (Gives k y x) f e = absurd (let q : ◌≡◌ {A = ℕ} 0 1 = cc in omega arith)

-- one act more of another, or one that is no answer
unanswered_end : (w : ℕ) (h : List Event) (e : Event) → Unanswered w h → (e.worker ≡ w → (view_of e.after).busy ≡ true) → Unanswered w (h ++ e ∷ [])
unanswered_end w [] e o new = (new, tt)
unanswered_end w (a ∷ h) e o new = (o.0, unanswered_end w h e o.1 new)

-- a value newly written is the item of its worker's latest tail claim
record Wrote (s : Shared) (w : ℕ) (p : Place) (k : ℕ) : Type 0 where
  value : ℕ
  latest : Latest s.tailer s.tail w k
  is : value ≡ s.item k
  writes : Writes p value

wrote : (c : ℕ) (s : Shared) (w i : ℕ) (p : Place) (e : Effect) → Fits c s w i e → WritesBy e p → (k : ℕ) → (after c w i e s).written k ≡ true
    → (s.written k ≡ true) ⊎ Wrote s w p k
wrote c s w i p Still f x k z = inl z
wrote c s w i p (Tailed y) f x k z = inl z
wrote c s w i p Taken f x k z = inl z
wrote c s w i p Grabbed f x k z = inl z
wrote c s w i p (Forced j y) f x k z = inl z
wrote c s w i p (Fills j v) f x k z = go (ℕ_discrete k j)
  where
    go : Dec (k ≡ j) → (s.written k ≡ true) ⊎ Wrote s w p k
    go (yes d) = inr (record { value = v; latest = rw d f.2; is = rw d f.1; writes = x })
    go (no d) = inl (sym (upd_else s.written j k true d) ∙ z)
wrote c s w i p (Swaps j v) f x k z = go (ℕ_discrete k (j + c))
  where
    go : Dec (k ≡ j + c) → (s.written k ≡ true) ⊎ Wrote s w p k
    go (yes d) = inr (record { value = v; latest = rw d f.2; is = rw d f.1; writes = x })
    go (no d) = inl (sym (upd_else s.written (j + c) k true d) ∙ z)
wrote c s w i p (Frees j y) f x k z = inl z
wrote c s w i p (Gives j y v) f x k z = inl z

module _ (c : ℕ) (s : Shared) (inv : Inv c s) (w i : ℕ) (small : i < c) (e : Effect) (fits : Fits c s w i e) (h : List Event) (log : Logged c s h)
    (p q : Place) (x : Loss) (tells : tale (look c q) ≡ told e) (writes : WritesBy e p) (alone : (j : ℕ) → j < c → j ≢ i → Mine w (s.cell j) → ⊥)
    (holding : Mine w ((after c w i e s).cell i) → (view_of q).busy ≡ true) where
  abbrev u : Shared
  u = after c w i e s

  abbrev new : Event
  new = event w p q x

  abbrev h' : List Event
  h' = h ++ new ∷ []

  run : Course c s u w i
  run = course c s w i small inv e fits

  items_now : items_of h ++ items_by (told e) ≡ items_of h'
  items_now = sym (items_end h new ∙ ap (λ (z : List ℕ). items_of h ++ z) ((shows c q).0 ∙ ap items_by tells))

  moved_now : moved_of q ≡ moved_by (told e)
  moved_now = (shows c q).1 ∙ ap moved_by tells

  tailers_now : tailers_of h ++ tail_by (moved_by (told e)) w ≡ tailers_of h'
  tailers_now = sym (tailers_end h new ∙ ap (λ (z : Moved). tailers_of h ++ tail_by z w) moved_now)

  takers_now : takers_of h ++ head_by (moved_by (told e)) w ≡ takers_of h'
  takers_now = sym (takers_end h new ∙ ap (λ (z : Moved). takers_of h ++ head_by z w) moved_now)

  lists_now : Lists u (items_of h') (tailers_of h') (takers_of h')
  lists_now =
      let l = lists_after c s w i (items_of h) (tailers_of h) (takers_of h) log.lists e in
      record {
        items_are = subst (λ (z : List ℕ). Listed z u.tail u.item) items_now l.items_are;
        tailers_are = subst (λ (z : List ℕ). Listed z u.tail u.tailer) tailers_now l.tailers_are;
        takers_are = subst (λ (z : List ℕ). Listed z u.head u.taker) takers_now l.takers_are;
      }

  -- an item written stays written
  grown : (k v : ℕ) → WrittenIn h k v → WrittenIn h' k v
  grown k v o =
      record {
        earlier = o.earlier;
        act = o.act;
        later = o.later ++ new ∷ [];
        is = ap (λ (z : List Event). z ++ new ∷ []) o.is ∙ append_assoc o.earlier (o.act ∷ o.later) (new ∷ []);
        claim = o.claim;
        writes = o.writes;
      }

  old_item : (k : ℕ) → k < s.tail → u.item k ≡ s.item k
  old_item k l = go run
    where
      go : Course c s u w i → u.item k ≡ s.item k
      go (same z) = rw z
      go (moved d) = d.item_old k l

  was_written : (k : ℕ) → s.written k ≡ true → (k < u.tail) × WrittenIn h' k (u.item k)
  was_written k z =
      let o = log.written k z in
      (omega (arith, tail_course c s u w i run, o.0), rw (old_item k o.0) (grown k (s.item k) o.1))

  written_now : (k : ℕ) → u.written k ≡ true → (k < u.tail) × WrittenIn h' k (u.item k)
  written_now k z = go (wrote c s w i p e fits writes k z)
    where
      go : (s.written k ≡ true) ⊎ Wrote s w p k → (k < u.tail) × WrittenIn h' k (u.item k)
      go (inl old) = was_written k old
      go (inr o) = (
        omega (arith, tail_course c s u w i run, o.latest.0),
        rw (old_item k o.latest.0, ← o.is)
            (record {
              earlier = h;
              act = new;
              later = [];
              is = refl;
              claim = latest_in (tailers_of h) s.tail s.tailer w k log.lists.tailers_are o.latest;
              writes = o.writes;
            }),
      )

  -- a call's claim stays that of the call, while its worker does not answer
  call_grown : (v k : ℕ) → CallClaim h v k → (w ≡ v → (view_of q).busy ≡ true) → CallClaim h' v k
  call_grown v k o on =
      record {
        earlier = o.earlier;
        act = o.act;
        later = o.later ++ new ∷ [];
        is = ap (λ (z : List Event). z ++ new ∷ []) o.is ∙ append_assoc o.earlier (o.act ∷ o.later) (new ∷ []);
        by = o.by;
        claims = o.claims;
        number = o.number;
        same_call = unanswered_end v o.later new o.same_call on;
      }

  calls_now : (j : ℕ) → j < c → (st : Stage) (k v : ℕ) → u.cell j ≡ Hand st k v → taking st ≡ true → CallClaim h' v k
  calls_now j l st k v z t = go (ℕ_discrete j i)
    where
      -- the hand is still there
      held : u.cell i ≡ Hand st k v → w ≡ v → (view_of q).busy ≡ true
      held y x = holding (subst (Mine w) (sym y) (sym x))

      here : u.cell i ≡ Hand st k v → Came s w i e k v → CallClaim h' v k
      here y (stays was a b) = call_grown v k (log.calls i small was k v a b) (held y)
      here y (claims a b d) =
          record {
            earlier = h;
            act = new;
            later = [];
            is = refl;
            by = sym b;
            claims = moved_now ∙ ap moved_by a;
            number = tally_head h ∙ log.lists.takers_are.long ∙ sym d;
            same_call = tt;
          }

      go : Dec (j ≡ i) → CallClaim h' v k
      go (yes d) =
          let y : u.cell i ≡ Hand st k v = ap u.cell (sym d) ∙ z in
          here y (came c s w i e fits st k v y t)
      go (no d) =
          let y : s.cell j ≡ Hand st k v = sym (cell_course c s u w i run j d) ∙ z in
          call_grown v k (log.calls j l st k v y t) (λ x. absurd (alone j l d (subst (Mine w) (sym y) (sym x))))

  -- the queue, before and after
  waiting_was : waiting h ≡ drop (length (takers_of h)) (items_of h)
  waiting_was = ap (λ (k : ℕ). drop k (items_of h)) (tally_head h)

  waiting_now : (t : Tale) → told e ≡ t → waiting h' ≡ drop (length (takers_of h ++ head_by (moved_by t) w)) (items_of h ++ items_by t)
  waiting_now t z =
      ap (λ (k : ℕ). drop k (items_of h')) (tally_head h' ∙ ap length (sym takers_now ∙ ap (λ (y : Tale). takers_of h ++ head_by (moved_by y) w) z))
      ∙ ap (λ (l : List ℕ). drop (length (takers_of h ++ head_by (moved_by t) w)) l) (sym items_now ∙ ap (λ (y : Tale). items_of h ++ items_by y) z)

  fewer : length (takers_of h) ≤ length (items_of h)
  fewer = omega (arith, log.lists.takers_are.long, log.lists.items_are.long, inv.low)

  no_claim : waiting h' ≡ drop (length (takers_of h ++ [])) (items_of h ++ []) → moved_of q ≡ end.Neither → Fifo h' (waiting h')
  no_claim z m =
      let y : waiting h' ≡ waiting h = z ∙ rw (append-nil (takers_of h), append-nil (items_of h)) (sym waiting_was) in
      rw y (rest h (waiting h) new log.fifo m)

  fifo_now : (t : Tale) → told e ≡ t → Fifo h' (waiting h')
  fifo_now Quiet z = no_claim (waiting_now Quiet z) (moved_now ∙ ap moved_by z)
  fifo_now (Giving v) z = no_claim (waiting_now (Giving v) z) (moved_now ∙ ap moved_by z)
  fifo_now (Tailing x) z =
      let y : waiting h' ≡ waiting h ++ x ∷ [] =
      waiting_now (Tailing x) z ∙ ap (λ (l : List ℕ). drop (length l) (items_of h ++ x ∷ [])) (append-nil (takers_of h))
      ∙ drop-append-le (length (takers_of h)) (items_of h) (x ∷ []) fewer ∙ ap (λ (l : List ℕ). l ++ x ∷ []) (sym waiting_was) in
      rw y (enqueue h (waiting h) new x log.fifo ((shows c q).0 ∙ ap items_by (tells ∙ z)))
  fifo_now Heading z =
      let some : length (takers_of h) < length (items_of h) =
      omega (arith, log.lists.takers_are.long, log.lists.items_are.long, heading c s w i small inv e fits z) in
      let one : length (takers_of h ++ w ∷ []) ≡ suc (length (takers_of h)) = length-append (takers_of h) (w ∷ []) ∙ omega arith in
      let y : waiting h' ≡ drop (suc (length (takers_of h))) (items_of h) =
      waiting_now Heading z ∙ ap (λ (l : List ℕ). drop (length (takers_of h ++ w ∷ [])) l) (append-nil (items_of h)) ∙ ap (λ (k : ℕ). drop k (items_of h)) one in
      let front : waiting h ≡ get_or (items_of h) (length (takers_of h)) 0 ∷ waiting h' =
      waiting_was ∙ drop-cons (items_of h) (length (takers_of h)) 0 some ∙ ap (λ (l : List ℕ). get_or (items_of h) (length (takers_of h)) 0 ∷ l) (sym y) in
      dequeue h (waiting h') new (get_or (items_of h) (length (takers_of h)) 0) (subst (Fifo h) front log.fifo) (moved_now ∙ ap moved_by z)

  -- what the new act handed out, if it did
  gave : (act : Event) (v : ℕ) → act ≡ new → HandsOut act.after v → Given c s w i v u
  gave act v one out =
      let out_now : HandsOut q v = subst (λ (z : Event). HandsOut z.after v) one out in
      given c s w i v small inv e fits (sym tells ∙ out_giving c q v out_now)

  -- the claim that the new act handed out is the one that its worker's latest is
  gave_claim : (act : Event) (v k : ℕ) (g : Given c s w i v u) → act ≡ new → LatestIn (takers_of h) act.worker k → k ≡ g.claim
  gave_claim act v k g one l =
      latest_one (takers_of h) w k g.claim (subst (λ (z : Event). LatestIn (takers_of h) z.worker k) one l)
      (latest_in (takers_of h) s.head s.taker w g.claim log.lists.takers_are g.latest)

  rule_now : (earlier later : List Event) (act : Event) (v : ℕ) → h' ≡ earlier ++ act ∷ later → HandsOut act.after v
      → (k : ℕ) × CallClaim earlier act.worker k × LatestIn (takers_of earlier) act.worker k × ItemIn earlier k v
  rule_now earlier later act v z out = go (split_end h new earlier act later z)
    where
      its_latest : (k : ℕ) → earlier ≡ h → act ≡ new → LatestIn (takers_of h) w k → LatestIn (takers_of earlier) act.worker k
      its_latest k a b l = rw (a, b) l

      its_call : (k : ℕ) → earlier ≡ h → act ≡ new → CallClaim h w k → CallClaim earlier act.worker k
      its_call k a b l = rw (a, b) l

      its_item : (k : ℕ) → earlier ≡ h → ItemIn h k v → ItemIn earlier k v
      its_item k a l = rw a l

      go : Last h new earlier act later ⊎ Earlier h new earlier act later → (k : ℕ) × CallClaim earlier act.worker k × LatestIn (takers_of earlier) act.worker k × ItemIn earlier k v
      go (inr o) = log.rule earlier o.left act v o.was out
      go (inl o) =
          let g = gave act v o.one out in (
            g.claim,
            its_call g.claim o.whole o.one (log.calls i small g.stage g.claim w g.hand g.takes),
            its_latest g.claim o.whole o.one (latest_in (takers_of h) s.head s.taker w g.claim log.lists.takers_are g.latest),
            its_item g.claim o.whole
                (record {
                  made = omega (arith, log.lists.items_are.long, g.made);
                  is = log.lists.items_are.at g.claim g.made ∙ sym g.is;
                }),
          )

  past_now : (earlier later : List Event) (act : Event) (v k : ℕ) → h' ≡ earlier ++ act ∷ later → HandsOut act.after v
      → LatestIn (takers_of earlier) act.worker k → k + c ≤ number (u.cell (k % c))
  past_now earlier later act v k z out l = go (split_end h new earlier act later z)
    where
      go : Last h new earlier act later ⊎ Earlier h new earlier act later → k + c ≤ number (u.cell (k % c))
      go (inr o) = omega (arith, log.past earlier o.left act v k o.was out l, number_course c s u w i run (k % c))
      go (inl o) =
          let g = gave act v o.one out in
          let m : k ≡ g.claim = gave_claim act v k g o.one (rw o.whole at l) in
          rw (m, g.here) g.left

  once_now : (earlier between later : List Event) (act again : Event) (v x k : ℕ) → h' ≡ earlier ++ act ∷ between ++ again ∷ later
      → HandsOut act.after v → HandsOut again.after x
      → LatestIn (takers_of earlier) act.worker k → LatestIn (takers_of (earlier ++ act ∷ between)) again.worker k → ⊥
  once_now earlier between later act again v x k z out anew l n = go (split_end h new (earlier ++ act ∷ between) again later z)
    where
      go : Last h new (earlier ++ act ∷ between) again later ⊎ Earlier h new (earlier ++ act ∷ between) again later → ⊥
      go (inr o) = log.once earlier between o.left act again v x k o.was out anew l n
      go (inl o) =
          let g = gave again x o.one anew in
          let m : k ≡ g.claim = gave_claim again x k g o.one (rw o.whole at n) in
          let there : number (s.cell (k % c)) ≡ k = rw (m, g.here) (ap number g.hand) in
          omega (arith, log.past earlier between act v k (sym o.whole) out l, small)

  pub logged_after : Logged c u h'
  logged_after = record { lists = lists_now; written = written_now; calls = calls_now; fifo = fifo_now (told e) refl; rule = rule_now; past = past_now; once = once_now }
