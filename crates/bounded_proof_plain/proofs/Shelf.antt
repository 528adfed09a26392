-- The plain queue along a story is the ring's claims that wait; and what was so of it at a moment that has been.
use mathlib.Core.Path.{◌≡◌, refl, sym, ap, ◌∙◌, subst}
use mathlib.Core.Logic.{◌≢◌}
use mathlib.Core.Bool.{Bool, true, false, cond}
use mathlib.Core.List.{List, [], ◌∷◌, ◌++◌, append-nil}
use Prim.Native.Nat.{ℕ, suc, ◌+◌, ◌≤◌, ◌<◌}
use native.Mathlib.Omega.{arith}
use native.Mathlib.Decide.{dec_lt}
use lib.Dec.{eqb}
use lib.ListN.{length, get_or, drop, length-append, get_or-append}
use lib.Seq.{get_or-append_seam}
use borrow.Author.Tests.{eq-eqb, ne_eqb}
use Rattle.queue_entries.specs.declared.Call.{Call}
use Rattle.queue_plain.specs.Plain.{Queue, full_of}
use Rattle.queue_plain.specs.Story.{Begun, Does, Change, Known, beginning, doing_with, changed_by, items_of, fresh, known_with, known_from}
use Rattle.queue_plain.proofs.Stories.{known_count}
use Rattle.queue_plain.proofs.Stories as laws
use Rattle.bounded_places.specs.declared.Place.{Place}
use Rattle.bounded_places.specs.declared.Moved.{Moved}
use Rattle.bounded_places.specs.declared.Moved.TheVariants.{Neither, Tail, Head}
use Rattle.bounded_machine.specs.declared.Event.{Event}
use Rattle.bounded_machine.specs.History.{moved_of}
use Rattle.bounded_causes.specs.Causes.{claims_tail, claims_head}
use Rattle.bounded_demands.specs.Notions.{item_in, tail_by, head_by}
use Rattle.bounded_moments.specs.declared.Timing.{Timing}
use Rattle.bounded_moments.specs.declared.Timing.TheVariants.{Now, Stays, IfSome, IfRoom}
use Rattle.bounded_moments.specs.Moments.{timing_of}
use Rattle.bounded_demands.specs.Stories.{Element, Story, known, change_of, actor, Moment, At, AfterNextTail, AfterNextHead, timed, heard, moment_with, moment_from, moment_of}
use Rattle.bounded_proof_invariant.proofs.Ring.{Shared, Latest, Inv, taken_else}
use Rattle.bounded_proof_invariant.proofs.Effects.{Course, same, moved, tail_course}

-- ---- one element more

moment_end : (edition w : ℕ) (k : Known) (was : Moment) (s : Story) (x : Element)
    → moment_from edition w k was (s ++ x ∷ []) ≡ moment_with edition w (known_from actor (change_of edition) k s) (moment_from edition w k was s) x
unfolding moment_from known_from
moment_end edition w k was [] x = refl
moment_end edition w k was (y ∷ s) x = moment_end edition w (known_with actor (change_of edition) k y) (moment_with edition w k was y) s x

-- a moment is no later than now
abbrev NoLater : ℕ → Moment → Type 0
NoLater n (At k) = k ≤ n
NoLater n AfterNextTail = Unit {0}
NoLater n AfterNextHead = Unit {0}

later : (n : ℕ) (m : Moment) → NoLater n m → NoLater (n + 1) m
later n (At k) h = omega arith
later n AfterNextTail h = tt
later n AfterNextHead h = tt

timed_now : (t : Timing) (k : Known) (m : Moment) → NoLater k.count m → NoLater (k.count + 1) (timed t k m)
timed_now Now k m h = omega arith
timed_now Stays k m h = later k.count m h
timed_now IfSome k m h = go (eqb (length k.queue.items) 0)
  where
    go : (b : Bool) → NoLater (k.count + 1) (cond b AfterNextTail (At k.count))
    go true = tt
    go false = omega arith
timed_now IfRoom k m h = go (full_of k.queue)
  where
    go : (b : Bool) → NoLater (k.count + 1) (cond b AfterNextHead (At k.count))
    go true = tt
    go false = omega arith

heard_now : (d : Change) (n : ℕ) (m : Moment) → NoLater n m → NoLater (n + 1) (heard d (n + 1) m)
heard_now d n (At k) h = omega arith
heard_now d n AfterNextTail h = go d.puts
  where
    go : (b : Bool) → NoLater (n + 1) (cond b (At (n + 1)) AfterNextTail)
    go true = omega arith
    go false = tt
heard_now d n AfterNextHead h = go d.takes
  where
    go : (b : Bool) → NoLater (n + 1) (cond b (At (n + 1)) AfterNextHead)
    go true = omega arith
    go false = tt

moment_with_lem : (edition w : ℕ) (k : Known) (m : Moment) (x : Element) → NoLater k.count m → NoLater (k.count + 1) (moment_with edition w k m x)
moment_with_lem edition w k m (Begun v cl) h = later k.count m h
moment_with_lem edition w k m (Does e) h = go (eqb w e.worker)
  where
    go : (b : Bool) → NoLater (k.count + 1) (cond b (timed (timing_of e.before e.after) k m) (heard (change_of edition e) (k.count + 1) m))
    go true = timed_now (timing_of e.before e.after) k m h
    go false = heard_now (change_of edition e) k.count m h

moment_from_lem : (edition w : ℕ) (s : Story) (k : Known) (m : Moment) → NoLater k.count m → NoLater (known_from actor (change_of edition) k s).count (moment_from edition w k m s)
unfolding moment_from known_from
moment_from_lem edition w [] k m h = h
moment_from_lem edition w (Begun v cl ∷ s) k m h = moment_from_lem edition w s (known_with actor (change_of edition) k (Begun v cl))
    (moment_with edition w k m (Begun v cl)) (moment_with_lem edition w k m (Begun v cl) h)
moment_from_lem edition w (Does e ∷ s) k m h = moment_from_lem edition w s (known_with actor (change_of edition) k (Does e)) (moment_with edition w k m (Does e)) (moment_with_lem edition w k m (Does e) h)

pub moment_past : (c ed w : ℕ) (st : Story) (k : ℕ) → moment_of c ed w st ≡ At k → k ≤ length st
moment_past c ed w st k h =
    let z : NoLater (known c ed st).count (At k) = subst (NoLater (known c ed st).count) h (moment_from_lem ed w st (fresh c) (At 0) (omega arith)) in
    omega (arith, z, known_count actor (change_of ed) c st)

module _ (c ed : ℕ) (st : Story) where
  module _ (e : Event) where
    pub known_act : known c ed (st ++ Does e ∷ []) ≡ known_with actor (change_of ed) (known c ed st) (Does e)
    known_act = laws.known_act actor (change_of ed) c st e

    pub each_own : (known c ed (st ++ Does e ∷ [])).each e.worker ≡ doing_with (change_of ed e) (known c ed st).queue ((known c ed st).each e.worker)
    each_own = laws.each_own actor (change_of ed) c st e

    pub each_else : (j : ℕ) → j ≢ e.worker → (known c ed (st ++ Does e ∷ [])).each j ≡ (known c ed st).each j
    each_else = laws.each_else actor (change_of ed) c st e

    pub queue_act : (known c ed (st ++ Does e ∷ [])).queue ≡ changed_by (change_of ed e) (items_of ((known c ed st).each e.worker).calls) (known c ed st).queue
    queue_act = laws.queue_act actor (change_of ed) c st e

    moment_act : (j : ℕ) → moment_of c ed j (st ++ Does e ∷ []) ≡ moment_with ed j (known c ed st) (moment_of c ed j st) (Does e)
    moment_act j = moment_end ed j (fresh c) (At 0) st (Does e)

    pub moment_own : moment_of c ed e.worker (st ++ Does e ∷ []) ≡ timed (timing_of e.before e.after) (known c ed st) (moment_of c ed e.worker st)
    moment_own =
        moment_act e.worker
        ∙ ap (λ (b : Bool). cond b (timed (timing_of e.before e.after) (known c ed st) (moment_of c ed e.worker st))
        (heard (change_of ed e) ((known c ed st).count + 1) (moment_of c ed e.worker st)))
        (eq-eqb e.worker e.worker refl)

    pub moment_else : (j : ℕ) → j ≢ e.worker → moment_of c ed j (st ++ Does e ∷ []) ≡ heard (change_of ed e) ((known c ed st).count + 1) (moment_of c ed j st)
    moment_else j ne =
        moment_act j
        ∙ ap (λ (b : Bool). cond b (timed (timing_of e.before e.after) (known c ed st) (moment_of c ed j st)) (heard (change_of ed e) ((known c ed st).count + 1) (moment_of c ed j st)))
        (ne_eqb j e.worker ne)

  module _ (w : ℕ) (cl : Call) where
    pub each_begun : (known c ed (st ++ Begun w cl ∷ [])).each w ≡ beginning cl (known c ed st).count
    each_begun = laws.each_begun actor (change_of ed) c st w cl

    pub each_unbegun : (j : ℕ) → j ≢ w → (known c ed (st ++ Begun w cl ∷ [])).each j ≡ (known c ed st).each j
    each_unbegun = laws.each_unbegun actor (change_of ed) c st w cl

    pub queue_begun : (known c ed (st ++ Begun w cl ∷ [])).queue ≡ (known c ed st).queue
    queue_begun = laws.queue_begun actor (change_of ed) c st w cl

    pub moment_begun : (j : ℕ) → moment_of c ed j (st ++ Begun w cl ∷ []) ≡ moment_of c ed j st
    moment_begun j = moment_end ed j (fresh c) (At 0) st (Begun w cl)

-- ---- the claims that wait

-- these items are those of the claims from head to tail
abbrev pub Waits : Shared → List ℕ → Type 0
Waits s l = (s.head + length l ≡ s.tail) × ((i : ℕ) → i < length l → get_or l i 0 ≡ s.item (s.head + i))

pub record Shelved (c : ℕ) (s : Shared) (b : Bool) (q : Queue) : Type 0 where
  pub long : s.head + length q.items ≡ s.tail
  pub at : (i : ℕ) → i < length q.items → get_or q.items i 0 ≡ s.item (s.head + i)
  pub flag : q.closed ≡ b
  pub room : q.capacity ≡ c

-- What an act of w that led to the place q did to the ring.
pub record Moves (c : ℕ) (s u : Shared) (w i : ℕ) (q : Place) : Type 0 where
  pub course : Course c s u w i
  pub tails : u.tail ≡ s.tail + length (tail_by (moved_of q) 0)
  pub heads : u.head ≡ s.head + length (head_by (moved_of q) 0)
  pub item : (x : ℕ) → item_in q ≡ x ∷ [] → u.item s.tail ≡ x
  pub inv : Inv c u

module _ (c : ℕ) (s u : Shared) (w i : ℕ) (run : Course c s u w i) where
  pub item_course : (k : ℕ) → k < s.tail → u.item k ≡ s.item k
  item_course k l = go run
    where
      go : Course c s u w i → u.item k ≡ s.item k
      go (same e) = rw e
      go (moved d) = d.item_old k l

  pub head_course : s.head ≤ u.head
  head_course = go run
    where
      go : Course c s u w i → s.head ≤ u.head
      go (same e) = rw e (omega arith)
      go (moved d) = d.head_up

  pub latest_course : Inv c s → (j k : ℕ) → j ≢ w → Latest s.taker s.head j k → Latest u.taker u.head j k
  latest_course inv j k ne l = go run
    where
      go : Course c s u w i → Latest u.taker u.head j k
      go (same e) = rw e l
      go (moved d) = taken_else c s u w i inv d j k ne l

  -- a head claim just made is its worker's latest; without one the latest stays
  pub latest_new : u.head ≡ s.head + 1 → Latest u.taker u.head w s.head
  latest_new up = go run
    where
      go : Course c s u w i → Latest u.taker u.head w s.head
      go (same e) = absurd (omega (arith, ap (λ (z : Shared). z.head) e))
      go (moved d) = (omega arith, d.taker_new s.head (omega arith) (omega arith), λ k a b. absurd (omega arith))

  pub latest_kept : u.head ≡ s.head → (k : ℕ) → Latest s.taker s.head w k → Latest u.taker u.head w k
  latest_kept even k l = go run
    where
      go : Course c s u w i → Latest u.taker u.head w k
      go (same e) = rw e l
      go (moved d) = (
        omega (arith, l.0),
        d.taker_old k l.0 ∙ l.1,
        λ j a b q. let m : j < s.head = omega arith in l.2 j a m (sym (d.taker_old j m) ∙ q),
      )

  items_neither : (l : List ℕ) → u.tail ≡ s.tail + 0 → u.head ≡ s.head + 0 → Waits s l → Waits u (l ++ [])
  items_neither l t h o =
      let e : u.head ≡ s.head = omega arith in
      rw (append-nil l) (omega (arith, o.0), λ k z. o.1 k z ∙ sym (rw e (item_course (s.head + k) (omega (arith, o.0)))))

  items_tail : (y : ℕ) (l : List ℕ) → u.tail ≡ s.tail + 1 → u.head ≡ s.head + 0 → u.item s.tail ≡ y → Waits s l → Waits u (l ++ y ∷ [])
  items_tail y l t h new o = let e : u.head ≡ s.head = omega arith in (omega (arith, o.0, length-append l (y ∷ [])), λ k z. each e k z (dec_lt k (length l)))
    where
      each : u.head ≡ s.head → (k : ℕ) → k < length (l ++ y ∷ []) → Dec (k < length l) → get_or (l ++ y ∷ []) k 0 ≡ u.item (u.head + k)
      each e k z (yes m) = get_or-append l (y ∷ []) 0 k m ∙ o.1 k m ∙ sym (rw e (item_course (s.head + k) (omega (arith, o.0))))
      each e k z (no m) =
          let last : k ≡ length l = omega (arith, length-append l (y ∷ [])) in
          let there : u.head + k ≡ s.tail = omega (arith, o.0) in
          rw there (rw last (get_or-append_seam l y [] 0) ∙ sym new)

  items_head : (l : List ℕ) → Inv c u → u.tail ≡ s.tail + 0 → u.head ≡ s.head + 1 → Waits s l → Waits u (drop 1 l ++ [])
  items_head [] inv t h o = absurd (omega (arith, o.0, inv.low))
  items_head (y ∷ l) inv t h o =
      rw (append-nil l) (
        omega (arith, o.0),
        λ k z. let there : u.head + k ≡ s.head + suc k = omega arith in o.1 (suc k) (omega arith) ∙ sym (rw there (item_course (s.head + suc k) (omega (arith, o.0)))),
      )

  -- an act that moved one end, or neither
  pub items_on : (m : Moved) → Inv c u → u.tail ≡ s.tail + length (tail_by m 0) → u.head ≡ s.head + length (head_by m 0) → (l x : List ℕ) → (m ≡ Tail → x ≡ u.item s.tail ∷ [])
      → Waits s l → Waits u (cond (claims_head m) (drop 1 l) l ++ cond (claims_tail m) x [])
  items_on Neither inv t h l x new o = items_neither l t h o
  items_on Tail inv t h l x new o = rw (new refl) (items_tail (u.item s.tail) l t h refl o)
  items_on Head inv t h l x new o = items_head l inv t h o

-- ---- a moment that has been

pub record Point (c : ℕ) (s : Shared) (q : Queue) (tails heads : ℕ) : Type 0 where
  pub long : heads + length q.items ≡ tails
  pub at : (i : ℕ) → i < length q.items → get_or q.items i 0 ≡ s.item (heads + i)
  pub most : tails ≤ heads + c
  pub heads_up : heads ≤ s.head
  pub tails_up : tails ≤ s.tail
  pub room : q.capacity ≡ c

pub point_now : (c : ℕ) (s : Shared) (b : Bool) (q : Queue) → Inv c s → Shelved c s b q → Point c s q s.tail s.head
point_now c s b q inv o =
    record { long = o.long; at = o.at; most = inv.high; heads_up = omega arith; tails_up = omega arith; room = o.room }

pub point_on : (c : ℕ) (s u : Shared) (w i : ℕ) (q : Queue) (tails heads : ℕ) → Course c s u w i → Point c s q tails heads → Point c u q tails heads
point_on c s u w i q tails heads run o =
    record {
      long = o.long;
      at = λ k l. o.at k l ∙ sym (item_course c s u w i run (heads + k) (omega (arith, o.long, o.tails_up)));
      most = o.most;
      heads_up = omega (arith, o.heads_up, head_course c s u w i run);
      tails_up = omega (arith, o.tails_up, tail_course c s u w i run);
      room = o.room;
    }
