-- What the functions of crate bounded_moments keep along a story, and name at an act, is the moment of the worker's call.
use mathlib.Core.Path.{◌≡◌, refl, sym, ap, ◌∙◌, subst}
use mathlib.Core.Logic.{◌≢◌, ◌⊎◌, inl, inr}
use mathlib.Core.Bool.{Bool, true, false, cond}
use mathlib.Core.List.{List, [], ◌∷◌, ◌++◌, map}
use Prim.Native.Nat.{ℕ, ◌+◌, ◌≤◌, ◌<◌}
use native.Mathlib.Omega.{arith}
use native.Mathlib.Nat.{mod-eq_of_lt}
use native.Mathlib.Decide.{ℕ_discrete}
use lib.Dec.{eqb}
use lib.ListN.{length, set, length-set, length-map, length-append, length-replicate, get_or-map}
use lib.Seq.{get_or-set_same, get_or-set_other}
use Rattle.queue_entries.specs.Limits.{workers_most}
use Rattle.queue_entries.specs.Entries.{entry_of}
use Rattle.queue_entries.specs.declared.Call.{Call}
use Rattle.queue_entries.specs.declared.Entry.{Entry}
use Rattle.queue_rows.proofs.Alike.{all_alike}
use Rattle.queue_plain.specs.Story.{Begun, Does, Known, begun_in, elements_by, acts_in}
use Rattle.queue_plain.proofs.Stories.{acts_end, known_count}
use Rattle.bounded_words.specs.declared.Width.{Width}
use Rattle.bounded_words.specs.declared.Width.TheVariants.{SixtyFour}
use Rattle.bounded_words.specs.Limits.{wide}
use Rattle.bounded_places.specs.declared.Moved.{Moved}
use Rattle.bounded_places.specs.declared.Moved.TheVariants.{Neither, Tail, Head}
use Rattle.bounded_machine.specs.declared.Machine.{Machine}
use Rattle.bounded_machine.specs.Machine.{fresh_with}
use Rattle.bounded_machine.specs.declared.Event.{Event}
use Rattle.bounded_machine.specs.declared.Tally.{Tally}
use Rattle.bounded_machine.specs.Turn.{turn_at, turn_of_by}
use Rattle.bounded_machine.specs.History.{events_of, moved_of, reads_at, counted, read_on, untallied, tally_of, untaken_of}
use Rattle.bounded_stock.specs.Stock.{one_more_act, tallied_of}
use Rattle.bounded_stock.proofs.Tallies.{tally_counts}
use Rattle.bounded_moments.specs.declared.Moment as declared
use Rattle.bounded_moments.specs.declared.Moment.TheVariants as moments
use Rattle.bounded_moments.specs.declared.Moments.{Moments}
use Rattle.bounded_moments.specs.declared.OfWorker.{OfWorker}
use Rattle.bounded_moments.specs.declared.Timing.{Timing}
use Rattle.bounded_moments.specs.declared.Timing.TheVariants.{Now, Stays, IfSome, IfRoom}
use Rattle.bounded_moments.specs.Moments.{timing_of, timed_of, heard_of, of_worker, moment_in, heard_by_all, begun_of, own_of, named_of}
use Rattle.bounded_demands.specs.Notions.{with_records, AllowedWith, KeepsWidestWindow, tally}
use Rattle.bounded_demands.specs.Stories.{Element, Story, story_of, known, change_of, actor, Moment, At, timed, heard, moment_of}
use Rattle.bounded_demands.specs.Stories.{moment_from, moments_with, moments_from, moments_kept_of, moment_named_of, in_story}
use Rattle.bounded_demands.specs.Demands.{NamesMomentsOf, MomentsKept, MomentsKeptInWindow, MomentsKeptOf}
use Rattle.bounded_proof_demand2.proofs.Turns.{Turned, began, did, turned}
use Rattle.bounded_proof_demand2.proofs.Lists.{Last, Earlier, split_end}
use Rattle.bounded_proof_demand2.proofs.Counts.{tally_end}
use Rattle.bounded_proof_demand2.proofs.Contents.{untaken_is}
use Rattle.bounded_proof_demand2.proofs.Reached.{base_of, nil_split}
use Rattle.bounded_proof_demand2.proofs.Always.{always, widens}
use Rattle.bounded_proof_plain.proofs.Shelf.{moment_own, moment_else, moment_begun}
use Rattle.bounded_proof_plain.proofs.Plain.{Tells, told_with}

-- ---- the rule in numbers is the rule on the plain queue

unless_same : (b : Bool) (until : declared.Moment) (place : ℕ) → in_story (cond b until (moments.Before place)) ≡ cond b (in_story until) (At place)
unless_same true until place = refl
unless_same false until place = refl

after_same : (b : Bool) (until : declared.Moment) (place : ℕ) → in_story (cond b (moments.After place) until) ≡ cond b (At (place + 1)) (in_story until)
after_same true until place = refl
after_same false until place = refl

timed_same : (t : Timing) (k : Known) (place waits capacity : ℕ) (was : declared.Moment) (then : Moment) → place ≡ k.count → waits ≡ length k.queue.items → capacity ≡ k.queue.capacity
    → in_story was ≡ then → in_story (timed_of t place waits capacity was) ≡ timed t k then
timed_same Now k place waits capacity was then p w c e = ap At p
timed_same Stays k place waits capacity was then p w c e = e
timed_same IfSome k place waits capacity was then p w c e = unless_same (eqb waits 0) moments.AfterNextTail place ∙ rw (p, w)
timed_same IfRoom k place waits capacity was then p w c e = unless_same (eqb waits capacity) moments.AfterNextHead place ∙ rw (p, w, c)

heard_same : (edition : ℕ) (e : Event) (place n : ℕ) (was : declared.Moment) (then : Moment) → place + 1 ≡ n → in_story was ≡ then
    → in_story (heard_of (moved_of e.after) place was) ≡ heard (change_of edition e) n then
heard_same edition e place n (moments.Before k) then p q = rw (← q)
heard_same edition e place n (moments.After k) then p q = rw (← q)
heard_same edition e place n moments.AfterNextTail then p q = rw (← q) (after_same (change_of edition e).puts moments.AfterNextTail place ∙ rw p)
heard_same edition e place n moments.AfterNextHead then p q = rw (← q) (after_same (change_of edition e).takes moments.AfterNextHead place ∙ rw p)

-- ---- counts that do not wrap

one_few : (m : Moved) (b : Bool) (t : Tally)
    → ((read_on b (counted m t)).tail.0 ≤ t.tail.0 + 1) × ((read_on b (counted m t)).head.0 ≤ t.head.0 + 1) × ((read_on b (counted m t)).reads ≤ t.reads + 1)
one_few Neither false t = omega arith
one_few Tail false t = omega arith
one_few Head false t = omega arith
one_few Neither true t = omega arith
one_few Tail true t = omega arith
one_few Head true t = omega arith

tally_few : (h : List Event) (t : Tally)
    → ((tally_of h t).tail.0 ≤ t.tail.0 + length h) × ((tally_of h t).head.0 ≤ t.head.0 + length h) × ((tally_of h t).reads ≤ t.reads + length h)
unfolding tally_of
tally_few [] t = omega arith
tally_few (e ∷ h) t =
    let one = one_few (moved_of e.after) (reads_at e.before) t in
    let more = tally_few h (read_on (reads_at e.before) (counted (moved_of e.after) t)) in
    (omega (arith, one.0, more.0), omega (arith, one.1, more.1), omega (arith, one.2, more.2))

acts_few : (s : Story) → length (acts_in s) ≤ length s
unfolding acts_in
acts_few [] = omega arith
acts_few (Begun w c ∷ s) = omega (arith, acts_few s)
acts_few (Does e ∷ s) = omega (arith, acts_few s)

-- ---- one element more

kept_end : (ms : Moments) (s : Story) (x : Element) → moments_from ms (s ++ x ∷ []) ≡ moments_with (moments_from ms s) x
unfolding moments_from
kept_end ms [] x = refl
kept_end ms (y ∷ s) x = kept_end (moments_with ms y) s x

module _ (many c ed : ℕ) where
  abbrev Names : Story → Type 0
  Names st =
      (earlier later : Story) (act : Event) → st ≡ earlier ++ Does act ∷ later → act.worker < many
      → in_story (moment_named_of many c earlier act) ≡ moment_of c ed act.worker (earlier ++ Does act ∷ [])

  record Sound (st : Story) : Type 0 where
    place : (moments_kept_of many c st).place ≡ length st
    tallied : (moments_kept_of many c st).tally ≡ tally (acts_in st)
    capacity : (moments_kept_of many c st).capacity ≡ c
    long : length (moments_kept_of many c st).each ≡ many
    each : (w : ℕ) → w < many → in_story (moment_in (moments_kept_of many c st).each w) ≡ moment_of c ed w st
    names : Names st

  module _ (st : Story) (o : Sound st) (early : length st + 1 < wide) where
    abbrev ms : Moments
    ms = moments_kept_of many c st

    longer : (x : Element) → length (st ++ x ∷ []) ≡ length st + 1
    longer x = length-append st (x ∷ []) ∙ omega arith

    place_on : one_more_act ms.place ≡ length st + 1
    unfolding one_more_act
    place_on = rw o.place (mod-eq_of_lt early)

    -- ---- a call begun

    sound_begun : (w : ℕ) (cl : Call) → Sound (st ++ Begun w cl ∷ [])
    unfolding begun_of
    sound_begun w cl =
        let now = kept_end _ st (Begun w cl) in
        record {
          place = ap (λ (z : Moments). z.place) now ∙ place_on ∙ sym (longer (Begun w cl));
          tallied = ap (λ (z : Moments). z.tally) now ∙ o.tallied ∙ ap tally (sym (acts_end st (Begun w cl) ∙ append_none (acts_in st)));
          capacity = ap (λ (z : Moments). z.capacity) now ∙ o.capacity;
          long = ap (λ (z : Moments). length z.each) now ∙ o.long;
          each = λ j few. ap (λ (z : Moments). in_story (moment_in z.each j)) now ∙ o.each j few ∙ sym (moment_begun c ed st w cl j);
          names = λ earlier later e q few. go earlier later e few (split_end st (Begun w cl) earlier (Does e) later q);
        }
      where
        append_none : (l : List Event) → l ++ [] ≡ l
        append_none [] = refl
        append_none (x ∷ l) = ap (λ (z : List Event). x ∷ z) (append_none l)

        go : (earlier later : Story) (e : Event) → e.worker < many → Last st (Begun w cl) earlier (Does e) later ⊎ Earlier st (Begun w cl) earlier (Does e) later
            → in_story (moment_named_of many c earlier e) ≡ moment_of c ed e.worker (earlier ++ Does e ∷ [])
        go earlier later e few (inr p) = o.names earlier p.left e p.was few
        go earlier later e few (inl p) = absurd (let y = p.one in let q : ◌≡◌ {A = ℕ} 0 1 = cc in omega arith)

    -- ---- an act, the plain queue being as long as the claims that wait

    module _ (e : Event) (waits : untaken_of (tally (acts_in st)) ≡ length (known c ed st).queue.items) (room : (known c ed st).queue.capacity ≡ c) where
      abbrev st' : Story
      st' = st ++ Does e ∷ []

      abbrev heard_on : List OfWorker
      heard_on = heard_by_all (moved_of e.after) ms.place ms.each

      count_is : ms.place ≡ (known c ed st).count
      count_is = o.place ∙ sym (known_count actor (change_of ed) c st)

      heard_long : length heard_on ≡ many
      unfolding heard_by_all
      heard_long = length-map ms.each _ ∙ o.long

      tally_on : tallied_of ms.tally e.before e.after ≡ tally (acts_in st')
      tally_on =
          let few = tally_few (acts_in st) untallied in
          ap (λ (t : Tally). tallied_of t e.before e.after) o.tallied
          ∙ tally_counts (tally (acts_in st)) (moved_of e.after) (reads_at e.before) (omega (arith, few.0, acts_few st, early)) (omega (arith, few.1, acts_few st, early))
          (omega (arith, few.2, acts_few st, early))
          ∙ sym (tally_end (acts_in st) e untallied) ∙ ap tally (sym (acts_end st (Does e)))

      own : e.worker < many → in_story (own_of ms e.worker e.before e.after) ≡ moment_of c ed e.worker st'
      own few =
          timed_same (timing_of e.before e.after) (known c ed st) ms.place (untaken_of ms.tally) ms.capacity (moment_in ms.each e.worker) (moment_of c ed e.worker st) count_is
          (ap untaken_of o.tallied ∙ waits) (o.capacity ∙ sym room) (o.each e.worker few)
          ∙ sym (moment_own c ed st e)

      other : (j : ℕ) → j < many → j ≢ e.worker → in_story (moment_in heard_on j) ≡ moment_of c ed j st'
      unfolding heard_by_all
      other j few far =
          ap (λ (x : OfWorker). in_story x.moment) (get_or-map (λ (x : OfWorker). of_worker (heard_of (moved_of e.after) ms.place x.moment)) ms.each j (of_worker (moments.Before 0)))
          ∙ heard_same ed e ms.place ((known c ed st).count + 1) (moment_in ms.each j) (moment_of c ed j st) (ap (λ (k : ℕ). k + 1) count_is) (o.each j few)
          ∙ sym (moment_else c ed st e j far)

      each_on : (j : ℕ) → j < many → in_story (moment_in (set heard_on e.worker (of_worker (own_of ms e.worker e.before e.after))) j) ≡ moment_of c ed j st'
      each_on j few = go (ℕ_discrete j e.worker)
        where
          go : Dec (j ≡ e.worker) → in_story (moment_in (set heard_on e.worker (of_worker (own_of ms e.worker e.before e.after))) j) ≡ moment_of c ed j st'
          go (yes q) =
              rw q (ap (λ (x : OfWorker). in_story x.moment) (get_or-set_same heard_on e.worker (of_worker (own_of ms e.worker e.before e.after))
              (of_worker (moments.Before 0)) (omega (arith, heard_long, few)))
              ∙ own (omega (arith, few)))
          go (no far) =
              ap (λ (x : OfWorker). in_story x.moment) (get_or-set_other heard_on e.worker j (of_worker (own_of ms e.worker e.before e.after))
              (of_worker (moments.Before 0)) far) ∙ other j few far

      names_on : Names st'
      unfolding named_of
      names_on earlier later act q few = go (split_end st (Does e) earlier (Does act) later q)
        where
          go : Last st (Does e) earlier (Does act) later ⊎ Earlier st (Does e) earlier (Does act) later
              → in_story (moment_named_of many c earlier act) ≡ moment_of c ed act.worker (earlier ++ Does act ∷ [])
          go (inr p) = o.names earlier p.left act p.was few
          go (inl p) =
              let one : act ≡ e = let y = p.one in cc in
              rw (p.whole, one) (own (subst (λ (z : Event). z.worker < many) one few))

      sound_act : Sound st'
      unfolding named_of
      sound_act =
          let now = kept_end _ st (Does e) in
          record {
            place = ap (λ (z : Moments). z.place) now ∙ place_on ∙ sym (longer (Does e));
            tallied = ap (λ (z : Moments). z.tally) now ∙ tally_on;
            capacity = ap (λ (z : Moments). z.capacity) now ∙ o.capacity;
            long = ap (λ (z : Moments). length z.each) now ∙ length-set heard_on e.worker _ ∙ heard_long;
            each = λ j few. ap (λ (z : Moments). in_story (moment_in z.each j)) now ∙ each_on j few;
            names = names_on;
          }

  sound_none : Sound []
  unfolding moments_from moment_from acts_in tally_of
  sound_none =
      record {
        place = refl;
        tallied = refl;
        capacity = refl;
        long = length-replicate many (of_worker (moments.Before 0));
        each = λ w few. ap (λ (x : OfWorker). in_story x.moment) (all_alike many w (of_worker (moments.Before 0)));
        names = λ earlier later act q few. absurd (nil_split earlier (Does act) later q);
      }

-- ---- along every schedule

module _ (many : ℕ) (bits : Width) (records c workers ed : ℕ) (a : AllowedWith records c workers ed) where
  sound_kept : (m : Machine) (st : Story) (en : Entry) (after_it : Machine) (acts : List Event) → Tells bits records c workers ed a m st
      → (length st < wide → Sound many c ed st) → Turned bits m en after_it acts
      → length (st ++ (begun_in en ++ map Does acts)) < wide → Sound many c ed (st ++ (begun_in en ++ map Does acts))
  sound_kept m st en after_it acts o s (began w cl l idle) few =
      let early : length st + 1 < wide = omega (arith, few, length-append st (Begun w cl ∷ [])) in
      sound_begun many c ed st (s (omega arith)) early w cl
  sound_kept m st en after_it acts o s (did w lose l busy early_act) few =
      let early : length st + 1 < wide = omega (arith, few, length-append st (map Does acts)) in
      sound_act many c ed st (s (omega arith)) early _
      (subst (λ (h : List Event). untaken_of (tally h) ≡ length (known c ed st).queue.items) (sym o.acts)
      (untaken_is bits c _ workers (base_of bits records c workers ed a) m o.h o.reached ∙ omega (arith, o.shelf.long)))
      o.shelf.room

  sound_entry : (m : Machine) (st : Story) (i j : ℕ) → Tells bits records c workers ed a m st → (length st < wide → Sound many c ed st) → (turn_at bits m i j).refusal ≡ 0
      → length (st ++ elements_by (events_of bits) m (entry_of i j) (turn_at bits m i j).machine) < wide → Sound many c ed (st ++ elements_by (events_of bits) m (entry_of i j) (turn_at bits m i j).machine)
  unfolding turn_of_by
  sound_entry m st i j o s e = sound_kept m st (entry_of i j) _ _ o s (turned bits m (entry_of i j) e)

pub moments_of : (many : ℕ) (bits : Width) (records c workers ed : ℕ) → AllowedWith records c workers ed → (s : List ℕ)
    → KeepsWidestWindow (with_records records bits) (fresh_with records c workers ed) [] s
    → NamesMomentsOf many (moment_named_of many) c ed (story_of (with_records records bits) c workers ed s)
moments_of many bits records c workers ed a s keeps few =
    ((told_with bits records c workers ed a (λ (m : Machine) (st : Story). length st < wide → Sound many c ed st) (sound_entry many bits records c workers ed a)
    (λ h. sound_none many c ed) s keeps).1 few).names

pub moments_in_window : (bits : Width) (records : ℕ) → MomentsKeptInWindow (with_records records bits)
moments_in_window bits records c workers ed a s keeps = moments_of workers_most bits records c workers ed a s (widens (with_records records bits) (fresh_with records c workers ed) [] s keeps)

-- of 64 bits every schedule
pub moments_kept : (records : ℕ) → MomentsKept (with_records records SixtyFour)
moments_kept records c workers ed a s = moments_of workers_most SixtyFour records c workers ed a s (always records c workers ed a s)

-- and for as many workers as are lent
pub moments_kept_of_lem : (many records : ℕ) → MomentsKeptOf many (with_records records SixtyFour)
moments_kept_of_lem many records c workers ed a s = moments_of many SixtyFour records c workers ed a s (always records c workers ed a s)
