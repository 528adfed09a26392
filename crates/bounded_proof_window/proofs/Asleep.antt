-- The window is needed: the push and the pop that sleep too long (Notions.antt). The ring has one slot and two workers; the second sleeps.
use mathlib.Core.Path.{◌≡◌, refl, sym, ap, ◌∙◌, subst}
use mathlib.Core.Bool.{Bool, false, cond, true≢false}
use mathlib.Core.List.{List, [], ◌∷◌, ◌++◌, append_assoc, append-nil}
use Prim.Native.Nat.{ℕ, zero, suc, ◌+◌, ◌*◌, ◌%◌, ◌≤◌, ◌<◌}
use native.Mathlib.Omega.{arith}
use lib.Dec.{eqb}
use lib.ListN.{length, length-append, get_or, drop, replicate}
use Rattle.queue_entries.specs.Limits.{meter_most}
use Rattle.queue_entries.specs.Schedules.{run_by, history_by}
use Rattle.queue_entries.specs.declared.Order.TheVariants.{Begin, Act}
use Rattle.queue_entries.specs.declared.Entry.{Entry}
use Rattle.queue_entries.specs.declared.Entry.TheVariants.{Unreadable, Asks}
use Rattle.queue_entries.specs.Entries.{stray_of, order_of, entry_of}
use Rattle.bounded_words.specs.declared.Stamp.{Stamp}
use Rattle.bounded_words.specs.declared.Fixed.{Fixed}
use Rattle.bounded_words.specs.declared.Width.{Width}
use Rattle.bounded_words.specs.declared.Width.TheVariants.{Sixteen}
use Rattle.bounded_words.specs.Words.{stamp, doubled, mark_of, marked_of, unmarked_of, plus, with_mark, next_of, same, one_past, lap_behind, lap_behind_one_past}
use Rattle.bounded_places.specs.declared.Slot.{Slot}
use Rattle.bounded_places.specs.declared.Kind.TheVariants.{Push}
use Rattle.bounded_places.specs.declared.Answer.{Answer}
use Rattle.bounded_places.specs.declared.Answer.TheVariants as answer
use Rattle.bounded_places.specs.declared.Answer.TheVariants.{Pushed, Full, Popped, PopClosed, Yes}
use Rattle.bounded_places.specs.declared.Loss.TheVariants.{Nothing}
use Rattle.bounded_places.specs.declared.Place.{Place}
use Rattle.bounded_places.specs.declared.Place.TheVariants.{Idle, P1, P2, P3, P4, P5, P6, O1, O2, O3, O4, O5, O6, Close1}
use Rattle.bounded_places.specs.declared.Worker.{Worker}
use Rattle.bounded_acts.specs.Acts.{goes, losing, exchange_of, after_tail, tail_to, head_to, stamp_to, value_to}
use Rattle.bounded_machine.specs.declared.Machine.{Machine}
use Rattle.bounded_machine.specs.declared.Event.{Event}
use Rattle.bounded_machine.specs.declared.Tally.{Tally}
use Rattle.bounded_machine.specs.Machine.{slot, empty_slots, stamped, fresh_slots, idler, idlers, machine_of, fresh_with, fresh_of, place_of, accepted, fixed_on}
use Rattle.bounded_machine.specs.Turn.{beginner, record_after, begun, stored, acted, acted_by, turn_at, turn_of_by}
use Rattle.bounded_machine.specs.Run.{ran, run_at}
use Rattle.bounded_machine.specs.History.{event, events_of, history_at, untallied, tally_of}
use Rattle.bounded_machine.proofs.Kept.{either}
use Rattle.bounded_demands.specs.Notions.{of_width, Allowed, machine_after, acts_of, acts, tally, holding_at, holds, is_new, gives_to, since_from, since, turn_length}
use Rattle.bounded_demands.specs.Notions.{window_length, KeepsWindow, KeepsPrompt, rounds, sleeping_push, sleeping_pop}
use Rattle.bounded_demands.specs.Demands.{AnswersTrue, NoneAfterClosed, NotIdle}
use Rattle.bounded_proof_invariant.proofs.Width.{word}
use Rattle.bounded_proof_each_act.proofs.Stamps.{Ground, fixed}
use Rattle.bounded_proof_demand2.proofs.Window.{heads, since_few}
use Rattle.bounded_proof_demand2.proofs.Demand2.{same_fixed}
use Rattle.bounded_proof_window.proofs.Paths.{tally_both, Goes, on, ending, Step, Follows, words_of, last_of, done_by, follows}
use Rattle.bounded_proof_window.proofs.Pushing.{Own}
use Rattle.bounded_proof_window.proofs.Rounds.{at, both, Awaiting, Rounds, goes_round}

pub ground : Ground Sixteen 1 2 16384
ground = record { laws = record { some = omega arith; room = omega arith; laps = omega arith }; whole = refl }

pub two : 0 < 2
two = omega arith

abbrev pub to : ℕ → ℕ → Machine → Step Sixteen
to first second next = record { first = first; second = second; next = next }

abbrev pub empties : List Slot
empties = replicate 1023 (slot 0 0)

-- Head, tail, the slot's stamp and value, where the two workers stand, and the meter.
abbrev pub stand : ℕ → List Slot → ℕ → ℕ → ℕ → ℕ → Place → Place → ℕ → Machine
stand edition slots h t s v p q meter =
    machine_of (fixed 1 2 edition) (record { head = stamp h; tail = stamp t }) (slot s v ∷ slots) (beginner p ∷ beginner q ∷ replicate 14 idler) 2 meter

abbrev pub fresh : ℕ → Machine
fresh edition = stand edition empties 0 0 0 0 (Idle answer.Nothing) (Idle answer.Nothing) 0

pub fresh_is : (edition : ℕ) → fresh_of 1 2 edition ≡ fresh edition
unfolding doubled mark_of empty_slots stamped fresh_slots idlers fresh_with
fresh_is edition = refl

-- ---- while the second sleeps at q
module _ (edition : ℕ) (q : Place) where
  abbrev pub others : List Worker
  others = beginner q ∷ replicate 14 idler

  abbrev pub ring_at : ℕ → List Slot → Answer → ℕ → Machine
  ring_at k slots a meter = at Sixteen 1 2 16384 edition ground others 2 two (both Sixteen 1 2 16384 edition ground others 2 two k) slots (Idle a) meter

  awaits : (k v : ℕ) → Awaiting Sixteen 1 2 16384 edition ground others 2 two k (slot (word 1 2 16384 k) v ∷ empties)
  awaits k v =
      record {
        long = omega arith;
        stamps =
            λ j low high.
            let here : j % 1 ≡ 0 = omega arith in
            let e : k ≡ j = omega arith in
            ap (λ (x : ℕ). (get_or (slot (word 1 2 16384 k) v ∷ empties) x (slot 0 0)).stamp) here ∙ ap (λ (x : ℕ). stamp (word 1 2 16384 x)) e;
      }

  sleeps : (k v : ℕ) (a : Answer) (meter : ℕ) → meter + 10 * 16383 ≤ meter_most → (rest : List ℕ)
      → Rounds Sixteen 1 2 16384 edition ground others 2 two (ring_at k (slot (word 1 2 16384 k) v ∷ empties) a meter) 16383 (k + 16383) (meter + 10 * 16383) rest
  sleeps k v a meter early = goes_round Sixteen 1 2 16384 edition ground others 2 two 16383 k (slot (word 1 2 16384 k) v ∷ empties) a meter (awaits k v) early

-- ---- the push that sleeps at P6

abbrev pub pushing : List (Step Sixteen)
pushing =
    to 0 7 (stand 1 empties 0 0 0 0 (P1 Push 7) (Idle answer.Nothing) 0)
    ∷ to 8 0 (stand 1 empties 0 0 0 0 (P2 Push (stamp 0) 7) (Idle answer.Nothing) 1)
    ∷ to 8 0 (stand 1 empties 0 0 0 0 (P3 Push (stamp 0) 7) (Idle answer.Nothing) 2)
    ∷ to 8 0 (stand 1 empties 0 4 0 0 (P4 (stamp 0) 7) (Idle answer.Nothing) 3)
    ∷ to 8 0 (stand 1 empties 0 4 0 7 (P5 (stamp 0)) (Idle answer.Nothing) 4)
    ∷ to 8 0 (stand 1 empties 0 4 1 7 (Idle Pushed) (Idle answer.Nothing) 5)
    ∷ to 2 0 (stand 1 empties 0 4 1 7 O1 (Idle answer.Nothing) 5)
    ∷ to 8 0 (stand 1 empties 0 4 1 7 (O2 (stamp 0)) (Idle answer.Nothing) 6)
    ∷ to 8 0 (stand 1 empties 0 4 1 7 (O3 (stamp 0)) (Idle answer.Nothing) 7)
    ∷ to 8 0 (stand 1 empties 4 4 1 7 (O4 (stamp 0)) (Idle answer.Nothing) 8)
    ∷ to 16 9 (stand 1 empties 4 4 1 7 (O4 (stamp 0)) (P1 Push 9) 8)
    ∷ to 24 0 (stand 1 empties 4 4 1 7 (O4 (stamp 0)) (P2 Push (stamp 4) 9) 9)
    ∷ to 24 0 (stand 1 empties 4 4 1 7 (O4 (stamp 0)) (P6 (stamp 4) 9) 10)
    ∷ to 8 0 (stand 1 empties 4 4 1 7 (O5 (stamp 0) 7) (P6 (stamp 4) 9) 11)
    ∷ to 8 0 (stand 1 empties 4 4 4 7 (Idle (Popped 7)) (P6 (stamp 4) 9) 12) ∷ []

pub pushes : Follows Sixteen (fresh 1) pushing
unfolding marked_of unmarked_of plus with_mark next_of same one_past lap_behind lap_behind_one_past stray_of order_of entry_of goes losing exchange_of after_tail tail_to
    head_to stamp_to value_to accepted record_after begun stored acted_by turn_of_by
pushes = (refl, (refl, (refl, (refl, (refl, (refl, (refl, (refl, (refl, (refl, (refl, (refl, (refl, (refl, (refl, tt)))))))))))))))

pub pushed_on : Rounds Sixteen 1 2 16384 1 ground (others 1 (P6 (stamp 4) 9)) 2 two (ring_at 1 (P6 (stamp 4) 9) 1 (slot (word 1 2 16384 1) 7 ∷ empties) (Popped 7) 12) 16383 16384 163842 []
pushed_on = sleeps 1 (P6 (stamp 4) 9) 1 7 (Popped 7) 12 (omega arith) []

pushed : Goes Sixteen (fresh 1) (words_of Sixteen pushing (rounds 16383 ++ [])) (ring_at 1 (P6 (stamp 4) 9) 16384 pushed_on.slots pushed_on.answer 163842) []
    (done_by Sixteen (fresh 1) pushing ++ pushed_on.done)
unfolding word
pushed = on Sixteen (follows Sixteen pushing (fresh 1) pushes (rounds 16383 ++ [])) pushed_on.goes_on

push_words : sleeping_push ≡ words_of Sixteen pushing (rounds 16383 ++ [])
unfolding sleeping_push acts
push_words = ap (words_of Sixteen pushing) (sym (append-nil (rounds 16383)))

woken : machine_after (of_width Sixteen) 1 2 1 sleeping_push ≡ ring_at 1 (P6 (stamp 4) 9) 16384 pushed_on.slots pushed_on.answer 163842
unfolding run_by ran
woken =
    ap (λ (m : Machine). (run_at Sixteen m 0 sleeping_push).machine) (fresh_is 1) ∙ ap (λ (s : List ℕ). (run_at Sixteen (fresh 1) 0 s).machine) push_words ∙ pushed.run

pub push_acts : acts_of (of_width Sixteen) 1 2 1 sleeping_push ≡ done_by Sixteen (fresh 1) pushing ++ pushed_on.done
unfolding history_by
push_acts =
    ap (λ (m : Machine). history_at Sixteen m sleeping_push) (fresh_is 1) ∙ ap (history_at Sixteen (fresh 1)) push_words ∙ pushed.history
    ∙ append-nil (done_by Sixteen (fresh 1) pushing ++ pushed_on.done)

-- its acts since the load of its word
abbrev late : List Event
late = event 1 (P2 Push (stamp 4) 9) (P6 (stamp 4) 9) Nothing ∷ event 0 (O4 (stamp 0)) (O5 (stamp 0) 7) Nothing ∷ event 0 (O5 (stamp 0) 7) (Idle (Popped 7)) Nothing ∷ []

since_load : (h : List Event) → since_from 1 [] (done_by Sixteen (fresh 1) pushing ++ h) ≡ since_from 1 late h
unfolding marked_of unmarked_of plus with_mark next_of same one_past lap_behind lap_behind_one_past stray_of order_of entry_of goes losing exchange_of after_tail tail_to
    head_to stamp_to value_to accepted record_after begun stored acted_by turn_of_by since_from
since_load h = refl

-- another's acts give it no word
own_since : (h l : List Event) → Own h → since_from 1 l h ≡ l ++ h
unfolding since_from
own_since [] l o = sym (append-nil l)
own_since (e ∷ h) l o =
    let none : gives_to 1 e ≡ false = ap (λ (x : ℕ). cond (eqb x 1) (is_new (holding_at e.after)) false) o.0 in
    ap (λ (b : Bool). since_from 1 (cond b [] (l ++ e ∷ [])) h) none ∙ own_since h (l ++ e ∷ []) o.1 ∙ append_assoc l (e ∷ []) h

claimed : tally (since 1 (acts_of (of_width Sixteen) 1 2 1 sleeping_push)) ≡ tally_of pushed_on.done (tally late)
claimed =
    ap (λ (h : List Event). tally (since 1 h)) push_acts ∙ ap tally (since_load pushed_on.done ∙ own_since pushed_on.done late pushed_on.own)
    ∙ tally_both late pushed_on.done untallied

untrue_at : (slots : List Slot) (a : Answer) → AnswersTrue (of_width Sixteen) (ring_at 1 (P6 (stamp 4) 9) 16384 slots a 163842) → ⊥
unfolding word marked_of unmarked_of plus same lap_behind stray_of order_of entry_of goes losing accepted record_after stored acted_by turn_of_by
untrue_at slots a o =
    true≢false
    (sym (o 1 (acted Sixteen (ring_at 1 (P6 (stamp 4) 9) 16384 slots a 163842) 1 (P6 (stamp 4) 9) false) (Full 9) (record { first = 24; second = 0; lose = false; asks = refl; done = refl }) refl))

-- ---- the pop that sleeps at O6, in edition 2

abbrev popping : List (Step Sixteen)
popping =
    to 18 0 (stand 2 empties 0 0 0 0 (Idle answer.Nothing) O1 0)
    ∷ to 24 0 (stand 2 empties 0 0 0 0 (Idle answer.Nothing) (O2 (stamp 0)) 1)
    ∷ to 24 0 (stand 2 empties 0 0 0 0 (Idle answer.Nothing) (O6 (stamp 0)) 2) ∷ []

pops : Follows Sixteen (fresh 2) popping
unfolding marked_of unmarked_of plus with_mark next_of same one_past lap_behind lap_behind_one_past stray_of order_of entry_of goes losing exchange_of after_tail tail_to
    head_to stamp_to value_to accepted record_after begun stored acted_by turn_of_by
pops = (refl, (refl, (refl, tt)))

-- the slot's value, the other slots and the first worker's last answer when it wakes
module _ (v : ℕ) (slots : List Slot) (a : Answer) where
  abbrev waking : Machine
  waking = stand 2 slots 65532 65532 65532 v (Idle a) (O6 (stamp 0)) 163832

  abbrev closing : List (Step Sixteen)
  closing =
      to 0 7 (stand 2 slots 65532 65532 65532 v (P1 Push 7) (O6 (stamp 0)) 163832)
      ∷ to 8 0 (stand 2 slots 65532 65532 65532 v (P2 Push (stamp 65532) 7) (O6 (stamp 0)) 163833)
      ∷ to 8 0 (stand 2 slots 65532 65532 65532 v (P3 Push (stamp 65532) 7) (O6 (stamp 0)) 163834)
      ∷ to 8 0 (stand 2 slots 65532 0 65532 v (P4 (stamp 65532) 7) (O6 (stamp 0)) 163835)
      ∷ to 8 0 (stand 2 slots 65532 0 65532 7 (P5 (stamp 65532)) (O6 (stamp 0)) 163836)
      ∷ to 8 0 (stand 2 slots 65532 0 65533 7 (Idle Pushed) (O6 (stamp 0)) 163837)
      ∷ to 6 0 (stand 2 slots 65532 0 65533 7 Close1 (O6 (stamp 0)) 163837)
      ∷ to 8 0 (stand 2 slots 65532 2 65533 7 (Idle Yes) (O6 (stamp 0)) 163838) ∷ []

  closes : Follows Sixteen waking closing
  unfolding marked_of unmarked_of plus with_mark next_of same one_past lap_behind lap_behind_one_past stray_of order_of entry_of goes losing exchange_of after_tail tail_to
      head_to stamp_to value_to accepted record_after begun stored acted_by turn_of_by
  closes = (refl, (refl, (refl, (refl, (refl, (refl, (refl, (refl, tt))))))))

  abbrev answering : List (Step Sixteen)
  answering =
      to 24 0 (stand 2 slots 65532 2 65533 7 (Idle Yes) (Idle PopClosed) 163839)
      ∷ to 2 0 (stand 2 slots 65532 2 65533 7 O1 (Idle PopClosed) 163839)
      ∷ to 8 0 (stand 2 slots 65532 2 65533 7 (O2 (stamp 65532)) (Idle PopClosed) 163840)
      ∷ to 8 0 (stand 2 slots 65532 2 65533 7 (O3 (stamp 65532)) (Idle PopClosed) 163841)
      ∷ to 8 0 (stand 2 slots 0 2 65533 7 (O4 (stamp 65532)) (Idle PopClosed) 163842) ∷ []

  answers : Follows Sixteen (last_of Sixteen waking closing) answering
  unfolding marked_of unmarked_of plus with_mark next_of same one_past lap_behind lap_behind_one_past stray_of order_of entry_of goes losing exchange_of after_tail tail_to
      head_to stamp_to value_to accepted record_after begun stored acted_by turn_of_by
  answers = (refl, (refl, (refl, (refl, (refl, tt)))))

  -- from its waking
  wakes : Goes Sixteen waking (words_of Sixteen closing (words_of Sixteen answering [])) (last_of Sixteen (last_of Sixteen waking closing) answering) []
      (done_by Sixteen waking closing ++ done_by Sixteen (last_of Sixteen waking closing) answering)
  wakes = on Sixteen (follows Sixteen closing waking closes (words_of Sixteen answering [])) (follows Sixteen answering (last_of Sixteen waking closing) answers [])

  -- Closed is followed by a claim
  claims_yet : (earlier : List Event) → NoneAfterClosed (earlier ++ done_by Sixteen (last_of Sixteen waking closing) answering) → ⊥
  unfolding stray_of order_of entry_of
  claims_yet earlier none = let c = none earlier _ _ refl refl in absurd (omega (arith, ap heads c.1.1.0))

abbrev end : List ℕ
end = 0 ∷ 7 ∷ acts 0 5 ++ 6 ∷ 0 ∷ acts 0 1 ++ acts 1 1 ++ 2 ∷ 0 ∷ acts 0 3

popped_on : Rounds Sixteen 1 2 16384 2 ground (others 2 (O6 (stamp 0))) 2 two (ring_at 2 (O6 (stamp 0)) 0 (slot (word 1 2 16384 0) 0 ∷ empties) answer.Nothing 2) 16383 16383 163832 end
popped_on = sleeps 2 (O6 (stamp 0)) 0 0 answer.Nothing 2 (omega arith) end

abbrev value : ℕ
value = (get_or popped_on.slots 0 (slot 0 0)).value

abbrev rest_slots : List Slot
rest_slots = drop 1 popped_on.slots

first_is : (l : List Slot) (s : ℕ) → 1 ≤ length l → (get_or l 0 (slot 0 0)).stamp ≡ stamp s → l ≡ slot s (get_or l 0 (slot 0 0)).value ∷ drop 1 l
first_is [] s some e = absurd (omega arith)
first_is (x ∷ l) s some e = ap (λ (z : Stamp). record { stamp = z; value = x.value } ∷ l) e

waking_is : ring_at 2 (O6 (stamp 0)) 16383 popped_on.slots popped_on.answer 163832 ≡ waking value rest_slots popped_on.answer
unfolding word
waking_is =
    ap (λ (l : List Slot). ring_at 2 (O6 (stamp 0)) 16383 l popped_on.answer 163832)
    (first_is popped_on.slots 65532 popped_on.awaiting.long (popped_on.awaiting.stamps 16383 (omega arith) (omega arith)))

asleep : Goes Sixteen (fresh 2) (words_of Sixteen popping (rounds 16383 ++ end)) (waking value rest_slots popped_on.answer) end (done_by Sixteen (fresh 2) popping ++ popped_on.done)
unfolding word
asleep =
    ending Sixteen waking_is (on Sixteen (follows Sixteen popping (fresh 2) pops (rounds 16383 ++ end)) popped_on.goes_on)

abbrev earlier : List Event
earlier = (done_by Sixteen (fresh 2) popping ++ popped_on.done) ++ done_by Sixteen (waking value rest_slots popped_on.answer) (closing value rest_slots popped_on.answer)

abbrev last : List Event
last =
    done_by Sixteen (last_of Sixteen (waking value rest_slots popped_on.answer) (closing value rest_slots popped_on.answer)) (answering value rest_slots popped_on.answer)

pop_words : sleeping_pop ≡ words_of Sixteen popping (rounds 16383 ++ end)
unfolding sleeping_pop acts
pop_words = refl

pop_acts : acts_of (of_width Sixteen) 1 2 2 sleeping_pop ≡ earlier ++ last
unfolding acts history_by
pop_acts =
    ap (λ (m : Machine). history_at Sixteen m sleeping_pop) (fresh_is 2) ∙ ap (history_at Sixteen (fresh 2)) pop_words
    ∙ (on Sixteen asleep (wakes value rest_slots popped_on.answer)).history ∙ append-nil _
    ∙ sym (append_assoc (done_by Sixteen (fresh 2) popping ++ popped_on.done) (done_by Sixteen (waking value rest_slots popped_on.answer) (closing value rest_slots popped_on.answer)) last)

-- ---- the push sleeps for fewer acts than there are words in its schedule

rounds_long : (n : ℕ) → length (rounds n) ≡ 24 * n
unfolding rounds acts
rounds_long zero = refl
rounds_long (suc n) = omega (arith, rounds_long n)

push_long : length sleeping_push ≡ 30 + 24 * 16383
unfolding sleeping_push acts
push_long = omega (arith, rounds_long 16383)

one_act : (m : Machine) (x : Entry) (next : Machine) → length (events_of Sixteen m x next) ≤ 1
one_act m Unreadable next = omega arith
one_act m (Asks w (Begin q)) next = omega arith
one_act m (Asks w (Act lose)) next = omega arith

acts_few : (s : List ℕ) (m : Machine) → length (history_at Sixteen m s) ≤ length s
unfolding history_by
acts_few [] m = omega arith
acts_few (first ∷ []) m = omega arith
acts_few (first ∷ second ∷ rest) m =
    let next = (turn_at Sixteen m first second).machine in
    let es = events_of Sixteen m (entry_of first second) next in
    either (λ (h : List Event). length h ≤ length (first ∷ second ∷ rest)) (eqb (turn_at Sixteen m first second).refusal 0) (es ++ history_at Sixteen next rest) []
    (λ e. omega (arith, acts_few rest next, one_act m (entry_of first second) next, length-append es (history_at Sixteen next rest))) (λ e. omega arith)

awhile : Width → Fixed → ℕ
awhile bits f = 25 * turn_length bits f

pub made_fixed : (s : List ℕ) → fixed_on (machine_after (of_width Sixteen) 1 2 1 s).ring ≡ fixed 1 2 1
made_fixed s = same_fixed Sixteen (fresh_of 1 2 1) s ∙ ap (λ (m : Machine). fixed_on m.ring) (fresh_is 1)

sleeps_on : KeepsPrompt awhile (of_width Sixteen) (fresh_of 1 2 1) [] sleeping_push
unfolding awhile
sleeps_on before after e w held =
    let h : List Event = acts_of (of_width Sixteen) 1 2 1 before in
    let whole : length sleeping_push ≡ length (before ++ after) = ap length e in
    subst (λ (f : Fixed). length (since w h) < 25 * turn_length Sixteen f) (sym (made_fixed before))
    (omega (arith, since_few w [] h, acts_few before (fresh_of 1 2 1), whole, length-append before after, push_long))

pub allowed : Allowed 1 2 1
allowed =
    record { slot_some = omega arith; slot_most = omega arith; worker_some = omega arith; worker_most = omega arith; edition_some = omega arith; edition_most = omega arith }

out_of_window : KeepsWindow (of_width Sixteen) (fresh_of 1 2 1) [] sleeping_push → (tally (since 1 (acts_of (of_width Sixteen) 1 2 1 sleeping_push))).tail.0 < 16382
out_of_window keeps =
    subst (λ (f : Fixed). (tally (since 1 (acts_of (of_width Sixteen) 1 2 1 sleeping_push))).tail.0 < window_length Sixteen f) (made_fixed sleeping_push)
    (keeps sleeping_push [] (sym (append-nil sleeping_push)) 1 (ap (λ (m : Machine). holds (holding_at (place_of m.workers 1))) woken)).0

slept : (tally (since 1 (acts_of (of_width Sixteen) 1 2 1 sleeping_push))).tail.0 ≡ 16383
unfolding tally_of
slept = ap (λ (t : Tally). t.tail.0) claimed ∙ pushed_on.tails (tally late)

pub not_idle : NotIdle
unfolding tally_of doubled mark_of awhile
not_idle =
    record {
      tails = slept;
      heads = ap (λ (t : Tally). t.head.0) claimed ∙ pushed_on.heads (tally late);
      untrue = λ o. untrue_at pushed_on.slots pushed_on.answer (subst (AnswersTrue (of_width Sixteen)) woken o);
      claimed_yet = λ none. claims_yet value rest_slots popped_on.answer earlier (subst NoneAfterClosed pop_acts none);
      too_late = λ keeps. absurd (omega (arith, slept, out_of_window (keeps 1 2 1 allowed sleeping_push sleeps_on)));
    }
