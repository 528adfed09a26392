-- A window of one claim more does not do, at any capacity: an is_full that sleeps between its two loads for a turn less one capacity, of a ring that is empty
-- at both, answers yes. Nobody's word is older
-- than that, since there were no more claims in all.
use mathlib.Core.Path.{◌≡◌, refl, sym, ap, ◌∙◌, subst}
use mathlib.Core.Bool.{Bool, true, false, cond, true≢false}
use mathlib.Core.List.{List, [], ◌∷◌, ◌++◌, append_assoc, append-nil}
use Prim.Native.Nat.{ℕ, ◌+◌, ◌*◌, ◌-◌, ◌%◌, ◌/◌, ◌≤◌, ◌<◌}
use native.Mathlib.Omega.{arith}
use native.Mathlib.Nat.{mod-eq_of_lt, div-eq_of_lt, add-mod_right, mul-le-mul_left}
use lib.Arith.{digits_div, digits_mod}
use lib.Dec.{eqb}
use lib.ListN.{length, length-append, get_or, replicate}
use borrow.Author.Tests.{ne_eqb}
use Rattle.queue_entries.specs.Limits.{workers_most}
use Rattle.queue_entries.specs.declared.Call.TheVariants as call
use Rattle.queue_entries.specs.declared.Order.TheVariants.{Begin}
use Rattle.queue_entries.specs.declared.Entry.TheVariants.{Asks}
use Rattle.queue_entries.specs.Schedules.{run_by, history_by}
use Rattle.queue_entries.specs.Entries.{stray_of, order_of, entry_of}
use Rattle.bounded_words.specs.declared.Stamp.{Stamp}
use Rattle.bounded_words.specs.declared.Fixed.{Fixed}
use Rattle.bounded_words.specs.declared.Width.{Width}
use Rattle.bounded_words.specs.declared.Width.TheVariants.{Sixteen}
use Rattle.bounded_words.specs.Words.{stamp, mark_of, fixed_of, unmarked_of, lap_behind}
use Rattle.bounded_places.specs.declared.Slot.{Slot}
use Rattle.bounded_places.specs.declared.Ends.{Ends}
use Rattle.bounded_places.specs.declared.Answer.{Answer}
use Rattle.bounded_places.specs.declared.Answer.TheVariants.{Nothing, Yes}
use Rattle.bounded_places.specs.declared.Place.TheVariants.{Idle, Full1, Full2}
use Rattle.bounded_places.specs.declared.Worker.{Worker}
use Rattle.bounded_places.specs.declared.Moved.{Moved}
use Rattle.bounded_places.specs.declared.Moved.TheVariants.{Neither, Tail, Head}
use Rattle.bounded_acts.specs.Acts.{goes, act_of}
use Rattle.bounded_machine.specs.declared.Machine.{Machine}
use Rattle.bounded_machine.specs.declared.Event.{Event}
use Rattle.bounded_machine.specs.declared.Tally.{Tally}
use Rattle.bounded_machine.specs.Machine.{slot, idler, idlers, fresh_slots, machine_of, fresh_with, fresh_of, fixed_on}
use Rattle.bounded_machine.specs.Turn.{beginner, turn_at}
use Rattle.bounded_machine.specs.Run.{ran, run_at}
use Rattle.bounded_machine.specs.History.{events_of, history_at, moved_of, untallied, tally_of}
use Rattle.bounded_demands.specs.Notions.{of_width, Allowed, machine_after, acts_of, acts, tail_by, head_by, tailers_of, takers_of, tally, gives_to, since_from, since, widest_length, KeepsWindowOf, rounds}
use Rattle.bounded_demands.specs.Demands.{FullTrue, NoWider, NoWiderAnywhere}
use Rattle.queue_schedules.proofs.Alone.{act_entry}
use Rattle.bounded_proof_invariant.proofs.Width.{word, Near, turn_long, word_first}
use Rattle.bounded_proof_each_act.proofs.Stamps as stamps
use Rattle.bounded_proof_each_act.proofs.Stamps.{Ground, fixed, W}
use Rattle.bounded_proof_demand2.proofs.Counts.{tally_tail, tally_head}
use Rattle.bounded_proof_demand2.proofs.Demand2.{same_fixed}
use Rattle.bounded_proof_demand2.proofs.Reached.{laps_of, base_of}
use Rattle.bounded_proof_demand2.proofs.Window.{tails, heads, tally_more, turn_is}
use Rattle.bounded_proof_window.proofs.Paths.{tally_both, Goes, on}
use Rattle.bounded_proof_window.proofs.Acting as acting
use Rattle.bounded_proof_window.proofs.Pushing.{same_self}
use Rattle.bounded_proof_window.proofs.Rounds.{at, both, Rounds, goes_round}
use Rattle.bounded_proof_window.proofs.Kept.{fresh_awaits}

-- whoever claims
whose : (x : Moved) (w : ℕ) → (length (tail_by x w) ≡ tails x) × (length (head_by x w) ≡ heads x)
whose Neither w = (refl, refl)
whose Tail w = (refl, refl)
whose Head w = (refl, refl)

-- since a word was given there were no more claims than in all
since_most : (w : ℕ) (acts h : List Event)
    → ((tally (since_from w acts h)).tail.0 ≤ (tally acts).tail.0 + length (tailers_of h)) × ((tally (since_from w acts h)).head.0 ≤ (tally acts).head.0 + length (takers_of h))
unfolding since_from tailers_of takers_of tally_of
since_most w acts [] = (omega arith, omega arith)
since_most w acts (e ∷ h) = go (gives_to w e) (λ l. since_most w l h)
  where
    x : Moved
    x = moved_of e.after

    go : (b : Bool) → ((l : List Event) → ((tally (since_from w l h)).tail.0 ≤ (tally l).tail.0 + length (tailers_of h)) × ((tally (since_from w l h)).head.0 ≤ (tally l).head.0 + length (takers_of h)))
        → ((tally (since_from w (cond b [] (acts ++ e ∷ [])) h)).tail.0 ≤ (tally acts).tail.0 + length (tailers_of (e ∷ h)))
        × ((tally (since_from w (cond b [] (acts ++ e ∷ [])) h)).head.0 ≤ (tally acts).head.0 + length (takers_of (e ∷ h)))
    go true rest =
        let q = rest [] in (
          omega (arith, q.0, length-append (tail_by x e.worker) (tailers_of h)),
          omega (arith, q.1, length-append (head_by x e.worker) (takers_of h)),
        )
    go false rest =
        let q = rest (acts ++ e ∷ []) in
        let m = tally_more acts e in
        let o = whose x e.worker in (
          omega (arith, q.0, m.0, o.0, length-append (tail_by x e.worker) (tailers_of h)),
          omega (arith, q.1, m.1, o.1, length-append (head_by x e.worker) (takers_of h)),
        )

-- the acts of a beginning are a beginning of the acts
begins_so : (before after : List ℕ) (m : Machine) → (more : List Event) × (history_at Sixteen m (before ++ after) ≡ history_at Sixteen m before ++ more)
unfolding history_by
begins_so [] after m = (history_at Sixteen m after, refl)
begins_so (first ∷ []) after m = (history_at Sixteen m (first ∷ after), refl)
begins_so (first ∷ second ∷ rest) after m = go (eqb (turn_at Sixteen m first second).refusal 0) (begins_so rest after next)
  where
    next : Machine
    next = (turn_at Sixteen m first second).machine

    es : List Event
    es = events_of Sixteen m (entry_of first second) next

    go : (b : Bool) → ((more : List Event) × (history_at Sixteen next (rest ++ after) ≡ history_at Sixteen next rest ++ more))
        → (more : List Event) × (cond b (es ++ history_at Sixteen next (rest ++ after)) [] ≡ cond b (es ++ history_at Sixteen next rest) [] ++ more)
    go true q = (q.0, ap (λ (l : List Event). es ++ l) q.1 ∙ sym (append_assoc es (history_at Sixteen next rest) q.0))
    go false q = ([], refl)

claims_both : (a b : List Event) → (length (tailers_of (a ++ b)) ≡ length (tailers_of a) + length (tailers_of b)) × (length (takers_of (a ++ b)) ≡ length (takers_of a) + length (takers_of b))
unfolding tailers_of takers_of
claims_both [] b = (omega arith, omega arith)
claims_both (e ∷ a) b =
    let x = moved_of e.after in
    let q = claims_both a b in (
      omega (arith, q.0, length-append (tail_by x e.worker) (tailers_of (a ++ b)), length-append (tail_by x e.worker) (tailers_of a)),
      omega (arith, q.1, length-append (head_by x e.worker) (takers_of (a ++ b)), length-append (head_by x e.worker) (takers_of a)),
    )

-- ---- after a turn the first word comes again
module _ (c mark n : ℕ) (some : 0 < c) (turns : 0 < n) where
  comes_again : word c mark n (n * c) ≡ word c mark n 0
  unfolding word
  comes_again =
      let e : n * c ≡ n * c + 0 = omega arith in
      let laps_all : n * c / c ≡ n = ap (λ (x : ℕ). x / c) e ∙ digits_div n some in
      let index_none : n * c % c ≡ 0 = ap (λ (x : ℕ). x % c) e ∙ digits_mod n some in
      let once : n ≡ 0 + n = omega arith in
      let round : n % n ≡ 0 = ap (λ (x : ℕ). x % n) once ∙ add-mod_right 0 n ∙ mod-eq_of_lt turns in
      rw (laps_all, index_none, round, div-eq_of_lt some, mod-eq_of_lt some, mod-eq_of_lt turns)

full_entry : entry_of 21 0 ≡ Asks 1 (Begin call.IsFull)
unfolding stray_of order_of entry_of
full_entry = refl

abbrev wider : Width → Fixed → ℕ
wider bits f = widest_length bits f + 1

-- Worker 1's is_full loads tail of the fresh ring; then worker 0 pushes and pops, a turn less one capacity of times.
module _ (c workers ed : ℕ) (a : Allowed c workers ed) (two : 1 < workers) where
  abbrev mark : ℕ
  mark = mark_of c

  abbrev n : ℕ
  n = laps_of Sixteen c

  g : Ground Sixteen c mark n
  g = (base_of Sixteen workers_most c workers ed a).ground

  abbrev f : Fixed
  f = fixed c mark ed

  abbrev r : ℕ
  r = n * c - c

  turn : 3 * c ≤ n * c
  turn = turn_long c mark n g.laws

  -- a turn has no more claims than there are words
  few_rounds : n * c ≤ 65536
  few_rounds =
      let room : c ≤ 2 * mark = omega (arith, g.laws.room) in
      omega (arith, mul-le-mul_left n room, g.whole)

  abbrev t : Stamp
  t = W c mark n 0

  abbrev others : List Worker
  others = beginner (Full2 t) ∷ replicate 14 idler

  abbrev seats : Answer → List Worker
  seats x = beginner (Idle x) ∷ idler ∷ replicate 14 idler

  some : 0 < workers
  some = omega arith

  seated : (x : Answer) → 1 < length (seats x)
  seated x = omega arith

  abbrev ends : ℕ → Ends
  ends = both Sixteen c mark n ed g others workers some

  -- where worker 1 stands, worker 0 being idle
  abbrev standing : Answer → ℕ → List Slot → ℕ → Machine
  standing x k slots meter = at Sixteen c mark n ed g others workers some (ends k) slots (Idle x) meter

  abbrev first : Machine
  first = machine_of f (ends 0) (fresh_slots c) (seats Nothing) workers 0

  fresh_is : fresh_of c workers ed ≡ first
  unfolding fresh_with idlers
  fresh_is =
      ap (λ (x : ℕ). machine_of (fixed_of c ed) (record { head = stamp x; tail = stamp x }) (fresh_slots c) (idlers workers_most) workers 0) (sym (word_first c mark n g.laws 0 a.slot_some))

  abbrev looked : List Event
  looked = acting.moves Sixteen f workers 1 two (seats Nothing) (seated Nothing) (ends 0) (fresh_slots c) Full1 (Full2 t) 0

  looks : (rest : List ℕ) → Goes Sixteen first (21 ∷ 0 ∷ 24 ∷ 0 ∷ rest) (standing Nothing 0 (fresh_slots c) 1) rest ([] ++ looked)
  looks rest =
      on Sixteen
      (acting.begins Sixteen f workers 1 two (seats Nothing) (seated Nothing) (ends 0) (fresh_slots c) Nothing call.IsFull 21 0 0 full_entry (24 ∷ 0 ∷ rest))
      (acting.looks_to Sixteen f workers 1 two (seats Nothing) (seated Nothing) (ends 0) (ends 0) (fresh_slots c) Full1 (Full2 t) 0 refl (omega arith) refl rest)

  sleeps : Rounds Sixteen c mark n ed g others workers some (standing Nothing 0 (fresh_slots c) 1) r (0 + r) (1 + 10 * r) []
  sleeps = goes_round Sixteen c mark n ed g others workers some r 0 (fresh_slots c) Nothing 1 (fresh_awaits Sixteen c workers ed a g others some) (omega (arith, few_rounds)) []

  abbrev words : List ℕ
  words = 21 ∷ 0 ∷ 24 ∷ 0 ∷ rounds r

  abbrev last : Machine
  last = standing sleeps.answer (0 + r) sleeps.slots (1 + 10 * r)

  asleep : Goes Sixteen first (21 ∷ 0 ∷ 24 ∷ 0 ∷ rounds r ++ []) last [] (([] ++ looked) ++ sleeps.done)
  asleep = on Sixteen (looks (rounds r ++ [])) sleeps.goes_on

  woken : machine_after (of_width Sixteen) c workers ed words ≡ last
  unfolding run_by ran
  woken =
      ap (λ (m : Machine). (run_at Sixteen m 0 words).machine) fresh_is ∙ ap (λ (l : List ℕ). (run_at Sixteen first 0 (21 ∷ 0 ∷ 24 ∷ 0 ∷ l)).machine) (sym (append-nil (rounds r))) ∙ asleep.run

  abbrev whole : List Event
  whole = acts_of (of_width Sixteen) c workers ed words

  whole_is : whole ≡ looked ++ sleeps.done
  unfolding history_by
  whole_is =
      ap (λ (m : Machine). history_at Sixteen m words) fresh_is ∙ ap (λ (l : List ℕ). history_at Sixteen first (21 ∷ 0 ∷ 24 ∷ 0 ∷ l)) (sym (append-nil (rounds r))) ∙ asleep.history
      ∙ append-nil (looked ++ sleeps.done)

  whole_tally : tally whole ≡ tally_of sleeps.done untallied
  unfolding tally_of
  whole_tally = ap tally whole_is ∙ tally_both looked sleeps.done untallied

  whole_claims : (length (tailers_of whole) ≡ r) × (length (takers_of whole) ≡ r)
  whole_claims = (
    sym (tally_tail whole) ∙ ap (λ (z : Tally). z.tail.0) whole_tally ∙ sleeps.tails untallied ∙ omega arith,
    sym (tally_head whole) ∙ ap (λ (z : Tally). z.head.0) whole_tally ∙ sleeps.heads untallied ∙ omega arith,
  )

  -- ---- nobody holds a word for longer

  few : (before after : List ℕ) → words ≡ before ++ after → (w : ℕ)
      → ((tally (since w (acts_of (of_width Sixteen) c workers ed before))).tail.0 < wider Sixteen f) × ((tally (since w (acts_of (of_width Sixteen) c workers ed before))).head.0 < wider Sixteen f)
  unfolding tally_of
  few before after e w =
      let h = acts_of (of_width Sixteen) c workers ed before in
      let q = begins_so before after (fresh_of c workers ed) in
      let is : whole ≡ h ++ q.0 = ap (history_at Sixteen (fresh_of c workers ed)) e ∙ q.1 in
      let parts = claims_both h q.0 in
      let most = since_most w [] h in
      let tails_few : length (tailers_of h) + length (tailers_of q.0) ≡ r = sym parts.0 ∙ ap (λ (l : List Event). length (tailers_of l)) (sym is) ∙ whole_claims.0 in
      let heads_few : length (takers_of h) + length (takers_of q.0) ≡ r = sym parts.1 ∙ ap (λ (l : List Event). length (takers_of l)) (sym is) ∙ whole_claims.1 in
      let long = turn_is Sixteen c mark n ed g in
      (omega (arith, most.0, tails_few, long), omega (arith, most.1, heads_few, long))

  made_fixed : (s : List ℕ) → fixed_on (machine_after (of_width Sixteen) c workers ed s).ring ≡ f
  made_fixed s = same_fixed Sixteen (fresh_of c workers ed) s ∙ ap (λ (m : Machine). fixed_on m.ring) fresh_is

  keeps : KeepsWindowOf wider (of_width Sixteen) (fresh_of c workers ed) [] words
  keeps before after e w held =
      subst
      (λ (z : Fixed). ((tally (since w (acts_of (of_width Sixteen) c workers ed before))).tail.0 < wider Sixteen z)
      × ((tally (since w (acts_of (of_width Sixteen) c workers ed before))).head.0 < wider Sixteen z))
      (sym (made_fixed before)) (few before after e w)

  -- ---- and it answers yes

  whole_turn : 0 + r + c ≡ n * c
  whole_turn = omega (arith, turn)

  lapped : lap_behind Sixteen f (W c mark n (0 + r)) t ≡ true
  unfolding lap_behind
  lapped =
      same_self _ t
      (stamps.plus_lap Sixteen c mark n g (0 + r) ∙ ap (W c mark n) whole_turn ∙ ap stamp (comes_again c mark n a.slot_some (omega (arith, g.laws.laps))))

  says_yes : (z : Slot) → act_of Sixteen f (ends (0 + r)) z (Full2 t) false ≡ goes (ends (0 + r)) z (Idle Yes)
  says_yes z = rw (stamps.unmarked_tail Sixteen c mark n g ed 0 false, lapped)

  not_full : lap_behind Sixteen f (W c mark n (0 + r)) (unmarked_of f (W c mark n (0 + r))) ≡ false
  not_full =
      let near : Near (n * c) (0 + r + c) (0 + r) = omega (arith, turn, a.slot_some) in
      ap (lap_behind Sixteen f (W c mark n (0 + r))) (stamps.unmarked_tail Sixteen c mark n g ed (0 + r) false) ∙ stamps.behind_is Sixteen c mark n g ed (0 + r) (0 + r) near
      ∙ ne_eqb (0 + r + c) (0 + r) (λ e. omega (arith, a.slot_some))

  untrue : FullTrue (of_width Sixteen) last → ⊥
  untrue o =
      let x = sleeps.answer in
      let slots = sleeps.slots in
      true≢false
      (sym (o 1 (acting.after Sixteen f workers 1 two (seats x) (seated x) (ends (0 + r)) (ends (0 + r)) slots (get_or slots 0 (slot 0 0)) (Full2 t) (Idle Yes)
      (1 + 10 * r) refl (omega (arith, few_rounds)) (says_yes _)) t refl
      (record {
        first = 24;
        second = 0;
        lose = false;
        asks = act_entry 1;
        done = acting.turns_to Sixteen f workers 1 two (seats x) (seated x) (ends (0 + r)) (ends (0 + r)) slots (get_or slots 0 (slot 0 0)) (Full2 t) (Idle Yes)
            (1 + 10 * r) refl (omega (arith, few_rounds)) (says_yes _);
      }) refl) ∙ not_full)

pub no_wider_anywhere : NoWiderAnywhere
no_wider_anywhere c workers ed a two all = untrue c workers ed a two
    (subst (FullTrue (of_width Sixteen)) (woken c workers ed a two) (all (words c workers ed a two) (keeps c workers ed a two)).within.demand2.full)

pub no_wider : NoWider
no_wider all =
    let allowed : Allowed 1 2 1 = record {
      slot_some = omega arith;
      slot_most = omega arith;
      worker_some = omega arith;
      worker_most = omega arith;
      edition_some = omega arith;
      edition_most = omega arith;
    } in
    no_wider_anywhere 1 2 1 allowed (omega arith) (all 1 2 1 allowed)
