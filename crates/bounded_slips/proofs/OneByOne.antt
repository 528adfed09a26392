-- One step a call: tables of which that is false. And moments that are named by what is kept of no story.
use Prim.Native.Nat.{ℕ, zero, suc, ◌≤◌, ◌<◌}
use native.Mathlib.Omega.{arith}
use mathlib.Core.Bool.{Bool, true, false, cond}
use mathlib.Core.List.{List, [], ◌∷◌, ◌++◌}
use mathlib.Core.Path.{◌≡◌, refl, sym, ap, ◌∙◌, subst}
use lib.Dec.{eqb}
use lib.ListN.{length, take, drop}
use borrow.Author.Tests.{ne_eqb}
use Rattle.queue_entries.specs.Schedules.{run_by, history_by}
use Rattle.queue_entries.specs.Entries.{stray_of, order_of, entry_of}
use Rattle.queue_entries.specs.Limits.{all}
use Rattle.queue_entries.specs.declared.Call.{Call}
use Rattle.queue_entries.specs.declared.Call.TheVariants as call
use Rattle.queue_plain.specs.Plain.{Queue, answer_of, left_by}
use Rattle.queue_plain.specs.Plain as plain
use Rattle.queue_plain.specs.OneStep.{Step, Follows}
use Rattle.queue_plain.specs.Story.{Begun, Does, Doing, Known, fresh, known_with, known_from}
use Rattle.queue_plain.proofs.Answers.{pop_none}
use Rattle.bounded_words.specs.declared.Width.TheVariants.{SixtyFour}
use Rattle.bounded_words.specs.Words.{stamp, doubled, mark_of, marked_of, unmarked_of, plus, minus, with_mark, next_of, same, one_past, lap_behind, lap_behind_one_past}
use Rattle.bounded_places.specs.declared.Kind.TheVariants.{Push}
use Rattle.bounded_places.specs.declared.Loss.TheVariants as loss
use Rattle.bounded_places.specs.declared.Answer.TheVariants.{Popped}
use Rattle.bounded_places.specs.declared.Place.TheVariants.{Idle, P1, P2, O6}
use Rattle.bounded_acts.specs.Acts.{forced_tail, goes, losing, exchange_of, after_tail, tail_to, head_to, stamp_to, value_to, count_of}
use Rattle.bounded_machine.specs.declared.Event.{Event}
use Rattle.bounded_machine.specs.Machine.{empty_slots, stamped, fresh_slots, idlers, fresh_with, refused, accepted}
use Rattle.bounded_machine.specs.Turn.{record_after, begun, stored, acted_by, turn_of_by}
use Rattle.bounded_machine.specs.Run.{ran}
use Rattle.bounded_machine.specs.History.{event}
use Rattle.bounded_moments.specs.Moments.{heard_by_all, begun_of, named_of}
use Rattle.bounded_demands.specs.Notions.{Allowed, acts, with_records}
use Rattle.bounded_demands.specs.Stories.{Story, story_of, unlooked, known, actor, change_of, two_closes, Moment, At, AfterNextTail, AfterNextHead, moment_from, moments_from}
use Rattle.bounded_demands.specs.Demands.{OneByOne}
use Rattle.bounded_proof_plain.proofs.TwoCloses.{not_both}
use Rattle.bounded_proof_plain.proofs.BetweenClaims.{act_of, act_at_lem}
use Rattle.bounded_slips.specs.Slips.{force_forgets, hands_out_again, len_forgets, slipped}
use Rattle.bounded_slips.specs.Refuted.{does}
use Rattle.bounded_slips.specs.RefutedPlain.{RefutedOneStep, pop_of_none, len_between_closes}
use Rattle.bounded_slips.proofs.Refuted.{one_two}

-- ---- pops alone: a plain queue that was empty stays so, and hands out nothing

only_pops : (q p : Queue) (l : List Step) → ((x : Step) → l ≡ x ∷ [] → x.call ≡ call.Pop) → length l ≤ 1 → Follows q l p → q.items ≡ [] → p.items ≡ []
only_pops q p [] pops few f h = ap (λ (z : Queue). z.items) f ∙ h
only_pops q p (x ∷ []) pops few f h = ap (λ (z : Queue). z.items) f.1 ∙ ap (λ (c : Call). (left_by q c).items) (pops x refl) ∙ ap (drop 1) h
only_pops q p (x ∷ y ∷ l) pops few f h = absurd (omega arith)

nothing_handed : (q : Queue) (v : ℕ) → q.items ≡ [] → plain.Popped v ≡ answer_of q call.Pop → ⊥
nothing_handed q v h e = go q.closed (e ∙ pop_none q h)
  where
    go : (b : Bool) → plain.Popped v ≡ cond b plain.EmptyAndClosed plain.Empty → ⊥
    go true z = let n : ◌≡◌ {A = ℕ} 0 1 = cc in omega arith
    go false z = let n : ◌≡◌ {A = ℕ} 0 1 = cc in omega arith

module _ (s : Story) (o : OneByOne 1 1 s) (pops : (i w : ℕ) (c : Call) → i < length s → ((known 1 1 (take i s)).each w).calls ≡ c ∷ [] → c ≡ call.Pop) where
  none_in : (n : ℕ) → n ≤ length s → (o.queues n).items ≡ []
  none_in zero few = ap (λ (q : Queue). q.items) o.first
  none_in (suc n) few =
      only_pops (o.queues n) (o.queues (suc n)) (o.steps n) (λ x e. let w = o.own n x e in pops n x.worker x.call w.0 w.1) (o.single n)
      (o.follows n (omega arith)) (none_in n (omega arith))

  none_out : (earlier later : Story) (act : Event) (v : ℕ) → s ≡ earlier ++ Does act ∷ later → act.after ≡ Idle (Popped v) → ⊥
  none_out earlier later act v is after =
      let r = o.answered earlier later act (Popped v) is after in
      let own = o.own r.0 r.1 r.2 in
      let f = subst (λ (l : List Step). Follows (o.queues r.0) l (o.queues (suc r.0))) r.2 (o.follows r.0 own.0) in
      let says : r.1.reply ≡ plain.Popped v = let z : r.1.reply ∷ [] ≡ plain.Popped v ∷ [] = r.7 in cc in
      nothing_handed (o.queues r.0) v (none_in r.0 (omega (arith, own.0)))
      (sym says ∙ f.0 ∙ ap (answer_of (o.queues r.0)) (pops r.0 r.1.worker r.1.call own.0 own.1))

-- of a worker of which nothing is told nothing is known
Others : ℕ → Story → Type 0
Others w [] = Unit {0}
Others w (Begun v c ∷ s) = (w ≡ v → ⊥) × Others w s
Others w (Does e ∷ s) = (w ≡ e.worker → ⊥) × Others w s

passed_by : {A : Type 0} (w v : ℕ) (x y : A) → (w ≡ v → ⊥) → cond (eqb w v) x y ≡ y
passed_by w v x y ne = simp (ne_eqb w v ne)

unknown : (w : ℕ) (s : Story) → Others w s → (k : Known) → (known_from actor (change_of 1) k s).each w ≡ k.each w
unfolding Others known_from
unknown w [] others k = refl
unknown w (Begun v c ∷ s) others k = unknown w s others.1 (known_with actor (change_of 1) k (Begun v c)) ∙ passed_by w v _ (k.each w) others.0
unknown w (Does e ∷ s) others k = unknown w s others.1 (known_with actor (change_of 1) k (Does e)) ∙ passed_by w e.worker _ (k.each w) others.0

none_called : (c : Call) → [] ≡ c ∷ [] → ⊥
none_called c e = let q : ◌≡◌ {A = ℕ} 0 1 = ap length e in omega arith

-- worker 0 alone is in a call, a pop
alone_pops : (calls : ℕ → List Call) → calls 0 ≡ call.Pop ∷ [] → ((w : ℕ) → calls (suc w) ≡ []) → (w : ℕ) (c : Call) → calls w ≡ c ∷ [] → c ≡ call.Pop
alone_pops calls own others zero c e = let z : call.Pop ∷ [] ≡ c ∷ [] = sym own ∙ e in cc
alone_pops calls own others (suc w) c e = absurd (none_called c (sym (others w) ∙ e))

abbrev popping : Story
popping = story_of (slipped hands_out_again) 1 2 1 pop_of_none.schedule

-- of the first n elements, which are worker 0's
others_none : (n w : ℕ) → Others (suc w) (take n popping) → ((known 1 1 (take n popping)).each (suc w)).calls ≡ []
others_none n w others = ap (λ (d : Doing). d.calls) (unknown (suc w) (take n popping) others (fresh 1))

not_first : (w : ℕ) → suc w ≡ 0 → ⊥
not_first w e = omega arith

pops_only : (i w : ℕ) (c : Call) → i < length popping → ((known 1 1 (take i popping)).each w).calls ≡ c ∷ [] → c ≡ call.Pop
unfolding Others forced_tail doubled mark_of marked_of unmarked_of plus minus with_mark next_of same one_past lap_behind lap_behind_one_past stray_of order_of entry_of goes
    losing exchange_of after_tail tail_to head_to stamp_to value_to count_of empty_slots stamped fresh_slots idlers fresh_with refused accepted all record_after begun
    stored acted_by turn_of_by ran run_by history_by acts known_from
pops_only zero w c few e = absurd (none_called c e)
pops_only (suc zero) w c few e = alone_pops (λ v. ((known 1 1 (take 1 popping)).each v).calls) refl (λ v. others_none 1 v (not_first v, tt)) w c e
pops_only (suc (suc zero)) w c few e = alone_pops (λ v. ((known 1 1 (take 2 popping)).each v).calls) refl (λ v. others_none 2 v (not_first v, (not_first v, tt))) w c e
pops_only (suc (suc (suc zero))) w c few e = alone_pops (λ v. ((known 1 1 (take 3 popping)).each v).calls) refl (λ v. others_none 3 v (not_first v, (not_first v, (not_first v, tt)))) w c e
pops_only (suc (suc (suc (suc i)))) w c few e = absurd (omega arith)

-- ---- the moment named, as a number
abbrev at_in : Moment → ℕ
at_in (At n) = n
at_in AfterNextTail = 0
at_in AfterNextHead = 0

abbrev sixteenth : Story
sixteenth = story_of (with_records 17 SixtyFour) 1 17 1 (does 16 0 5 2)

in_edition_2 : Allowed 1 2 2
in_edition_2 = record { slot_some = omega arith; slot_most = omega arith; worker_some = omega arith; worker_most = omega arith; edition_some = omega arith; edition_most = omega arith }

pub refuted_one_step : RefutedOneStep
unfolding forced_tail doubled mark_of marked_of unmarked_of plus minus with_mark next_of same one_past lap_behind lap_behind_one_past stray_of order_of entry_of goes losing
    exchange_of after_tail tail_to head_to stamp_to value_to count_of empty_slots stamped fresh_slots idlers fresh_with refused accepted all record_after begun stored
    acted_by turn_of_by ran run_by history_by acts known_from two_closes unlooked moment_from moments_from heard_by_all begun_of named_of
refuted_one_step =
    record {
      force_forgets_lem =
          λ r.
          not_both 2 (story_of (slipped force_forgets) 1 2 2 two_closes) (r 1 2 2 in_edition_2 two_closes (refl, (refl, (refl, (refl, tt))))) 11 1 (omega arith) refl refl refl refl refl refl refl refl;
      hands_out_again_lem = λ r. none_out popping (r 1 2 1 one_two pop_of_none.schedule (refl, tt)) pops_only (take 3 popping) [] (event 0 (O6 (stamp 0)) (Idle (Popped 0)) loss.Nothing) 0 refl refl;
      force_forgets_always =
          λ r.
          not_both 2 (unlooked (story_of (slipped force_forgets) 1 2 2 two_closes)) (r 1 2 2 in_edition_2 two_closes (λ first. absurd (omega (arith, first)))) 11 1
          (omega arith) refl refl refl refl refl refl refl refl;
      len_forgets_lem =
          λ r.
          not_both 2 (unlooked (story_of (slipped len_forgets) 1 2 2 len_between_closes.schedule))
          (r 1 2 2 in_edition_2 len_between_closes.schedule (λ first. absurd (omega (arith, first)))) 1 1 (omega arith) refl refl refl refl refl
          refl refl refl;
      moments_unkept =
          λ r. let q : ◌≡◌ {A = ℕ} 0 1 = ap at_in (r (omega arith) (Begun 0 (call.Push 5) ∷ []) [] (event 0 (P1 Push 5) (P2 Push (stamp 0) 5) loss.Nothing) refl (omega arith)) in omega arith;
      sixteen_kept =
          λ r. let q : ◌≡◌ {A = ℕ} 0 1 = ap at_in (r (omega arith) (take 2 sixteenth) (drop 1 (drop 2 sixteenth)) (act_of (drop 2 sixteenth)) (act_at_lem sixteenth 2 refl) (omega arith)) in omega arith;
    }
