-- Along a story of calls that are one step each: the run of the plain queue, one step a call, and what it has for each worker.
use mathlib.Core.Path.{◌≡◌, refl, sym, ap, ◌∙◌, subst}
use mathlib.Core.Logic.{◌≢◌, ◌⊎◌, inl, inr}
use mathlib.Core.Bool.{true, false}
use mathlib.Core.List.{List, [], ◌∷◌, ◌++◌}
use Prim.Native.Nat.{ℕ, ◌+◌, ◌≤◌, ◌<◌}
use native.Mathlib.Omega.{arith}
use native.Mathlib.Decide.{ℕ_discrete}
use lib.Dec.{eqb}
use lib.ListN.{length, take, length-append}
use Rattle.queue_entries.specs.declared.Call.{Call}
use Rattle.queue_entries.specs.declared.Call.TheVariants as call
use Rattle.queue_plain.specs.Plain.{Reply, queue}
use Rattle.queue_plain.specs.Plain as plain
use Rattle.queue_plain.specs.OneStep.{Step}
use Rattle.queue_plain.specs.Story.{Does, Doing}
use Rattle.queue_plain.proofs.Stories.{take_more}
use Rattle.bounded_places.specs.declared.Kind.{Kind}
use Rattle.bounded_places.specs.declared.Answer.{Answer}
use Rattle.bounded_places.specs.declared.Place.{Place}
use Rattle.bounded_places.specs.declared.Place.TheVariants.{Idle, F7}
use Rattle.bounded_places.specs.Places.{view_of}
use Rattle.bounded_words.specs.declared.Stamp.{Stamp}
use Rattle.bounded_machine.specs.declared.Machine.{Machine}
use Rattle.bounded_machine.specs.declared.Event.{Event}
use Rattle.bounded_demands.specs.Stories.{Story, known, change_of, reply_of, one_step, At, heard, moment_of}
use Rattle.bounded_proof_invariant.proofs.Ring.{Shared}
use Rattle.bounded_proof_each_act.proofs.Sight.{Age}
use Rattle.bounded_proof_demand2.proofs.Turns.{stood}
use Rattle.bounded_proof_demand2.proofs.Lists.{Last, Earlier, split_end}
use Rattle.bounded_proof_plain.proofs.Shelf.{each_else, moment_else}
use Rattle.bounded_proof_plain.proofs.Work.{pushing}
use Rattle.bounded_proof_plain.proofs.Line.{Line, no_step, none_one}

-- what a call that has taken v out answers
abbrev pub out_of : Call → ℕ → Reply
out_of (call.Push x) v = plain.Popped v
out_of (call.ForcePush x) v = plain.Displaced v
out_of call.Pop v = plain.Popped v
out_of call.Len v = plain.Popped v
out_of call.IsEmpty v = plain.Popped v
out_of call.IsFull v = plain.Popped v
out_of call.Close v = plain.Popped v
out_of call.IsClosed v = plain.Popped v

-- the item of a force_push between its head claim and its tail claim
abbrev pub Pending : Machine → List ℕ → Type 0
Pending m l =
    ((l ≡ []) × ((w : ℕ) (t : Stamp) (x : ℕ) → stood m w ≡ F7 t x → ⊥)) ⊎ ((w : ℕ) × (t : Stamp) × (x : ℕ) × (stood m w ≡ F7 t x) × (l ≡ x ∷ []))

module _ (c ed : ℕ) where
  abbrev pub Each : Story → ℕ → Doing
  Each st w = (known c ed st).each w

  -- worker w is in a push or force_push that has neither put in nor taken out, with the moment k inside the call
  pub record Asks (m : Machine) (st : Story) (w k : ℕ) : Type 0 where
    pub kind : Kind
    pub item : ℕ
    pub busy : (view_of (stood m w)).busy ≡ true
    pub its : (Each st w).calls ≡ pushing kind item ∷ []
    pub puts : (Each st w).puts ≡ []
    pub takes : (Each st w).takes ≡ []
    pub named : moment_of c ed w st ≡ At k
    pub begun : (Each st w).begun < k

  -- nobody's step is at that moment; and if the queue was full there and no end has moved since, then it has held the same items since, and none was displaced
  pub record Held (st : Story) (line : Line c ed st) (s : Shared) (age : Age) (w k : ℕ) : Type 0 where
    pub short : k < length st
    pub free : line.steps k ≡ []
    pub then_its : (Each (take k st) w).calls ≡ (Each st w).calls
    pub then_begun : (Each (take k st) w).begun ≡ (Each st w).begun
    pub old : (age.tail ≤ s.tail) × (age.head ≤ s.head)
    pub calm : age.tail ≡ age.head + c → s.tail ≡ age.tail → s.head ≡ age.head
        → ((i : ℕ) → k ≤ i → i ≤ length st → (line.queues i).items ≡ (known c ed st).queue.items)
        × ((i : ℕ) (x : Step) → k ≤ i → line.steps i ≡ x ∷ [] → (v : ℕ) → x.reply ≡ plain.Displaced v → ⊥)

  pub record StepOf (st : Story) (line : Line c ed st) (w : ℕ) (r : Reply) : Type 0 where
    pub at : ℕ
    pub step : Step
    pub is : line.steps at ≡ step ∷ []
    pub begun : (Each st w).begun < at
    pub by : step.worker ≡ w
    pub call : (Each st w).calls ≡ step.call ∷ []
    pub reply : step.reply ≡ r

  pub record AnswerStep (st : Story) (line : Line c ed st) (earlier : Story) (act : Event) (a : Answer) : Type 0 where
    pub at : ℕ
    pub step : Step
    pub is : line.steps at ≡ step ∷ []
    pub begun : (Each earlier act.worker).begun < at
    pub inside : at ≤ length earlier
    pub by : step.worker ≡ act.worker
    pub call : (Each earlier act.worker).calls ≡ step.call ∷ []
    pub reply : step.reply ∷ [] ≡ reply_of a

  pub record Lined (m : Machine) (st : Story) (s : Shared) (ages : ℕ → Age) : Type 0 where
    pub line : Line c ed st
    pub pend : List ℕ
    pub last : (line.queues (length st)).items ≡ (known c ed st).queue.items ++ pend
    pub pending : Pending m pend
    pub answered : (earlier later : Story) (act : Event) (a : Answer) → st ≡ earlier ++ Does act ∷ later → act.after ≡ Idle a → AnswerStep st line earlier act a
    pub ok : (w : ℕ) (cl : Call) → (Each st w).calls ≡ cl ∷ [] → one_step ed cl ≡ true
    pub open1 : eqb ed 2 ≡ false → (known c ed st).queue.closed ≡ false
    pub ats : (w : ℕ) → (k : ℕ) × (moment_of c ed w st ≡ At k)
    pub unstepped : (w : ℕ) → (view_of (stood m w)).busy ≡ true → (Each st w).puts ≡ [] → (Each st w).takes ≡ [] → (i : ℕ) (x : Step) → line.steps i ≡ x ∷ [] → x.worker ≡ w → i < (Each st w).begun
    pub entered : (w v : ℕ) → (view_of (stood m w)).busy ≡ true → (Each st w).puts ≡ v ∷ [] → (Each st w).takes ≡ [] → StepOf st line w plain.Pushed
    pub taken : (w v : ℕ) (cl : Call) → (view_of (stood m w)).busy ≡ true → (Each st w).takes ≡ v ∷ [] → (Each st w).calls ≡ cl ∷ [] → StepOf st line w (out_of cl v)
    pub held : (w k : ℕ) → Asks m st w k → Held st line s (ages w) w k
    pub apart : (w v k : ℕ) → w ≢ v → Asks m st w k → Asks m st v k → ⊥

  -- ---- an act: what it leaves to the others

  at_same : (i j : ℕ) → At i ≡ At j → i ≡ j
  at_same i j e = cc

  module _ (m now : Machine) (st : Story) (s u : Shared) (ages after : ℕ → Age) (o : Lined m st s ages) (e : Event)
      (line : Line c ed (st ++ Does e ∷ []))
      (stays : (j : ℕ) → j ≢ e.worker → stood now j ≡ stood m j) (aged : (j : ℕ) → j ≢ e.worker → after j ≡ ages j)
      (up : (s.tail ≤ u.tail) × (s.head ≤ u.head))
      (keeps : (i : ℕ) (x : Step) → o.line.steps i ≡ x ∷ [] → line.steps i ≡ x ∷ [])
      (news : (i : ℕ) (x : Step) → line.steps i ≡ x ∷ [] → (o.line.steps i ≡ x ∷ []) ⊎ ((x.worker ≡ e.worker) × ((j k : ℕ) → j ≢ e.worker → Asks m st j k → i ≢ k)))
      (calm_news : u.tail ≡ s.tail → u.head ≡ s.head → (i : ℕ) (x : Step) → line.steps i ≡ x ∷ [] → (v : ℕ) → x.reply ≡ plain.Displaced v → o.line.steps i ≡ x ∷ [])
      (queues_same : u.tail ≡ s.tail → u.head ≡ s.head → (i : ℕ) → i ≤ length st → (line.queues i).items ≡ (o.line.queues i).items)
      (last_same : u.tail ≡ s.tail → u.head ≡ s.head → ((line.queues (length (st ++ Does e ∷ []))).items ≡ (o.line.queues (length st)).items)
      × ((known c ed (st ++ Does e ∷ [])).queue.items ≡ (known c ed st).queue.items)) where
    abbrev st' : Story
    st' = st ++ Does e ∷ []

    longer : length (st ++ Does e ∷ []) ≡ length st + 1
    longer = length-append st (Does e ∷ []) ∙ omega arith

    same_each : (j : ℕ) → j ≢ e.worker → Each st' j ≡ Each st j
    same_each j far = each_else c ed st e j far

    same_moment : (j k : ℕ) → j ≢ e.worker → moment_of c ed j st' ≡ At k → moment_of c ed j st ≡ At k
    same_moment j k far h =
        let was = o.ats j in
        let now_is : moment_of c ed j st' ≡ At was.0 = moment_else c ed st e j far ∙ ap (heard (change_of ed e) ((known c ed st).count + 1)) was.1 in
        was.1 ∙ sym now_is ∙ h

    pub ats_else : (j : ℕ) → j ≢ e.worker → (k : ℕ) × (moment_of c ed j st' ≡ At k)
    ats_else j far = ((o.ats j).0, moment_else c ed st e j far ∙ ap (heard (change_of ed e) ((known c ed st).count + 1)) (o.ats j).1)

    pub asked : (j k : ℕ) → j ≢ e.worker → Asks now st' j k → Asks m st j k
    asked j k far a =
        let same = same_each j far in
        record {
          kind = a.kind;
          item = a.item;
          busy = ap (λ (z : Place). (view_of z).busy) (sym (stays j far)) ∙ a.busy;
          its = ap (λ (z : Doing). z.calls) (sym same) ∙ a.its;
          puts = ap (λ (z : Doing). z.puts) (sym same) ∙ a.puts;
          takes = ap (λ (z : Doing). z.takes) (sym same) ∙ a.takes;
          named = same_moment j k far a.named;
          begun = omega (arith, ap (λ (z : Doing). z.begun) same, a.begun);
        }

    -- a moment at which there was no step still has none
    still_free : (k : ℕ) → o.line.steps k ≡ [] → ((x : Step) → line.steps k ≡ x ∷ [] → o.line.steps k ≡ x ∷ []) → line.steps k ≡ []
    still_free k free old = no_step (line.steps k) (line.single k) (λ x h. none_one x (sym free ∙ old x h))

    -- what is held for a worker whose moment and call have stayed, of this age
    pub held_on : (j k : ℕ) (age : Age) → (h : Held st o.line s age j k) → ((x : Step) → line.steps k ≡ x ∷ [] → o.line.steps k ≡ x ∷ [])
        → (Each st' j).calls ≡ (Each st j).calls → (Each st' j).begun ≡ (Each st j).begun → Held st' line u age j k
    held_on j k age h old calls begun =
        let early : take k st' ≡ take k st = take_more k st (Does e) (omega (arith, h.short)) in
        record {
          short = omega (arith, h.short, longer);
          free = still_free k h.free old;
          then_its = ap (λ (z : Story). (Each z j).calls) early ∙ h.then_its ∙ sym calls;
          then_begun = ap (λ (z : Story). (Each z j).begun) early ∙ h.then_begun ∙ sym begun;
          old = omega (arith, h.old, up);
          calm = λ full tails heads.
              let even_t : u.tail ≡ s.tail = omega (arith, h.old, up) in
              let even_h : u.head ≡ s.head = omega (arith, h.old, up) in
              let was = h.calm full (sym even_t ∙ tails) (sym even_h ∙ heads) in
              let l = last_same even_t even_h in (
                λ i low high. items_at i low high even_t even_h was l (ℕ_discrete i (length st')),
                λ i x low is v r. was.1 i x low (calm_news even_t even_h i x is v r) v r,
              );
        }
      where
        items_at : (i : ℕ) → k ≤ i → i ≤ length st' → u.tail ≡ s.tail → u.head ≡ s.head
            → ((i : ℕ) → k ≤ i → i ≤ length st → (o.line.queues i).items ≡ (known c ed st).queue.items)
            × ((i : ℕ) (x : Step) → k ≤ i → o.line.steps i ≡ x ∷ [] → (v : ℕ) → x.reply ≡ plain.Displaced v → ⊥)
            → ((line.queues (length st')).items ≡ (o.line.queues (length st)).items) × ((known c ed st').queue.items ≡ (known c ed st).queue.items)
            → Dec (i ≡ length st') → (line.queues i).items ≡ (known c ed st').queue.items
        items_at i low high et eh was l (yes z) = ap (λ (y : ℕ). (line.queues y).items) z ∙ l.0 ∙ was.0 (length st) (omega (arith, h.short)) (omega arith) ∙ sym l.1
        items_at i low high et eh was l (no z) =
            let few : i ≤ length st = omega (arith, longer) in
            queues_same et eh i few ∙ was.0 i low few ∙ sym l.1

    pub held_else : (j k : ℕ) → j ≢ e.worker → Asks now st' j k → Held st' line u (after j) j k
    held_else j k far a =
        let was = asked j k far a in
        let same = same_each j far in
        subst (λ (z : Age). Held st' line u z j k) (sym (aged j far))
        (held_on j k (ages j) (o.held j k was) (λ x h. old x h (news k x h)) (ap (λ (z : Doing). z.calls) same) (ap (λ (z : Doing). z.begun) same))
      where
        old : (x : Step) → line.steps k ≡ x ∷ [] → (o.line.steps k ≡ x ∷ []) ⊎ ((x.worker ≡ e.worker) × ((i y : ℕ) → i ≢ e.worker → Asks m st i y → k ≢ y)) → o.line.steps k ≡ x ∷ []
        old x h (inl z) = z
        old x h (inr z) = absurd (z.1 j k far (asked j k far a) refl)

    step_kept : (j : ℕ) (r : Reply) → (Each st' j).calls ≡ (Each st j).calls → (Each st' j).begun ≡ (Each st j).begun → StepOf st o.line j r → StepOf st' line j r
    step_kept j r calls begun p =
        record {
          at = p.at;
          step = p.step;
          is = keeps p.at p.step p.is;
          begun = omega (arith, begun, p.begun);
          by = p.by;
          call = calls ∙ p.call;
          reply = p.reply;
        }

    pub answer_kept : (earlier : Story) (act : Event) (a : Answer) → AnswerStep st o.line earlier act a → AnswerStep st' line earlier act a
    answer_kept earlier act a p =
        record {
          at = p.at;
          step = p.step;
          is = keeps p.at p.step p.is;
          begun = p.begun;
          inside = p.inside;
          by = p.by;
          call = p.call;
          reply = p.reply;
        }

    -- what w itself has, if it has put in and taken out what it had
    pub own_entered_kept : (v : ℕ) → (view_of (stood m e.worker)).busy ≡ true → (Each st' e.worker).calls ≡ (Each st e.worker).calls → (Each st' e.worker).begun ≡ (Each st e.worker).begun
        → (Each st e.worker).puts ≡ v ∷ [] → (Each st e.worker).takes ≡ [] → StepOf st' line e.worker plain.Pushed
    own_entered_kept v busy calls begun puts takes = step_kept e.worker plain.Pushed calls begun (o.entered e.worker v busy puts takes)

    pub own_taken_kept : (v : ℕ) (cl : Call) → (view_of (stood m e.worker)).busy ≡ true → (Each st' e.worker).calls ≡ (Each st e.worker).calls
        → (Each st' e.worker).begun ≡ (Each st e.worker).begun
        → (Each st e.worker).takes ≡ v ∷ [] → (Each st e.worker).calls ≡ cl ∷ [] → StepOf st' line e.worker (out_of cl v)
    own_taken_kept v cl busy calls begun takes its = step_kept e.worker (out_of cl v) calls begun (o.taken e.worker v cl busy takes its)

    module _ (pend : List ℕ) (last : (line.queues (length st')).items ≡ (known c ed st').queue.items ++ pend) (pending : Pending now pend)
        (open1 : eqb ed 2 ≡ false → (known c ed st').queue.closed ≡ false)
        (calls : (Each st' e.worker).calls ≡ (Each st e.worker).calls)
        (said : (a : Answer) → e.after ≡ Idle a → AnswerStep st' line st e a)
        (own_at : (k : ℕ) × (moment_of c ed e.worker st' ≡ At k))
        (own_unstepped : (view_of (stood now e.worker)).busy ≡ true → (Each st' e.worker).puts ≡ [] → (Each st' e.worker).takes ≡ [] → (i : ℕ) (x : Step)
        → line.steps i ≡ x ∷ [] → x.worker ≡ e.worker → i < (Each st' e.worker).begun)
        (own_entered : (v : ℕ) → (view_of (stood now e.worker)).busy ≡ true → (Each st' e.worker).puts ≡ v ∷ [] → (Each st' e.worker).takes ≡ [] → StepOf st' line e.worker plain.Pushed)
        (own_taken : (v : ℕ) (cl : Call) → (view_of (stood now e.worker)).busy ≡ true → (Each st' e.worker).takes ≡ v ∷ [] → (Each st' e.worker).calls ≡ cl
        ∷ [] → StepOf st' line e.worker (out_of cl v))
        (own_held : (k : ℕ) → Asks now st' e.worker k → Held st' line u (after e.worker) e.worker k)
        (own_apart : (j k : ℕ) → j ≢ e.worker → Asks now st' e.worker k → Asks m st j k → ⊥) where
      -- of every worker, by whether it is the one that acted
      split : (P : ℕ → Type 0) → P e.worker → ((j : ℕ) → j ≢ e.worker → P j) → (j : ℕ) → P j
      split P mine other j = go (ℕ_discrete j e.worker)
        where
          go : Dec (j ≡ e.worker) → P j
          go (yes z) = rw z mine
          go (no z) = other j z

      busy_was : (j : ℕ) → j ≢ e.worker → (view_of (stood now j)).busy ≡ true → (view_of (stood m j)).busy ≡ true
      busy_was j far h = ap (λ (z : Place). (view_of z).busy) (sym (stays j far)) ∙ h

      unstepped_else : (j : ℕ) → j ≢ e.worker → (view_of (stood now j)).busy ≡ true → (Each st' j).puts ≡ [] → (Each st' j).takes ≡ [] → (i : ℕ) (x : Step)
          → line.steps i ≡ x ∷ [] → x.worker ≡ j → i < (Each st' j).begun
      unstepped_else j far b p t i x h by = go (news i x h)
        where
          go : (o.line.steps i ≡ x ∷ []) ⊎ ((x.worker ≡ e.worker) × ((i' y : ℕ) → i' ≢ e.worker → Asks m st i' y → i ≢ y)) → i < (Each st' j).begun
          go (inl z) =
              let same = same_each j far in
              let r = o.unstepped j (busy_was j far b) (ap (λ (y : Doing). y.puts) (sym same) ∙ p) (ap (λ (y : Doing). y.takes) (sym same) ∙ t) i x z by in
              omega (arith, r, ap (λ (y : Doing). y.begun) same)
          go (inr z) = absurd (far (sym by ∙ z.0))

      pub lined_on : Lined now st' u after
      lined_on =
          record {
            line = line;
            pend = pend;
            last = last;
            pending = pending;
            answered = λ earlier later act a h said_so. answer earlier later act a said_so (split_end st (Does e) earlier (Does act) later h);
            ok = split (λ (j : ℕ). (cl : Call) → (Each st' j).calls ≡ cl ∷ [] → one_step ed cl ≡ true) (λ cl h. o.ok e.worker cl (sym calls ∙ h))
                (λ j far cl h. o.ok j cl (ap (λ (y : Doing). y.calls) (sym (same_each j far)) ∙ h));
            open1 = open1;
            ats = split (λ (j : ℕ). (k : ℕ) × (moment_of c ed j st' ≡ At k)) own_at ats_else;
            unstepped = split (λ (j : ℕ). (view_of (stood now j)).busy ≡ true → (Each st' j).puts ≡ [] → (Each st' j).takes ≡ [] → (i : ℕ) (x : Step)
                → line.steps i ≡ x ∷ [] → x.worker ≡ j → i < (Each st' j).begun) own_unstepped unstepped_else;
            entered =
                split (λ (j : ℕ). (v : ℕ) → (view_of (stood now j)).busy ≡ true → (Each st' j).puts ≡ v ∷ [] → (Each st' j).takes ≡ [] → StepOf st' line j plain.Pushed) own_entered
                (λ j far v b p t. let same = same_each j far in
                step_kept j plain.Pushed (ap (λ (y : Doing). y.calls) same) (ap (λ (y : Doing). y.begun) same)
                (o.entered j v (busy_was j far b) (ap (λ (y : Doing). y.puts) (sym same) ∙ p) (ap (λ (y : Doing). y.takes) (sym same) ∙ t)));
            taken =
                split (λ (j : ℕ). (v : ℕ) (cl : Call) → (view_of (stood now j)).busy ≡ true → (Each st' j).takes ≡ v ∷ [] → (Each st' j).calls ≡ cl ∷ [] → StepOf st' line j (out_of cl v)) own_taken
                (λ j far v cl b t p. let same = same_each j far in
                step_kept j (out_of cl v) (ap (λ (y : Doing). y.calls) same) (ap (λ (y : Doing). y.begun) same)
                (o.taken j v cl (busy_was j far b) (ap (λ (y : Doing). y.takes) (sym same) ∙ t) (ap (λ (y : Doing). y.calls) (sym same) ∙ p)));
            held = split (λ (j : ℕ). (k : ℕ) → Asks now st' j k → Held st' line u (after j) j k) own_held (λ j far k a. held_else j k far a);
            apart = λ i j k ne a b. apart_on i j k ne a b (ℕ_discrete i e.worker) (ℕ_discrete j e.worker);
          }
        where
          answer : (earlier later : Story) (act : Event) (a : Answer) → act.after ≡ Idle a
              → Last st (Does e) earlier (Does act) later ⊎ Earlier st (Does e) earlier (Does act) later → AnswerStep st' line earlier act a
          answer earlier later act a so (inr p) = answer_kept earlier act a (o.answered earlier p.left act a p.was so)
          answer earlier later act a so (inl p) =
              let one : act ≡ e = let y = p.one in cc in
              rw (p.whole, one) (said a (ap (λ (z : Event). z.after) (sym one) ∙ so))

          apart_on : (i j k : ℕ) → i ≢ j → Asks now st' i k → Asks now st' j k → Dec (i ≡ e.worker) → Dec (j ≡ e.worker) → ⊥
          apart_on i j k ne a b (yes x) (yes y) = ne (x ∙ sym y)
          apart_on i j k ne a b (yes x) (no y) = own_apart j k y (subst (λ (z : ℕ). Asks now st' z k) x a) (asked j k y b)
          apart_on i j k ne a b (no x) (yes y) = own_apart i k x (subst (λ (z : ℕ). Asks now st' z k) y b) (asked i k x a)
          apart_on i j k ne a b (no x) (no y) = o.apart i j k ne (asked i k x a) (asked j k y b)
