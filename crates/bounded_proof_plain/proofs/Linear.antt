-- Every story of calls that are one step each has a run of the plain queue, one step a call: linearizable in the classical sense. Proved along every schedule.
use mathlib.Core.Path.{◌≡◌, refl, sym, ap, ◌∙◌, subst}
use mathlib.Core.Logic.{◌≢◌, ◌⊎◌, inl, inr}
use mathlib.Core.Bool.{Bool, true, false, true≢false}
use mathlib.Core.List.{List, [], ◌∷◌, ◌++◌, map}
use Prim.Native.Nat.{ℕ, ◌+◌, ◌≤◌, ◌<◌}
use native.Mathlib.Omega.{arith}
use native.Mathlib.Decide.{ℕ_discrete}
use lib.ListN.{length, take, length-append}
use lib.Seq.{get_or-set_same, get_or-set_other}
use Rattle.queue_entries.specs.declared.Call.{Call}
use Rattle.queue_entries.specs.declared.Call.TheVariants as call
use Rattle.queue_entries.specs.declared.Entry.{Entry}
use Rattle.queue_plain.specs.Plain.{Queue, Reply, queue}
use Rattle.queue_plain.specs.Plain as plain
use Rattle.queue_plain.specs.OneStep.{Step}
use Rattle.queue_plain.specs.Story.{Begun, Does, Doing, begun_in, acts_in}
use Rattle.queue_plain.proofs.Stories.{take_more, queue_now, known_count}
use Rattle.bounded_words.specs.declared.Width.{Width}
use Rattle.bounded_words.specs.declared.Stamp.{Stamp}
use Rattle.bounded_places.specs.declared.Answer.{Answer}
use Rattle.bounded_places.specs.declared.Place.{Place}
use Rattle.bounded_places.specs.declared.Place.TheVariants.{Idle, F7}
use Rattle.bounded_places.specs.declared.Worker.{Worker}
use Rattle.bounded_places.specs.Places.{view_of, begin_of}
use Rattle.bounded_machine.specs.declared.Machine.{Machine}
use Rattle.bounded_machine.specs.declared.Event.{Event}
use Rattle.bounded_machine.specs.Machine.{idler}
use Rattle.bounded_machine.specs.Turn.{beginner, begun, acted}
use Rattle.bounded_machine.proofs.Kept.{few_workers}
use Rattle.bounded_demands.specs.Notions.{InWidestWindow}
use Rattle.bounded_demands.specs.Stories.{Story, known, change_of, actor, one_step, OnlySuch}
use Rattle.bounded_proof_invariant.proofs.Ring.{Shared}
use Rattle.bounded_proof_each_act.proofs.Sight.{Age}
use Rattle.bounded_proof_demand2.proofs.Turns.{Turned, began, did, stood}
use Rattle.bounded_proof_demand2.proofs.Lists.{Last, Earlier, split_end}
use Rattle.bounded_proof_demand2.proofs.Pictured.{Base}
use Rattle.bounded_proof_demand2.proofs.Reached.{recent_in}
use Rattle.bounded_proof_plain.proofs.Shelf.{each_begun, each_unbegun, queue_begun, moment_begun, moment_past}
use Rattle.bounded_proof_plain.proofs.Told.{Told, told_act, told_begun, act_behind, begun_behind, same_event}
use Rattle.bounded_proof_plain.proofs.Line.{Line, none_one, extended, extended_steps, extended_kept, extended_queue, extended_last}
use Rattle.bounded_proof_plain.proofs.Lined.{Each, Asks, Held, StepOf, AnswerStep, Lined, Pending, out_of}
use Rattle.bounded_proof_plain.proofs.OneStep.{line_act}

-- ---- a call begun

begun_not_f7 : (b : Call) (t : Stamp) (x : ℕ) → begin_of b ≡ F7 t x → ⊥
begun_not_f7 (call.Push y) t x e = let z : ◌≡◌ {A = ℕ} 0 1 = cc in omega arith
begun_not_f7 (call.ForcePush y) t x e = let z : ◌≡◌ {A = ℕ} 0 1 = cc in omega arith
begun_not_f7 call.Pop t x e = let z : ◌≡◌ {A = ℕ} 0 1 = cc in omega arith
begun_not_f7 call.Len t x e = let z : ◌≡◌ {A = ℕ} 0 1 = cc in omega arith
begun_not_f7 call.IsEmpty t x e = let z : ◌≡◌ {A = ℕ} 0 1 = cc in omega arith
begun_not_f7 call.IsFull t x e = let z : ◌≡◌ {A = ℕ} 0 1 = cc in omega arith
begun_not_f7 call.Close t x e = let z : ◌≡◌ {A = ℕ} 0 1 = cc in omega arith
begun_not_f7 call.IsClosed t x e = let z : ◌≡◌ {A = ℕ} 0 1 = cc in omega arith

module _ (c ed : ℕ) (m now : Machine) (st : Story) (s : Shared) (ages : ℕ → Age) (o : Lined c ed m st s ages) (w : ℕ) (cl : Call) (fits : one_step ed cl ≡ true)
    (idle : (view_of (stood m w)).busy ≡ false)
    (mine : stood now w ≡ begin_of cl) (stays : (j : ℕ) → j ≢ w → stood now j ≡ stood m j) where
  abbrev st' : Story
  st' = st ++ Begun w cl ∷ []

  longer : length (st ++ Begun w cl ∷ []) ≡ length st + 1
  longer = length-append st (Begun w cl ∷ []) ∙ omega arith

  queue_same : (known c ed st').queue ≡ (known c ed st).queue
  queue_same = queue_begun c ed st w cl

  abbrev Here : Queue
  Here = o.line.queues (length st)

  here_flag : (Here.closed ≡ (known c ed st).queue.closed) × (Here.capacity ≡ c)
  here_flag =
      let f = o.line.flags (length st) (omega arith) in
      (f.0 ∙ ap (λ (z : Queue). z.closed) (queue_now actor (change_of ed) c st), f.1)

  few : 0 ≤ 1
  few = omega arith

  abbrev line : Line c ed st'
  line =
      extended c ed st o.line (Begun w cl) [] Here few refl (λ x h. none_one x h) (λ x h. none_one x h)
      (here_flag.0 ∙ ap (λ (z : Queue). z.closed) (sym queue_same)) here_flag.1

  steps_were : (k : ℕ) (x : Step) → line.steps k ≡ x ∷ [] → o.line.steps k ≡ x ∷ []
  steps_were k x h =
      go (extended_steps c ed st o.line (Begun w cl) [] Here few refl (λ x h. none_one x h) (λ x h. none_one x h)
      (here_flag.0 ∙ ap (λ (z : Queue). z.closed) (sym queue_same)) here_flag.1 k x h)
    where
      go : ((k ≡ length st) × ([] ≡ x ∷ [])) ⊎ (o.line.steps k ≡ x ∷ []) → o.line.steps k ≡ x ∷ []
      go (inl z) = none_one x z.1
      go (inr z) = z

  steps_at : (k : ℕ) → k < length st → line.steps k ≡ o.line.steps k
  steps_at k h =
      extended_kept c ed st o.line (Begun w cl) [] Here few refl (λ x h. none_one x h) (λ x h. none_one x h) (here_flag.0 ∙ ap (λ (z : Queue). z.closed) (sym queue_same)) here_flag.1 k h

  kept : (k : ℕ) (x : Step) → o.line.steps k ≡ x ∷ [] → line.steps k ≡ x ∷ []
  kept k x h = steps_at k (o.line.inside k x h) ∙ h

  queue_at : (k : ℕ) → k ≤ length st → line.queues k ≡ o.line.queues k
  queue_at k h =
      extended_queue c ed st o.line (Begun w cl) [] Here few refl (λ x h. none_one x h) (λ x h. none_one x h) (here_flag.0 ∙ ap (λ (z : Queue). z.closed) (sym queue_same)) here_flag.1 k h

  queue_last : line.queues (length st') ≡ Here
  queue_last =
      extended_last c ed st o.line (Begun w cl) [] Here few refl (λ x h. none_one x h) (λ x h. none_one x h) (here_flag.0 ∙ ap (λ (z : Queue). z.closed) (sym queue_same)) here_flag.1

  mine_each : Each c ed st' w ≡ record { calls = cl ∷ []; begun = (known c ed st).count; puts = []; takes = [] }
  mine_each = each_begun c ed st w cl

  same_each : (j : ℕ) → j ≢ w → Each c ed st' j ≡ Each c ed st j
  same_each = each_unbegun c ed st w cl

  -- the one that began asks nothing yet
  nothing_asked : (k : ℕ) → Asks c ed now st' w k → ⊥
  nothing_asked k a =
      let few = moment_past c ed w st k (sym (moment_begun c ed st w cl w) ∙ a.named) in
      omega (arith, a.begun, ap (λ (z : Doing). z.begun) mine_each, known_count actor (change_of ed) c st, few)

  asked : (j k : ℕ) → j ≢ w → Asks c ed now st' j k → Asks c ed m st j k
  asked j k far a =
      let same = same_each j far in
      record {
        kind = a.kind;
        item = a.item;
        busy = ap (λ (z : Place). (view_of z).busy) (sym (stays j far)) ∙ a.busy;
        its = ap (λ (z : Doing). z.calls) (sym same) ∙ a.its;
        puts = ap (λ (z : Doing). z.puts) (sym same) ∙ a.puts;
        takes = ap (λ (z : Doing). z.takes) (sym same) ∙ a.takes;
        named = sym (moment_begun c ed st w cl j) ∙ a.named;
        begun = omega (arith, ap (λ (z : Doing). z.begun) same, a.begun);
      }

  held_on : (j k : ℕ) → j ≢ w → Asks c ed now st' j k → Held c ed st' line s (ages j) j k
  held_on j k far a =
      let h = o.held j k (asked j k far a) in
      let same = same_each j far in
      let early : take k st' ≡ take k st = take_more k st (Begun w cl) (omega (arith, h.short)) in
      record {
        short = omega (arith, h.short, longer);
        free = steps_at k h.short ∙ h.free;
        then_its = ap (λ (z : Story). (Each c ed z j).calls) early ∙ h.then_its ∙ ap (λ (z : Doing). z.calls) (sym same);
        then_begun = ap (λ (z : Story). (Each c ed z j).begun) early ∙ h.then_begun ∙ ap (λ (z : Doing). z.begun) (sym same);
        old = h.old;
        calm =
            λ full tails heads.
            let was = h.calm full tails heads in (
              λ i low high. items i low high h was (ℕ_discrete i (length st')),
              λ i x low is v r. was.1 i x low (steps_were i x is) v r,
            );
      }
    where
      items : (i : ℕ) → k ≤ i → i ≤ length st' → Held c ed st o.line s (ages j) j k
          → ((i : ℕ) → k ≤ i → i ≤ length st → (o.line.queues i).items ≡ (known c ed st).queue.items)
          × ((i : ℕ) (x : Step) → k ≤ i → o.line.steps i ≡ x ∷ [] → (v : ℕ) → x.reply ≡ plain.Displaced v → ⊥)
          → Dec (i ≡ length st') → (line.queues i).items ≡ (known c ed st').queue.items
      items i low high h was (yes z) =
          ap (λ (y : ℕ). (line.queues y).items) z ∙ ap (λ (y : Queue). y.items) queue_last ∙ was.0 (length st) (omega (arith, h.short)) (omega arith) ∙ ap (λ (y : Queue). y.items) (sym queue_same)
      items i low high h was (no z) =
          let few : i ≤ length st = omega (arith, longer) in
          ap (λ (y : Queue). y.items) (queue_at i few) ∙ was.0 i low few ∙ ap (λ (y : Queue). y.items) (sym queue_same)

  split : (P : ℕ → Type 0) → P w → ((j : ℕ) → j ≢ w → P j) → (j : ℕ) → P j
  split P own other j = go (ℕ_discrete j w)
    where
      go : Dec (j ≡ w) → P j
      go (yes z) = rw z own
      go (no z) = other j z

  busy_was : (j : ℕ) → j ≢ w → (view_of (stood now j)).busy ≡ true → (view_of (stood m j)).busy ≡ true
  busy_was j far h = ap (λ (z : Place). (view_of z).busy) (sym (stays j far)) ∙ h

  step_kept : (j : ℕ) (r : Reply) → j ≢ w → StepOf c ed st o.line j r → StepOf c ed st' line j r
  step_kept j r far p =
      let same = same_each j far in
      record {
        at = p.at;
        step = p.step;
        is = kept p.at p.step p.is;
        begun = omega (arith, ap (λ (z : Doing). z.begun) same, p.begun);
        by = p.by;
        call = ap (λ (z : Doing). z.calls) same ∙ p.call;
        reply = p.reply;
      }

  pub lined_begun : Lined c ed now st' s ages
  lined_begun =
      record {
        line = line;
        pend = o.pend;
        last = ap (λ (z : Queue). z.items) queue_last ∙ o.last ∙ ap (λ (z : Queue). z.items ++ o.pend) (sym queue_same);
        pending = pending_on o.pending;
        answered = λ earlier later act a h said. answer earlier later act a said (split_end st (Begun w cl) earlier (Does act) later h);
        ok =
            split (λ (j : ℕ). (b : Call) → (Each c ed st' j).calls ≡ b ∷ [] → one_step ed b ≡ true)
            (λ b h. let z : cl ∷ [] ≡ b ∷ [] = ap (λ (y : Doing). y.calls) (sym mine_each) ∙ h in let same : cl ≡ b = cc in subst (λ (y : Call). one_step ed y ≡ true) same fits)
            (λ j far b h. o.ok j b (ap (λ (y : Doing). y.calls) (sym (same_each j far)) ∙ h));
        open1 = λ h. ap (λ (z : Queue). z.closed) queue_same ∙ o.open1 h;
        ats = λ j. ((o.ats j).0, moment_begun c ed st w cl j ∙ (o.ats j).1);
        unstepped =
            split (λ (j : ℕ). (view_of (stood now j)).busy ≡ true → (Each c ed st' j).puts ≡ [] → (Each c ed st' j).takes ≡ [] → (i : ℕ) (x : Step)
            → line.steps i ≡ x ∷ [] → x.worker ≡ j → i < (Each c ed st' j).begun)
            (λ b p t i x h by. omega (arith, o.line.inside i x (steps_were i x h), ap (λ (z : Doing). z.begun) mine_each, known_count actor (change_of ed) c st))
            (λ j far b p t i x h by.
            let same = same_each j far in
            omega (
              arith,
              o.unstepped j (busy_was j far b) (ap (λ (z : Doing). z.puts) (sym same) ∙ p) (ap (λ (z : Doing). z.takes) (sym same) ∙ t) i x
                  (steps_were i x h) by,
              ap (λ (z : Doing). z.begun) same,
            ));
        entered =
            split (λ (j : ℕ). (v : ℕ) → (view_of (stood now j)).busy ≡ true → (Each c ed st' j).puts ≡ v ∷ [] → (Each c ed st' j).takes ≡ [] → StepOf c ed st' line j plain.Pushed)
            (λ v b p t. absurd (let q : ◌≡◌ {A = ℕ} 0 1 = ap length (ap (λ (z : Doing). z.puts) (sym mine_each) ∙ p) in omega arith))
            (λ j far v b p t. let same = same_each j far in
            step_kept j plain.Pushed far (o.entered j v (busy_was j far b) (ap (λ (z : Doing). z.puts) (sym same) ∙ p) (ap (λ (z : Doing). z.takes) (sym same) ∙ t)));
        taken =
            split (λ (j : ℕ). (v : ℕ) (b : Call) → (view_of (stood now j)).busy ≡ true → (Each c ed st' j).takes ≡ v ∷ [] → (Each c ed st' j).calls ≡ b ∷ [] → StepOf c ed st' line j (out_of b v))
            (λ v b y t p. absurd (let q : ◌≡◌ {A = ℕ} 0 1 = ap length (ap (λ (z : Doing). z.takes) (sym mine_each) ∙ t) in omega arith))
            (λ j far v b y t p. let same = same_each j far in
            step_kept j (out_of b v) far (o.taken j v b (busy_was j far y) (ap (λ (z : Doing). z.takes) (sym same) ∙ t) (ap (λ (z : Doing). z.calls) (sym same) ∙ p)));
        held = split (λ (j : ℕ). (k : ℕ) → Asks c ed now st' j k → Held c ed st' line s (ages j) j k) (λ k a. absurd (nothing_asked k a)) (λ j far k a. held_on j k far a);
        apart = λ i j k ne a b. apart_on i j k ne a b (ℕ_discrete i w) (ℕ_discrete j w);
      }
    where
      pending_on : Pending m o.pend → Pending now o.pend
      pending_on (inl z) = inl (z.0, λ j t x h. none j t x h (ℕ_discrete j w))
        where
          none : (j : ℕ) (t : Stamp) (x : ℕ) → stood now j ≡ F7 t x → Dec (j ≡ w) → ⊥
          none j t x h (yes y) = begun_not_f7 cl t x (sym mine ∙ ap (stood now) (sym y) ∙ h)
          none j t x h (no y) = z.1 j t x (sym (stays j y) ∙ h)
      pending_on (inr z) =
          let far : z.0 ≢ w = λ y. true≢false (sym (ap (λ (v : ℕ). (view_of (stood m v)).busy) (sym y) ∙ ap (λ (v : Place). (view_of v).busy) z.3) ∙ idle) in
          inr (z.0, z.1, z.2, stays z.0 far ∙ z.3, z.4)

      answer : (earlier later : Story) (act : Event) (a : Answer) → act.after ≡ Idle a
          → Last st (Begun w cl) earlier (Does act) later ⊎ Earlier st (Begun w cl) earlier (Does act) later → AnswerStep c ed st' line earlier act a
      answer earlier later act a so (inl p) = absurd (let y = p.one in let q : ◌≡◌ {A = ℕ} 0 1 = cc in omega arith)
      answer earlier later act a so (inr p) =
          let r = o.answered earlier p.left act a p.was so in
          record {
            at = r.at;
            step = r.step;
            is = kept r.at r.step r.is;
            begun = r.begun;
            inside = r.inside;
            by = r.by;
            call = r.call;
            reply = r.reply;
          }

      apart_on : (i j k : ℕ) → i ≢ j → Asks c ed now st' i k → Asks c ed now st' j k → Dec (i ≡ w) → Dec (j ≡ w) → ⊥
      apart_on i j k ne a b (yes x) d = nothing_asked k (subst (λ (z : ℕ). Asks c ed now st' z k) x a)
      apart_on i j k ne a b (no x) (yes y) = nothing_asked k (subst (λ (z : ℕ). Asks c ed now st' z k) y b)
      apart_on i j k ne a b (no x) (no y) = o.apart i j k ne (asked i k x a) (asked j k y b)

-- ---- every accepted entry

pub only_first : (such : Call → Bool) (a b : Story) → OnlySuch such (a ++ b) → OnlySuch such a
only_first such [] b h = tt
only_first such (Begun w cl ∷ a) b h = (h.0, only_first such a b h.1)
only_first such (Does e ∷ a) b h = only_first such a b h

pub only_last : (such : Call → Bool) (a b : Story) → OnlySuch such (a ++ b) → OnlySuch such b
only_last such [] b h = h
only_last such (Begun w cl ∷ a) b h = only_last such a b h.1
only_last such (Does e ∷ a) b h = only_last such a b h

module _ (bits : Width) (c n workers : ℕ) (base : Base bits c n workers) (ed : ℕ) where
  pub record Both (m : Machine) (st : Story) : Type 0 where
    pub told : Told bits c n workers base ed m st
    pub lined : Lined c ed m st told.reached.ring told.reached.pictured.ages

  placed : (m : Machine) (st : Story) (o : Told bits c n workers base ed m st) (w : ℕ) (cl : Call) → w < m.count → stood (begun m w (begin_of cl)) w ≡ begin_of cl
  unfolding begun
  placed m st o w cl l =
      let pic = o.reached.pictured in
      ap (λ (z : Worker). z.place) (get_or-set_same m.workers w (beginner (begin_of cl)) idler (omega (arith, pic.workers_long, few_workers m pic.unbroken)))

  elsewhere : (m : Machine) (w : ℕ) (cl : Call) (j : ℕ) → j ≢ w → stood (begun m w (begin_of cl)) j ≡ stood m j
  unfolding begun
  elsewhere m w cl j far = ap (λ (z : Worker). z.place) (get_or-set_other m.workers w j (beginner (begin_of cl)) idler far)

  pub both_kept : (m : Machine) (st : Story) (en : Entry) (after_it : Machine) (acts : List Event) → Both m st → InWidestWindow bits m (acts_in st)
      → OnlySuch (one_step ed) (begun_in en ++ map Does acts) → Turned bits m en after_it acts
      → Both after_it (st ++ (begun_in en ++ map Does acts))
  both_kept m st en after_it acts b window only (began w cl l idle) =
      record {
        told = told_begun bits c n workers base ed m st b.told w l cl idle;
        lined =
            begun_behind bits c n workers base ed m st b.told w l cl idle (Lined c ed (begun m w (begin_of cl)) (st ++ Begun w cl ∷ []))
            (lined_begun c ed m (begun m w (begin_of cl)) st b.told.reached.ring b.told.reached.pictured.ages b.lined w cl only.0 idle
            (placed m st b.told w cl l) (elsewhere m w cl));
      }
  both_kept m st en after_it acts b window only (did w lose l busy early) =
      let o = b.told in
      let young = recent_in bits c n workers base m o.h o.reached (subst (InWidestWindow bits m) o.acts window) w in
      subst (λ (e : Event). Both (acted bits m w (stood m w) lose) (st ++ Does e ∷ [])) (sym (same_event bits c n workers base ed m st o w l lose busy young early))
      (record {
        told = told_act bits c n workers base ed m st o w l lose busy young early;
        lined =
            act_behind bits c n workers base ed m st o w l lose busy young early (Lined c ed (acted bits m w (stood m w) lose) _)
            (line_act bits c n workers base ed m st o w l lose busy young early b.lined);
      })
