-- What an answer says of the word at the act that decided it, and exactly when it is given.
use Prim.Native.Nat.{ℕ, ◌<◌}
use mathlib.Core.Path.{◌≡◌, refl, sym, ap, ◌∙◌, subst}
use mathlib.Core.Logic.{◌≢◌, ◌↔◌}
use mathlib.Core.Bool.{Bool, true, false, cond, true≢false}
use mathlib.Core.List.{List, [], ◌∷◌}
use native.Mathlib.Omega.{arith}
use lib.ListN.{length}
use borrow.Author.Tests.{eqb-true, eqb-false, eq-eqb, ne_eqb}
use Rattle.queue_entries.specs.declared.Call.{Call}
use Rattle.queue_entries.specs.declared.Call.TheVariants as call
use Rattle.queue_entries.specs.declared.Order.TheVariants.{Act}
use Rattle.queue_entries.specs.declared.Entry.{Entry}
use Rattle.queue_entries.specs.declared.Entry.TheVariants.{Asks}
use Rattle.queue_entries.specs.Entries.{entry_of}
use Rattle.queue_schedules.proofs.Schedules.{either}
use Rattle.single_words.specs.declared.State.{State}
use Rattle.single_words.specs.Words.{state, same, locked_in, pushed_in, closed_in, unlocked}
use Rattle.single_places.specs.declared.Single.{Single}
use Rattle.single_places.specs.declared.Answer.{Answer}
use Rattle.single_places.specs.declared.Answer.TheVariants.{Full, Closed, Empty, PopClosed, Len, Yes, No}
use Rattle.single_places.specs.declared.Place.{Place}
use Rattle.single_places.specs.declared.Place.TheVariants.{Idle, A1, A2, A3, B1, B2, B3, B4, B5, C1, C2, C3, Len1, Empty1, Full1, Close1, IsClosed1}
use Rattle.single_places.specs.Places.{view_of, begin_of}
use Rattle.single_acts.specs.Acts.{goes, act_of}
use Rattle.single_machine.specs.declared.Machine.{Machine}
use Rattle.single_machine.specs.declared.Did.{Did}
use Rattle.single_machine.specs.declared.Event.{Event}
use Rattle.single_machine.specs.Machine.{place_of, accepted}
use Rattle.single_machine.specs.Turn.{turn_of_by, turn, acted}
use Rattle.single_machine.specs.History.{events_of}
use Rattle.single_demands.specs.Notions.{source, Acts, Popping, popping_c2, popping_c3, waiting, closed_by, queue_answer, Looks, looks_len, looks_empty, looks_full}
use Rattle.single_demands.specs.Notions.{looks_close, looks_closed, FullWord, EmptyWord, PopClosedWord, Truth}
use Rattle.single_demands.specs.Demands.{AnswersTrue, Decides, Means, LookersTrue}
use Rattle.single_proof_demand2.proofs.Words.{word, locked_of, pushed_of, closed_of, same_is}
use Rattle.single_proof_demand2.proofs.Effects.{out_of, fills, Expects}
use Rattle.single_proof_demand2.proofs.Grip.{Grip, loose, held}
use Rattle.single_proof_demand2.proofs.Turns.{Turned, did, turned, stood}
use Rattle.single_proof_demand2.proofs.Reached.{Reached, hands, in_row, acted_stood}
use Rattle.single_proof_demand2.proofs.Hands.{pushed, closed_holds, pop_in_progress}

-- ---- what an accepted act did
pub record Did-act (m : Machine) (w : ℕ) (next : Machine) : Type 0 where
  pub mine : w < m.count
  pub busy : (view_of (stood m w)).busy ≡ true
  pub is : next ≡ acted m w (stood m w)

pub did_act : (m : Machine) (w : ℕ) (lose : Bool) (next : Machine) (l : List Event) → Turned m (Asks w (Act lose)) next l → Did-act m w next
did_act m w lose next l (did v k mine busy early) = record { mine = mine; busy = busy; is = refl }

pub acts_did : (m : Machine) (w : ℕ) (next : Machine) → Acts source m w next → Did-act m w next
unfolding turn_of_by accepted
acts_did m w next a =
    let e : turn m (entry_of a.first a.second) ≡ accepted next = a.done in
    let t = turned m (entry_of a.first a.second) (ap (λ (d : Did). d.refusal) e) in
    subst (Did-act m w) (ap (λ (d : Did). d.machine) e)
    (did_act m w a.lose _ _ (subst (λ (x : Entry). Turned m x (turn m (entry_of a.first a.second)).machine
    (events_of m (entry_of a.first a.second) (turn m (entry_of a.first a.second)).machine)) a.asks t))

-- ---- truth of an answer, place by place
abbrev TruthAt : State → Place → Type 0
TruthAt w (Idle a) = Truth w a
TruthAt w (A1 x) = Unit {0}
TruthAt w (A2 x) = Unit {0}
TruthAt w A3 = Unit {0}
TruthAt w (B1 e x) = Unit {0}
TruthAt w (B2 x) = Unit {0}
TruthAt w B3 = Unit {0}
TruthAt w (B4 x) = Unit {0}
TruthAt w (B5 old) = Unit {0}
TruthAt w (C1 e) = Unit {0}
TruthAt w C2 = Unit {0}
TruthAt w (C3 v) = Unit {0}
TruthAt w Len1 = Unit {0}
TruthAt w Empty1 = Unit {0}
TruthAt w Full1 = Unit {0}
TruthAt w Close1 = Unit {0}
TruthAt w IsClosed1 = Unit {0}

module _ (s : Single) where
  -- a word that is not 0
  other_word : same s.state (state 0) ≡ false → s.state.0 ≢ 0
  unfolding same
  other_word t = eqb-false s.state.0 0 t

  yes_no : (a b : Answer) (t : Bool) → Truth s.state a → Truth s.state b → Truth s.state (cond t a b)
  yes_no a b true p q = p
  yes_no a b false p q = q

  true_at : (p : Place) → (view_of p).busy ≡ true → TruthAt s.state (act_of s p).place
  unfolding goes
  true_at (Idle a) busy = absurd (true≢false (sym busy))
  true_at (A1 x) busy =
      either (TruthAt s.state) (same s.state (state 0)) (A2 x) (cond (closed_in s.state) (Idle (Closed x)) (Idle (Full x))) (λ t. tt)
      (λ t. either (TruthAt s.state) (closed_in s.state) (Idle (Closed x)) (Idle (Full x)) (λ d. d) (λ d. (other_word t, d)))
  true_at (A2 x) busy = tt
  true_at A3 busy = tt
  true_at (B1 e x) busy =
      either (TruthAt s.state) (closed_in s.state) (Idle (Closed x)) _ (λ d. d)
      (λ d. either (TruthAt s.state) (same s.state e) (cond (pushed_in s.state) (B4 x) (B2 x)) (B1 (unlocked s.state) x)
      (λ t. either (TruthAt s.state) (pushed_in s.state) (B4 x) (B2 x) (λ y. tt) (λ y. tt)) (λ t. tt))
  true_at (B2 x) busy = tt
  true_at B3 busy = tt
  true_at (B4 x) busy = tt
  true_at (B5 old) busy = tt
  true_at (C1 e) busy =
      either (TruthAt s.state) (same s.state e) C2 _ (λ t. tt)
      (λ t. either (TruthAt s.state) (pushed_in s.state) (C1 (unlocked s.state)) (cond (closed_in s.state) (Idle PopClosed) (Idle Empty)) (λ y. tt)
      (λ y. either (TruthAt s.state) (closed_in s.state) (Idle PopClosed) (Idle Empty) (λ d. (y, d)) (λ d. (y, d))))
  true_at C2 busy = tt
  true_at (C3 v) busy = tt
  true_at Len1 busy = refl
  true_at Empty1 busy = yes_no No Yes (pushed_in s.state) tt tt
  true_at Full1 busy = yes_no Yes No (pushed_in s.state) tt tt
  true_at Close1 busy = yes_no No Yes (closed_in s.state) tt tt
  true_at IsClosed1 busy = yes_no Yes No (closed_in s.state) tt tt

  -- ---- and the other way: where the word says so, the answer is given
  module _ (x : ℕ) where
    pub push_won : s.state.0 ≡ 0 → (act_of s (A1 x)).place ≡ A2 x
    unfolding goes same
    push_won z = rw (eq-eqb s.state.0 0 z)

    pub push_won_then : (act_of s (A1 x)).place ≡ A2 x → s.state.0 ≡ 0
    unfolding goes same
    push_won_then e = go (same s.state (state 0)) refl e
      where
        go : (t : Bool) → same s.state (state 0) ≡ t → cond t (A2 x) (cond (closed_in s.state) (Idle (Closed x)) (Idle (Full x))) ≡ A2 x → s.state.0 ≡ 0
        go true t q = eqb-true s.state.0 0 t
        go false t q = absurd (idle (closed_in s.state) q)
          where
            idle : (d : Bool) → cond d (Idle (Closed x)) (Idle (Full x)) ≡ A2 x → ⊥
            idle true q = true≢false (sym (ap (λ (p : Place). (view_of p).busy) q))
            idle false q = true≢false (sym (ap (λ (p : Place). (view_of p).busy) q))

    pub push_full : FullWord s.state → (act_of s (A1 x)).place ≡ Idle (Full x)
    unfolding goes same
    push_full f = rw (ne_eqb s.state.0 0 f.0, f.1)

    pub push_closed : closed_in s.state ≡ true → (act_of s (A1 x)).place ≡ Idle (Closed x)
    unfolding goes closed_in
    push_closed d = go (same s.state (state 0)) refl
      where
        go : (t : Bool) → same s.state (state 0) ≡ t → cond (same s.state (state 0)) (A2 x) (cond (closed_in s.state) (Idle (Closed x)) (Idle (Full x))) ≡ Idle (Closed x)
        go true t = absurd (true≢false (sym d ∙ ap closed_in (same_is s.state (state 0) t)))
        go false t = rw (t, d)

    pub force_closed : (e : State) → closed_in s.state ≡ true → (act_of s (B1 e x)).place ≡ Idle (Closed x)
    unfolding goes
    force_closed e d = rw d

  module _ (e : State) (k : Expects (C1 e)) where
    -- a word that is not pushed is not the one that pop expects
    unexpected : pushed_in s.state ≡ false → same s.state e ≡ false
    unexpected n = go (same s.state e) refl
      where
        go : (t : Bool) → same s.state e ≡ t → t ≡ false
        go true t = absurd (true≢false (sym (pushed_of s.state false true k.0 (same_is s.state e t ∙ k.1)) ∙ n))
        go false t = refl

    pub pop_empty : EmptyWord s.state → (act_of s (C1 e)).place ≡ Idle Empty
    unfolding goes
    pop_empty n = rw (unexpected n.0, n.0, n.1)

    pub pop_closed : PopClosedWord s.state → (act_of s (C1 e)).place ≡ Idle PopClosed
    unfolding goes
    pop_closed n = rw (unexpected n.0, n.0, n.1)

-- ---- what a one-slot queue answers at once
no_items : (q : List ℕ) → 0 ≡ length q → q ≡ []
no_items [] e = refl
no_items (v ∷ q) e = absurd (omega arith)

looks_pushed : (b : Bool) (q : List ℕ) → cond b 1 0 ≡ length q → (c : Bool)
    → (cond b No Yes ≡ queue_answer call.IsEmpty c q) × (cond b Yes No ≡ queue_answer call.IsFull c q)
looks_pushed true [] e c = absurd (omega arith)
looks_pushed true (v ∷ q) e c = (refl, refl)
looks_pushed false [] e c = (refl, refl)
looks_pushed false (v ∷ q) e c = absurd (omega arith)

-- ---- of the machine
module _ (workers : ℕ) (m : Machine) (h : List Event) (r : Reached workers m h) where
  -- the place that an accepted act leads to
  pub went : (w : ℕ) (next : Machine) → Did-act m w next → place_of next.workers w ≡ (act_of m.single (stood m w)).place
  went w next d = ap (λ (x : Machine). stood x w) d.is ∙ acted_stood m w (stood m w) (in_row workers m h r w d.mine)

  went_from : (w : ℕ) (next : Machine) (p : Place) → Acts source m w next → place_of m.workers w ≡ p → place_of next.workers w ≡ (act_of m.single p).place
  went_from w next p a e = went w next (acts_did m w next a) ∙ ap (λ (x : Place). (act_of m.single x).place) e

  pub answers_true : AnswersTrue source m
  answers_true w next a acts e =
      let d = acts_did m w next acts in
      subst (TruthAt m.single.state) (sym (went w next d) ∙ e) (true_at m.single (stood m w) d.busy)

  iff_at : (w : ℕ) (next : Machine) (p q : Place) (a : Answer) (P : Type 0) → Acts source m w next → place_of m.workers w ≡ p → q ≡ Idle a
      → (Truth m.single.state a → P) → (P → (act_of m.single p).place ≡ q) → (place_of next.workers w ≡ q ↔ P)
  iff_at w next p q a P acts e is f g =
      (λ z. f (answers_true w next a acts (z ∙ is)), λ y. went_from w next p acts e ∙ g y)

  pub decides : Decides source m
  decides =
      record {
        push_takes = λ w x next acts e.
            (λ z. push_won_then m.single x (sym (went_from w next (A1 x) acts e) ∙ z), λ z. went_from w next (A1 x) acts e ∙ push_won m.single x z);
        push_full = λ w x next acts e. iff_at w next (A1 x) (Idle (Full x)) (Full x) _ acts e refl (λ t. t) (push_full m.single x);
        push_closed = λ w x next acts e. iff_at w next (A1 x) (Idle (Closed x)) (Closed x) _ acts e refl (λ t. t) (push_closed m.single x);
        force_closed = λ w x b next acts e. iff_at w next (B1 b x) (Idle (Closed x)) (Closed x) _ acts e refl (λ t. t) (force_closed m.single x b);
        pop_empty = λ w b next acts e.
            iff_at w next (C1 b) (Idle Empty) Empty _ acts e refl (λ t. t) (pop_empty m.single b (subst Expects e (r.expects w)));
        pop_closed = λ w b next acts e.
            iff_at w next (C1 b) (Idle PopClosed) PopClosed _ acts e refl (λ t. t) (pop_closed m.single b (subst Expects e (r.expects w)));
      }

  -- nothing waits where the word is not pushed
  pub none_waits : pushed_in m.single.state ≡ false → waiting h ≡ []
  none_waits n = no_items (waiting h) (sym (ap (λ (b : Bool). cond b 1 0) n) ∙ pushed workers m h r)

  -- a pop in progress does not answer Full
  not_popping : (w x : ℕ) (next : Machine) → Did-act m w next → place_of next.workers w ≡ Idle (Full x) → Popping (stood m w) → ⊥
  unfolding goes
  not_popping w x next d e k = go (stood m w) k (sym (went w next d) ∙ e)
    where
      go : (p : Place) → Popping p → (act_of m.single p).place ≡ Idle (Full x) → ⊥
      go p popping_c2 q = true≢false (ap (λ (y : Place). (view_of y).busy) q)
      go p popping_c3 q = let z = ap (λ (y : Place). length (out_of y)) q in omega arith

  -- a word that is not 0, not pushed and not closed is locked
  locked_then : (w : State) (l b c : Bool) → w ≡ word l b c → w.0 ≢ 0 → pushed_in w ≡ false → closed_in w ≡ false → locked_in w ≡ true
  locked_then w l b c e ne n k = go l (locked_of w l b c e)
    where
      zero_word : l ≡ false → w.0 ≡ 0
      zero_word f = ap (λ (s : State). s.0) (e ∙ rw (f, sym (pushed_of w l b c e) ∙ n, sym (closed_of w l b c e) ∙ k))

      go : (y : Bool) → locked_in w ≡ y → locked_in w ≡ true
      go true q = q
      go false q = absurd (ne (zero_word (sym (locked_of w l b c e) ∙ q)))

  locked_at : m.single.state.0 ≢ 0 → pushed_in m.single.state ≡ false → closed_in m.single.state ≡ false → locked_in m.single.state ≡ true
  locked_at ne n k = go r.grip
    where
      go : Grip (hands m) m.single h r.closed → locked_in m.single.state ≡ true
      go (loose b is none s) = locked_then m.single.state false b r.closed is ne n k
      go (held u g hu is alone d) = locked_of m.single.state true (fills g) r.closed is

  -- where nothing waits, the word is not pushed
  pub unpushed : waiting h ≡ [] → pushed_in m.single.state ≡ false
  unpushed z = go (pushed_in m.single.state) refl
    where
      go : (b : Bool) → pushed_in m.single.state ≡ b → b ≡ false
      go true q = absurd (let e = sym (ap (λ (x : Bool). cond x 1 0) q) ∙ pushed workers m h r ∙ ap length z in omega arith)
      go false q = refl

  pub means : Means source m h
  means =
      record {
        full = λ w x next acts e.
            let t = answers_true w next (Full x) acts e in
            let d = acts_did m w next acts in (
              sym (closed_holds workers m h r) ∙ t.1,
              λ z.
                  let n = unpushed z in
                  let v = pop_in_progress workers m h r (locked_at t.0 n t.1) n in
                  (v.0, (λ q. not_popping w x next d e (subst (λ (y : ℕ). Popping (stood m y)) q v.1)), v.1),
            );
        empty = λ w next acts e. let t = answers_true w next Empty acts e in (sym (closed_holds workers m h r) ∙ t.1, none_waits t.0);
        closed = λ w x next acts e. sym (closed_holds workers m h r) ∙ answers_true w next (Closed x) acts e;
        pop_closed = λ w next acts e. let t = answers_true w next PopClosed acts e in (sym (closed_holds workers m h r) ∙ t.1, none_waits t.0);
      }

  pub lookers : LookersTrue source m h
  unfolding goes
  lookers w next c k acts e = went_from w next (begin_of c) acts e ∙ go c k
    where
      shut : Bool
      shut = closed_in m.single.state

      go : (c : Call) → Looks c → (act_of m.single (begin_of c)).place ≡ Idle (queue_answer c (closed_by h) (waiting h))
      go c looks_len = ap (λ (n : ℕ). Idle (Len n)) (pushed workers m h r)
      go c looks_empty = ap Idle (looks_pushed (pushed_in m.single.state) (waiting h) (pushed workers m h r) (closed_by h)).0
      go c looks_full = ap Idle (looks_pushed (pushed_in m.single.state) (waiting h) (pushed workers m h r) (closed_by h)).1
      go c looks_close = ap (λ (b : Bool). Idle (cond b No Yes)) (closed_holds workers m h r)
      go c looks_closed = ap (λ (b : Bool). Idle (cond b Yes No)) (closed_holds workers m h r)
