-- `len`'s count is true at its head load.
use mathlib.Core.Path.{◌≡◌, refl, sym, ap, ◌∙◌, subst}
use mathlib.Core.Logic.{◌≢◌}
use mathlib.Core.Bool.{Bool, true, false, cond, true≢false}
use mathlib.Core.List.{List, [], ◌∷◌, ◌++◌, append_assoc, append-nil}
use Prim.Native.Nat.{ℕ, ◌+◌, ◌*◌, ◌≤◌, ◌<◌, ◌-◌}
use native.Mathlib.Omega.{arith}
use lib.Dec.{eqb}
use lib.ListN.{length, length-append}
use lib.Seq.{get_or-set_other}
use borrow.Author.Tests.{eqb-true, ne_eqb}
use Rattle.queue_entries.specs.Schedules.{run_by, history_by}
use Rattle.queue_entries.specs.declared.Order.TheVariants.{Act}
use Rattle.queue_entries.specs.declared.Entry.{Entry}
use Rattle.queue_entries.specs.declared.Entry.TheVariants.{Asks}
use Rattle.queue_entries.specs.Entries.{entry_of}
use Rattle.bounded_words.specs.declared.Stamp.{Stamp}
use Rattle.bounded_words.specs.Words.{mark_of, same}
use Rattle.bounded_words.specs.declared.Width.{Width}
use Rattle.bounded_words.specs.declared.Width.TheVariants.{SixtyFour}
use Rattle.bounded_places.specs.declared.Ends.{Ends}
use Rattle.bounded_places.specs.declared.Slot.{Slot}
use Rattle.bounded_places.specs.declared.Answer.TheVariants.{Len}
use Rattle.bounded_places.specs.declared.Place.{Place}
use Rattle.bounded_places.specs.declared.Place.TheVariants.{Idle, Len1, Len2, Len3}
use Rattle.bounded_places.specs.declared.Worker.{Worker}
use Rattle.bounded_places.specs.Places.{view_of, begin_of}
use Rattle.bounded_acts.specs.Acts.{goes, count_of}
use Rattle.bounded_machine.specs.declared.Machine.{Machine}
use Rattle.bounded_machine.specs.declared.Event.{Event}
use Rattle.bounded_machine.specs.Machine.{idler, fresh_with}
use Rattle.bounded_machine.specs.Turn.{turn_at, turn_of_by, beginner, begun, acted_by, stored}
use Rattle.bounded_machine.specs.Run.{ran, run_at}
use Rattle.bounded_machine.specs.History.{events_of, history_at, moved_of, untaken_of}
use Rattle.bounded_demands.specs.Notions.{with_records, AllowedWith, machine_after, acts_of, Acts, LenAnswers, Unmoved, tail_by, tailers_of, tally, holding_at, holds}
use Rattle.bounded_demands.specs.Notions.{is_new, gives_to, since_from, since, InWidestWindow, KeepsWidestWindow}
use Rattle.bounded_demands.specs.Demands.{LenTrue}
use Rattle.bounded_proof_invariant.proofs.Width.{Near, turn_long}
use Rattle.bounded_proof_each_act.proofs.Stamps.{fixed, W, tail_word, tails_one}
use Rattle.bounded_proof_each_act.proofs.Sight.{look, ends_of_ring, Stands}
use Rattle.bounded_proof_demand2.proofs.Turns.{Turned, began, did, turned, stood, event_of}
use Rattle.bounded_proof_demand2.proofs.Counts.{count_is, tally_tail}
use Rattle.bounded_proof_demand2.proofs.Window.{since_end}
use Rattle.bounded_proof_demand2.proofs.Pictured.{Base}
use Rattle.bounded_proof_demand2.proofs.Reached.{Reached, young_in, entered_in, entries, at_end, laps_of, base_of}
use Rattle.bounded_proof_demand2.proofs.Always.{Metered, metered_kept, always, always_from, metered_in}
use Rattle.bounded_proof_demand2.proofs.Answers.{Done, acts_done, leads}
use Rattle.bounded_proof_demand2.proofs.Contents.{untaken_is}
use Rattle.bounded_proof_demand2.proofs.Demand2.{reached}

unmoved_split : (w : ℕ) (a b : List Event) → Unmoved w (a ++ b) → Unmoved w a × Unmoved w b
unmoved_split w [] b o = (tt, o)
unmoved_split w (e ∷ a) b o = let r = unmoved_split w a b o.1 in ((o.0, r.0), r.1)

-- a busy worker that does not act stays where it is
turn_stays : (bits : Width) (m : Machine) (en : Entry) (next : Machine) (acts : List Event) (w : ℕ) → Turned bits m en next acts → Unmoved w acts
    → (view_of (stood m w)).busy ≡ true → stood next w ≡ stood m w
unfolding begun acted_by stored
turn_stays bits m en next acts w (began v call l idle) o busy =
    let far : w ≢ v = λ e. true≢false (sym busy ∙ ap (λ (z : ℕ). (view_of (stood m z)).busy) e ∙ idle) in
    ap (λ (z : Worker). z.place) (get_or-set_other m.workers v w (beginner (begin_of call)) idler far)
turn_stays bits m en next acts w (did v lose l b early) o busy =
    let far : w ≢ v = λ e. o.0 (sym e) in
    ap (λ (z : Worker). z.place) (get_or-set_other m.workers v w _ idler far)

one_stays : (bits : Width) (m : Machine) (first second w : ℕ) → (turn_at bits m first second).refusal ≡ 0
    → Unmoved w (events_of bits m (entry_of first second) (turn_at bits m first second).machine) → (view_of (stood m w)).busy ≡ true
    → stood (turn_at bits m first second).machine w ≡ stood m w
unfolding turn_of_by
one_stays bits m first second w e o busy = turn_stays bits m (entry_of first second) _ _ w (turned bits m (entry_of first second) e) o busy

run_stays : (bits : Width) (s : List ℕ) (m : Machine) (place w : ℕ) → Unmoved w (history_at bits m s) → (view_of (stood m w)).busy ≡ true
    → stood (run_at bits m place s).machine w ≡ stood m w
unfolding run_by history_by ran
run_stays bits [] m place w o busy = refl
run_stays bits (first ∷ []) m place w o busy = refl
run_stays bits (first ∷ second ∷ rest) m place w o busy =
    go (run_stays bits rest (turn_at bits m first second).machine (place + 1) w) (eqb (turn_at bits m first second).refusal 0) refl o
  where
    go : (Unmoved w (history_at bits (turn_at bits m first second).machine rest) → (view_of (stood (turn_at bits m first second).machine w)).busy ≡ true
        → stood (run_at bits (turn_at bits m first second).machine (place + 1) rest).machine w ≡ stood (turn_at bits m first second).machine w)
        → (b : Bool) → eqb (turn_at bits m first second).refusal 0 ≡ b
        → Unmoved w (cond b (events_of bits m (entry_of first second) (turn_at bits m first second).machine ++ history_at bits (turn_at bits m first second).machine rest) [])
        → stood (cond b (run_at bits (turn_at bits m first second).machine (place + 1) rest) (ran (turn_at bits m first second).refusal place m)).machine w ≡ stood m w
    go more true e u =
        let p = unmoved_split w (events_of bits m (entry_of first second) (turn_at bits m first second).machine) (history_at bits (turn_at bits m first second).machine rest) u in
        let q = one_stays bits m first second w (eqb-true _ 0 e) p.0 busy in
        more p.1 (ap (λ (z : Place). (view_of z).busy) q ∙ busy) ∙ q
    go more false e u = refl

-- tail claims only grow
tailers_append : (a b : List Event) → length (tailers_of (a ++ b)) ≡ length (tailers_of a) + length (tailers_of b)
unfolding tailers_of
tailers_append [] b = omega arith
tailers_append (e ∷ a) b =
    let x = tail_by (moved_of e.after) e.worker in
    omega (arith, length-append x (tailers_of (a ++ b)), length-append x (tailers_of a), tailers_append a b)

-- an answer of len, taken apart
len_said : (b : Bool) (e : Ends) (z : Slot) (k n : ℕ) → (cond b (goes e z (Idle (Len k))) (goes e z Len1)).place ≡ Idle (Len n) → (b ≡ true) × (n ≡ k)
unfolding goes
len_said true e z k n q = (refl, cc)
len_said false e z k n q = absurd (let y : ◌≡◌ {A = ℕ} 0 1 = cc in omega arith)

module _ (bits : Width) (c n workers : ℕ) (base : Base bits c n workers) (m : Machine) (h : List Event) (r : Reached c n workers m h) (w : ℕ) where
  abbrev mark : ℕ
  mark = mark_of c

  -- the head load
  module _ {records : ℕ} (t : Stamp) (at : stood m w ≡ Len2 t) (loaded : Machine) (load : Acts (with_records records bits) m w loaded) where
    done : Done bits m w load.lose loaded
    done = acts_done bits m w loaded load

    pub reached_loaded : InWidestWindow bits m h → Reached c n workers loaded (h ++ event_of bits m w load.lose loaded ∷ [])
    reached_loaded window =
        subst (λ (z : Machine). Reached c n workers z (h ++ event_of bits m w load.lose z ∷ [])) (sym done.is)
        (entered_in bits c n workers base m h (Asks w (Act load.lose)) _ _ r window (did w load.lose done.team done.busy done.early))

    pub stands_loaded : stood loaded w ≡ Len3 t (W c mark n r.ring.head)
    unfolding goes
    stands_loaded = (leads bits c n workers base m h r w loaded (Len2 t) load at).2

    tail_seen : Stands c mark n r.ring w (r.pictured.ages w) (look c (Len2 t))
    tail_seen = subst (λ (z : Place). Stands c mark n r.ring w (r.pictured.ages w) (look c z)) at (r.pictured.stands w)

    -- the answer, on a machine on which no fewer tail claims were made, and not a turn more
    pub counted : (m₂ : Machine) (h₂ : List Event) (r₂ : Reached c n workers m₂ h₂) → r.ring.tail ≤ r₂.ring.tail → r₂.ring.tail + c < (r.pictured.ages w).tail + n * c
        → stood m₂ w ≡ Len3 t (W c mark n r.ring.head) → (answered : Machine) → Acts (with_records records bits) m₂ w answered → (k : ℕ) → stood answered w ≡ Idle (Len k)
        → k ≡ r.ring.tail - r.ring.head
    counted m₂ h₂ r₂ up late stays answered act k is =
        let E = ends_of_ring c mark n r₂.ring r₂.pictured.shut in
        let l = leads bits c n workers base m₂ h₂ r₂ w answered (Len3 t (W c mark n r.ring.head)) act stays in
        let q =
        len_said (same E.tail t) E l.0 (count_of (fixed c mark m₂.ring.edition) t (W c mark n r.ring.head)) k (sym l.2 ∙ is) in
        let near : Near (n * c) r₂.ring.tail tail_seen.0 = omega (arith, late, tail_seen.3, tail_seen.4, turn_long c mark n base.ground.laws) in
        let y : same E.tail (tail_word c mark n tail_seen.0 tail_seen.1) ≡ true = ap (same E.tail) (sym tail_seen.2) ∙ q.0 in
        let one : r₂.ring.tail ≡ tail_seen.0 = tails_one bits c mark n base.ground r₂.ring.tail tail_seen.0 r₂.pictured.shut tail_seen.1 near y in
        let now : r.ring.tail ≡ tail_seen.0 = omega (arith, tail_seen.3) in
        q.1 ∙ ap (λ (z : Stamp). count_of (fixed c mark m₂.ring.edition) z (W c mark n r.ring.head)) tail_seen.2
        ∙ count_is bits c mark n m₂.ring.edition base.ground r.ring.head tail_seen.0 tail_seen.1 (omega (arith, r.pictured.inv.low)) (omega (arith, r.pictured.inv.high))
        ∙ ap (λ (z : ℕ). z - r.ring.head) (sym now)

-- acts of others leave a worker's word as old as it was
since_unmoved : (w : ℕ) (acts h : List Event) → Unmoved w h → since_from w acts h ≡ acts ++ h
unfolding since_from
since_unmoved w acts [] o = sym (append-nil acts)
since_unmoved w acts (e ∷ h) o =
    rw (ne_eqb e.worker w o.0) (since_unmoved w (acts ++ e ∷ []) h o.1 ∙ append_assoc acts (e ∷ []) h)

since_append : (w : ℕ) (acts a b : List Event) → since_from w acts (a ++ b) ≡ since_from w (since_from w acts a) b
unfolding since_from
since_append w acts [] b = refl
since_append w acts (e ∷ a) b = since_append w (cond (gives_to w e) [] (acts ++ e ∷ [])) a b

-- the head load leaves the older word
since_load : (w : ℕ) (h : List Event) (e : Event) (rest : List Event) (t d : Stamp) → e.after ≡ Len3 t d → Unmoved w rest
    → length (tailers_of (since w ((h ++ e ∷ []) ++ rest))) ≡ length (tailers_of (since w h)) + length (tailers_of (e ∷ rest))
since_load w h e rest t d q o =
    let keeps : gives_to w e ≡ false = ap (λ (p : Place). cond (eqb e.worker w) (is_new (holding_at p)) false) q ∙ neither (eqb e.worker w) in
    let z : since w ((h ++ e ∷ []) ++ rest) ≡ (since w h ++ e ∷ []) ++ rest =
    since_append w [] (h ++ e ∷ []) rest ∙ since_unmoved w (since w (h ++ e ∷ [])) rest o
    ∙ ap (λ (l : List Event). l ++ rest) (since_end w [] h e ∙ ap (λ (b : Bool). cond b [] (since w h ++ e ∷ [])) keeps) in
    ap (λ (l : List Event). length (tailers_of l)) (z ∙ append_assoc (since w h) (e ∷ []) rest) ∙ tailers_append (since w h) (e ∷ rest)
  where
    neither : (b : Bool) → cond b false false ≡ false
    neither true = refl
    neither false = refl

module _ (bits : Width) (records capacity workers edition : ℕ) (a : AllowedWith records capacity workers edition) (s : List ℕ)
    (keeps : KeepsWidestWindow (with_records records bits) (fresh_with records capacity workers edition) [] s) where
  pub len_in : (w k : ℕ) (o : LenAnswers (with_records records bits) capacity workers edition s w k)
      → KeepsWidestWindow (with_records records bits) o.loaded (acts_of (with_records records bits) capacity workers edition s ++ event_of bits
      (machine_after (with_records records bits) capacity workers edition s) w o.load.lose o.loaded ∷ []) o.rest
      → k ≡ untaken_of (tally (acts_of (with_records records bits) capacity workers edition s))
  len_in w k o onward =
      let n = laps_of bits capacity in
      let base = base_of bits records capacity workers edition a in
      let m = machine_after (with_records records bits) capacity workers edition s in
      let h = acts_of (with_records records bits) capacity workers edition s in
      let r = reached bits records capacity workers edition a s keeps in
      let e = event_of bits m w o.load.lose o.loaded in
      let r₁ = reached_loaded bits capacity n workers base m h r w o.tail o.loads o.loaded o.load (at_end bits (fresh_with records capacity workers edition) [] s keeps) in
      let r₂ = entries bits capacity n workers base o.rest o.loaded (h ++ e ∷ []) 0 onward r₁ in
      let p = stands_loaded bits capacity n workers base m h r w o.tail o.loads o.loaded o.load in
      let stays = run_stays bits o.rest o.loaded 0 w o.still (ap (λ (z : Place). (view_of z).busy) p) ∙ p in
      let late = history_at bits o.loaded o.rest in
      let grown : r₂.ring.tail ≡ r.ring.tail + length (tailers_of (e ∷ history_at bits o.loaded o.rest)) =
      omega (
        arith,
        r.logged.lists.tailers_are.long,
        r₂.logged.lists.tailers_are.long,
        tailers_append (h ++ e ∷ []) (history_at bits o.loaded o.rest),
        tailers_append h (e ∷ []),
        tailers_append (e ∷ []) (history_at bits o.loaded o.rest),
      ) in
      let young = young_in bits capacity n workers base _ _ r₂ (at_end bits o.loaded (h ++ e ∷ []) o.rest onward) w (ap (λ (z : Place). holds (holding_at z)) stays) in
      let aged : r₂.ring.tail + capacity < (r.pictured.ages w).tail + n * capacity =
      omega (
        arith,
        young,
        grown,
        (r.dated w).0,
        (r₂.dated w).0,
        tally_tail (since w h),
        tally_tail (since w ((h ++ e ∷ []) ++ history_at bits o.loaded o.rest)),
        since_load w h e (history_at bits o.loaded o.rest) o.tail (W capacity (mark_of capacity) n r.ring.head) p o.still,
      ) in
      counted bits capacity n workers base m h r w o.tail o.loads o.loaded o.load _ _ r₂ (omega (arith, grown)) aged stays o.answered o.answer k o.is
      ∙ sym (untaken_is bits capacity n workers base m h r)

pub len_true : (records : ℕ) → LenTrue (with_records records SixtyFour)
len_true records capacity workers edition a s w k o =
    let m = machine_after (with_records records SixtyFour) capacity workers edition s in
    let h = acts_of (with_records records SixtyFour) capacity workers edition s in
    let d = acts_done SixtyFour m w o.loaded o.load in
    let loaded : Metered capacity o.loaded (h ++ event_of SixtyFour m w o.load.lose o.loaded ∷ []) =
    subst (λ (z : Machine). Metered capacity z (h ++ event_of SixtyFour m w o.load.lose z ∷ [])) (sym d.is)
    (metered_kept SixtyFour capacity m h (Asks w (Act o.load.lose)) _ _ (metered_in SixtyFour records capacity workers edition s) (did w o.load.lose d.team d.busy d.early)) in
    len_in SixtyFour records capacity workers edition a s (always records capacity workers edition a s) w k o (always_from records capacity workers edition a o.loaded _ loaded o.rest)
