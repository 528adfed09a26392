-- Alone, and with no exchange that the schedule makes fail, a worker goes back at most once while no other has a slot in hand.
use mathlib.Core.Path.{◌≡◌, refl, sym, ap, ◌∙◌, subst}
use mathlib.Core.Logic.{◌≢◌}
use mathlib.Core.Bool.{Bool, true, false, cond}
use mathlib.Core.List.{List, [], ◌∷◌, ◌++◌, append-nil}
use Prim.Native.Nat.{ℕ, ◌+◌, ◌≤◌, ◌<◌}
use native.Mathlib.Omega.{arith}
use native.Mathlib.Decide.{ℕ_discrete}
use Rattle.queue_entries.specs.Limits.{workers_most}
use Rattle.queue_entries.specs.declared.Call.{Call}
use Rattle.queue_entries.specs.declared.Entry.{Entry}
use Rattle.bounded_words.specs.declared.Width.{Width}
use Rattle.bounded_words.specs.declared.Width.TheVariants.{SixtyFour}
use Rattle.bounded_words.specs.Words.{mark_of}
use Rattle.bounded_places.specs.declared.Loss.TheVariants.{BySchedule}
use Rattle.bounded_places.specs.declared.Worker.{Worker}
use Rattle.bounded_places.specs.Places.{view_of, begin_of}
use Rattle.bounded_machine.specs.declared.Machine.{Machine}
use Rattle.bounded_machine.specs.declared.Event.{Event}
use Rattle.bounded_machine.specs.Machine.{idler, fresh_with}
use Rattle.bounded_machine.specs.Turn.{beginner, begun}
use Rattle.bounded_machine.specs.History.{loss_at}
use Rattle.bounded_machine.proofs.Kept.{placed}
use Rattle.bounded_causes.specs.declared.Watch.{Watch}
use Rattle.bounded_causes.specs.Causes.{watched_most, stand_of, goes_back_of, watch_of, others_hold}
use Rattle.bounded_demands.specs.Notions.{with_records, document01, AllowedWith, KeepsWidestWindow, acts_of, InWidestWindow, goes_back_at, other_hand, Alone, goings_back, causes_in}
use Rattle.bounded_demands.specs.Demands.{BackOnce, AloneBackOnce, Retried, RetriesUnderEverySchedule, RetriesInWindow}
use Rattle.bounded_proof_each_act.proofs.Sight.{look, Recent}
use Rattle.bounded_proof_demand2.proofs.Turns.{Turned, began, did, stood}
use Rattle.bounded_proof_demand2.proofs.Pictured.{Base}
use Rattle.bounded_proof_demand2.proofs.Reached.{laps_of, base_of, along, recent_in}
use Rattle.bounded_proof_demand2.proofs.Always.{always, widens}
use Rattle.bounded_proof_causes.proofs.Rows.{Clean, begin_clean}
use Rattle.bounded_proof_causes.proofs.Folds.{others_stay}
use Rattle.bounded_proof_causes.proofs.Causes as causes
use Rattle.bounded_proof_causes.proofs.Causes.{kept, Causing, causing_kept, fresh_causing, few_held}

-- ---- lists that grow at their end

nil_both : {A : Type 0} (before behind : List A) → [] ≡ before ++ behind → (before ≡ []) × (behind ≡ [])
nil_both [] behind e = (refl, sym e)
nil_both (b ∷ before) behind e = absurd (let q : ◌≡◌ {A = ℕ} 0 1 = cc in omega arith)

-- A list with one more at its end, cut in two: the last is in the first part or in the second.
data Cut {A : Type 0} (xs : List A) (y : A) (before behind : List A) : Type 0 where
  whole : before ≡ xs ++ y ∷ [] → behind ≡ [] → Cut xs y before behind
  part : (left : List A) → behind ≡ left ++ y ∷ [] → xs ≡ before ++ left → Cut xs y before behind

cut : {A : Type 0} (xs : List A) (y : A) (before behind : List A) → xs ++ y ∷ [] ≡ before ++ behind → Cut xs y before behind
cut xs y [] behind e = part xs (sym e) refl
cut [] y (b ∷ before) behind e =
    let z = nil_both before behind cc in
    let q : b ≡ y = cc in
    whole (rw (z.0, q)) z.1
cut {A} (x ∷ xs) y (b ∷ before) behind e = go (cut xs y before behind cc)
  where
    head_same : b ≡ x
    head_same = cc

    go : Cut xs y before behind → Cut (x ∷ xs) y (b ∷ before) behind
    go (whole p q) = whole (rw (head_same, p)) q
    go (part left p q) = part left p (rw (head_same, q))

goings_end : (h : List Event) (e : Event) → goings_back (h ++ e ∷ []) ≡ goings_back h + cond (goes_back_at e) 1 0
unfolding goings_back
goings_end [] e = omega arith
goings_end (a ∷ h) e = omega (arith, goings_end h e)

alone_end : (w : ℕ) (h : List Event) (e : Event) → Alone w (h ++ e ∷ []) → Alone w h × (e.worker ≡ w) × (e.loss ≢ BySchedule)
alone_end w [] e a = (tt, a.0, a.1)
alone_end w (x ∷ h) e a = let z = alone_end w h e a.2 in ((a.0, a.1, z.0), z.1, z.2)

-- ---- along a history

-- After acts of w alone: the others still have no slot in hand, it has gone back at most once, and if it has then no cause is kept.
abbrev Sole : Machine → List Event → ℕ → List Event → Type 0
Sole m h w alone = (other_hand w h ≡ false) × (goings_back alone ≤ 1) × (goings_back alone ≡ 1 → Clean (watch_of (kept h) w) (stood m w))

abbrev Soles : Machine → List Event → Type 0
Soles m h = (earlier alone : List Event) (w : ℕ) → h ≡ earlier ++ alone → Alone w alone → other_hand w earlier ≡ false → Sole m h w alone

no_acts : (m : Machine) (h : List Event) (w : ℕ) → other_hand w h ≡ false → Sole m h w []
unfolding goings_back
no_acts m h w free = (free, omega arith, λ k. absurd (omega arith))

module _ (bits : Width) (c n workers : ℕ) (base : Base bits c n workers) (team : workers ≤ watched_most) where
  record Once (m : Machine) (h : List Event) : Type 0 where
    pub causing : Causing bits c n workers base team m h
    pub soles : Soles m h
    pub once : BackOnce h

  begun_soles : (m : Machine) (h : List Event) (w : ℕ) (q : Call) → Soles m h → Soles (begun m w (begin_of q)) h
  unfolding begun
  begun_soles m h w q o earlier alone v e a free =
      let s = o earlier alone v e a free in
      (s.0, s.1, λ k. placed m.workers w v (beginner (begin_of q)) idler (λ (z : Worker). Clean (watch_of (kept h) v) z.place) (λ i. begin_clean (watch_of (kept h) v) q) (s.2 k))

  module _ (m : Machine) (h : List Event) (o : Once m h) (w : ℕ) (l : w < m.count) (lose : Bool) (busy : (view_of (stood m w)).busy ≡ true)
      (young : Recent c (mark_of c) n o.causing.behind.ring (o.causing.behind.pictured.ages w) (look c (stood m w))) where
    abbrev next : Machine
    next = causes.next bits c n workers base team m h o.causing w l lose busy young

    abbrev new : Event
    new = causes.new bits c n workers base team m h o.causing w l lose busy young

    own : (left : List Event) → Sole m h w left → loss_at bits m w lose ≢ BySchedule → Sole next (h ++ new ∷ []) w (left ++ new ∷ [])
    own left s un = let q = go (goes_back_at new) refl in (free, q.0, q.1)
      where
        goes : {b : Bool} → goes_back_at new ≡ b → goes_back_of (stand_of (stood m w)) (stand_of (causes.does bits c n workers base team m h o.causing w l lose busy young).place) ≡ b
        goes e = sym (causes.goes bits c n workers base team m h o.causing w l lose busy young) ∙ e

        free : other_hand w (h ++ new ∷ []) ≡ false
        free =
            ap (λ (xs : List Watch). others_hold xs w) (causes.kept_next bits c n workers base team m h o.causing w l lose busy young)
            ∙ others_stay w (causes.deed bits c n workers base team m h o.causing w l lose busy young) (kept h) o.causing.long s.0

        there : Clean (causes.now bits c n workers base team m h o.causing w l lose busy young) (causes.does bits c n workers base team m h o.causing w l lose busy young).place
            → Clean (watch_of (kept (h ++ new ∷ [])) w) (stood next w)
        there z =
            subst (λ (y : Watch). Clean y (stood next w)) (sym (causes.own_next bits c n workers base team m h o.causing w l lose busy young))
            (subst (Clean (causes.now bits c n workers base team m h o.causing w l lose busy young)) (sym (causes.went bits c n workers base team m h o.causing w l lose busy young)) z)

        none : goes_back_at new ≡ true → Dec (goings_back left ≡ 1) → goings_back left ≡ 0
        none b (yes k) = absurd ((causes.its_row bits c n workers base team m h o.causing w l lose busy young).alone (goes b) s.0 (s.2 k) un)
        none b (no k) = omega (arith, s.1)

        go : (b : Bool) → goes_back_at new ≡ b
            → (goings_back (left ++ new ∷ []) ≤ 1) × (goings_back (left ++ new ∷ []) ≡ 1 → Clean (watch_of (kept (h ++ new ∷ [])) w) (stood next w))
        go true b =
            let up : goings_back (left ++ new ∷ []) ≡ goings_back left + 1 = goings_end left new ∙ ap (λ (z : Bool). goings_back left + cond z 1 0) b in
            (omega (arith, up, none b (ℕ_discrete (goings_back left) 1)), λ k. there ((causes.its_row bits c n workers base team m h o.causing w l lose busy young).cleaned (goes b)))
        go false b =
            let same : goings_back (left ++ new ∷ []) ≡ goings_back left + 0 = goings_end left new ∙ ap (λ (z : Bool). goings_back left + cond z 1 0) b in
            (omega (arith, same, s.1), λ k. there ((causes.its_row bits c n workers base team m h o.causing w l lose busy young).clean s.0 (s.2 (omega (arith, same)))))

    soles_next : Soles next (h ++ new ∷ [])
    soles_next earlier alone v e a free = go (cut h new earlier alone e)
      where
        go : Cut h new earlier alone → Sole next (h ++ new ∷ []) v alone
        go (whole p q) = rw q (no_acts next (h ++ new ∷ []) v (subst (λ (z : List Event). other_hand v z ≡ false) p free))
        go (part left p q) =
            let z = alone_end v left new (subst (Alone v) p a) in
            rw p
            (subst (λ (u : ℕ). Sole next (h ++ new ∷ []) u (left ++ new ∷ [])) z.1
            (own left (subst (λ (u : ℕ). Sole m h u left) (sym z.1) (o.soles earlier left v q z.0 free)) z.2))

    once_next : BackOnce (h ++ new ∷ [])
    once_next earlier alone later v e a free = go (cut h new (earlier ++ alone) later e)
      where
        go : Cut h new (earlier ++ alone) later → goings_back alone ≤ 1
        go (whole p q) = (soles_next earlier alone v (sym p) a free).1
        go (part left p q) = o.once earlier alone left v q a free

  once_kept : (m : Machine) (h : List Event) (en : Entry) (next_machine : Machine) (acts : List Event) → Once m h → InWidestWindow bits m h → Turned bits m en next_machine acts
      → Once next_machine (h ++ acts)
  once_kept m h en next_machine acts o window (began w q l idle) =
      record {
        causing = causing_kept bits c n workers base team m h en next_machine acts o.causing window (began w q l idle);
        soles = rw (append-nil h) (begun_soles m h w q o.soles);
        once = rw (append-nil h) o.once;
      }
  once_kept m h en next_machine acts o window (did w lose l busy early) =
      let young = recent_in bits c n workers base m h o.causing.behind window w in
      record {
        causing = causing_kept bits c n workers base team m h en next_machine acts o.causing window (did w lose l busy early);
        soles = soles_next m h o w l lose busy young;
        once = once_next m h o w l lose busy young;
      }

-- every schedule that keeps the window
back_once : (bits : Width) (records capacity workers edition : ℕ) (a : AllowedWith records capacity workers edition) (team : workers ≤ watched_most) (s : List ℕ)
    → KeepsWidestWindow (with_records records bits) (fresh_with records capacity workers edition) [] s → BackOnce (acts_of (with_records records bits) capacity workers edition s)
unfolding goings_back
back_once bits records capacity workers edition a team s keeps =
    let n = laps_of bits capacity in
    let base = base_of bits records capacity workers edition a in
    let m = fresh_with records capacity workers edition in
    (along bits (InWidestWindow bits) (Once bits capacity n workers base team) (once_kept bits capacity n workers base team) s m [] 0 keeps
    (record {
      causing = fresh_causing bits records capacity workers edition a team;
      soles = λ earlier alone w e b free.
          let z = nil_both earlier alone e in
          subst (Sole m [] w) (sym z.1) (no_acts m [] w (subst (λ (y : List Event). other_hand w y ≡ false) z.0 free));
      once = λ earlier alone later w e b free.
          let z = nil_both earlier alone (sym (nil_both (earlier ++ alone) later e).0) in
          subst (λ (y : List Event). goings_back y ≤ 1) (sym z.1) (omega arith);
    })
    ).once

pub alone_back_once : AloneBackOnce document01
alone_back_once capacity workers edition a s = back_once SixtyFour workers_most capacity workers edition a (few_held capacity workers edition a) s (always workers_most capacity workers edition a s)

-- ---- all that is said of retries
pub retries_in : (bits : Width) (records capacity workers edition : ℕ) → AllowedWith records capacity workers edition → workers ≤ watched_most → (s : List ℕ)
    → KeepsWidestWindow (with_records records bits) (fresh_with records capacity workers edition) [] s → Retried causes_in (acts_of (with_records records bits) capacity workers edition s)
retries_in bits records capacity workers edition a team s keeps =
    let o = causes.reached_causing bits records capacity workers edition a team s keeps in
    record { caused = o.caused; len = o.lens; ways = o.ways; once = back_once bits records capacity workers edition a team s keeps }

pub retries_in_window : (bits : Width) (records : ℕ) → RetriesInWindow (with_records records bits) causes_in
retries_in_window bits records capacity workers edition a team s keeps =
    retries_in bits records capacity workers edition a team s (widens (with_records records bits) (fresh_with records capacity workers edition) [] s keeps)

pub retries_always : (records : ℕ) → RetriesUnderEverySchedule (with_records records SixtyFour) causes_in
retries_always records capacity workers edition a team s = retries_in SixtyFour records capacity workers edition a team s (always records capacity workers edition a s)
