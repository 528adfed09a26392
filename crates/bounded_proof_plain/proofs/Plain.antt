-- Every run of the ring is a run of a plain queue, proved.
use mathlib.Core.Path.{◌≡◌, refl, sym, ap, ◌∙◌, subst}
use mathlib.Core.Bool.{Bool, true, false, cond, true≢false}
use mathlib.Core.List.{List, [], ◌∷◌, ◌++◌, append_assoc}
use Prim.Native.Nat.{ℕ, suc, ◌+◌, ◌-◌, ◌<◌}
use native.Mathlib.Omega.{arith}
use lib.ListN.{length, get_or, length-drop}
use lib.Seq.{get_or-drop, ext_get_or}
use Rattle.queue_entries.specs.Entries.{entry_of}
use Rattle.queue_plain.specs.Story.{Does, elements_by, acts_in, known_from}
use Rattle.queue_plain.specs.Story.{items_of as items_begun}
use Rattle.queue_plain.proofs.Stories.{acts_story, in_order}
use Rattle.queue_schedules.proofs.Histories.{entries_lead_while}
use Rattle.bounded_words.specs.declared.Stamp.{Stamp}
use Rattle.bounded_words.specs.declared.Width.{Width}
use Rattle.bounded_words.specs.declared.Width.TheVariants.{SixtyFour}
use Rattle.bounded_words.specs.Words.{mark_of}
use Rattle.bounded_places.specs.declared.Ends.{Ends}
use Rattle.bounded_places.specs.declared.Answer.{Answer}
use Rattle.bounded_places.specs.declared.Kind.TheVariants.{Push, Force}
use Rattle.bounded_places.specs.declared.Place.{Place}
use Rattle.bounded_places.specs.declared.Place.TheVariants.{Idle, P1, P2, P3, P4, P5, P6, F6, F7, F8, F9, O1, O2, O3, O4, O5, O6, Len1, Len2, Len3, Empty1, Empty2, Full1, Full2, Close1, IsClosed1}
use Rattle.bounded_places.specs.declared.Worker.{Worker}
use Rattle.bounded_places.specs.Places.{view_of}
use Rattle.bounded_machine.specs.declared.Machine.{Machine}
use Rattle.bounded_machine.specs.declared.Did.{Did}
use Rattle.bounded_machine.specs.declared.Event.{Event}
use Rattle.bounded_machine.specs.Machine.{starts, fresh_with, ends_on}
use Rattle.bounded_machine.specs.Turn.{turn_at, turn_of_by}
use Rattle.bounded_machine.specs.Run.{run_at}
use Rattle.bounded_machine.specs.History.{events_of}
use Rattle.bounded_demands.specs.Notions.{with_records, AllowedWith, machine_after, acts_of, item_at, items_of, takers_of, tally, waiting, InHand, hand_f7, hand_f8}
use Rattle.bounded_demands.specs.Notions.{hand_f9, hand_o4, hand_o5, InWidestWindow, KeepsWidestWindow}
use Rattle.bounded_demands.specs.Stories.{Story, story_of, known, change_of, actor, At, moment_of}
use Rattle.bounded_demands.specs.Demands.{PlainThroughout, AnswersPlain, AnswersPlainInWindow}
use Rattle.bounded_demands.proofs.Refusals.{ring_queue}
use Rattle.bounded_proof_invariant.proofs.Ring.{Shared}
use Rattle.bounded_proof_each_act.proofs.Sight.{Age}
use Rattle.bounded_proof_demand2.proofs.Turns.{turned, stood}
use Rattle.bounded_proof_demand2.proofs.Counts.{tally_head}
use Rattle.bounded_proof_demand2.proofs.Reached.{Reached, laps_of, base_of, fresh_record, nil_split}
use Rattle.bounded_proof_demand2.proofs.Contents.{contents_are}
use Rattle.bounded_proof_demand2.proofs.Always.{always, widens}
use Rattle.bounded_proof_demand2.proofs.Demand2.{fresh_reached}
use Rattle.bounded_proof_plain.proofs.Work.{task, Due}
use Rattle.bounded_proof_plain.proofs.Rows.{pushed_item}
use Rattle.bounded_proof_plain.proofs.Told.{Told, told_kept}

-- ---- lists

one_more_none : {P : Type 0} (l : List ℕ) (v : ℕ) (more : List ℕ) → l ≡ [] → l ≡ v ∷ more → P
one_more_none l v more a b = absurd (let q : ◌≡◌ {A = ℕ} 0 (suc (length more)) = ap length (sym a ∙ b) in omega arith)

one_more_one : (l : List ℕ) (u v : ℕ) (more : List ℕ) → l ≡ u ∷ [] → l ≡ v ∷ more → more ≡ []
one_more_one l u v more a b = let q : u ∷ [] ≡ v ∷ more = sym a ∙ b in cc

module _ (c n ed : ℕ) (st : Story) (s : Shared) (age : Age) (w : ℕ) where
  abbrev D : Place → Type 0
  D p = Due c n ed st s age w (task p)

  abbrev Has : Place → ℕ → List ℕ → Type 0
  Has p v more = (more ≡ []) × (t : Stamp) × InHand p t

  hand_of : (p : Place) → (view_of p).busy ≡ true → D p → (v : ℕ) (more : List ℕ) → ((known c ed st).each w).takes ≡ v ∷ more → Has p v more
  hand_of (Idle a) busy o v more e = absurd (true≢false (sym busy))
  hand_of (P1 k x) busy o v more e = one_more_none _ v more o.takes e
  hand_of (P2 k t x) busy o v more e = one_more_none _ v more o.work.takes e
  hand_of (P3 k t x) busy o v more e = one_more_none _ v more o.work.takes e
  hand_of (P4 t x) busy o v more e = one_more_none _ v more o.1.work.takes e
  hand_of (P5 t) busy o v more e = one_more_none _ v more o.2.work.takes e
  hand_of (P6 t x) busy o v more e = one_more_none _ v more o.work.takes e
  hand_of (F6 t x) busy o v more e = one_more_none _ v more o.work.takes e
  hand_of (F7 t x) busy o v more e = (one_more_one _ o.v v more o.work.takes e, t, hand_f7)
  hand_of (F8 t x) busy o v more e = (one_more_one _ o.v v more o.work.takes e, t, hand_f8)
  hand_of (F9 t old) busy o v more e = (one_more_one _ o.1.v v more o.1.work.takes e, t, hand_f9)
  hand_of O1 busy o v more e = one_more_none _ v more o.takes e
  hand_of (O2 h) busy o v more e = one_more_none _ v more o.takes e
  hand_of (O3 h) busy o v more e = one_more_none _ v more o.takes e
  hand_of (O4 h) busy o v more e = (one_more_one _ o.v v more o.work.takes e, h, hand_o4)
  hand_of (O5 h y) busy o v more e = (one_more_one _ o.v v more o.work.takes e, h, hand_o5)
  hand_of (O6 h) busy o v more e = one_more_none _ v more o.takes e
  hand_of Len1 busy o v more e = one_more_none _ v more o.takes e
  hand_of (Len2 t) busy o v more e = one_more_none _ v more o.0.takes e
  hand_of (Len3 t h) busy o v more e = one_more_none _ v more o.work.takes e
  hand_of Empty1 busy o v more e = one_more_none _ v more o.takes e
  hand_of (Empty2 h) busy o v more e = one_more_none _ v more o.0.takes e
  hand_of Full1 busy o v more e = one_more_none _ v more o.takes e
  hand_of (Full2 t) busy o v more e = one_more_none _ v more o.0.takes e
  hand_of Close1 busy o v more e = one_more_none _ v more o.takes e
  hand_of IsClosed1 busy o v more e = one_more_none _ v more o.takes e

  abbrev Came : ℕ → Type 0
  Came x = items_begun ((known c ed st).each w).calls ≡ x ∷ []

  no_item : {P : Type 0} (x : ℕ) → [] ≡ x ∷ [] → P
  no_item x e = absurd (let q : ◌≡◌ {A = ℕ} 0 1 = cc in omega arith)

  item_of_lem : (p : Place) → D p → (x : ℕ) → item_at p ≡ x ∷ [] → Came x
  item_of_lem (Idle a) o x e = no_item x e
  item_of_lem (P1 k y) o x e = ap items_begun o.its ∙ pushed_item k y ∙ e
  item_of_lem (P2 k t y) o x e = ap items_begun o.work.its ∙ pushed_item k y ∙ e
  item_of_lem (P3 k t y) o x e = ap items_begun o.work.its ∙ pushed_item k y ∙ e
  item_of_lem (P4 t y) o x e = ap items_begun o.1.work.its ∙ pushed_item o.0 y ∙ e
  item_of_lem (P5 t) o x e = no_item x e
  item_of_lem (P6 t y) o x e = ap items_begun o.work.its ∙ pushed_item Push y ∙ e
  item_of_lem (F6 t y) o x e = ap items_begun o.work.its ∙ pushed_item Force y ∙ e
  item_of_lem (F7 t y) o x e = ap items_begun o.work.its ∙ pushed_item Force y ∙ e
  item_of_lem (F8 t y) o x e = ap items_begun o.work.its ∙ pushed_item Force y ∙ e
  item_of_lem (F9 t old) o x e = no_item x e
  item_of_lem O1 o x e = no_item x e
  item_of_lem (O2 h) o x e = no_item x e
  item_of_lem (O3 h) o x e = no_item x e
  item_of_lem (O4 h) o x e = no_item x e
  item_of_lem (O5 h v) o x e = no_item x e
  item_of_lem (O6 h) o x e = no_item x e
  item_of_lem Len1 o x e = no_item x e
  item_of_lem (Len2 t) o x e = no_item x e
  item_of_lem (Len3 t h) o x e = no_item x e
  item_of_lem Empty1 o x e = no_item x e
  item_of_lem (Empty2 h) o x e = no_item x e
  item_of_lem Full1 o x e = no_item x e
  item_of_lem (Full2 t) o x e = no_item x e
  item_of_lem Close1 o x e = no_item x e
  item_of_lem IsClosed1 o x e = no_item x e

at_one : (i j : ℕ) → At i ≡ At j → i ≡ j
at_one i j e = cc

module _ (bits : Width) (records c workers ed : ℕ) (a : AllowedWith records c workers ed) where
  abbrev pub n : ℕ
  n = laps_of bits c

  abbrev pub Tells : Machine → Story → Type 0
  Tells = Told bits c n workers (base_of bits records c workers ed a) ed

  -- ---- from what is told to the statement
  module _ (m : Machine) (st : Story) (o : Tells m st) where
    abbrev r : Reached c n workers m o.h
    r = o.reached

    wait : waiting o.h ≡ (known c ed st).queue.items
    wait =
        let l = r.logged.lists in
        let k = (tally o.h).head.0 in
        let heads : (tally o.h).head.0 ≡ r.ring.head = tally_head o.h ∙ l.takers_are.long in
        let long : length (waiting o.h) ≡ length (items_of o.h) - (tally o.h).head.0 = length-drop (tally o.h).head.0 (items_of o.h) in
        ext_get_or 0 (waiting o.h) (known c ed st).queue.items (omega (arith, long, heads, l.items_are.long, o.shelf.long))
        (λ i z. let in_List : i < length (known c ed st).queue.items = omega (arith, long, heads, l.items_are.long, o.shelf.long) in
        get_or-drop k (items_of o.h) i 0 ∙ ap (λ (y : ℕ). get_or (items_of o.h) (y + i) 0) heads ∙ l.items_are.at (r.ring.head + i) (omega (arith, o.shelf.long)) ∙ sym (o.shelf.at i in_List))

    in_call_order : (earlier between later : Story) (one two : Event) (x y : Answer) (i j : ℕ) → st ≡ earlier ++ Does one ∷ between ++ Does two ∷ later → one.after ≡ Idle x → two.after ≡ Idle y
        → length earlier < ((known c ed (earlier ++ Does one ∷ between)).each two.worker).begun → moment_of c ed one.worker (earlier ++ Does one ∷ []) ≡ At i
        → moment_of c ed two.worker (earlier ++ Does one ∷ between ++ Does two ∷ []) ≡ At j → i < j
    in_call_order earlier between later one two x y i j is said_one said_two late at_i at_j =
        let p = (o.answers earlier (between ++ Does two ∷ later) one x (is ∙ append_assoc earlier (Does one ∷ between) (Does two ∷ later)) said_one).0 in
        let q = (o.answers (earlier ++ Does one ∷ between) later two y is said_two).0 in
        let i_is : i ≡ p.moment = at_one i p.moment (sym at_i ∙ p.named) in
        let j_is : j ≡ q.moment = at_one j q.moment (sym at_j ∙ q.named) in
        omega (arith, p.inside, q.begun)

    plain_of : PlainThroughout c ed m o.h st
    plain_of =
        record {
          acts = o.acts;
          answers = o.answers;
          changes = o.changes;
          item_kept = λ w x e. item_of_lem c n ed st r.ring (r.pictured.ages w) w (stood m w) (o.dues w) x e;
          nothing_lost =
              record {
                in_order = in_order actor (change_of ed) c st;
                contents = λ idle. contents_are bits c n workers (base_of bits records c workers ed a) m o.h r idle ∙ wait;
                hands = λ w v more busy e. hand_of c n ed st r.ring (r.pictured.ages w) w (stood m w) busy (o.dues w) v more e;
              };
          call_order = in_call_order;
        }

  -- ---- the fresh machine

  fresh_ends : ends_on (fresh_with records c workers ed).ring ≡ starts
  unfolding fresh_with
  fresh_ends = refl

  fresh_edition : (fresh_with records c workers ed).ring.edition ≡ ed
  unfolding fresh_with
  fresh_edition = refl

  -- it is not closed
  clear : (b : Bool) (k : ℕ) → 0 ≡ cond b (k + mark_of c) k → false ≡ b
  clear false k e = refl
  clear true k e = absurd (omega (arith, (base_of bits records c workers ed a).ground.laws.room))

  pub told_first : Tells (fresh_with records c workers ed) []
  unfolding known_from acts_in items_of takers_of
  told_first =
      let z = fresh_reached bits records c workers ed a in
      let l = z.logged.lists in
      record {
        h = [];
        acts = refl;
        reached = z;
        edition = fresh_edition;
        shelf =
            record {
              long = omega (arith, l.items_are.long, l.takers_are.long);
              at = λ i h. absurd (omega arith);
              flag = clear z.pictured.shut _ (ap (λ (e : Ends). e.tail.0) (sym fresh_ends ∙ z.pictured.ends));
              room = refl;
            };
        dues = λ w. rw (ap (λ (y : Worker). y.place) (fresh_record records c workers ed w)) tt;
        answers = λ earlier later act x e said. absurd (nil_split earlier (Does act) later e);
        changes = λ earlier later act e. absurd (nil_split earlier (Does act) later e);
      }

  -- ---- along every schedule

  one_entry : (m : Machine) (st : Story) (i j : ℕ) → Tells m st → InWidestWindow bits m (acts_in st) → (turn_at bits m i j).refusal ≡ 0
      → Tells (turn_at bits m i j).machine (st ++ elements_by (events_of bits) m (entry_of i j) (turn_at bits m i j).machine)
  unfolding turn_of_by
  one_entry m st i j o window e = told_kept bits c n workers (base_of bits records c workers ed a) ed m st (entry_of i j) _ _ o window (turned bits m (entry_of i j) e)

  -- with whatever else each entry leads on
  module _ (Q : Machine → Story → Type 0) (step : (m : Machine) (st : Story) (i j : ℕ) → Tells m st → Q m st → (turn_at bits m i j).refusal ≡ 0
      → Q (turn_at bits m i j).machine (st ++ elements_by (events_of bits) m (entry_of i j) (turn_at bits m i j).machine)) (first : Q (fresh_with records c workers ed) []) where
    pub told_with : (s : List ℕ) → KeepsWidestWindow (with_records records bits) (fresh_with records c workers ed) [] s
        → Tells (machine_after (with_records records bits) c workers ed s) (story_of (with_records records bits) c workers ed s)
        × Q (machine_after (with_records records bits) c workers ed s) (story_of (with_records records bits) c workers ed s)
    told_with s keeps =
        entries_lead_while (ring_queue bits) (elements_by (events_of bits)) (λ (m : Machine) (st : Story). InWidestWindow bits m (acts_in st)) (λ (m : Machine) (st : Story). Tells m st × Q m st)
        (λ m st i j both window e. (one_entry m st i j both.0 window e, step m st i j both.0 both.1 e)) s (fresh_with records c workers ed) [] 0
        (λ before after e.
        subst (InWidestWindow bits (run_at bits (fresh_with records c workers ed) 0 before).machine)
        (sym (acts_story (λ (d : Did). d.refusal) (λ (d : Did). d.machine) (turn_at bits) (events_of bits) before (fresh_with records c workers ed)))
        (keeps before after e))
        (told_first, first)

  told_after : (s : List ℕ) → KeepsWidestWindow (with_records records bits) (fresh_with records c workers ed) [] s
      → Tells (machine_after (with_records records bits) c workers ed s) (story_of (with_records records bits) c workers ed s)
  told_after s keeps = (told_with (λ m st. Unit {0}) (λ m st i j o q e. tt) tt s keeps).0

pub plain_in : (bits : Width) (records c workers ed : ℕ) → AllowedWith records c workers ed → (s : List ℕ) → KeepsWidestWindow (with_records records bits) (fresh_with records c workers ed) [] s
    → PlainThroughout c ed (machine_after (with_records records bits) c workers ed s) (acts_of (with_records records bits) c workers ed s) (story_of (with_records records bits) c workers ed s)
plain_in bits records c workers ed a s keeps =
    let o = told_after bits records c workers ed a s keeps in
    subst (λ (h : List Event). PlainThroughout c ed (machine_after (with_records records bits) c workers ed s) h (story_of (with_records records bits) c workers ed s))
    (sym o.acts ∙ acts_story (λ (d : Did). d.refusal) (λ (d : Did). d.machine) (turn_at bits) (events_of bits) s (fresh_with records c workers ed))
    (plain_of bits records c workers ed a _ _ o)

pub plain_in_window : (bits : Width) (records : ℕ) → AnswersPlainInWindow (with_records records bits)
plain_in_window bits records c workers ed a s keeps = plain_in bits records c workers ed a s (widens (with_records records bits) (fresh_with records c workers ed) [] s keeps)

-- of 64 bits every schedule
pub answers_plain : (records : ℕ) → AnswersPlain (with_records records SixtyFour)
answers_plain records c workers ed a s = plain_in SixtyFour records c workers ed a s (always records c workers ed a s)
