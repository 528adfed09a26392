-- Every run of the unbounded queue is a run of a plain queue without capacity, but for is_empty's no at a block's end, proved.
use Prim.Native.Nat.{ℕ, ◌<◌}
use native.Mathlib.Omega.{arith}
use mathlib.Core.Path.{◌≡◌, refl, sym, ap, ◌∙◌, subst}
use mathlib.Core.Logic.{◌⊎◌, inl, inr}
use mathlib.Core.Bool.{Bool, true, false, true≢false}
use mathlib.Core.List.{List, [], ◌∷◌, ◌++◌, append_assoc}
use lib.ListN.{length}
use Rattle.queue_entries.specs.Entries.{entry_of}
use Rattle.queue_schedules.proofs.Histories.{entries_lead}
use Rattle.queue_schedules.proofs.Splits.{cons_rest, no_cons, no_split}
use Rattle.queue_plain.specs.Story.{Does, elements_by, acts_in, items_of, known_from, followed_from}
use Rattle.queue_plain.proofs.Stories.{acts_story, in_order}
use Rattle.unbounded_words.specs.declared.Index.{Index}
use Rattle.unbounded_words.specs.Words.{sizes, marked_of}
use Rattle.unbounded_places.specs.declared.Answer.{Answer}
use Rattle.unbounded_places.specs.declared.Answer.TheVariants.{Nothing, Pushed, Closed, Popped, Empty, PopClosed, Len, Yes, No}
use Rattle.unbounded_places.specs.declared.Place.{Place}
use Rattle.unbounded_places.specs.declared.Place.TheVariants.{Idle, U1, U2, U3, U4, U5, U6, U7, U8, U9, U10, U11, U12, U13, U14, U15, V1, V2, V3, V4, V5, V6}
use Rattle.unbounded_places.specs.declared.Place.TheVariants.{V7, V8, V9, V10, V11, V12, V13, V14, V15, Len1, Len2, Len3, Empty1, Empty2, Full1, Close1}
use Rattle.unbounded_places.specs.declared.Place.TheVariants.{IsClosed1}
use Rattle.unbounded_places.specs.Places.{view_of}
use Rattle.unbounded_acts.specs.Acts.{act_of}
use Rattle.unbounded_machine.specs.declared.Machine.{Machine}
use Rattle.unbounded_machine.specs.declared.Did.{Did}
use Rattle.unbounded_machine.specs.declared.Event.{Event}
use Rattle.unbounded_machine.specs.Machine.{fresh_of}
use Rattle.unbounded_machine.specs.Turn.{turn_with}
use Rattle.unbounded_machine.specs.History.{events_of}
use Rattle.unbounded_demands.proofs.Refusals.{unbounded_queue}
use Rattle.unbounded_demands.specs.Notions.{Allowed, machine_after, acts_of, takers_of}
use Rattle.unbounded_demands.specs.Notions as notions
use Rattle.unbounded_demands.specs.Stories.{Story, story_of, Task, Rests, Starts, Tries, Given, Enters, Entered, Frees, Takes, LoadsHead, Counts, LooksAtTail}
use Rattle.unbounded_demands.specs.Stories.{task_of, item_in, change_of, actor, known, At, AfterNextTail, Moment, moment_of}
use Rattle.unbounded_demands.specs.Demands.{Answered, AtBlocksEnd, ContentsWait, PlainThroughout, AnswersPlain}
use Rattle.unbounded_proof_demand2.proofs.Turns.{stood, turned}
use Rattle.unbounded_proof_demand2.proofs.Demand2.{table, fresh_stood, fresh_reached, demand2}
use Rattle.unbounded_proof_plain.proofs.Work.{brought, FreesBy, Due}
use Rattle.unbounded_proof_plain.proofs.Told.{Told, told_kept}

-- ---- under way

restless : Task → Bool
restless (Rests a) = false
restless (Starts c) = true
restless (Tries x) = true
restless (Given t x) = true
restless (Enters x) = true
restless Entered = true
restless (Frees a) = true
restless Takes = true
restless (LoadsHead t) = true
restless (Counts t h) = true
restless (LooksAtTail h) = true

busy_is : (p : Place) → (view_of sizes p).busy ≡ restless (task_of p)
unfolding restless
busy_is (Idle a) = refl
busy_is (U1 n x) = refl
busy_is (U2 n t x) = refl
busy_is (U3 t b x) = refl
busy_is (U4 n t x) = refl
busy_is (U5 n t new x) = refl
busy_is (U6 n t new x) = refl
busy_is (U7 n t b x) = refl
busy_is (U8 n t x) = refl
busy_is (U9 n t b x) = refl
busy_is (U10 n t b x) = refl
busy_is (U11 n t b x) = refl
busy_is (U12 n t b x) = refl
busy_is (U13 n t b) = refl
busy_is (U14 n a) = refl
busy_is (U15 n new x) = refl
busy_is V1 = refl
busy_is (V2 h) = refl
busy_is (V3 h b) = refl
busy_is (V4 h b new) = refl
busy_is (V5 h) = refl
busy_is (V6 h b new) = refl
busy_is (V7 h b new next) = refl
busy_is (V8 h b next i) = refl
busy_is (V9 h b i) = refl
busy_is (V10 h b) = refl
busy_is (V11 h b) = refl
busy_is (V12 h b v) = refl
busy_is (V13 b i v) = refl
busy_is (V14 b i v) = refl
busy_is (V15 b v) = refl
busy_is Len1 = refl
busy_is (Len2 t) = refl
busy_is (Len3 t h) = refl
busy_is Empty1 = refl
busy_is (Empty2 h) = refl
busy_is Full1 = refl
busy_is Close1 = refl
busy_is IsClosed1 = refl

-- ---- what a call under way came with, and what it has taken out
module _ (st : Story) (t : Index) (w : ℕ) where
  item_of_lem : (k : Task) → Due st t w k → (x : ℕ) → item_in k ≡ x ∷ [] → items_of ((known st).each w).calls ≡ x ∷ []
  item_of_lem (Rests a) o x e = absurd (no_cons e)
  item_of_lem (Starts c) o x e = absurd (no_cons e)
  item_of_lem (Tries y) o x e = ap items_of o.work.its ∙ brought o.call y o.brings ∙ e
  item_of_lem (Given i y) o x e = ap items_of o.0.work.its ∙ brought o.0.call y o.0.brings ∙ e
  item_of_lem (Enters y) o x e = ap items_of o.decided.work.its ∙ brought o.call y o.brings ∙ e
  item_of_lem Entered o x e = absurd (no_cons e)
  item_of_lem (Frees a) o x e = absurd (no_cons e)
  item_of_lem Takes o x e = absurd (no_cons e)
  item_of_lem (LoadsHead i) o x e = absurd (no_cons e)
  item_of_lem (Counts i h) o x e = absurd (no_cons e)
  item_of_lem (LooksAtTail h) o x e = absurd (no_cons e)

  abbrev Taken : Task → Type 0
  Taken k = (v : ℕ) (more : List ℕ) → ((known st).each w).takes ≡ v ∷ more → (more ≡ []) × (k ≡ Takes)

  nothing : (k : Task) → ((known st).each w).takes ≡ [] → Taken k
  nothing k none v more e = absurd (no_cons (sym none ∙ e))

  frees : (a : Answer) → FreesBy st w a → ((known st).each w).takes ≡ []
  frees Nothing o = absurd o
  frees Pushed o = o.1.decided.work.takes
  frees (Closed x) o = o.decided.work.takes
  frees (Popped v) o = absurd o
  frees Empty o = absurd o
  frees PopClosed o = absurd o
  frees (Len n) o = absurd o
  frees Yes o = absurd o
  frees No o = absurd o

  hand_of : (k : Task) → restless k ≡ true → Due st t w k → Taken k
  unfolding restless
  hand_of (Rests a) busy o = absurd (true≢false (sym busy))
  hand_of (Starts c) busy o = nothing (Starts c) o.takes
  hand_of (Tries x) busy o = nothing (Tries x) o.work.takes
  hand_of (Given i x) busy o = nothing (Given i x) o.0.work.takes
  hand_of (Enters x) busy o = nothing (Enters x) o.decided.work.takes
  hand_of Entered busy o = nothing Entered o.1.decided.work.takes
  hand_of (Frees a) busy o = nothing (Frees a) (frees a o)
  hand_of Takes busy o = λ v more z. (sym (cons_rest (sym o.decided.work.takes ∙ z)), refl)
  hand_of (LoadsHead i) busy o = nothing (LoadsHead i) o.0.takes
  hand_of (Counts i h) busy o = nothing (Counts i h) o.0.takes
  hand_of (LooksAtTail h) busy o = nothing (LooksAtTail h) o.0.takes

module _ (workers : ℕ) (a : Allowed workers) where
  -- ---- along every schedule
  told_first : Told workers a.worker_most (fresh_of sizes workers) []
  unfolding fresh_of known_from followed_from acts_in marked_of notions.items_of takers_of
  told_first =
      record {
        reached = fresh_reached workers;
        items = refl;
        flag = refl;
        stands = λ v. sym (fresh_stood v);
        dues = λ w. subst (λ (p : Place). Due [] (fresh_of sizes workers).ends.tail w (task_of p)) (sym (fresh_stood w)) tt;
        answers = λ xs ys act x e said. absurd (no_split xs (Does act) ys e);
        yes_there = λ xs ys act i e at said. absurd (no_split xs (Does act) ys e);
        changes = λ xs ys act e. absurd (no_split xs (Does act) ys e);
        claims = λ xs ys act v e said. absurd (no_split xs act ys e);
        written = λ k l. absurd (omega arith);
      }

  one_entry : (m : Machine) (st : Story) (i j : ℕ) → Told workers a.worker_most m st → (turn_with sizes act_of m i j).refusal ≡ 0
      → Told workers a.worker_most (turn_with sizes act_of m i j).machine (st ++ elements_by events_of m (entry_of i j) (turn_with sizes act_of m i j).machine)
  one_entry m st i j o e = told_kept workers a.worker_most m st (entry_of i j) _ o (turned m i j e)

  pub told_after : (s : List ℕ) → Told workers a.worker_most (machine_after table workers s) (story_of table workers s)
  told_after s = entries_lead unbounded_queue (elements_by events_of) (Told workers a.worker_most) one_entry s (fresh_of sizes workers) [] 0 told_first

  -- ---- from what is told to the statement
  module _ (m : Machine) (st : Story) (o : Told workers a.worker_most m st) (waits : ContentsWait table m (acts_in st)) where
    at_one : (i j : ℕ) → At i ≡ At j → i ≡ j
    at_one i j e = cc

    in_call_order : (earlier between later : Story) (first second : Event) (x y : Answer) (i j : ℕ) → st ≡ earlier ++ Does first ∷ between ++ Does second ∷ later → first.after ≡ Idle x
        → second.after ≡ Idle y → length earlier < ((known (earlier ++ Does first ∷ between)).each second.worker).begun
        → moment_of first.worker (earlier ++ Does first ∷ []) ≡ At i → moment_of second.worker (earlier ++ Does first ∷ between ++ Does second ∷ []) ≡ At j → i < j
    in_call_order earlier between later first second x y i j is said_first said_second late at_i at_j =
        go (o.answers earlier (between ++ Does second ∷ later) first x (is ∙ append_assoc earlier (Does first ∷ between) (Does second ∷ later)) said_first).0
        (o.answers (earlier ++ Does first ∷ between) later second y is said_second).0
      where
        pending : (n : ℕ) → ◌≡◌ {A = Moment} (At n) AfterNextTail → ⊥
        pending n e = let z : ◌≡◌ {A = ℕ} 0 1 = cc in omega arith

        go : Answered earlier first x ⊎ AtBlocksEnd earlier first x → Answered (earlier ++ Does first ∷ between) second y ⊎ AtBlocksEnd (earlier ++ Does first ∷ between) second y → i < j
        go (inl p) (inl q) =
            let one = at_one i p.moment (sym at_i ∙ p.named) in
            let two = at_one j q.moment (sym at_j ∙ q.named) in
            omega (arith, p.inside, q.begun)
        go (inl p) (inr q) = absurd (pending j (sym at_j ∙ q.unnamed))
        go (inr p) q = absurd (pending i (sym at_i ∙ p.unnamed))

    plain_of : PlainThroughout table m (acts_in st) st
    plain_of =
        record {
          acts = refl;
          answers = o.answers;
          yes_there = o.yes_there;
          changes = o.changes;
          item_kept = λ w x e. item_of_lem st m.ends.tail w (task_of (stood m w)) (o.dues w) x e;
          nothing_lost =
              record {
                in_order = in_order actor change_of 0 st;
                contents = λ idle. waits idle ∙ sym o.items;
                hands = λ w v more busy e. hand_of st m.ends.tail w (task_of (stood m w)) (sym (busy_is (stood m w)) ∙ busy) (o.dues w) v more e;
              };
          call_order = in_call_order;
        }

pub answers_plain : AnswersPlain table
answers_plain workers a s =
    let acts : acts_in (story_of table workers s) ≡ acts_of table workers s =
    acts_story (λ (d : Did). d.refusal) (λ (d : Did). d.machine) (turn_with sizes act_of) events_of s (fresh_of sizes workers) in
    subst (λ (h : List Event). PlainThroughout table (machine_after table workers s) h (story_of table workers s)) acts
    (plain_of workers a _ _ (told_after workers a s) (subst (ContentsWait table (machine_after table workers s)) (sym acts) (demand2 workers a s).contents))
