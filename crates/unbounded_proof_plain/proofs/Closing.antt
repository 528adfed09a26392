-- Close holds, and a value is handed out of its call's own claim: from what is told along every schedule.
use Prim.Native.Nat.{ℕ}
use native.Mathlib.Omega.{arith}
use mathlib.Core.Path.{◌≡◌, refl, sym, ap, ◌∙◌, subst}
use mathlib.Core.Logic.{◌⊎◌, inl, inr}
use mathlib.Core.Bool.{Bool, true, false, cond, true≢false}
use mathlib.Core.List.{List, [], ◌∷◌, ◌++◌, append_assoc}
use lib.Dec.{eqb}
use lib.ListN.{length, drop}
use Rattle.queue_entries.specs.declared.Call.{Call}
use Rattle.queue_entries.specs.declared.Call.TheVariants as call
use Rattle.queue_schedules.proofs.Splits.{cons_first, cons_rest, no_split}
use Rattle.queue_plain.specs.Plain.{Reply, Queue, answer_of, full_of, front_of, yes_if}
use Rattle.queue_plain.specs.Plain as plain
use Rattle.queue_plain.specs.Story.{Begun, Does, Known, acts_in, items_of, known_with, known_from}
use Rattle.queue_plain.proofs.Stories.{acts_story, known_count, queue_act, queue_begun, queue_now}
use Rattle.unbounded_words.specs.Words.{sizes}
use Rattle.unbounded_places.specs.declared.Answer.{Answer}
use Rattle.unbounded_places.specs.declared.Answer.TheVariants.{PopClosed, No}
use Rattle.unbounded_places.specs.declared.Place.{Place}
use Rattle.unbounded_places.specs.declared.Place.TheVariants.{Idle}
use Rattle.unbounded_acts.specs.Acts.{act_of}
use Rattle.unbounded_machine.specs.declared.Machine.{Machine}
use Rattle.unbounded_machine.specs.declared.Did.{Did}
use Rattle.unbounded_machine.specs.declared.Event.{Event}
use Rattle.unbounded_machine.specs.Machine.{fresh_of}
use Rattle.unbounded_machine.specs.Turn.{turn_with}
use Rattle.unbounded_machine.specs.History.{events_of}
use Rattle.unbounded_demands.specs.Notions.{Allowed, machine_after, acts_of, item_of, takes, sign_of}
use Rattle.unbounded_demands.specs.Notions as notions
use Rattle.unbounded_demands.specs.Claims.{closed_by, ClosesYes, NoClaims}
use Rattle.unbounded_demands.specs.Stories.{Story, story_of, task_of, closes, change_of, actor, known, roomy, queue_at, At, Timing, Now, timing_to, timing_of, timed, moment_of}
use Rattle.unbounded_demands.specs.Demands.{Answered, AtBlocksEnd, Changes, CloseHolds, OwnClaim, ClosesAndClaims}
use Rattle.unbounded_proof_demand2.proofs.Demand2.{table}
use Rattle.unbounded_proof_plain.proofs.Work.{moment_own}
use Rattle.unbounded_proof_plain.proofs.Scene.{unput, unput_idle}
use Rattle.unbounded_proof_plain.proofs.Told.{Told}
use Rattle.unbounded_proof_plain.proofs.Plain.{told_after}

-- ---- the plain queue is closed exactly if a close was made
closed_from : (k : Known) (s : Story) → (known_from actor change_of k s).queue.closed ≡ cond k.queue.closed true (closed_by (acts_in s))
unfolding known_from acts_in closed_by
closed_from k [] = go k.queue.closed
  where
    go : (b : Bool) → b ≡ cond b true false
    go true = refl
    go false = refl
closed_from k (Begun w c ∷ s) = closed_from (known_with actor change_of k (Begun w c)) s
closed_from k (Does e ∷ s) = closed_from (known_with actor change_of k (Does e)) s ∙ go (closes (task_of e.before)) k.queue.closed
  where
    go : (b c : Bool) → cond (cond b true c) true (closed_by (acts_in s)) ≡ cond c true (cond b true (closed_by (acts_in s)))
    go true true = refl
    go true false = refl
    go false true = refl
    go false false = refl

closed_is : (s : Story) → (known s).queue.closed ≡ closed_by (acts_in s)
closed_is s = closed_from _ s

closed_since : (xs : List Event) (act : Event) (ys : List Event) → closes (task_of act.before) ≡ true → closed_by (xs ++ act ∷ ys) ≡ true
unfolding closed_by
closed_since [] act ys z = ap (λ (b : Bool). cond b true (closed_by ys)) z
closed_since (x ∷ xs) act ys z = ap (λ (b : Bool). cond (closes (task_of x.before)) true b) (closed_since xs act ys z) ∙ go (closes (task_of x.before))
  where
    go : (b : Bool) → cond b true true ≡ true
    go true = refl
    go false = refl

-- ---- an act of a history stands in its story
pub record Within (s : Story) (xs : List Event) (act : Event) (ys : List Event) : Type 0 where
  pub before : Story
  pub since : Story
  pub is : s ≡ before ++ Does act ∷ since
  pub acts_before : acts_in before ≡ xs
  pub acts_since : acts_in since ≡ ys

within : (s : Story) (xs : List Event) (act : Event) (ys : List Event) → acts_in s ≡ xs ++ act ∷ ys → Within s xs act ys
unfolding acts_in
within [] xs act ys e = absurd (no_split xs act ys e)
within (Begun w c ∷ s) xs act ys e =
    let o = within s xs act ys e in
    record { before = Begun w c ∷ o.before; since = o.since; is = ap (λ (z : Story). Begun w c ∷ z) o.is; acts_before = o.acts_before; acts_since = o.acts_since }
within (Does x ∷ s) [] act ys e =
    record { before = []; since = s; is = ap (λ (z : Event). Does z ∷ s) (cons_first e); acts_before = refl; acts_since = cons_rest e }
within (Does x ∷ s) (y ∷ xs) act ys e =
    let o = within s xs act ys (cons_rest e) in
    record {
      before = Does x ∷ o.before;
      since = o.since;
      is = ap (λ (z : Story). Does x ∷ z) o.is;
      acts_before = ap (λ (z : List Event). x ∷ z) o.acts_before ∙ ap (λ (z : Event). z ∷ xs) (cons_first e);
      acts_since = o.acts_since;
    }

-- ---- Closed of a pop is a closed queue's with nothing in it
abbrev shutting : Reply → ℕ
shutting plain.Pushed = 0
shutting plain.Empty = 0
shutting plain.EmptyAndClosed = 1
shutting plain.Yes = 0
shutting plain.No = 0
shutting (plain.Full x) = 0
shutting (plain.Closed x) = 0
shutting (plain.Displaced v) = 0
shutting (plain.Popped v) = 0
shutting (plain.Count n) = 0

module _ {P : Type 0} where
  never : (r : Reply) → shutting r ≡ 0 → r ≡ plain.EmptyAndClosed → P
  never r none e = absurd (let q : ◌≡◌ {A = ℕ} 0 1 = sym none ∙ ap shutting e in omega arith)

yes_or_no : (b : Bool) → shutting (yes_if b) ≡ 0
yes_or_no true = refl
yes_or_no false = refl

shut_empty : (q : Queue) (c : Call) → answer_of q c ≡ plain.EmptyAndClosed → (q.items ≡ []) × (q.closed ≡ true)
shut_empty q (call.Push x) e = never (answer_of q (call.Push x)) (go q.closed (full_of q)) e
  where
    go : (a b : Bool) → shutting (cond a (plain.Closed x) (cond b (plain.Full x) plain.Pushed)) ≡ 0
    go true b = refl
    go false true = refl
    go false false = refl
shut_empty q (call.ForcePush x) e = never (answer_of q (call.ForcePush x)) (go q.closed (full_of q) q.items) e
  where
    go : (a b : Bool) (l : List ℕ) → shutting (cond a (plain.Closed x) (cond b (front_of plain.Displaced plain.Pushed l) plain.Pushed)) ≡ 0
    go true b l = refl
    go false true [] = refl
    go false true (v ∷ l) = refl
    go false false l = refl
shut_empty q call.Pop e = go q.closed q.items e
  where
    go : (a : Bool) (l : List ℕ) → front_of plain.Popped (cond a plain.EmptyAndClosed plain.Empty) l ≡ plain.EmptyAndClosed → (l ≡ []) × (a ≡ true)
    go true [] z = (refl, refl)
    go false [] z = never plain.Empty refl z
    go a (v ∷ l) z = never (plain.Popped v) refl z
shut_empty q call.Len e = never (answer_of q call.Len) refl e
shut_empty q call.IsEmpty e = never (answer_of q call.IsEmpty) (yes_or_no (eqb (length q.items) 0)) e
shut_empty q call.IsFull e = never (answer_of q call.IsFull) (yes_or_no (full_of q)) e
shut_empty q call.Close e = never (answer_of q call.Close) (go q.closed) e
  where
    go : (a : Bool) → shutting (cond a plain.No plain.Yes) ≡ 0
    go true = refl
    go false = refl
shut_empty q call.IsClosed e = never (answer_of q call.IsClosed) (yes_or_no q.closed) e

-- a queue that is closed, and nothing in it
pub record Shut (s : Story) : Type 0 where
  pub items : (known s).queue.items ≡ []
  pub closed : (known s).queue.closed ≡ true

still_true : (b : Bool) → cond b true true ≡ true
still_true true = refl
still_true false = refl

none_left : (b : Bool) → ◌≡◌ {A = List ℕ} (cond b (drop {A = ℕ} 1 []) []) []
none_left true = refl
none_left false = refl

shut_on : (s : Story) (e : Event) → item_of e ≡ [] → Shut s → Shut (s ++ Does e ∷ [])
shut_on s e none o =
    record {
      items =
          ap (λ (q : Queue). q.items) (queue_act actor change_of 0 s e)
          ∙ ap (λ (l : List ℕ). cond (takes e) (drop 1 l) l ++ cond (eqb (length (item_of e)) 1) (items_of ((known s).each e.worker).calls) []) o.items
          ∙ ap (λ (l : List ℕ). l ++ cond (eqb (length (item_of e)) 1) (items_of ((known s).each e.worker).calls) []) (none_left (takes e))
          ∙ ap (λ (l : List ℕ). cond (eqb (length l) 1) (items_of ((known s).each e.worker).calls) []) none;
      closed = ap (λ (q : Queue). q.closed) (queue_act actor change_of 0 s e) ∙ ap (λ (b : Bool). cond (closes (task_of e.before)) true b) o.closed ∙ still_true (closes (task_of e.before));
    }

-- nothing is claimed of it any more
no_claims : (s more : Story) → Shut s → ((xs ys : Story) (act : Event) → s ++ more ≡ xs ++ Does act ∷ ys → Changes xs act) → NoClaims (acts_in more)
unfolding acts_in
no_claims s [] o changes = tt
no_claims s (Begun w c ∷ more) o changes =
    no_claims (s ++ Begun w c ∷ []) more
    (record { items = ap (λ (q : Queue). q.items) (queue_begun actor change_of 0 s w c) ∙ o.items; closed = ap (λ (q : Queue). q.closed) (queue_begun actor change_of 0 s w c) ∙ o.closed })
    (λ xs ys act z. changes xs ys act (sym (append_assoc s (Begun w c ∷ []) more) ∙ z))
no_claims s (Does e ∷ more) o changes =
    (none, not_taken (takes e) refl, no_claims (s ++ Does e ∷ []) more (shut_on s e none o) (λ xs ys act z. changes xs ys act (sym (append_assoc s (Does e ∷ []) more) ∙ z)))
  where
    at : Changes s e
    at = changes s more e refl

    not_put : (b : Bool) → (change_of e).puts ≡ b → b ≡ false
    not_put true z = absurd (true≢false (sym o.closed ∙ at.while_open z))
    not_put false z = refl

    none : item_of e ≡ []
    none = unput (sign_of e.before) (sign_of e.after) (not_put (change_of e).puts refl)

    not_taken : (b : Bool) → takes e ≡ b → b ≡ false
    not_taken true z = absurd (let l = at.takes z in omega (arith, ap length o.items))
    not_taken false z = refl

-- its answer is asked just before its last act
asked_now : (s : Story) (e : Event) → e.after ≡ Idle PopClosed → moment_of e.worker (s ++ Does e ∷ []) ≡ At (length s)
asked_now s e said =
    moment_own s e ∙ ap (λ (t : Timing). timed t (known s) (moment_of e.worker s)) now ∙ ap At (known_count actor change_of 0 s)
  where
    go : (a b : Bool) (t : Timing) → t ≡ Now → cond a Now (cond b Now t) ≡ Now
    go true b t z = refl
    go false true t z = refl
    go false false t z = z

    now : timing_of e ≡ Now
    now = go (change_of e).puts (change_of e).takes (timing_to (task_of e.before) (task_of e.after)) (ap (λ (p : Place). timing_to (task_of e.before) (task_of p)) said)

shut_then : (s : Story) (e : Event) → e.after ≡ Idle PopClosed → Answered s e PopClosed ⊎ AtBlocksEnd s e PopClosed → Shut s
shut_then s e said (inl o) =
    let one : At o.moment ≡ At (length s) = sym o.named ∙ asked_now s e said in
    let last : o.moment ≡ length s = cc in
    let says : answer_of (roomy (known s).queue) o.call ≡ plain.EmptyAndClosed =
    ap (λ (q : Queue). answer_of (roomy q) o.call) (sym (queue_now actor change_of 0 s)) ∙ ap (λ (n : ℕ). answer_of (queue_at n s) o.call) (sym last) ∙ cons_first o.plain in
    let z = shut_empty (roomy (known s).queue) o.call says in
    record { items = z.0; closed = z.1 }
shut_then s e said (inr o) = absurd (let q : ◌≡◌ {A = Answer} PopClosed No = o.says_no in let z : ◌≡◌ {A = ℕ} 0 1 = cc in omega arith)

module _ (workers : ℕ) (a : Allowed workers) (m : Machine) (s : Story) (o : Told workers a.worker_most m s) where
  yes_once : (earlier between later : List Event) (act again : Event) → acts_in s ≡ earlier ++ act ∷ between ++ again ∷ later → ClosesYes act → ClosesYes again → ⊥
  yes_once earlier between later act again z first second =
      let x = within s (earlier ++ act ∷ between) again later z in
      let was : (known x.before).queue.closed ≡ false = (o.changes x.before x.since again x.is).closes (ap (λ (p : Place). closes (task_of p)) second.0) second.1 in
      true≢false (sym (closed_since earlier act between (ap (λ (p : Place). closes (task_of p)) first.0)) ∙ ap closed_by (sym x.acts_before) ∙ sym (closed_is x.before) ∙ was)

  none_after : (earlier later : List Event) (act : Event) → acts_in s ≡ earlier ++ act ∷ later → act.after ≡ Idle PopClosed → NoClaims later
  none_after earlier later act z said =
      let x = within s earlier act later z in
      let shut = shut_then x.before act said (o.answers x.before x.since act PopClosed x.is said).0 in
      let none : item_of act ≡ [] = ap (λ (p : Place). notions.item_by (sign_of act.before) (sign_of p)) said ∙ unput_idle (sign_of act.before) PopClosed in
      subst NoClaims x.acts_since
      (no_claims (x.before ++ Does act ∷ []) x.since (shut_on x.before act none shut)
      (λ xs ys e y. o.changes xs ys e (x.is ∙ sym (append_assoc x.before (Does act ∷ []) x.since) ∙ y)))

  close_holds : CloseHolds m (acts_in s)
  close_holds = record { mark = sym o.flag ∙ closed_is s; yes_once = yes_once; none_after = none_after }

pub closes_and_claims : ClosesAndClaims table
closes_and_claims workers a s =
    let acts : acts_in (story_of table workers s) ≡ acts_of table workers s =
    acts_story (λ (d : Did). d.refusal) (λ (d : Did). d.machine) (turn_with sizes act_of) events_of s (fresh_of sizes workers) in
    let o = told_after workers a s in
    (subst (CloseHolds (machine_after table workers s)) acts (close_holds workers a _ _ o), subst OwnClaim acts o.claims)
