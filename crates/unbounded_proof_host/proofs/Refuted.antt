-- With no slip planted the face is the one that was proved; each slip, refuted.
use Prim.Native.Nat.{ℕ, ◌*◌}
use mathlib.Core.Bool.{Bool, true, false, cond, true≢false}
use mathlib.Core.List.{List, [], ◌∷◌, ◌++◌}
use mathlib.Core.Path.{◌≡◌, refl, sym, ap, ◌∙◌, subst}
use native.Mathlib.Omega.{arith}
use lib.Dec.{eqb}
use lib.ListN.{length, get_or, take, replicate, length-replicate}
use borrow.Author.Tests.{eq-eqb}
use Rattle.queue_entries.specs.Limits.{in_limits}
use Rattle.queue_entries.specs.declared.Entry.TheVariants.{Unreadable}
use Rattle.queue_entries.specs.Entries.{stray_of, order_of, entry_of, entry_but}
use Rattle.queue_entries.specs.Schedules.{run_by}
use Rattle.unbounded_words.specs.declared.Pointer.TheVariants.{None}
use Rattle.unbounded_words.specs.Words.{sizes}
use Rattle.unbounded_places.specs.declared.Place.TheVariants.{U1}
use Rattle.unbounded_places.specs.Places.{view_of}
use Rattle.unbounded_acts.specs.Acts.{act_of}
use Rattle.unbounded_machine.specs.declared.Machine.{Machine}
use Rattle.unbounded_machine.specs.declared.Did.{Did}
use Rattle.unbounded_machine.specs.declared.Ran.{Ran}
use Rattle.unbounded_machine.specs.Machine.{idlers, fresh_of, place_of, refused, accepted}
use Rattle.unbounded_machine.specs.Broken.{broken_of}
use Rattle.unbounded_machine.specs.Turn.{entry_here, begun, turn_by, turn_with, turn_of}
use Rattle.unbounded_machine.specs.Run.{ran, run_of}
use Rattle.unbounded.specs.Unbounded.{make_of}
use Rattle.unbounded_codes.specs.Codes.{five, place_in}
use Rattle.unbounded_rows.specs.Rows.{Words, words, words_of, machine_in, record_word, records_of, record_in, records_in, from, shaped, stand, Sayable}
use Rattle.unbounded_rows.proofs.Standing.{written_stand, same_machine}
use Rattle.unbounded_host.specs.declared.Reply.{Reply}
use Rattle.unbounded_host.specs.Host.{broken_words, After, after, after_of, made_from, make_words, step_words_of, Ended, ended, ended_of, reply, run_words}
use Rattle.unbounded_demands.specs.Notions.{Allowed, machine_after}
use Rattle.unbounded_demands.proofs.Refusals.{list_first}
use Rattle.unbounded_proof_demand2.proofs.Demand2.{demand2}
use Rattle.unbounded_proof_host.specs.Hosted.{source, Malformed, RefusedWords, RunAsSteps, HostedThroughout, HostedMixed, running, left_by, taken_by, left_by_all, entries_by}
use Rattle.unbounded_proof_host.specs.Slips.{hosting_with, not_run, not_stepped, Faithful, Stands, Refuted}
use Rattle.unbounded_proof_host.proofs.Said.{turned_said, fresh_said}
use Rattle.unbounded_proof_host.proofs.Hosted.{one_to_one, malformed, refused_words, run_as_steps, hosted_throughout, step_is}
use Rattle.unbounded_proof_host.proofs.Mixed.{hosted_mixed}

pub faithful : Faithful
faithful = refl

pub stands : Stands
stands = (
  one_to_one,
  subst Malformed (sym faithful) malformed,
  subst RefusedWords (sym faithful) refused_words,
  subst RunAsSteps (sym faithful) run_as_steps,
  subst HostedThroughout (sym faithful) hosted_throughout,
  subst HostedMixed (sym faithful) hosted_mixed,
)

-- words of a wrong length
few : Words
few = words (0 ∷ 0 ∷ 0 ∷ 0 ∷ 0 ∷ 0 ∷ []) [] []

code99 : Words
code99 = words [] [] (99 ∷ 0 ∷ 0 ∷ 0 ∷ 0 ∷ [])

some_number : (n : ℕ) → eqb n 0 ≡ false → n ≡ 0 → ⊥
some_number n h e = true≢false (sym (ap (λ (k : ℕ). eqb k 0) e) ∙ h)

readable : entry_here 0 5 ≡ Unreadable → ⊥
unfolding entry_but entry_of stray_of order_of
readable e = let q : ◌≡◌ {A = ℕ} 0 1 = cc in omega arith

-- ---- a fresh machine of one worker, and a push begun there
start : Machine
start = fresh_of sizes 1

started : Words
started = words_of start

pushing : Machine
pushing = begun start 0 (U1 None 5)

one_allowed : Allowed 1
one_allowed = record { worker_some = omega arith; worker_most = omega arith }

unbroken : broken_of sizes start ≡ false
unfolding start run_by ran
unbroken = (demand2 1 one_allowed []).unbroken

push_begins : turn_of sizes start 0 5 ≡ accepted pushing
unfolding start pushing turn_with fresh_of idlers entry_but entry_of stray_of order_of
push_begins = ap (λ (b : Bool). cond b (refused 6 start) (turn_by sizes act_of start (entry_here 0 5))) unbroken

idle_at_start : (view_of sizes (place_of start.workers 0)).busy ≡ false
unfolding start fresh_of idlers
idle_at_start = refl

busy_then : (view_of sizes (place_of pushing.workers 0)).busy ≡ true
unfolding pushing start begun fresh_of idlers
busy_then = refl

read_start : machine_in started ≡ start
unfolding started start
read_start = same_machine (fresh_of sizes 1) (fresh_said 1)

stands_started : stand started ≡ true
unfolding started start
stands_started = written_stand (fresh_of sizes 1) (fresh_said 1)

turned : turn_of sizes (machine_in started) 0 5 ≡ accepted pushing
turned = ap (λ (m : Machine). turn_of sizes m 0 5) read_start ∙ push_begins

step_answers : (step_words_of started 0 5).answer ≡ 0
unfolding accepted
step_answers = ap (λ (x : After). x.answer) (step_is started stands_started 0 5) ∙ ap (λ (d : Did). d.refusal) turned

-- making on words of the right lengths
blanks : Words
blanks = words (replicate 8 0) (replicate 4096 0) (replicate 80 0)

long : (n : ℕ) → eqb (length (replicate {A = ℕ} n 0)) n ≡ true
long n = eq-eqb (length (replicate {A = ℕ} n 0)) n (length-replicate {A = ℕ} n 0)

blanks_shaped : shaped blanks ≡ true
unfolding blanks shaped
blanks_shaped = λ i. cond (long 8 i) (cond (long 4096 i) (long 80 i) false) false

made_is : make_words blanks 1 ≡ after 0 started
unfolding make_words make_of started start accepted in_limits
made_is = ap (λ (b : Bool). cond b (made_from blanks (make_of sizes 1)) (after 6 blanks)) blanks_shaped

-- ---- where the push leads, and that it is not where the words stand
after_push : machine_after source 1 (0 ∷ 5 ∷ []) ≡ pushing
unfolding run_by ran accepted start
after_push = ap (λ (d : Did). (cond (eqb d.refusal 0) (ran 0 1 d.machine) (ran d.refusal 0 start)).machine) push_begins

apart : pushing ≡ start → ⊥
apart e = true≢false (sym busy_then ∙ ap (λ (m : Machine). (view_of sizes (place_of m.workers 0)).busy) e ∙ idle_at_start)

clash : machine_after source 1 (0 ∷ 5 ∷ []) ≡ machine_in started → ⊥
clash e = apart (sym after_push ∙ e ∙ read_start)

not_stepped_lem : (z : Words) → z ≡ started → machine_after source 1 (taken_by (hosting_with not_stepped) z (0 ∷ 5 ∷ [])) ≡ machine_in (left_by (hosting_with not_stepped) z (0 ∷ 5 ∷ [])) → ⊥
unfolding taken_by left_by
not_stepped_lem z e h =
    let taken = ap (λ (n : ℕ). cond {A = List ℕ} (eqb n 0) (0 ∷ 5 ∷ []) []) (ap (λ (w : Words). (step_words_of w 0 5).answer) e ∙ step_answers) in
    clash (ap (machine_after source 1) (sym taken) ∙ h ∙ ap machine_in e)

run_answers : (run_words started (0 ∷ 5 ∷ [])).answer ≡ reply 0 1
unfolding run_words run_by ran accepted
run_answers =
    ap (λ (b : Bool). (cond b (ended_of (run_of sizes (machine_in started) (0 ∷ 5 ∷ []))) (ended (reply 6 0) started)).answer) stands_started
    ∙ ap (λ (m : Machine). (ended_of (run_of sizes m (0 ∷ 5 ∷ []))).answer) read_start
    ∙ ap (λ (r : Ran). (ended_of r).answer) (list_first.runs start (0 ∷ 5 ∷ []) unbroken refl (readable, tt))
    ∙ ap (λ (d : Did). (ended_of (cond (eqb d.refusal 0) (ran 0 1 d.machine) (ran d.refusal 0 start))).answer) push_begins

not_run_lem : (z : Words) → z ≡ started
    → machine_after source 1 (taken_by (hosting_with not_run) z (entries_by (hosting_with not_run) z (running (0 ∷ 5 ∷ []) ∷ []))) ≡ machine_in
    (left_by_all (hosting_with not_run) z (running (0 ∷ 5 ∷ []) ∷ [])) → ⊥
unfolding taken_by left_by_all entries_by
not_run_lem z e h =
    let told = ap (λ (w : Words). (run_words w (0 ∷ 5 ∷ [])).answer) e ∙ run_answers in
    let asked : entries_by (hosting_with not_run) z (running (0 ∷ 5 ∷ []) ∷ []) ≡ 0 ∷ 5
    ∷ [] = ap (λ (r : Reply). cond {A = List ℕ} (eqb r.refusal 9) [] (take (2 * r.number) (0 ∷ 5 ∷ [])) ++ []) told in
    let taken : taken_by (hosting_with not_run) z (0 ∷ 5 ∷ []) ≡ 0 ∷ 5 ∷ [] = ap (λ (n : ℕ). cond {A = List ℕ} (eqb n 0) (0 ∷ 5 ∷ []) []) (ap (λ (w : Words). (step_words_of w 0 5).answer) e ∙ step_answers) in
    clash (ap (machine_after source 1) (sym taken) ∙ ap (λ (s : List ℕ). machine_after source 1 (taken_by (hosting_with not_run) z s)) (sym asked) ∙ h ∙ ap machine_in e)

read_pushing : machine_in (words_of pushing) ≡ pushing
unfolding accepted start
read_pushing = same_machine pushing (subst (λ (d : Did). Sayable d.machine) push_begins (turned_said (fresh_of sizes 1) (fresh_said 1) 0 5))

stepped_to : step_words_of started 0 5 ≡ after 0 (words_of pushing)
unfolding accepted
stepped_to = step_is started stands_started 0 5 ∙ ap after_of turned

sound_started : broken_words started ≡ false
unfolding broken_words
sound_started = ap (λ (b : Bool). cond b (broken_of sizes (machine_in started)) true) stands_started ∙ ap (broken_of sizes) read_start ∙ unbroken

not_as_steps : RunAsSteps (hosting_with not_run) → ⊥
unfolding run_by
not_as_steps r =
    let left = ap (λ (x : Ended). machine_in x.words) (r started (0 ∷ 5 ∷ []) sound_started refl (readable, tt)) in
    let right = ap (λ (x : After). machine_in (cond (eqb x.answer 0) (ended (reply 0 1) x.words) (ended (reply x.answer 0) started)).words) stepped_to in
    apart (sym read_pushing ∙ sym right ∙ sym left ∙ read_start)

pub refuted : Refuted
unfolding few code99 five place_in machine_in record_in records_in record_word records_of from shaped stand step_words_of make_words run_words
refuted =
    record {
      one_to_one = λ r. true≢false (ap (λ (w : Words). eqb (get_or w.records 0 0) 48) (r.written code99 refl));
      malformed = λ r. true≢false (ap (λ (x : After). eqb x.answer 3) (r.step few 0 5 refl));
      refused_step = λ r. true≢false (sym (ap (λ (w : Words). eqb (get_or w.head 5 0) 0) (r.step few 8 0 (some_number _ refl))));
      refused_make = λ r. true≢false (sym (ap (λ (w : Words). eqb (get_or w.head 0 0) 0) (r.make few 1 (some_number _ refl))));
      refused_run = λ r. true≢false (sym (ap (λ (w : Words). eqb (get_or w.head 5 0) 0) (r.run few [] (some_number _ refl) refl)));
      run_as_steps = not_as_steps;
      throughout = λ r. not_stepped_lem (make_words blanks 1).words (ap (λ (x : After). x.words) made_is) (r blanks 1 (ap (λ (x : After). x.answer) made_is) (0 ∷ 5 ∷ [])).machine;
      mixed = λ r. not_run_lem (make_words blanks 1).words (ap (λ (x : After). x.words) made_is) (r blanks 1 (ap (λ (x : After). x.answer) made_is) (running (0 ∷ 5 ∷ []) ∷ [])).machine;
    }
