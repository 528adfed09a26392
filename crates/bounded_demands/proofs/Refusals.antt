-- Demand 1: refusals are numbered and change nothing, and only one answer meets a promise.
use Prim.Native.Nat.{ℕ, ◌%◌, ◌<◌}
use mathlib.Core.Path.{◌≡◌, refl, sym, ◌∙◌}
use mathlib.Core.Bool.{true, false}
use mathlib.Core.List.{List}
use native.Mathlib.Omega.{arith}
use native.Mathlib.Nat.{zero-mod}
use lib.Dec.{ltb}
use lib.ListN.{length, get_or-replicate}
use borrow.Author.Tests.{ne_eqb, eq-eqb, lt-ltb}
use Rattle.queue_entries.specs.Limits.{workers_most, in_limits}
use Rattle.queue_entries.specs.Entries.{entry_of}
use Rattle.queue_schedules.proofs.Schedules.{Queue, schedule_first, schedule_read, schedule_kept, schedule_unread, schedule_keeps}
use Rattle.bounded_words.specs.declared.Width.{Width}
use Rattle.bounded_words.specs.declared.Width.TheVariants.{SixtyFour}
use Rattle.bounded_words.specs.Limits.{slots_most, editions_most}
use Rattle.bounded_words.specs.declared.Stamp.{Stamp}
use Rattle.bounded_words.specs.declared.Fixed.{Fixed}
use Rattle.bounded_words.specs.Words.{stamp, mark_of, lap_of, fixed_of}
use Rattle.bounded_words.proofs.Fits.{Plain, plain}
use Rattle.bounded_places.specs.Places.{inside}
use Rattle.bounded_acts.specs.Acts.{act_of}
use Rattle.bounded_machine.specs.declared.Machine.{Machine}
use Rattle.bounded_machine.specs.declared.Did.{Did}
use Rattle.bounded_machine.specs.declared.Ran.{Ran}
use Rattle.bounded_machine.specs.Machine.{starts, idler, idlers, record_of_worker, fresh_with, fresh_of, blank, refused, accepted}
use Rattle.bounded_machine.specs.Broken.{by_rule, ends_fit, place_fits, record_fits, broken_of}
use Rattle.bounded_machine.specs.Contents.{contents_refusal, written}
use Rattle.bounded_machine.specs.Turn.{turn_at, turn_of_by}
use Rattle.bounded_machine.specs.Run.{ran, run_of_by}
use Rattle.bounded_machine.proofs.Laws.{ruled_of}
use Rattle.bounded_machine.proofs.Kept.{ends_of, either, UnbrokenWith, Unbroken, unbroken_of, of_unbroken}
use Rattle.bounded_machine.proofs.Turns.{turn_of_unbroken}
use Rattle.bounded_step_machine.specs.Steps.{step_of_by, begin_step_of_by, act_step_of_by}
use Rattle.bounded_step_machine.proofs.Steps.{turn_unchanged}
use Rattle.bounded.specs.Bounded as face
use Rattle.bounded_demands.specs.Notions.{Face, sixty_four}
use Rattle.bounded_demands.specs.Demands.{RefusedUnchanged, ListFirst, StaysUnbroken, OnlyOne, OnlyOneCount, Demand1}
use Rattle.bounded_demands.proofs.Numbers.{picked, only_unread, numbered}

-- ---- one answer
one : {A : Type 0} (d x y : A) → x ≡ d → y ≡ d → x ≡ y
one d x y p q = p ∙ sym q

pub only_one : {M D R : Type 0} (f : Face M D R) → OnlyOne f
only_one f =
    record {
      make = λ c w e. one (f.make c w e);
      step = λ m a b. one (f.step m a b);
      begin = λ m a b. one (f.begin m a b);
      act = λ m a b. one (f.act m a b);
      run = λ m s. one (f.run m s);
      contents = λ m before x y a b p q. (one _ x y p.0 q.0, one _ a b p.1 q.1);
      capacity = λ m. one _;
      broken = λ m. one _;
    }

pub only_one_count : OnlyOneCount
only_one_count =
    record {
      moved = λ p. one _;
      reads = λ p. one _;
      tally = λ t p q. one _;
      stock = λ t. one _;
      kept = one _;
      named = λ ws w p q l. one _;
      stands = λ p. one _;
      goes_back = λ s t. one _;
      at_tail = λ m. one _;
      at_head = λ m. one _;
      moments_kept = λ capacity. one _;
      moments_begun = λ ms. one _;
      moment_named_lem = λ ms w p q. one _;
    }

-- ---- unchanged
abbrev Kept : Machine → Did → Type 0
Kept m d = (d.refusal ≡ 0 → ⊥) → d.machine ≡ m

refused_kept : (k : ℕ) (m : Machine) → Kept m (refused k m)
unfolding refused
refused_kept k m h = refl

accepted_kept : (k m : Machine) → Kept k (accepted m)
unfolding accepted
accepted_kept k m h = absurd (h refl)

pub turn_kept : (bits : Width) (m : Machine) (a b : ℕ) → Kept m (turn_at bits m a b)
unfolding turn_of_by
turn_kept bits m a b h = turn_unchanged (act_of bits) m (entry_of a b) (ne_eqb _ _ h)

module _ (bits : Width) (m : Machine) (a b : ℕ) where
  pub step_kept : Kept m (step_of_by (act_of bits) m a b)
  unfolding step_of_by
  step_kept = picked (Kept m) (broken_of m) (refused 6 m) (turn_at bits m a b) (refused_kept 6 m) (turn_kept bits m a b)

  pub begin_kept : Kept m (begin_step_of_by (act_of bits) m a b)
  unfolding begin_step_of_by
  begin_kept =
      picked (Kept m) (broken_of m) (refused 6 m) _ (refused_kept 6 m)
      (picked (Kept m) (ltb (a % 16) 8) (turn_at bits m a b) (refused 9 m) (turn_kept bits m a b) (refused_kept 9 m))

  pub act_kept : Kept m (act_step_of_by (act_of bits) m a b)
  unfolding act_step_of_by
  act_kept =
      picked (Kept m) (broken_of m) (refused 6 m) _ (refused_kept 6 m)
      (picked (Kept m) (ltb (a % 16) 8) (refused 9 m) (turn_at bits m a b) (refused_kept 9 m) (turn_kept bits m a b))

pub make_blank : (c w e : ℕ) → Kept blank (face.make_of c w e)
unfolding face.make_of
make_blank c w e =
    picked (Kept blank) (in_limits c slots_most) _ (refused 1 blank)
    (picked (Kept blank) (in_limits w workers_most) _ (refused 2 blank)
    (picked (Kept blank) (in_limits e editions_most) (accepted (fresh_of c w e)) (refused 18 blank) (accepted_kept blank (fresh_of c w e)) (refused_kept 18 blank))
    (refused_kept 2 blank))
    (refused_kept 1 blank)

pub contents_kept : (m : Machine) (buffer : List ℕ) → (contents_refusal m (length buffer) ≡ 0 → ⊥) → written m buffer ≡ buffer
unfolding written
contents_kept m buffer h = simp (ne_eqb _ _ h)

-- ---- the queue of these turns and reports
pub ran_refusal : (k i : ℕ) (m : Machine) → (ran k i m).refusal ≡ k
unfolding ran
ran_refusal k i m = refl

pub ran_place : (k i : ℕ) (m : Machine) → (ran k i m).place ≡ i
unfolding ran
ran_place k i m = refl

pub ran_machine : (k i : ℕ) (m : Machine) → (ran k i m).machine ≡ m
unfolding ran
ran_machine k i m = refl

abbrev pub ring_queue : Width → Queue Machine Did Ran
ring_queue bits =
    record {
      refusal = λ d. d.refusal;
      machine = λ d. d.machine;
      turn = turn_at bits;
      ran = ran;
      refusal_in = λ r. r.refusal;
      place_in = λ r. r.place;
      machine_in = λ r. r.machine;
      refusal_is = ran_refusal;
      place_is = ran_place;
      machine_is = ran_machine;
      kept = turn_kept bits;
      reading = entry_of;
      only_unread = only_unread bits;
    }

list_first : ListFirst sixty_four
list_first =
    record {
      stops = schedule_first (ring_queue SixtyFour) broken_of;
      runs = λ m s e even. schedule_read (ring_queue SixtyFour) broken_of m s e (λ o. omega arith);
    }

refused_unchanged : RefusedUnchanged sixty_four
refused_unchanged =
    record {
      make = make_blank;
      step = step_kept SixtyFour;
      begin = begin_kept SixtyFour;
      act = act_kept SixtyFour;
      run = schedule_kept (ring_queue SixtyFour) broken_of;
      unread = schedule_unread (ring_queue SixtyFour) broken_of;
      contents = contents_kept;
    }

-- ---- unbroken
pub step_unbroken : (bits : Width) (m : Machine) (a b : ℕ) → broken_of m ≡ false → broken_of (step_of_by (act_of bits) m a b).machine ≡ false
unfolding step_of_by refused
step_unbroken bits m a b h =
    picked (λ (d : Did). broken_of d.machine ≡ false) (broken_of m) (refused 6 m) (turn_at bits m a b) h
    (of_unbroken (turn_at bits m a b).machine (turn_of_unbroken bits m (unbroken_of m h) a b))

pub run_unbroken : (bits : Width) (m : Machine) (s : List ℕ) → broken_of m ≡ false → broken_of (run_of_by (act_of bits) m s).machine ≡ false
run_unbroken bits m s h =
    of_unbroken (run_of_by (act_of bits) m s).machine (schedule_keeps (ring_queue bits) broken_of Unbroken (λ z a b u. turn_of_unbroken bits z u a b) m s (unbroken_of m h))

fixed_by_rule : (c e : ℕ) → by_rule (fixed_of c e) ≡ true
unfolding by_rule
fixed_by_rule c e = simp (eq-eqb (mark_of c) (mark_of c) refl, eq-eqb (lap_of c) (lap_of c) refl)

inside_of_plain : (f : Fixed) (w : Stamp) → Plain f w → inside f w ≡ true
unfolding inside
inside_of_plain f w p = lt-ltb _ _ p.low

starts_fit : (c e : ℕ) → in_limits c slots_most ≡ true → ends_fit (fixed_of c e) starts ≡ true
starts_fit c e h =
    let r = ruled_of (fixed_of c e) h (fixed_by_rule c e) in
    let p : Plain (fixed_of c e) (stamp 0) = plain (fixed_of c e) r (stamp 0) (rw (zero-mod (lap_of c)) r.some) in
    ends_of (fixed_of c e) starts p (inside_of_plain (fixed_of c e) (stamp 0) p)

idlers_fit : (records : ℕ) (f : Fixed) (w i : ℕ) → i < records → record_fits f 0 (record_of_worker (idlers records) i) (ltb i w) ≡ true
unfolding record_fits place_fits idlers
idlers_fit records f w i l = rw (get_or-replicate records i idler idler l) refl

pub fresh_unbroken : (records c w e : ℕ) → in_limits c slots_most ≡ true → in_limits w records ≡ true → in_limits e editions_most ≡ true → UnbrokenWith records (fresh_with records c w e)
unfolding fresh_with
fresh_unbroken records c w e hc hw he =
    record { capacity = hc; count = hw; edition = he; rule = fixed_by_rule c e; ends = starts_fit c e hc; fits = idlers_fit records (fixed_of c e) w }

pub made_unbroken : (c w e : ℕ) → (face.make_of c w e).refusal ≡ 0 → broken_of (face.make_of c w e).machine ≡ false
unfolding face.make_of refused accepted
made_unbroken c w e =
    either Made (in_limits c slots_most) _ (refused 1 blank)
    (λ hc. either Made (in_limits w workers_most) _ (refused 2 blank)
    (λ hw. either Made (in_limits e editions_most) (accepted (fresh_of c w e)) (refused 18 blank)
    (λ he z. of_unbroken (fresh_of c w e) (fresh_unbroken workers_most c w e hc hw he)) (λ he z. absurd (omega arith)))
    (λ hw z. absurd (omega arith)))
    (λ hc z. absurd (omega arith))
  where
    Made : Did → Type 0
    Made d = d.refusal ≡ 0 → broken_of d.machine ≡ false

stays_unbroken : StaysUnbroken sixty_four
stays_unbroken = record { step = step_unbroken SixtyFour; run = run_unbroken SixtyFour; made = made_unbroken }

pub demand1 : Demand1 sixty_four
demand1 =
    record {
      refused_unchanged = refused_unchanged;
      numbered = numbered;
      list_first = list_first;
      stays_unbroken = stays_unbroken;
      only_one = only_one sixty_four;
    }
