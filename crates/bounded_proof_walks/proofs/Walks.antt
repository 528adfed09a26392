-- Walks over the ring: the list has every sequence that goes so, in order, and each runs as a schedule.
use Prim.Native.Nat.{ℕ, ◌+◌, ◌*◌, ◌/◌, ◌%◌, ◌<◌, ◌≤◌}
use mathlib.Core.Path.{◌≡◌, refl, sym, ap, ◌∙◌, subst}
use mathlib.Core.Bool.{Bool, true, false}
use mathlib.Core.List.{List, [], ◌∷◌, ◌++◌}
use native.Mathlib.Omega.{arith}
use lib.Dec.{eqb, ltb}
use lib.ListN.{length, take, drop}
use lib.Seq.{take-append_seam, drop-append_seam}
use borrow.Author.Tests.{eq-eqb, ne_eqb, eqb-true, eqb-false, ltb-true, ltb-false}
use Rattle.queue_entries.specs.Limits.{workers_most}
use Rattle.queue_entries.specs.Schedules.{run_by}
use Rattle.queue_entries.specs.Told.{told}
use Rattle.std.specs.Prelude.{Ok, Err}
use Rattle.queue_walks.specs.Walks.{act_byte, walk_by}
use Rattle.queue_walks.specs.Listed.{bytes_of, walked}
use Rattle.queue_walks.specs.Meaning.{none_left, none_busy, goes_on}
use Rattle.queue_walks.proofs.Meaning.{walk_sound, walk_whole, walk_order, not_before}
use Rattle.bounded_machine.specs.declared.Machine.{Machine}
use Rattle.bounded_machine.specs.declared.Did.{Did}
use Rattle.bounded_machine.specs.declared.Ran.{Ran}
use Rattle.bounded_machine.specs.Broken.{broken_of, all_idle}
use Rattle.bounded_machine.specs.Turn.{turn_of}
use Rattle.bounded_machine.specs.Run.{ran, run_from}
use Rattle.bounded_machine.proofs.Kept.{either, unbroken_of, few_workers}
use Rattle.bounded_sequences.specs.Sequences.{walk_of}
use Rattle.bounded_walks.specs.Walks.{all_busy, size_refusal, walk_refusal, listed, size_of}
use Rattle.bounded_walks.proofs.Facts.{turn_counts, told_fits}
use Rattle.bounded_demands.specs.Notions.{Tried, entries_of, has}
use Rattle.bounded_demands.specs.Demands.{WalksAll, WalkTold, WalkCounts}

-- no more workers than a byte's low half numbers
abbrev Few : Machine → Type 0
Few m = m.count ≤ workers_most

keeps_few : (m : Machine) (first : ℕ) → Few m → Few (turn_of m first 0).machine
keeps_few m first h = subst (λ (k : ℕ). k ≤ workers_most) (sym (turn_counts m first 0)) h

few_of : (m : Machine) → broken_of m ≡ false → Few m
few_of m h = few_workers m (unbroken_of m h)

act_worker : (code w : ℕ) → w < workers_most → 16 * (act_byte code w % 16) + act_byte code w / 16 ≡ 16 * w + code
act_worker code w l = omega arith

-- one accepted entry, and the rest
run_more : (m : Machine) (i first second : ℕ) (s : List ℕ) → (turn_of m first second).refusal ≡ 0 → run_from m i (first ∷ second ∷ s) ≡ run_from (turn_of m first second).machine (i + 1) s
unfolding run_by
run_more m i first second s h = simp (eq-eqb (turn_of m first second).refusal 0 h)

run_tried : (depth : ℕ) (m : Machine) (s : List ℕ) (i : ℕ) → Few m → Tried depth m s → (run_from m i (entries_of s)).refusal ≡ 0
unfolding run_by entries_of ran
run_tried depth m s i f none_left = refl
run_tried depth m s i f (none_busy e) = refl
run_tried depth m s i f (goes_on {left = less} {act = act} {s = t} worker code e low acts is ok more) =
    ap (λ (x : ℕ). (run_from m i (x ∷ 0 ∷ entries_of t)).refusal) (ap (λ (x : ℕ). 16 * (x % 16) + x / 16) is ∙ act_worker code worker (omega arith))
    ∙ ap (λ (r : Ran). r.refusal) (run_more m i (16 * worker + code) 0 (entries_of t) ok)
    ∙ run_tried less (turn_of m (16 * worker + code) 0).machine t (i + 1) (keeps_few m (16 * worker + code) f) more

pub walks_all : WalksAll walk_of
unfolding walk_by
walks_all = record {
  goes = walk_sound (λ (d : Did). d.refusal) (λ (d : Did). d.machine) turn_of (λ (m : Machine). m.count) (λ (m : Machine). all_idle m.workers);
  whole = walk_whole (λ (d : Did). d.refusal) (λ (d : Did). d.machine) turn_of (λ (m : Machine). m.count) (λ (m : Machine). all_idle m.workers);
  order = λ depth m h. walk_order (λ (d : Did). d.refusal) (λ (d : Did). d.machine) turn_of (λ (m : Machine). m.count)
      (λ (m : Machine). all_idle m.workers) Few (λ x g. g) keeps_few depth m (few_of m h);
  once = not_before;
  runs = λ depth m h s x. run_tried depth m s 0 (few_of m h) (walk_sound (λ (d : Did). d.refusal) (λ (d : Did). d.machine) turn_of (λ (m : Machine). m.count)
      (λ (m : Machine). all_idle m.workers) depth m s x);
  none = λ m. refl;
}

-- ---- the answer
is_one : (k : ℕ) → Type 0
is_one k = has (0 ∷ 6 ∷ 19 ∷ 20 ∷ 21 ∷ 22 ∷ []) k ≡ true

size_numbered : (m : Machine) (depth : ℕ) → is_one (size_refusal m depth)
unfolding size_refusal is_one has
size_numbered m depth =
    either is_one (broken_of m) 6 _ (λ b. refl)
    (λ b. either is_one (ltb 3 m.count) 19 _ (λ b. refl)
    (λ b. either is_one (ltb 12 depth) 19 _ (λ b. refl)
    (λ b. either is_one (all_busy m) _ 20 (λ b. either is_one (ltb _ depth) 21 0 (λ b. refl) (λ b. refl)) (λ b. refl))))

walk_numbered : (m : Machine) (depth room : ℕ) → is_one (walk_refusal m depth room)
unfolding walk_refusal is_one has
walk_numbered m depth room =
    either is_one (eqb (size_refusal m depth) 0) _ (size_refusal m depth) (λ b. either is_one (ltb room (length (bytes_of (walk_of depth m)))) 22 0 (λ b. refl) (λ b. refl)) (λ b. size_numbered m depth)

refused_listed : (m : Machine) (depth : ℕ) (buffer : List ℕ) → (walk_refusal m depth (length buffer) ≡ 0 → ⊥) → listed m depth buffer ≡ buffer
unfolding listed
refused_listed m depth buffer h = simp (ne_eqb (walk_refusal m depth (length buffer)) 0 h)

ok_listed : (m : Machine) (depth : ℕ) (buffer : List ℕ) → walk_refusal m depth (length buffer) ≡ 0 → listed m depth buffer ≡ bytes_of (walk_of depth m) ++ drop (length (bytes_of (walk_of depth m))) buffer
unfolding listed
ok_listed m depth buffer h = simp (eq-eqb (walk_refusal m depth (length buffer)) 0 h)

pub walk_told : WalkTold
unfolding is_one
walk_told = record {
  numbered = walk_numbered;
  unchanged = refused_listed;
  filled = λ m depth buffer h. (
    ap (take (length (bytes_of (walk_of depth m)))) (ok_listed m depth buffer h) ∙ take-append_seam (bytes_of (walk_of depth m)) _,
    ap (drop (length (bytes_of (walk_of depth m)))) (ok_listed m depth buffer h) ∙ drop-append_seam (bytes_of (walk_of depth m)) _,
  );
  fits = λ m depth sequences bytes h. told_fits m depth sequences bytes h;
  answer = λ m depth buffer x y a b p q r s. (p ∙ sym q, r ∙ sym s);
  size = λ m depth x y p q. p ∙ sym q;
}

-- ---- the number of sequences
told_number : (number value : ℕ) → number ≡ 0 → told number value ≡ Ok value
unfolding told
told_number number value h = simp (eq-eqb number 0 h)

told_refused : (number value : ℕ) → (number ≡ 0 → ⊥) → told number value ≡ Err number
unfolding told
told_refused number value h = simp (ne_eqb number 0 h)

-- a size that is not refused
size_told : (m : Machine) (depth : ℕ) → size_refusal m depth ≡ 0 → size_of m depth ≡ Ok (walked (length (walk_of depth m)) (length (bytes_of (walk_of depth m))))
unfolding size_of
size_told m depth h = simp (eq-eqb (size_refusal m depth) 0 h)

size_untold : (m : Machine) (depth : ℕ) → (size_refusal m depth ≡ 0 → ⊥) → size_of m depth ≡ Err (size_refusal m depth)
unfolding size_of
size_untold m depth h = simp (ne_eqb (size_refusal m depth) 0 h)

-- by which test a walk is refused
walk_is : (A : Type 0) (m : Machine) (depth room : ℕ) → (size_refusal m depth ≡ 0 → length (bytes_of (walk_of depth m)) ≤ room → walk_refusal m depth room ≡ 0 → A)
    → (size_refusal m depth ≡ 0 → room < length (bytes_of (walk_of depth m)) → walk_refusal m depth room ≡ 22 → A)
    → ((size_refusal m depth ≡ 0 → ⊥) → walk_refusal m depth room ≡ size_refusal m depth → A) → A
unfolding walk_refusal
walk_is A m depth room fits short sizes = go (eqb (size_refusal m depth) 0) refl (ltb room (length (bytes_of (walk_of depth m)))) refl
  where
    go : (b : Bool) → eqb (size_refusal m depth) 0 ≡ b → (d : Bool) → ltb room (length (bytes_of (walk_of depth m))) ≡ d → A
    go true e true q = short (eqb-true _ _ e) (ltb-true _ _ q) (rw (e, q))
    go true e false q = fits (eqb-true _ _ e) (ltb-false _ _ q) (rw (e, q))
    go false e d q = sizes (eqb-false _ _ e) (rw e)

-- no size is refused by 22
size_not_22 : (m : Machine) (depth : ℕ) → size_refusal m depth ≡ 22 → ⊥
unfolding size_refusal
size_not_22 m depth =
    either (λ (k : ℕ). k ≡ 22 → ⊥) (broken_of m) 6 _ (λ b e. omega (arith, e))
    (λ b. either (λ (k : ℕ). k ≡ 22 → ⊥) (ltb 3 m.count) 19 _ (λ b e. omega (arith, e))
    (λ b. either (λ (k : ℕ). k ≡ 22 → ⊥) (ltb 12 depth) 19 _ (λ b e. omega (arith, e))
    (λ b. either (λ (k : ℕ). k ≡ 22 → ⊥) (all_busy m) _ 20 (λ b. either (λ (k : ℕ). k ≡ 22 → ⊥) (ltb _ depth) 21 0 (λ b e. omega (arith, e)) (λ b e. omega (arith, e))) (λ b e. omega (arith, e)))))

pub walk_counts : WalkCounts
walk_counts = record {
  counted = λ m depth buffer h. told_number (walk_refusal m depth (length buffer)) _ h;
  refused = λ m depth buffer h. told_refused (walk_refusal m depth (length buffer)) _ h;
  size_counted = λ m depth room h.
      walk_is _ m depth room (λ z l e. size_told m depth z) (λ z l e. let q : ◌≡◌ {A = ℕ} 22 0 = sym e ∙ h in absurd (omega (arith, q))) (λ z e. absurd (z (sym e ∙ h)));
  size_refused = λ m depth room number h some not_22.
      walk_is _ m depth room (λ z l e. absurd (some (sym h ∙ e))) (λ z l e. absurd (not_22 (sym h ∙ e)))
      (λ z e. size_untold m depth z ∙ ap Err (sym e ∙ h));
  short = λ m depth room h.
      walk_is _ m depth room (λ z l e. let q : ◌≡◌ {A = ℕ} 0 22 = sym e ∙ h in absurd (omega (arith, q))) (λ z l e. (size_told m depth z, l)) (λ z e. absurd (size_not_22 m depth (sym e ∙ h)));
}
