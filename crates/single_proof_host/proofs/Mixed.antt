-- Steps and schedules in any mixture are steps one after another.
use Prim.Native.Nat.{ℕ, zero, suc, ◌+◌, ◌*◌, ◌-◌, ◌%◌, ◌<◌, ◌≤◌}
use mathlib.Core.Path.{◌≡◌, refl, sym, ap, ◌∙◌, subst}
use mathlib.Core.Bool.{Bool, true, false, cond, true≢false}
use mathlib.Core.List.{List, [], ◌∷◌, ◌++◌}
use native.Mathlib.Omega.{arith}
use native.Mathlib.Decide.{dec_lt}
use lib.Dec.{eqb}
use lib.ListN.{length, take}
use borrow.Author.Tests.{eqb-true}
use Rattle.queue_entries.specs.Schedules.{run_by}
use Rattle.queue_schedules.proofs.Schedules.{schedule_odd, schedule_found, schedule_none, Ways, is_broken, is_odd, is_unread, is_read, way}
use Rattle.single_machine.specs.Broken.{broken_of}
use Rattle.single_machine.specs.Run.{ran, run_of}
use Rattle.single_machine.proofs.Turns.{single_queue}
use Rattle.single_rows.specs.Rows.{Words, machine_in}
use Rattle.single_rows.proofs.Standing.{same_words}
use Rattle.single_host.specs.Host.{reply, After, make_words, step_words_of, Ended, ended, ended_of, run_words}
use Rattle.single_proof_host.specs.Hosted.{face, left_by, taken_by, Under, Doing, stepping, running, done_by, left_by_all, ran_by, entries_of, entries_by, HostedMixed}
use Rattle.single_proof_host.proofs.Hosted.{Sound, sound_after, words_by, by_entries, refused_words, sound₀, hosted_throughout}

-- ---- entries one after another to the first refusal leave what the steps of those before it leave
abbrev Part : List ℕ → Words → ℕ → Ended → Type 0
Part s w i x = (i ≤ x.answer.number) × (x.words ≡ left_by face w (take (2 * (x.answer.number - i)) s))

at_once : (s : List ℕ) (w : Words) (i number : ℕ) → Part s w i (ended (reply number i) w)
unfolding left_by
at_once s w i number = let nought : 2 * (i - i) ≡ 0 = omega arith in (omega arith, ap (λ (k : ℕ). left_by face w (take k s)) (sym nought))

left_run : (s : List ℕ) (w : Words) (i : ℕ) → Sound w → Part s w i (words_by w i s)
unfolding run_by left_by
left_run [] w i so = at_once [] w i 0
left_run (first ∷ []) w i so = at_once (first ∷ []) w i 0
left_run (first ∷ second ∷ s) w i so = go (left_run s (step_words_of w first second).words (i + 1) (sound_after w so first second)) (eqb (step_words_of w first second).answer 0)
  where
    x : After
    x = step_words_of w first second

    two_more : (k : ℕ) → i + 1 ≤ k → 2 * (k - i) ≡ suc (suc (2 * (k - (i + 1))))
    two_more k h = omega (arith, h)

    go : Part s x.words (i + 1) (words_by x.words (i + 1) s) → (c : Bool) → Part (first ∷ second ∷ s) w i (cond c (words_by x.words (i + 1) s) (ended (reply x.answer i) w))
    go more true =
        let r = words_by x.words (i + 1) s in
        (omega (arith, more.0), more.1 ∙ ap (λ (k : ℕ). left_by face w (take k (first ∷ second ∷ s))) (sym (two_more r.answer.number more.0)))
    go more false = at_once (first ∷ second ∷ s) w i x.answer

even_take : (k : ℕ) (s : List ℕ) → length s % 2 ≡ 0 → length (take (2 * k) s) % 2 ≡ 0
even_take zero s e = refl
even_take (suc k) s e = subst (λ (j : ℕ). length (take j s) % 2 ≡ 0) (sym two) (go (even_take k) s e)
  where
    two : 2 * suc k ≡ suc (suc (2 * k))
    two = omega arith

    go : ((s : List ℕ) → length s % 2 ≡ 0 → length (take (2 * k) s) % 2 ≡ 0) → (s : List ℕ) → length s % 2 ≡ 0 → length (take (suc (suc (2 * k))) s) % 2 ≡ 0
    go less [] e = refl
    go less (first ∷ []) e = absurd (omega (arith, e))
    go less (first ∷ second ∷ rest) e = omega (arith, less rest (omega (arith, e)))

even_of : (n : ℕ) → (n % 2 ≡ 1 → ⊥) → n % 2 ≡ 0
even_of n o = go (dec_lt 0 (n % 2))
  where
    go : Dec (0 < n % 2) → n % 2 ≡ 0
    go (yes l) = absurd (o (omega (arith, l)))
    go (no l) = omega (arith, l)

-- ---- a schedule
module _ (w : Words) (so : Sound w) (s : List ℕ) where
  abbrev As : Ended → List ℕ → Type 0
  As x e = (x.words ≡ left_by face w e) × (length e % 2 ≡ 0)

  run_is : run_words w s ≡ ended_of (run_of (machine_in w) s)
  unfolding run_words
  run_is = ap (λ (b : Bool). cond b (ended_of (run_of (machine_in w) s)) (ended (reply 6 0) w)) so.stands

  read : run_words w s ≡ words_by w 0 s → length s % 2 ≡ 0 → (b : Bool) → eqb (run_words w s).answer.refusal 9 ≡ b → As (run_words w s) (cond b [] (take (2 * (run_words w s).answer.number) s))
  unfolding left_by
  read e even true h = (refused_words.unread w s (eqb-true (run_words w s).answer.refusal 9 h), refl)
  read e even false h =
      let same : (words_by w 0 s).answer.number - 0 ≡ (run_words w s).answer.number = omega (arith, ap (λ (x : Ended). x.answer.number) e) in
      (ap (λ (x : Ended). x.words) e ∙ (left_run s w 0 so).1 ∙ ap (λ (k : ℕ). left_by face w (take (2 * k) s)) same, even_take (run_words w s).answer.number s even)

  run_left : As (run_words w s) (ran_by (run_words w s) s)
  unfolding left_by ran
  run_left = go (way single_queue broken_of (machine_in w) s)
    where
      go : Ways single_queue broken_of (machine_in w) s → As (run_words w s) (ran_by (run_words w s) s)
      go (is_broken e) = absurd (true≢false (sym e ∙ so.unbroken))
      go (is_odd e o) =
          subst (λ (x : Ended). As x (ran_by x s)) (sym (run_is ∙ ap ended_of (schedule_odd single_queue broken_of (machine_in w) s e o))) (same_words w so.stands, refl)
      go (is_unread e o k h) =
          subst (λ (x : Ended). As x (ran_by x s)) (sym (run_is ∙ ap ended_of (schedule_found single_queue broken_of (machine_in w) s e o k h))) (same_words w so.stands, refl)
      go (is_read e o h) =
          read (run_is ∙ ap ended_of (schedule_none single_queue broken_of (machine_in w) s e o h) ∙ by_entries s w 0 so) (even_of (length s) o) (eqb (run_words w s).answer.refusal 9) refl

-- ---- any mixture
sound_left : (entries : List ℕ) (w : Words) → Sound w → Sound (left_by face w entries)
unfolding left_by
sound_left [] w so = so
sound_left (first ∷ []) w so = so
sound_left (first ∷ second ∷ rest) w so = sound_left rest (step_words_of w first second).words (sound_after w so first second)

left_on : (e f : List ℕ) (w : Words) → length e % 2 ≡ 0 → left_by face w (e ++ f) ≡ left_by face (left_by face w e) f
unfolding left_by
left_on [] f w h = refl
left_on (first ∷ []) f w h = absurd (omega (arith, h))
left_on (first ∷ second ∷ e) f w h = left_on e f (step_words_of w first second).words (omega (arith, h))

one_doing : (x : Doing) (w : Words) → Sound w → (done_by face w x ≡ left_by face w (entries_of face w x)) × (length (entries_of face w x) % 2 ≡ 0)
unfolding left_by
one_doing (stepping first second) w so = (refl, refl)
one_doing (running s) w so = run_left w so s

mixed : (doings : List Doing) (w : Words) → Sound w → left_by_all face w doings ≡ left_by face w (entries_by face w doings)
unfolding left_by_all entries_by left_by
mixed [] w so = refl
mixed (x ∷ rest) w so =
    let one = one_doing x w so in
    mixed rest (done_by face w x) (subst Sound (sym one.0) (sound_left (entries_of face w x) w so))
    ∙ ap (λ (z : Words). left_by face z (entries_by face (done_by face w x) rest)) one.0
    ∙ sym (left_on (entries_of face w x) (entries_by face (done_by face w x) rest) w one.1)

pub hosted_mixed : HostedMixed face
hosted_mixed w workers made doings =
    let w₀ = (make_words w workers).words in
    let entries = entries_by face w₀ doings in
    subst (λ (z : Words). Under workers (machine_in z) (taken_by face w₀ entries)) (sym (mixed doings w₀ (sound₀ w workers made))) (hosted_throughout w workers made entries)
